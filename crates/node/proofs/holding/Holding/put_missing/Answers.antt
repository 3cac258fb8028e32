use Rattle.std.proofs.Common.{◌∙◌, ◌||◌, ◌++◌, ◌∷◌, [], ℕ, List, ap, drop, filter, map}
use Rattle.std.specs.List.{filter_map, list_any}
use Rattle.cw_types.specs.Same.{same_commitment}
use Rattle.cw_types.specs.declared.commitment.Commitment.{Commitment}
use Rattle.cw_types.specs.declared.message.Message.{Message}
use Rattle.cw_rules.specs.Held.{next}
use Rattle.cw_rules.specs.Rules.{genesis_commitment}
use Rattle.cw_rules.specs.Sends as rule
use Rattle.node.specs.Holding.{Holding, own_state, rules_of}
use Rattle.node.specs.Leading.{is_led, is_new, lead_at}
use Rattle.node.specs.Store.{stored_notes}
use Rattle.node.specs.declared.leads.Lead.{Lead}
use Rattle.node.proofs.Leading.{asked_once, led_since_all, rest_is}
use Rattle.node.proofs.holding.Holding.put_missing.Goals as goal

pub returns-clause-asked : goal.returns-clause-asked
returns-clause-asked g c = λ old on place from.
    let h = c.args.self.now in
    let r = rules_of g.H.Hasher.digest_of g.A.Application.accepts h in
    let notes = stored_notes h.store in
    let entries = c.args.leads.now.led.entries in
    let all_notes =
    c.notes.ensures.value
    ∙ ap (λ (k : Holding g.row.D.Denot g.row.A.Denot). stored_notes k.store) c.self.view_is in
    let led =
    λ (k : ℕ). c.in_ok-led.ensures k
    ∙ ap (filter_map (rule.leads r notes k))
    (rest_is c.notes.result.now c.args.place ∙ ap (drop c.args.place) all_notes) in
    let new =
    c.in_ok-new.ensures
    ∙ ap
    (λ (l : List Lead). filter (is_new notes entries c.args.height)
    (filter_map (lead_at (next (own_state h))) l))
    c.deref.ensures.value in
    let all =
    c.deref-3.ensures.value
    ∙ (c.in_ok-asked.ensures
    ∙ (ap (rule.once (genesis_commitment r ∷ [])) c.deref-2.ensures.value
    ∙ asked_once r old (own_state h) entries on c.args.place c.in_ok-led.led.items place led
    c.args.height c.in_ok-new.new.items from new)) in
    c.in_ok-put_asks.ensures
    ∙ ap
    (λ (l : List Commitment). c.args.out.now.items
    ++ map (λ x. rule.to_all (Message.Ask h.id x)) l)
    all

pub returns-clause-led : goal.returns-clause-led
returns-clause-led g c = λ old on place.
    let h = c.args.self.now in
    let r = rules_of g.H.Hasher.digest_of g.A.Application.accepts h in
    let notes = stored_notes h.store in
    let entries = c.args.leads.now.led.entries in
    let all_notes =
    c.notes.ensures.value
    ∙ ap (λ (k : Holding g.row.D.Denot g.row.A.Denot). stored_notes k.store) c.self.view_is in
    let led =
    λ (k : ℕ). c.in_ok-led.ensures k
    ∙ ap (filter_map (rule.leads r notes k))
    (rest_is c.notes.result.now c.args.place ∙ ap (drop c.args.place) all_notes) in
    led_since_all r old (own_state h) entries on c.args.place c.in_ok-led.led.items place led
    c.add_all.new.self.led.entries
    (λ x k. c.in_ok-add_all.ensures x k
    ∙ ap
    (λ (l : List Lead). is_led entries k x
    || list_any (same_commitment x) (filter_map (lead_at k) l))
    c.deref-4.ensures.value)
