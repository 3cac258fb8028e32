use Rattle.std.proofs.Common.{◌∙◌, ◌++◌, List, ap, drop}
use Rattle.std.specs.List.{flat_map}
use Rattle.cw_types.specs.declared.event.Out.{Out}
use Rattle.cw_rules.specs.Sends.{answer, missing, note_sends, own_chunk}
use Rattle.node.specs.Asking.{asks}
use Rattle.node.specs.Holding.{Holding, own_state, rules_of}
use Rattle.node.specs.Store.{stored_notes}
use Rattle.node.proofs.Leading.{rest_is}
use Rattle.node.proofs.holding.Holding.sends.Goals as goal

pub returns-clause-out : goal.returns-clause-out
returns-clause-out g c = λ old is on.
    let h = c.args.self.now in
    let r = rules_of g.H.Hasher.digest_of g.A.Application.accepts h in
    let all = stored_notes h.store in
    let ev = c.args.event.now in
    let n = c.args.before.now.notes in
    let each = flat_map (note_sends r h.id all) in
    let asked = asks h.id (missing r (own_state h)) (missing r old) in
    let last = answer r h.id all ev in
    let notes =
    c.notes.ensures.value
    ∙ ap (λ (k : Holding g.row.D.Denot g.row.A.Denot). stored_notes k.store) c.self.view_is in
    let first =
    c.in_ok-out.ensures ∙ ap each (rest_is c.notes.result.now n ∙ ap (drop n) notes) in
    let second =
    c.in_ok-put_own.ensures old.came is.brought
    ∙ (λ i. first i ++ own_chunk r h.id (is.epoch i) old.came ev) in
    let third =
    c.in_ok-put_missing.ensures.asked old on is.notes is.height
    ∙ ap (λ (l : List Out). l ++ asked) second in
    c.in_ok-put_answer.ensures ∙ ap (λ (l : List Out). l ++ last) third
