use Rattle.std.proofs.Common.{◌∙◌, ap, true, ◌++◌, map}
use Rattle.cw_rules.specs.Step.{deliveries, nothing_came}
use Rattle.cw_rules_coded.specs.Coded.{coded}
use Rattle.cw_types.specs.declared.event.Handed.{Handed}
use Rattle.node.proofs.Stepping.{stands_handed}
use Rattle.marshal.proofs.Applications.{any_deliveries}
use Rattle.node.specs.Holding.{Holding, came_of, own_state, rules_of}
use Rattle.node.specs.Store.{stored_notes, stored_rules, stored_state}
use Rattle.node.proofs.holding.Holding.hand_out.Goals as goal

pub returns-clause-value : goal.returns-clause-value
returns-clause-value g c =
    let h = c.args.self.now in
    let hash = g.H.Hasher.digest_of in
    let s = c.requires.stands in
    let same =
    ap
    (λ (k : Holding g.row.D.Denot g.row.A.Denot). deliveries (stored_rules hash k.store)
    (stored_state k.store))
    c.self.view_is in
    c.in_ok-handed.ensures.value
    ∙ (same
    ∙ ((λ i. deliveries (coded hash (s.epochs i) (s.backlog i) (λ b a. true))
    (stored_state h.store))
    ∙ any_deliveries h.travel hash h.epochs h.backlog (g.A.Application.accepts h.app)
    (stored_notes h.store) nothing_came (came_of h) h.store.given))

pub returns-clause-stands : goal.returns-clause-stands
returns-clause-stands g c =
    let h = c.args.self.now in
    let hash = g.H.Hasher.digest_of in
    let accepts = g.A.Application.accepts in
    let e = c.self.view_is in
    let t =
    c.in_ok-handed.ensures.given
    ∙ (λ i. record (e i).store {
      given =
          (e i).store.given
          ++ map (λ (x : Handed). x.height) c.in_ok-handed.handed.items;
    }) in
    let l =
    c.in_ok-handed.ensures.log ∙ ap (λ (k : Holding g.row.D.Denot g.row.A.Denot). k.log) e in
    stands_handed hash accepts h _ c.in_ok-handed.handed.items c.requires.stands
    (c.standing_is_kept.ensures.handed hash h.tally (rules_of hash accepts h) (own_state h)
    c.requires.stands.tally c.in_ok-handed.handed.items)
    (λ i. record (e i) { store = t i; log = l i })
