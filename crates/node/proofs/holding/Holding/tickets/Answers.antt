use Rattle.std.proofs.Common.{◌∙◌, ap, ◌++◌, List, filter_map, true}
use Rattle.cw_types.specs.declared.event.TicketOut.{TicketOut}
use Rattle.cw_rules.specs.Step.{served, ticket_given, ticketed, unserved}
use Rattle.cw_rules_coded.specs.Coded.{coded}
use Rattle.marshal.proofs.Applications.{any_served, any_unserved}
use Rattle.node.specs.Holding.{Holding}
use Rattle.node.specs.Store.{stored_notes, stored_rules}
use Rattle.node.proofs.holding.Holding.tickets.Goals as goal

pub returns-clause-ok : goal.returns-clause-ok
returns-clause-ok g c =
    let now = c.args.self.now in
    let hash = g.H.Hasher.digest_of in
    let s = c.requires.stands in
    let all = stored_notes now.store in
    let after = ticketed now.store.tickets c.args.event.now in
    let e = c.self.view_is ∙ c.in_ok-put_ticket.ensures.ok in
    let t =
    c.in_ok-served.ensures.ok
    ∙ ((λ i. record (e i).store {
      tickets =
          unserved (stored_rules hash (e i).store) (stored_notes (e i).store)
          (e i).store.tickets;
    })
    ∙ ((λ i. record now.store
    { tickets = unserved (coded hash (s.epochs i) (s.backlog i) (λ b a. true)) all after })
    ∙ (λ i. record now.store {
      tickets =
          any_unserved now.travel hash now.epochs now.backlog (g.A.Application.accepts now.app)
          all after i;
    }))) in
    let l =
    c.in_ok-served.ensures.log ∙ ap (λ (k : Holding g.row.D.Denot g.row.A.Denot). k.log) e in
    λ i. record (e i) { store = t i; log = l i }

pub returns-clause-out : goal.returns-clause-out
returns-clause-out g c =
    let now = c.args.self.now in
    let hash = g.H.Hasher.digest_of in
    let s = c.requires.stands in
    let all = stored_notes now.store in
    let after = ticketed now.store.tickets c.args.event.now in
    let e = c.self.view_is ∙ c.in_ok-put_ticket.ensures.ok in
    let a =
    c.in_ok-put_ticket.ensures.out
    ∙ ap (λ (l : List TicketOut). l ++ ticket_given now.store.tickets c.args.event.now)
    c.new-out.ensures.items in
    let b =
    c.deref.ensures.value
    ∙ (c.in_ok-served.ensures.value
    ∙ ((λ i. filter_map (served (stored_rules hash (e i).store) (stored_notes (e i).store))
    (e i).store.tickets.waiting)
    ∙ ((λ i. filter_map (served (coded hash (s.epochs i) (s.backlog i) (λ b a. true)) all)
    after.waiting)
    ∙ (λ i. filter_map
    (λ x. any_served now.travel hash now.epochs now.backlog (g.A.Application.accepts now.app)
    all x i)
    after.waiting)))) in
    c.in_ok-put_served.ensures ∙ (λ i. a i ++ b i)
