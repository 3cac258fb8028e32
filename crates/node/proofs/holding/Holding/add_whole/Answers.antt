use Rattle.std.proofs.Common.{◌∙◌, ap, ◌++◌, ◌∷◌, [], Some, true}
use Rattle.cw_types.specs.declared.commitment.Commitment.{Commitment}
use Rattle.cw_types.specs.declared.event.Event.TheVariants as event
use Rattle.cw_types.specs.declared.message.Message.TheVariants as message
use Rattle.node.proofs.Accepting.{came_whole}
use Rattle.node.specs.Holding.{Holding, came_of, cut_rules, own_state, rules_of}
use Rattle.node.specs.declared.arrival.Arrival.{Arrival}
use Rattle.node.proofs.holding.Holding.add_whole.Goals as goal

pub returns-clause-ok : goal.returns-clause-ok
returns-clause-ok g c =
    let h = c.args.self.now in
    let hash = g.H.Hasher.digest_of in
    let r = rules_of hash g.A.Application.accepts h in
    let e = c.self.view_is in
    let arrival =
    λ (m : Commitment). let a : Arrival = record {
      commitment = m;
      block = Some c.args.block;
    } in
    a in
    let t =
    c.in_ok-push.ensures.ok
    ∙ (ap
    (λ (k : Holding g.row.D.Denot g.row.A.Denot). k.arrivals
    ++ arrival c.args.commitment ∷ [])
    e
    ∙ ap (λ (m : Commitment). h.arrivals ++ arrival m ∷ []) c.requires.commitment) in
    came_whole hash g.A.Application.accepts h _ c.args.block c.requires.stands c.requires.new
    (c.standing_is_kept.ensures.whole_block hash h.tally r (own_state h) c.requires.stands.tally
    c.args.block)
    (c.shards_stand.ensures.events hash h.shards (cut_rules hash g.A.Application.accepts h)
    (came_of h) c.requires.stands.shards
    (λ i v. true) (event.Deliver (message.Block c.args.block)))
    (λ i. record (e i) { arrivals = t i })
