use Rattle.std.proofs.Common.{◌≡◌, List, IfOk, true, subst}
use Rattle.cw_types.specs.declared.event.Handed.{Handed}
use Rattle.cw_rules.specs.Step.{deliveries, nothing_came}
use Rattle.cw_rules.specs.declared.travel.Travel.TheVariants.{Chunked}
use Rattle.marshal.specs.Stored.{marshal_rules, marshal_state, notes_of}
use Rattle.node.specs.Store.{store_of}
use Rattle.node.specs.Store.{stored_rules, stored_state}
use Rattle.marshal.proofs.Applications.{any_deliveries}
use Rattle.node.proofs.store.Store.next_deliveries.Goals as goal

pub returns-clause-value : goal.returns-clause-value
returns-clause-value g c =
    let s = c.args.self.now.marshal in
    let same : deliveries (marshal_rules g.H.Hasher.digest_of s) (marshal_state s)
    ≡ deliveries (stored_rules g.H.Hasher.digest_of (store_of s)) (stored_state (store_of s)) =
    any_deliveries Chunked g.H.Hasher.digest_of s.epochs s.backlog (λ b a. true) (notes_of s)
    (marshal_state s).came nothing_came s.given in
    subst (λ (l : List Handed). IfOk c.next_deliveries.result (λ handed. handed.items ≡ l)) same
    c.next_deliveries.ensures.handed
