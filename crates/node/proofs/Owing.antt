-- The note that is owed, by its cases.
use Rattle.std.proofs.Common.{◌≡◌, ℕ, Bool, List, ◌∙◌, ap}
use Rattle.std.specs.Option.{option_or}
use Rattle.cw_base.specs.declared.hash.Digest32.{Digest32}
use Rattle.cw_types.specs.Block.{Block}
use Rattle.cw_rules.specs.Accepted.{first_some}
use Rattle.cw_rules.specs.Owed.{block_owed, cert_owed, certified_owed, named_proposals, named_votes, owed}
use Rattle.node.proofs.Arrivals.{first_map}
use Rattle.node.specs.Holding.{Holding, own_state, rules_of}
use Rattle.node.specs.Noting.{arrival_owed, last_owed}
use Rattle.node.specs.Standing.{PartsStand}
use Rattle.node.specs.declared.arrival.Arrival.{Arrival}

pub owed_as : {D A : Type 0} (hash : List ℕ → Digest32) (accepts : A → Block → Block → Bool)
    (h : Holding D A)
    → PartsStand hash accepts h
    → owed (rules_of hash accepts h) h.id (own_state h)
    ≡ option_or (first_some (arrival_owed (rules_of hash accepts h) (own_state h)) h.arrivals)
    (option_or
    (first_some (cert_owed (rules_of hash accepts h) h.id (own_state h))
    (named_votes (own_state h)))
    (option_or
    (first_some (certified_owed (rules_of hash accepts h) (own_state h))
    (named_proposals (own_state h)))
    (last_owed (rules_of hash accepts h) h.id (own_state h))))
owed_as hash accepts h s =
    let blocks =
    ap (first_some (block_owed (rules_of hash accepts h) (own_state h))) s.named
    ∙ first_map (block_owed (rules_of hash accepts h) (own_state h))
    (λ (a : Arrival). a.commitment) h.arrivals in
    λ i. option_or (blocks i)
    (option_or
    (first_some (cert_owed (rules_of hash accepts h) h.id (own_state h))
    (named_votes (own_state h)))
    (option_or
    (first_some (certified_owed (rules_of hash accepts h) (own_state h))
    (named_proposals (own_state h)))
    (last_owed (rules_of hash accepts h) h.id (own_state h))))
