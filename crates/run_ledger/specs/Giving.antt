-- What a replica is given, one height behind the other.
use Rattle.std.specs.Prelude.{ℕ, List, [], map, fold, slice_get}
use Rattle.std.specs.Option.{option_map_or}
use Rattle.cw_types.specs.Block.{Block}
use Rattle.cw_rules.specs.Report.{Report as Reported}
use Rattle.cw_ledger.specs.Ledger.{applied}
use Rattle.run_ledger.specs.Ledgers.{handed_to, reported_numbers}

-- the payloads once the link of a height was given
abbrev pub given_one : List Block → List (List ℕ) → ℕ → List (List ℕ)
given_one chain payloads height = option_map_or (applied payloads) (slice_get chain height) payloads

abbrev pub given_all : List Block → List (List ℕ) → List ℕ → List (List ℕ)
given_all chain payloads heights = fold (given_one chain) payloads heights

-- the payloads of a member's replica
abbrev pub replica_payloads : Reported → ℕ → List (List ℕ)
replica_payloads r member = given_all r.chain [] (handed_to r member)

-- so of each honest member, by number
abbrev pub all_replica_payloads : Reported → List (List (List ℕ))
all_replica_payloads r = map (replica_payloads r) (reported_numbers r)
