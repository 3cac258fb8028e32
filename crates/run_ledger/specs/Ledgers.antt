-- What the replicas hold at the end of a run.
use Rattle.std.specs.Prelude.{◌≡◌, ◌<◌, ℕ, ◌==◌, ◌++◌, List, [], ◌∷◌, length, map, take, Bool, false, true, if◌then◌else◌}
use Rattle.std.specs.List.{AllByRecursion, flat_map}
use Rattle.std.specs.Option.{option_map_or}
use Rattle.cw_base.specs.declared.hash.Digest32.{Digest32}
use Rattle.cw_types.specs.Block.{Block}
use Rattle.cw_rules.specs.Reached.{In}
use Rattle.cw_rules.specs.Report.{Entry, Report as Reported}
use Rattle.node_disk.specs.Memory.{MemoryState, is_calm}
use Rattle.cw_ledger.specs.Ledger.{Ledger}
use Rattle.node.specs.declared.way.Chunked.{Chunked}
use Rattle.cw_rules.specs.declared.travel.Travel.TheVariants as travel
use Rattle.hail_world.specs.declared.report.Report.{Report}
use Rattle.hail_world.specs.Reports.{IsReport, shown_report}
use Rattle.run_ledger.specs.Text.{ledger_text}

-- the entry is of the member
abbrev pub is_entry_of : ℕ → Entry → Bool
is_entry_of member e = option_map_or (λ m. m == member) e.member false

-- the heights that an entry hands out to a member
abbrev pub handed_by : ℕ → Entry → List ℕ
handed_by member e = if is_entry_of member e then map (λ h. h.height) e.handed else []

abbrev pub handed_in_entries : ℕ → List Entry → List ℕ
handed_in_entries member entries = flat_map (handed_by member) entries

-- the heights that were handed out to a member, in the report's order
abbrev pub handed_to : Reported → ℕ → List ℕ
handed_to r member = handed_in_entries member (r.opening ++ r.steps)

-- The payloads of a member's replica: those of the links of heights 0 to H, the greatest height
-- such that all of these were handed out to it.
pub record IsLedgerOf (chain : List Block) (heights : List ℕ)
    (payloads : List (List ℕ)) : Type 0 where
  pub links : payloads ≡ map (λ b. b.payload) (take (length payloads) chain)
  pub all_handed : (height : ℕ) → height < length payloads → In height heights
  pub no_more : In (length payloads) heights → ⊥

-- so for each of these members
abbrev pub AreLedgers : Reported → List ℕ → List (Ledger MemoryState) → Type 0
AreLedgers r [] [] = Unit {0}
AreLedgers r (member ∷ members) (ledger ∷ ledgers) =
    IsLedgerOf r.chain (handed_to r member) ledger.payloads × AreLedgers r members ledgers
AreLedgers r _ _ = ⊥

-- the numbers of the honest members
abbrev pub reported_numbers : Reported → List ℕ
reported_numbers r = map (λ a. a.member) r.acked

-- no call of the replica is refused but for memory: no earlier call left its disk in doubt, and no
-- call of the disk fails
abbrev pub NeverFails : Ledger MemoryState → Type 0
NeverFails r = (r.failed ≡ false) × (is_calm r.disk ≡ true)

-- What is handed back and written of a script of this text: the report of its run, the replica of
-- each honest member, none of which has failed, and the lines of these.
pub record AreDone {H : Type 0} (hash : List ℕ → Digest32) (text : List ℕ)
    (done : Report H Chunked × List (Ledger MemoryState)) (due : List ℕ) : Type 0 where
  pub report : IsReport travel.Chunked hash text done.0
  pub ledgers : AreLedgers (shown_report done.0) (reported_numbers (shown_report done.0)) done.1
  pub whole : AllByRecursion NeverFails done.1
  pub lines : due
      ≡ ledger_text (reported_numbers (shown_report done.0)) (map (λ r. r.payloads) done.1)
