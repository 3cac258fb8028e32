-- What members come to, by which lines.
use Rattle.std.specs.Prelude.{ℕ, ◌≡◌, ◌≤◌, Bool, IsTrue, List, Some, false, true}
use Rattle.std.specs.List.{AllByRecursion}
use Rattle.cw_types.specs.Block.{Block}
use Rattle.cw_types.specs.declared.commitment.Commitment.{Commitment}
use Rattle.cw_types.specs.declared.note.Note.{Note}
use Rattle.cw_types.specs.declared.vote.Proposal.{Proposal}
use Rattle.cw_types.specs.declared.vote.Vote.TheVariants.{Finalize}
use Rattle.cw_rules.specs.Chains.{Clashes, outcome}
use Rattle.cw_rules.specs.Held.{held}
use Rattle.cw_rules.specs.Notes.{has_cert, settled}
use Rattle.cw_rules.specs.Rules.{Rules, genesis_commitment}
use Rattle.cw_rules.specs.Step.{Member, member_notes}
use Rattle.cw_rules.specs.World.{Ask, Do, Faulty, Line, World, member_at, run}
use Rattle.cw_progress.specs.Tops.{final_top}

-- the line is of no faulty member
abbrev pub is_honest_line : Line → Bool
is_honest_line (Faulty i fault) = false
is_honest_line _ = true

-- the line delivers a message
abbrev pub is_delivery : Line → Bool
is_delivery (Do i (Ask.Deliver number)) = true
is_delivery _ = false

-- the line delivers a message, or lets a timer run out
abbrev pub is_delivery_or_timeout : Line → Bool
is_delivery_or_timeout (Do i (Ask.Timeout view)) = true
is_delivery_or_timeout line = is_delivery line

-- such lines alone bring the member, which is live then, to notes that pass the test
pub record ComesTo (r : Rules) (w : World) (i : ℕ) (allowed : Line → Bool)
    (test : List Note → Bool) : Type 0 where
  pub lines : List Line
  pub are : AllByRecursion (λ line. IsTrue (allowed line)) lines
  pub after : Member
  pub there : member_at (run r w lines) i ≡ Some after
  pub live : IsTrue after.live
  pub passes : IsTrue (test (member_notes after))

-- such lines alone end in a clash: two different blocks of one digest turn up
pub record ComesToClash (r : Rules) (w : World) (allowed : Line → Bool) : Type 0 where
  pub lines : List Line
  pub are : AllByRecursion (λ line. IsTrue (allowed line)) lines
  pub earlier : List ℕ
  pub later : List ℕ
  pub ends : outcome r w lines ≡ Clashes earlier later

-- ---- where one lags

-- a block that what comes in later views of the epoch is built on: what theirs hold where the epoch
-- begins, or what ours hold and know to be final in that view
pub data IsBase (r : Rules) (ours theirs : List Note) (epoch view : ℕ) (a : Block) : Type 0 where
  Begun : view ≡ 0 → (c : Commitment)
      → settled (genesis_commitment r) theirs epoch view ≡ Some c → held r theirs c ≡ Some a
      → IsBase r ours theirs epoch view a
  Final : (p : Proposal) → IsTrue (has_cert ours (Finalize p)) → p.epoch ≡ epoch
      → p.view ≡ view → held r ours p.payload ≡ Some a → IsBase r ours theirs epoch view a

-- the notes tell of no finalization in a later view of the epoch, nor of a higher final block
abbrev pub KnowsNoLater : Rules → List Note → ℕ → ℕ → ℕ → Type 0
KnowsNoLater r notes epoch view height =
    ((p : Proposal) → IsTrue (has_cert notes (Finalize p)) → p.epoch ≡ epoch → p.view ≤ view)
    × (final_top r notes ≤ height)
