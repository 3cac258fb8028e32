-- The disks of members, one by one.
use Rattle.std.proofs.Common.{◌≡◌, ℕ, zero, suc, List, [], ◌∷◌, Option, Some, Ok, Bool, length, slice_get, refl, sym, ◌∙◌, ap}
use Rattle.cw_types.specs.declared.note.Note.{Note}
use Rattle.cw_types.specs.declared.vote.Vote.{Vote}
use Rattle.cw_rules.specs.Rules.{Rules}
use Rattle.cw_rules.specs.Step.{Member, member_notes}
use Rattle.marshal.specs.Stored.{joined_notes, read_notes}
use Rattle.hail_world.specs.Reports.{HoldNotes}
use Rattle.run_light.specs.Finding.{first_shown}
use Rattle.run_light.specs.declared.search.Shown.{Shown}

-- the member of a disk
pub member_of : (members : List Member) (disks : List (List ℕ)) → HoldNotes members disks
    → (i : ℕ) (disk : List ℕ) → slice_get disks i ≡ Some disk
    → (m : Member) × (slice_get members i ≡ Some m) × (read_notes disk ≡ Ok (member_notes m))
member_of [] [] h i disk e = cc
member_of [] (d ∷ ds) h i disk e = absurd h
member_of (m ∷ ms) [] h i disk e = absurd h
member_of (m ∷ ms) (d ∷ ds) h zero disk e =
    let s : d ≡ disk = cc in (m, refl, ap read_notes (sym s) ∙ ap joined_notes h.0)
member_of (m ∷ ms) (d ∷ ds) h (suc i) disk e = member_of ms ds h.1 i disk e

-- there are as many
pub as_many : (members : List Member) (disks : List (List ℕ)) → HoldNotes members disks
    → length members ≡ length disks
as_many [] [] h = refl
as_many [] (d ∷ ds) h = absurd h
as_many (m ∷ ms) [] h = absurd h
as_many (m ∷ ms) (d ∷ ds) h = ap suc (as_many ms ds h.1)

-- what is found among the notes of a disk is found among the member's
pub at_member : (r : Rules) (sign : ℕ → Vote → Bool) (height : ℕ) (m : Member) (disk bytes : List ℕ)
    (notes slice : List Note) (found : Option Shown)
    → read_notes disk ≡ Ok (member_notes m) → bytes ≡ disk → read_notes bytes ≡ Ok notes
    → slice ≡ notes → found ≡ first_shown r sign height slice
    → first_shown r sign height (member_notes m) ≡ found
at_member r sign height m disk bytes notes slice found holds b reads s f =
    let e : Ok notes ≡ Ok (member_notes m) = sym reads ∙ (ap read_notes b ∙ holds) in
    let same : notes ≡ member_notes m = cc in
    sym (f ∙ ap (first_shown r sign height) (s ∙ same))
