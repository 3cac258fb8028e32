-- Frames that are read as records, one behind the other.
use Rattle.std.proofs.Common.{◌≡◌, ℕ, zero, suc, ◌+◌, Bool, true, false, List, [], ◌∷◌, ◌++◌, length, take, drop, Option, None, Some, Result, Ok, Err, if◌then◌else◌, refl, sym, ◌∙◌, ap, subst, add-one, arith}
use Rattle.std.specs.List.{slice_get}
use Rattle.std.proofs.lemmas.List.{drop_all, take_all}
use Rattle.std.proofs.lemmas.Option.{same_Some}
use Rattle.node_disk.specs.Bytes.{are_all}
use Rattle.node_disk.specs.Frames.{read_log, Finds}
use Rattle.node_disk.specs.Records.{first_refused, refused_place}
use Rattle.node_disk.proofs.Lists.{at_place}

-- so many stand before a place
taken : (frames : List (List ℕ)) (index : ℕ) (frame : List ℕ) → slice_get frames index ≡ Some frame
    → length (take index frames) ≡ index
taken [] index frame at = absurd cc
taken (f ∷ frames) zero frame at = refl
taken (f ∷ frames) (suc index) frame at = ap suc (taken frames index frame at)

module _ (is_record : ℕ → List ℕ → Bool) (frames : List (List ℕ)) where
  -- the frames before this one are records
  pub record AreRead (place index : ℕ) : Type 0 where
    pub so : first_refused is_record 0 0 frames
        ≡ first_refused is_record place index (drop index frames)

  next_is : (place index : ℕ) (frame : List ℕ) → slice_get frames index ≡ Some frame
      → first_refused is_record place index (drop index frames)
      ≡ (if is_record index frame
      then first_refused is_record (place + 9 + length frame) (index + 1) (drop (suc index) frames)
      else Some place)
  next_is place index frame at =
      ap (first_refused is_record place index) ((at_place frames index frame at).0)

  pub reads_on : (place index next : ℕ) (frame : List ℕ) → AreRead place index
      → slice_get frames index ≡ Some frame → is_record index frame ≡ true
      → next ≡ place + 9 + length frame → AreRead next (index + 1)
  reads_on place index next frame are at is on = record {
    so = rw (on, add-one index)
        (are.so ∙ next_is place index frame at
        ∙ ap
        (λ b. if b
        then first_refused is_record (place + 9 + length frame) (index + 1) (drop (suc index) frames)
        else Some place)
        is
        ∙ ap
        (λ n. first_refused is_record (place + 9 + length frame) n (drop (suc index) frames))
        (add-one index));
  }

  pub refuses : (place index : ℕ) (frame : List ℕ) → AreRead place index
      → slice_get frames index ≡ Some frame → is_record index frame ≡ false
      → first_refused is_record 0 0 frames ≡ Some place
  refuses place index frame are at is =
      are.so ∙ next_is place index frame at
      ∙ ap
      (λ b. if b
      then first_refused is_record (place + 9 + length frame) (index + 1) (drop (suc index) frames)
      else Some place)
      is

  pub none_refused : (place index : ℕ) → AreRead place index → index ≡ length frames
      → first_refused is_record 0 0 frames ≡ None
  none_refused place index are at_end =
      are.so
      ∙ ap (first_refused is_record place index) (drop_all index frames (omega (arith, at_end)))

  pub told_at : (index : ℕ) (frame : List ℕ) (told : Bool) → slice_get frames index ≡ Some frame
      → is_record (length (take index frames)) frame ≡ told → is_record index frame ≡ told
  told_at index frame told at is =
      subst (λ (n : ℕ). is_record n frame ≡ told) (taken frames index frame at) is

-- one frame more is read
pub one_behind : (frames : List (List ℕ)) (index : ℕ) (frame : List ℕ)
    → slice_get frames index ≡ Some frame → take index frames ++ frame ∷ [] ≡ take (index + 1) frames
one_behind frames index frame at = rw (add-one index) (sym ((at_place frames index frame at).1))

-- and at the end all are
pub all_read : (frames : List (List ℕ)) (index : ℕ) → index ≡ length frames
    → take index frames ≡ frames
all_read frames index at_end = take_all index frames (omega (arith, at_end))

-- what is refused of bytes whose frames were found
pub refused_of : (is_record : ℕ → List ℕ → Bool) (frames : List (List ℕ)) (bytes : List ℕ)
    (refused : Option ℕ)
    → Finds frames bytes → first_refused is_record 0 0 frames ≡ refused
    → refused_place is_record (read_log bytes) ≡ refused
refused_of is_record frames bytes refused finds is = ap (refused_place is_record) finds ∙ is

-- where each frame is a record, only a cut one is refused
pub cut_only : (bytes : List ℕ) (place : ℕ) → refused_place are_all (read_log bytes) ≡ Some place
    → read_log bytes ≡ Err place
cut_only bytes place refused = go (read_log bytes) refl refused
  where
    none : (at number : ℕ) (frames : List (List ℕ)) → first_refused are_all at number frames ≡ None
    none at number [] = refl
    none at number (f ∷ frames) = none (at + 9 + length f) (number + 1) frames

    go : (r : Result (List (List ℕ)) ℕ) → read_log bytes ≡ r
        → refused_place are_all r ≡ Some place → read_log bytes ≡ Err place
    go (Ok frames) is so =
        absurd (let no : ◌≡◌ {A = Option ℕ} None (Some place) = sym (none 0 0 frames) ∙ so in cc)
    go (Err p) is so = is ∙ ap (λ n. Err n) (same_Some p place so)
