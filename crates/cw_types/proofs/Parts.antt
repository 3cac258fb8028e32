-- The part of a text in front of what is left of it.
use Rattle.std.proofs.Common.{◌≡◌, ◌∙◌, ℕ, ◌+◌, ◌-◌, List, ◌++◌, length, take, drop, ap, sym}
use Rattle.std.proofs.Common.{subst, arith, length-append}
use Rattle.std.proofs.Math.Seq.{drop-append_seam, take-append_seam}
use Rattle.std.specs.Prelude.{slice_range, ◌≤◌, nat_lt, Ok, Option, Some, None, IfSome}
use Rattle.std.proofs.lemmas.List.{take-append-drop}
use Rattle.cw_base.specs.Ends.{IsEnd}
use Rattle.cw_base.specs.Reading.{bytes_at}
use Rattle.cw_base.specs.declared.reader.CodecError.TheVariants.{EndOfBuffer}
use Rattle.cw_base.proofs.ReadingLaws.{guard_ok}

-- bytes behind those that were taken, and in front of more
part_behind : (taken bytes left : List ℕ) (start end : ℕ) → start ≡ length taken
    → end ≡ length taken + length bytes
    → slice_range (taken ++ (bytes ++ left)) start end ≡ bytes
part_behind taken bytes left start end s e =
    ap (λ k. take (end - start) (drop k (taken ++ (bytes ++ left)))) s
    ∙ (ap (take (end - start)) (drop-append_seam taken (bytes ++ left))
    ∙ (ap (λ k. take k (bytes ++ left)) (omega (arith, s, e)) ∙ take-append_seam bytes left))

-- how long a text is that ends so
pub length_of_end : (text bytes left : List ℕ) → (at : IsEnd text (bytes ++ left))
    → length text ≡ length at.taken + (length bytes + length left)
length_of_end text bytes left at =
    omega (
      arith,
      ap length at.parts,
      length-append at.taken (bytes ++ left),
      length-append bytes left,
    )

-- the part that these bytes are
pub part_of_end : (text bytes left : List ℕ) → IsEnd text (bytes ++ left) → (end : ℕ)
    → end ≡ length text - length left
    → slice_range text (end - length bytes) end ≡ bytes
part_of_end text bytes left at end e =
    let long = length_of_end text bytes left at in
    ap (λ xs. slice_range xs (end - length bytes) end) at.parts
    ∙ part_behind at.taken bytes left (end - length bytes) end (omega (arith, long, e))
    (omega (arith, long, e))

-- what is left, and the bytes before it, are no longer than the text
pub fits_before : (text bytes left : List ℕ) → IsEnd text (bytes ++ left)
    → length bytes + length left ≤ length text
fits_before text bytes left at = omega (arith, length_of_end text bytes left at)

-- what was taken stands in front of what is left
front_and_rest : (n : ℕ) (bytes part rest : List ℕ) → bytes_at n bytes ≡ Ok (part, rest)
    → bytes ≡ part ++ rest
front_and_rest n bytes part rest e =
    let g =
    guard_ok (nat_lt (length bytes) n) (EndOfBuffer, bytes) (take n bytes, drop n bytes)
    (part, rest) e in
    let first : take n bytes ≡ part = ap (λ (p : List ℕ × List ℕ). p.0) g.1 in
    let second : drop n bytes ≡ rest = ap (λ (p : List ℕ × List ℕ). p.1) g.1 in
    rw (← first) (rw (← second) (sym (take-append-drop n bytes)))

-- a part that was taken of the end of a text, and what is left behind it
pub taken_of_end : (n : ℕ) (text bytes part rest : List ℕ) → IsEnd text bytes
    → bytes_at n bytes ≡ Ok (part, rest) → IsEnd text (part ++ rest)
taken_of_end n text bytes part rest at e =
    subst (λ xs. IsEnd text xs) (front_and_rest n bytes part rest e) at

-- what follows of a value that is there
pub if_some_then : {X : Type 0} (found : Option X) (P Q : X → Type 0) → IfSome found P
    → ((x : X) → P x → Q x) → IfSome found Q
if_some_then (Some x) P Q p f = f x p
if_some_then None P Q p f = tt
