-- Reading a log's bytes, frame by frame.
use Rattle.std.proofs.Common.{◌≡◌, inl, inr, ℕ, zero, suc, ◌+◌, ◌-◌, ◌^◌, ◌<◌, ◌≤◌, List, [], ◌∷◌, ◌++◌, length, take, drop, get_or, Err, true, refl, sym, ◌∙◌, ap, subst, arith, length-append, length-take, length-drop, take-append-drop}
use Rattle.std.proofs.lemmas.List.{drop_more, get_or-take, get_or-drop, get_or_past}
use Rattle.std.proofs.lemmas.Bool.{cases_lt}
use Rattle.std.proofs.lemmas.Nat.{be_bytes_8}
use Rattle.std.specs.Int.{w64, from_be_bytes}
use Rattle.cw_base.specs.Bytes.{be64}
use Rattle.node_disk.specs.Frames.{count_of, with_front, walk, read_log, body, blocks, all_short}
use Rattle.node_disk.proofs.Walks.{length-body, walk_cut, walk_blocks, short_push}
use Rattle.node_disk.proofs.AtRest.{read_long, blocks-push}

-- the bytes before this place are these frames
pub record IsReadTo (frames : List (List ℕ)) (at : ℕ) (bytes : List ℕ) : Type 0 where
  pub front : take at bytes ≡ blocks frames
  pub place : at ≡ length (blocks frames)
  pub inside : at < length bytes
  pub short : all_short frames ≡ true

take_add : (m n : ℕ) (l : List ℕ) → take (m + n) l ≡ take m l ++ take n (drop m l)
take_add zero n l = ap (λ (k : ℕ). take k l) (let e : 0 + n ≡ n = omega arith in e)
take_add (suc m) n [] = nothing (suc m + n) ∙ sym (nothing n)
  where
    nothing : (k : ℕ) → take {A = ℕ} k [] ≡ []
    nothing zero = refl
    nothing (suc k) = refl
take_add (suc m) n (x ∷ l) =
    ap (λ (k : ℕ). take k (x ∷ l)) (let e : suc m + n ≡ suc (m + n) = omega arith in e)
    ∙ ap (λ (t : List ℕ). x ∷ t) (take_add m n l)

-- the eight bytes are those of the number that they say
be64_again : (bytes : List ℕ) → 8 ≤ length bytes → ((i : ℕ) → get_or bytes i 0 < 256)
    → be64 (count_of bytes) ≡ take 8 bytes
unfolding be64 count_of
be64_again bytes long small =
    be_bytes_8 (take 8 bytes) (from_be_bytes w64 (take 8 bytes))
    (omega (arith, length-take 8 bytes)) (λ i. each i) refl
  where
    each : (i : ℕ) → get_or (take 8 bytes) i 0 < 256
    each i = elim (cases_lt i 8) [
      | inl below ↦ let same : get_or (take 8 bytes) i 0 ≡ get_or bytes i 0 =
          get_or-take 8 bytes i 0 below in omega (arith, small i)
      | inr past ↦ let none : get_or (take 8 bytes) i 0 ≡ 0 =
          get_or_past (take 8 bytes) i 0 (omega (arith, length-take 8 bytes)) in omega arith
    ]

pub reads_one : (frames : List (List ℕ)) (at : ℕ) (bytes rest frame : List ℕ)
    → rest ≡ drop (at + 1) bytes → IsReadTo frames at bytes → get_or bytes at 0 ≡ 1
    → ((i : ℕ) → get_or bytes i 0 < 256) → length frame < 2 ^ 64 → 8 + count_of rest < length rest
    → frame ≡ take (count_of rest) (drop 8 rest)
    → IsReadTo (frames ++ frame ∷ []) (at + (9 + length frame)) bytes
reads_one frames at bytes rest frame from is one small fits lt same =
    let long : length rest ≡ length bytes - (at + 1) =
    omega (arith, ap length from, length-drop (at + 1) bytes) in
    let size : length frame ≡ count_of rest =
    omega (
      arith,
      ap length same,
      length-take (count_of rest) (drop 8 rest),
      length-drop 8 rest,
    ) in
    let each : (i : ℕ) → get_or rest i 0 < 256 =
    λ i. subst (λ (n : ℕ). n < 256)
    (sym (ap (λ (l : List ℕ). get_or l i 0) from ∙ get_or-drop (at + 1) bytes i 0))
    (small (at + 1 + i)) in
    let head : be64 (length frame) ≡ take 8 rest =
    ap be64 size ∙ be64_again rest (omega arith) each in
    let behind : take (8 + length frame) rest ≡ body frame =
    take_add 8 (length frame) rest
    ∙ ap (λ (l : List ℕ). l ++ take (length frame) (drop 8 rest)) (sym head)
    ∙ ap (λ (l : List ℕ). be64 (length frame) ++ l)
    (ap (λ (n : ℕ). take n (drop 8 rest)) size ∙ sym same) in
    let gate : drop at bytes ≡ 1 ∷ rest =
    drop_more bytes at 0 is.inside ∙ ap (λ (x : ℕ). x ∷ drop (at + 1) bytes) one
    ∙ ap (λ (l : List ℕ). 1 ∷ l) (sym from) in
    let nine : 9 + length frame ≡ suc (8 + length frame) = omega arith in
    let step : take (9 + length frame) (drop at bytes) ≡ 1 ∷ body frame =
    ap (λ (l : List ℕ). take (9 + length frame) l) gate ∙ ap (λ (k : ℕ). take k (1 ∷ rest)) nine
    ∙ ap (λ (l : List ℕ). 1 ∷ l) behind in
    let push = blocks-push frames frame in
    record {
      front =
          take_add at (9 + length frame) bytes
          ∙ ap (λ (l : List ℕ). l ++ take (9 + length frame) (drop at bytes)) is.front
          ∙ ap (λ (l : List ℕ). blocks frames ++ l) step ∙ sym push;
      place =
          omega (
            arith,
            is.place,
            ap length push,
            length-append (blocks frames) (1 ∷ body frame),
            length-body frame,
          );
      inside = omega (arith, is.inside);
      short = short_push frames frame is.short fits;
    }

-- the frame behind an open gate is cut
pub reads_cut : (frames : List (List ℕ)) (at : ℕ) (bytes rest : List ℕ) → rest ≡ drop (at + 1) bytes
    → 2 ≤ length bytes → IsReadTo frames at bytes → get_or bytes at 0 ≡ 1
    → length rest ≤ 8 + count_of rest → read_log bytes ≡ Err at
reads_cut frames at bytes rest from two is one cut =
    let gate : drop at bytes ≡ 1 ∷ rest =
    drop_more bytes at 0 is.inside ∙ ap (λ (x : ℕ). x ∷ drop (at + 1) bytes) one
    ∙ ap (λ (l : List ℕ). 1 ∷ l) (sym from) in
    let whole : bytes ≡ blocks frames ++ (1 ∷ rest) =
    sym (take-append-drop at bytes) ∙ ap (λ (l : List ℕ). l ++ drop at bytes) is.front
    ∙ ap (λ (l : List ℕ). blocks frames ++ l) gate in
    let place : 0 + length (blocks frames) ≡ at = omega (arith, is.place) in
    read_long bytes two ∙ ap (λ (l : List ℕ). walk 0 0 l) whole
    ∙ walk_blocks 0 frames (1 ∷ rest) is.short (omega arith)
    ∙ ap (λ (n : ℕ). with_front frames (walk n 0 (1 ∷ rest))) place
    ∙ ap (λ r. with_front frames r) (walk_cut at rest cut)
