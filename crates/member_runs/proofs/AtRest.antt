-- A file on which frames are found is at rest with them.
use Rattle.std.proofs.Common.{◌≡◌, ℕ, zero, suc, ◌+◌, ◌^◌, ◌<◌, ◌≤◌, Bool, true, false, ◌==◌, nat_lt, if◌then◌else◌, List, [], ◌∷◌, ◌++◌, length, take, drop, get_or, Result, Ok, Err, refl, sym, ◌∙◌, ap, subst, arith, inl, inr, ◌⊎◌, append_assoc, append-nil, length-drop, length-take, ltb-true, eqb-true, eq-eqb}
use Rattle.std.specs.Int.{w64, from_be_bytes}
use Rattle.std.proofs.lemmas.Bool.{cases_Bool, false≢true}
use Rattle.std.proofs.lemmas.List.{drop_more}
use Rattle.cw_rules.specs.Coding.{AreBytes}
use Rattle.node_disk.specs.Frames.{IsAtRest, blocks, count_of, read_log, walk, with_front}
use Rattle.node_disk.proofs.ReadBack.{IsReadTo, reads_one}
use Rattle.node_disk.proofs.AtRest.{read_long}

pub byte_at : (bytes : List ℕ) → AreBytes bytes → (i : ℕ) → get_or bytes i 0 < 256
byte_at [] all i = omega arith
byte_at (b ∷ bytes) all zero = all.0
byte_at (b ∷ bytes) all (suc i) = byte_at bytes all.1 i

bytes_drop : (n : ℕ) (bytes : List ℕ) → AreBytes bytes → AreBytes (drop n bytes)
bytes_drop zero bytes all = all
bytes_drop (suc n) [] all = tt
bytes_drop (suc n) (b ∷ bytes) all = bytes_drop n bytes all.1

bytes_take : (n : ℕ) (bytes : List ℕ) → AreBytes bytes → AreBytes (take n bytes)
bytes_take zero bytes all = tt
bytes_take (suc n) [] all = tt
bytes_take (suc n) (b ∷ bytes) all = (all.0, bytes_take n bytes all.1)

number_below : (bytes : List ℕ) → ((i : ℕ) → get_or bytes i 0 < 256)
    → from_be_bytes w64 bytes < 2 ^ 64
number_below bytes fits =
    omega (arith, fits 0, fits 1, fits 2, fits 3, fits 4, fits 5, fits 6, fits 7)

count_below : (bytes : List ℕ) → AreBytes bytes → count_of bytes < 2 ^ 64
unfolding count_of
count_below bytes all = number_below (take 8 bytes) (byte_at (take 8 bytes) (bytes_take 8 bytes all))

drop_empty : (p : ℕ) (bytes : List ℕ) → drop p bytes ≡ [] → length bytes ≤ p
drop_empty p bytes none = omega (arith, ap length none, length-drop p bytes)

drop_rest : (p : ℕ) (bytes : List ℕ) (b : ℕ) (rest : List ℕ) → drop p bytes ≡ b ∷ rest
    → (p < length bytes) × (b ≡ get_or bytes p 0) × (rest ≡ drop (p + 1) bytes)
drop_rest p bytes b rest is =
    let inside : p < length bytes = omega (arith, ap length is, length-drop p bytes) in
    let both : b ∷ rest ≡ get_or bytes p 0 ∷ drop (p + 1) bytes =
    sym is ∙ drop_more bytes p 0 inside in
    (inside, cc, cc)

-- the frames in front of others
front_is : (frame : List ℕ) (result : Result (List (List ℕ)) ℕ) (more : List (List ℕ))
    → with_front (frame ∷ []) result ≡ Ok more
    → (others : List (List ℕ)) × (result ≡ Ok others) × (more ≡ frame ∷ others)
front_is frame (Ok others) more is = (others, refl, cc)
front_is frame (Err place) more is = absurd (cc)

-- the file is at rest with these frames, wherever its last gate stands
abbrev pub Rests : List (List ℕ) → List ℕ → Type 0
Rests frames bytes = (gate : ℕ) × IsAtRest frames gate bytes

module _ (bytes : List ℕ) (small : AreBytes bytes) where
  -- the frames of this suffix, wherever it begins
  abbrev Walked : List ℕ → Type 0
  Walked suffix =
      (k q : ℕ) (fs ms : List (List ℕ)) → drop q bytes ≡ suffix → IsReadTo fs (q + k) bytes
      → walk q k suffix ≡ Ok ms → Rests (fs ++ ms) bytes

  walked : (skip : ℕ) (suffix : List ℕ) (p : ℕ) (frames more : List (List ℕ))
      → drop p bytes ≡ suffix → IsReadTo frames (p + skip) bytes → walk p skip suffix ≡ Ok more
      → Rests (frames ++ more) bytes
  walked skip [] p frames more is read walks =
      let short = drop_empty p bytes is in absurd (omega (arith, read.inside, short))
  walked (suc skip) (b ∷ suffix) p frames more is read walks =
      let parts = drop_rest p bytes b suffix is in
      walked skip suffix (p + 1) frames more (sym parts.2)
      (subst (λ (n : ℕ). IsReadTo frames n bytes)
      (let same : p + suc skip ≡ p + 1 + skip = omega arith in same) read)
      walks
  walked zero (b ∷ suffix) p frames more is read walks =
      by_gate
      (λ k q fs ms is read walks. walked k suffix q fs ms is read walks)
      (cases_Bool (b == 1)) (cases_Bool (nat_lt (8 + count_of suffix) (length suffix))) walks
    where
      parts : (p < length bytes) × (b ≡ get_or bytes p 0) × (suffix ≡ drop (p + 1) bytes)
      parts = drop_rest p bytes b suffix is

      here : IsReadTo frames p bytes
      here =
          subst (λ (n : ℕ). IsReadTo frames n bytes)
          (let same : p + 0 ≡ p = omega arith in same) read

      frame : List ℕ
      frame = take (count_of suffix) (drop 8 suffix)

      size : (8 + count_of suffix < length suffix) → length frame ≡ count_of suffix
      size fits =
          omega (
            arith,
            length-take (count_of suffix) (drop 8 suffix),
            length-drop 8 suffix,
          )

      short : (8 + count_of suffix < length suffix) → length frame < 2 ^ 64
      short fits =
          let long = size fits in
          let below =
          count_below suffix (subst AreBytes (sym parts.2) (bytes_drop (p + 1) bytes small)) in
          omega (arith, long, below)

      open_gate : Walked suffix → (b ≡ 1) → (8 + count_of suffix < length suffix)
          → with_front (frame ∷ []) (walk (p + 1) (8 + count_of suffix) suffix) ≡ Ok more
          → Rests (frames ++ more) bytes
      open_gate further one fits found =
          let front = front_is frame (walk (p + 1) (8 + count_of suffix) suffix) more found in
          let read =
          reads_one frames p bytes suffix frame parts.2 here (sym parts.1 ∙ one)
          (byte_at bytes small) (short fits) fits refl in
          let long = size fits in
          let later =
          further (8 + count_of suffix) (p + 1) (frames ++ frame ∷ []) front.0 (sym parts.2)
          (subst (λ (n : ℕ). IsReadTo (frames ++ frame ∷ []) n bytes)
          (let same : p + (9 + length frame) ≡ p + 1 + (8 + count_of suffix) = omega (arith, long) in same)
          read)
          front.1 in
          subst (λ (l : List (List ℕ)). Rests l bytes)
          (append_assoc frames (frame ∷ []) front.0
          ∙ ap (λ (l : List (List ℕ)). frames ++ l) (sym front.2))
          later

      by_gate : Walked suffix → ((b == 1) ≡ true) ⊎ ((b == 1) ≡ false)
          → (nat_lt (8 + count_of suffix) (length suffix) ≡ true)
          ⊎ (nat_lt (8 + count_of suffix) (length suffix) ≡ false)
          → walk p 0 (b ∷ suffix) ≡ Ok more → Rests (frames ++ more) bytes
      by_gate further (inl one) (inl fits) found =
          open_gate further (eqb-true b 1 one)
          (ltb-true (8 + count_of suffix) (length suffix) fits)
          (sym
          (ap
          (λ (x : Bool). if x
          then (if nat_lt (8 + count_of suffix) (length suffix)
          then with_front (frame ∷ []) (walk (p + 1) (8 + count_of suffix) suffix)
          else Err p)
          else Ok [])
          one
          ∙ ap
          (λ (x : Bool). if x
          then with_front (frame ∷ []) (walk (p + 1) (8 + count_of suffix) suffix)
          else Err p)
          fits)
          ∙ found)
      by_gate further (inl one) (inr cut) found =
          let no : ◌≡◌ {A = Result (List (List ℕ)) ℕ} (Err p) (Ok more) =
          sym
          (ap
          (λ (x : Bool). if x
          then (if nat_lt (8 + count_of suffix) (length suffix)
          then with_front (frame ∷ []) (walk (p + 1) (8 + count_of suffix) suffix)
          else Err p)
          else Ok [])
          one
          ∙ ap
          (λ (x : Bool). if x
          then with_front (frame ∷ []) (walk (p + 1) (8 + count_of suffix) suffix)
          else Err p)
          cut)
          ∙ found in
          absurd (cc)
      by_gate further (inr other) fits found =
          let none : ◌≡◌ {A = Result (List (List ℕ)) ℕ} (Ok []) (Ok more) =
          sym
          (ap
          (λ (x : Bool). if x
          then (if nat_lt (8 + count_of suffix) (length suffix)
          then with_front (frame ∷ []) (walk (p + 1) (8 + count_of suffix) suffix)
          else Err p)
          else Ok [])
          other)
          ∙ found in
          let empty : [] ≡ more = cc in
          subst (λ (l : List (List ℕ)). Rests (frames ++ l) bytes) empty
          (subst (λ (l : List (List ℕ)). Rests l bytes) (sym (append-nil frames)) (
            p,
            record {
              front = here.front;
              place = here.place;
              inside = here.inside;
              closed =
                  λ e. false≢true (sym other ∙ eq-eqb b 1 (parts.1 ∙ e));
              short = here.short;
            },
          ))

-- a file of two bytes or more on which a start finds these frames is at rest with them
pub found_rests : (frames : List (List ℕ)) (bytes : List ℕ) → AreBytes bytes → 2 ≤ length bytes
    → read_log bytes ≡ Ok frames → IsAtRest frames (length (blocks frames)) bytes
found_rests frames bytes small long found =
    let rests =
    walked bytes small 0 bytes 0 [] frames refl
    (record {
      front = refl;
      place = refl;
      inside = omega arith;
      short = refl;
    })
    (sym (read_long bytes long) ∙ found) in
    subst (λ (g : ℕ). IsAtRest frames g bytes) rests.1.place rests.1
