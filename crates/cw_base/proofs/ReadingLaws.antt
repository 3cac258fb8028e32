-- The formats of numbers and configs read back.
use Rattle.std.proofs.Common.{◌≡◌, ℕ, zero, suc, ◌+◌, ◌*◌, ◌-◌, ◌/◌, ◌%◌, ◌^◌, ◌<◌, ◌≤◌, eqb, Bool, true, false, cond, nat_lt, List, [], ◌∷◌, ◌++◌, length, take, drop, Result, Ok, Err, refl, sym, ap, subst, ◌∙◌, append_assoc, arith, inl, inr}
use Rattle.std.specs.Int.{Width, w16, w32, w64, byte_len, from_be_bytes, to_be_bytes}
use Rattle.std.proofs.lemmas.Bool.{cases_lt, ltb-true, ltb-false, lt-ltb, le-ltb, eqb-false}
use Rattle.std.proofs.lemmas.List.{take_at, drop_at, take-append-drop, length-append, length-take, get_or-drop, get_or-take, get_or_past}
use Rattle.std.proofs.Math.Nat.{pow-suc}
use Rattle.std.proofs.Math.Dec.{eqb-suc-zero}
use Rattle.std.proofs.lemmas.Nat.{be_bytes_2, be_bytes_4, be_bytes_8, from_be_bytes-to_be_bytes_2, from_be_bytes-to_be_bytes_4, from_be_bytes-to_be_bytes_8}
use Rattle.cw_base.specs.declared.reader.CodecError.{CodecError}
use Rattle.cw_base.specs.declared.reader.CodecError.TheVariants.{EndOfBuffer, InvalidVarint, Invalid}
use Rattle.cw_base.specs.Bytes.{be16, be32, be64, varint, varint_within}
use Rattle.cw_base.specs.Config.{config_bytes}
use Rattle.cw_base.specs.Counts.{Counts}
use Rattle.cw_base.specs.ReadsBack.{IsBytes, ReadsBack, IsPositive16, IsConfig}
use Rattle.cw_base.specs.Reading.{Reading, ◌>>=◌, byte_at, bytes_at, number_at, be16_at, be32_at, be64_at, varint_from, varint_at, last_byte, low_byte, or_all_left, nonzero_at, config_at}

pub IsBytes-drop : (n : ℕ) (bytes : List ℕ) → IsBytes bytes → IsBytes (drop n bytes)
IsBytes-drop n bytes h i = rw get_or-drop (h (n + i))

pub IsBytes-take : (n : ℕ) (bytes : List ℕ) → IsBytes bytes → IsBytes (take n bytes)
IsBytes-take n bytes h i =
    elim (cases_lt i n) [
      | inl lt ↦ rw (get_or-take n bytes i 0 lt) (h i)
      | inr le ↦ rw (get_or_past (take n bytes) i 0 (omega (arith, length-take n bytes)))
          (omega arith)
    ]

-- the bytes behind a part that was taken
pub IsBytes-rest : (bytes front rest : List ℕ) → bytes ≡ front ++ rest → IsBytes bytes
    → IsBytes rest
IsBytes-rest bytes front rest e h =
    let d : drop (length front) bytes ≡ rest =
    ap (drop (length front)) e ∙ drop_at front rest (length front) refl in
    subst IsBytes d (IsBytes-drop (length front) bytes h)

-- a step that was not refused
pub bind_ok : {A B : Type 0} (r : Reading A) (f : A × List ℕ → Reading B) (y : B × List ℕ)
    → (r >>= f) ≡ Ok y → (x : A × List ℕ) × (r ≡ Ok x) × (f x ≡ Ok y)
bind_ok (Ok x) f y e = (x, refl, e)
bind_ok (Err d) f y e = absurd cc

-- a test that did not refuse
pub guard_ok : {A D : Type 0} (b : Bool) (d : D) (x y : A)
    → ◌≡◌ {A = Result A D} (cond b (Err d) (Ok x)) (Ok y) → (b ≡ false) × (x ≡ y)
guard_ok true d x y e = absurd cc
guard_ok false d x y e = (refl, cc)

-- a test that did not refuse, before what is read then
pub guard_then : {A : Type 0} (b : Bool) (d : CodecError × List ℕ) (r : Reading A) (y : A × List ℕ)
    → cond b (Err d) r ≡ Ok y → (b ≡ false) × (r ≡ Ok y)
guard_then true d r y e = absurd cc
guard_then false d r y e = (refl, e)

abbrev taken : {A : Type 0} → A × List ℕ → Reading A
taken x = Ok x

-- one reading is of one value
pub read_is : {A : Type 0} (x y : A × List ℕ) → taken x ≡ taken y → (x.0 ≡ y.0) × (x.1 ≡ y.1)
read_is {A = A} x y e =
    let same : x ≡ y = cc in (ap (λ (p : A × List ℕ). p.0) same, ap (λ (p : A × List ℕ). p.1) same)

record IsWide (w : Width) (limit : ℕ) : Type 0 where
  len : (n : ℕ) → length (to_be_bytes w n) ≡ byte_len w
  back : (bytes : List ℕ) → length bytes ≡ byte_len w → IsBytes bytes
      → to_be_bytes w (from_be_bytes w bytes) ≡ bytes
  again : (n : ℕ) → n < limit → from_be_bytes w (to_be_bytes w n) ≡ n
  below : (bytes : List ℕ) → IsBytes bytes → from_be_bytes w bytes < limit

wide16 : IsWide w16 (2 ^ 16)
wide16 = record {
  len = λ n. refl;
  back = λ bytes len fits. be_bytes_2 bytes _ len fits refl;
  again = λ n lt. from_be_bytes-to_be_bytes_2 n lt;
  below = λ bytes fits. omega (arith, fits 0, fits 1);
}

wide32 : IsWide w32 (2 ^ 32)
wide32 = record {
  len = λ n. refl;
  back = λ bytes len fits. be_bytes_4 bytes _ len fits refl;
  again = λ n lt. from_be_bytes-to_be_bytes_4 n lt;
  below = λ bytes fits. omega (arith, fits 0, fits 1, fits 2, fits 3);
}

wide64 : IsWide w64 (2 ^ 64)
wide64 = record {
  len = λ n. refl;
  back = λ bytes len fits. be_bytes_8 bytes _ len fits refl;
  again = λ n lt. from_be_bytes-to_be_bytes_8 n lt;
  below =
      λ bytes fits. omega (arith, fits 0, fits 1, fits 2, fits 3, fits 4, fits 5, fits 6, fits 7);
}

number_reads_back : (w : Width) (limit : ℕ) (wide : IsWide w limit)
    → ReadsBack (to_be_bytes w) (λ n. n < limit) (number_at w)
number_reads_back w limit wide = record { found = found; again = again }
  where
    found : (bytes rest : List ℕ) (n : ℕ) → IsBytes bytes → number_at w bytes ≡ Ok (n, rest)
        → (bytes ≡ to_be_bytes w n ++ rest) × (n < limit)
    found bytes rest n fits e =
        let g =
        guard_ok (nat_lt (length bytes) (byte_len w)) (EndOfBuffer, bytes)
        (from_be_bytes w (take (byte_len w) bytes), drop (byte_len w) bytes) (n, rest) e in
        let long : byte_len w ≤ length bytes = ltb-false _ _ g.0 in
        let n-is : from_be_bytes w (take (byte_len w) bytes) ≡ n =
        ap (λ (p : ℕ × List ℕ). p.0) g.1 in
        let rest-is : drop (byte_len w) bytes ≡ rest = ap (λ (p : ℕ × List ℕ). p.1) g.1 in
        let front : to_be_bytes w n ≡ take (byte_len w) bytes =
        rw (← n-is)
        (wide.back (take (byte_len w) bytes) (omega (arith, length-take (byte_len w) bytes))
        (IsBytes-take (byte_len w) bytes fits)) in (
          rw (front, ← rest-is) (sym (take-append-drop (byte_len w) bytes)),
          rw (← n-is) (wide.below (take (byte_len w) bytes) (IsBytes-take (byte_len w) bytes fits)),
        )

    again : (n : ℕ) (rest : List ℕ) → n < limit
        → number_at w (to_be_bytes w n ++ rest) ≡ Ok (n, rest)
    again n rest lt =
        let len = wide.len n in
        let long : nat_lt (length (to_be_bytes w n ++ rest)) (byte_len w) ≡ false =
        le-ltb _ _ (omega (arith, length-append (to_be_bytes w n) rest)) in
        rw (
          long,
          take_at (to_be_bytes w n) rest (byte_len w) len,
          drop_at (to_be_bytes w n) rest (byte_len w) len,
          wide.again n lt,
        )
        refl

pub be16_reads_back : ReadsBack be16 (λ n. n < 2 ^ 16) be16_at
unfolding be16 be16_at
be16_reads_back = number_reads_back w16 (2 ^ 16) wide16

pub be32_reads_back : ReadsBack be32 (λ n. n < 2 ^ 32) be32_at
unfolding be32 be32_at
be32_reads_back = number_reads_back w32 (2 ^ 32) wide32

pub be64_reads_back : ReadsBack be64 (λ n. n < 2 ^ 64) be64_at
unfolding be64 be64_at
be64_reads_back = number_reads_back w64 (2 ^ 64) wide64

pub byte_reads_back : ReadsBack (λ n. n ∷ []) (λ n. n < 256) byte_at
byte_reads_back = record { found = found; again = λ n rest lt. refl }
  where
    found : (bytes rest : List ℕ) (n : ℕ) → IsBytes bytes → byte_at bytes ≡ Ok (n, rest)
        → (bytes ≡ n ∷ rest) × (n < 256)
    found [] rest n fits e = absurd cc
    found (b ∷ bs) rest n fits e =
        let h : b < 256 = fits 0 in
        let same = read_is (b, bs) (n, rest) e in
        (ap (λ x. x ∷ bs) same.0 ∙ ap (λ xs. n ∷ xs) same.1, subst (λ (x : ℕ). x < 256) same.0 h)

pub bytes_read_back : (n : ℕ) → ReadsBack (λ bytes. bytes) (λ bytes. length bytes ≡ n) (bytes_at n)
bytes_read_back n = record { found = found; again = again }
  where
    found : (bytes rest part : List ℕ) → IsBytes bytes → bytes_at n bytes ≡ Ok (part, rest)
        → (bytes ≡ part ++ rest) × (length part ≡ n)
    found bytes rest part fits e =
        let g =
        guard_ok (nat_lt (length bytes) n) (EndOfBuffer, bytes) (take n bytes, drop n bytes)
        (part, rest) e in
        let long : n ≤ length bytes = ltb-false _ _ g.0 in
        let part-is : take n bytes ≡ part = ap (λ (p : List ℕ × List ℕ). p.0) g.1 in
        let rest-is : drop n bytes ≡ rest = ap (λ (p : List ℕ × List ℕ). p.1) g.1 in (
          rw (← part-is, ← rest-is) (sym (take-append-drop n bytes)),
          rw (← part-is) (omega (arith, length-take n bytes)),
        )

    again : (part rest : List ℕ) → length part ≡ n → bytes_at n (part ++ rest) ≡ Ok (part, rest)
    again part rest len =
        let long : nat_lt (length (part ++ rest)) n ≡ false =
        le-ltb _ _ (omega (arith, length-append part rest)) in
        rw (long, take_at part rest n len, drop_at part rest n len) refl

-- ---- varints

power_positive : (more : ℕ) → 0 < 128 ^ more
power_positive zero = omega arith
power_positive (suc more) = let h = power_positive more in let p = pow-suc 128 more in omega arith

abbrev spelled : ℕ × List ℕ → Result (ℕ × List ℕ) CodecError
spelled x = Ok x

spelled_is : (x y : ℕ × List ℕ) → spelled x ≡ spelled y → (x.0 ≡ y.0) × (x.1 ≡ y.1)
spelled_is x y e =
    let same : x ≡ y = cc in (ap (λ (p : ℕ × List ℕ). p.0) same, ap (λ (p : ℕ × List ℕ). p.1) same)

last_again : (first : Bool) (n : ℕ) (rest : List ℕ) → (first ≡ false → 0 < n)
    → last_byte first n rest ≡ Ok (n, rest)
last_again true n rest some = refl
last_again false zero rest some = absurd (let h = some refl in omega arith)
last_again false (suc n) rest some = rw (eqb-suc-zero n) refl

last_found : (first : Bool) (b : ℕ) (bs : List ℕ) (n : ℕ) (rest : List ℕ)
    → last_byte first b bs ≡ Ok (n, rest) → (b ≡ n) × (bs ≡ rest) × (first ≡ false → 0 < n)
last_found true b bs n rest e =
    let same = spelled_is (b, bs) (n, rest) e in (same.0, same.1, λ no. absurd cc)
last_found false zero bs n rest e = absurd cc
last_found false (suc b) bs n rest e =
    let one : spelled (suc b, bs) ≡ spelled (n, rest) = rw (eqb-suc-zero b) at e in
    let same = spelled_is (suc b, bs) (n, rest) one in
    (same.0, same.1, λ no. let is = same.0 in omega arith)

varint_again : (more n : ℕ) (first : Bool) (rest : List ℕ) → n < 16 * 128 ^ more
    → (first ≡ false → 0 < n) →
    varint_from more first (varint_within (suc more) n ++ rest) ≡ Ok (n, rest)
varint_again zero n first rest small some =
    let a : nat_lt n 128 ≡ true = lt-ltb n 128 (omega arith) in
    let b : nat_lt 15 n ≡ false = le-ltb 15 n (omega arith) in
    rw (a, b) (last_again first n rest some)
varint_again (suc more) n first rest small some =
    elim (cases_lt n 128) [
      | inl lt ↦ rw (lt-ltb n 128 lt, lt-ltb n 128 lt) (last_again first n rest some)
      | inr le ↦
          let p : 128 ^ suc more ≡ 128 ^ more * 128 = pow-suc 128 more in
          let again = varint_again more (n / 128) false rest (omega arith) (λ no. omega arith) in
          let top : nat_lt (n % 128 + 128) 128 ≡ false = le-ltb (n % 128 + 128) 128 (omega arith) in
          let whole : n % 128 + 128 - 128 + 128 * (n / 128) ≡ n = omega arith in
          rw (le-ltb n 128 le, top, again, whole) refl
    ]

record IsSpelled (more : ℕ) (first : Bool) (bytes rest : List ℕ) (n : ℕ) : Type 0 where
  parts : bytes ≡ varint_within (suc more) n ++ rest
  small : n < 16 * 128 ^ more
  some : first ≡ false → 0 < n

varint_found : (more : ℕ) (first : Bool) (bytes rest : List ℕ) (n : ℕ) → IsBytes bytes
    → varint_from more first bytes ≡ Ok (n, rest) → IsSpelled more first bytes rest n
varint_found more first [] rest n fits e = absurd cc
varint_found zero first (b ∷ bs) rest n fits e = go (nat_lt 15 b) refl e
  where
    go : (t : Bool) → nat_lt 15 b ≡ t
        → cond t (Err InvalidVarint) (last_byte first b bs) ≡ spelled (n, rest)
        → IsSpelled zero first (b ∷ bs) rest n
    go true t e = absurd cc
    go false t e =
        let same = last_found first b bs n rest e in
        let small : b ≤ 15 = ltb-false 15 b t in
        let is = same.0 in
        let a : nat_lt n 128 ≡ true = lt-ltb n 128 (omega arith) in
        record {
          parts = rw a (ap (λ x. x ∷ bs) same.0 ∙ ap (λ xs. n ∷ xs) same.1);
          small = omega arith;
          some = λ no. let h = same.2 no in omega arith;
        }
varint_found (suc more) first (b ∷ bs) rest n fits e =
    go (nat_lt b 128) refl e (λ x is. varint_found more false bs x.1 x.0 (λ i. fits (suc i)) is)
  where
    p : 128 ^ suc more ≡ 128 ^ more * 128
    p = pow-suc 128 more

    positive : 0 < 128 ^ more
    positive = power_positive more

    high : (r : Result (ℕ × List ℕ) CodecError) → varint_from more false bs ≡ r
        → nat_lt b 128 ≡ false → low_byte b r ≡ spelled (n, rest) →
        ((x : ℕ × List ℕ) → varint_from more false bs ≡ Ok x → IsSpelled more false bs x.1 x.0)
        → IsSpelled (suc more) first (b ∷ bs) rest n
    high (Err d) is t e again = absurd cc
    high (Ok x) is t e again =
        let same = spelled_is (b - 128 + 128 * x.0, x.1) (n, rest) e in
        let s = again x is in
        let some = s.some refl in
        let small = s.small in
        let n-is = same.0 in
        let b-big : 128 ≤ b = ltb-false b 128 t in
        let b-small : b < 256 = fits 0 in
        let power : 128 ^ suc more ≡ 128 ^ more * 128 = p in
        let a : nat_lt n 128 ≡ false = le-ltb n 128 (omega arith) in
        let low : n % 128 + 128 ≡ b = omega arith in
        let up : n / 128 ≡ x.0 = omega arith in
        record {
          parts =
              rw (a, low, up)
              (ap (λ xs. b ∷ xs)
              (s.parts ∙ ap (λ ys. varint_within (suc more) x.0 ++ ys) same.1));
          small = omega arith;
          some = λ no. omega arith;
        }

    go : (t : Bool) → nat_lt b 128 ≡ t
        → cond t (last_byte first b bs) (low_byte b (varint_from more false bs)) ≡ spelled (n, rest)
        →
        ((x : ℕ × List ℕ) → varint_from more false bs ≡ Ok x → IsSpelled more false bs x.1 x.0)
        → IsSpelled (suc more) first (b ∷ bs) rest n
    go true t e again =
        let same = last_found first b bs n rest e in
        let small : b < 128 = ltb-true b 128 t in
        let is = same.0 in
        let power : 128 ^ suc more ≡ 128 ^ more * 128 = p in
        let some : 0 < 128 ^ more = positive in
        let a : nat_lt n 128 ≡ true = lt-ltb n 128 (omega arith) in
        record {
          parts = rw a (ap (λ x. x ∷ bs) same.0 ∙ ap (λ xs. n ∷ xs) same.1);
          small = omega arith;
          some = λ no. let h = same.2 no in omega arith;
        }
    go false t e again = high (varint_from more false bs) refl t e again

pub varint_reads_back : ReadsBack varint (λ n. n < 2 ^ 32) varint_at
unfolding varint varint_at
varint_reads_back = record { found = found; again = again }
  where
    kept : (bytes : List ℕ) (r : Result (ℕ × List ℕ) CodecError) (x : ℕ × List ℕ)
        → or_all_left bytes r ≡ taken x → r ≡ Ok x
    kept bytes (Ok y) x e = cc
    kept bytes (Err d) x e = absurd cc

    found : (bytes rest : List ℕ) (n : ℕ) → IsBytes bytes
        → or_all_left bytes (varint_from 4 true bytes) ≡ Ok (n, rest)
        → (bytes ≡ varint_within 5 n ++ rest) × (n < 2 ^ 32)
    found bytes rest n fits e =
        let s =
        varint_found 4 true bytes rest n fits
        (kept bytes (varint_from 4 true bytes) (n, rest) e) in
        (s.parts, s.small)

    again : (n : ℕ) (rest : List ℕ) → n < 2 ^ 32
        → or_all_left (varint_within 5 n ++ rest) (varint_from 4 true (varint_within 5 n ++ rest))
        ≡ Ok (n, rest)
    again n rest lt =
        ap (or_all_left (varint_within 5 n ++ rest))
        (varint_again 4 n true rest lt (λ no. absurd cc))

-- ---- configs

abbrev unless_zero : ℕ × List ℕ → Reading ℕ
unless_zero n = cond (eqb n.0 0) (Err (Invalid, n.1)) (Ok n)

pub nonzero_reads_back : ReadsBack be16 IsPositive16 nonzero_at
nonzero_reads_back = record { found = found; again = again }
  where
    found : (bytes rest : List ℕ) (n : ℕ) → IsBytes bytes → nonzero_at bytes ≡ Ok (n, rest)
        → (bytes ≡ be16 n ++ rest) × IsPositive16 n
    found bytes rest n fits e =
        let b = bind_ok (be16_at bytes) unless_zero (n, rest) e in
        let g = guard_ok (eqb b.0.0 0) (Invalid, b.0.1) b.0 (n, rest) b.2 in
        let is : be16_at bytes ≡ Ok (n, rest) = b.1 ∙ ap (λ (x : ℕ × List ℕ). taken x) g.1 in
        let f = be16_reads_back.found bytes rest n fits is in
        let same : b.0.0 ≡ n = ap (λ (x : ℕ × List ℕ). x.0) g.1 in
        let no = eqb-false b.0.0 0 g.0 in
        (f.0, (omega arith, f.1))

    again : (n : ℕ) (rest : List ℕ) → IsPositive16 n → nonzero_at (be16 n ++ rest) ≡ Ok (n, rest)
    again zero rest fits = absurd (omega arith)
    again (suc n) rest fits = rw (be16_reads_back.again (suc n) rest fits.1, eqb-suc-zero n) refl

abbrev with_extra : ℕ → ℕ × List ℕ → Reading Counts
with_extra m x = Ok (record { minimum = m; extra = x.0 }, x.1)

abbrev with_minimum : ℕ × List ℕ → Reading Counts
with_minimum m = nonzero_at m.1 >>= with_extra m.0

pub config_reads_back : ReadsBack config_bytes IsConfig config_at
unfolding config_bytes config_at
config_reads_back = record { found = found; again = again }
  where
    found : (bytes rest : List ℕ) (c : Counts) → IsBytes bytes
        → nonzero_at bytes >>= with_minimum ≡ Ok (c, rest)
        → (bytes ≡ be16 c.minimum ++ be16 c.extra ++ rest) × IsConfig c
    found bytes rest c fits e =
        let a = bind_ok (nonzero_at bytes) with_minimum (c, rest) e in
        let m = a.0 in
        let b = bind_ok (nonzero_at m.1) (with_extra m.0) (c, rest) a.2 in
        let x = b.0 in
        let first = nonzero_reads_back.found bytes m.1 m.0 fits a.1 in
        let second =
        nonzero_reads_back.found m.1 x.1 x.0 (IsBytes-rest bytes (be16 m.0) m.1 first.0 fits)
        b.1 in
        let same = read_is (record { minimum = m.0; extra = x.0 }, x.1) (c, rest) b.2 in
        let parts : bytes ≡ be16 m.0 ++ be16 x.0 ++ x.1 =
        first.0 ∙ ap (λ (ys : List ℕ). be16 m.0 ++ ys) second.0
        ∙ sym (append_assoc (be16 m.0) (be16 x.0) x.1) in
        let whole : (bytes ≡ be16 m.0 ++ be16 x.0 ++ rest)
        × IsConfig (record { minimum = m.0; extra = x.0 }) =
        (rw same.1 at parts, record { minimum = first.1; extra = second.1 }) in
        subst (λ (s : Counts). (bytes ≡ be16 s.minimum ++ be16 s.extra ++ rest) × IsConfig s) same.0
        whole

    again : (c : Counts) (rest : List ℕ) → IsConfig c
        → nonzero_at (be16 c.minimum ++ be16 c.extra ++ rest) >>= with_minimum ≡ Ok (c, rest)
    again c rest fits =
        rw (
          append_assoc,
          nonzero_reads_back.again c.minimum (be16 c.extra ++ rest) fits.minimum,
          nonzero_reads_back.again c.extra rest fits.extra,
        )
        refl
