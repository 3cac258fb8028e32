-- The lines of a script that is admitted.
use Rattle.std.proofs.Common.{◌≡◌, ℕ, zero, suc, ◌+◌, ◌<◌, ◌^◌, ◌&&◌, Bool, true, false, nat_lt, List, [], ◌∷◌, length, map, get_or, Option, Some, None, IsTrue, refl, sym, ap, ◌∙◌, arith, ltb-true, lt-ltb}
use Rattle.std.specs.Prelude.{option_map, slice_get}
use Rattle.std.specs.List.{list_all}
use Rattle.std.proofs.lemmas.Bool.{not-false}
use Rattle.std.proofs.lemmas.Option.{slice_get-map, slice_get_read}
use Rattle.cw_rules.specs.World.{Line, line_member}
use Rattle.hail_script.specs.Grammar as grammar
use Rattle.hail_script.specs.Raw.{raw_line_of}
use Rattle.hail_script.specs.declared.raw.RawLine.{RawLine}
use Rattle.hail_script.specs.declared.raw.RawLine.TheVariants as line

-- where no line passes the test, this one doesn't
pub none_at : (test : Line → Bool) (at : ℕ) (lines : List Line) (i : ℕ) (line : Line)
    → grammar.first_at test at lines ≡ None → slice_get lines i ≡ Some line → test line ≡ false
none_at test at [] i line h e = absurd (let no : None ≡ Some line = e in cc)
none_at test at (l ∷ lines) i line h e = go (test l) refl i e (none_at test (at + 1) lines)
  where
    more : (t : Bool) → test l ≡ t → grammar.first_at test at (l ∷ lines) ≡ None
        → (t ≡ false) × (grammar.first_at test (at + 1) lines ≡ None)
    more true t h =
        absurd
        (let no : Some at ≡ None =
        sym (let same : grammar.first_at test at (l ∷ lines) ≡ Some at = rw t refl in same)
        ∙ h in
        cc)
    more false t h = (
      refl,
      sym
          (let same : grammar.first_at test at (l ∷ lines)
          ≡ grammar.first_at test (at + 1) lines =
          rw t refl in
          same)
          ∙ h,
    )

    go : (t : Bool) → test l ≡ t → (i : ℕ) → slice_get (l ∷ lines) i ≡ Some line
        → ((i : ℕ) (x : Line) → grammar.first_at test (at + 1) lines ≡ None
        → slice_get lines i ≡ Some x → test x ≡ false)
        → test line ≡ false
    go t is zero e later =
        let same : l ≡ line = (let s : Some l ≡ Some line = e in cc) in
        ap test (sym same) ∙ is ∙ (more t is h).0
    go t is (suc i) e later = later i line (more t is h).1 e

-- a line of a text
line_read : (lines : List RawLine) (i : ℕ) (x : RawLine) → i < length lines → x ≡ get_or lines i x
    → slice_get (map raw_line_of lines) i ≡ Some (raw_line_of x)
line_read lines i x lt is =
    slice_get-map raw_line_of lines i
    ∙ ap (λ (o : Option RawLine). option_map raw_line_of o)
    (slice_get_read lines (length lines) i x refl lt is)

-- it names a member, where no line names one past the last
pub known_read : (total first : ℕ) (lines : List RawLine) (i : ℕ) (x : RawLine) → total < 2 ^ 16
    → grammar.first_at (grammar.names_stranger total) first (map raw_line_of lines) ≡ None
    → i < length lines → x ≡ get_or lines i x → line_member (raw_line_of x) < 2 ^ 16
known_read total first lines i x few none lt is =
    let no =
    none_at (grammar.names_stranger total) first (map raw_line_of lines) i (raw_line_of x) none
    (line_read lines i x lt is) in
    let known =
    ltb-true (line_member (raw_line_of x)) total
    (not-false (nat_lt (line_member (raw_line_of x)) total) no) in
    omega (arith, known, few)

-- and it has no payload that is too long, where no line has one
pub short_read : (first : ℕ) (lines : List RawLine) (i : ℕ) (x : RawLine)
    → grammar.first_at grammar.names_oversize first (map raw_line_of lines) ≡ None
    → i < length lines → x ≡ get_or lines i x → grammar.names_oversize (raw_line_of x) ≡ false
short_read first lines i x none lt is =
    none_at grammar.names_oversize first (map raw_line_of lines) i (raw_line_of x) none
    (line_read lines i x lt is)

-- each stop of a text has a device call
pub all_later : (lines : List RawLine)
    → IsTrue (list_all grammar.is_later (map raw_line_of lines))
all_later [] = refl
all_later (line.Do m ask ∷ lines) = all_later lines
all_later (line.Cut stop m ask ∷ lines) =
    let first : nat_lt 0 stop.call ≡ true = lt-ltb 0 stop.call stop.later in
    ap
    (λ (b : Bool). b && list_all grammar.is_later (map raw_line_of lines))
    first
    ∙ all_later lines
all_later (line.Restart m ∷ lines) = all_later lines
all_later (line.Faulty m fault ∷ lines) = all_later lines
