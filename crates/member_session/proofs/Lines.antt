-- The lines of a text.
use Rattle.std.proofs.Common.{◌≡◌, ◌≢◌, ◌≤◌, ◌∙◌, ◌++◌, ◌==◌, ◌&&◌, ◌∷◌, [], Bool, List, ap, append_assoc, arith, cond, false, length, not, refl, sym, true, ℕ}
use Rattle.std.proofs.lemmas.List.{length-append}
use Rattle.std.specs.List.{onto_first, slice_split}
use Rattle.hail_script.specs.Pieces.{lines, without_empty_end}
use Rattle.member_lines.specs.Ahead.{is_plain}
use Rattle.member_lines.proofs.Reading.{and_both, and_left, and_right}
use Rattle.member_session.specs.Programs.{all_but_last, whole_lines}

abbrev pub feeds : ℕ → Bool
feeds b = b == 10

abbrev pub pieces : List ℕ → List (List ℕ)
pieces text = slice_split (λ b. b == 10) text

-- a text begins with a piece
pub some_piece : (text : List ℕ)
    → (next : List ℕ) × ((more : List (List ℕ)) × (pieces text ≡ next ∷ more))
some_piece [] = ([], ([], refl))
some_piece (b ∷ text) = step (b == 10) (some_piece text)
  where
    step : (test : Bool)
        → (next : List ℕ) × ((more : List (List ℕ)) × (pieces text ≡ next ∷ more))
        → (next : List ℕ) × ((more : List (List ℕ))
        × (cond test ([] ∷ pieces text) (onto_first b (pieces text)) ≡ next ∷ more))
    step true some = ([], (pieces text, refl))
    step false some = (b ∷ some.0, (some.1.0, ap (onto_first b) some.1.1))

-- a line in front
pub split_line : (line rest : List ℕ) → is_plain line ≡ true
    → pieces (line ++ 10 ∷ rest) ≡ line ∷ pieces rest
split_line [] rest plain = refl
split_line (b ∷ line) rest plain = step (b == 10) plain (split_line line rest)
  where
    step : (test : Bool) → (not test && is_plain line) ≡ true
        → (is_plain line ≡ true → pieces (line ++ 10 ∷ rest) ≡ line ∷ pieces rest)
        → cond test ([] ∷ pieces (line ++ 10 ∷ rest)) (onto_first b (pieces (line ++ 10 ∷ rest)))
        ≡ (b ∷ line) ∷ pieces rest
    step true none more = cc
    step false is more = ap (onto_first b) (more is)

-- a text without a line feed
pub split_plain : (line : List ℕ) → is_plain line ≡ true → pieces line ≡ line ∷ []
split_plain [] plain = refl
split_plain (b ∷ line) plain = step (b == 10) plain (split_plain line)
  where
    step : (test : Bool) → (not test && is_plain line) ≡ true
        → (is_plain line ≡ true → pieces line ≡ line ∷ [])
        → cond test ([] ∷ pieces line) (onto_first b (pieces line)) ≡ (b ∷ line) ∷ []
    step true none more = cc
    step false is more = ap (onto_first b) (more is)

one_more : (line next : List ℕ) (more : List (List ℕ))
    → without_empty_end (line ∷ next ∷ more) ≡ line ∷ without_empty_end (next ∷ more)
one_more [] next more = refl
one_more (b ∷ line) next more = refl

pub lines_behind : (line rest : List ℕ) → is_plain line ≡ true
    → lines (line ++ 10 ∷ rest) ≡ line ∷ lines rest
lines_behind line rest plain =
    let some = some_piece rest in
    ap without_empty_end (split_line line rest plain)
    ∙ ap (λ (l : List (List ℕ)). without_empty_end (line ∷ l)) some.1.1
    ∙ one_more line some.0 some.1.0
    ∙ ap (λ (l : List (List ℕ)). line ∷ without_empty_end l) (sym some.1.1)

pub lines_last : (line : List ℕ) → is_plain line ≡ true → line ≢ [] → lines line ≡ line ∷ []
lines_last line plain some = ap without_empty_end (split_plain line plain) ∙ step line some
  where
    step : (line : List ℕ) → line ≢ [] → without_empty_end (line ∷ []) ≡ line ∷ []
    step [] none = absurd (none refl)
    step (b ∷ line) is = refl

pub whole_behind : (line rest : List ℕ) → is_plain line ≡ true
    → whole_lines (line ++ 10 ∷ rest) ≡ line ∷ whole_lines rest
whole_behind line rest plain =
    let some = some_piece rest in
    ap all_but_last (split_line line rest plain)
    ∙ ap (λ (l : List (List ℕ)). all_but_last (line ∷ l)) some.1.1
    ∙ ap (λ (l : List (List ℕ)). line ∷ all_but_last l) (sym some.1.1)

pub whole_none : (line : List ℕ) → is_plain line ≡ true → whole_lines line ≡ []
whole_none line plain = ap all_but_last (split_plain line plain)

-- lines, each with its line feed
abbrev pub ended : List (List ℕ) → List ℕ
ended [] = []
ended (line ∷ more) = line ++ 10 ∷ ended more

abbrev pub all_plain : List (List ℕ) → Bool
all_plain [] = true
all_plain (line ∷ more) = is_plain line && all_plain more

pub ended_more : (done : List (List ℕ)) (line rest : List ℕ)
    → ended (done ++ line ∷ []) ++ rest ≡ ended done ++ (line ++ 10 ∷ rest)
ended_more [] line rest = append_assoc line (10 ∷ []) rest
ended_more (first ∷ done) line rest =
    append_assoc first (10 ∷ ended (done ++ line ∷ [])) rest
    ∙ ap (λ (l : List ℕ). first ++ 10 ∷ l) (ended_more done line rest)
    ∙ sym (append_assoc first (10 ∷ ended done) (line ++ 10 ∷ rest))

pub plain_more : (done : List (List ℕ)) (line : List ℕ) → all_plain done ≡ true
    → is_plain line ≡ true → all_plain (done ++ line ∷ []) ≡ true
plain_more [] line plain is = and_both (is_plain line) true is refl
plain_more (first ∷ done) line plain is =
    and_both (is_plain first) (all_plain (done ++ line ∷ []))
    (and_left (is_plain first) (all_plain done) plain)
    (plain_more done line (and_right (is_plain first) (all_plain done) plain) is)

pub lines_ended : (done : List (List ℕ)) (rest : List ℕ) → all_plain done ≡ true
    → lines (ended done ++ rest) ≡ done ++ lines rest
lines_ended [] rest plain = refl
lines_ended (line ∷ done) rest plain =
    ap lines (append_assoc line (10 ∷ ended done) rest)
    ∙ lines_behind line (ended done ++ rest) (and_left (is_plain line) (all_plain done) plain)
    ∙ ap (λ (l : List (List ℕ)). line ∷ l)
    (lines_ended done rest (and_right (is_plain line) (all_plain done) plain))

pub whole_ended : (done : List (List ℕ)) (rest : List ℕ) → all_plain done ≡ true
    → whole_lines (ended done ++ rest) ≡ done ++ whole_lines rest
whole_ended [] rest plain = refl
whole_ended (line ∷ done) rest plain =
    ap whole_lines (append_assoc line (10 ∷ ended done) rest)
    ∙ whole_behind line (ended done ++ rest) (and_left (is_plain line) (all_plain done) plain)
    ∙ ap (λ (l : List (List ℕ)). line ∷ l)
    (whole_ended done rest (and_right (is_plain line) (all_plain done) plain))

-- each line has a byte at least, its line feed
pub ended_long : (done : List (List ℕ)) → length done ≤ length (ended done)
ended_long [] = omega arith
ended_long (line ∷ done) =
    omega (arith, ended_long done, length-append line (10 ∷ ended done))
