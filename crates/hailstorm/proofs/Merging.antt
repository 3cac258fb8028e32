-- Lanes merged in an order.
use Rattle.std.proofs.Common.{◌≡◌, ℕ, cond, zero, suc, ◌+◌, ◌-◌, ◌<◌, ◌≤◌, ◌==◌, ◌||◌, Bool, true, false, List, [], ◌∷◌, ◌++◌, length, map, take, drop, get_or, Option, Some, None, refl, sym, ap, subst, ◌∙◌, arith, append_assoc, append-nil, length-append}
use Rattle.std.proofs.lemmas.Bool.{eqb-true, eqb-false}
use Rattle.std.specs.Prelude.{count_by, flat_map, slice_get, slice_set, slice_index}
use Rattle.std.specs.List.{enumerate_from, list_any}
use Rattle.std.specs.Option.{option_map_or}
use Rattle.std.proofs.lemmas.List.{take-append-drop, drop-take}
use Rattle.std.proofs.lemmas.List.Folds.{list_any-append}
use Rattle.std.proofs.lemmas.List.Sums.{sum_by-append}
use Rattle.cw_rules.specs.World.{Line}
use Rattle.hail_script.specs.Lanes.{cut}
use Rattle.hailstorm.specs.Lanes.{lane_at, left, merged, turns_of, without_next}
use Rattle.hailstorm.specs.Turns.{between}

-- ---- one turn more

pub merged_more : {X : Type 0} (lanes : List (List X)) (order : List ℕ) (k : ℕ)
    → merged lanes (order ++ k ∷ []) ≡ merged lanes order ++ take 1 (lane_at (left lanes order) k)
merged_more lanes [] k = append-nil (take 1 (lane_at lanes k))
merged_more {X} lanes (j ∷ order) k =
    ap (λ (l : List X). take 1 (lane_at lanes j) ++ l) (merged_more (without_next lanes j) order k)
    ∙ sym
    (append_assoc (take 1 (lane_at lanes j)) (merged (without_next lanes j) order)
    (take 1 (lane_at (left (without_next lanes j) order) k)))

pub left_more : {X : Type 0} (lanes : List (List X)) (order : List ℕ) (k : ℕ)
    → left lanes (order ++ k ∷ []) ≡ without_next (left lanes order) k
left_more lanes [] k = refl
left_more lanes (j ∷ order) k = left_more (without_next lanes j) order k

pub same_lane : {X : Type 0} (lanes : List (List X)) (k : ℕ)
    → lane_at (without_next lanes k) k ≡ drop 1 (lane_at lanes k)
same_lane [] k = refl
same_lane (lane ∷ lanes) zero = refl
same_lane (lane ∷ lanes) (suc k) = same_lane lanes k

pub other_lane : {X : Type 0} (lanes : List (List X)) (k j : ℕ) → (j ≡ k → ⊥)
    → lane_at (without_next lanes k) j ≡ lane_at lanes j
other_lane [] k j differ = refl
other_lane (lane ∷ lanes) zero zero differ = absurd (differ refl)
other_lane (lane ∷ lanes) zero (suc j) differ = refl
other_lane (lane ∷ lanes) (suc k) zero differ = refl
other_lane {X} (lane ∷ lanes) (suc k) (suc j) differ = other_lane lanes k j (λ e. differ (ap suc e))

-- ---- what lanes hold

module _ {X : Type 0} (f : X → Bool) where
  some : List (List X) → Bool
  some lanes = list_any f (flat_map (λ lane. lane) lanes)

  unfoldable swap : (a b c : Bool) → (a || (b || c)) ≡ (b || (a || c))
  swap true true c = refl
  swap true false c = refl
  swap false b c = refl

  one_next : (lane : List X)
      → list_any f lane ≡ (list_any f (take 1 lane) || list_any f (drop 1 lane))
  one_next lane =
      ap (λ (l : List X). list_any f l) (sym (take-append-drop 1 lane))
      ∙ list_any-append f (take 1 lane) (drop 1 lane)

  joined : (a b c : Bool) → ((a || b) || c) ≡ (a || (b || c))
  joined true b c = refl
  joined false b c = refl

  next_any : (lanes : List (List X)) (k : ℕ)
      → list_any f (flat_map (λ lane. lane) lanes)
      ≡ (list_any f (take 1 (lane_at lanes k))
      || list_any f (flat_map (λ lane. lane) (without_next lanes k)))
  next_any [] k = refl
  next_any (lane ∷ lanes) zero =
      list_any-append f lane (flat_map (λ lane. lane) lanes)
      ∙ ap (λ (b : Bool). b || list_any f (flat_map (λ lane. lane) lanes)) (one_next lane)
      ∙ joined (list_any f (take 1 lane)) (list_any f (drop 1 lane))
      (list_any f (flat_map (λ lane. lane) lanes))
      ∙ ap (λ (b : Bool). list_any f (take 1 lane) || b)
      (sym (list_any-append f (drop 1 lane) (flat_map (λ lane. lane) lanes)))
  next_any (lane ∷ lanes) (suc k) =
      list_any-append f lane (flat_map (λ lane. lane) lanes)
      ∙ ap (λ (b : Bool). list_any f lane || b) (next_any lanes k)
      ∙ swap (list_any f lane) (list_any f (take 1 (lane_at lanes k)))
      (list_any f (flat_map (λ lane. lane) (without_next lanes k)))
      ∙ ap (λ (b : Bool). list_any f (take 1 (lane_at lanes k)) || b)
      (sym (list_any-append f lane (flat_map (λ lane. lane) (without_next lanes k))))

  pub merged_any : (lanes : List (List X)) (order : List ℕ)
      → list_any f (merged lanes order ++ flat_map (λ lane. lane) (left lanes order))
      ≡ list_any f (flat_map (λ lane. lane) lanes)
  merged_any lanes [] = refl
  merged_any lanes (k ∷ order) =
      ap (λ (l : List X). list_any f l)
      (append_assoc (take 1 (lane_at lanes k)) (merged (without_next lanes k) order)
      (flat_map (λ lane. lane) (left (without_next lanes k) order)))
      ∙ list_any-append f (take 1 (lane_at lanes k))
      (merged (without_next lanes k) order
      ++ flat_map (λ lane. lane) (left (without_next lanes k) order))
      ∙ ap (λ (b : Bool). list_any f (take 1 (lane_at lanes k)) || b)
      (merged_any (without_next lanes k) order)
      ∙ sym (next_any lanes k)

-- a list cut into runs
pub cut_whole : {X : Type 0} (sizes : List ℕ) (xs : List X)
    → flat_map (λ run. run) (cut sizes xs) ≡ xs
cut_whole [] xs = append-nil xs
cut_whole {X} (size ∷ sizes) xs =
    ap (λ (l : List X). take size xs ++ l) (cut_whole sizes (drop size xs))
    ∙ take-append-drop size xs

-- ---- how often a lane had its turn

pub turns_more : (j k : ℕ) (order : List ℕ)
    → turns_of j (order ++ k ∷ []) ≡ turns_of j order + turns_of j (k ∷ [])
turns_more j k order = sum_by-append (λ i. cond (i == j) 1 0) order (k ∷ [])

none_of : {X : Type 0} (lanes : List (List X)) (k : ℕ) → flat_map (λ lane. lane) lanes ≡ []
    → lane_at lanes k ≡ []
none_of [] k e = refl
none_of ([] ∷ lanes) zero e = refl
none_of ([] ∷ lanes) (suc k) e = none_of lanes k e
none_of ((x ∷ lane) ∷ lanes) k e =
    absurd (let no : x ∷ (lane ++ flat_map (λ lane. lane) lanes) ≡ [] = e in cc)

pub all_turned : {X : Type 0} (lanes : List (List X)) (k n : ℕ) → flat_map (λ lane. lane) lanes ≡ []
    → n + length (lane_at lanes k) ≡ n
all_turned {X} lanes k n e =
    let none : length (lane_at lanes k) ≡ 0 = ap (λ (l : List X). length l) (none_of lanes k e) in
    omega (arith, none)

-- ---- cursors

pub between_next : (rows : List (ℕ × Line)) (from end : ℕ) (row : ℕ × Line) → from < end
    → slice_get rows from ≡ Some row → between rows (from, end) ≡ row ∷ between rows (from + 1, end)
between_next [] from end row lt e = absurd (let no : None ≡ Some row = e in cc)
between_next (r ∷ rows) zero zero row lt e = absurd (omega arith)
between_next (r ∷ rows) zero (suc end) row lt e =
    let same : r ≡ row = (let s : Some r ≡ Some row = e in cc) in
    ap (λ (x : ℕ × Line). x ∷ take end rows) same
between_next (r ∷ rows) (suc from) zero row lt e = absurd (omega arith)
between_next (r ∷ rows) (suc from) (suc end) row lt e =
    let n : suc from + 1 ≡ suc (from + 1) = omega arith in
    rw n (between_next rows from end row (omega arith) e)

module _ (rows : List (ℕ × Line)) where
  pub cursor_lane : (cursors : List (ℕ × ℕ)) (k : ℕ) (c : ℕ × ℕ) → slice_get cursors k ≡ Some c
      → lane_at (map (between rows) cursors) k ≡ between rows c
  cursor_lane [] k c e = absurd (let no : None ≡ Some c = e in cc)
  cursor_lane (d ∷ cursors) zero c e =
      let same : d ≡ c = (let s : Some d ≡ Some c = e in cc) in
      ap (λ (x : ℕ × ℕ). between rows x) same
  cursor_lane (d ∷ cursors) (suc k) c e = cursor_lane cursors k c e

  map_set : (cursors : List (ℕ × ℕ)) (k : ℕ) (c : ℕ × ℕ)
      → map (between rows) (slice_set cursors k c)
      ≡ slice_set (map (between rows) cursors) k (between rows c)
  map_set [] k c = refl
  map_set (d ∷ cursors) zero c = refl
  map_set (d ∷ cursors) (suc k) c =
      ap (λ (l : List (List (ℕ × Line))). between rows d ∷ l) (map_set cursors k c)

  pub cursor_next : (cursors : List (ℕ × ℕ)) (k from end : ℕ) (row : ℕ × Line)
      → slice_get cursors k ≡ Some (from, end) → from < end → slice_get rows from ≡ Some row
      → without_next (map (between rows) cursors) k
      ≡ map (between rows) (slice_set cursors k (from + 1, end))
  cursor_next cursors k from end row at lt got =
      let lane = cursor_lane cursors k (from, end) at ∙ between_next rows from end row lt got in
      ap (λ (l : List (ℕ × Line)). slice_set (map (between rows) cursors) k (drop 1 l)) lane
      ∙ sym (map_set cursors k (from + 1, end))

-- ---- lines with their numbers

module _ {X : Type 0} (numbers : List ℕ) where
  rows_at : ℕ → List X → List (ℕ × X)
  rows_at n lines = map (λ at. (slice_index numbers at.0, at.1)) (enumerate_from n lines)

  pub rows_lines : (n : ℕ) (lines : List X)
      → map (λ row. row.1)
      (map (λ at. let p : ℕ × X = (slice_index numbers at.0, at.1) in p)
      (enumerate_from n lines))
      ≡ lines
  rows_lines n [] = refl
  rows_lines n (line ∷ lines) = ap (λ (l : List X). line ∷ l) (rows_lines (n + 1) lines)

  pub rows_count : (n : ℕ) (lines : List X)
      → length
      (map (λ at. let p : ℕ × X = (slice_index numbers at.0, at.1) in p)
      (enumerate_from n lines))
      ≡ length lines
  rows_count n [] = refl
  rows_count n (line ∷ lines) = ap suc (rows_count (n + 1) lines)

  pub rows_get : (n : ℕ) (lines : List X) (i : ℕ) (line : X) → slice_get lines i ≡ Some line
      → slice_get
      (map (λ at. let p : ℕ × X = (slice_index numbers at.0, at.1) in p)
      (enumerate_from n lines))
      i
      ≡ Some (slice_index numbers (n + i), line)
  rows_get n [] i line e = absurd (let no : None ≡ Some line = e in cc)
  rows_get n (l ∷ lines) zero line e =
      let same : l ≡ line = (let s : Some l ≡ Some line = e in cc) in
      let none : n ≡ n + 0 = omega arith in
      ap (λ (x : X). let o : Option (ℕ × X) = Some (slice_index numbers n, x) in o) same
      ∙ ap (λ (m : ℕ). let o : Option (ℕ × X) = Some (slice_index numbers m, line) in o) none
  rows_get n (l ∷ lines) (suc i) line e =
      let next : n + 1 + i ≡ n + suc i = omega arith in
      rows_get (n + 1) lines i line e
      ∙ ap (λ (m : ℕ). let o : Option (ℕ × X) = Some (slice_index numbers m, line) in o) next

-- ---- the turns of each lane

-- the lane that has its turn had a line left
pub turns_next : {X : Type 0} (lanes : List (List X)) (order : List ℕ) (k : ℕ) (row : X)
    (rest : List X)
    → lane_at (left lanes order) k ≡ row ∷ rest
    → ((j : ℕ)
    → turns_of j order + length (lane_at (left lanes order) j) ≡ length (lane_at lanes j))
    → (j : ℕ)
    → turns_of j (order ++ k ∷ []) + length (lane_at (left lanes (order ++ k ∷ [])) j)
    ≡ length (lane_at lanes j)
turns_next {X} lanes order k row rest had all j = go (k == j) refl
  where
    next : lane_at (left lanes (order ++ k ∷ [])) j ≡ lane_at (without_next (left lanes order) k) j
    next = ap (λ (l : List (List X)). lane_at l j) (left_more lanes order k)

    go : (t : Bool) → (k == j) ≡ t
        → turns_of j (order ++ k ∷ []) + length (lane_at (left lanes (order ++ k ∷ [])) j)
        ≡ length (lane_at lanes j)
    go true e =
        let same : k ≡ j = eqb-true k j e in
        let one : turns_of j (k ∷ []) ≡ 1 = rw e refl in
        let lane : lane_at (left lanes (order ++ k ∷ [])) j ≡ rest =
        next ∙ ap (λ (i : ℕ). lane_at (without_next (left lanes order) k) i) (sym same)
        ∙ same_lane (left lanes order) k ∙ ap (λ (l : List X). drop 1 l) had
        in
        let many : length (lane_at (left lanes order) j) ≡ suc (length rest) =
        ap (λ (i : ℕ). length (lane_at (left lanes order) i)) (sym same)
        ∙ ap (λ (l : List X). length l) had in
        let whole = all j in
        let turned = turns_more j k order in
        let left_over : length (lane_at (left lanes (order ++ k ∷ [])) j) ≡ length rest =
        ap (λ (l : List X). length l) lane in
        omega (arith, one, many, whole, turned, left_over)
    go false e =
        let none : turns_of j (k ∷ []) ≡ 0 = rw e refl in
        let lane : lane_at (left lanes (order ++ k ∷ [])) j ≡ lane_at (left lanes order) j =
        next ∙ other_lane (left lanes order) k j (λ s. eqb-false k j e (sym s)) in
        let whole = all j in
        let turned = turns_more j k order in
        let left_over : length (lane_at (left lanes (order ++ k ∷ [])) j)
        ≡ length (lane_at (left lanes order) j) =
        ap (λ (l : List X). length l) lane in
        omega (arith, none, whole, turned, left_over)

-- fewer lines are left behind a turn
pub fewer_left : {X : Type 0} (lanes : List (List X)) (k : ℕ) → 0 < length (lane_at lanes k)
    → length (flat_map (λ lane. lane) lanes)
    ≡ suc (length (flat_map (λ lane. lane) (without_next lanes k)))
fewer_left [] k some = absurd (omega arith)
fewer_left ([] ∷ lanes) zero some = absurd (omega arith)
fewer_left ((x ∷ lane) ∷ lanes) zero some = refl
fewer_left {X} (lane ∷ lanes) (suc k) some =
    let more = fewer_left lanes k some in
    let a = length-append lane (flat_map (λ lane. lane) lanes) in
    let b = length-append lane (flat_map (λ lane. lane) (without_next lanes k)) in
    omega (arith, more, a, b)

-- ---- how many lines there are

next_length : {X : Type 0} (lanes : List (List X)) (k : ℕ)
    → length (flat_map (λ lane. lane) lanes)
    ≡ length (take 1 (lane_at lanes k))
    + length (flat_map (λ lane. lane) (without_next lanes k))
next_length [] k = refl
next_length {X} (lane ∷ lanes) zero =
    let whole = length-append lane (flat_map (λ lane. lane) lanes) in
    let rest = length-append (drop 1 lane) (flat_map (λ lane. lane) lanes) in
    let parts = length-append (take 1 lane) (drop 1 lane) in
    let same : length (take 1 lane ++ drop 1 lane) ≡ length lane =
    ap (λ (l : List X). length l) (take-append-drop 1 lane) in
    omega (arith, whole, rest, parts, same)
next_length (lane ∷ lanes) (suc k) =
    let more = next_length lanes k in
    let a = length-append lane (flat_map (λ lane. lane) lanes) in
    let b = length-append lane (flat_map (λ lane. lane) (without_next lanes k)) in
    omega (arith, more, a, b)

pub merged_length : {X : Type 0} (lanes : List (List X)) (order : List ℕ)
    → length (merged lanes order) + length (flat_map (λ lane. lane) (left lanes order))
    ≡ length (flat_map (λ lane. lane) lanes)
merged_length lanes [] = omega arith
merged_length lanes (k ∷ order) =
    let more = merged_length (without_next lanes k) order in
    let one = next_length lanes k in
    let both = length-append (take 1 (lane_at lanes k)) (merged (without_next lanes k) order) in
    omega (arith, more, one, both)
