-- Runs of lines, by the places of their first lines and their ends.
use Rattle.std.proofs.Common.{◌≡◌, ℕ, zero, suc, ◌+◌, ◌<◌, ◌≤◌, List, [], ◌∷◌, ◌++◌, length, map, take, drop, get_or, Some, None, refl, sym, ap, ◌∙◌, arith, append_assoc}
use Rattle.std.specs.Prelude.{slice_get}
use Rattle.std.proofs.lemmas.List.{drop_all, take_all}
use Rattle.cw_rules.specs.World.{Line}
use Rattle.hail_script.specs.Lanes.{cut}
use Rattle.hailstorm.specs.Lanes.{lane_at}
use Rattle.hailstorm.specs.Turns.{between}
use Rattle.hailstorm.proofs.Merging.{between_next, cursor_lane}

map_joined : (rows : List (ℕ × Line)) (runs more : List (ℕ × ℕ))
    → map (between rows) (runs ++ more) ≡ map (between rows) runs ++ map (between rows) more
map_joined rows [] more = refl
map_joined rows (run ∷ runs) more =
    ap (λ (l : List (List (ℕ × Line))). between rows run ∷ l) (map_joined rows runs more)

-- one run more
pub run_next : (rows : List (ℕ × Line)) (runs new : List (ℕ × ℕ)) (sizes rest : List ℕ)
    (size from end : ℕ) (all : List (List (ℕ × Line)))
    → sizes ≡ size ∷ rest → new ≡ runs ++ (from, end) ∷ []
    → between rows (from, end) ≡ take size (drop from rows)
    → drop end rows ≡ drop size (drop from rows)
    → map (between rows) runs ++ cut sizes (drop from rows) ≡ all
    → map (between rows) new ++ cut rest (drop end rows) ≡ all
run_next rows runs new sizes rest size from end all is pushed run behind before =
    ap (λ (l : List (ℕ × ℕ)). map (between rows) l ++ cut rest (drop end rows)) pushed
    ∙ ap (λ (l : List (List (ℕ × Line))). l ++ cut rest (drop end rows))
    (map_joined rows runs ((from, end) ∷ []))
    ∙ append_assoc (map (between rows) runs) (between rows (from, end) ∷ [])
    (cut rest (drop end rows))
    ∙ ap (λ (l : List (ℕ × Line)). map (between rows) runs ++ l ∷ cut rest (drop end rows)) run
    ∙ ap
    (λ (l : List (ℕ × Line)). map (between rows) runs
    ++ take size (drop from rows) ∷ cut rest l)
    behind
    ∙ ap (λ (l : List ℕ). map (between rows) runs ++ cut l (drop from rows)) (sym is) ∙ before

-- and the last one
pub run_last : (rows : List (ℕ × Line)) (runs new : List (ℕ × ℕ)) (sizes : List ℕ) (from count : ℕ)
    (all : List (List (ℕ × Line)))
    → sizes ≡ [] → new ≡ runs ++ (from, count) ∷ [] → length rows ≡ count
    → map (between rows) runs ++ cut sizes (drop from rows) ≡ all → map (between rows) new ≡ all
run_last rows runs new sizes from count all none pushed many before =
    let whole : between rows (from, count) ≡ drop from rows =
    ap (λ (l : List (ℕ × Line)). drop from l) (take_all count rows (omega (arith, many))) in
    ap (λ (l : List (ℕ × ℕ)). map (between rows) l) pushed
    ∙ map_joined rows runs ((from, count) ∷ [])
    ∙ ap (λ (l : List (ℕ × Line)). map (between rows) runs ++ l ∷ []) whole
    ∙ ap (λ (l : List ℕ). map (between rows) runs ++ cut l (drop from rows)) (sym none) ∙ before

short_take : (n : ℕ) (rows : List (ℕ × Line)) → length (take n rows) ≤ n
short_take zero rows = omega arith
short_take (suc n) [] = omega arith
short_take (suc n) (row ∷ rows) = let more = short_take n rows in omega (arith, more)

less_take : (n : ℕ) (rows : List (ℕ × Line)) → length (take n rows) ≤ length rows
less_take zero rows = omega arith
less_take (suc n) [] = omega arith
less_take (suc n) (row ∷ rows) = let more = less_take n rows in omega (arith, more)

-- nothing lies behind an end, or behind the last line
pub behind_end : (rows : List (ℕ × Line)) (from end : ℕ) → end ≤ from
    → between rows (from, end) ≡ []
behind_end rows from end past =
    let few = short_take end rows in drop_all from (take end rows) (omega (arith, few))

pub behind_last : (rows : List (ℕ × Line)) (from end : ℕ) → length rows ≤ from
    → between rows (from, end) ≡ []
behind_last rows from end past =
    let few = less_take end rows in drop_all from (take end rows) (omega (arith, few))

got : (rows : List (ℕ × Line)) (i : ℕ) → i < length rows
    → (row : ℕ × Line) × (slice_get rows i ≡ Some row)
got [] i lt = absurd (omega arith)
got (row ∷ rows) zero lt = (row, refl)
got (row ∷ rows) (suc i) lt = got rows i (omega arith)

-- a lane whose cursor stands before its end has a line left
pub some_left : (rows : List (ℕ × Line)) (cursors : List (ℕ × ℕ)) (k : ℕ) (c : ℕ × ℕ)
    → slice_get cursors k ≡ Some c → c.0 < c.1 → c.0 < length rows
    → 0 < length (lane_at (map (between rows) cursors) k)
some_left rows cursors k c at lt within =
    let row = got rows c.0 within in
    let lane = cursor_lane rows cursors k c at ∙ between_next rows c.0 c.1 row.0 lt row.1 in
    let many : length (lane_at (map (between rows) cursors) k)
    ≡ suc (length (between rows (c.0 + 1, c.1))) =
    ap (λ (l : List (ℕ × Line)). length l) lane in
    omega (arith, many)

-- no lane of that number
pub no_lane : (rows : List (ℕ × Line)) (cursors : List (ℕ × ℕ)) (k : ℕ) → slice_get cursors k ≡ None
    → lane_at (map (between rows) cursors) k ≡ []
no_lane rows [] k e = refl
no_lane rows (c ∷ cursors) zero e = absurd (let no : Some c ≡ None = e in cc)
no_lane rows (c ∷ cursors) (suc k) e = no_lane rows cursors k e

pub past_none : {X : Type 0} (xs : List X) (k : ℕ) → length xs ≤ k → slice_get xs k ≡ None
past_none [] k past = refl
past_none (x ∷ xs) zero past = absurd (omega arith)
past_none (x ∷ xs) (suc k) past = past_none xs k (omega arith)

pub drop_item : {X : Type 0} (xs : List X) (i : ℕ) (d x : X) → i < length xs → x ≡ get_or xs i d
    → drop i xs ≡ x ∷ drop (i + 1) xs
drop_item [] i d x lt is = absurd (omega arith)
drop_item {X} (y ∷ xs) zero d x lt is = ap (λ (z : X). z ∷ xs) (sym is)
drop_item (y ∷ xs) (suc i) d x lt is =
    let n : suc i + 1 ≡ suc (i + 1) = omega arith in rw n (drop_item xs i d x (omega arith) is)
