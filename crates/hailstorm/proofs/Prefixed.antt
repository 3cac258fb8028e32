-- The lines before all lanes.
use Rattle.std.proofs.Common.{◌≡◌, ℕ, zero, suc, ◌+◌, ◌<◌, ◌≤◌, false, List, [], ◌∷◌, ◌++◌, map, take, drop, Some, None, refl, sym, ap, subst, ◌∙◌, arith, append-nil}
use Rattle.std.specs.Prelude.{slice_get, slice_index}
use Rattle.std.specs.Option.{option_map_or}
use Rattle.cw_rules.specs.Rules.{Rules}
use Rattle.cw_rules.specs.World.{Line, World}
use Rattle.hail_script.specs.declared.error.RunError.{RunError}
use Rattle.hail_script.specs.Lanes.{Laned, cut, lanes, prefix, rows}
use Rattle.hail_world.specs.Clusters.{Cluster}
use Rattle.hail_world.specs.Played.{lines_of}
use Rattle.hail_world.specs.Runs.{IsStopped}
use Rattle.hailstorm.specs.Turns.{IsBetween, between}
use Rattle.hailstorm.proofs.Laned.{lines_joined, row_at}
use Rattle.hail_world.proofs.Turned.{lines_more, stopped_behind}

take_next : {X : Type 0} (xs : List X) (i : ℕ) (x : X) → slice_get xs i ≡ Some x
    → take (i + 1) xs ≡ take i xs ++ x ∷ []
take_next [] i x e = absurd (let no : None ≡ Some x = e in cc)
take_next {X} (y ∷ xs) zero x e =
    let same : y ≡ x = (let s : Some y ≡ Some x = e in cc) in ap (λ (z : X). z ∷ []) same
take_next {X} (y ∷ xs) (suc i) x e =
    let n : suc i + 1 ≡ suc (i + 1) = omega arith in
    ap (λ (k : ℕ). take k (y ∷ xs)) n ∙ ap (λ (l : List X). y ∷ l) (take_next xs i x e)

-- one line more
pub taken_more : (x : Laned) (i : ℕ) (line : Line) → slice_get x.script.lines i ≡ Some line
    → take (i + 1) (rows x) ≡ take i (rows x) ++ (slice_index x.numbers i, line) ∷ []
taken_more x i line at = take_next (rows x) i (slice_index x.numbers i, line) (row_at x i line at)

lines_with : (x : Laned) (i : ℕ) (line : Line) → slice_get x.script.lines i ≡ Some line
    → lines_of (take (i + 1) (rows x)) ≡ lines_of (take i (rows x)) ++ line ∷ []
lines_with x i line at =
    ap (λ (l : List (ℕ × Line)). lines_of l) (taken_more x i line at)
    ∙ lines_more (take i (rows x)) (slice_index x.numbers i) line

take_split : {X : Type 0} (xs : List X) (i n : ℕ) → i ≤ n
    → take n xs ≡ take i xs ++ drop i (take n xs)
take_split {X} xs zero n lt = refl
take_split {X} [] (suc i) zero lt = refl
take_split {X} [] (suc i) (suc n) lt = refl
take_split {X} (x ∷ xs) (suc i) zero lt = absurd (omega arith)
take_split {X} (x ∷ xs) (suc i) (suc n) lt =
    ap (λ (l : List X). x ∷ l) (take_split xs i n (omega arith))

-- lines that stop at a line stop with more lines behind it
pub before_stops : (r : Rules) (w : World) (x : Laned) (i n : ℕ) (line : Line) (e : RunError)
    → slice_get x.script.lines i ≡ Some line → i < n
    → IsStopped r w (lines_of (take i (rows x)) ++ line ∷ []) e
    → IsStopped r w (lines_of (take n (rows x))) e
before_stops r w x i n line e at lt h =
    let rest = drop (i + 1) (take n (rows x)) in
    let split : lines_of (take n (rows x))
    ≡ (lines_of (take i (rows x)) ++ line ∷ []) ++ lines_of rest =
    ap (λ (l : List (ℕ × Line)). lines_of l) (take_split (rows x) (i + 1) n (omega arith))
    ∙ lines_joined (take (i + 1) (rows x)) rest
    ∙ ap (λ (l : List Line). l ++ lines_of rest) (lines_with x i line at)
    in
    subst (λ (l : List Line). IsStopped r w l e) (sym split)
    (stopped_behind r w (lines_of (take i (rows x)) ++ line ∷ []) (lines_of rest) e h)

-- ---- before the first turn

module _ (x : Laned) (n : ℕ) (cursors : List (ℕ × ℕ))
    (is : cut x.sizes (rows x) ≡ take n (rows x) ∷ map (between (rows x)) cursors) where
  pub prefix_is : prefix x ≡ take n (rows x)
  prefix_is =
      ap
      (λ (l : List (List (ℕ × Line))). option_map_or (λ (run : List (ℕ × Line)). run)
      (slice_get l 0) [])
      is

  lanes_are : lanes x ≡ map (between (rows x)) cursors
  lanes_are = ap (λ (l : List (List (ℕ × Line))). drop 1 l) is

  pub opens_between : (cluster : Cluster)
      → cluster ≡ record { script = x.script; rows = take n (rows x); over = false }
      → IsBetween x [] cluster cursors
  opens_between cluster plays = record {
    played =
        plays
        ∙ ap
        (λ (l : List (ℕ × Line)). let c : Cluster =
        record { script = x.script; rows = l; over = false } in c)
        (sym prefix_is ∙ sym (append-nil (prefix x)));
    rest = lanes_are;
    turns = λ k. omega arith;
  }
