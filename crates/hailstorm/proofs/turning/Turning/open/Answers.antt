use Rattle.std.proofs.Common.{◌≡◌, ◌∷◌, ℕ, List, [], length, map, take, false, refl, ap, subst, sym, ◌∙◌, arith}
use Rattle.hail_script.specs.Lanes.{Laned, cut, rows}
use Rattle.hail_script.specs.Scenario.{Scenario}
use Rattle.cw_rules.specs.World.{Line}
use Rattle.hail_world.specs.Clusters.{Cluster}
use Rattle.hail_world.specs.Played.{lines_of}
use Rattle.hail_world.specs.Places.{script_rules}
use Rattle.hail_world.specs.Runs.{IsStopped, opened}
use Rattle.hailstorm.specs.Turns.{between}
use Rattle.hailstorm.proofs.Between.{between_seen, rows_many}
use Rattle.hailstorm.proofs.Prefixed.{opens_between, prefix_is}
use Rattle.hailstorm.proofs.turning.Turning.open.Goals as goal

pub play_before-requires-clause-within : goal.play_before-requires-clause-within
play_before-requires-clause-within g c =
    let parts = c.into_parts-plain.ensures.parts in
    let many : length c.args.script.script.lines ≡ length c.lines.result.now =
    ap (λ (l : List Line). length l)
    (sym
    (c.lines.ensures.value
    ∙ ap (λ (p : Scenario × List ℕ × List ℕ). p.0.lines) parts)) in
    let same : length c.in_ok-cluster.cluster.script.lines ≡ length c.args.script.script.lines =
    ap (λ (k : Cluster). length k.script.lines) c.in_ok-cluster.ensures
    ∙ ap (λ (p : Scenario × List ℕ × List ℕ). length p.0.lines) parts in
    omega (arith, many, same, c.in_ok-before.ensures.within)

-- the parts are those of the script
script_is : (a b : Scenario × List ℕ × List ℕ) → a ≡ b → a.0 ≡ b.0
script_is a b e = ap (λ (p : Scenario × List ℕ × List ℕ). p.0) e

numbers_are : (a b : Scenario × List ℕ × List ℕ) → a ≡ b → a.1 ≡ b.1
numbers_are a b e = ap (λ (p : Scenario × List ℕ × List ℕ). p.1) e

sizes_are : (a b : Scenario × List ℕ × List ℕ) → a ≡ b → a.2 ≡ b.2
sizes_are a b e = ap (λ (p : Scenario × List ℕ × List ℕ). p.2) e

-- how the lines were cut
cut_is : (x : Laned) (sizes seen : List ℕ) (before count : ℕ) (cursors : List (ℕ × ℕ))
    → seen ≡ sizes → sizes ≡ x.sizes → length (rows x) ≡ count
    → ((all : List (ℕ × Line)) → length all ≡ count
    → cut seen all ≡ take before all ∷ map (between all) cursors)
    → cut x.sizes (rows x) ≡ take before (rows x) ∷ map (between (rows x)) cursors
cut_is x sizes seen before count cursors a b many h =
    ap (λ (l : List ℕ). cut l (rows x)) (sym (a ∙ b)) ∙ h (rows x) many

pub returns-in-Err-clause-err : goal.returns-in-Err-clause-err
returns-in-Err-clause-err g c =
    let x : Laned = c.args.script in
    let hash = g.H.Hasher.digest_of in
    let parts = c.into_parts-plain.ensures.parts in
    let script = script_is _ _ parts in
    let numbers = numbers_are _ _ parts in
    let many =
    rows_many x c.lines.result.now
    (c.lines.ensures.value ∙ ap (λ (s : Scenario). s.lines) script) in
    let is =
    cut_is x c.into_parts-plain.result.2 c.as_slice.result.now c.in_ok-before.before
    (length c.lines.result.now) c.in_ok-before.cursors.items c.as_slice.ensures
    (sizes_are _ _ parts) many c.in_ok-before.ensures.before in
    let stopped =
    c.in-Err.ensures.err x (sym (ap (λ (k : Cluster). k.script) c.in_ok-cluster.ensures ∙ script))
    (sym (c.as_slice-2.ensures ∙ numbers)) in
    subst
    (λ (l : List (ℕ × Line)). IsStopped (script_rules hash x.script) (opened hash x.script)
    (lines_of l) c.in-Err.error)
    (sym (prefix_is x c.in_ok-before.before c.in_ok-before.cursors.items is)) stopped

pub invariant_of-result : goal.invariant_of-result
invariant_of-result g c =
    let x : Laned = c.args.script in
    let parts = c.into_parts-plain.ensures.parts in
    let script = script_is _ _ parts in
    let numbers = numbers_are _ _ parts in
    let many =
    rows_many x c.lines.result.now
    (c.lines.ensures.value ∙ ap (λ (s : Scenario). s.lines) script) in
    let is =
    cut_is x c.into_parts-plain.result.2 c.as_slice.result.now c.in_ok-before.before
    (length c.lines.result.now) c.in_ok-before.cursors.items c.as_slice.ensures
    (sizes_are _ _ parts) many c.in_ok-before.ensures.before in
    let opened_is =
    c.in_ok-cluster.ensures
    ∙ ap
    (λ (s : Scenario). let k : Cluster = record { script = s; rows = []; over = false } in k)
    script in
    let plays =
    c.in-Ok.ensures.ok x (sym (ap (λ (k : Cluster). k.script) c.in_ok-cluster.ensures ∙ script))
    (sym (c.as_slice-2.ensures ∙ numbers))
    ∙ ap
    (λ (k : Cluster). let n : Cluster =
    record k { rows = take c.in_ok-before.before (rows x) } in n)
    opened_is in
    between_seen x c.play_before.new.cluster.script c.into_parts-plain.result.1
    c.into_parts-plain.result.2 [] c.new.result c.play_before.new.cluster
    c.in_ok-before.cursors.items c.in_ok-before.cursors.items
    (ap (λ (k : Cluster). k.script) plays) numbers (sizes_are _ _ parts) c.new.ensures refl
    (opens_between x c.in_ok-before.before c.in_ok-before.cursors.items is
    c.play_before.new.cluster plays)

pub returns-in-Ok-clause-ok : goal.returns-in-Ok-clause-ok
returns-in-Ok-clause-ok g c =
    let x : Laned = c.args.script in
    let parts = c.into_parts-plain.ensures.parts in
    let script = script_is _ _ parts in
    let same : c.play_before.new.cluster.script ≡ x.script =
    ap (λ (k : Cluster). k.script)
    (c.in-Ok.ensures.ok x
    (sym (ap (λ (k : Cluster). k.script) c.in_ok-cluster.ensures ∙ script))
    (sym (c.as_slice-2.ensures ∙ numbers_are _ _ parts)))
    ∙ ap (λ (k : Cluster). k.script) c.in_ok-cluster.ensures ∙ script in
    rw (same, numbers_are _ _ parts, sizes_are _ _ parts, c.new.ensures) refl
