use Rattle.std.proofs.Common.{◌≡◌, ◌+◌, ◌++◌, ◌∷◌, ℕ, [], List, None, Option, Some, length, refl, ap, sym, subst, ◌∙◌, arith}
use Rattle.std.specs.Prelude.{slice_get, slice_index, slice_set}
use Rattle.cw_rules.specs.Report.{entry_of}
use Rattle.cw_rules.specs.World.{Line}
use Rattle.hail_script.specs.declared.error.RunError.{RunError}
use Rattle.hail_script.specs.Lanes.{Laned, lanes}
use Rattle.hail_script.specs.Scenario.{Scenario}
use Rattle.hail_world.specs.Clusters.{Cluster, world_in}
use Rattle.hail_world.specs.Places.{script_rules}
use Rattle.hail_world.proofs.Clusters.{line_there}
use Rattle.hailstorm.specs.Lanes.{lane_at, left}
use Rattle.hailstorm.specs.Turns.{IsOver, Turning}
use Rattle.hailstorm.proofs.Between.{advanced, between_of, between_seen, nothing_next, over_by, over_told, refused, replied, rows_many, turns_none}
use Rattle.hailstorm.proofs.Laned.{turned_on}
use Rattle.hail_world.proofs.Nothing.{none_when}
use Rattle.hailstorm.proofs.turning.Turning.answer_twice.Goals as goal

pub returns-in_default-cursor_at-clause-lawful : goal.returns-in_default-cursor_at-clause-lawful
returns-in_default-cursor_at-clause-lawful g c =
    let i = c.self.inside in
    let x : Laned =
    record { script = i.cluster.script; numbers = i.numbers; sizes = i.sizes } in
    let hash = g.H.Hasher.digest_of in
    let none : i.stopped ≡ None = none_when i.stopped (λ x e. c.in_default.not-Some x e) in
    let none_at = none_when c.cursor_at.result (λ x e. c.in_default-cursor_at.not-Some x e) in
    let many =
    rows_many x c.lines-count.result.now
    (c.lines-count.ensures.value ∙ ap (λ (s : Scenario). s.lines) c.script.ensures) in
    let nothing =
    nothing_next hash x i.order i.stopped i.cluster i.cursors.items c.self.invariant
    c.deref.result.now (length c.lines-count.result.now) c.args.lane
    none c.deref.ensures.value many (c.cursor_at.ensures.none none_at)
    in (
      refl,
      turns_none hash c.args.self.now c.args.lane
          (ap (λ (t : Turning). t.stopped) (sym c.self.view_is) ∙ none)
          (subst (λ (t : Turning). lane_at (left (lanes t.laned) t.order) c.args.lane ≡ [])
          c.self.view_is nothing),
    )

pub play_twice-requires-clause-whole : goal.play_twice-requires-clause-whole
play_twice-requires-clause-whole g c = λ κs within.
    let i = c.self.inside in
    let x : Laned =
    record { script = i.cluster.script; numbers = i.numbers; sizes = i.sizes } in
    let none : i.stopped ≡ None = none_when i.stopped (λ x e. c.in_default.not-Some x e) in
    ap (λ (k : Cluster). k.over)
    (between_of g.H.Hasher.digest_of x i.order i.stopped i.cluster i.cursors.items
    c.self.invariant none).played

pub play_twice-requires-clause-there : goal.play_twice-requires-clause-there
play_twice-requires-clause-there g c =
    let i = c.self.inside in
    let all = c.lines-count.ensures.value ∙ ap (λ (s : Scenario). s.lines) c.script.ensures in
    let many : length i.cluster.script.lines ≡ length c.lines-count.result.now =
    ap (λ (l : List Line). length l) (sym all) in
    omega (arith, many, c.in-Some-cursor_at.ensures.some.2)

pub returns-in-Ok-play_twice-clause-lawful : goal.returns-in-Ok-play_twice-clause-lawful
returns-in-Ok-play_twice-clause-lawful g c =
    let i = c.self.inside in
    let x : Laned =
    record { script = i.cluster.script; numbers = i.numbers; sizes = i.sizes } in
    let hash = g.H.Hasher.digest_of in
    let none : i.stopped ≡ None = none_when i.stopped (λ x e. c.in_default.not-Some x e) in
    let h =
    between_of hash x i.order i.stopped i.cluster i.cursors.items c.self.invariant none in
    let w = c.in-Some-cursor_at in
    let from : ℕ = w.from in
    let all = c.lines-count.ensures.value ∙ ap (λ (s : Scenario). s.lines) c.script.ensures in
    let many : length i.cluster.script.lines ≡ length c.lines-count.result.now =
    ap (λ (l : List Line). length l) (sym all) in
    let there = line_there i.cluster.script.lines from (omega (arith, many, w.ensures.some.2)) in
    let at : slice_get i.cursors.items c.args.lane ≡ Some (from, w.end) =
    subst (λ (l : List (ℕ × ℕ)). slice_get l c.args.lane ≡ Some (from, w.end))
    c.deref.ensures.value w.ensures.some.0 in
    let number : c.number_of-number.result ≡ slice_index i.numbers from =
    c.number_of-number.ensures ∙ ap (λ (l : List ℕ). slice_index l from) c.as_slice.ensures in
    let old : Turning = record { laned = x; order = i.order; stopped = i.stopped } in
    replied hash old c.args.self.now _ c.args.lane c.in-Ok-play_twice.first c.self.view_is
    (ap
    (λ (s : Scenario). let y : Laned =
    record { script = s; numbers = i.numbers; sizes = i.sizes } in y)
    c.play_twice.ensures.script)
    none
    (advanced hash x i.order i.cluster i.cursors.items h c.args.lane from w.end there.0 at
    w.ensures.some.1 there.1 c.in-Ok-play_twice.first
    (c.in-Ok-play_twice.ensures.gives there.0 there.1
    ∙ ap
    (λ (n : ℕ). entry_of (script_rules hash i.cluster.script) (world_in hash i.cluster) n there.0)
    number))
    c.in-Ok.ensures.ok refl

pub returns-in-Err-play_twice-clause-lawful : goal.returns-in-Err-play_twice-clause-lawful
returns-in-Err-play_twice-clause-lawful g c =
    let i = c.self.inside in
    let x : Laned =
    record { script = i.cluster.script; numbers = i.numbers; sizes = i.sizes } in
    let hash = g.H.Hasher.digest_of in
    let none : i.stopped ≡ None = none_when i.stopped (λ x e. c.in_default.not-Some x e) in
    let h =
    between_of hash x i.order i.stopped i.cluster i.cursors.items c.self.invariant none in
    let w = c.in-Some-cursor_at in
    let from : ℕ = w.from in
    let all = c.lines-count.ensures.value ∙ ap (λ (s : Scenario). s.lines) c.script.ensures in
    let many : length i.cluster.script.lines ≡ length c.lines-count.result.now =
    ap (λ (l : List Line). length l) (sym all) in
    let there = line_there i.cluster.script.lines from (omega (arith, many, w.ensures.some.2)) in
    let at : slice_get i.cursors.items c.args.lane ≡ Some (from, w.end) =
    subst (λ (l : List (ℕ × ℕ)). slice_get l c.args.lane ≡ Some (from, w.end))
    c.deref.ensures.value w.ensures.some.0 in
    let old : Turning = record { laned = x; order = i.order; stopped = i.stopped } in
    let same =
    ap
    (λ (s : Scenario). let y : Laned =
    record { script = s; numbers = i.numbers; sizes = i.sizes } in y)
    c.play_twice.ensures.script in
    let over =
    over_told hash x (i.order ++ c.args.lane ∷ []) c.in-Err-play_twice.error
    c.errors_again-first-in-Err-play_twice.result.0 c.errors_again-first-in-Err-play_twice.ensures.value
    (over_by hash x i.order i.cluster i.cursors.items h c.args.lane from w.end there.0 at
    w.ensures.some.1 there.1 c.in-Err-play_twice.error c.play_twice.ensures.before
    (c.in-Err-play_twice.ensures.err there.0 there.1)) in
    refused hash old c.args.self.now _ c.args.lane c.errors_again-first-in-Err-play_twice.result.0 c.self.view_is
    same none
    (ap (λ (e : RunError). let o : Option RunError = Some e in o) c.met.ensures)
    (subst (λ (y : Laned). IsOver hash y c.push.new.self c.errors_again-first-in-Err-play_twice.result.0)
    (sym same)
    (subst (λ (l : List ℕ). IsOver hash x l c.errors_again-first-in-Err-play_twice.result.0)
    (sym c.in-Ok.ensures.ok) over))

pub invariant_of-self-in-Ok-play_twice : goal.invariant_of-self-in-Ok-play_twice
invariant_of-self-in-Ok-play_twice g c =
    let i = c.self.inside in
    let x : Laned =
    record { script = i.cluster.script; numbers = i.numbers; sizes = i.sizes } in
    let hash = g.H.Hasher.digest_of in
    let none : i.stopped ≡ None = none_when i.stopped (λ x e. c.in_default.not-Some x e) in
    let h =
    between_of hash x i.order i.stopped i.cluster i.cursors.items c.self.invariant none in
    let w = c.in-Some-cursor_at in
    let from : ℕ = w.from in
    let all = c.lines-count.ensures.value ∙ ap (λ (s : Scenario). s.lines) c.script.ensures in
    let many : length i.cluster.script.lines ≡ length c.lines-count.result.now =
    ap (λ (l : List Line). length l) (sym all) in
    let there = line_there i.cluster.script.lines from (omega (arith, many, w.ensures.some.2)) in
    let at : slice_get i.cursors.items c.args.lane ≡ Some (from, w.end) =
    subst (λ (l : List (ℕ × ℕ)). slice_get l c.args.lane ≡ Some (from, w.end))
    c.deref.ensures.value w.ensures.some.0 in
    let number : c.number_of-number.result ≡ slice_index i.numbers from =
    c.number_of-number.ensures ∙ ap (λ (l : List ℕ). slice_index l from) c.as_slice.ensures in
    let plays =
    c.in-Ok-play_twice.ensures.ok there.0 there.1
    ∙ ap
    (λ (n : ℕ). let k : Cluster =
    record i.cluster { rows = i.cluster.rows ++ (n, there.0) ∷ [] } in k)
    number in
    between_seen x c.play_twice.new.cluster.script i.numbers i.sizes
    (i.order ++ c.args.lane ∷ []) c.push.new.self c.play_twice.new.cluster
    (slice_set i.cursors.items c.args.lane (from + 1, w.end)) _ c.play_twice.ensures.script refl
    refl c.in-Ok.ensures.ok refl
    (turned_on x i.order i.cluster c.play_twice.new.cluster i.cursors.items
    (slice_set i.cursors.items c.args.lane (from + 1, w.end)) c.args.lane from w.end there.0 h at
    w.ensures.some.1 there.1 plays refl)

pub invariant_of-self-in-Err-play_twice : goal.invariant_of-self-in-Err-play_twice
invariant_of-self-in-Err-play_twice g c =
    let i = c.self.inside in
    let x : Laned =
    record { script = i.cluster.script; numbers = i.numbers; sizes = i.sizes } in
    let hash = g.H.Hasher.digest_of in
    let none : i.stopped ≡ None = none_when i.stopped (λ x e. c.in_default.not-Some x e) in
    let h =
    between_of hash x i.order i.stopped i.cluster i.cursors.items c.self.invariant none in
    let w = c.in-Some-cursor_at in
    let from : ℕ = w.from in
    let all = c.lines-count.ensures.value ∙ ap (λ (s : Scenario). s.lines) c.script.ensures in
    let many : length i.cluster.script.lines ≡ length c.lines-count.result.now =
    ap (λ (l : List Line). length l) (sym all) in
    let there = line_there i.cluster.script.lines from (omega (arith, many, w.ensures.some.2)) in
    let at : slice_get i.cursors.items c.args.lane ≡ Some (from, w.end) =
    subst (λ (l : List (ℕ × ℕ)). slice_get l c.args.lane ≡ Some (from, w.end))
    c.deref.ensures.value w.ensures.some.0 in
    let same =
    ap
    (λ (s : Scenario). let y : Laned =
    record { script = s; numbers = i.numbers; sizes = i.sizes } in y)
    c.play_twice.ensures.script in
    let over =
    over_told hash x (i.order ++ c.args.lane ∷ []) c.in-Err-play_twice.error
    c.errors_again-first-in-Err-play_twice.result.0
    c.errors_again-first-in-Err-play_twice.ensures.value
    (over_by hash x i.order i.cluster i.cursors.items h c.args.lane from w.end there.0 at
    w.ensures.some.1 there.1 c.in-Err-play_twice.error c.play_twice.ensures.before
    (c.in-Err-play_twice.ensures.err there.0 there.1)) in
    let now : Laned =
    record { script = c.play_twice.new.cluster.script; numbers = i.numbers; sizes = i.sizes } in
    subst (λ (e : RunError). IsOver hash now c.push.new.self e) (sym c.met.ensures)
    (subst
    (λ (y : Laned). IsOver hash y c.push.new.self c.errors_again-first-in-Err-play_twice.result.0)
    (sym same)
    (subst (λ (l : List ℕ). IsOver hash x l c.errors_again-first-in-Err-play_twice.result.0)
    (sym c.in-Ok.ensures.ok) over))
