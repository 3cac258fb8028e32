use Rattle.std.proofs.Common.{◌≡◌, ◌<◌, [], length, None, sym, ap, subst, ◌∙◌}
use Rattle.std.specs.Prelude.{IfSome, flat_map}
use Rattle.hail_script.specs.Lanes.{Laned, lanes}
use Rattle.hail_script.specs.Scenario.{Scenario}
use Rattle.hailstorm.specs.Lanes.{lane_at, left}
use Rattle.hailstorm.specs.Turns.{Turning}
use Rattle.hailstorm.proofs.Between.{none_next, rows_many, some_next}
use Rattle.hail_world.proofs.Nothing.{none_unless}
use Rattle.hailstorm.proofs.turning.Turning.next_lane.Goals as goal

pub returns-clause-some : goal.returns-clause-some
returns-clause-some g c =
    let i = c.self.inside in
    let x : Laned =
    record { script = i.cluster.script; numbers = i.numbers; sizes = i.sizes } in
    let none = none_unless i.stopped (sym c.is_some.ensures ∙ c.if-is_some.false) in
    let many =
    rows_many x c.lines-count.result.now
    (c.lines-count.ensures.value ∙ ap (λ (s : Scenario). s.lines) c.script.ensures) in
    subst
    (λ (t : Turning). IfSome c.first_left.result
    (λ k. (t.stopped ≡ None) × (0 < length (lane_at (left (lanes t.laned) t.order) k))))
    c.self.view_is
    (some_next g.H.Hasher.digest_of x i.order i.stopped i.cluster i.cursors.items
    c.self.invariant c.deref.result.now (length c.lines-count.result.now) c.first_left.result
    none c.deref.ensures.value many c.first_left.ensures.some)

pub returns-clause-none : goal.returns-clause-none
returns-clause-none g c = λ nothing _.
    let i = c.self.inside in
    let x : Laned =
    record { script = i.cluster.script; numbers = i.numbers; sizes = i.sizes } in
    let none = none_unless i.stopped (sym c.is_some.ensures ∙ c.if-is_some.false) in
    let many =
    rows_many x c.lines-count.result.now
    (c.lines-count.ensures.value ∙ ap (λ (s : Scenario). s.lines) c.script.ensures) in
    subst (λ (t : Turning). flat_map (λ lane. lane) (left (lanes t.laned) t.order) ≡ [])
    c.self.view_is
    (none_next g.H.Hasher.digest_of x i.order i.stopped i.cluster i.cursors.items
    c.self.invariant c.deref.result.now (length c.lines-count.result.now)
    none c.deref.ensures.value many (c.first_left.ensures.none nothing))
