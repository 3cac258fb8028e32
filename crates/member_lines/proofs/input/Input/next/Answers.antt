use Rattle.std.proofs.Common.{[], ap, arith, length, sym, ◌≡◌, ◌≢◌, ◌∙◌, ℕ}
use Rattle.std.proofs.lemmas.Bool.{eqb-false, eqb-true}
use Rattle.std.proofs.lemmas.List.{nil_from_length}
use Rattle.member_lines.specs.Ahead.{Ahead}
use Rattle.member_lines.proofs.Reading.{filled, filled_none, moved_all, moved_line, read_all, read_end, read_endless, read_fault, read_last, read_line, read_more, read_short}
use Rattle.member_lines.proofs.input.Input.next.Goals as goal
use Rattle.member_lines.proofs.input.Input.next.Goals.{else-is_empty, then-is_empty}

pub returns-in-Ok-true : goal.returns-in-Ok-true
returns-in-Ok-true g c =
    read_line _ _ _ _ _ _ _ _ c.pieces.invariant
    (moved_line _ _ _ c.in-Ok-true.field-0-test c.in-Ok-true.ensures.ok)

pub returns-in-Err-fill : goal.returns-in-Err-fill
returns-in-Err-fill g c =
    let moves = moved_all _ _ _ c.in-Ok-false.field-0-test c.in-Ok-false.ensures.ok in
    let has = read_all _ _ _ _ _ _ _ _ c.pieces.invariant moves in
    read_fault _ _ _ _ _ _ _ _ _ _ has moves.none c.in-Err-fill.ensures.cause.later
    c.in-Err-fill.ensures.err c.in-Err-fill.ensures.cause.failed
    c.in-Err-fill.ensures.same c.in-Err-fill.ensures.none

pub returns-in-Err : goal.returns-in-Err
returns-in-Err g c = read_short _ _ _ _ _ _ _ _ c.pieces.invariant c.in-Err.ensures.err

pub returns-in-Ok-false-fill : goal.returns-in-Ok-false-fill
returns-in-Ok-false-fill g c =
    let moves = moved_all _ _ _ c.in-Ok-false.field-0-test c.in-Ok-false.ensures.ok in
    let has = read_all _ _ _ _ _ _ _ _ c.pieces.invariant moves in
    let fills = c.in-Ok-false-fill.ensures in
    let none = filled_none _ _ _ _ c.in-Ok-false-fill.field-0-test fills.ok in
    let line = c.self-in-pieces.inside.line in
    let same : line.items ≡ c.move_ahead.new.self.line =
    ap (λ (a : Ahead). a.line) c.self-in-pieces.view_is ∙ fills.same in
    elim c.if-is_empty.branch [
      | then-is_empty w ↦
          let empty : line.len ≡ 0 =
          eqb-true line.len 0 (sym c.is_empty.ensures ∙ w.if-is_empty.true) in
          let short : length line.items ≡ 0 = omega arith in
          read_end _ _ _ _ _ _ _ _ _ _ _ has moves.none fills.cause.later none
          (sym same ∙ nil_from_length line.items short) w.result-is
      | else-is_empty w ↦
          let some : line.items ≢ [] =
          λ is. eqb-false line.len 0 (sym c.is_empty.ensures ∙ w.if-is_empty.false)
          (omega (arith, ap (length {A = ℕ}) is)) in
          read_last _ _ _ _ _ _ _ _ _ _ _ has moves.none fills.cause.later none
          (λ is. some (same ∙ is)) fills.same w.result-is
    ]

pub pieces-preserved : goal.pieces-preserved
pieces-preserved g c =
    let moves = moved_all _ _ _ c.in-Ok-false.field-0-test c.in-Ok-false.ensures.ok in
    let has = read_all _ _ _ _ _ _ _ _ c.pieces.invariant moves in
    read_more _ _ _ _ _ _ _ _ _ _ has moves.none c.in-Ok-true-fill.ensures.cause.later
    (filled _ _ _ _ c.in-Ok-true-fill.field-0-test c.in-Ok-true-fill.ensures.ok)
    c.in-Ok-true-fill.ensures.same

pub returns : goal.returns
returns g c = read_endless _ _ _ _ _ _ _ c.pieces.invariant c.pieces-test.false
