use Rattle.std.proofs.Common.{rules, ◌≡◌, ◌≤◌, Some, length, slice_get, sym, ap, ◌∙◌, arith}
use Rattle.std.proofs.lemmas.Option.{slice_get_read}
use Rattle.hailstorm.proofs.Cursoring.{behind_end, behind_last, no_lane, past_none}
use Rattle.hailstorm.proofs.Merging.{cursor_lane}
use Rattle.hailstorm.proofs.cursors.cursor_at.Goals.{then-from-end-via-then-from-end, then-from-end-via-else-from-end+then-from-count}
use Rattle.hailstorm.proofs.cursors.cursor_at.Goals as goal

pub returns-then-from-end-clause-none : goal.returns-then-from-end-clause-none
returns-then-from-end-clause-none c = λ _ rows many.
    let f = c.in-Some.field-0.now in
    let at : slice_get c.args.cursors.now c.args.lane ≡ Some f = search (rules, slice_get_read) in
    cursor_lane rows c.args.cursors.now c.args.lane f at
    ∙ elim c.then-from-end.branch [
      | then-from-end-via-then-from-end w ↦ behind_end rows f.0 f.1
          (omega (arith, w.if-from-end.true))
      | then-from-end-via-else-from-end+then-from-count w ↦ behind_last rows f.0 f.1
          (omega (arith, many, w.if-from-count.true))
    ]

pub returns-in-None-clause-none : goal.returns-in-None-clause-none
returns-in-None-clause-none c =
    λ _ rows many. no_lane rows c.args.cursors.now c.args.lane
    (past_none c.args.cursors.now c.args.lane (search rules))

pub returns-else-from-count-clause-some : goal.returns-else-from-count-clause-some
returns-else-from-count-clause-some c =
    (search (rules, slice_get_read), c.if-from-end.false, c.if-from-count.false)
