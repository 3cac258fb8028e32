use Rattle.std.proofs.Common.{sym, arith}
use Rattle.std.proofs.lemmas.List.{length-take-le, take_all}
use Rattle.run_picture.proofs.whole.front.Goals as goal

pub returns-then-steps-le-MOST_ROWS-clause-value : goal.returns-then-steps-le-MOST_ROWS-clause-value
returns-then-steps-le-MOST_ROWS-clause-value c =
    sym (take_all 2000 c.args.steps.now c.if-steps-le-MOST_ROWS.true)

pub slice_bounds-result-end : goal.slice_bounds-result-end
slice_bounds-result-end c = sym (length-take-le 2000 c.args.steps.now (omega arith))

pub returns-clause-few : goal.returns-clause-few
returns-clause-few c =
    let long = length-take-le 2000 c.args.steps.now (omega arith) in omega (arith, long)
