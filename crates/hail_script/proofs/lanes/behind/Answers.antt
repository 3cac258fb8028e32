use Rattle.std.proofs.Common.{◌-◌, drop, arith, length}
use Rattle.std.proofs.lemmas.List.{take_all, length-drop}
use Rattle.hail_script.proofs.lanes.behind.Goals as goal

pub returns : goal.returns
returns c =
    let numbers = c.args.numbers.now in
    let rest = drop c.args.head numbers in
    let e = length-drop c.args.head numbers in
    take_all (length numbers - c.args.head) rest (omega (arith, e))
