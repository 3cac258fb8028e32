use Rattle.std.proofs.Common.{◌-◌, sym, drop, arith, length}
use Rattle.std.proofs.lemmas.List.{drop-map, take_all, length-drop}
use Rattle.hail_script.proofs.script.behind.Goals as goal

pub returns : goal.returns
returns c =
    let lines = c.args.lines.now in
    let rest = drop c.args.count lines in
    let e = length-drop c.args.count lines in
    rw (take_all (length lines - c.args.count) rest (omega (arith, e)))
    (sym (drop-map (λ line. line.now) c.args.count lines))
