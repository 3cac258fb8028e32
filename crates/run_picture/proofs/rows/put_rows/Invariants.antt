use Rattle.std.proofs.Common.{◌≡◌, ◌+◌, ◌++◌, drop}
use Rattle.std.specs.Prelude.{string_bytes}
use Rattle.run_picture.specs.Rows as spec
use Rattle.run_picture.proofs.rows.put_rows.Given as goal

abbrev pub invariant-loop-index : goal.invariant-loop-index
invariant-loop-index l =
    string_bytes l.out ++ spec.rows_from l.total (l.index + 1) (drop l.index l.steps)
    ≡ string_bytes l.fn.out ++ spec.rows_from l.total 1 l.steps
