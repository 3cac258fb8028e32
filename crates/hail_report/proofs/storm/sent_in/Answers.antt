use Rattle.std.proofs.Common.{arith}
use Rattle.std.specs.Prelude.{length}
use Rattle.std.proofs.lemmas.List.Sums.{sum_by-append}
use Rattle.cw_rules.specs.Report.{Entry}
use Rattle.hail_report.proofs.storm.sent_in.Goals as goal

pub returns : goal.returns
returns c =
    let whole = sum_by-append (λ (e : Entry). length e.sent) c.args.opening.now c.args.steps.now in
    omega (arith, whole)
