use Rattle.hailstorm.proofs.program.summary_text.Goals as goal

pub returns : goal.returns
returns g c =
    (rw (c.as_slice.ensures, c.as_slice-2.ensures, c.as_slice-3.ensures) at
    c.summary_of_parts.ensures) c.args.report.now.acked
