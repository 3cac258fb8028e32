use Rattle.std.proofs.Common.{◌∙◌}
use Rattle.cw_rules.specs.declared.travel.Travel.TheVariants as travel
use Rattle.hail_report.specs.Storm as spec
use Rattle.hail_report.specs.Text.{summary_text}
use Rattle.hail_report.proofs.Answering.{early_read, early_write, error_read}
use Rattle.hail_world.specs.Headline.{IsRunOf}
use Rattle.hail_world.proofs.Meaning.{told_done, told_early}
use Rattle.hailstorm.proofs.program.run_storm.Goals as goal

pub returns-in-Ok-summary_text-clause-answer : goal.returns-in-Ok-summary_text-clause-answer
returns-in-Ok-summary_text-clause-answer g c =
    let hash = g.H.Hasher.digest_of in
    told_done travel.Chunked hash
    (IsRunOf travel.Chunked hash (summary_text hash c.args.number))
    (spec.storm_script c.args.number) _ _ _ _ c.in-Ok-run.report c.deref-in-Ok-summary_text.result.now c.finish.result (
      rw (c.deref.ensures.value, c.in-Ok.ensures) at c.in-Ok-run.ensures.ok,
      c.deref-in-Ok-summary_text.ensures.value ∙ c.in-Ok-summary_text.ensures,
    )
    c.finish.ensures

pub returns-clause-answer : goal.returns-clause-answer
returns-clause-answer g c =
    let hash = g.H.Hasher.digest_of in
    told_early travel.Chunked hash
    (IsRunOf travel.Chunked hash (summary_text hash c.args.number))
    (spec.storm_script c.args.number) _ _ _ _ c.in-Err.error c.end_early.result
    (rw (c.deref.ensures.value, c.in-Ok.ensures) at c.in-Err.ensures.err)
    (rw c.early_of.ensures at c.end_early.ensures)
