use Rattle.hail_world.proofs.Framing.{made_done, made_early, made_short}
use Rattle.hail_world.proofs.program.made_of_source.Goals as goal

pub returns-in-Ok-report_text : goal.returns-in-Ok-report_text
returns-in-Ok-report_text g c =
    made_done c.in-Ok.ensures.run _ (λ text run. (run.report, c.in-Ok-report_text.ensures))

pub returns-in-Err-report_text : goal.returns-in-Err-report_text
returns-in-Err-report_text g c = made_short c.in-Ok.ensures.run

pub returns-in-Err : goal.returns-in-Err
returns-in-Err g c = made_early c.in-Err.ensures.run
