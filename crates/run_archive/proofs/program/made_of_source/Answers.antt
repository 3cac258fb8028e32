use Rattle.hail_world.proofs.Framing.{made_done, made_early, made_short}
use Rattle.hail_world.proofs.Meaning.{same_script}
use Rattle.run_archive.proofs.program.made_of_source.Goals as goal

pub returns-in-Ok-archive_told : goal.returns-in-Ok-archive_told
returns-in-Ok-archive_told g c =
    made_done c.in-Ok.ensures.run _
    (λ text run. record {
      report = run.report;
      archive = c.in-Ok-archive_told.ensures.archive;
      lines = rw (same_script run) at c.in-Ok-archive_told.ensures.text;
    })

pub returns-in-Err-archive_told : goal.returns-in-Err-archive_told
returns-in-Err-archive_told g c = made_short c.in-Ok.ensures.run

pub returns-in-Err : goal.returns-in-Err
returns-in-Err g c = made_early c.in-Err.ensures.run
