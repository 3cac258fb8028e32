use Rattle.hail_world.proofs.Framing.{made_done, made_early, made_short}
use Rattle.hail_world.proofs.Meaning.{same_script}
use Rattle.hail_picture.proofs.program.made_of_source.Goals as goal

pub returns-in-Ok-picture_of : goal.returns-in-Ok-picture_of
returns-in-Ok-picture_of g c =
    made_done c.in-Ok.ensures.run _
    (λ text run. record {
      reported = run.report;
      drawn = rw (same_script run) at c.in-Ok-picture_of.ensures;
    })

pub returns-in-Err-picture_of : goal.returns-in-Err-picture_of
returns-in-Err-picture_of g c = made_short c.in-Ok.ensures.run

pub returns-in-Err : goal.returns-in-Err
returns-in-Err g c = made_early c.in-Err.ensures.run
