use Rattle.hail_world.proofs.Framing.{made_done, made_early, made_short}
use Rattle.run_ledger.proofs.program.made_of_source.Goals as goal

pub returns-in-Ok-replicas_told : goal.returns-in-Ok-replicas_told
returns-in-Ok-replicas_told g c =
    made_done c.in-Ok.ensures.run _
    (λ text run. c.in-Ok-replicas_told.ensures text run.report)

pub returns-in-Err-replicas_told : goal.returns-in-Err-replicas_told
returns-in-Err-replicas_told g c = made_short c.in-Ok.ensures.run

pub returns-in-Err : goal.returns-in-Err
returns-in-Err g c = made_early c.in-Err.ensures.run
