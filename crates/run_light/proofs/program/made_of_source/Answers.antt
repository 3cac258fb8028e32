use Rattle.cw_rules.specs.declared.travel.Travel.TheVariants.{Chunked}
use Rattle.hail_world.proofs.Framing.{made_done}
use Rattle.run_light.proofs.Telling.{told_run}
use Rattle.run_light.proofs.program.made_of_source.Goals as goal

pub light_text-requires-clause-run : goal.light_text-requires-clause-run
light_text-requires-clause-run g c κs within = c.in-Ok.ensures.run.ran.run

pub light_text-requires-clause-way : goal.light_text-requires-clause-way
light_text-requires-clause-way g c κs within =
    let it = c.in-Ok.ensures.run in
    c.script_laws.ensures.travels Chunked it.read _ it.ran.spells

pub returns-in-Ok-light_text : goal.returns-in-Ok-light_text
returns-in-Ok-light_text g c =
    made_done c.in-Ok.ensures.run _
    (λ text run. told_run g.H.Hasher.digest_of c.args.height text _ _ _ run
    c.in-Ok-light_text.ensures)
