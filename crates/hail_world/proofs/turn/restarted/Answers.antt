use Rattle.hail_world.specs.Places.{script_rules}
use Rattle.hail_world.proofs.Taking.{began}
use Rattle.hail_world.proofs.turn.restarted.Goals as goal

pub returns-in_ok-place-in-Stopped-clause-makes : goal.returns-in_ok-place-in-Stopped-clause-makes
returns-in_ok-place-in-Stopped-clause-makes g c o who =
    let r = script_rules g.H.Hasher.digest_of c.args.setting.now.script.now in
    let there = rw c.in-Stopped.is at who in
    began r c.args.id c.in-Stopped.disk c.in-Stopped.field-1 c.in_ok-place-in-Stopped.place
    c.in_ok-place-in-Stopped.out o c.in_ok-place-in-Stopped.ensures.started there
