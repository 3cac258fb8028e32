use Rattle.std.proofs.Common.{sym, ◌∙◌}
use Rattle.hail_world.specs.Places.{script_rules, table, world_of_pool}
use Rattle.hail_report.specs.Pool.{sent_in}
use Rattle.hail_world.proofs.Taking.{took}
use Rattle.hail_world.proofs.turn.asked_live.Goals as goal

pub returns-in_ok-live_node-in-Ok-Some-clause-makes
    : goal.returns-in_ok-live_node-in-Ok-Some-clause-makes
returns-in_ok-live_node-in-Ok-Some-clause-makes g c o who =
    let r = script_rules g.H.Hasher.digest_of c.args.setting.now.script.now in
    let signed = table c.args.setting.now.faulty.now (sent_in c.args.setting.now.pool.now) in
    let w = world_of_pool (sent_in c.args.setting.now.pool.now) in
    let asks = sym c.in-Ok-Some.ensures ∙ c.in-Ok-Some.field-0-is in
    took r c.args.id signed w c.args.ask.now c.in-Ok-Some.event c.args.live_node
    c.in_ok-live_node-in-Ok-Some.live_node c.in_ok-live_node-in-Ok-Some.out o c.requires.sound asks
    c.in_ok-live_node-in-Ok-Some.ensures.steps who
