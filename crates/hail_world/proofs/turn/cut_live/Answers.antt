use Rattle.std.proofs.Common.{◌≡◌, Some, sym, subst, ◌∙◌}
use Rattle.cw_rules.specs.Step.{Member, cut_step}
use Rattle.hail_world.specs.Places.{SitsAs, script_rules, table, world_of_pool}
use Rattle.hail_report.specs.Pool.{sent_in}
use Rattle.hail_world.specs.MemoryNodes.{MemoryNode, out_of, rules_by}
use Rattle.hail_world.proofs.Taking.{cut_took}
use Rattle.hail_world.proofs.turn.cut_live.Goals as goal

pub returns-in_ok-place-in-Ok-Some-clause-makes : goal.returns-in_ok-place-in-Ok-Some-clause-makes
returns-in_ok-place-in-Ok-Some-clause-makes g c o who =
    let r = script_rules g.H.Hasher.digest_of c.args.setting.now.script.now in
    let signed = table c.args.setting.now.faulty.now (sent_in c.args.setting.now.pool.now) in
    let w = world_of_pool (sent_in c.args.setting.now.pool.now) in
    let sound = c.requires.sound in
    let there = who in
    let asks = sym c.in-Ok-Some.ensures ∙ c.in-Ok-Some.field-0-is in
    let done =
    λ (s : MemoryNode). cut_step (rules_by g.H.Hasher.digest_of s) s.id signed s.member
    c.args.stop.call c.args.stop.cut c.args.stop.fill c.in-Ok-Some.event in
    let made =
    subst
    (λ (s : MemoryNode). SitsAs c.in_ok-place-in-Ok-Some.place (Some (done s).member)
    × (c.in_ok-place-in-Ok-Some.out ≡ out_of (done s)))
    c.live_node.view_is c.in_ok-place-in-Ok-Some.ensures.cut in
    cut_took r c.args.id signed w c.args.stop.call c.args.stop.cut c.args.stop.fill
    c.args.ask.now c.in-Ok-Some.event c.args.live_node c.in_ok-place-in-Ok-Some.place
    c.in_ok-place-in-Ok-Some.out o sound asks made.0 made.1 there
