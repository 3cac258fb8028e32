use Rattle.std.proofs.Common.{arith, ◌<◌, length}
use Rattle.cw_base.proofs.Mapping.{GivesItems_more}
use Rattle.cw_base.proofs.strategy.map_run.Goals as goal

pub answer-requires : goal.answer-requires
answer-requires g c =
    let within : c.loop-item.item-index < length c.args.items.now = omega arith in
    c.requires c.loop-item.item-index _ within c.item-item.is

pub loop-item-preserved : goal.loop-item-preserved
loop-item-preserved g c =
    let within : c.loop-item.item-index < length c.args.items.now = omega arith in
    GivesItems_more g.F.Fn c.args.f.now c.args.items.now c.loop-item.item-index c.item-item.result
    c.loop-item.answers.items c.push.new.self.items c.answer.result within c.item-item.is
    c.in_ok-push.ensures.items c.loop-item.invariant c.answer.ensures
