use Rattle.std.proofs.Common.{take}
use Rattle.cw_base.specs.Mapping.{GivesItems}
use Rattle.cw_base.proofs.strategy.map_run.Given as goal

abbrev pub invariant-loop-item : goal.invariant-loop-item
invariant-loop-item g l = GivesItems g.F.Fn l.f (take l.item-index l.items) l.answers.items
