use Rattle.std.proofs.Common.{◌≡◌, map, take}
use Rattle.cw_coding.proofs.checking.stand_all.Given as goal

abbrev pub invariant-loop-i : goal.invariant-loop-i
invariant-loop-i g l = record {
  indices : map (λ x. x.0) l.items.items ≡ take l.i l.indices;
  shards : map (λ x. x.1.now) l.items.items ≡ take l.i l.shards;
}
