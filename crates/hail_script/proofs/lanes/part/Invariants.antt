use Rattle.std.proofs.Common.{◌≡◌, ◌+◌, ◌-◌, ◌++◌, ◌≤◌, drop, length, map}
use Rattle.hail_script.specs.Lanes as lanes
use Rattle.hail_script.proofs.lanes.part.Given as goal

-- what was parted stands before the parts of the lines from here on
abbrev pub invariant-loop-index : goal.invariant-loop-index
invariant-loop-index l = record {
  few : length l.sizes ≤ 64;
  count : l.count ≤ l.index;
  numbers : l.numbers.items
      ++ map (λ row. row.0)
      (lanes.others_from l.head (64 - length l.sizes) (l.index + 1)
      (map (λ line. line.now) (drop l.index l.lines)))
      ≡ map (λ row. row.0) (lanes.others_from l.head 64 1 (map (λ line. line.now) l.lines));
  lines : map (λ line. line.now) l.others.items
      ++ map (λ row. row.1)
      (lanes.others_from l.head (64 - length l.sizes) (l.index + 1)
      (map (λ line. line.now) (drop l.index l.lines)))
      ≡ map (λ row. row.1) (lanes.others_from l.head 64 1 (map (λ line. line.now) l.lines));
  sizes : l.sizes
      ++ lanes.sizes_from l.head (64 - length l.sizes) (l.index + 1) l.count
      (map (λ line. line.now) (drop l.index l.lines))
      ≡ lanes.sizes_from l.head 64 1 0 (map (λ line. line.now) l.lines);
}
