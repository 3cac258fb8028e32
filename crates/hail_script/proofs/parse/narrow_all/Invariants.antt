use Rattle.std.proofs.Common.{◌≡◌, map, take}
use Rattle.hail_script.proofs.parse.narrow_all.Given as goal

abbrev pub invariant-loop-list : goal.invariant-loop-list
invariant-loop-list l = map (λ list. list.items) l.narrowed.items ≡ take l.list-index l.lists
