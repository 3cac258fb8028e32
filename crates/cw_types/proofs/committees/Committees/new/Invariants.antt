use Rattle.std.proofs.Common.{◌≡◌, map, take}
use Rattle.cw_types.proofs.committees.Committees.new.Given as goal

-- those so far
abbrev pub invariant-loop-list : goal.invariant-loop-list
invariant-loop-list l = l.copies ≡ map (λ list. list.items) (take l.list-index l.lists)
