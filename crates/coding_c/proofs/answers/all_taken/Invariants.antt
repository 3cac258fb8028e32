use Rattle.std.proofs.Common.{map, take}
use Rattle.coding_c.specs.Calls.{AreTaken}
use Rattle.coding_c.proofs.answers.all_taken.Given as goal

abbrev pub invariant-loop-span : goal.invariant-loop-span
invariant-loop-span l =
    AreTaken l.config l.root (map (λ s. s.bytes.now) (take l.span-index l.chunks)) l.all.items
