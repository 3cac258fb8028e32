use Rattle.std.proofs.Common.{◌≡◌, length}
use Rattle.code_tests.proofs.coding.planted.tree_over.Given as goal

abbrev pub invariant-loop-shard : goal.invariant-loop-shard
invariant-loop-shard l = length l.builder ≡ l.shard-index
