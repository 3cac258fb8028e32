use Rattle.std.proofs.Common.{◌≡◌, ℕ, ◌<◌, true, false, length, take, get_or, Contains}
use Rattle.cw_coding.specs.Decoding.{FitTogether, indices_of}
use Rattle.cw_coding.proofs.gathering.fitting.Given as goal

-- the chunks so far fit together, and their indices are those that are marked
abbrev pub invariant-loop-chunk : goal.invariant-loop-chunk
invariant-loop-chunk g l = record {
  fit : FitTogether l.total l.root l.width (take l.chunk-index l.shards);
  count : length l.given.items ≡ l.total;
  was_given : (i : ℕ) → i < l.total → get_or l.given.items i false ≡ true
      → Contains (take l.chunk-index (indices_of l.shards)) i;
  is_marked : (i : ℕ) → Contains (take l.chunk-index (indices_of l.shards)) i
      → get_or l.given.items i false ≡ true;
}
