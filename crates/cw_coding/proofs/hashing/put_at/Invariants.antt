use Rattle.std.proofs.Common.{ℕ, ◌<◌, ◌≡◌, ◌⊎◌, get_or, length}
use Rattle.cw_coding.proofs.hashing.put_at.Given as goal

-- what was right stays so, and the first digests stand at their places
abbrev pub invariant-loop-t : goal.invariant-loop-t
invariant-loop-t g l =
    record {
      count : length l.all.items ≡ length l.fn.all.items;
      each : (f : ℕ → _)
          → ((t : ℕ) (d : _) → t < length l.places
          → get_or l.digests t d ≡ f (get_or l.places t 0)) → (i : ℕ)
          → i < length l.fn.all.items
          → ((d : _) → get_or l.fn.all.items i d ≡ f i)
          ⊎ ((u : ℕ) × (u < l.t) × (get_or l.places u 0 ≡ i))
          → (d : _) → get_or l.all.items i d ≡ f i;
    }
