use Rattle.std.proofs.Common.{◌≡◌, ℕ, ◌<◌, get_or, bit_xor}
use Rattle.rs_code.specs.Codeword.{product_below}
use Rattle.rs_code.proofs.basis.distances_of.Given as goal

abbrev pub invariant-loop-point : goal.invariant-loop-point
invariant-loop-point l =
    (i : ℕ) → i < 8
    → get_or l.product i 0
    ≡ product_below l.point-index (λ u. bit_xor (get_or l.xs i 0) (get_or l.points u 0))
