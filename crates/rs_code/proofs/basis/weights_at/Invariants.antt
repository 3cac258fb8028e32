use Rattle.std.proofs.Common.{◌≡◌, ℕ, ◌<◌, length, get_or}
use Rattle.rs_code.specs.Codeword.{product_below}
use Rattle.rs_code.specs.Coefficients.{difference}
use Rattle.rs_code.proofs.basis.weights_at.Given as goal

-- the products over the points so far
abbrev pub invariant-loop-point : goal.invariant-loop-point
invariant-loop-point l =
    (i s : ℕ) → i < 8 → s < length l.points → get_or l.xs i 0 ≡ get_or l.points s 0 →
    get_or l.product i 0
    ≡ product_below l.point-index (λ u. difference (λ t. get_or l.points t 0) s u)
