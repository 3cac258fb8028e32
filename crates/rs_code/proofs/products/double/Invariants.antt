use Rattle.std.proofs.Common.{◌≡◌, ℕ, ◌<◌, bit_xor, get_or}
use Rattle.rs_code.proofs.products.double.Given as goal

-- so many are copied
abbrev pub invariant-loop-place : goal.invariant-loop-place
invariant-loop-place l =
    (b : ℕ) → b < l.place → get_or l.rest b 0 ≡ bit_xor (get_or l.first b 0) l.step
