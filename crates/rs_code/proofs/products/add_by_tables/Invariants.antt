use Rattle.std.proofs.Common.{◌≡◌, ℕ, ◌<◌, ◌≤◌, ◌/◌, ◌%◌, bit_xor, get_or}
use Rattle.rs_code.proofs.products.add_by_tables.Given as goal

-- the sums so far are done, the others are as they were
abbrev pub invariant-loop-place : goal.invariant-loop-place
invariant-loop-place l = record {
  done : (p : ℕ) → l.from ≤ p → p < l.place → get_or l.sums p 0 ≡ bit_xor (get_or l.fn.sums p 0)
      (bit_xor (get_or l.high (get_or l.symbols p 0 / 256) 0)
      (get_or l.low (get_or l.symbols p 0 % 256) 0));
  rest : (p : ℕ) → l.place ≤ p → get_or l.sums p 0 ≡ get_or l.fn.sums p 0;
  before : (p : ℕ) → p < l.from → get_or l.sums p 0 ≡ get_or l.fn.sums p 0;
}
