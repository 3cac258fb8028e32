-- How wide the shards of a text are.
use Rattle.std.proofs.Common.{◌≡◌, ℕ, suc, zero, ◌+◌, ◌-◌, ◌*◌, ◌/◌, ◌%◌, ◌^◌, ◌<◌, ◌≤◌, arith, inl, inr}
use Rattle.std.proofs.Math.Nat.{mul-le-mul_right, mul-le-mul_left, mul-le-mul}
use Rattle.std.proofs.lemmas.Bool.{cases_lt}
use Rattle.cw_tree.specs.Widths.{shard_len}

pub shard_len-even : (n k : ℕ) → shard_len n k % 2 ≡ 0
unfolding shard_len
shard_len-even n k = let q : ℕ = (n + 4 + (k - 1)) / k in omega arith

pub shard_len-covers : (n k : ℕ) → 1 ≤ k → n + 4 ≤ k * shard_len n k
unfolding shard_len
shard_len-covers n k h =
    let x : ℕ = n + 4 + (k - 1) in
    let more : k * (x / k) ≤ k * (x / k + x / k % 2) = mul-le-mul_left k (omega arith) in
    omega arith

pub shard_len-some : (n k : ℕ) → 1 ≤ k → 0 < shard_len n k
shard_len-some n k h = go (shard_len n k) (shard_len-covers n k h)
  where
    go : (w : ℕ) → n + 4 ≤ k * w → 0 < w
    go zero c = absurd (omega arith)
    go (suc w) c = omega arith

pub shard_len-narrow : (n k : ℕ) → 1 ≤ k → shard_len n k ≤ n + 5
unfolding shard_len
shard_len-narrow n k h =
    let x : ℕ = n + 4 + (k - 1) in
    let q : ℕ = x / k in
    let lower : k * (x / k) ≤ x = omega arith in
    go k (x / k) h lower
  where
    go : (k q : ℕ) → 1 ≤ k → k * q ≤ n + 4 + (k - 1) → q + q % 2 ≤ n + 5
    go k zero h l = omega arith
    go k (suc q) h l =
        let big : 1 * q ≤ k * q = mul-le-mul_right q h in
        omega arith

pub product_fits : (k w : ℕ) → k ≤ 65535 → w ≤ 2 ^ 32 + 4 → k * w < 2 ^ 63
product_fits k w a b = omega (arith, mul-le-mul a b)

-- longer texts have no narrower shards
pub shard_len-mono : (n m k : ℕ) → 1 ≤ k → n ≤ m → shard_len n k ≤ shard_len m k
unfolding shard_len
shard_len-mono n m k some h =
    let low : k * ((n + 4 + (k - 1)) / k) ≤ n + 4 + (k - 1) = omega arith in
    go k ((n + 4 + (k - 1)) / k) ((m + 4 + (k - 1)) / k) (n + 4 + (k - 1)) (m + 4 + (k - 1)) some
    low (omega arith) (omega arith)
  where
    go : (k a b x y : ℕ) → 1 ≤ k → k * a ≤ x → x ≤ y → y < k * b + k → a + a % 2 ≤ b + b % 2
    go k a b x y some low between high =
        elim (cases_lt b a) [
          | inl more ↦ absurd
              (let next : b + 1 ≤ a = omega arith in
              let step : k * (b + 1) ≤ k * a = mul-le-mul_left k next in omega arith)
          | inr less ↦ omega arith
        ]
