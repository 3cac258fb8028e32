use Rattle.std.proofs.Common.{◌≡◌, ℕ, ◌+◌, ◌*◌, ◌≤◌, ◌^◌, refl, ap, arith}
use Rattle.std.proofs.Math.Nat.{mul-le-mul}
use Rattle.coding_c.proofs.answers.lacking_room.Goals as goal

pub overflow_mul-needed : goal.overflow_mul-needed
overflow_mul-needed c =
    let is = c.if-not-max_shard_size_fits.ensures.0 refl in
    let size = c.max_shard_size.ensures in
    let total = is.total in
    let narrow = is.codable.narrow in
    let low = size.1.least 16 (omega (arith, total)) in
    let own = size.2 in
    let many : c.total_shards-count.result ≤ 65535 =
    omega (arith, total, c.total_shards-count.ensures) in
    let wide : c.max_shard_size.result ≤ 2 ^ 32 + 1000 = omega (arith, narrow, low, own) in
    let all : c.total_shards-count.result * c.max_shard_size.result ≤ 65535 * (2 ^ 32 + 1000) =
    mul-le-mul many wide in
    record { fits = omega (arith, all) }

pub returns : goal.returns
returns c = λ _. (
  c.total_shards-count.result * c.max_shard_size.result,
  (
    c.max_shard_size.result,
    c.max_shard_size.ensures,
    ap (λ (n : ℕ). n * c.max_shard_size.result) c.total_shards-count.ensures,
  ),
  c.if-room-needed.false,
  omega (arith, c.if-places-count.false, c.total_shards-count.ensures),
)
