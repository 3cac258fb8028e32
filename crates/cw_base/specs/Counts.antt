-- The two numbers of a config, as every contract sees them.
use Rattle.std.specs.Prelude.{ℕ, zero, suc}
use Rattle.std.proofs.Common.{lit<, zero-lt-suc}
use Rattle.std.specs.declared.num.NonZeroU16.{NonZeroU16}

-- how many shards hold the text, and how many are added
pub record Counts : Type 0 where
  pub minimum : ℕ
  pub extra : ℕ

-- the number, or 1 for none
abbrev pub positive : ℕ → NonZeroU16
positive zero = record { value = 1; ok = lit< tt }
positive (suc n) = record { value = suc n; ok = zero-lt-suc n }
