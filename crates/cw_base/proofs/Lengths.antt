-- How many bytes numbers are written in.
use Rattle.std.proofs.Common.{◌≡◌, ℕ, length, refl}
use Rattle.cw_base.specs.Bytes.{be16, be32, be64}

pub length-be16 : (n : ℕ) → length (be16 n) ≡ 2
unfolding be16
length-be16 n = refl

pub length-be32 : (n : ℕ) → length (be32 n) ≡ 4
unfolding be32
length-be32 n = refl

pub length-be64 : (n : ℕ) → length (be64 n) ≡ 8
unfolding be64
length-be64 n = refl
