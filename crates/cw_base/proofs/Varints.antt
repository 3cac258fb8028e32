-- How large the number in a varint is that may have so many more bytes.
use Rattle.std.proofs.Common.{◌≡◌, ℕ, zero, suc, ◌+◌, ◌*◌, ◌-◌, ◌^◌, ◌<◌, ◌≤◌, refl, arith}

pub last_small : (more b : ℕ) → more ≤ 4 → b < 128 → (more ≡ 0 → b ≤ 15) → b < 16 * 128 ^ more
last_small zero b h s l = let e = l refl in omega arith
last_small (suc zero) b h s l = omega arith
last_small (suc (suc zero)) b h s l = omega arith
last_small (suc (suc (suc zero))) b h s l = omega arith
last_small (suc (suc (suc (suc zero)))) b h s l = omega arith
last_small (suc (suc (suc (suc (suc more))))) b h s l = absurd (omega arith)

pub more_small : (more b high : ℕ) → more ≤ 4 → 0 < more → b < 256 → high < 16 * 128 ^ (more - 1)
    → b - 128 + 128 * high < 16 * 128 ^ more
more_small zero b high h m s l = absurd (omega arith)
more_small (suc zero) b high h m s l = omega arith
more_small (suc (suc zero)) b high h m s l = omega arith
more_small (suc (suc (suc zero))) b high h m s l = omega arith
more_small (suc (suc (suc (suc zero)))) b high h m s l = omega arith
more_small (suc (suc (suc (suc (suc more))))) b high h m s l = absurd (omega arith)

pub more_fits : (more high : ℕ) → more ≤ 4 → 0 < more → high < 16 * 128 ^ (more - 1)
    → 128 * high + 128 ≤ 2 ^ 32
more_fits zero high h m l = absurd (omega arith)
more_fits (suc zero) high h m l = omega arith
more_fits (suc (suc zero)) high h m l = omega arith
more_fits (suc (suc (suc zero))) high h m l = omega arith
more_fits (suc (suc (suc (suc zero)))) high h m l = omega arith
more_fits (suc (suc (suc (suc (suc more))))) high h m l = absurd (omega arith)
