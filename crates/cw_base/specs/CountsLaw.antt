-- A config's numbers give it back. This proof stands in specs/, since the code gives it as the law
-- of an inverse.
use Rattle.std.proofs.Common.{◌≡◌, ℕ, zero, suc, ◌<◌, zero-lt-suc, ap, ◌∙◌, arith}
use Rattle.std.specs.Coded.{le_prop}
use Rattle.std.specs.declared.num.NonZeroU16.{NonZeroU16}
use Rattle.cw_base.specs.Counts.{positive}

positive_at : (n : ℕ) (h : 0 < n) → ◌≡◌ {A = NonZeroU16} (positive n) (record { value = n; ok = h })
positive_at zero h = absurd (omega arith)
positive_at (suc n) h =
    ap (λ (p : 0 < suc n). let x : NonZeroU16 = record { value = suc n; ok = p } in x)
    (le_prop (zero-lt-suc n) h)

-- what is made of two such numbers is made of their values
pub from_values : {I : Type 0} (make : NonZeroU16 → NonZeroU16 → I) (m e : NonZeroU16)
    → make (positive m.value) (positive e.value) ≡ make m e
from_values make m e =
    ap (λ (x : NonZeroU16). make x (positive e.value)) (positive_at m.value m.ok)
    ∙ ap (λ (y : NonZeroU16). make m y) (positive_at e.value e.ok)
