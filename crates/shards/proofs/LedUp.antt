-- Whether a way up leads to a root, as a test.
use Rattle.std.proofs.Common.{◌≡◌, ◌↔◌, ◌⊎◌, inl, inr, Bool, true, false, IsTrue, Option, Some, None, refl, sym, ◌∙◌, ap}
use Rattle.std.specs.Option.{option_map_or}
use Rattle.std.proofs.lemmas.Bool.{cases_Bool}
use Rattle.cw_base.specs.declared.hash.Digest32.{Digest32}
use Rattle.cw_types.specs.Same.{same_digest}
use Rattle.cw_types.proofs.Same.{same_digest-true, same_digest_self}

-- a test that is true exactly where something is the root tests whether it is the same
pub led_up : (b : Bool) (root : Digest32) (o : Option Digest32) → IsTrue b ↔ (o ≡ Some root)
    → b ≡ option_map_or (same_digest root) o false
led_up true root o h =
    sym (ap (λ d. option_map_or (same_digest root) d false) (h.0 refl) ∙ same_digest_self root)
led_up false root None h = refl
led_up false root (Some d) h = go (cases_Bool (same_digest root d))
  where
    go : (same_digest root d ≡ true) ⊎ (same_digest root d ≡ false) → false ≡ same_digest root d
    go (inl e) = let is : false ≡ true = h.1 (ap Some (sym (same_digest-true root d e))) in cc
    go (inr e) = sym e
