-- Texts behind one another.
use Rattle.std.proofs.Common.{◌≡◌, ℕ, List, ◌++◌}

-- each of four texts is written behind the one before it
pub four_joined : (p q r s a b c d : List ℕ) → p ≡ a → q ≡ p ++ b → r ≡ q ++ c → s ≡ r ++ d
    → s ≡ a ++ b ++ c ++ d
four_joined p q r s a b c d e f g h = cc
