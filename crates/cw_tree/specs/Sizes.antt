-- How high a tree is, and digests of one size.
use Rattle.std.specs.Prelude.{◌≡◌, ℕ, ◌^◌, ◌≤◌, List, [], ◌∷◌, length}

-- h is the height of a tree of so many leaves: the least number of levels above them
pub record IsHeight (leaves h : ℕ) : Type 0 where
  pub enough : leaves ≤ 2 ^ h
  pub least : (g : ℕ) → leaves ≤ 2 ^ g → h ≤ g

-- digests whose bytes are so many each
abbrev pub AreSized : {D : Type 0} → (content : D → List ℕ) → ℕ → List D → Type 0
AreSized content size [] = Unit {0}
AreSized content size (d ∷ ds) = (length (content d) ≡ size) × AreSized content size ds
