-- What is read at the front of bytes is in its format, and what is in its format is read as itself.
use Rattle.std.specs.Prelude.{◌≡◌, ℕ, ◌^◌, ◌<◌, List, ◌++◌, get_or, Ok}
use Rattle.cw_base.specs.Counts.{Counts}
use Rattle.cw_base.specs.Reading.{Reading}

-- every number is a byte
abbrev pub IsBytes : List ℕ → Type 0
IsBytes bytes = (i : ℕ) → get_or bytes i 0 < 256

-- a format of the values that fit, and how it is read
pub record ReadsBack {A : Type 0} (format : A → List ℕ) (fits : A → Type 0)
    (read : List ℕ → Reading A) : Type 0 where
  -- what is read is in the format
  pub found : (bytes rest : List ℕ) (x : A) → IsBytes bytes → read bytes ≡ Ok (x, rest)
      → (bytes ≡ format x ++ rest) × fits x
  -- what is in the format is read as itself, whatever follows it
  pub again : (x : A) (rest : List ℕ) → fits x → read (format x ++ rest) ≡ Ok (x, rest)

-- a number of two bytes that isn't zero
abbrev pub IsPositive16 : ℕ → Type 0
IsPositive16 n = (0 < n) × (n < 2 ^ 16)

-- a config, both of whose numbers are positive numbers of two bytes
pub record IsConfig (c : Counts) : Type 0 where
  pub minimum : IsPositive16 c.minimum
  pub extra : IsPositive16 c.extra
