-- Rows of one width that stand end to end.
use Rattle.std.specs.Prelude.{ℕ, zero, suc, ◌*◌, ◌/◌, List, [], ◌∷◌, ◌++◌, length, take, drop}

-- f at each number below n, in order
unfoldable pub listed : {A : Type 0} → (n : ℕ) (f : ℕ → A) → List A
listed zero f = []
listed (suc n) f = listed n f ++ f n ∷ []

-- row s of rows that stand end to end
unfoldable pub row_of : (rows : List ℕ) (width s : ℕ) → List ℕ
row_of rows width s = take width (drop (s * width) rows)

-- the hash of each row
unfoldable pub row_hashes : {D : Type 0} → (List ℕ → D) → (width : ℕ) (rows : List ℕ) → List D
row_hashes hash width rows = listed (length rows / width) (λ i. hash (row_of rows width i))
