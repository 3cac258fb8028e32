-- Rows of symbols that are written one entry at a time.
use Rattle.std.proofs.Common.{◌≡◌, ℕ, ◌+◌, ◌*◌, ◌<◌, List, length, set, get_or, refl, sym, ◌∙◌, get_or-set_same, get_or-set_other}
use Rattle.rs_code.specs.Columns.{entry}
use Rattle.rs_code.proofs.SymbolWrites.{places_apart}

pub entry_is : (rows : List ℕ) (n i j : ℕ) → entry rows n i j ≡ get_or rows (i * n + j) 0
unfolding entry
entry_is rows n i j = refl

-- the entry that was written
pub entry_written : (rows : List ℕ) (n row column v : ℕ) → row * n + column < length rows
    → entry (set rows (row * n + column) v) n row column ≡ v
entry_written rows n row column v within =
    entry_is (set rows (row * n + column) v) n row column
    ∙ get_or-set_same rows (row * n + column) v 0 within

-- the others
pub entry_stays : (rows : List ℕ) (n row column v i j : ℕ) → column < n → j < n
    → (i ≡ row → j ≡ column → ⊥) →
    entry (set rows (row * n + column) v) n i j ≡ entry rows n i j
entry_stays rows n row column v i j hc hj other =
    entry_is (set rows (row * n + column) v) n i j
    ∙ get_or-set_other rows (row * n + column) (i * n + j) v 0
    (places_apart n i row j column hj hc other)
    ∙ sym (entry_is rows n i j)
