-- Chunks that are taken one behind the other.
use Rattle.std.proofs.Common.{◌≡◌, ℕ, ◌+◌, ◌<◌, List, [], ◌∷◌, ◌++◌, map, take, drop, get_or, length, sym, ap, ◌∙◌}
use Rattle.std.proofs.lemmas.List.{take_more, map-append, take-append-drop, drop_more}
use Rattle.cw_base.specs.Counts.{Counts}
use Rattle.cw_base.specs.declared.hash.Digest32.{Digest32}
use Rattle.cw_coding.specs.Checked.{Checked}
use Rattle.coding_c.specs.Calls.{IsTaken, AreTaken}

-- one more at the end
taken_more : (c : Counts) (root : List ℕ) (bs : List (List ℕ)) (xs : List (Checked Digest32))
    (b : List ℕ) (x : Checked Digest32)
    → AreTaken c root bs xs → IsTaken c root b x → AreTaken c root (bs ++ b ∷ []) (xs ++ x ∷ [])
taken_more c root [] [] b x are is = (is, tt)
taken_more c root [] (y ∷ xs) b x are is = absurd are
taken_more c root (a ∷ bs) [] b x are is = absurd are
taken_more c root (a ∷ bs) (y ∷ xs) b x are is = (are.0, taken_more c root bs xs b x are.1 is)

-- one more item's bytes
bytes_more : {S : Type 0} (bytes : S → List ℕ) (spans : List S) (i : ℕ) (d : S)
    → i < length spans
    → map bytes (take (i + 1) spans) ≡ map bytes (take i spans) ++ bytes (get_or spans i d) ∷ []
bytes_more bytes spans i d within =
    ap (map bytes) (take_more spans i d within)
    ∙ map-append bytes (take i spans) (get_or spans i d ∷ [])

-- the bytes of all items, those of item i among them
pub bytes_split : {S : Type 0} (bytes : S → List ℕ) (spans : List S) (i : ℕ) (d : S)
    → i < length spans
    → map bytes spans
    ≡ map bytes (take i spans) ++ bytes (get_or spans i d) ∷ map bytes (drop (i + 1) spans)
bytes_split bytes spans i d within =
    ap (map bytes)
    (sym (take-append-drop i spans) ∙ ap (λ xs. take i spans ++ xs) (drop_more spans i d within))
    ∙ map-append bytes (take i spans) (get_or spans i d ∷ drop (i + 1) spans)

-- one more item's bytes are taken
pub taken_next : {S : Type 0} (c : Counts) (root : List ℕ) (bytes : S → List ℕ) (spans : List S)
    (i : ℕ) (d : S) (xs ys : List (Checked Digest32)) (x : Checked Digest32)
    → i < length spans → AreTaken c root (map bytes (take i spans)) xs
    → IsTaken c root (bytes (get_or spans i d)) x → ys ≡ xs ++ x ∷ []
    → AreTaken c root (map bytes (take (i + 1) spans)) ys
taken_next c root bytes spans i d xs ys x within are is more =
    rw (bytes_more bytes spans i d within, more)
    (taken_more c root (map bytes (take i spans)) xs (bytes (get_or spans i d)) x are is)
