-- The last link.
use Rattle.std.proofs.Common.{◌≡◌, ℕ, suc, ◌-◌, List, [], ◌∷◌, length, Some, None, ap, ◌∙◌, arith}
use Rattle.std.specs.Prelude.{slice_get}
use Rattle.cw_base.specs.declared.hash.Digest32.{Digest32}
use Rattle.cw_types.specs.Block.{Block}
use Rattle.hail_report.specs.Text.{top_lines, top_text}

pub top_last : (hash : List ℕ → Digest32) (links : List Block) (b : Block)
    → Some b ≡ slice_get links (length links - 1) → top_text hash links ≡ top_lines hash b
top_last hash [] b e = absurd (let none : Some b ≡ None = e in cc)
top_last hash (x ∷ []) b e =
    let same : x ≡ b = (let s : Some b ≡ Some x = e in cc) in
    ap (λ (y : Block). top_lines hash y) same
top_last hash (x ∷ y ∷ xs) b e =
    let m : length (x ∷ y ∷ xs) - 1 ≡ suc (length (y ∷ xs) - 1) = omega arith in
    top_last hash (y ∷ xs) b (e ∙ ap (λ (k : ℕ). slice_get (x ∷ y ∷ xs) k) m)
