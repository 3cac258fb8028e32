-- Rows by weights, as a plan has them.
use Rattle.std.proofs.Common.{◌≡◌, ℕ, ◌<◌, ◌^◌, ◌%◌, List, length, get_or, sym, ap, ap₂, ◌∙◌, subst₂, arith}
use Rattle.rs_code.specs.Codeword.{ArePoints}
use Rattle.rs_code.specs.Plans.{Shape}
use Rattle.rs_code.specs.Rows.{joined, row_through, code_row}
use Rattle.rs_code.proofs.RowBytes.{joined_same, row_of_codeword}

-- the rows by the points of a shape
pub rows_of_shape : (shape : Shape) (k m : ℕ) (ps out ts rows : List ℕ) (width : ℕ) →
    shape ≡ record { k = k; m = m; points = ps } → length ps ≡ k →
    out
    ≡ joined (length ts)
    (λ i. row_through (length ps) (λ s. get_or ps s 0) rows width (get_or ts i 0))
    →
    out
    ≡ joined (length ts)
    (λ i. row_through shape.k (λ s. get_or shape.points s 0) rows width (get_or ts i 0))
rows_of_shape shape k m ps out ts rows width view count made =
    made
    ∙ joined_same (length ts) _ _
    (λ i _.
    ap₂ (λ (n : ℕ) (qs : List ℕ). row_through n (λ s. get_or qs s 0) rows width (get_or ts i 0))
    (count ∙ sym (ap (λ (v : Shape). v.k) view)) (sym (ap (λ (v : Shape). v.points) view)))

-- the rows that a completion of the same sizes gives
pub rows_of_completion : (shape own : Shape) (k m : ℕ) (ps out ts rows : List ℕ) (width : ℕ) →
    shape ≡ record { k = k; m = m; points = ps } → ps ≡ own.points → own.k ≡ k →
    out
    ≡ joined (length ts)
    (λ i. row_through own.k (λ s. get_or own.points s 0) rows width (get_or ts i 0))
    →
    out
    ≡ joined (length ts)
    (λ i. row_through shape.k (λ s. get_or shape.points s 0) rows width (get_or ts i 0))
rows_of_completion shape own k m ps out ts rows width view points size made =
    made
    ∙ joined_same (length ts) _ _
    (λ i _.
    ap₂ (λ (n : ℕ) (qs : List ℕ). row_through n (λ s. get_or qs s 0) rows width (get_or ts i 0))
    (size ∙ sym (ap (λ (v : Shape). v.k) view))
    (sym points ∙ sym (ap (λ (v : Shape). v.points) view)))

-- rows by the points of a shape are those of the codeword that they are of
pub codeword_of_shape : (shape : Shape) (k m : ℕ) (ps out ts rows originals : List ℕ) (width : ℕ) →
    shape ≡ record { k = k; m = m; points = ps } → ArePoints k (λ s. get_or ps s 0) → k < 2 ^ 16 →
    width % 2 ≡ 0 →
    out
    ≡ joined (length ts)
    (λ i. row_through shape.k (λ s. get_or shape.points s 0) rows width (get_or ts i 0))
    →
    rows ≡ joined shape.k (λ s. code_row shape.k originals width (get_or shape.points s 0)) →
    out ≡ joined (length ts) (λ i. code_row shape.k originals width (get_or ts i 0))
codeword_of_shape shape k m ps out ts rows originals width view points small even made given =
    let k_is : shape.k ≡ k = ap (λ (v : Shape). v.k) view in
    let own : ArePoints shape.k (λ s. get_or shape.points s 0) =
    subst₂ (λ (n : ℕ) (qs : List ℕ). ArePoints n (λ s. get_or qs s 0)) (sym k_is)
    (sym (ap (λ (v : Shape). v.points) view)) points in
    made
    ∙ joined_same (length ts) _ _
    (λ i _. row_of_codeword shape.k (λ s. get_or shape.points s 0) rows originals width
    (get_or ts i 0) (omega (arith, k_is, small)) own even given)
