use Rattle.std.proofs.Common.{◌≡◌, ℕ, ◌*◌, List, length, get_or, ap, ◌∙◌, arith}
use Rattle.rs_code.proofs.CompletionSteps.{rows_added}
use Rattle.rs_code.proofs.completion.Parts.near_originals.Goals as goal

pub picked_of_two-requires-clause-within : goal.picked_of_two-requires-clause-within
picked_of_two-requires-clause-within c = λ i h.
    let w : ℕ = c.args.width in
    let n : ℕ = length c.args.self.now.missing.items in
    let zeros : List ℕ = c.deref.result.now in
    let count : c.len.result ≡ n = omega (arith, c.len.ensures, c.args.self.now.missing.ok.0) in
    let size : c.len.result * w ≡ n * w = ap (λ (l : ℕ). l * w) count in
    let long : length zeros ≡ n * w =
    ap length c.deref.ensures.value
    ∙ omega (arith, c.in_ok-zeros.ensures.len, c.in_ok-zeros.zeros.ok.0, size) in
    omega (
      arith,
      ap (λ (xs : List ℕ). get_or xs i 0) c.deref-2.ensures.value,
      c.requires.within i (omega (arith, h, ap length c.deref-2.ensures.value)),
      rows_added c.args.rows.now zeros w n c.requires.some_width c.requires.whole long,
    )
