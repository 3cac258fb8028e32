use Rattle.std.proofs.Common.{◌≡◌, ℕ, ◌<◌, length, get_or, bit_xor, sym, ap₂, ◌∙◌, arith, rules, ⊎_elim}
use Rattle.std.proofs.lemmas.Bool.{cases_eq}
use Rattle.rs_code.specs.Field.{times, inverse}
use Rattle.rs_code.specs.Codeword.{product_below, factor}
use Rattle.rs_code.specs.Coefficients.{weight}
use Rattle.rs_code.proofs.LaneLaws.{entry_pushed}
use Rattle.rs_code.proofs.WeightLaws.{basis_here_is_one, basis_by_distance}
use Rattle.rs_code.proofs.basis.coefficients_of.Goals as goal

pub loop-s-preserved : goal.loop-s-preserved
loop-s-preserved c =
    let k : ℕ = length c.args.points.now in
    let P : ℕ → ℕ = λ t. get_or c.args.points.now t 0 in
    let s : ℕ = c.loop-s.s in
    let x : ℕ → ℕ = λ l. get_or c.args.xs.now l 0 in
    let within : s < k = omega arith in
    let own : get_or c.args.weights.now s 0 ≡ weight k P s = c.requires.weights.each s within in
    let value : (l : ℕ) → l < 8
    → get_or c.coefficients_at.result l 0 ≡ product_below k (λ u. factor P (x l) s u) =
    λ l h.
    ⊎_elim
    (λ here. c.coefficients_at.ensures.here l h here
    ∙ sym (basis_here_is_one k P (x l) s c.requires.points within here))
    (λ other. c.coefficients_at.ensures.away l h other
    ∙ ap₂ (λ (d w : ℕ). times d (times w (inverse (bit_xor (x l) (P s)))))
    (c.distances_of-distances.ensures l h) own
    ∙ sym (basis_by_distance k P (x l) s c.requires.points (omega arith) within other))
    (cases_eq (x l) (P s)) in
    record {
      count = search rules;
      each =
          entry_pushed 8 c.loop-s.values.items c.push.new.self.items s c.coefficients_at.result
          (λ t l. product_below k (λ u. factor P (x l) t u))
          c.loop-s.invariant.count c.in_ok-push.ensures.items value c.loop-s.invariant.each;
    }
