use Rattle.std.proofs.Common.{◌≡◌, ℕ, ◌+◌, ◌^◌, ap, sym, ◌∙◌, arith}
use Rattle.std.proofs.lemmas.List.{length-set}
use Rattle.std.proofs.lemmas.Nat.{one_shl}
use Rattle.rs_code.specs.Field.{inverse}
use Rattle.rs_code.specs.Transform.{by_next, vanishing}
use Rattle.rs_code.proofs.ElementWrites.{one_more}
use Rattle.rs_code.proofs.TransformLaws.{divisor_nonzero}
use Rattle.rs_code.proofs.subspaces.scales.Goals as goal

pub loop-t-preserved : goal.loop-t-preserved
loop-t-preserved c =
    let t : ℕ = c.loop-t.t in
    let divisor : c.with_next-divisor.result ≡ by_next (vanishing t (2 ^ (t + 1))) =
    c.with_next-divisor.ensures
    ∙ ap by_next (c.vanishing_at.ensures ∙ ap (vanishing t) (one_shl (t + 1) 16 (omega arith))) in
    record {
      count = length-set c.loop-t.scales t c.inverse_or_zero.result ∙ c.loop-t.invariant.count;
      each =
          one_more c.loop-t.scales t c.inverse_or_zero.result
          (λ s. inverse (by_next (vanishing s (2 ^ (s + 1)))))
          (omega (arith, c.loop-t.invariant.count)) c.loop-t.invariant.each
          (c.inverse_or_zero.ensures (λ z. divisor_nonzero t (omega arith) (sym divisor ∙ z))
          ∙ ap inverse divisor);
    }
