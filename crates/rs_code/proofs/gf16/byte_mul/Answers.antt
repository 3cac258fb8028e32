use Rattle.std.proofs.Common.{◌<◌, ℕ, subst, sym, ◌∙◌}
use Rattle.rs_code.proofs.Numbers.{times_below}
use Rattle.rs_code.proofs.Steps.{in_bytes}
use Rattle.rs_code.proofs.gf16.byte_mul.Goals as goal

pub returns-clause-value : goal.returns-clause-value
returns-clause-value c =
    c.by_eight_bits.ensures ∙ in_bytes c.args.a c.args.b c.requires.first c.requires.second

pub returns-clause-fits : goal.returns-clause-fits
returns-clause-fits c =
    subst (λ (n : ℕ). n < 256) (sym (returns-clause-value c)) (times_below 3 c.args.a c.args.b)
