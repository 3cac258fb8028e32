use Rattle.std.proofs.Common.{ℕ, ◌-◌, List, [], length, arith, Bor}
use Rattle.std.proofs.lemmas.Bool.Decides.{nat_tests}
use Rattle.hail_script.proofs.Ends.{cut_empty, keep_full}
use Rattle.hail_script.proofs.pieces.without_empty_end.Goals as goal

no_line : Bor (List ℕ)
no_line = record { ref_ptr = (0, 0); now = [] }

pub returns-in-len1-up : goal.returns-in-len1-up
unfolding no_line
returns-in-len1-up c =
    cut_empty (λ (line : Bor (List ℕ)). line.now) c.args.lines.now (length c.args.lines.now - 1)
    no_line (omega arith) (grind (arith, nat_tests, c.is_empty.ensures))

pub returns-in_default-2 : goal.returns-in_default-2
unfolding no_line
returns-in_default-2 c =
    keep_full (λ (line : Bor (List ℕ)). line.now) c.args.lines.now (length c.args.lines.now - 1)
    no_line (omega arith) (grind (arith, nat_tests, c.is_empty.ensures))
