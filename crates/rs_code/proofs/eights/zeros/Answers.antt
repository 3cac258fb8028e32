use Rattle.std.proofs.Common.{List, ℕ, length, ap, ◌∙◌}
use Rattle.std.proofs.lemmas.List.{length-replicate}
use Rattle.std.specs.List.{each_same}
use Rattle.rs_code.specs.Coefficients.{lane}
use Rattle.rs_code.proofs.LaneLaws.{nothing, lane_zero}
use Rattle.rs_code.proofs.eights.zeros.Goals as goal

pub returns-clause-count : goal.returns-clause-count
returns-clause-count c =
    ap length (c.in_ok-entries.ensures.items_if_clones_equal (λ y e. each_same nothing y e.whole))
    ∙ length-replicate c.args.count nothing

pub returns-clause-each : goal.returns-clause-each
returns-clause-each c = λ j l h.
    ap (λ (xs : List (List ℕ)). lane xs j l)
    (c.in_ok-entries.ensures.items_if_clones_equal (λ y e. each_same nothing y e.whole))
    ∙ lane_zero c.args.count j l h
