use Rattle.std.proofs.Common.{arith}
use Rattle.rs_code.specs.Coefficients.{lane}
use Rattle.rs_code.proofs.LaneLaws.{half_of_word, word_set}
use Rattle.rs_code.proofs.pairs.put_first_lanes.Goals as goal

pub loop-place-preserved : goal.loop-place-preserved
unfolding lane
loop-place-preserved c =
    word_set c.loop-place.words c.loop-place.place c.word_of.result
    (λ b i. lane c.args.table.now b i)
    (omega arith)
    (half_of_word c.word_of.result (λ i. lane c.args.table.now c.loop-place.place i)
    c.word_of.ensures (omega arith) (omega arith))
    c.loop-place.invariant
