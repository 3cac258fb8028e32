use Rattle.std.proofs.Common.{ℕ, ◌/◌, ◌%◌, [], ◌∷◌, get_or, bit_xor, refl, arith}
use Rattle.rs_code.proofs.LaneLaws.{word_added}
use Rattle.rs_code.proofs.pairs.sum_with.Goals as goal

pub returns : goal.returns
returns c =
    let sum : ℕ = bit_xor c.word_of.result c.args.word in
    word_added c.word_of.result c.args.word (λ l. get_or c.args.pair.now l 0)
    (λ l. get_or (sum % 65536 ∷ sum / 65536 ∷ []) l 0) c.word_of.ensures
    (omega arith) (omega arith) (omega arith) refl refl
