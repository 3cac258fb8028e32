use Rattle.std.proofs.Common.{ℕ, List, take, get_or, sym, ap, ◌∙◌, arith}
use Rattle.std.proofs.lemmas.Result.{IfOk-weaker}
use Rattle.rs_code.specs.Rows.{code_row, joined}
use Rattle.cw_coding.proofs.DecodingLaws.{rebuilt_long, rows_used}
use Rattle.cw_coding.proofs.recovering.rebuilt.Goals as goal

pub returns-clause-long : goal.returns-clause-long
returns-clause-long g c =
    IfOk-weaker c.restore.result _ _
    (λ v e. rebuilt_long c.args.config.now.minimum _ _ _ _ _ v.items c.args.given.now.width
    c.requires.even c.minimum-k.ensures.value e)
    c.restore.ensures.rows

pub returns-clause-value : goal.returns-clause-value
returns-clause-value g c originals agree =
    let w : ℕ = c.args.given.now.width in
    let k : ℕ = c.minimum-k.result in
    let indices : List ℕ = c.args.given.now.indices.items in
    IfOk-weaker c.restore.result _ _
    (λ v e. e
    ∙ ap (λ (n : ℕ). joined n (λ i. code_row n originals w i)) c.minimum-k.ensures.value)
    (c.restore.ensures.codeword originals
    (rows_used c.args.config.now.minimum indices c.args.given.now.rows.items _ w originals
    (omega (arith, c.requires.given.used, c.requires.given.within)) c.requires.given.long
    c.used_rows-used.ensures.value agree
    ∙ ap (λ (n : ℕ). joined n (λ s. code_row n originals w (get_or (take n indices) s 0)))
    (sym c.minimum-k.ensures.value)
    ∙ ap (λ (is : List ℕ). joined k (λ s. code_row k originals w (get_or (take k is) s 0)))
    (sym c.deref.ensures.value)))
