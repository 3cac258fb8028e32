use Rattle.std.proofs.Common.{◌≡◌, ℕ, ◌+◌, ◌*◌, ◌%◌, List, length, ap, arith}
use Rattle.std.proofs.lemmas.List.{length-append}
use Rattle.rs_code.specs.Rows.{joined, code_row}
use Rattle.rs_code.proofs.RowBytes.{length-joined}
use Rattle.cw_coding.proofs.LayoutLaws.{length-code_row}
use Rattle.coding_c.proofs.shards.codeword_of.Goals as goal

pub returns-clause-long : goal.returns-clause-long
returns-clause-long c =
    let w : ℕ = c.args.width in
    let old : List ℕ = c.in_ok-rows.rows.items in
    let even : w % 2 ≡ 0 = rw c.requires.width c.requires.shards.even in
    let row : ℕ → List ℕ = λ i. code_row c.args.k old w (c.args.k + i) in
    let added = length-joined c.args.m w row
    (λ i l. length-code_row c.args.k old w (c.args.k + i) even) in
    let step : (c.args.k + c.args.m) * w ≡ c.args.k * w + c.args.m * w = omega arith in
    omega (
      arith,
      ap length c.in_ok-add_recoveries_here.ensures.ok,
      length-append old (joined c.args.m row),
      added,
      c.in_ok-rows.ensures.long,
      step,
    )
