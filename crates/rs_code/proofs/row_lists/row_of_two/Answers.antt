use Rattle.std.proofs.Common.{◌≡◌, ℕ, ◌+◌, ◌-◌, ◌*◌, ◌/◌, ◌%◌, ◌<◌, ◌≤◌, ◌++◌, List, length, sym, ap, ◌∙◌, arith, div-add-mod'}
use Rattle.std.proofs.Math.Nat.{mul-add-div_right}
use Rattle.cw_base.specs.Rows.{row_of}
use Rattle.rs_code.proofs.RowPicks.{row_before, row_behind, row_fits}
use Rattle.rs_code.proofs.row_lists.row_of_two.Goals as goal

whole_first : (n w : ℕ) → n % w ≡ 0 → n ≡ n / w * w
whole_first n w h = omega (arith, h, div-add-mod' n w)

behind : (a b w i : ℕ) → 0 < w → a % w ≡ 0 → i < (a + b) / w → a / w ≤ i → i - a / w < b / w
behind a b w i some whole within least =
    let sum : (a + b) / w ≡ a / w + b / w =
    ap (λ (n : ℕ). (n + b) / w) (whole_first a w whole) ∙ mul-add-div_right some (a / w) b in
    omega (arith, within, least, sum)

pub returns-then-i-count : goal.returns-then-i-count
returns-then-i-count c =
    let w : ℕ = c.args.width in
    let first : List ℕ = c.args.first.now in
    c.row.ensures
    ∙ sym (row_before first c.args.second.now w c.args.i
    (row_fits first w c.args.i c.if-i-count.true))

pub row-requires-2-clause-within : goal.row-requires-2-clause-within
row-requires-2-clause-within c =
    behind (length c.args.first.now) (length c.args.second.now) c.args.width c.args.i
    c.requires.some_width c.requires.whole c.requires.within c.if-i-count.false

pub returns : goal.returns
returns c =
    let w : ℕ = c.args.width in
    let i : ℕ = c.args.i in
    let first : List ℕ = c.args.first.now in
    let second : List ℕ = c.args.second.now in
    let n : ℕ = length first / w in
    let place : n + (i - n) ≡ i = omega (arith, c.if-i-count.false) in
    c.row-2.ensures
    ∙ sym (row_behind first second w n (i - n) (whole_first (length first) w c.requires.whole)
    (row_fits second w (i - n) (behind (length first) (length second) w i c.requires.some_width
    c.requires.whole c.requires.within c.if-i-count.false)))
    ∙ ap (row_of (first ++ second) w) place
