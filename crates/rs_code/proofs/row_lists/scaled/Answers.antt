use Rattle.std.proofs.Common.{◌≡◌, ℕ, suc, ◌+◌, ◌*◌, ◌/◌, ◌≤◌, List, length, get_or, sym, ap, ◌∙◌, arith, mul-le-mul_right}
use Rattle.cw_base.specs.Rows.{row_of}
use Rattle.rs_code.specs.Field.{times}
use Rattle.rs_code.specs.Rows.{symbol, symbol_bytes}
use Rattle.rs_code.proofs.RowBytes.{joined_none, push_joined, length-joined, length-symbol_bytes, symbol_bytes_same}
use Rattle.rs_code.proofs.RowPicks.{row_long, symbol_of_row}
use Rattle.rs_code.proofs.row_lists.scaled.Goals as goal

pub loop-i-init : goal.loop-i-init
loop-i-init c = c.in_ok-scaled.ensures.items ∙ sym (joined_none _)

pub loop-i-preserved : goal.loop-i-preserved
loop-i-preserved c =
    let rows : List ℕ = c.args.rows.now in
    let w : ℕ = c.args.width in
    let i : ℕ = c.loop-i.i in
    let factor : ℕ = get_or c.args.factors.now i 0 in
    let whole : suc i * w ≤ length c.args.factors.now * w = mul-le-mul_right w (omega arith) in
    let within : i * w + w ≤ length rows = omega (arith, whole, c.requires.rows) in
    push_joined c.loop-i.scaled.items _ _ i
    (λ i. symbol_bytes (w / 2) (λ j. times (symbol rows w i j) (get_or c.args.factors.now i 0)))
    c.loop-i.invariant c.in_ok-push_scaled.ensures
    (ap (λ (xs : List ℕ). symbol_bytes (length xs / 2) (λ j. times (symbol xs 0 0 j) factor))
    c.row.ensures
    ∙ ap (λ (n : ℕ). symbol_bytes (n / 2)
    (λ j. times (symbol (row_of rows w i) 0 0 j) factor)) (row_long rows w i within)
    ∙ symbol_bytes_same (w / 2) _ _
    (λ j l. ap (λ (x : ℕ). times x factor) (symbol_of_row rows w i j (omega (arith, l)))))

pub returns-clause-long : goal.returns-clause-long
returns-clause-long c =
    let all : c.loop-i.i ≡ length c.args.factors.now = omega arith in
    ap length c.loop-i.invariant
    ∙ length-joined c.loop-i.i c.args.width _
    (λ i _. length-symbol_bytes (c.args.width / 2) _ ∙ omega (arith, c.requires.even))
    ∙ ap (λ (n : ℕ). n * c.args.width) all
