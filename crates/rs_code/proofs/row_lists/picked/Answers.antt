use Rattle.std.proofs.Common.{◌≡◌, ℕ, ap, sym, ◌∙◌, length, get_or, refl, arith}
use Rattle.std.proofs.lemmas.Slice.{pushed}
use Rattle.cw_base.specs.Rows.{row_of}
use Rattle.rs_code.specs.Rows.{joined}
use Rattle.rs_code.proofs.RowPicks.{row_fits, row_long}
use Rattle.rs_code.proofs.RowBytes.{joined_none, push_joined, length-joined}
use Rattle.rs_code.proofs.row_lists.picked.Goals as goal

pub loop-i-init : goal.loop-i-init
loop-i-init c = c.new-picked.ensures.items ∙ sym (joined_none _)

pub loop-i-preserved : goal.loop-i-preserved
loop-i-preserved c =
    push_joined c.loop-i.picked.items _ c.row.result.now c.loop-i.i
    (λ i. row_of c.args.rows.now c.args.width (get_or c.args.places.now i 0))
    c.loop-i.invariant
    (pushed c.row.result.now refl c.in_ok-extend_from_slice.was c.extend_from_slice.ensures.items)
    c.row.ensures

pub returns-clause-long : goal.returns-clause-long
returns-clause-long c =
    let all : c.loop-i.i ≡ length c.args.places.now = omega arith in
    ap length (c.loop-i.invariant
    ∙ ap (λ (n : ℕ). joined n (λ i. row_of c.args.rows.now c.args.width (get_or c.args.places.now i 0)))
    all)
    ∙ length-joined (length c.args.places.now) c.args.width _
    (λ i h. row_long c.args.rows.now c.args.width (get_or c.args.places.now i 0)
    (row_fits c.args.rows.now c.args.width (get_or c.args.places.now i 0) (c.requires.within i h)))

pub returns-clause-rows : goal.returns-clause-rows
returns-clause-rows c =
    c.loop-i.invariant
    ∙ ap (λ (n : ℕ). joined n (λ i. row_of c.args.rows.now c.args.width (get_or c.args.places.now i 0)))
    (let all : c.loop-i.i ≡ length c.args.places.now = omega arith in all)
