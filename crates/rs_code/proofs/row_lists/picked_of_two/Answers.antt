use Rattle.std.proofs.Common.{◌≡◌, ℕ, ◌/◌, ◌<◌, ◌++◌, List, ap, sym, ◌∙◌, length, get_or, refl, arith, length-append, subst}
use Rattle.std.proofs.lemmas.Slice.{pushed}
use Rattle.cw_base.specs.Rows.{row_of}
use Rattle.rs_code.specs.Rows.{joined}
use Rattle.rs_code.proofs.RowPicks.{row_fits, row_long}
use Rattle.rs_code.proofs.RowBytes.{joined_none, push_joined, length-joined}
use Rattle.rs_code.proofs.row_lists.picked_of_two.Goals as goal

pub loop-i-init : goal.loop-i-init
loop-i-init c = c.new-picked.ensures.items ∙ sym (joined_none _)

pub loop-i-preserved : goal.loop-i-preserved
loop-i-preserved c =
    push_joined c.loop-i.picked.items _ c.row_of_two.result.now c.loop-i.i
    (λ i. row_of (c.args.first.now ++ c.args.second.now) c.args.width
    (get_or c.args.places.now i 0))
    c.loop-i.invariant
    (pushed c.row_of_two.result.now refl c.in_ok-extend_from_slice.was
    c.extend_from_slice.ensures.items)
    c.row_of_two.ensures

pub returns-clause-long : goal.returns-clause-long
returns-clause-long c =
    let all : c.loop-i.i ≡ length c.args.places.now = omega arith in
    let w : ℕ = c.args.width in
    let both : List ℕ = c.args.first.now ++ c.args.second.now in
    ap length (c.loop-i.invariant
    ∙ ap (λ (n : ℕ). joined n (λ i. row_of both w (get_or c.args.places.now i 0))) all)
    ∙ length-joined (length c.args.places.now) w _
    (λ i h. row_long both w (get_or c.args.places.now i 0)
    (row_fits both w (get_or c.args.places.now i 0)
    (subst (λ (n : ℕ). get_or c.args.places.now i 0 < n / w)
    (sym (length-append c.args.first.now c.args.second.now)) (c.requires.within i h))))

pub returns-clause-rows : goal.returns-clause-rows
returns-clause-rows c =
    c.loop-i.invariant
    ∙ ap (λ (n : ℕ). joined n (λ i. row_of (c.args.first.now ++ c.args.second.now) c.args.width
    (get_or c.args.places.now i 0)))
    (let all : c.loop-i.i ≡ length c.args.places.now = omega arith in all)
