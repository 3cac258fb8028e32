use Rattle.std.proofs.Common.{◌≡◌, ℕ, ◌+◌, ◌-◌, ◌*◌, ◌/◌, ◌≤◌, List, length, take, sym, ap, ◌∙◌, arith, mul-le-mul_right, take_all, refl, div-add-mod'}
use borrow.Rule.Slice.PartMut.{mid_len, same_len_mid}
use Rattle.rs_code.specs.Rows.{joined}
use Rattle.rs_code.specs.Stripes.{row_of_stripes}
use Rattle.rs_code.proofs.RowBytes.{joined_none, push_joined}
use Rattle.rs_code.proofs.StripeCuts.{front_after, have_fewer}
use Rattle.rs_code.proofs.joining.put_group.Goals as goal

pub loop-place-init : goal.loop-place-init
loop-place-init c = record {
  long = refl;
  written =
      λ d. ap (λ (n : ℕ). take n c.args.group.now)
      (let none : 0 * c.args.width ≡ 0 = omega arith in none)
      ∙ sym (joined_none _);
}

pub put_row-requires-clause-rows : goal.put_row-requires-clause-rows
put_row-requires-clause-rows c =
    have_fewer c.args.width _ _ c.args.stripes.now c.requires.rows (omega arith)

pub loop-place-preserved : goal.loop-place-preserved
loop-place-preserved c =
    let width : ℕ = c.args.width in
    let place : ℕ = c.loop-place.place in
    let start : ℕ = place * width in
    let group : List ℕ = c.loop-place.group in
    let news : List ℕ = c.put_row.new.out in
    let long : length group ≡ length c.args.group.now = c.loop-place.invariant.long in
    let whole : (place + 1) * width ≤ length c.args.group.now / width * width =
    mul-le-mul_right width (omega arith) in
    let fits : start + width ≤ length group =
    omega (arith, long, whole, div-add-mod' (length c.args.group.now) width) in
    let many : length news ≡ width =
    c.put_row.auto.out ∙ mid_len start (start + width) group fits ∙ omega arith in
    record {
      long = same_len_mid start (start + width - start) group news c.put_row.auto.out ∙ long;
      written = λ d.
          push_joined (take start group) _ news place
          (λ i. row_of_stripes width c.args.stripes.now d (c.args.first + i))
          (c.loop-place.invariant.written d)
          (front_after start width ((place + 1) * width) group news _ (omega (arith, fits)) many
          (omega arith))
          (c.put_row.ensures d);
    }

pub returns : goal.returns
returns c = λ d.
    let width : ℕ = c.args.width in
    let n : ℕ = length c.args.group.now / width in
    let end : c.loop-place.place ≡ n = omega arith in
    let all : c.loop-place.place * width ≡ length c.args.group.now =
    ap (λ (m : ℕ). m * width) end
    ∙ omega (arith, div-add-mod' (length c.args.group.now) width, c.requires.whole) in
    sym
    (take_all (c.loop-place.place * width) c.loop-place.group
    (omega (arith, all, c.loop-place.invariant.long)))
    ∙ c.loop-place.invariant.written d
    ∙ ap (λ (m : ℕ). joined m (λ i. row_of_stripes width c.args.stripes.now d (c.args.first + i)))
    end
