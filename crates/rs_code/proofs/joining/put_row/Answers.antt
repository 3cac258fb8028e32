use Rattle.std.proofs.Common.{◌≡◌, ℕ, ◌+◌, ◌-◌, ◌≤◌, List, length, take, get_or, sym, ap, ◌∙◌, arith, take_all}
use Rattle.std.proofs.lemmas.List.{get_or_default}
use borrow.Rule.Slice.PartMut.{mid_len, same_len_mid}
use Rattle.rs_code.specs.Rows.{joined}
use Rattle.rs_code.specs.Stripes.{stripe_start, row_of_stripes}
use Rattle.rs_code.proofs.RowBytes.{joined_none, push_joined}
use Rattle.rs_code.proofs.StripeCuts.{start_zero, start_at_end, start_rises, front_after, part, part_is}
use Rattle.rs_code.proofs.joining.put_row.Goals as goal

pub loop-index-init : goal.loop-index-init
loop-index-init c = record {
  long = c.requires.out;
  written = λ d.
      ap (λ (n : ℕ). take n c.args.out.now)
      (start_zero c.args.width (length c.args.stripes.now) (omega (arith, c.requires.some)))
      ∙ sym (joined_none (part c.args.width c.args.stripes.now d c.args.place));
}

pub loop-index-preserved : goal.loop-index-preserved
loop-index-preserved c =
    let first : ℕ = c.stripe_part-first.result.0 in
    let wide : ℕ = c.stripe_part-first.result.1 in
    let index : ℕ = c.loop-index.index in
    let row : List ℕ = c.loop-index.out in
    let news : List ℕ = c.copy_from_slice.new.self in
    let stripes = c.args.stripes.now in
    let start : ℕ → ℕ = stripe_start c.args.width (length stripes) in
    let fits : first + wide ≤ length row =
    omega (arith, c.stripe_part-first.ensures.within, c.loop-index.invariant.long) in
    let many : length news ≡ wide =
    c.copy_from_slice.ensures.len ∙ mid_len first (first + wide) row fits ∙ omega arith in
    let next : start (index + 1) ≡ first + wide =
    omega (
      arith,
      c.stripe_part-first.ensures.first,
      c.stripe_part-first.ensures.wide,
      start_rises c.args.width (length stripes) index (omega arith),
    ) in
    record {
      long =
          same_len_mid first (first + wide - first) row news c.copy_from_slice.ensures.len
          ∙ c.loop-index.invariant.long;
      written = λ d.
          push_joined (take first row) _ news index (part c.args.width stripes d c.args.place)
          (ap (λ (n : ℕ). take n row) c.stripe_part-first.ensures.first
          ∙ c.loop-index.invariant.written d)
          (front_after first wide (start (index + 1)) row news _ (omega (arith, fits)) many next)
          (c.copy_from_slice.ensures.after
          ∙ part_is wide _ c.args.place c.deref.result.now (get_or stripes index d).items
          c.stripe_part-first.ensures.wide
          (c.deref.ensures.value
          ∙ ap (λ v. v.items)
          (c.index-stripes-index.is ∙ get_or_default stripes index _ d (omega arith))));
    }

pub returns : goal.returns
unfolding row_of_stripes
returns c = λ d.
    let end : c.loop-index.index ≡ length c.args.stripes.now = omega arith in
    let whole : stripe_start c.args.width (length c.args.stripes.now) c.loop-index.index
    ≡ c.args.width =
    start_at_end c.args.width (length c.args.stripes.now) c.loop-index.index end in
    sym (take_all c.args.width c.loop-index.out (omega (arith, c.loop-index.invariant.long)))
    ∙ ap (λ (n : ℕ). take n c.loop-index.out) (sym whole)
    ∙ c.loop-index.invariant.written d
    ∙ ap (λ (n : ℕ). joined n (part c.args.width c.args.stripes.now d c.args.place)) end
