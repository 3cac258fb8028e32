use Rattle.std.proofs.Common.{◌≡◌, ℕ, ◌*◌, ◌<◌, List, length, get_or, sym, ap, ◌∙◌, arith, ext_get_or}
use Rattle.rs_code.specs.Stripes.{row_of_stripes}
use Rattle.rs_code.proofs.RowBytes.{length-joined}
use Rattle.rs_code.proofs.RowGroups.{group_of, in_group, whole_group}
use Rattle.rs_code.proofs.StripeCuts.{length-row_of_stripes, have_fewer}
use Rattle.rs_code.proofs.joining.put_rows.Goals as goal

pub for_each_chunk_mut-requires-clause-accepts : goal.for_each_chunk_mut-requires-clause-accepts
for_each_chunk_mut-requires-clause-accepts g c κs within = λ start p chunk.
    let group =
    group_of c.args.count c.args.width c.max-each.result start c.args.out.now p.now
    c.requires.wide c.requires.out chunk in (
      c.requires.some,
      c.requires.wide,
      whole_group c.args.count c.args.width start (length p.now) group,
      omega (arith, group.first_is, group.rows_is, group.within, c.ranges.count.fits),
      have_fewer c.args.width c.args.count _ c.args.stripes.now c.requires.rows
          (omega (arith, group.first_is, group.rows_is, group.within)),
    )

pub returns : goal.returns
returns g c = λ d.
    let count : ℕ = c.args.count in
    let width : ℕ = c.args.width in
    let row : ℕ → List ℕ = row_of_stripes width c.args.stripes.now d in
    let widths : (i : ℕ) → i < count → length (row i) ≡ width =
    λ i l. length-row_of_stripes width count c.args.stripes.now d i c.requires.rows c.requires.some
    l in
    let all : length c.for_each_chunk_mut.new.s ≡ count * width =
    c.for_each_chunk_mut.auto.s ∙ c.requires.out in
    ext_get_or 0 _ _ (all ∙ sym (length-joined count width row widths))
    (λ i l.
    let k = (c.for_each_chunk_mut.ensures.by_index i 0 (omega (arith, l, all, c.requires.out))).1 in
    sym k.new_element ∙ ap (λ (xs : List ℕ). get_or xs k.offset 0) (k.call d)
    ∙ in_group count width k.start (length k.argument.now) k.offset i row c.requires.wide widths
    (group_of count width c.max-each.result k.start c.args.out.now k.argument.now c.requires.wide
    c.requires.out k.argument_is)
    k.offset_in_chunk k.start_plus_offset)
