use Rattle.std.proofs.Common.{◌∙◌, sym}
use Rattle.cw_types.proofs.Ordered.{found_same}
use Rattle.marshal.proofs.Raising.{no_final, raised_block}
use Rattle.marshal.proofs.reach.raise.Goals as goal

pub returns-in-Some-clause-block : goal.returns-in-Some-clause-block
returns-in-Some-clause-block c = λ k b place is look.
    raised_block c.args.note.now c.in-Block.commitment k c.in-Block.block b
    c.args.finals.now.entries c.in-Some.place.now place c.height.result
    c.raise_from.new.reach.items c.in-Block.is
    (sym (found_same c.args.finals.now.entries c.in-Block.commitment)
    ∙ sym c.in-Some.ensures.value)
    c.height.ensures.value c.raise_from.ensures.above is look

pub returns-in_default-get-clause-block : goal.returns-in_default-get-clause-block
returns-in_default-get-clause-block c = λ k b place is look.
    absurd
    (no_final c.args.note.now c.in-Block.commitment k c.in-Block.block b
    c.args.finals.now.entries place c.in-Block.is
    (sym (found_same c.args.finals.now.entries c.in-Block.commitment)
    ∙ sym c.in_default-get.ensures.value)
    is look)
