use Rattle.std.proofs.Common.{◌∙◌, ap, length, refl, take}
use Rattle.std.proofs.lemmas.List.{take_at}
use Rattle.cw_coding.proofs.LayoutLaws.{codeword_long, codeword_rows}
use Rattle.cw_coding.proofs.layout.codeword_here.Goals as goal

pub returns-clause-first : goal.returns-clause-first
returns-clause-first c =
    ap (take (length c.args.originals.rows.items)) c.in_ok-add_recoveries_here.ensures.ok
    ∙ take_at c.args.originals.rows.items _ _ refl

pub returns-clause-long : goal.returns-clause-long
returns-clause-long c =
    codeword_long c.args.k c.args.m c.args.originals.width c.args.originals.rows.items _
    c.requires.even c.requires.long c.in_ok-add_recoveries_here.ensures.ok

pub returns-clause-value : goal.returns-clause-value
returns-clause-value c text width laid =
    codeword_rows c.prove_rows.ensures.originals c.args.k c.args.m text
    c.args.originals.rows.items _ c.args.originals.width c.requires.some c.requires.total
    (rw c.deref.ensures.value at c.bytes_fit.ensures) width laid
    c.in_ok-add_recoveries_here.ensures.ok
