use Rattle.cw_coding.proofs.LayoutLaws.{rows_long}
use Rattle.cw_coding.proofs.Matches.{ok_more}
use Rattle.cw_coding.proofs.layout.rows_of_text.Goals as goal

pub returns-clause-value : goal.returns-clause-value
returns-clause-value g c =
    c.codeword.ensures.value c.args.text.now c.in_ok-originals.ensures.width
    c.in_ok-originals.ensures.rows

pub returns-clause-long : goal.returns-clause-long
returns-clause-long g c =
    ok_more _ _ c.codeword.result (returns-clause-value g c)
    (λ v is. rows_long c.args.k c.args.m c.args.text.now _ is)
