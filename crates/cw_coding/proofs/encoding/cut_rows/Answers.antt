use Rattle.cw_coding.proofs.encoding.cut_rows.Goals as goal

pub returns : goal.returns
returns g c = rw c.in_ok-shared.ensures.ok at c.in_ok-chunks.ensures
