use Rattle.std.proofs.Common.{refl}
use Rattle.cw_coding.proofs.LayoutLaws.{row_is}
use Rattle.cw_coding.proofs.recovering.row.Goals as goal

pub returns : goal.returns
returns c = row_is c.args.rows.now _ c.args.i c.args.width refl
