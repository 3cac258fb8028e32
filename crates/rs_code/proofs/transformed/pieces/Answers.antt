use Rattle.rs_code.proofs.TransformSizes.{pieces_within, pieces_cover}
use Rattle.rs_code.proofs.transformed.pieces.Goals as goal

pub returns-clause-within : goal.returns-clause-within
returns-clause-within c = pieces_within c.args.total c.args.each c.requires.some

pub returns-clause-all : goal.returns-clause-all
returns-clause-all c = pieces_cover c.args.total c.args.each c.requires.some
