use Rattle.std.proofs.Common.{ap}
use Rattle.cw_types.specs.Order.{commitment_cmp}
use Rattle.cw_types.specs.OrderLaws.{commitments_tie}
use Rattle.cw_types.specs.Same.{same_commitment}
use Rattle.cw_rules.specs.Notes.{is_block}
use Rattle.marshal.proofs.Placing.{first_gone, gone_so}
use Rattle.marshal.proofs.places.take_place.Goals as goal

pub returns-in-Block-clause-places : goal.returns-in-Block-clause-places
returns-in-Block-clause-places c = λ notes has at.
    first_gone same_commitment is_block c.args.places.now.entries c.take_last.new.map.entries notes
    c.args.note.now c.in-Block.commitment c.args.place (λ d. ap (is_block d) c.in-Block.is) has
    (gone_so same_commitment commitment_cmp commitments_tie c.in-Block.commitment c.args.place
    c.args.places.now.entries c.take_last.new.map.entries c.take_last.ensures)
    at
