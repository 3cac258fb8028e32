use Rattle.std.proofs.Common.{ap, false, sym}
use Rattle.std.specs.Option.{option_map_or}
use Rattle.cw_types.specs.Order.{commitment_cmp}
use Rattle.cw_types.specs.OrderLaws.{commitments_tie}
use Rattle.cw_types.specs.Same.{same_commitment}
use Rattle.marshal.specs.Reach.{is_final}
use Rattle.marshal.proofs.Placing.{first_gone, gone_so}
use Rattle.marshal.proofs.places.take_final.Goals as goal

pub returns-in-Some : goal.returns-in-Some
returns-in-Some c = λ notes has at.
    first_gone same_commitment is_final c.args.finals.now.entries c.take_last.new.map.entries notes
    c.args.note.now c.in-Some.proposal.payload c.args.place
    (λ d.
    ap (λ o. option_map_or (λ p. same_commitment d p.payload) o false) (sym c.in-Some.ensures))
    has
    (gone_so same_commitment commitment_cmp commitments_tie c.in-Some.proposal.payload c.args.place
    c.args.finals.now.entries c.take_last.new.map.entries c.take_last.ensures)
    at
