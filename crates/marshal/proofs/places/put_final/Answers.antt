use Rattle.std.proofs.Common.{ap, false, sym}
use Rattle.std.specs.Option.{option_map_or}
use Rattle.cw_types.specs.Order.{commitment_cmp}
use Rattle.cw_types.specs.OrderLaws.{commitments_tie}
use Rattle.cw_types.specs.Same.{same_commitment}
use Rattle.marshal.specs.Reach.{is_final}
use Rattle.marshal.proofs.Placing.{kept_first, kept_so}
use Rattle.marshal.proofs.places.put_final.Goals as goal

pub returns-in_ok-put_first-in-Some-clause-ok : goal.returns-in_ok-put_first-in-Some-clause-ok
returns-in_ok-put_first-in-Some-clause-ok c = λ notes has at.
    kept_first same_commitment is_final c.args.finals.now.entries c.put_first.new.map.entries
    notes c.args.note.now c.in-Some.proposal.payload c.args.place
    (λ d.
    ap (λ o. option_map_or (λ p. same_commitment d p.payload) o false) (sym c.in-Some.ensures))
    has
    (kept_so same_commitment commitment_cmp commitments_tie c.in-Some.proposal.payload c.args.place
    c.args.finals.now.entries c.put_first.new.map.entries c.in_ok-put_first-in-Some.ensures.ok)
    at
