use Rattle.std.proofs.Common.{map}
use Rattle.cw_rules.specs.Held.{noted_block_of}
use Rattle.hail_world.specs.Places.{notes_at}
use Rattle.hail_world.proofs.Searching.{lists_here, lists_on}
use Rattle.hail_world.proofs.chain.noted_in.Goals as goal

pub returns-in-Some : goal.returns-in-Some
returns-in-Some g c =
    lists_here (noted_block_of c.args.commitment.now) notes_at c.args.places.now
    c.loop-place.place-index c.place-item.result c.notes_at.result.now c.in-Some.found.now
    c.loop-place-test.true c.place-item.is
    c.notes_at.ensures c.in-Some.ensures c.loop-place.invariant

pub loop-place-preserved : goal.loop-place-preserved
loop-place-preserved g c =
    lists_on (noted_block_of c.args.commitment.now) notes_at c.args.places.now
    c.loop-place.place-index c.place-item.result c.notes_at.result.now c.loop-place-test.true
    c.place-item.is
    c.notes_at.ensures c.in_default.ensures c.loop-place.invariant
