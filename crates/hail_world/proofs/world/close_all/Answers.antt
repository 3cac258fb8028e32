use Rattle.std.proofs.Common.{rules, map-id, sym, ◌∙◌}
use Rattle.std.proofs.lemmas.Iterator.Adapters.{YieldsList-from_vec}
use Rattle.std.proofs.lemmas.Iterator.Consumers.{YieldsList-end}
use Rattle.hail_world.proofs.Closing.{closed_more}
use Rattle.hail_world.proofs.world.close_all.Goals as goal

pub loop-place-preserved : goal.loop-place-preserved
loop-place-preserved g c =
    closed_more c.loop-place.yielded c.in-Some.place c.in_ok-close.field-0 c.loop-place.disks
    c.push_closed.new.disks c.loop-place.nodes c.push_closed.new.nodes c.loop-place.invariant
    c.in_ok-close.ensures
    c.in_ok-push_closed.ensures.disks c.in_ok-push_closed.ensures.nodes

pub returns : goal.returns
returns g c = λ r w sound members.
    let end =
    YieldsList-end
    (YieldsList-from_vec {s = c.into_iter-place-iterator.result} c.args.places.items
    (search rules) (search rules))
    c.loop-place.yielded c.loop-place.place-iterator c.loop-place.yielded_by c.next.result
    c.next.new.self c.in-None.is c.next.ensures.steps in
    let all = sym (map-id c.loop-place.yielded) ∙ end.0 in
    c.loop-place.invariant r w.members (rw all sound) (rw all members)
