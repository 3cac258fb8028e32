use Rattle.std.proofs.Common.{◌≡◌, ℕ, List, Option, refl}
use Rattle.hail_world.specs.Places.{script_rules}
use Rattle.hail_world.proofs.Opening.{opened_more, opened_none}
use Rattle.hail_world.proofs.world.open_all.Goals as goal

pub loop-id-preserved : goal.loop-id-preserved
loop-id-preserved g c =
    let s = c.args.script.now in
    opened_more (script_rules g.H.Hasher.digest_of s) s.lines c.loop-id.id c.loop-id.places.items
    c.push.new.self.items c.loop-id.opening c.push_entry.new.entries c.in_ok-place.place
    c.in_ok-place.entry c.loop-id.invariant
    c.in_ok-place.ensures.member c.in_ok-place.ensures.sound c.in_ok-place.ensures.entry
    c.in_ok-push.ensures.items c.in_ok-push_entry.ensures
