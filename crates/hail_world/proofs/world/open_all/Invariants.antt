use Rattle.hail_world.specs.Places.{script_rules}
use Rattle.hail_world.proofs.Opening.{AreOpened}
use Rattle.hail_world.proofs.world.open_all.Given as goal

-- the places up to here
abbrev pub invariant-loop-id : goal.invariant-loop-id
invariant-loop-id g l =
    AreOpened (script_rules g.H.Hasher.digest_of l.script) l.script.lines l.id l.places.items
    l.opening
