use Rattle.std.proofs.Common.{◌≡◌, take}
use Rattle.cw_rules.specs.Held.{last_ack}
use Rattle.hail_world.proofs.world.last_ack.Given as goal

-- the last one so far
abbrev pub invariant-loop-note : goal.invariant-loop-note
invariant-loop-note l = l.last ≡ last_ack (take l.note-index l.notes)
