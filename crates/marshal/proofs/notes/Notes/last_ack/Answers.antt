use Rattle.std.proofs.Common.{◌-◌, ◌^◌, None}
use Rattle.std.specs.List.{filter_map}
use Rattle.cw_rules.specs.Held.{acked_height}
use Rattle.note_scans.proofs.Least.{acks_below, last_below}
use Rattle.marshal.proofs.notes.Notes.last_ack.Goals as goal

pub returns-clause-bound : goal.returns-clause-bound
returns-clause-bound g c =
    rw c.self.invariant.topped
    (last_below (2 ^ 64 - 1) None (filter_map acked_height c.self.inside.notes.items) tt
    (acks_below c.self.inside.notes.items c.self.invariant.forms))
