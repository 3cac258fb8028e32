use Rattle.std.proofs.Common.{◌≡◌, take}
use Rattle.std.specs.List.{flat_map}
use Rattle.cw_rules.specs.Sends.{note_sends}
use Rattle.node.specs.Holding.{rules_of}
use Rattle.node.specs.Store.{stored_notes}
use Rattle.node.proofs.holding.Holding.notes_out.Given as goal

abbrev pub invariant-loop-note : goal.invariant-loop-note
invariant-loop-note g l =
    l.out.items
    ≡ flat_map
    (note_sends (rules_of g.H.Hasher.digest_of g.A.Application.accepts l.self) l.self.id
    (stored_notes l.self.store))
    (take l.note-index l.notes)
