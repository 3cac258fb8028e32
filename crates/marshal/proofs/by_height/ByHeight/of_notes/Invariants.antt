use Rattle.std.proofs.Common.{take}
use Rattle.std.specs.List.{filter_map}
use Rattle.cw_rules.specs.Held.{finalization_of}
use Rattle.marshal.specs.Bare.{bare}
use Rattle.marshal.specs.Heights.{TellsReached}
use Rattle.marshal.proofs.by_height.ByHeight.of_notes.Given as goal

-- the finalizations among the notes so far
abbrev pub invariant-loop-note : goal.invariant-loop-note
invariant-loop-note g l =
    TellsReached (bare g.H.Hasher.digest_of) l.notes
    (filter_map finalization_of (take l.note-index l.note-items)) l.heights
