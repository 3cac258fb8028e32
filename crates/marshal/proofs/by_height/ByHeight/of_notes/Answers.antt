use Rattle.std.proofs.Common.{List, filter_map, subst, take}
use Rattle.cw_types.specs.declared.vote.Proposal.{Proposal}
use Rattle.cw_rules.specs.Held.{finalization_of}
use Rattle.marshal.specs.Bare.{bare}
use Rattle.marshal.specs.Heights.{TellsReached}
use Rattle.marshal.proofs.Knowing.{finals_on}
use Rattle.marshal.proofs.by_height.ByHeight.of_notes.Goals as goal

pub loop-note-preserved : goal.loop-note-preserved
loop-note-preserved g c =
    let items = c.as_slice-note-items.result.now in
    let i = c.loop-note.note-index in
    subst
    (λ (ps : List Proposal).
    TellsReached (bare g.H.Hasher.digest_of) c.args.notes.now ps c.put_final.new.self)
    (finals_on items i c.note-item.result c.loop-note-test.true c.note-item.is)
    (c.put_final.ensures (filter_map finalization_of (take i items)) c.loop-note.invariant)
