use Rattle.std.proofs.Common.{◌≡◌, drop}
use Rattle.cw_rules.specs.Accepted.{first_some}
use Rattle.cw_rules.specs.Held.{noted_block_of}
use Rattle.note_scans.proofs.blocks.first_block.Given as goal

abbrev pub invariant-loop-note : goal.invariant-loop-note
invariant-loop-note l =
    first_some (noted_block_of l.commitment) (drop l.note-index l.notes)
    ≡ first_some (noted_block_of l.commitment) l.notes
