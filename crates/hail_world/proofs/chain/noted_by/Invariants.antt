use Rattle.std.proofs.Common.{◌≡◌, drop}
use Rattle.cw_rules.specs.Accepted.{first_some}
use Rattle.cw_rules.specs.Held.{noted_block_of}
use Rattle.hail_world.proofs.chain.noted_by.Given as goal

-- the notes from here on decide
abbrev pub invariant-loop-note : goal.invariant-loop-note
invariant-loop-note l =
    first_some (noted_block_of l.commitment) (drop l.note-index l.notes)
    ≡ first_some (noted_block_of l.commitment) l.notes
