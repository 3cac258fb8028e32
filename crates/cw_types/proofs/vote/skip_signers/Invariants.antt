use Rattle.std.proofs.Common.{ℕ, ◌-◌, List}
use Rattle.cw_base.specs.Ends.{IsEnd}
use Rattle.cw_base.specs.Reading.{IsRefused}
use Rattle.cw_base.specs.declared.reader.CodecError.{CodecError}
use Rattle.cw_types.specs.Reading.{signers_at}
use Rattle.cw_types.proofs.vote.skip_signers.Given as goal

-- what refuses those that are left refuses them all
abbrev pub invariant-loop-i : goal.invariant-loop-i
invariant-loop-i l =
    ((e : CodecError) (left : List ℕ) → IsRefused e left (signers_at (l.count - l.i) l.reader)
    → IsRefused e left (signers_at l.count l.fn.reader))
    × IsEnd l.fn.reader l.reader
