use Rattle.std.proofs.Common.{◌≡◌, ◌-◌}
use Rattle.cw_base.specs.Ends.{IsEnd}
use Rattle.cw_types.specs.Reading.{signers_at}
use Rattle.cw_types.proofs.SignersRead.{with_front}
use Rattle.cw_types.proofs.vote.read_signers.Given as goal

abbrev pub invariant-loop-i : goal.invariant-loop-i
invariant-loop-i l =
    (with_front l.signers (signers_at (l.count - l.i) l.reader) ≡ signers_at l.count l.fn.reader)
    × IsEnd l.fn.reader l.reader
