use Rattle.std.proofs.Common.{◌≡◌, ◌-◌, map}
use Rattle.cw_base.specs.Ends.{IsEnd}
use Rattle.cw_tree.specs.Formats.{digests_at}
use Rattle.cw_tree.proofs.ReadLoop.{with_front}
use Rattle.cw_tree.proofs.codec.read_digests.Given as goal

abbrev pub invariant-loop-i : goal.invariant-loop-i
invariant-loop-i g l =
    (with_front (map g.D.Digest.content l.digests)
    (digests_at g.D.Digest.SIZE (l.count - l.i) l.reader)
    ≡ digests_at g.D.Digest.SIZE l.count l.fn.reader)
    × IsEnd l.fn.reader l.reader
