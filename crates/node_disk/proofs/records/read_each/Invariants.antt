use Rattle.std.proofs.Common.{map, take}
use Rattle.node_disk.proofs.Refusing.{AreRead}
use Rattle.node_disk.proofs.records.read_each.Given as goal

abbrev pub invariant-loop-index : goal.invariant-loop-index
invariant-loop-index g l =
    AreRead g.K.Records.is_record (map (λ frame. frame.now) l.frames) l.place l.index
    × g.K.Records.keeps l.records (take l.index (map (λ frame. frame.now) l.frames))
