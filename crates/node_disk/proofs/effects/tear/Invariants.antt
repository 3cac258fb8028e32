use Rattle.std.proofs.Common.{◌≡◌, map, drop}
use Rattle.node_disk.specs.Record.{put_torn, write_of}
use Rattle.node_disk.proofs.effects.tear.Given as goal

abbrev pub invariant-loop-write : goal.invariant-loop-write
invariant-loop-write l =
    put_torn l.left l.fill (map write_of (drop l.write-index l.pending)) l.bytes.items
    ≡ put_torn l.cut l.fill (map write_of l.pending) l.fn.bytes.items
