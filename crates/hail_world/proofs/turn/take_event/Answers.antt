use Rattle.std.proofs.Common.{◌≡◌, ap, Err}
use Rattle.node_disk.proofs.Calm.{never_cut}
use Rattle.hail_world.proofs.turn.take_event.Goals as goal

pub unreachable-requires : goal.unreachable-requires
unreachable-requires g c =
    let h = c.in-Err-Disk.ensures.cut (ap Err c.in-Err-Disk.field-0-is) in
    never_cut _ _ _ c.requires.calm h.cut.disk h.cut.calls
