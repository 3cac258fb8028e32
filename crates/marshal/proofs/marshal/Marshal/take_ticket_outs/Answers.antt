use Rattle.std.proofs.Common.{refl}
use Rattle.node_disk.specs.RecordWords.{log_frames}
use Rattle.marshal.proofs.Committing.{all_are}
use Rattle.marshal.proofs.marshal.Marshal.take_ticket_outs.Goals as goal

pub returns-clause-served : goal.returns-clause-served
returns-clause-served g c =
    let all =
    all_are (log_frames c.self.inside.log) c.self.inside.notes c.self.inside.last
    c.self.inside.kept c.self.inside.given.items c.self.invariant in
    rw (← c.self.view_is, all) c.in_ok-out.ensures.served

pub returns-clause-ok : goal.returns-clause-ok
returns-clause-ok g c =
    let all =
    all_are (log_frames c.self.inside.log) c.self.inside.notes c.self.inside.last
    c.self.inside.kept c.self.inside.given.items c.self.invariant in
    rw (← c.self.view_is, all, c.in_ok-out.ensures.ok) refl
