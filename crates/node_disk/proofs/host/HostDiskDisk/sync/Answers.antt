use Rattle.std.proofs.Common.{rules, map, true, false}
use Rattle.node_disk.specs.Disk.{Synced}
use Rattle.node_disk.specs.Host.{told_of}
use Rattle.node_disk.proofs.Hosting.{called, made_sync, not_done}
use Rattle.node_disk.proofs.host.HostDiskDisk.sync.Goals as goal

pub returns-in-Ok-clause-continues : goal.returns-in-Ok-clause-continues
returns-in-Ok-clause-continues g c =
    called g.D.Disk.state g.D.Disk.continues c.args.self.now c.self.inside.inner c.sync.new.self
    (map told_of c.self.inside.calls.items) (map told_of c.note.new.calls.items)
    c.self.inside.tries c.saturating_add-self-inside.result (Synced true)
    c.self.view_is c.sync.ensures.continues
    (search rules)
    (λ done. made_sync _ _ c.in-Ok.ensures.ok)

pub returns-in-Err-Failed-clause-continues : goal.returns-in-Err-Failed-clause-continues
returns-in-Err-Failed-clause-continues g c =
    called g.D.Disk.state g.D.Disk.continues c.args.self.now c.self.inside.inner c.sync.new.self
    (map told_of c.self.inside.calls.items) (map told_of c.note-in-Err-Failed.new.calls.items)
    c.self.inside.tries c.saturating_add-self-inside.result (Synced false)
    c.self.view_is c.sync.ensures.continues
    (search rules)
    (λ done. not_done (Synced false) _ _ done)
