use Rattle.std.proofs.Common.{rules, map, ℕ, List, true, false}
use Rattle.node_disk.specs.Disk.{Wrote}
use Rattle.node_disk.specs.Host.{told_of}
use Rattle.node_disk.proofs.Hosting.{called, made_write, not_done}
use Rattle.node_disk.proofs.host.HostDiskDisk.write_at.Goals as goal

pub returns-in-Ok-clause-continues : goal.returns-in-Ok-clause-continues
returns-in-Ok-clause-continues g c =
    let place : ℕ = c.args.place in
    let bytes : List ℕ = c.args.bytes.now in
    called g.D.Disk.state g.D.Disk.continues c.args.self.now c.self.inside.inner c.write_at.new.self
    (map told_of c.self.inside.calls.items) (map told_of c.note.new.calls.items)
    c.self.inside.tries c.saturating_add-self-inside.result (Wrote place bytes true)
    c.self.view_is c.write_at.ensures.continues
    (search rules)
    (λ done. made_write place bytes _ _ c.in-Ok.ensures.ok)

pub returns-in-Err-Failed-clause-continues : goal.returns-in-Err-Failed-clause-continues
returns-in-Err-Failed-clause-continues g c =
    let place : ℕ = c.args.place in
    let bytes : List ℕ = c.args.bytes.now in
    called g.D.Disk.state g.D.Disk.continues c.args.self.now c.self.inside.inner c.write_at.new.self
    (map told_of c.self.inside.calls.items) (map told_of c.note-in-Err-Failed.new.calls.items)
    c.self.inside.tries c.saturating_add-self-inside.result (Wrote place bytes false)
    c.self.view_is c.write_at.ensures.continues
    (search rules)
    (λ done. not_done (Wrote place bytes false) _ _ done)
