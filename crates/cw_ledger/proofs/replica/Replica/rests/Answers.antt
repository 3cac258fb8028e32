use Rattle.std.proofs.Common.{◌≡◌, ◌∙◌, false, ap}
use Rattle.node_disk.specs.Images.{IsImage}
use Rattle.node_disk.specs.RecordWords.{has_failed, log_disk, log_frames, log_gate}
use Rattle.node_disk.proofs.AtRest.{settled_images}
use Rattle.cw_ledger.specs.Kept.{kept_payloads}
use Rattle.cw_ledger.specs.Ledger.{Ledger}
use Rattle.cw_ledger.proofs.Adding.{finds_payloads, stays_found}
use Rattle.cw_ledger.proofs.replica.Replica.rests.Goals as goal

pub returns-clause-found : goal.returns-clause-found
returns-clause-found g c works image is =
    let calm : has_failed c.self.inside.log ≡ false =
    ap (λ (s : Ledger g.row.D.Denot). s.failed) c.self.view_is ∙ works in
    let there : IsImage (g.D.Disk.state (log_disk c.self.inside.log)).now image =
    rw (← c.self.view_is) at is in
    rw (← c.self.view_is)
    (finds_payloads (log_frames c.self.inside.log)
    (kept_payloads (log_frames c.self.inside.log)) image c.self.invariant.found
    (settled_images (log_frames c.self.inside.log) (log_gate c.self.inside.log)
    (g.D.Disk.state (log_disk c.self.inside.log)).now (c.self.inside.log.settled calm) image
    there))

pub returns-clause-stays : goal.returns-clause-stays
returns-clause-stays g c works others =
    let calm : has_failed c.self.inside.log ≡ false =
    ap (λ (s : Ledger g.row.D.Denot). s.failed) c.self.view_is ∙ works in
    rw (← c.self.view_is)
    (stays_found (log_frames c.self.inside.log) (kept_payloads (log_frames c.self.inside.log))
    others (log_gate c.self.inside.log) (g.D.Disk.state (log_disk c.self.inside.log))
    c.self.invariant.found (c.self.inside.log.settled calm))
