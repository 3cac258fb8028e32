use Rattle.std.proofs.Common.{sym, ◌∙◌, ap, true}
use Rattle.node_disk.specs.Images.{Moment}
use Rattle.node_disk.specs.Disk.{Wrote, Synced}
use Rattle.node_disk.specs.Made.{last_moment}
use Rattle.node_disk.proofs.Making.{stopped_leaves, broken_leaves, failed_write, failed_sync}
use Rattle.node_disk.proofs.laws.law_of_files.Goals as goal

pub returns-clause-same : goal.returns-clause-same
returns-clause-same c calls old new file written made filed at =
    filed.now ∙ ap (λ (m : Moment). last_moment m calls) at ∙ sym made.now

pub returns-clause-stopped : goal.returns-clause-stopped
returns-clause-stopped c = stopped_leaves

pub returns-clause-write_failed : goal.returns-clause-write_failed
returns-clause-write_failed c did rest place bytes old new file stopped broken made front at inside
    failed =
    broken_leaves did rest (Wrote place bytes true) old new file stopped broken made front at
    failed.past (failed_write place bytes stopped broken inside failed)

pub returns-clause-sync_failed : goal.returns-clause-sync_failed
returns-clause-sync_failed c did rest old new file stopped broken made front at failed =
    broken_leaves did rest (Synced true) old new file stopped broken made front at failed.past
    (failed_sync stopped broken failed)
