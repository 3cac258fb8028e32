-- A disk that notes its device calls for a host.
use Rattle.std.specs.Prelude.{◌≡◌, ℕ, List, ◌++◌, true, Some}
use Rattle.node_disk.specs.Disk.{DiskState, DeviceCall, Wrote, Synced}
use Rattle.node_disk.specs.Made.{all_done, HasMade}
use Rattle.node_disk.specs.declared.host.HostCall.{HostCall}
use Rattle.node_disk.specs.declared.host.HostCall.TheVariants as host

-- a device call as a disk tells it
abbrev pub told_of : HostCall → DeviceCall
told_of (host.Write place bytes done) = Wrote place bytes done
told_of (host.Sync done) = Synced done

-- the disk below, the device calls that wait to be taken, and how often one was tried
pub record HostState (D : Type 0) : Type 0 where
  pub inner : D
  pub waiting : List DeviceCall
  pub tries : ℕ

-- What it tells of itself is what the disk below tells; but the device calls that it tells are
-- those that wait, and the tries are its own.
abbrev pub host_state : {D : Type 0} → (D → DiskState) → HostState D → DiskState
host_state state disk = record (state disk.inner) {
  calls = Some disk.waiting;
  tries = disk.tries;
}

-- The disk below went on, and the device calls that were made there wait behind the others.
pub record HostContinues {D : Type 0} (state : D → DiskState) (continues : D → D → Type 0)
    (old new : HostState D) : Type 0 where
  pub inner : continues old.inner new.inner
  pub calls : List DeviceCall
  pub waiting : new.waiting ≡ old.waiting ++ calls
  pub made : all_done calls ≡ true → HasMade calls (state old.inner) (state new.inner)
