-- One device call more on a disk for a host.
use Rattle.std.proofs.Common.{◌≡◌, ℕ, List, [], ◌∷◌, ◌++◌, length, true, false, refl, sym, subst}
use Rattle.node_disk.specs.Images.{Moment}
use Rattle.node_disk.specs.Disk.{DiskState, DeviceCall, Wrote, Synced, failing, put_at, HasWritten, HasSynced}
use Rattle.node_disk.specs.Made.{all_done, HasMade}
use Rattle.node_disk.specs.Host.{HostState, HostContinues}

moment_of_parts : (m : Moment) (seen synced : List ℕ) (ranges : List (ℕ × ℕ)) → m.seen ≡ seen
    → m.synced ≡ synced → m.ranges ≡ ranges
    → m ≡ record { seen = seen; synced = synced; ranges = ranges }
moment_of_parts m seen synced ranges first second third = rw (sym first, sym second, sym third) refl

pub made_write : (place : ℕ) (bytes : List ℕ) (old new : DiskState)
    → HasWritten place bytes old new → HasMade (Wrote place bytes true ∷ []) old new
made_write place bytes old new wrote = record {
  now =
      moment_of_parts new.now (put_at old.now.seen place bytes) old.now.synced
      (old.now.ranges ++ (place, length bytes) ∷ []) wrote.seen wrote.synced wrote.ranges;
  past = wrote.past;
}

pub made_sync : (old new : DiskState) → HasSynced old new → HasMade (Synced true ∷ []) old new
made_sync old new synced = record {
  now = moment_of_parts new.now old.now.seen old.now.seen [] synced.seen synced.synced synced.ranges;
  past = synced.past;
}

-- a failed call is not one that was made
pub not_done : (call : DeviceCall) (old new : DiskState) → all_done (failing call ∷ []) ≡ true
    → HasMade (failing call ∷ []) old new
not_done (Wrote place bytes done) old new is = absurd (let no : false ≡ true = is in cc)
not_done (Synced done) old new is = absurd (let no : false ≡ true = is in cc)

-- a call more that waits, and what it did to the disk below
pub called : {D : Type 0} (state : D → DiskState) (continues : D → D → Type 0) (was : HostState D)
    (old new : D) (waited waits : List DeviceCall) (tried tries : ℕ) (call : DeviceCall)
    → record { inner = old; waiting = waited; tries = tried } ≡ was → continues old new
    → waits ≡ waited ++ call ∷ []
    → (all_done (call ∷ []) ≡ true → HasMade (call ∷ []) (state old) (state new))
    → HostContinues state continues was (record { inner = new; waiting = waits; tries = tries })
called {D} state continues was old new waited waits tried tries call view inner waiting made =
    subst
    (λ (h : HostState D). HostContinues state continues h
    (record { inner = new; waiting = waits; tries = tries }))
    view
    (record { inner = inner; calls = call ∷ []; waiting = waiting; made = made })
