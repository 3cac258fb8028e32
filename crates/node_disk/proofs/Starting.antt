-- A start on a file shorter than two bytes.
use Rattle.std.proofs.Common.{◌≡◌, ◌⊎◌, inl, inr, ℕ, ◌<◌, ◌≤◌, List, [], ◌∷◌, length, Ok, Option, true, refl, sym, ◌∙◌, ap, subst, arith}
use Rattle.node_disk.specs.Images.{IsImage}
use Rattle.node_disk.specs.Disk.{DiskState, DeviceCall, Synced, told_more, HasTold, IsCutShort, IsFront, Torn, LeavesOnly}
use Rattle.node_disk.specs.Frames.{read_log}
use Rattle.node_disk.specs.Log.{IsBeforeOrSame, write_then_sync, first_gate, start_calls}
use Rattle.node_disk.specs.Errors.{store_error}
use Rattle.node_disk.specs.declared.disk.DiskError.{DiskError}
use Rattle.node_disk.specs.declared.disk.DiskError.TheVariants.{Failed, NoMemory}
use Rattle.node_disk.specs.declared.log.StoreError.TheVariants as store
use Rattle.node_disk.proofs.Compose.{goes_on, weakens}
use Rattle.node_disk.proofs.Moments.{told_twice}
use Rattle.node_disk.proofs.AddFrame.{cut_earlier, cut_later, front_earlier, front_later}

pub read_short : (bytes : List ℕ) → length bytes < 2 → read_log bytes ≡ Ok []
read_short [] short = refl
read_short (a ∷ []) short = refl
read_short (a ∷ b ∷ bytes) short = absurd (omega arith)

pub short_start : (old mid new : DiskState) → LeavesOnly old mid (IsImage old.now)
    → mid.now.seen ≡ old.now.seen → length old.now.seen < 2
    → LeavesOnly mid new (Torn 0 1 mid.now.seen) → LeavesOnly old new (IsBeforeOrSame old.now)
short_start old mid new first same short second =
    goes_on old mid new (IsBeforeOrSame old.now)
    (weakens old mid (IsImage old.now) (IsBeforeOrSame old.now) (λ c is. inl is) first)
    (weakens mid new (Torn 0 1 mid.now.seen) (IsBeforeOrSame old.now)
    (λ c t. inr
    (read_short c (omega (arith, t.no_longer, ap length same))
    ∙ sym (read_short old.now.seen short)))
    second)

gate_calls : (seen : List ℕ) → length seen < 2 → write_then_sync 0 (0 ∷ []) ≡ first_gate seen
gate_calls [] short = refl
gate_calls (a ∷ []) short = refl
gate_calls (a ∷ b ∷ seen) short = absurd (omega arith)

-- a longer file needs no gate
pub told_long : (seen : List ℕ) (old new : DiskState) → 2 ≤ length seen
    → HasTold (Synced true ∷ []) old new → HasTold (start_calls seen) old new
told_long [] old new long told = absurd (omega arith)
told_long (a ∷ []) old new long told = absurd (omega arith)
told_long (a ∷ b ∷ seen) old new long told = told

-- the sync failed, or the read after it
pub cut_first : (seen : List ℕ) (old new : DiskState)
    → IsCutShort (Synced true ∷ []) old new ⊎ HasTold (Synced true ∷ []) old new
    → IsCutShort (start_calls seen) old new ⊎ HasTold (Synced true ∷ []) old new
cut_first seen old new (inl cut) =
    inl (cut_earlier (Synced true ∷ []) (first_gate seen) old new cut)
cut_first seen old new (inr read) = inr read

pub front_first : (seen : List ℕ) (old new : DiskState) → IsFront (Synced true ∷ []) old new
    → IsFront (start_calls seen) old new
front_first seen old new front = front_earlier (Synced true ∷ []) (first_gate seen) old new front

-- the first gate was written and synced
pub told_gate : (seen : List ℕ) (old mid new : DiskState) → length seen < 2
    → HasTold (Synced true ∷ []) old mid → HasTold (write_then_sync 0 (0 ∷ [])) mid new
    → HasTold (start_calls seen) old new
told_gate seen old mid new short synced written =
    written ∙ ap (λ (o : Option (List DeviceCall)). told_more o (write_then_sync 0 (0 ∷ []))) synced
    ∙ told_twice old.calls (Synced true ∷ []) (write_then_sync 0 (0 ∷ []))
    ∙ ap (λ (l : List DeviceCall). told_more old.calls (Synced true ∷ l)) (gate_calls seen short)

-- the first gate was not written or not synced
pub cut_gate : (seen : List ℕ) (old mid new : DiskState) → length seen < 2
    → HasTold (Synced true ∷ []) old mid → IsCutShort (write_then_sync 0 (0 ∷ [])) mid new
    → IsCutShort (start_calls seen) old new
cut_gate seen old mid new short synced cut =
    cut_later (Synced true ∷ []) (first_gate seen) old mid new synced
    (subst (λ (l : List DeviceCall). IsCutShort l mid new) (gate_calls seen short) cut)

pub front_gate : (seen : List ℕ) (old mid new : DiskState) → length seen < 2
    → HasTold (Synced true ∷ []) old mid → IsFront (write_then_sync 0 (0 ∷ [])) mid new
    → IsFront (start_calls seen) old new
front_gate seen old mid new short synced front =
    front_later (Synced true ∷ []) (first_gate seen) old mid new synced
    (subst (λ (l : List DeviceCall). IsFront l mid new) (gate_calls seen short) front)

-- which error of a disk a store answers so
pub disk_only : (e : DiskError) → store_error e ≡ store.Disk → e ≡ Failed
disk_only Failed is = refl
disk_only NoMemory is = absurd (cc)

pub memory_only : (e : DiskError) → store_error e ≡ store.NoMemory → e ≡ NoMemory
memory_only Failed is = absurd (cc)
memory_only NoMemory is = refl
