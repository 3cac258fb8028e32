-- What a disk tells of itself, and what its calls do.
use Rattle.std.specs.Prelude.{◌≡◌, ◌⊎◌, ℕ, ◌+◌, ◌≤◌, max, List, [], ◌∷◌, ◌++◌, length, take, drop, Option, Some, None, Bool, true, false}
use Rattle.cw_base.specs.Causes.{Rose}
use Rattle.node_disk.specs.Images.{Moment, IsImage, HadImage}

-- a device call, and whether it succeeded
pub data DeviceCall : Type 0 where
  Wrote : (place : ℕ) (bytes : List ℕ) (done : Bool) → DeviceCall
  Synced : (done : Bool) → DeviceCall

-- the same call, failed
abbrev pub failing : DeviceCall → DeviceCall
failing (Wrote place bytes done) = Wrote place bytes false
failing (Synced done) = Synced false

-- What a disk tells of itself: this moment, the moments before each of its device calls, those
-- calls where it tells them, how often a call failed, and how often a device call was tried, those
-- refused for memory included. A crash in the middle of a write leaves an image of the moment
-- behind it, and one in the middle of a sync an image of the moment before it, so the moments
-- between the calls say what any crash leaves.
pub record DiskState : Type 0 where
  pub now : Moment
  pub past : List Moment
  pub calls : Option (List DeviceCall)
  pub faults : ℕ
  pub tries : ℕ

-- a crash at a moment since the one of this number may have left this image
abbrev pub LeftSince : DiskState → ℕ → List ℕ → Type 0
LeftSince disk moment image = HadImage (drop moment disk.past) image ⊎ IsImage disk.now image

-- these calls more, where the disk tells its calls
abbrev pub told_more : Option (List DeviceCall) → List DeviceCall → Option (List DeviceCall)
told_more None calls = None
told_more (Some told) calls = Some (told ++ calls)

-- what the disk tells more is these device calls
abbrev pub HasTold : List DeviceCall → DiskState → DiskState → Type 0
HasTold calls old new = new.calls ≡ told_more old.calls calls

-- these bytes at this place
abbrev pub put_at : List ℕ → ℕ → List ℕ → List ℕ
put_at old place bytes = take place old ++ bytes ++ drop (place + length bytes) old

-- new is old with these bytes at this place
abbrev pub Holds : List ℕ → ℕ → List ℕ → List ℕ → Type 0
Holds old place bytes new = new ≡ put_at old place bytes

-- any bytes in this range and past the old end, the same elsewhere
pub record Torn (place count : ℕ) (old new : List ℕ) : Type 0 where
  pub before : take place new ≡ take place old
  pub after : drop (place + count) new ≡ drop (place + count) old
  pub no_shorter : length old ≤ length new
  pub no_longer : length new ≤ max (length old) (place + count)

-- a write that succeeded
pub record HasWritten (place : ℕ) (bytes : List ℕ) (old new : DiskState) : Type 0 where
  pub seen : Holds old.now.seen place bytes new.now.seen
  pub synced : new.now.synced ≡ old.now.synced
  pub ranges : new.now.ranges ≡ old.now.ranges ++ (place, length bytes) ∷ []
  pub past : new.past ≡ old.past ++ old.now ∷ []
  pub calls : new.calls ≡ told_more old.calls (Wrote place bytes true ∷ [])

-- a write that failed counts as a written range
pub record HasFailedToWrite (place : ℕ) (bytes : List ℕ) (old new : DiskState) : Type 0 where
  pub seen : Torn place (length bytes) old.now.seen new.now.seen
  pub synced : new.now.synced ≡ old.now.synced
  pub ranges : new.now.ranges ≡ old.now.ranges ++ (place, length bytes) ∷ []
  pub past : new.past ≡ old.past ++ old.now ∷ []
  pub calls : new.calls ≡ told_more old.calls (Wrote place bytes false ∷ [])
  pub cause : Rose old.faults new.faults

-- a sync that succeeded
pub record HasSynced (old new : DiskState) : Type 0 where
  pub seen : new.now.seen ≡ old.now.seen
  pub synced : new.now.synced ≡ old.now.seen
  pub ranges : new.now.ranges ≡ []
  pub past : new.past ≡ old.past ++ old.now ∷ []
  pub calls : new.calls ≡ told_more old.calls (Synced true ∷ [])

-- a sync that failed is no sync, and a read may then give another image
pub record HasFailedToSync (old new : DiskState) : Type 0 where
  pub seen : length new.now.seen ≡ length old.now.seen
  pub synced : new.now.synced ≡ old.now.synced
  pub ranges : new.now.ranges ≡ old.now.ranges
  pub past : new.past ≡ old.past ++ old.now ∷ []
  pub calls : new.calls ≡ told_more old.calls (Synced false ∷ [])
  pub cause : Rose old.faults new.faults

-- nothing was done to the disk
pub record IsSame (old new : DiskState) : Type 0 where
  pub now : new.now ≡ old.now
  pub past : new.past ≡ old.past
  pub calls : new.calls ≡ old.calls

-- The disk went on from old to new, and a crash at any moment since, both included, leaves an image
-- that has P.
pub record LeavesOnly (old new : DiskState) (P : List ℕ → Type 0) : Type 0 where
  pub since : List Moment
  pub past : new.past ≡ old.past ++ since
  pub left : (image : List ℕ) → LeftSince new (length old.past) image → P image

-- what is told more of these device calls is those in front, done, and then one that failed
pub record IsCutShort (calls : List DeviceCall) (old new : DiskState) : Type 0 where
  pub did : List DeviceCall
  pub next : DeviceCall
  pub rest : List DeviceCall
  pub whole : calls ≡ did ++ next ∷ rest
  pub told : HasTold (did ++ failing next ∷ []) old new

-- what is told more of these device calls is those in front, done
pub record IsFront (calls : List DeviceCall) (old new : DiskState) : Type 0 where
  pub did : List DeviceCall
  pub rest : List DeviceCall
  pub whole : calls ≡ did ++ rest
  pub told : HasTold did old new
