-- What a disk in memory holds after each of its device calls.
use Rattle.std.specs.Prelude.{ℕ, ◌+◌, ◌-◌, List, [], ◌∷◌, ◌++◌, length, take, map, replicate, nat_le, Bool, true, false, if◌then◌else◌, ◌==◌, Option, Some, None}
use Rattle.std.specs.List.{list_any}
use Rattle.node_disk.specs.Images.{Moment}
use Rattle.node_disk.specs.Disk.{DeviceCall, Wrote, Synced, put_at}
use Rattle.node_disk.specs.declared.record.Outcome.{Outcome}
use Rattle.node_disk.specs.declared.record.Outcome.TheVariants.{Done, Failed, Stopped}
use Rattle.node_disk.specs.declared.record.Action.{Action}
use Rattle.node_disk.specs.declared.record.Action.TheVariants as action
use Rattle.node_disk.specs.declared.record.Call.{Call}
use Rattle.node_disk.specs.declared.record.Stop.{Stop}
use Rattle.node_disk.specs.declared.record.Pending.{Pending}

-- what a device call asks for
pub data Request : Type 0 where
  Write : (place : ℕ) (bytes : List ℕ) → Request
  Sync : Request

-- a recorded device call: whether the disk was reopened since the one before, what it asked for,
-- and how it went
pub record RecordedCall : Type 0 where
  pub reopened : Bool
  pub request : Request
  pub outcome : Outcome

-- the request that an action keeps
abbrev pub request_of : Action → Request
request_of (action.Write place bytes) = Write place bytes.items
request_of action.Sync = Sync

-- a recorded call, as contracts see it
abbrev pub recorded_of : Call → RecordedCall
recorded_of call =
    record { reopened = call.reopened; request = request_of call.action; outcome = call.outcome }

-- a write since the last sync, and whether it was done
pub record Written : Type 0 where
  pub place : ℕ
  pub bytes : List ℕ
  pub done : Bool

-- what a disk holds: what a read gives, what the last sync that succeeded left, and the writes
-- since
pub record Held : Type 0 where
  pub seen : List ℕ
  pub synced : List ℕ
  pub writes : List Written

-- a new disk holds nothing
abbrev pub empty_disk : Held
empty_disk = record { seen = []; synced = []; writes = [] }

-- the range that a write covers
abbrev pub range_of : Written → ℕ × ℕ
range_of write = (write.place, length write.bytes)

-- what a disk tells of this moment
abbrev pub moment_of : Held → Moment
moment_of held =
    record { seen = held.seen; synced = held.synced; ranges = map range_of held.writes }

-- the first of these bytes, as many as the cut says, and the fill for each of the rest
abbrev pub torn : ℕ → ℕ → List ℕ → List ℕ
torn cut fill bytes = take cut bytes ++ replicate (length bytes - cut) fill

-- these bytes at this place, and no longer than before
abbrev pub put_within : List ℕ → ℕ → List ℕ → List ℕ
put_within old place bytes = take (length old) (put_at old place bytes)

-- these writes, joined in order and torn
abbrev pub put_torn : ℕ → ℕ → List (ℕ × List ℕ) → List ℕ → List ℕ
put_torn cut fill [] seen = seen
put_torn cut fill (write ∷ writes) seen =
    put_torn (cut - length write.1) fill writes (put_within seen write.0 (torn cut fill write.1))

-- the places and bytes of the writes that were done
abbrev pub done_writes : List Written → List (ℕ × List ℕ)
done_writes [] = []
done_writes (write ∷ writes) =
    if write.done then (write.place, write.bytes) ∷ done_writes writes else done_writes writes

-- the place and the bytes of a write that waits for a sync
abbrev pub write_of : Pending → ℕ × List ℕ
write_of write = (write.place, write.bytes.items)

-- one write more since the last sync
abbrev pub with_write : Held → List ℕ → ℕ → List ℕ → Bool → Held
with_write held seen place bytes done =
    record {
      seen = seen;
      synced = held.synced;
      writes = held.writes ++ record { place = place; bytes = bytes; done = done } ∷ [];
    }

-- What a disk holds after a device call. One that fails leaves the bytes as they were, and a write
-- that fails counts as a written range. A stop at a write leaves it torn, and a stop at a sync the
-- writes since the last one.
abbrev pub effect : Held → Request → Outcome → Held
effect held (Write place bytes) Done =
    with_write held (put_at held.seen place bytes) place bytes true
effect held (Write place bytes) Failed = with_write held held.seen place bytes false
effect held (Write place bytes) (Stopped cut fill) =
    with_write held (put_at held.seen place (torn cut fill bytes)) place bytes false
effect held Sync Done = record { seen = held.seen; synced = held.seen; writes = [] }
effect held Sync Failed = held
effect held Sync (Stopped cut fill) =
    record {
      seen = put_torn cut fill (done_writes held.writes) held.seen;
      synced = held.synced;
      writes = held.writes;
    }

-- after a reopening all that a read gives is on the disk
abbrev pub held_at_opening : Bool → Held → Held
held_at_opening true held = record { seen = held.seen; synced = held.seen; writes = [] }
held_at_opening false held = held

-- what a disk holds after a recorded call
abbrev pub held_after_call : Held → RecordedCall → Held
held_after_call held entry = effect (held_at_opening entry.reopened held) entry.request
    entry.outcome

-- what a disk holds after these calls, one after another
abbrev pub held_after_calls : Held → List RecordedCall → Held
held_after_calls held [] = held
held_after_calls held (entry ∷ entries) = held_after_calls (held_after_call held entry) entries

-- the moments before each of these calls
abbrev pub moments : Held → List RecordedCall → List Moment
moments held [] = []
moments held (entry ∷ entries) =
    moment_of (held_at_opening entry.reopened held) ∷ moments (held_after_call held entry) entries

-- a device call succeeded
abbrev pub has_succeeded : Outcome → Bool
has_succeeded Done = true
has_succeeded Failed = false
has_succeeded (Stopped cut fill) = false

-- a request as the disk tells it, and whether it was done
abbrev pub told_request : Request → Bool → DeviceCall
told_request (Write place bytes) done = Wrote place bytes done
told_request Sync done = Synced done

-- a recorded device call as the disk tells it
abbrev pub told_call : RecordedCall → DeviceCall
told_call entry = told_request entry.request (has_succeeded entry.outcome)

-- what a disk holds after these calls from the first on, and then reopened or not
unfoldable pub held_after : List RecordedCall → Bool → Held
held_after calls reopened = held_at_opening reopened (held_after_calls empty_disk calls)

-- the moments before each of these calls, from the first on
unfoldable pub past_of : List RecordedCall → List Moment
past_of calls = moments empty_disk calls

-- these recorded device calls as the disk tells them
unfoldable pub told_calls : List RecordedCall → List DeviceCall
told_calls calls = map told_call calls

-- the device call of this number, counted from 1, is a stop's or comes behind it
abbrev pub is_reached : Option Stop → ℕ → Bool
is_reached None number = false
is_reached (Some stop) number = nat_le (stop.after + stop.call) number

-- the number is one of those that fail
abbrev pub is_to_fail : List ℕ → ℕ → Bool
is_to_fail failing number = list_any (λ n. n == number) failing

-- how the next device call goes, after so many, by the numbers that fail
abbrev pub by_number : List ℕ → ℕ → Outcome
by_number failing made = if is_to_fail failing (made + 1) then Failed else Done

-- how the next device call goes: behind a stop it fails, at a stop it is stopped, and else the
-- numbers that fail decide
abbrev pub outcome_at : Option Stop → List ℕ → ℕ → Outcome
outcome_at None failing made = by_number failing made
outcome_at (Some stop) failing made =
    if nat_le (stop.after + stop.call) made then Failed
    else (if stop.after + stop.call == made + 1 then Stopped stop.cut stop.fill
    else by_number failing made)

-- how these go, one after another, after so many
abbrev pub decided : Option Stop → List ℕ → ℕ → Bool → List Request → List RecordedCall
decided stop failing made reopened [] = []
decided stop failing made reopened (request ∷ requests) =
    record { reopened = reopened; request = request; outcome = outcome_at stop failing made }
    ∷ decided stop failing (made + 1) false requests

-- a disk was reopened, and none of these was called since
abbrev pub reopened_still : Bool → List Request → Bool
reopened_still reopened [] = reopened
reopened_still reopened (request ∷ requests) = false
