-- A disk in memory, as every contract sees it.
use Rattle.std.specs.Prelude.{◌≡◌, ℕ, ◌+◌, List, [], ◌∷◌, ◌++◌, length, Bool, true, false, ◌||◌, ◌&&◌, Option, Some, None, Result, Ok, Err}
use Rattle.std.specs.Option.{is_none}
use Rattle.std.specs.declared.alloc.AllocError.{AllocError}
use Rattle.cw_base.specs.Memory.{counted}
use Rattle.node_disk.specs.Disk.{DiskState}
use Rattle.node_disk.specs.Record.{Request, RecordedCall, Held, held_after, past_of, told_calls, moment_of, done_writes, decided, reopened_still, outcome_at, is_reached, is_to_fail}
use Rattle.node_disk.specs.declared.disk.DiskError.{DiskError}
use Rattle.node_disk.specs.declared.disk.DiskError.TheVariants as error
use Rattle.node_disk.specs.declared.record.Outcome.{Outcome}
use Rattle.node_disk.specs.declared.record.Stop.{Stop}

-- The record of its device calls, whether it was reopened since the last of them, the stop that is
-- armed, the numbers of the device calls that fail, how often a call failed, and how often a device
-- call was tried.
pub record MemoryState : Type 0 where
  pub calls : List RecordedCall
  pub reopened : Bool
  pub stop : Option Stop
  pub failing : List ℕ
  pub faults : ℕ
  pub tries : ℕ

-- a new disk, with these numbers of calls that fail
abbrev pub new_disk : List ℕ → MemoryState
new_disk failing =
    record { calls = []; reopened = false; stop = None; failing = failing; faults = 0; tries = 0 }

-- the disk after a restart: no stop is armed
abbrev pub reopened_disk : MemoryState → MemoryState
reopened_disk disk = record disk { reopened = true; stop = None }

-- what it tells of itself
abbrev pub memory_state : MemoryState → DiskState
memory_state disk =
    record {
      now = moment_of (held_after disk.calls disk.reopened);
      past = past_of disk.calls;
      calls = Some (told_calls disk.calls);
      faults = disk.faults;
      tries = disk.tries;
    }

-- its bytes, and the writes that wait for a sync, are those that it holds
pub record IsHeldBy (held : Held) (bytes : List ℕ) (pending : List (ℕ × List ℕ)) : Type 0 where
  pub seen : bytes ≡ held.seen
  pub unsynced : pending ≡ done_writes held.writes

-- a stop was reached, and the disk not reopened since
abbrev pub is_stopped : MemoryState → Bool
is_stopped disk = is_reached disk.stop (length disk.calls)

-- the next device call fails: a stop stands at it or was reached before it, or its number is one of
-- those that fail
abbrev pub next_fails : MemoryState → Bool
next_fails disk =
    is_reached disk.stop (length disk.calls + 1) || is_to_fail disk.failing (length disk.calls + 1)

-- no number is listed
abbrev pub is_none_listed : List ℕ → Bool
is_none_listed [] = true
is_none_listed (number ∷ failing) = false

-- no call to come fails: no stop is armed or was reached, and no number of a device call is one
-- that fails
abbrev pub is_calm : MemoryState → Bool
is_calm disk = is_none disk.stop && is_none_listed disk.failing

-- how the next device call goes
abbrev pub next_outcome : MemoryState → Outcome
next_outcome disk = outcome_at disk.stop disk.failing (length disk.calls)

-- a stop at this device call from now, the first being 1
abbrev pub stop_from_now : MemoryState → ℕ → ℕ → ℕ → Option Stop
stop_from_now disk call cut fill =
    Some (record { after = length disk.calls; call = call; cut = cut; fill = fill })

-- one device call more, which went as the stop and the numbers that fail decide
pub record HasCalled (request : Request) (old new : MemoryState) : Type 0 where
  pub calls : new.calls ≡ old.calls ++ record {
    reopened = old.reopened;
    request = request;
    outcome = next_outcome old;
  } ∷ []
  pub reopened : new.reopened ≡ false
  pub stop : new.stop ≡ old.stop
  pub failing : new.failing ≡ old.failing

-- what a device call answers that was done or not, or that was refused for memory
abbrev pub answer_of : Result Bool AllocError → Result (Unit {0}) DiskError
answer_of (Ok true) = Ok tt
answer_of (Ok false) = Err error.Failed
answer_of (Err refused) = Err error.NoMemory

-- the count of faults behind such a call
abbrev pub faults_after : Result Bool AllocError → ℕ → ℕ
faults_after (Ok true) faults = faults
faults_after (Ok false) faults = counted faults
faults_after (Err refused) faults = faults

-- one try more of a device call, and a fault more where it failed
abbrev pub HasCounted : Result Bool AllocError → MemoryState → MemoryState → Type 0
HasCounted made old new =
    new ≡ record old { faults = faults_after made old.faults; tries = counted old.tries }

-- some device calls more, each of which went as the stop and the numbers that fail decide
pub record Continues (old new : MemoryState) : Type 0 where
  pub requests : List Request
  pub calls : new.calls
      ≡ old.calls ++ decided old.stop old.failing (length old.calls) old.reopened requests
  pub reopened : new.reopened ≡ reopened_still old.reopened requests
  pub stop : new.stop ≡ old.stop
  pub failing : new.failing ≡ old.failing
