-- One recorded device call more.
use Rattle.std.proofs.Common.{◌≡◌, ℕ, ◌+◌, ◌≤◌, List, [], ◌∷◌, ◌++◌, length, take, drop, map, Bool, true, false, not, ◌||◌, ◌==◌, nat_le, if◌then◌else◌, Option, Some, None, refl, sym, ◌∙◌, ap, subst, arith, length-append, length-take, length-drop, append_assoc}
use Rattle.std.proofs.lemmas.List.{map-append, length-map, take_at, drop_at}
use Rattle.std.proofs.lemmas.Bool.Decides.{nat_tests}
use Rattle.cw_base.specs.Causes.{Rose}
use Rattle.node_disk.specs.Images.{Moment}
use Rattle.node_disk.specs.Disk.{DeviceCall, told_more, put_at, Torn, HasWritten, HasFailedToWrite, HasSynced, HasFailedToSync}
use Rattle.node_disk.specs.Record.{Held, Written, RecordedCall, Request, Write, Sync, request_of, recorded_of, range_of, moment_of, torn, done_writes, effect, held_at_opening, held_after_call, held_after_calls, moments, empty_disk, held_after, past_of, told_calls, told_call, told_request, has_succeeded, is_reached, is_to_fail, by_number, outcome_at}
use Rattle.node_disk.specs.Memory.{MemoryState, memory_state, next_outcome, next_fails, IsHeldBy, HasCalled, Continues}
use Rattle.node_disk.specs.MemoryLaws.{length-torn, length-put_torn}
use Rattle.node_disk.specs.declared.record.Stop.{Stop}
use Rattle.node_disk.specs.declared.record.Call.{Call}
use Rattle.node_disk.specs.declared.record.Outcome.{Outcome}
use Rattle.node_disk.specs.declared.record.Outcome.TheVariants.{Done, Failed, Stopped}
use Rattle.node_disk.proofs.Moments.{torn_same}

run_push : (held : Held) (entries : List RecordedCall) (e : RecordedCall)
    → held_after_calls held (entries ++ e ∷ []) ≡ held_after_call (held_after_calls held entries) e
run_push held [] e = refl
run_push held (f ∷ entries) e = run_push (held_after_call held f) entries e

moments_push : (held : Held) (entries : List RecordedCall) (e : RecordedCall)
    → moments held (entries ++ e ∷ [])
    ≡ moments held entries ++ moment_of (held_at_opening e.reopened (held_after_calls held entries))
    ∷ []
moments_push held [] e = refl
moments_push held (f ∷ entries) e =
    ap (λ (l : List Moment). moment_of (held_at_opening f.reopened held) ∷ l)
    (moments_push (held_after_call held f) entries e)

done_only : (o : Outcome) → has_succeeded o ≡ true → o ≡ Done
done_only Done is = refl
done_only Failed is = absurd (let no : false ≡ true = is in cc)
done_only (Stopped c x) is = absurd (let no : false ≡ true = is in cc)

ranges_push : (writes : List Written) (w : Written)
    → map range_of (writes ++ w ∷ []) ≡ map range_of writes ++ range_of w ∷ []
ranges_push writes w = map-append range_of writes (w ∷ [])

-- other bytes of that number in the range
pub torn_put : (old : List ℕ) (place count : ℕ) (bytes : List ℕ) → length bytes ≡ count
    → place ≤ length old → Torn place count old (put_at old place bytes)
torn_put old place count bytes size inside =
    let front : length (take place old) ≡ place = omega (arith, length-take place old) in
    let both : length (take place old ++ bytes) ≡ place + count =
    omega (arith, length-append (take place old) bytes) in
    let same : place + length bytes ≡ place + count = omega arith in
    record {
      before =
          ap (λ (l : List ℕ). take place l)
          (append_assoc (take place old) bytes (drop (place + length bytes) old))
          ∙ take_at (take place old) (bytes ++ drop (place + length bytes) old) place front;
      after =
          drop_at (take place old ++ bytes) (drop (place + length bytes) old) (place + count) both
          ∙ ap (λ (n : ℕ). drop n old) same;
      no_shorter =
          omega (
            arith,
            length-append (take place old ++ bytes) (drop (place + length bytes) old),
            length-drop (place + length bytes) old,
          );
      no_longer =
          omega (
            arith,
            length-append (take place old ++ bytes) (drop (place + length bytes) old),
            length-drop (place + length bytes) old,
          );
    }

by_number_done : (failing : List ℕ) (made : ℕ)
    → has_succeeded (by_number failing made) ≡ not (is_to_fail failing (made + 1))
by_number_done failing made = cases (is_to_fail failing (made + 1))
  where
    cases : (b : Bool) → has_succeeded (if b then Failed else Done) ≡ not b
    cases true = refl
    cases false = refl

one_more : (m n : ℕ) → (nat_le m n || m == n + 1) ≡ nat_le m (n + 1)
one_more m n = grind (arith, nat_tests)

-- a call succeeds exactly where no stop stands at it or before it and its number isn't listed
pub outcome_done : (stop : Option Stop) (failing : List ℕ) (made : ℕ)
    → has_succeeded (outcome_at stop failing made)
    ≡ not (is_reached stop (made + 1) || is_to_fail failing (made + 1))
outcome_done None failing made = by_number_done failing made
outcome_done (Some stop) failing made =
    cases (nat_le (stop.after + stop.call) made) (stop.after + stop.call == made + 1)
    (nat_le (stop.after + stop.call) (made + 1)) (is_to_fail failing (made + 1))
    (by_number failing made) (by_number_done failing made) stop.cut stop.fill reaches
  where
    reaches : (nat_le (stop.after + stop.call) made || stop.after + stop.call == made + 1)
        ≡ nat_le (stop.after + stop.call) (made + 1)
    reaches = one_more (stop.after + stop.call) made

    cases : (past here by listed : Bool) (other : Outcome) → has_succeeded other ≡ not listed
        → (cut fill : ℕ) → (past || here) ≡ by
        → has_succeeded (if past then Failed else (if here then Stopped cut fill else other))
        ≡ not (by || listed)
    cases true here by listed other is cut fill reach = cc
    cases false true by listed other is cut fill reach = cc
    cases false false by listed other is cut fill reach = cc

-- a call that was added to the record, by the fields of the disk before and after
pub called_by : (request : Request) (calls now : List Call) (added : Call) (old new : MemoryState)
    → now ≡ calls ++ added ∷ [] → request_of added.action ≡ request
    → added.outcome ≡ outcome_at old.stop old.failing (length calls)
    → added.reopened ≡ old.reopened → old.calls ≡ map recorded_of calls → new.calls
    ≡ map recorded_of now
    → new.reopened ≡ false → new.stop ≡ old.stop → new.failing ≡ old.failing
    → HasCalled request old new
called_by request calls now added old new pushed asked known reopened before after closed stop
    failing =
    let count : length calls ≡ length old.calls =
    sym (length-map calls recorded_of) ∙ ap length (sym before) in
    let outcome : added.outcome ≡ next_outcome old =
    known ∙ ap (λ (n : ℕ). outcome_at old.stop old.failing n) count in
    let entry : recorded_of added ≡ record {
      reopened = old.reopened;
      request = request;
      outcome = next_outcome old;
    } =
    λ i. record { reopened = reopened i; request = asked i; outcome = outcome i } in
    record {
      calls =
          after ∙ ap (map recorded_of) pushed ∙ map-append recorded_of calls (added ∷ [])
          ∙ ap (λ (l : List RecordedCall). l ++ recorded_of added ∷ []) (sym before)
          ∙ ap (λ (e : RecordedCall). old.calls ++ e ∷ []) entry;
      reopened = closed;
      stop = stop;
      failing = failing;
    }

-- what the disk holds and tells after one call more
module _ (request : Request) (old new : MemoryState) (called : HasCalled request old new) where
  abbrev pub held : Held
  held = held_after old.calls old.reopened

  abbrev entry : RecordedCall
  entry = record { reopened = old.reopened; request = request; outcome = next_outcome old }

  pub held_now : held_after new.calls new.reopened ≡ effect held request (next_outcome old)
  unfolding held_after
  held_now =
      ap (λ (r : Bool). held_at_opening r (held_after_calls empty_disk new.calls)) called.reopened
      ∙ ap (λ (l : List RecordedCall). held_after_calls empty_disk l) called.calls
      ∙ run_push empty_disk old.calls entry

  pub past_now : past_of new.calls ≡ past_of old.calls ++ moment_of held ∷ []
  unfolding held_after past_of
  past_now =
      ap (λ (l : List RecordedCall). moments empty_disk l) called.calls
      ∙ moments_push empty_disk old.calls entry

  told_now : told_calls new.calls
      ≡ told_calls old.calls ++ told_request request (has_succeeded (next_outcome old)) ∷ []
  unfolding told_calls
  told_now = ap (map told_call) called.calls ∙ map-append told_call old.calls (entry ∷ [])

  pub told_some : (done : Bool) → has_succeeded (next_outcome old) ≡ done
      → (memory_state new).calls
      ≡ told_more (memory_state old).calls (told_request request done ∷ [])
  told_some done is =
      ap (λ (l : List DeviceCall). Some l) told_now
      ∙ ap (λ (b : Bool). Some (told_calls old.calls ++ told_request request b ∷ [])) is

  pub keeps_now : (outcome : Outcome) (bytes : List ℕ) (pending : List (ℕ × List ℕ))
      (calls : List Call)
      → outcome ≡ outcome_at old.stop old.failing (length calls) → old.calls ≡ map recorded_of calls
      → bytes ≡ (effect held request outcome).seen
      → pending ≡ done_writes (effect held request outcome).writes
      → IsHeldBy (held_after new.calls new.reopened) bytes pending
  keeps_now outcome bytes pending calls known before seen unsynced =
      let count : length calls ≡ length old.calls =
      sym (length-map calls recorded_of) ∙ ap length (sym before) in
      let same : effect held request outcome ≡ held_after new.calls new.reopened =
      ap (λ (o : Outcome). effect held request o)
      (known ∙ ap (λ (n : ℕ). outcome_at old.stop old.failing n) count)
      ∙ sym held_now in
      record {
        seen = seen ∙ ap (λ (h : Held). h.seen) same;
        unsynced = unsynced ∙ ap (λ (h : Held). done_writes h.writes) same;
      }

  pub outcome_was : (outcome : Outcome) (calls : List Call) (done : Bool)
      → outcome ≡ outcome_at old.stop old.failing (length calls) → old.calls ≡ map recorded_of calls
      → has_succeeded outcome ≡ done → has_succeeded (next_outcome old) ≡ done
  outcome_was outcome calls done known before is =
      let count : length calls ≡ length old.calls =
      sym (length-map calls recorded_of) ∙ ap length (sym before) in
      ap has_succeeded (sym (known ∙ ap (λ (n : ℕ). outcome_at old.stop old.failing n) count)) ∙ is

  pub called_continues : Continues old new
  called_continues =
      record {
        requests = request ∷ [];
        calls = called.calls;
        reopened = called.reopened;
        stop = called.stop;
        failing = called.failing;
      }

  pub called_succeeds : has_succeeded (next_outcome old) ≡ true → next_fails old ≡ false
  called_succeeds done =
      flip (next_fails old) (sym (outcome_done old.stop old.failing (length old.calls)) ∙ done)
    where
      flip : (b : Bool) → not b ≡ true → b ≡ false
      flip true is = cc
      flip false is = refl

  pub called_fails : has_succeeded (next_outcome old) ≡ false → next_fails old ≡ true
  called_fails fails =
      flip (next_fails old) (sym (outcome_done old.stop old.failing (length old.calls)) ∙ fails)
    where
      flip : (b : Bool) → not b ≡ false → b ≡ true
      flip true is = refl
      flip false is = cc

module _ (place : ℕ) (bytes : List ℕ) (old new : MemoryState)
    (called : HasCalled (Write place bytes) old new) where
  abbrev held_before : Held
  held_before = held_after old.calls old.reopened

  pub write_done : has_succeeded (next_outcome old) ≡ true
      → HasWritten place bytes (memory_state old) (memory_state new)
  write_done done =
      let next : held_after new.calls new.reopened ≡ effect held_before (Write place bytes) Done =
      held_now (Write place bytes) old new called
      ∙ ap (λ (o : Outcome). effect held_before (Write place bytes) o)
      (done_only (next_outcome old) done) in
      record {
        seen = ap (λ (h : Held). h.seen) next;
        synced = ap (λ (h : Held). h.synced) next;
        ranges =
            ap (λ (h : Held). map range_of h.writes) next
            ∙ ranges_push held_before.writes (record { place = place; bytes = bytes; done = true });
        past = past_now (Write place bytes) old new called;
        calls = told_some (Write place bytes) old new called true done;
      }

  failed_as : (o : Outcome) → has_succeeded o ≡ false → place ≤ length held_before.seen
      → Torn place (length bytes) held_before.seen (effect held_before (Write place bytes) o).seen
      × ((effect held_before (Write place bytes) o).synced ≡ held_before.synced)
      × (map range_of (effect held_before (Write place bytes) o).writes
      ≡ map range_of held_before.writes ++ (place, length bytes) ∷ [])
  failed_as Done fails inside = absurd (let so : true ≡ false = fails in cc)
  failed_as Failed fails inside = (
    torn_same place (length bytes) held_before.seen,
    refl,
    ranges_push held_before.writes (record { place = place; bytes = bytes; done = false }),
  )
  failed_as (Stopped cut fill) fails inside = (
    torn_put held_before.seen place (length bytes) (torn cut fill bytes)
        (length-torn cut fill bytes) inside,
    refl,
    ranges_push held_before.writes (record { place = place; bytes = bytes; done = false }),
  )

  pub write_failed : has_succeeded (next_outcome old) ≡ false → place ≤ length held_before.seen
      → Rose old.faults new.faults
      → HasFailedToWrite place bytes (memory_state old) (memory_state new)
  write_failed not_done inside rose =
      let next : held_after new.calls new.reopened
      ≡ effect held_before (Write place bytes) (next_outcome old) =
      held_now (Write place bytes) old new called in
      let so = failed_as (next_outcome old) not_done inside in
      record {
        seen =
            subst (λ (h : Held). Torn place (length bytes) held_before.seen h.seen) (sym next) so.0;
        synced = ap (λ (h : Held). h.synced) next ∙ so.1;
        ranges = ap (λ (h : Held). map range_of h.writes) next ∙ so.2;
        past = past_now (Write place bytes) old new called;
        calls = told_some (Write place bytes) old new called false not_done;
        cause = rose;
      }

module _ (old new : MemoryState) (called : HasCalled Sync old new) where
  abbrev held_then : Held
  held_then = held_after old.calls old.reopened

  pub sync_done : has_succeeded (next_outcome old) ≡ true
      → HasSynced (memory_state old) (memory_state new)
  sync_done done =
      let next : held_after new.calls new.reopened ≡ effect held_then Sync Done =
      held_now Sync old new called
      ∙ ap (λ (o : Outcome). effect held_then Sync o) (done_only (next_outcome old) done) in
      record {
        seen = ap (λ (h : Held). h.seen) next;
        synced = ap (λ (h : Held). h.synced) next;
        ranges = ap (λ (h : Held). map range_of h.writes) next;
        past = past_now Sync old new called;
        calls = told_some Sync old new called true done;
      }

  not_synced : (o : Outcome) → has_succeeded o ≡ false
      → (length (effect held_then Sync o).seen ≡ length held_then.seen)
      × ((effect held_then Sync o).synced ≡ held_then.synced)
      × ((effect held_then Sync o).writes ≡ held_then.writes)
  not_synced Done fails = absurd (let so : true ≡ false = fails in cc)
  not_synced Failed fails = (refl, refl, refl)
  not_synced (Stopped cut fill) fails =
      (length-put_torn cut fill (done_writes held_then.writes) held_then.seen, refl, refl)

  pub sync_failed : has_succeeded (next_outcome old) ≡ false → Rose old.faults new.faults
      → HasFailedToSync (memory_state old) (memory_state new)
  sync_failed not_done rose =
      let next : held_after new.calls new.reopened ≡ effect held_then Sync (next_outcome old) =
      held_now Sync old new called in
      let so = not_synced (next_outcome old) not_done in
      record {
        seen = ap (λ (h : Held). length h.seen) next ∙ so.0;
        synced = ap (λ (h : Held). h.synced) next ∙ so.1;
        ranges = ap (λ (h : Held). map range_of h.writes) next ∙ ap (map range_of) so.2;
        past = past_now Sync old new called;
        calls = told_some Sync old new called false not_done;
        cause = rose;
      }
