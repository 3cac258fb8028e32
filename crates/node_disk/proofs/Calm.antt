-- A disk in memory on which no call is to fail.
use Rattle.std.proofs.Common.{◌≡◌, ℕ, ◌+◌, ◌&&◌, Bool, true, false, List, [], ◌∷◌, ◌++◌, length, map, Some, None, refl, sym, ap, ◌∙◌}
use Rattle.std.specs.List.{list_all}
use Rattle.std.proofs.lemmas.List.{append_cancel_left, map-append}
use Rattle.std.proofs.lemmas.List.Folds.{list_all-append}
use Rattle.node_disk.specs.Disk.{DeviceCall, IsCutShort, Synced, Wrote, failing}
use Rattle.node_disk.specs.MemoryLaws.{calm_stop, calm_failing}
use Rattle.node_disk.specs.Memory.{Continues, MemoryState, is_calm, is_stopped, memory_state, next_fails}
use Rattle.node_disk.specs.Record.{RecordedCall, Request, Sync, Write, decided, told_calls, told_call, told_request}

-- it isn't stopped, and its next device call doesn't fail
pub calm_goes_on : (disk : MemoryState) → is_calm disk ≡ true → is_stopped disk ≡ false
calm_goes_on disk calm = rw (calm_stop disk calm) refl

pub calm_succeeds : (disk : MemoryState) → is_calm disk ≡ true → next_fails disk ≡ false
calm_succeeds disk calm = rw (calm_stop disk calm, calm_failing disk calm) refl

pub ruleset never = (calm_goes_on, calm_succeeds)

-- the device call succeeded
went : DeviceCall → Bool
went (Wrote place bytes done) = done
went (Synced done) = done

went_request : (r : Request) → went (told_request r true) ≡ true
unfolding went
went_request (Write place bytes) = refl
went_request Sync = refl

failed : (d : DeviceCall) → went (failing d) ≡ false
unfolding went
failed (Wrote place bytes done) = refl
failed (Synced done) = refl

-- with no stop and no numbers that fail, each call goes well
all_went : (made : ℕ) (reopened : Bool) (rs : List Request)
    → list_all went (map told_call (decided None [] made reopened rs)) ≡ true
all_went made reopened [] = refl
all_went made reopened (r ∷ rs) = rw (went_request r) (all_went (made + 1) false rs)

not_failed : (did : List DeviceCall) (next : DeviceCall)
    → list_all went (did ++ failing next ∷ []) ≡ false
not_failed did next =
    list_all-append went did (failing next ∷ [])
    ∙ ap (λ (b : Bool). list_all went did && (b && true)) (failed next)
    ∙ and_false (list_all went did)
  where
    and_false : (b : Bool) → (b && false) ≡ false
    and_false true = refl
    and_false false = refl

told_append : (a b : List RecordedCall) → told_calls (a ++ b) ≡ told_calls a ++ map told_call b
unfolding told_calls
told_append a b = map-append told_call a b

-- so it cuts nothing short
pub never_cut : (old new : MemoryState) (calls : List DeviceCall) → is_calm old ≡ true
    → Continues old new → IsCutShort calls (memory_state old) (memory_state new) → ⊥
never_cut old new calls calm went_on short =
    let told : Some (told_calls new.calls)
    ≡ Some (told_calls old.calls ++ (short.did ++ failing short.next ∷ [])) =
    short.told in
    let same : told_calls new.calls
    ≡ told_calls old.calls ++ (short.did ++ failing short.next ∷ []) =
    cc in
    let ran : new.calls
    ≡ old.calls ++ decided None [] (length old.calls) old.reopened went_on.requests =
    rw (calm_stop old calm, calm_failing old calm) at went_on.calls in
    let is : told_calls old.calls
    ++ map told_call (decided None [] (length old.calls) old.reopened went_on.requests)
    ≡ told_calls old.calls ++ (short.did ++ failing short.next ∷ []) =
    sym (told_append old.calls (decided None [] (length old.calls) old.reopened went_on.requests))
    ∙ sym (ap told_calls ran) ∙ same in
    let tail =
    append_cancel_left (told_calls old.calls)
    (map told_call (decided None [] (length old.calls) old.reopened went_on.requests))
    (short.did ++ failing short.next ∷ []) is in
    let no : true ≡ false =
    sym (all_went (length old.calls) old.reopened went_on.requests) ∙ ap (list_all went) tail
    ∙ not_failed short.did short.next in
    cc
