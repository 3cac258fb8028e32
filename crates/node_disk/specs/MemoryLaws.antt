-- What a disk in memory gives is one of its images, and its calls go on one after another. These
-- proofs stand in specs/, since the code gives them as the laws of a disk.
use Rattle.std.proofs.Common.{◌≡◌, inl, inr, ℕ, suc, ◌+◌, ◌-◌, ◌<◌, ◌≤◌, List, [], ◌∷◌, ◌++◌, length, take, drop, get_or, map, Bool, true, false, refl, sym, ◌∙◌, ap, subst, arith, replicate, if◌then◌else◌, ◌&&◌, Option, Some, None, append_assoc, length-append, length-take, length-drop}
use Rattle.std.proofs.lemmas.Bool.{cases_lt}
use Rattle.std.proofs.lemmas.List.{get_or_append_left, get_or-append_right, get_or-take, get_or-drop, map-append, append-nil, length-replicate}
use Rattle.node_disk.specs.Images.{IsImage, Untouched}
use Rattle.node_disk.specs.Disk.{put_at}
use Rattle.node_disk.specs.Record.{Held, Written, RecordedCall, Request, Write, Sync, range_of, moment_of, put_within, torn, put_torn, done_writes, effect, held_at_opening, held_after_call, held_after_calls, empty_disk, held_after, outcome_at, decided, reopened_still}
use Rattle.std.specs.Option.{is_none}
use Rattle.node_disk.specs.Memory.{MemoryState, memory_state, is_none_listed, is_calm, Continues}
use Rattle.node_disk.specs.declared.record.Stop.{Stop}
use Rattle.node_disk.specs.declared.record.Outcome.{Outcome}
use Rattle.node_disk.specs.declared.record.Outcome.TheVariants.{Done, Failed, Stopped}

-- a place that a range doesn't have in it keeps its byte
pub kept_at : (old : List ℕ) (place : ℕ) (bytes : List ℕ) (k : ℕ) → k < length old
    → (place ≤ k → place + length bytes ≤ k) → get_or (put_at old place bytes) k 0 ≡ get_or old k 0
kept_at old place bytes k lt out = elim (cases_lt k place) [
  | inl before ↦
      let first : k < length (take place old) = omega (arith, length-take place old) in
      let both : k < length (take place old ++ bytes) =
      omega (arith, length-append (take place old) bytes) in
      get_or_append_left (take place old ++ bytes) (drop (place + length bytes) old) 0 k both
      ∙ get_or_append_left (take place old) bytes 0 k first ∙ get_or-take place old k 0 before
  | inr from ↦
      let after : place + length bytes ≤ k = out from in
      let size : length (take place old ++ bytes) ≡ place + length bytes =
      omega (arith, length-append (take place old) bytes, length-take place old) in
      let there : place + length bytes + (k - (place + length bytes)) ≡ k = omega arith in
      get_or-append_right (take place old ++ bytes) (drop (place + length bytes) old)
      (place + length bytes) k 0 size after
      ∙ get_or-drop (place + length bytes) old (k - (place + length bytes)) 0
      ∙ ap (λ (n : ℕ). get_or old n 0) there
]

pub no_shorter_at : (old : List ℕ) (place : ℕ) (bytes : List ℕ)
    → length old ≤ length (put_at old place bytes)
no_shorter_at old place bytes =
    omega (
      arith,
      length-append (take place old ++ bytes) (drop (place + length bytes) old),
      length-append (take place old) bytes,
      length-take place old,
      length-drop (place + length bytes) old,
    )

pub length-torn : (cut fill : ℕ) (bytes : List ℕ) → length (torn cut fill bytes) ≡ length bytes
length-torn cut fill bytes =
    omega (
      arith,
      length-append (take cut bytes) (replicate (length bytes - cut) fill),
      length-take cut bytes,
      length-replicate (length bytes - cut) fill,
    )

-- each untouched place, of those of the writes that were done
done_untouched : (writes : List Written) (k : ℕ) → Untouched (map range_of writes) k
    → Untouched (map (λ (w : ℕ × List ℕ). (w.0, length w.1)) (done_writes writes)) k
done_untouched [] k out = tt
done_untouched (w ∷ writes) k out = by_done w.done refl (done_untouched writes k out.1)
  where
    by_done : (b : Bool) → w.done ≡ b
        → Untouched (map (λ (w : ℕ × List ℕ). (w.0, length w.1)) (done_writes writes)) k
        → Untouched
        (map (λ (w : ℕ × List ℕ). (w.0, length w.1))
        (if w.done then (w.place, w.bytes) ∷ done_writes writes else done_writes writes))
        k
    by_done true is rest =
        subst
        (λ (b : Bool). Untouched
        (map (λ (w : ℕ × List ℕ). (w.0, length w.1))
        (if b then (w.place, w.bytes) ∷ done_writes writes else done_writes writes))
        k)
        (sym is) (out.0, rest)
    by_done false is rest =
        subst
        (λ (b : Bool). Untouched
        (map (λ (w : ℕ × List ℕ). (w.0, length w.1))
        (if b then (w.place, w.bytes) ∷ done_writes writes else done_writes writes))
        k)
        (sym is) rest

pub length-within : (old : List ℕ) (place : ℕ) (bytes : List ℕ)
    → length (put_within old place bytes) ≡ length old
length-within old place bytes =
    omega (arith, no_shorter_at old place bytes, length-take (length old) (put_at old place bytes))

pub length-put_torn : (cut fill : ℕ) (writes : List (ℕ × List ℕ)) (seen : List ℕ)
    → length (put_torn cut fill writes seen) ≡ length seen
length-put_torn cut fill [] seen = refl
length-put_torn cut fill (w ∷ writes) seen =
    length-put_torn (cut - length w.1) fill writes (put_within seen w.0 (torn cut fill w.1))
    ∙ length-within seen w.0 (torn cut fill w.1)

kept_torn : (cut fill : ℕ) (writes : List (ℕ × List ℕ)) (seen : List ℕ) (k : ℕ) → k < length seen
    → Untouched (map (λ (w : ℕ × List ℕ). (w.0, length w.1)) writes) k
    → get_or (put_torn cut fill writes seen) k 0 ≡ get_or seen k 0
kept_torn cut fill [] seen k lt out = refl
kept_torn cut fill (w ∷ writes) seen k lt out =
    let size = length-torn cut fill w.1 in
    kept_torn (cut - length w.1) fill writes (put_within seen w.0 (torn cut fill w.1)) k
    (omega (arith, length-within seen w.0 (torn cut fill w.1))) out.1
    ∙ get_or-take (length seen) (put_at seen w.0 (torn cut fill w.1)) k 0 lt
    ∙ kept_at seen w.0 (torn cut fill w.1) k lt (λ le. let from = out.0 le in omega arith)

-- what a read gives is an image
abbrev pub IsGood : Held → Type 0
IsGood held = IsImage (moment_of held) held.seen

untouched_front : (xs : List (ℕ × ℕ)) (r : ℕ × ℕ) (k : ℕ) → Untouched (xs ++ r ∷ []) k
    → Untouched xs k
untouched_front [] r k out = tt
untouched_front (x ∷ xs) r k out = (out.0, untouched_front xs r k out.1)

untouched_last : (xs : List (ℕ × ℕ)) (r : ℕ × ℕ) (k : ℕ) → Untouched (xs ++ r ∷ []) k → r.0 ≤ k
    → r.0 + r.1 ≤ k
untouched_last [] r k out = out.0
untouched_last (x ∷ xs) r k out = untouched_last xs r k out.1

-- one write more, whatever bytes of that number were put
good_put : (held : Held) (w : Written) (bytes : List ℕ) → length bytes ≡ length w.bytes
    → IsGood held
    → IsGood (record {
      seen = put_at held.seen w.place bytes;
      synced = held.synced;
      writes = held.writes ++ w ∷ [];
    })
good_put held w bytes size good = record {
  no_shorter = omega (arith, good.no_shorter, no_shorter_at held.seen w.place bytes);
  no_longer = omega arith;
  same = λ k lt out.
      let outs : Untouched (map range_of held.writes ++ range_of w ∷ []) k =
      subst (λ rs. Untouched rs k) (map-append range_of held.writes (w ∷ [])) out in
      let last = untouched_last (map range_of held.writes) (range_of w) k outs in
      kept_at held.seen w.place bytes k (omega (arith, good.no_shorter))
      (λ le. let from = last le in omega arith)
      ∙ good.same k lt (untouched_front (map range_of held.writes) (range_of w) k outs);
}

good_failed : (held : Held) (w : Written) → IsGood held
    → IsGood (record { seen = held.seen; synced = held.synced; writes = held.writes ++ w ∷ [] })
good_failed held w good = record {
  no_shorter = good.no_shorter;
  no_longer = omega arith;
  same =
      λ k lt out. good.same k lt
      (untouched_front (map range_of held.writes) (range_of w) k
      (subst (λ rs. Untouched rs k) (map-append range_of held.writes (w ∷ [])) out));
}

good_synced : (seen : List ℕ) → IsGood (record { seen = seen; synced = seen; writes = [] })
good_synced seen =
    record { no_shorter = omega arith; no_longer = omega arith; same = λ k lt out. refl }

pub good_act : (held : Held) (request : Request) (outcome : Outcome) → IsGood held
    → IsGood (effect held request outcome)
good_act held (Write place bytes) Done good =
    good_put held (record { place = place; bytes = bytes; done = true }) bytes refl good
good_act held (Write place bytes) Failed good =
    good_failed held (record { place = place; bytes = bytes; done = false }) good
good_act held (Write place bytes) (Stopped cut fill) good =
    good_put held (record { place = place; bytes = bytes; done = false }) (torn cut fill bytes)
    (length-torn cut fill bytes) good
good_act held Sync Done good = good_synced held.seen
good_act held Sync Failed good = good
good_act held Sync (Stopped cut fill) good = record {
  no_shorter =
      omega (arith, good.no_shorter, length-put_torn cut fill (done_writes held.writes) held.seen);
  no_longer = omega arith;
  same =
      λ k lt out. kept_torn cut fill (done_writes held.writes) held.seen k
      (omega (arith, good.no_shorter)) (done_untouched held.writes k out)
      ∙ good.same k lt out;
}

good_opened : (reopened : Bool) (held : Held) → IsGood held → IsGood (held_at_opening reopened held)
good_opened true held good = good_synced held.seen
good_opened false held good = good

good_run : (held : Held) (entries : List RecordedCall) → IsGood held
    → IsGood (held_after_calls held entries)
good_run held [] good = good
good_run held (e ∷ entries) good =
    good_run (held_after_call held e) entries
    (good_act (held_at_opening e.reopened held) e.request e.outcome
    (good_opened e.reopened held good))

pub seen_is_image : (disk : MemoryState)
    → IsImage (memory_state disk).now (memory_state disk).now.seen
unfolding held_after
seen_is_image disk =
    good_opened disk.reopened (held_after_calls empty_disk disk.calls)
    (good_run empty_disk disk.calls (good_synced []))

still_false : (requests : List Request) → reopened_still false requests ≡ false
still_false [] = refl
still_false (r ∷ requests) = refl

still_append : (reopened : Bool) (a b : List Request)
    → reopened_still reopened (a ++ b) ≡ reopened_still (reopened_still reopened a) b
still_append reopened [] b = refl
still_append reopened (r ∷ a) b = sym (still_false b)

length-decided : (stop : Option Stop) (failing : List ℕ) (made : ℕ) (reopened : Bool)
    (requests : List Request)
    → length (decided stop failing made reopened requests) ≡ length requests
length-decided stop failing made reopened [] = refl
length-decided stop failing made reopened (r ∷ requests) =
    omega (arith, length-decided stop failing (made + 1) false requests)

decided-append : (stop : Option Stop) (failing : List ℕ) (made : ℕ) (reopened : Bool)
    (a b : List Request)
    → decided stop failing made reopened (a ++ b)
    ≡ decided stop failing made reopened a
    ++ decided stop failing (made + length a) (reopened_still reopened a) b
decided-append stop failing made reopened [] b =
    ap (λ (n : ℕ). decided stop failing n reopened b) (let e : made ≡ made + 0 = omega arith in e)
decided-append stop failing made reopened (r ∷ a) b =
    let first : RecordedCall =
    record { reopened = reopened; request = r; outcome = outcome_at stop failing made } in
    ap (λ (l : List RecordedCall). first ∷ l)
    (decided-append stop failing (made + 1) false a b
    ∙ ap
    (λ (still : Bool). decided stop failing (made + 1) false a
    ++ decided stop failing (made + 1 + length a) still b)
    (still_false a)
    ∙ ap (λ (n : ℕ). decided stop failing (made + 1) false a ++ decided stop failing n false b)
    (let e : made + 1 + length a ≡ made + suc (length a) = omega arith in e))

pub continues_itself : (disk : MemoryState) → Continues disk disk
continues_itself disk =
    record {
      requests = [];
      calls = sym (append-nil disk.calls);
      reopened = refl;
      stop = refl;
      failing = refl;
    }

pub continues_on : (a b c : MemoryState) → Continues a b → Continues b c → Continues a c
continues_on a b c x y =
    let size : length b.calls ≡ length a.calls + length x.requests =
    omega (
      arith,
      ap length x.calls,
      length-append a.calls (decided a.stop a.failing (length a.calls) a.reopened x.requests),
      length-decided a.stop a.failing (length a.calls) a.reopened x.requests,
    ) in
    let second : decided b.stop b.failing (length b.calls) b.reopened y.requests
    ≡ decided a.stop a.failing (length a.calls + length x.requests)
    (reopened_still a.reopened x.requests) y.requests =
    ap (λ s. decided s b.failing (length b.calls) b.reopened y.requests) x.stop
    ∙ ap (λ f. decided a.stop f (length b.calls) b.reopened y.requests) x.failing
    ∙ ap (λ n. decided a.stop a.failing n b.reopened y.requests) size
    ∙ ap (λ r. decided a.stop a.failing (length a.calls + length x.requests) r y.requests)
    x.reopened in
    record {
      requests = x.requests ++ y.requests;
      calls =
          y.calls
          ∙ ap
          (λ (l : List RecordedCall). l
          ++ decided b.stop b.failing (length b.calls) b.reopened y.requests)
          x.calls
          ∙ ap
          (λ (l : List RecordedCall).
          (a.calls ++ decided a.stop a.failing (length a.calls) a.reopened x.requests)
          ++ l)
          second
          ∙ append_assoc a.calls (decided a.stop a.failing (length a.calls) a.reopened x.requests)
          (decided a.stop a.failing (length a.calls + length x.requests)
          (reopened_still a.reopened x.requests) y.requests)
          ∙ ap (λ (l : List RecordedCall). a.calls ++ l)
          (sym
          (decided-append a.stop a.failing (length a.calls) a.reopened x.requests
          y.requests));
      reopened =
          y.reopened ∙ ap (λ r. reopened_still r y.requests) x.reopened
          ∙ sym (still_append a.reopened x.requests y.requests);
      stop = y.stop ∙ x.stop;
      failing = y.failing ∙ x.failing;
    }

no_stop : (stop : Option Stop) (failing : List ℕ) → is_none stop && is_none_listed failing ≡ true
    → stop ≡ None
no_stop None failing calm = refl
no_stop (Some s) failing calm = absurd (let no : false ≡ true = calm in cc)

no_number : (stop : Option Stop) (failing : List ℕ) → is_none stop && is_none_listed failing ≡ true
    → failing ≡ []
no_number stop [] calm = refl
no_number None (n ∷ failing) calm = absurd (let no : false ≡ true = calm in cc)
no_number (Some s) (n ∷ failing) calm = absurd (let no : false ≡ true = calm in cc)

-- the stop and the numbers of a calm disk
pub calm_stop : (disk : MemoryState) → is_calm disk ≡ true → disk.stop ≡ None
calm_stop disk calm = no_stop disk.stop disk.failing calm

pub calm_failing : (disk : MemoryState) → is_calm disk ≡ true → disk.failing ≡ []
calm_failing disk calm = no_number disk.stop disk.failing calm

-- with neither a disk is calm
pub calm_of : (disk : MemoryState) → disk.stop ≡ None → disk.failing ≡ [] → is_calm disk ≡ true
calm_of disk stop failing = rw (stop, failing) refl

-- and stays so
pub calm_stays : (old new : MemoryState) → Continues old new → is_calm old ≡ true
    → is_calm new ≡ true
calm_stays old new on calm =
    calm_of new (on.stop ∙ calm_stop old calm) (on.failing ∙ calm_failing old calm)
