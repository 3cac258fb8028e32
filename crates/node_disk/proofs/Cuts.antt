-- What a stop leaves of an append, from the device calls that were told.
use Rattle.std.proofs.Common.{◌≡◌, ◌≢◌, inl, inr, ℕ, zero, suc, ◌+◌, ◌-◌, ◌^◌, ◌<◌, ◌≤◌, List, [], ◌∷◌, ◌++◌, length, take, drop, map, Bool, true, false, ◌||◌, ◌==◌, nat_le, if◌then◌else◌, replicate, Option, Some, refl, sym, ◌∙◌, ap, subst, arith, length-append, length-take, length-drop, append_assoc}
use Rattle.std.proofs.lemmas.List.{map-append, append_cancel_left, take_at, drop_at, take_all}
use Rattle.std.proofs.lemmas.Bool.{cases_lt, eq-eqb, ne_eqb}
use Rattle.std.proofs.lemmas.Bool.Decides.{nat_tests}
use Rattle.node_disk.specs.Disk.{DeviceCall, Wrote, Synced, failing, told_more, HasTold, put_at, Holds, IsCutShort}
use Rattle.node_disk.specs.Frames.{body, blocks, IsAtRest, Finds}
use Rattle.node_disk.specs.Log.{HasSettled, with_frame, append_calls, calls_of_append}
use Rattle.node_disk.specs.Record.{Held, Written, RecordedCall, Request, Write, Sync, range_of, put_within, torn, put_torn, done_writes, effect, held_at_opening, held_after_call, held_after_calls, empty_disk, held_after, told_calls, told_call, told_request, has_succeeded, outcome_at, decided, reopened_still}
use Rattle.node_disk.specs.MemoryLaws.{length-torn}
use Rattle.node_disk.specs.Memory.{MemoryState, memory_state, Continues}
use Rattle.node_disk.specs.Cut.{kept_frames, IsArmed}
use Rattle.node_disk.specs.declared.record.Stop.{Stop}
use Rattle.node_disk.specs.declared.record.Outcome.{Outcome}
use Rattle.node_disk.specs.declared.record.Outcome.TheVariants.{Done, Failed, Stopped}
use Rattle.node_disk.proofs.AtRest.{torn_behind, finds_at_rest, finds_closed, finds_open, gate_put}
use Rattle.node_disk.proofs.Called.{torn_put}
use Rattle.node_disk.proofs.Walks.{if_true, if_false}

abbrev request_of_call : DeviceCall → Request
request_of_call (Wrote place bytes done) = Write place bytes
request_of_call (Synced done) = Sync

told_back : (d : Request) (done : Bool) → request_of_call (told_request d done) ≡ d
told_back (Write place bytes) done = refl
told_back Sync done = refl

-- the requests are those that were told
requests_back : (stop : Option Stop) (fails : List ℕ) (made : ℕ) (reopened : Bool)
    (requests : List Request)
    → map request_of_call (map told_call (decided stop fails made reopened requests)) ≡ requests
requests_back stop fails made reopened [] = refl
requests_back stop fails made reopened (d ∷ requests) =
    λ i. told_back d (has_succeeded (outcome_at stop fails made)) i
    ∷ requests_back stop fails (made + 1) false requests i

run_append : (held : Held) (xs ys : List RecordedCall) → held_after_calls held (xs ++ ys)
    ≡ held_after_calls (held_after_calls held xs) ys
run_append held [] ys = refl
run_append held (x ∷ xs) ys = run_append (held_after_call held x) xs ys

le_true : (m n : ℕ) → m ≤ n → nat_le m n ≡ true
le_true m n le = grind (arith, nat_tests)

le_false : (m n : ℕ) → n < m → nat_le m n ≡ false
le_false m n lt = grind (arith, nat_tests)

-- one stop alone
module _ (made call cut fill : ℕ) where
  abbrev stop : Option Stop
  stop = Some (record { after = made; call = call; cut = cut; fill = fill })

  abbrev inner : ℕ → Outcome
  inner at = if made + call == at + 1 then Stopped cut fill else Done

  outcome_before : (at i : ℕ) → at ≡ made + i → i + 1 < call → outcome_at stop [] at ≡ Done
  outcome_before at i is lt =
      if_false (nat_le (made + call) at) Failed (inner at) (le_false (made + call) at (omega arith))
      ∙ if_false (made + call == at + 1) (Stopped cut fill) Done
      (ne_eqb (made + call) (at + 1) (λ same. absurd (omega arith)))

  outcome_here : (at i : ℕ) → at ≡ made + i → call ≡ i + 1
      → outcome_at stop [] at ≡ Stopped cut fill
  outcome_here at i is same =
      if_false (nat_le (made + call) at) Failed (inner at) (le_false (made + call) at (omega arith))
      ∙ if_true (made + call == at + 1) (Stopped cut fill) Done
      (eq-eqb (made + call) (at + 1) (omega arith))

  outcome_after : (at i : ℕ) → at ≡ made + i → call ≤ i → outcome_at stop [] at ≡ Failed
  outcome_after at i is le =
      if_true (nat_le (made + call) at) Failed (inner at) (le_true (made + call) at (omega arith))

  done_before : (at i : ℕ) → at ≡ made + i → has_succeeded (outcome_at stop [] at) ≡ true
      → i + 1 < call
  done_before at i is done = elim (cases_lt (i + 1) call) [
    | inl before ↦ before
    | inr from ↦ elim (cases_lt i call) [
      | inl here ↦ let stopped =
          outcome_here at i is (omega arith) in let no : false ≡ true =
          ap has_succeeded (sym stopped) ∙ done in absurd (cc)
      | inr later ↦ let dead =
          outcome_after at i is later in let no : false ≡ true =
          ap has_succeeded (sym dead) ∙ done in absurd (cc)
    ]
  ]

  failed_from : (at i : ℕ) → at ≡ made + i → has_succeeded (outcome_at stop [] at) ≡ false
      → call ≤ i + 1
  failed_from at i is fails = elim (cases_lt (i + 1) call) [
    | inl before ↦ let well =
        outcome_before at i is before in let no : true ≡ false =
        ap has_succeeded (sym well) ∙ fails in absurd (cc)
    | inr from ↦ from
  ]

-- a torn write of the open gate
torn_one : (cut fill : ℕ) → torn cut fill (1 ∷ []) ≡ (if nat_le 1 cut then 1 else fill) ∷ []
torn_one zero fill = refl
torn_one (suc cut) fill =
    let none : 1 - suc cut ≡ 0 = omega arith in
    let long : length {A = ℕ} (1 ∷ []) ≤ suc cut = omega arith in
    let all : take {A = ℕ} (suc cut) (1 ∷ []) ≡ 1 ∷ [] = take_all (suc cut) (1 ∷ []) long in
    let test : (if nat_le 1 (suc cut) then 1 else fill) ≡ 1 =
    if_true (nat_le 1 (suc cut)) 1 fill (le_true 1 (suc cut) (omega arith)) in
    ap (λ (n : ℕ). take (suc cut) (1 ∷ []) ++ replicate n fill) none
    ∙ ap (λ (l : List ℕ). l ++ []) all ∙ ap (λ (n : ℕ). n ∷ []) (sym test)

put_one : (front behind : List ℕ) (y b gate : ℕ) → length front ≡ gate
    → put_at (front ++ y ∷ behind) gate (b ∷ []) ≡ front ++ b ∷ behind
put_one front behind y b gate size =
    let after : drop (gate + 1) (front ++ y ∷ behind) ≡ behind =
    ap (λ (l : List ℕ). drop (gate + 1) l) (sym (append_assoc front (y ∷ []) behind))
    ∙ drop_at (front ++ y ∷ []) behind (gate + 1) (omega (arith, length-append front (y ∷ []))) in
    ap (λ (l : List ℕ). l ++ (b ∷ []) ++ drop (gate + 1) (front ++ y ∷ behind))
    (take_at front (y ∷ behind) gate size)
    ∙ ap (λ (l : List ℕ). front ++ (b ∷ []) ++ l) after ∙ append_assoc front (b ∷ []) behind

within_same : (old : List ℕ) (place : ℕ) (bytes : List ℕ) → place + length bytes ≤ length old
    → put_within old place bytes ≡ put_at old place bytes
within_same old place bytes inside =
    take_all (length old) (put_at old place bytes)
    (omega (
      arith,
      length-append (take place old ++ bytes) (drop (place + length bytes) old),
      length-append (take place old) bytes,
      length-take place old,
      length-drop (place + length bytes) old,
    ))

no_writes : (writes : List Written) → map range_of writes ≡ [] → writes ≡ []
no_writes [] is = refl
no_writes (w ∷ writes) is = absurd (cc)

-- the frames that the gate's byte leaves
module _ (frames : List (List ℕ)) (gate : ℕ) (bytes : List ℕ) (is : IsAtRest frames gate bytes)
    (frame : List ℕ) (short : length frame < 2 ^ 64) (rest : List ℕ) (staged : List ℕ)
    (holds : Holds bytes (gate + 1) (body frame ++ 0 ∷ []) staged) where
  by_byte : (p q : Bool) (x : ℕ) → (q ≡ true → x ≡ 1) → (q ≡ false → x ≢ 1)
      → Finds (if p || q then frames ++ frame ∷ [] else frames)
      (blocks frames ++ (if p then 1 else x) ∷ (body frame ++ 0 ∷ rest))
  by_byte true q x same other = finds_open frames gate bytes is frame short staged holds rest
  by_byte false true x same other =
      subst
      (λ (y : ℕ). Finds (frames ++ frame ∷ []) (blocks frames ++ y ∷ (body frame ++ 0 ∷ rest)))
      (sym (same refl)) (finds_open frames gate bytes is frame short staged holds rest)
  by_byte false false x same other =
      finds_closed frames x (body frame ++ 0 ∷ rest) is.short (other refl)

  finds_byte : (cut fill : ℕ)
      → Finds (if nat_le 1 cut || fill == 1 then frames ++ frame ∷ [] else frames)
      (blocks frames ++ (if nat_le 1 cut then 1 else fill) ∷ (body frame ++ 0 ∷ rest))
  finds_byte cut fill =
      by_byte (nat_le 1 cut) (fill == 1) fill (λ t. eq_of fill t) (λ f. ne_of fill f)
    where
      eq_of : (n : ℕ) → (n == 1) ≡ true → n ≡ 1
      eq_of n t = grind (arith, nat_tests)

      ne_of : (n : ℕ) → (n == 1) ≡ false → n ≢ 1
      ne_of n f same =
          absurd
          (let t : (n == 1) ≡ true = eq-eqb n 1 same in let no : true ≡ false = sym t ∙ f in cc)

-- which of four calls was the one that failed
cut_cases : {G : Type 0}
    → (a b c d : DeviceCall) (did : List DeviceCall) (next : DeviceCall) (rest : List DeviceCall)
    → a ∷ b ∷ c ∷ d ∷ [] ≡ did ++ next ∷ rest
    → ((did ++ failing next ∷ [] ≡ failing a ∷ []) → G)
    → ((did ++ failing next ∷ [] ≡ a ∷ failing b ∷ []) → G)
    → ((did ++ failing next ∷ [] ≡ a ∷ b ∷ failing c ∷ []) → G)
    → ((did ++ failing next ∷ [] ≡ a ∷ b ∷ c ∷ failing d ∷ []) → G) → G
cut_cases a b c d [] next rest is one two three four =
    one (let e : next ≡ a = cc in ap (λ n. failing n ∷ []) e)
cut_cases a b c d (p ∷ []) next rest is one two three four =
    two (let e : next ≡ b = cc in let f : p ≡ a = cc in (λ i. f i ∷ failing (e i) ∷ []))
cut_cases a b c d (p ∷ q ∷ []) next rest is one two three four =
    three
    (let e : next ≡ c = cc in let f : p ≡ a = cc in let g : q ≡ b = cc in
    (λ i. f i ∷ g i ∷ failing (e i) ∷ []))
cut_cases a b c d (p ∷ q ∷ r ∷ []) next rest is one two three four =
    four
    (let e : next ≡ d = cc in let f : p ≡ a = cc in let g : q ≡ b = cc in let h : r ≡ c = cc in
    (λ i. f i ∷ g i ∷ h i ∷ failing (e i) ∷ []))
cut_cases a b c d (p ∷ q ∷ r ∷ t ∷ did) next rest is one two three four =
    absurd (omega (arith, ap length is, length-append did (next ∷ rest)))

module _ (old new : MemoryState) (frames : List (List ℕ)) (gate : ℕ) (frame : List ℕ)
    (call cut fill : ℕ) (settled : HasSettled frames gate (memory_state old).now)
    (short : length frame < 2 ^ 64) (armed : IsArmed call cut fill old)
    (go : Continues old new) where
  abbrev made : ℕ
  made = length old.calls

  abbrev one_stop : Option Stop
  one_stop = Some (record { after = made; call = call; cut = cut; fill = fill })

  abbrev held : Held
  held = held_after old.calls old.reopened

  abbrev new_bytes : List ℕ
  new_bytes = body frame ++ 0 ∷ []

  abbrev staged : List ℕ
  staged = put_at held.seen (gate + 1) new_bytes

  abbrev rest : List ℕ
  rest = drop (gate + 1 + length new_bytes) held.seen

  writes_none : held.writes ≡ []
  writes_none = no_writes held.writes settled.durable.ranges

  same_requests : (requests : List Request)
      → decided old.stop old.failing made old.reopened requests
      ≡ decided one_stop [] made old.reopened requests
  same_requests requests = λ i. decided (armed.stop i) (armed.failing i) made old.reopened requests

  -- the requests that were told
  told_new : (told : List DeviceCall)
      → (memory_state new).calls ≡ told_more (memory_state old).calls told
      → map told_call (decided one_stop [] made old.reopened go.requests) ≡ told
  unfolding told_calls
  told_new told is =
      let lists : map told_call new.calls ≡ map told_call old.calls ++ told = cc in
      let joined : map told_call old.calls
      ++ map told_call (decided old.stop old.failing made old.reopened go.requests)
      ≡ map told_call old.calls ++ told =
      sym
      (map-append told_call old.calls
      (decided old.stop old.failing made old.reopened go.requests))
      ∙ ap (map told_call) (sym go.calls) ∙ lists in
      ap (map told_call) (sym (same_requests go.requests))
      ∙ append_cancel_left (map told_call old.calls)
      (map told_call (decided old.stop old.failing made old.reopened go.requests)) told joined

  requests_are : (told : List DeviceCall)
      → (memory_state new).calls ≡ told_more (memory_state old).calls told
      → go.requests ≡ map request_of_call told
  requests_are told is =
      sym (requests_back one_stop [] made old.reopened go.requests)
      ∙ ap (map request_of_call) (told_new told is)

  -- what the disk holds then
  held_new : (d : Request) (requests : List Request) → go.requests ≡ d ∷ requests
      → held_after new.calls new.reopened
      ≡ held_after_calls (effect held d (outcome_at one_stop [] made))
      (decided one_stop [] (made + 1) false requests)
  unfolding held_after
  held_new d requests are =
      let still : new.reopened ≡ false =
      go.reopened ∙ ap (λ ds. reopened_still old.reopened ds) are in
      let entries : new.calls ≡ old.calls ++ decided one_stop [] made old.reopened (d ∷ requests) =
      go.calls
      ∙ ap (λ l. old.calls ++ l)
      (same_requests go.requests ∙ ap (λ ds. decided one_stop [] made old.reopened ds) are) in
      ap (λ r. held_at_opening r (held_after_calls empty_disk new.calls)) still
      ∙ ap (λ l. held_after_calls empty_disk l) entries
      ∙ run_append empty_disk old.calls (decided one_stop [] made old.reopened (d ∷ requests))

  abbrev Leaves : Type 0
  Leaves = (call ≤ 4) × Finds (kept_frames call cut fill frames frame) (memory_state new).now.seen

  leaves : (k : ℕ) → call ≡ k → k ≤ 4 → (h : Held) → held_after new.calls new.reopened ≡ h
      → Finds (kept_frames k cut fill frames frame) h.seen → Leaves
  leaves k is le h same finds = (
    omega arith,
    subst (λ (n : ℕ). Finds (kept_frames n cut fill frames frame) (memory_state new).now.seen)
        (sym is)
        (subst (λ (x : Held). Finds (kept_frames k cut fill frames frame) x.seen) (sym same)
        finds),
  )

  abbrev outcome_of_next : ℕ → Outcome
  outcome_of_next at = outcome_at one_stop [] at

  -- how each went, by what was told
  told_of : (requests : List Request) (told : List DeviceCall)
      → (memory_state new).calls ≡ told_more (memory_state old).calls told
      → map request_of_call told ≡ requests
      → map told_call (decided one_stop [] made old.reopened requests) ≡ told
  told_of requests told is same =
      ap (λ ds. map told_call (decided one_stop [] made old.reopened ds))
      (sym (requests_are told is ∙ same))
      ∙ told_new told is

  inside : gate + 1 ≤ length held.seen
  inside = omega (arith, settled.file.inside)

  staged_rest : IsAtRest frames gate staged
  staged_rest =
      torn_behind frames gate held.seen settled.file (length new_bytes) staged
      (torn_put held.seen (gate + 1) (length new_bytes) new_bytes refl inside)

  staged_length : gate + 1 + length new_bytes ≤ length staged
  staged_length =
      omega (
        arith,
        length-append (take (gate + 1) held.seen ++ new_bytes)
            (drop (gate + 1 + length new_bytes) held.seen),
        length-append (take (gate + 1) held.seen) new_bytes,
        length-take (gate + 1) held.seen,
        inside,
      )

  abbrev byte : ℕ
  byte = if nat_le 1 cut then 1 else fill

  abbrev behind : List ℕ
  behind = body frame ++ 0 ∷ rest

  gate_is : (x : ℕ) → put_at staged gate (x ∷ []) ≡ blocks frames ++ x ∷ behind
  gate_is x = gate_put frames gate held.seen settled.file frame short staged refl x

  finds_now : Finds (if nat_le 1 cut || fill == 1 then frames ++ frame ∷ [] else frames)
      (blocks frames ++ byte ∷ behind)
  finds_now = finds_byte frames gate held.seen settled.file frame short rest staged refl cut fill

  first : (memory_state new).calls
      ≡ told_more (memory_state old).calls (Wrote (gate + 1) new_bytes false ∷ [])
      → Leaves
  first is =
      let requests : List Request = Write (gate + 1) new_bytes ∷ [] in
      let told = told_of requests (Wrote (gate + 1) new_bytes false ∷ []) is refl in
      let d0 : has_succeeded (outcome_of_next made) ≡ false = cc in
      let here : made ≡ made + 0 = omega arith in
      let one : call ≡ 1 =
      omega (arith, failed_from made call cut fill made 0 here d0, armed.later) in
      let f0 = outcome_here made call cut fill made 0 here one in
      let now =
      held_new (Write (gate + 1) new_bytes) []
      (requests_are (Wrote (gate + 1) new_bytes false ∷ []) is)
      ∙ (λ i. effect held (Write (gate + 1) new_bytes) (f0 i)) in
      leaves 1 one (omega arith) (effect held (Write (gate + 1) new_bytes) (Stopped cut fill)) now
      (finds_at_rest frames gate (put_at held.seen (gate + 1) (torn cut fill new_bytes))
      (torn_behind frames gate held.seen settled.file (length new_bytes)
      (put_at held.seen (gate + 1) (torn cut fill new_bytes))
      (torn_put held.seen (gate + 1) (length new_bytes) (torn cut fill new_bytes)
      (length-torn cut fill new_bytes) inside)))

  second : (memory_state new).calls
      ≡ told_more (memory_state old).calls (Wrote (gate + 1) new_bytes true ∷ Synced false ∷ [])
      → Leaves
  second is =
      let requests : List Request = Write (gate + 1) new_bytes ∷ Sync ∷ [] in
      let told = told_of requests (Wrote (gate + 1) new_bytes true ∷ Synced false ∷ []) is refl in
      let d0 : has_succeeded (outcome_of_next made) ≡ true = cc in
      let d1 : has_succeeded (outcome_of_next (made + 1)) ≡ false = cc in
      let at0 : made ≡ made + 0 = omega arith in
      let lt = done_before made call cut fill made 0 at0 d0 in
      let two : call ≡ 2 = omega (arith, lt, failed_from made call cut fill (made + 1) 1 refl d1) in
      let f0 = outcome_before made call cut fill made 0 at0 lt in
      let f1 = outcome_here made call cut fill (made + 1) 1 refl two in
      let now =
      held_new (Write (gate + 1) new_bytes) (Sync ∷ [])
      (requests_are (Wrote (gate + 1) new_bytes true ∷ Synced false ∷ []) is)
      ∙ (λ i. effect (effect held (Write (gate + 1) new_bytes) (f0 i)) Sync (f1 i)) in
      let pending : done_writes (held.writes ++ record {
        place = gate + 1;
        bytes = new_bytes;
        done = true;
      } ∷ [])
      ≡ (gate + 1, new_bytes) ∷ [] =
      ap
      (λ (ws : List Written). done_writes (ws ++ record {
        place = gate + 1;
        bytes = new_bytes;
        done = true;
      } ∷ []))
      writes_none in
      let size : gate + 1 + length (torn cut fill new_bytes) ≤ length staged =
      omega (arith, length-torn cut fill new_bytes, staged_length) in
      let bytes : put_torn cut fill
      (done_writes (held.writes ++ record {
        place = gate + 1;
        bytes = new_bytes;
        done = true;
      } ∷ []))
      staged
      ≡ put_at staged (gate + 1) (torn cut fill new_bytes) =
      ap (λ (ws : List (ℕ × List ℕ)). put_torn cut fill ws staged) pending
      ∙ within_same staged (gate + 1) (torn cut fill new_bytes) size in
      let at_rest =
      torn_behind frames gate staged staged_rest (length new_bytes)
      (put_at staged (gate + 1) (torn cut fill new_bytes))
      (torn_put staged (gate + 1) (length new_bytes) (torn cut fill new_bytes)
      (length-torn cut fill new_bytes) (omega (arith, staged_length))) in
      leaves 2 two (omega arith)
      (effect (effect held (Write (gate + 1) new_bytes) Done) Sync (Stopped cut fill)) now
      (subst (λ (l : List ℕ). Finds frames l) (sym bytes)
      (finds_at_rest frames gate (put_at staged (gate + 1) (torn cut fill new_bytes)) at_rest))

  third : (memory_state new).calls
      ≡ told_more (memory_state old).calls
      (Wrote (gate + 1) new_bytes true ∷ Synced true ∷ Wrote gate (1 ∷ []) false ∷ [])
      → Leaves
  third is =
      let requests : List Request = Write (gate + 1) new_bytes ∷ Sync ∷ Write gate (1 ∷ []) ∷ [] in
      let told =
      told_of requests
      (Wrote (gate + 1) new_bytes true ∷ Synced true ∷ Wrote gate (1 ∷ []) false ∷ []) is
      refl in
      let d0 : has_succeeded (outcome_of_next made) ≡ true = cc in
      let d1 : has_succeeded (outcome_of_next (made + 1)) ≡ true = cc in
      let d2 : has_succeeded (outcome_of_next (made + 1 + 1)) ≡ false = cc in
      let at0 : made ≡ made + 0 = omega arith in
      let at2 : made + 1 + 1 ≡ made + 2 = omega arith in
      let lt = done_before made call cut fill (made + 1) 1 refl d1 in
      let three : call ≡ 3 =
      omega (arith, lt, failed_from made call cut fill (made + 1 + 1) 2 at2 d2) in
      let f0 = outcome_before made call cut fill made 0 at0 (omega arith) in
      let f1 = outcome_before made call cut fill (made + 1) 1 refl lt in
      let f2 = outcome_here made call cut fill (made + 1 + 1) 2 at2 three in
      let now =
      held_new (Write (gate + 1) new_bytes) (Sync ∷ Write gate (1 ∷ []) ∷ [])
      (requests_are
      (Wrote (gate + 1) new_bytes true ∷ Synced true ∷ Wrote gate (1 ∷ []) false ∷ [])
      is)
      ∙ (λ i. effect (effect (effect held (Write (gate + 1) new_bytes) (f0 i)) Sync (f1 i))
      (Write gate (1 ∷ [])) (f2 i)) in
      let bytes : put_at staged gate (torn cut fill (1 ∷ [])) ≡ blocks frames ++ byte ∷ behind =
      ap (λ (l : List ℕ). put_at staged gate l) (torn_one cut fill) ∙ gate_is byte in
      leaves 3 three (omega arith)
      (effect (effect (effect held (Write (gate + 1) new_bytes) Done) Sync Done)
      (Write gate (1 ∷ [])) (Stopped cut fill))
      now
      (subst (λ (l : List ℕ). Finds (kept_frames 3 cut fill frames frame) l) (sym bytes) finds_now)

  fourth : (memory_state new).calls
      ≡ told_more (memory_state old).calls
      (Wrote (gate + 1) new_bytes true ∷ Synced true ∷ Wrote gate (1 ∷ []) true ∷ Synced false
      ∷ [])
      → Leaves
  fourth is =
      let requests : List Request =
      Write (gate + 1) new_bytes ∷ Sync ∷ Write gate (1 ∷ []) ∷ Sync ∷ [] in
      let told =
      told_of requests
      (Wrote (gate + 1) new_bytes true ∷ Synced true ∷ Wrote gate (1 ∷ []) true
      ∷ Synced false ∷ [])
      is refl in
      let d2 : has_succeeded (outcome_of_next (made + 1 + 1)) ≡ true = cc in
      let d3 : has_succeeded (outcome_of_next (made + 1 + 1 + 1)) ≡ false = cc in
      let at0 : made ≡ made + 0 = omega arith in
      let at2 : made + 1 + 1 ≡ made + 2 = omega arith in
      let at3 : made + 1 + 1 + 1 ≡ made + 3 = omega arith in
      let lt = done_before made call cut fill (made + 1 + 1) 2 at2 d2 in
      let four : call ≡ 4 =
      omega (arith, lt, failed_from made call cut fill (made + 1 + 1 + 1) 3 at3 d3) in
      let f0 = outcome_before made call cut fill made 0 at0 (omega arith) in
      let f1 = outcome_before made call cut fill (made + 1) 1 refl (omega arith) in
      let f2 = outcome_before made call cut fill (made + 1 + 1) 2 at2 lt in
      let f3 = outcome_here made call cut fill (made + 1 + 1 + 1) 3 at3 four in
      let now =
      held_new (Write (gate + 1) new_bytes) (Sync ∷ Write gate (1 ∷ []) ∷ Sync ∷ [])
      (requests_are
      (Wrote (gate + 1) new_bytes true ∷ Synced true ∷ Wrote gate (1 ∷ []) true
      ∷ Synced false ∷ [])
      is)
      ∙ (λ i. effect
      (effect (effect (effect held (Write (gate + 1) new_bytes) (f0 i)) Sync (f1 i))
      (Write gate (1 ∷ [])) (f2 i))
      Sync (f3 i)) in
      let size : gate + 1 ≤ length (put_at staged gate (1 ∷ [])) =
      omega (
        arith,
        settled.file.place,
        ap length (gate_is 1),
        length-append (blocks frames) (1 ∷ behind),
      ) in
      let bytes : put_within (put_at staged gate (1 ∷ [])) gate (torn cut fill (1 ∷ []))
      ≡ blocks frames ++ byte ∷ behind =
      ap (λ (l : List ℕ). put_within (put_at staged gate (1 ∷ [])) gate l) (torn_one cut fill)
      ∙ within_same (put_at staged gate (1 ∷ [])) gate (byte ∷ []) size
      ∙ ap (λ (l : List ℕ). put_at l gate (byte ∷ [])) (gate_is 1)
      ∙ put_one (blocks frames) behind 1 byte gate (sym settled.file.place) in
      leaves 4 four (omega arith)
      (effect
      (effect (effect (effect held (Write (gate + 1) new_bytes) Done) Sync Done)
      (Write gate (1 ∷ [])) Done)
      Sync (Stopped cut fill))
      now
      (subst (λ (l : List ℕ). Finds (kept_frames 4 cut fill frames frame) l) (sym bytes) finds_now)

  -- a stop leaves this of an append that it cuts short
  pub cut_leaves : IsCutShort (append_calls gate frame) (memory_state old) (memory_state new)
      → Leaves
  cut_leaves short_of =
      cut_cases (Wrote (gate + 1) new_bytes true) (Synced true) (Wrote gate (1 ∷ []) true)
      (Synced true) short_of.did short_of.next short_of.rest short_of.whole
      (λ e. first (short_of.told ∙ ap (λ l. told_more (memory_state old).calls l) e))
      (λ e. second (short_of.told ∙ ap (λ l. told_more (memory_state old).calls l) e))
      (λ e. third (short_of.told ∙ ap (λ l. told_more (memory_state old).calls l) e))
      (λ e. fourth (short_of.told ∙ ap (λ l. told_more (memory_state old).calls l) e))

  -- and an append that it doesn't cut short made all four
  pub whole_leaves : HasTold (append_calls gate frame) (memory_state old) (memory_state new)
      → 4 < call
  whole_leaves is =
      let requests : List Request =
      Write (gate + 1) new_bytes ∷ Sync ∷ Write gate (1 ∷ []) ∷ Sync ∷ [] in
      let told = told_of requests (append_calls gate frame) is refl in
      let d3 : has_succeeded (outcome_of_next (made + 1 + 1 + 1)) ≡ true = cc in
      let at3 : made + 1 + 1 + 1 ≡ made + 3 = omega arith in
      let lt = done_before made call cut fill (made + 1 + 1 + 1) 3 at3 d3 in
      omega arith

-- an append of any frame that was cut short
pub cut_any : (old new : MemoryState) (frames : List (List ℕ)) (gate : ℕ) (frame : List ℕ)
    (call cut fill : ℕ)
    → HasSettled frames gate (memory_state old).now → length frame < 2 ^ 64
    → IsArmed call cut fill old → Continues old new
    → IsCutShort (calls_of_append gate frame) (memory_state old) (memory_state new)
    → (call ≤ 4) × Finds (kept_frames call cut fill frames frame) (memory_state new).now.seen
cut_any old new frames gate [] call cut fill settled short armed go short_of =
    absurd
    (omega (
      arith,
      ap length short_of.whole,
      length-append short_of.did (short_of.next ∷ short_of.rest),
    ))
cut_any old new frames gate (byte ∷ frame) call cut fill settled short armed go short_of =
    cut_leaves old new frames gate (byte ∷ frame) call cut fill settled short armed go short_of

-- an append of a frame that isn't empty and was not cut short
pub whole_any : (old new : MemoryState) (frames more : List (List ℕ)) (gate after : ℕ)
    (frame : List ℕ) (call cut fill : ℕ)
    → HasSettled frames gate (memory_state old).now → length frame < 2 ^ 64
    → IsArmed call cut fill old → Continues old new
    → HasTold (calls_of_append gate frame) (memory_state old) (memory_state new) → 0 < length frame
    → more ≡ with_frame frames frame → HasSettled more after (memory_state new).now
    → (4 < call) × Finds (frames ++ frame ∷ []) (memory_state new).now.seen
whole_any old new frames more gate after [] call cut fill settled short armed go told some is
    settled_after =
    absurd (omega arith)
whole_any old new frames more gate after (byte ∷ frame) call cut fill settled short armed go told
    some is settled_after = (
      whole_leaves old new frames gate (byte ∷ frame) call cut fill settled short armed go told,
      subst (λ (fs : List (List ℕ)). Finds fs (memory_state new).now.seen) is
          (finds_at_rest more after (memory_state new).now.seen settled_after.file),
    )
