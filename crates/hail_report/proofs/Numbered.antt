-- The messages of entries, by number.
use Rattle.std.proofs.Common.{◌≡◌, ℕ, zero, suc, ◌+◌, List, [], ◌∷◌, ◌++◌, length, map, Option, Some, None, refl, sym, ap, ◌∙◌, arith, append_assoc, append-nil}
use Rattle.std.specs.Prelude.{option_and_then, option_map, slice_get}
use Rattle.std.specs.List.{range_with_len}
use Rattle.std.proofs.lemmas.Grind.{flat_map-append}
use Rattle.std.proofs.lemmas.List.{length-append, length-map, map-append}
use Rattle.std.proofs.lemmas.Option.{slice_get-map}
use Rattle.cw_types.specs.declared.event.Out.{Out}
use Rattle.cw_rules.specs.Report.{Entry}
use Rattle.cw_rules.specs.World.{Sent, sent_from}
use Rattle.cw_rules.proofs.Lists.{get_front}
use Rattle.hail_report.specs.Pool.{StandAt, sent_at, sent_in}

-- one entry more
pub sent_more : (steps : List Entry) (entry : Entry)
    → sent_in (steps ++ entry ∷ []) ≡ sent_in steps ++ entry.sent
sent_more steps entry =
    flat_map-append (λ e. e.sent) steps (entry ∷ [])
    ∙ ap (λ (l : List Sent). sent_in steps ++ l) (append-nil entry.sent)

-- one message more
pub numbered_more : (first i : ℕ) (outs : List Out) (o : Out)
    → sent_from first i (outs ++ o ∷ [])
    ≡ sent_from first i outs ++ record {
      number = first + length outs;
      from = i;
      to = o.to;
      message = o.message;
    } ∷ []
numbered_more first i [] o =
    let same : first ≡ first + 0 = omega arith in
    ap
    (λ (n : ℕ). let s : Sent = record {
      number = n;
      from = i;
      to = o.to;
      message = o.message;
    } in
    s ∷ [])
    same
numbered_more first i (x ∷ outs) o =
    let same : first + 1 + length outs ≡ first + suc (length outs) = omega arith in
    ap
    (λ (l : List Sent). let s : Sent = record {
      number = first;
      from = i;
      to = x.to;
      message = x.message;
    } in
    s ∷ l)
    (numbered_more (first + 1) i outs o
    ∙ ap
    (λ (n : ℕ). sent_from (first + 1) i outs
    ++ (let s : Sent = record {
      number = n;
      from = i;
      to = o.to;
      message = o.message;
    } in s)
    ∷ [])
    same)

-- as many as are sent
numbered_count : (first i : ℕ) (outs : List Out) → length (sent_from first i outs) ≡ length outs
numbered_count first i [] = refl
numbered_count first i (o ∷ outs) = ap (λ (n : ℕ). suc n) (numbered_count (first + 1) i outs)

-- one more is numbered by how many there are
pub numbered_next : (first i n : ℕ) (outs : List Out) (o : Out) (sent new : List Sent)
    → sent ≡ sent_from first i outs → n ≡ length sent
    → new ≡ sent ++ record { number = first + n; from = i; to = o.to; message = o.message } ∷ []
    → new ≡ sent_from first i (outs ++ o ∷ [])
numbered_next first i n outs o sent new so count pushed =
    let many : n ≡ length outs =
    count ∙ ap (λ (l : List Sent). length l) so ∙ numbered_count first i outs in
    pushed
    ∙ ap
    (λ (l : List Sent). l
    ++ (let s : Sent = record {
      number = first + n;
      from = i;
      to = o.to;
      message = o.message;
    } in s)
    ∷ [])
    so
    ∙ ap
    (λ (k : ℕ). sent_from first i outs
    ++ (let s : Sent = record {
      number = first + k;
      from = i;
      to = o.to;
      message = o.message;
    } in s)
    ∷ [])
    many
    ∙ sym (numbered_more first i outs o)

-- ---- places

-- there are as many places as messages
pub counted : (entries : List Entry) (places : List (ℕ × ℕ)) → StandAt entries places
    → length places ≡ length (sent_in entries)
counted entries places h =
    sym (length-map places (sent_at entries)) ∙ ap (λ (l : List (Option Sent)). length l) h
    ∙ length-map (sent_in entries) Some

-- the message of a number stands at the place of that number
stands : (entries : List Entry) (places : List (ℕ × ℕ)) (n : ℕ) (p : ℕ × ℕ) → StandAt entries places
    → slice_get places n ≡ Some p → sent_at entries p ≡ slice_get (sent_in entries) n
stands entries places n p h e = go (slice_get (sent_in entries) n) refl
  where
    both : option_map (sent_at entries) (slice_get places n)
        ≡ option_map Some (slice_get (sent_in entries) n)
    both =
        sym (slice_get-map (sent_at entries) places n)
        ∙ ap (λ (l : List (Option Sent)). slice_get l n) h ∙ slice_get-map Some (sent_in entries) n

    go : (o : Option Sent) → slice_get (sent_in entries) n ≡ o
        → sent_at entries p ≡ slice_get (sent_in entries) n
    go None q = absurd (let no : Some (sent_at entries p) ≡ None = rw (e, q) at both in cc)
    go (Some s) q =
        (let yes : Some (sent_at entries p) ≡ Some (Some s) = rw (e, q) at both in rw q cc)

none_stands : (entries : List Entry) (places : List (ℕ × ℕ)) (n : ℕ) → StandAt entries places
    → slice_get places n ≡ None → slice_get (sent_in entries) n ≡ None
none_stands entries places n h e = go (slice_get (sent_in entries) n) refl
  where
    both : option_map (sent_at entries) (slice_get places n)
        ≡ option_map Some (slice_get (sent_in entries) n)
    both =
        sym (slice_get-map (sent_at entries) places n)
        ∙ ap (λ (l : List (Option Sent)). slice_get l n) h ∙ slice_get-map Some (sent_in entries) n

    go : (o : Option Sent) → slice_get (sent_in entries) n ≡ o
        → slice_get (sent_in entries) n ≡ None
    go None q = q
    go (Some s) q = absurd (let no : None ≡ Some (Some s) = rw (e, q) at both in cc)

-- what is found by the place of a number is the message of that number
pub looked_up : (entries : List Entry) (places : List (ℕ × ℕ)) (n : ℕ) → StandAt entries places
    → option_and_then (sent_at entries) (slice_get places n) ≡ slice_get (sent_in entries) n
looked_up entries places n h = go (slice_get places n) refl
  where
    go : (o : Option (ℕ × ℕ)) → slice_get places n ≡ o
        → option_and_then (sent_at entries) (slice_get places n) ≡ slice_get (sent_in entries) n
    go None q = rw q (sym (none_stands entries places n h q))
    go (Some p) q = rw q (stands entries places n p h q)

sent_on : (entries : List Entry) (e : Entry) (p : ℕ × ℕ) (s : Sent) → sent_at entries p ≡ Some s
    → sent_at (entries ++ e ∷ []) p ≡ Some s
sent_on entries e p s h = go (slice_get entries p.0) refl
  where
    go : (o : Option Entry) → slice_get entries p.0 ≡ o → sent_at (entries ++ e ∷ []) p ≡ Some s
    go None q = absurd (let no : None ≡ Some s = rw q at h in cc)
    go (Some x) q = rw (get_front entries (e ∷ []) p.0 x q) (rw q at h)

stand_on : (entries : List Entry) (e : Entry) (places : List (ℕ × ℕ)) (sent : List Sent)
    → map (sent_at entries) places ≡ map Some sent
    → map (sent_at (entries ++ e ∷ [])) places ≡ map Some sent
stand_on entries e [] [] h = refl
stand_on entries e [] (s ∷ sent) h = cc
stand_on entries e (p ∷ places) [] h = cc
stand_on entries e (p ∷ places) (s ∷ sent) h =
    let first : sent_at entries p ≡ Some s = cc in
    let rest : map (sent_at entries) places ≡ map Some sent = cc in
    rw (sent_on entries e p s first, stand_on entries e places sent rest) refl

-- the last one is found behind the others
got_last : {X : Type 0} (xs : List X) (y : X) → slice_get (xs ++ y ∷ []) (length xs) ≡ Some y
got_last [] y = refl
got_last (x ∷ xs) y = got_last xs y

-- each element, by its place
each_got : {X : Type 0} (before xs : List X)
    → map (λ i. slice_get (before ++ xs) i) (range_with_len (length before) (length xs))
    ≡ map Some xs
each_got before [] = refl
each_got {X} before (x ∷ xs) =
    let first : slice_get (before ++ x ∷ xs) (length before) ≡ Some x = got before in
    let more : (before ++ x ∷ []) ++ xs ≡ before ++ x ∷ xs = append_assoc before (x ∷ []) xs in
    let next : length (before ++ x ∷ []) ≡ length before + 1 = length-append before (x ∷ []) in
    let raw : map (λ i. slice_get ((before ++ x ∷ []) ++ xs) i)
    (range_with_len (length (before ++ x ∷ [])) (length xs))
    ≡ map Some xs =
    each_got {X = X} (before ++ x ∷ []) xs in
    let rest : map (λ i. slice_get (before ++ x ∷ xs) i)
    (range_with_len (length before + 1) (length xs))
    ≡ map Some xs =
    rw (more, next) at raw in
    rw (first, rest) refl
  where
    got : (ys : List X) → slice_get (ys ++ x ∷ xs) (length ys) ≡ Some x
    got [] = refl
    got (y ∷ ys) = got ys

map_map : {X Y Z : Type 0} (f : Y → Z) (g : X → Y) (xs : List X)
    → map f (map g xs) ≡ map (λ x. f (g x)) xs
map_map f g [] = refl
map_map {X} {Y} {Z} f g (x ∷ xs) = ap (λ (l : List Z). f (g x) ∷ l) (map_map f g xs)

map_same : {X Y : Type 0} (f g : X → Y) (xs : List X) → ((x : X) → f x ≡ g x) → map f xs ≡ map g xs
map_same f g [] e = refl
map_same f g (x ∷ xs) e = rw (e x, map_same f g xs e) refl

-- one entry more, with the places of its messages
pub stand_more : (entries : List Entry) (e : Entry) (places : List (ℕ × ℕ)) → StandAt entries places
    → StandAt (entries ++ e ∷ [])
    (places ++ map (λ i. (length entries, i)) (range_with_len 0 (length e.sent)))
stand_more entries e places h =
    let new : List (ℕ × ℕ) = map (λ i. (length entries, i)) (range_with_len 0 (length e.sent)) in
    let old : map (sent_at (entries ++ e ∷ [])) places ≡ map Some (sent_in entries) =
    stand_on entries e places (sent_in entries) h in
    let last : (i : ℕ) → sent_at (entries ++ e ∷ []) (length entries, i) ≡ slice_get e.sent i =
    λ i. rw (got_last entries e) refl in
    let mine : map (sent_at (entries ++ e ∷ [])) new ≡ map Some e.sent =
    map_map (sent_at (entries ++ e ∷ [])) (λ i. (length entries, i))
    (range_with_len 0 (length e.sent))
    ∙ map_same (λ i. sent_at (entries ++ e ∷ []) (length entries, i)) (λ i. slice_get e.sent i)
    (range_with_len 0 (length e.sent)) last
    ∙ each_got [] e.sent in
    let both : sent_in (entries ++ e ∷ []) ≡ sent_in entries ++ e.sent = sent_more entries e in
    map-append (sent_at (entries ++ e ∷ [])) places new
    ∙ ap (λ (l : List (Option Sent)). l ++ map (sent_at (entries ++ e ∷ [])) new) old
    ∙ ap (λ (l : List (Option Sent)). map Some (sent_in entries) ++ l) mine
    ∙ sym (map-append Some (sent_in entries) e.sent) ∙ sym (ap (λ (l : List Sent). map Some l) both)

-- the numbers from one on, with one more
pub range_more : (low n : ℕ) → range_with_len low (suc n) ≡ range_with_len low n ++ (low + n) ∷ []
range_more low zero = let same : low ≡ low + 0 = omega arith in ap (λ (k : ℕ). k ∷ []) same
range_more low (suc n) =
    let same : low + 1 + n ≡ low + suc n = omega arith in
    ap (λ (l : List ℕ). low ∷ l)
    (range_more (low + 1) n ∙ ap (λ (k : ℕ). range_with_len (low + 1) n ++ k ∷ []) same)

pub map_joined : {X Y : Type 0} (f : X → Y) (xs : List X) (x : X)
    → map f (xs ++ x ∷ []) ≡ map f xs ++ f x ∷ []
map_joined f [] x = refl
map_joined {X} {Y} f (y ∷ xs) x = ap (λ (l : List Y). f y ∷ l) (map_joined f xs x)

-- one place more of an entry
pub placed_more : (entry n : ℕ) (old now new : List (ℕ × ℕ))
    → now ≡ old ++ map (λ i. (entry, i)) (range_with_len 0 n) → new ≡ now ++ (entry, n) ∷ []
    → new ≡ old ++ map (λ i. (entry, i)) (range_with_len 0 (n + 1))
placed_more entry n old now new so pushed =
    let at : ℕ → ℕ × ℕ = λ i. (entry, i) in
    let next : n + 1 ≡ suc n = omega arith in
    let none : 0 + n ≡ n = omega arith in
    let range : range_with_len 0 (n + 1) ≡ range_with_len 0 n ++ n ∷ [] =
    ap (λ (k : ℕ). range_with_len 0 k) next ∙ range_more 0 n
    ∙ ap (λ (k : ℕ). range_with_len 0 n ++ k ∷ []) none in
    let whole : map at (range_with_len 0 (n + 1)) ≡ map at (range_with_len 0 n) ++ (entry, n) ∷ [] =
    ap (λ (l : List ℕ). map at l) range ∙ map_joined at (range_with_len 0 n) n in
    pushed ∙ ap (λ (l : List (ℕ × ℕ)). l ++ (entry, n) ∷ []) so
    ∙ append_assoc old (map at (range_with_len 0 n)) ((entry, n) ∷ [])
    ∙ sym (ap (λ (l : List (ℕ × ℕ)). old ++ l) whole)
