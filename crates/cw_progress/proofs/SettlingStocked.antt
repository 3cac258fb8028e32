-- Lines that help let no block go, and from where a start hands out never falls. So where no block is
-- gone that is still to be handed out, none is gone after them.
use Rattle.std.proofs.Common.{◌≡◌, ℕ, zero, suc, ◌+◌, ◌<◌, ◌≤◌, Bool, true, false, ◌&&◌, ◌||◌, ◌==◌, cond, nat_le, nat_lt, List, [], ◌∷◌, ◌++◌, Option, Some, None, filter_map, length, option_and_then, option_map, slice_get, refl, sym, ◌∙◌, ap, subst, inl, inr, ◌⊎◌, arith, append_assoc, append-nil, leb-true, le-leb, ltb-true}
use Rattle.std.specs.List.{AllByRecursion, cons_option, enumerate_from, last_or, list_all}
use Rattle.std.specs.Option.{option_map_or}
use Rattle.std.proofs.lemmas.Bool.{and_parts, cases_eq, false≢true}
use Rattle.std.proofs.lemmas.List.Elements.{filter_map-append}
use Rattle.std.proofs.lemmas.Option.{same_Some}
use Rattle.cw_types.specs.declared.event.Event.{Event}
use Rattle.cw_types.specs.declared.note.Note.{Note}
use Rattle.cw_types.specs.declared.vote.Vote.{Vote}
use Rattle.cw_rules.specs.Held.{acked_height, greatest_floor, greatest_prune, is_pending, last_ack, pending, resume}
use Rattle.cw_rules.specs.Reached.{In, IsCluster, Reaches}
use Rattle.cw_rules.specs.Rules.{Rules}
use Rattle.cw_rules.specs.Stands.{EachAfter}
use Rattle.cw_rules.specs.Step.{Member, Stepped, cut_step, member_notes, start, state_of, step, step_notes, taken}
use Rattle.cw_rules.specs.World.{Ask, Cut, Do, Faulty, Line, Restart, World, done_by, event_of, happens, line_member, member_at, message_for, run, signed, turned, with_done}
use Rattle.cw_rules.proofs.Acks.{floor_grows}
use Rattle.cw_rules.proofs.Lists.{map_some}
use Rattle.cw_rules.proofs.Worlds.{member_there}
use Rattle.cw_progress.specs.Going.{helps, is_stocked, numbered_members}
use Rattle.cw_progress.specs.Over.{is_honest_line}
use Rattle.cw_progress.proofs.Able.{all_pass, is_there}
use Rattle.cw_progress.proofs.Carries.{AnyLine, Writes, any_lines, part_cut, reached_all, whole_cut, writes_carry}
use Rattle.cw_progress.proofs.Ends.{member_is}
use Rattle.cw_progress.proofs.Further.{reaches_on}
use Rattle.cw_progress.proofs.Outs.{filter_from, mapped_in}
use Rattle.cw_progress.proofs.Over.{member_done}
use Rattle.cw_progress.proofs.Rests.{step_each}
use Rattle.cw_progress.proofs.Stages.{Later, helps_honest, later_both, later_same}
use Rattle.cw_progress.proofs.Turns.{step_later}
use Rattle.cw_progress.proofs.Voting.{other_same, other_stands}
use Rattle.cw_progress.proofs.Ways.{all_so}

-- ---- acknowledgements

-- what a note acknowledges is above what those before it did
abbrev IsAbove : List Note → Note → Type 0
IsAbove before n = (h a : ℕ) → acked_height n ≡ Some h → last_ack before ≡ Some a → a < h

above_writes : (r : Rules) (script : List Line)
    → Writes r script AnyLine (λ w i before n. IsAbove before n)
above_writes r script = record {
  stays = λ w v i before n e x. x;
  written =
      λ w i m e t.
      step_each IsAbove r i (taken r (signed w) (state_of m) e) e (record {
        of_block = λ ns c b h a f. cc f;
        of_verified = λ ns epoch view c h a f. cc f;
        of_notarize = λ ns q o h a f. cc f;
        of_finalize = λ ns q h a f. cc f;
        of_certified = λ ns q h a f. cc f;
        of_epoch = λ ns epoch c h a f. cc f;
        of_nullify = λ view is q h a f. cc f;
        of_ack = λ k inside h a f g. by_pending m k inside h a f g;
        of_prune = λ k b is l o h a f. cc f;
        of_cert = λ ns v signers o h a f. cc f;
        of_floor = λ ns c b at o n k h a f. cc f;
      });
}
  where
    by_pending : (m : Member) (k : ℕ) → In k (pending (state_of m)) → (h a : ℕ)
        → Some k ≡ Some h → last_ack (member_notes m) ≡ Some a → a < h
    by_pending m k inside h a f g =
        let test = is_pending (last_ack (member_notes m)) (greatest_floor (member_notes m)) in
        let (given, passes) = filter_from test m.given k inside in
        let parts =
        and_parts (option_map_or (λ x. nat_lt x k) (last_ack (member_notes m)) true)
        (nat_le (greatest_floor (member_notes m)) k) passes in
        let less : nat_lt a k ≡ true =
        sym (ap (λ o. option_map_or (λ x. nat_lt x k) o true) g) ∙ parts.0 in
        let same : k ≡ h = same_Some k h f in
        omega (arith, ltb-true a k less, same)

each_rest : (R : List Note → Note → Type 0) (before xs more : List Note)
    → EachAfter R before (xs ++ more) → EachAfter R (before ++ xs) more
each_rest R before [] more e = subst (λ ns. EachAfter R ns more) (sym (append-nil before)) e
each_rest R before (x ∷ xs) more e =
    subst (λ ns. EachAfter R ns more) (append_assoc before (x ∷ []) xs)
    (each_rest R (before ++ x ∷ []) xs more e.1)

last_behind : (o : Option ℕ) (xs : List ℕ) (x : ℕ) → last_or o (xs ++ x ∷ []) ≡ Some x
last_behind o [] x = refl
last_behind o (y ∷ ys) x = last_behind (Some y) ys x

abbrev IsUpTo : ℕ → List Note → Type 0
IsUpTo a notes = (b : ℕ) × (last_ack notes ≡ Some b) × (a ≤ b)

-- so with more notes it doesn't fall
ack_grows : (before notes : List Note) (a : ℕ) → EachAfter IsAbove before notes
    → last_ack before ≡ Some a → IsUpTo a (before ++ notes)
ack_grows before [] a e at =
    (a, ap last_ack (append-nil before) ∙ at, omega arith)
ack_grows before (n ∷ ns) a e at =
    go (acked_height n) refl (λ b f. ack_grows (before ++ n ∷ []) ns b e.1 f)
  where
    one : (o : Option ℕ) → acked_height n ≡ o
        → last_ack (before ++ n ∷ []) ≡ last_or None (filter_map acked_height before ++ cons_option o [])
    one o f =
        ap (last_or None) (filter_map-append acked_height before (n ∷ []))
        ∙ ap (λ x. last_or None (filter_map acked_height before ++ cons_option x [])) f

    joined : IsUpTo a ((before ++ n ∷ []) ++ ns) → IsUpTo a (before ++ n ∷ ns)
    joined = subst (IsUpTo a) (append_assoc before (n ∷ []) ns)

    up : (b : ℕ) → a ≤ b → IsUpTo b ((before ++ n ∷ []) ++ ns) → IsUpTo a (before ++ n ∷ ns)
    up b le (c, f, low) = joined (c, f, omega (arith, le, low))

    go : (o : Option ℕ) → acked_height n ≡ o
        → ((b : ℕ) → last_ack (before ++ n ∷ []) ≡ Some b → IsUpTo b ((before ++ n ∷ []) ++ ns))
        → IsUpTo a (before ++ n ∷ ns)
    go None f later =
        up a (omega arith)
        (later a
        (one None f ∙ (ap (last_or None) (append-nil (filter_map acked_height before)) ∙ at)))
    go (Some h) f later =
        up h (let lt = e.0 h a f at in omega (arith, lt))
        (later h (one (Some h) f ∙ last_behind None (filter_map acked_height before) h))

module _ (r : Rules) (script : List Line) (w : World) (cluster : IsCluster r script)
    (reach : Reaches r script w) where
  -- from where a start hands out doesn't fall with more notes
  pub resume_grows : (i : ℕ) (m : Member) → member_at w i ≡ Some m → (xs : List Note)
      → Later xs (member_notes m) → resume xs ≤ resume (member_notes m)
  resume_grows i m at xs k = go (last_ack xs) refl
    where
      each : EachAfter IsAbove xs k.more
      each =
          each_rest IsAbove [] xs k.more
          (subst (EachAfter IsAbove []) k.joined
          (reached_all r script AnyLine (λ u j n. EachAfter IsAbove [] (member_notes n))
          (writes_carry r script AnyLine (λ u j before n. IsAbove before n)
          (above_writes r script))
          w cluster (any_lines script) reach i m (member_there w i m at)))

      floor : greatest_floor xs ≤ greatest_floor (member_notes m)
      floor =
          subst (λ ns. greatest_floor xs ≤ greatest_floor ns) (sym k.joined)
          (floor_grows xs k.more)

      by_up : (a : ℕ) → last_ack xs ≡ Some a → IsUpTo a (xs ++ k.more)
          → resume xs ≤ resume (member_notes m)
      by_up a e (b, f, le) =
          let one = ap (λ o. option_map_or (λ h. h + 1) o 0) e in
          let two = ap (λ o. option_map_or (λ h. h + 1) o 0) (ap last_ack k.joined ∙ f) in
          omega (arith, le, floor, one, two)

      go : (o : Option ℕ) → last_ack xs ≡ o → resume xs ≤ resume (member_notes m)
      go None e = let one = ap (λ o. option_map_or (λ h. h + 1) o 0) e in omega (arith, floor, one)
      go (Some a) e = by_up a e (ack_grows xs k.more a each e)

-- ---- lines that help

abbrev HasLater : World → ℕ → Member → Type 0
HasLater u i m = (y : Member) × (member_at u i ≡ Some y) × Later (member_notes m) (member_notes y)

cond_some : {X : Type 0} (b : Bool) (o : Option X) (x : X) → cond b o None ≡ Some x → o ≡ Some x
cond_some true o x h = h
cond_some false o x h = cc h

module _ (r : Rules) (v : World) (payload : List ℕ) where
  -- an event that such a line asks for hides no block
  asks_no_prune : (w : World) (i : ℕ) (ask : Ask) → helps v payload (Do i ask) ≡ true
      → (e : Event) → event_of w i ask ≡ Some e → (h : ℕ) → e ≡ Event.Prune h → ⊥
  asks_no_prune w i (Ask.Propose own) ok e is h f = cc (is, f)
  asks_no_prune w i (Ask.Timeout view) ok e is h f = cc (is, f)
  asks_no_prune w i (Ask.Deliver number) ok e is h f =
      let (m, at, g) = map_some Event.Deliver (message_for w i number) e is in cc (g, f)
  asks_no_prune w i Ask.Ack ok e is h f = cc (is, f)
  asks_no_prune w i (Ask.Prune height) ok e is h f = absurd (false≢true ok)
  asks_no_prune w i (Ask.Floor number) ok e is h f = absurd (false≢true ok)
  asks_no_prune w i (Ask.Hint height) ok e is h f = absurd (false≢true ok)

  cut_later : (i : ℕ) (sign : ℕ → Vote → Bool) (m : Member) (a c x : ℕ) (e : Event)
      → ((h : ℕ) → e ≡ Event.Prune h → ⊥)
      → Later (member_notes m) (member_notes (cut_step r i sign m a c x e).member)
  cut_later i sign m a c x e keeps =
      by_end ((length notes == 0) || nat_lt 4 a) (nat_lt 2 a && (nat_lt 0 c || (x == 1)))
    where
      done : Stepped
      done = step r i sign m e

      notes : List Note
      notes = step_notes r i (taken r sign (state_of m) e) e

      by_end : (b t : Bool)
          → Later (member_notes m)
          (member_notes
          (cond b (whole_cut done) (part_cut m (cond t done.member.frames m.frames))).member)
      by_end true t = step_later r payload i sign m e keeps
      by_end false true = step_later r payload i sign m e keeps
      by_end false false = later_same (member_notes m)

  module _ (w : World) (i : ℕ) (m : Member) (at : member_at w i ≡ Some m) where
    left : (j : ℕ) (o : Option Stepped)
        → ((j ≡ i) → (done : Stepped) → o ≡ Some done
        → Later (member_notes m) (member_notes done.member))
        → HasLater (option_map_or (with_done w j) o w) i m
    left j None turn = (m, at, later_same (member_notes m))
    left j (Some done) turn = go (cases_eq j i)
      where
        go : (j ≡ i) ⊎ (j ≡ i → ⊥) → HasLater (with_done w j done) i m
        go (inl same) =
            subst (λ k. HasLater (with_done w k done) i m) (sym same)
            (done.member, member_done w i m done at, turn same done refl)
        go (inr ne) =
            (m, other_stands w j done i m ne at, later_same (member_notes m))

    own : (j : ℕ) (line : Line) → line_member line ≡ j → j ≡ i → (done : Stepped)
        → done_by r w line ≡ Some done → turned r w (line_member line) line m ≡ Some done
    own j line is same done e =
        sym
        (ap (option_and_then (turned r w (line_member line) line))
        (ap (member_at w) (is ∙ same) ∙ at))
        ∙ e

    line_later : (line : Line) → helps v payload line ≡ true → HasLater (happens r w line) i m
    line_later (Do j ask) ok =
        left j (done_by r w (Do j ask))
        (λ same done e.
        let (event, is, f) =
        map_some (step r j (signed w) m) (event_of w j ask) done
        (cond_some m.live (option_map (step r j (signed w) m) (event_of w j ask)) done
        (own j (Do j ask) refl same done e)) in
        subst (λ (d : Stepped). Later (member_notes m) (member_notes d.member)) f
        (step_later r payload j (signed w) m event (asks_no_prune w j ask ok event is)))
    line_later (Cut call cut fill j Ask.Ack) ok =
        left j (done_by r w (Cut call cut fill j Ask.Ack))
        (λ same done e.
        let f =
        same_Some (cut_step r j (signed w) m call cut fill Event.Ack) done
        (cond_some m.live (Some (cut_step r j (signed w) m call cut fill Event.Ack)) done
        (own j (Cut call cut fill j Ask.Ack) refl same done e)) in
        subst (λ (d : Stepped). Later (member_notes m) (member_notes d.member)) f
        (cut_later j (signed w) m call cut fill Event.Ack (λ h x. cc x)))
    line_later (Restart j) ok =
        left j (done_by r w (Restart j))
        (λ same done e. restarted m.live j done (own j (Restart j) refl same done e))
      where
        restarted : (live : Bool) (k : ℕ) (done : Stepped)
            → cond live None (Some (start r k m.frames)) ≡ Some done
            → Later (member_notes m) (member_notes done.member)
        restarted true k done e = cc e
        restarted false k done e =
            subst (λ (d : Stepped). Later (member_notes m) (member_notes d.member))
            (same_Some (start r k m.frames) done e) (later_same (member_notes m))
    line_later _ ok = absurd (false≢true ok)

  pub lines_later : (lines : List Line) → AllByRecursion (λ line. helps v payload line ≡ true) lines
      → (w : World) (i : ℕ) (m : Member) → member_at w i ≡ Some m → HasLater (run r w lines) i m
  lines_later [] are w i m at = (m, at, later_same (member_notes m))
  lines_later (line ∷ lines) are w i m at =
      let (y, there, k) = line_later w i m at line are.0 in
      let (z, still, l) = lines_later lines are.1 (happens r w line) i y there in
      (z, still, later_both (member_notes m) (member_notes y) (member_notes z) k l)

  -- nobody becomes honest
  module _ (w : World) (i : ℕ) (nobody : member_at w i ≡ None) where
    left_none : (line : Line) (o : Option Stepped) → done_by r w line ≡ o
        → member_at (option_map_or (with_done w (line_member line)) o w) i ≡ None
    left_none line None e = nobody
    left_none line (Some done) e = go (cases_eq (line_member line) i)
      where
        go : (line_member line ≡ i) ⊎ (line_member line ≡ i → ⊥)
            → member_at (with_done w (line_member line) done) i ≡ None
        go (inr ne) = other_same w (line_member line) done i ne ∙ nobody
        go (inl same) =
            let x : ◌≡◌ {A = Option Stepped} None (Some done) =
            sym
            (ap (option_and_then (turned r w (line_member line) line))
            (ap (member_at w) same ∙ nobody))
            ∙ e in
            absurd (cc x)

    none_stays : (line : Line) → helps v payload line ≡ true
        → member_at (happens r w line) i ≡ None
    none_stays (Do j ask) ok = left_none (Do j ask) (done_by r w (Do j ask)) refl
    none_stays (Cut a c x j ask) ok =
        left_none (Cut a c x j ask) (done_by r w (Cut a c x j ask)) refl
    none_stays (Restart j) ok = left_none (Restart j) (done_by r w (Restart j)) refl
    none_stays (Faulty j fault) ok = absurd (false≢true ok)

  pub lines_back : (lines : List Line) → AllByRecursion (λ line. helps v payload line ≡ true) lines
      → (w : World) (i : ℕ) (y : Member) → member_at (run r w lines) i ≡ Some y
      → (m : Member) × (member_at w i ≡ Some m)
  lines_back [] are w i y at = (y, at)
  lines_back (line ∷ lines) are w i y at =
      by_before (member_at w i) refl (lines_back lines are.1 (happens r w line) i y at)
    where
      by_before : (o : Option Member) → member_at w i ≡ o
          → ((z : Member) × (member_at (happens r w line) i ≡ Some z))
          → (m : Member) × (member_at w i ≡ Some m)
      by_before (Some m) e later = (m, e)
      by_before None e (z, there) =
          let x : ◌≡◌ {A = Option Member} None (Some z) =
          sym (none_stays w i e line are.0) ∙ there in
          absurd (cc x)

-- ---- stocked worlds

-- nobody let a block go that another still has to hand out, member by member
abbrev pub IsStocked : World → Type 0
IsStocked w =
    (i j : ℕ) (m n : Member) → member_at w i ≡ Some m → member_at w j ≡ Some n
    → greatest_prune (member_notes n) ≤ resume (member_notes m)

enumerated : (low : ℕ) (os : List (Option Member)) (i : ℕ) (o : Option Member)
    → slice_get os i ≡ Some o → In (low + i, o) (enumerate_from low os)
enumerated low [] i o h = cc h
enumerated low (x ∷ xs) zero o h =
    let same : x ≡ o = same_Some x o h in
    let at : low + zero ≡ low = omega arith in
    inl (λ k. (at k, sym same k))
enumerated low (x ∷ xs) (suc i) o h =
    let at : low + 1 + i ≡ low + suc i = omega arith in
    inr
    (subst (λ k. In (k, o) (enumerate_from (low + 1) xs)) at (enumerated (low + 1) xs i o h))

in_numbered : (w : World) (i : ℕ) (m : Member) → member_at w i ≡ Some m
    → In (i, m) (numbered_members w)
in_numbered w i m at =
    mapped_in (λ (x : ℕ × Option Member). option_map (λ (y : Member). (x.0, y)) x.1)
    (enumerate_from 0 w.members) (i, Some m) (i, m)
    (subst (λ k. In (k, Some m) (enumerate_from 0 w.members)) zero_more
    (enumerated 0 w.members i (Some m) (member_there w i m at)))
    refl
  where
    zero_more : 0 + i ≡ i
    zero_more = omega arith

all_at : {X : Type 0} (p : X → Bool) (xs : List X) (x : X) → list_all p xs ≡ true → In x xs
    → p x ≡ true
all_at p [] x h inside = absurd inside
all_at p (y ∷ ys) x h (inl same) = ap p same ∙ (and_parts (p y) (list_all p ys) h).0
all_at p (y ∷ ys) x h (inr inside) = all_at p ys x (and_parts (p y) (list_all p ys) h).1 inside

pub stocked_tells : (w : World) → is_stocked w ≡ true → IsStocked w
stocked_tells w h i j m n at there =
    leb-true (greatest_prune (member_notes n)) (resume (member_notes m))
    (all_at
    (λ (b : ℕ × Member). nat_le (greatest_prune (member_notes b.1)) (resume (member_notes m)))
    (numbered_members w) (j, n)
    (all_at
    (λ (a : ℕ × Member).
    list_all
    (λ (b : ℕ × Member).
    nat_le (greatest_prune (member_notes b.1)) (resume (member_notes a.1)))
    (numbered_members w))
    (numbered_members w) (i, m) h (in_numbered w i m at))
    (in_numbered w j n there))

pub stocked_told : (w : World) → IsStocked w → is_stocked w ≡ true
stocked_told w f =
    all_pass _ (numbered_members w)
    (λ a x. all_pass _ (numbered_members w)
    (λ b y.
    let (i, at) = is_there w a x in
    let (j, there) = is_there w b y in
    le-leb (greatest_prune (member_notes b.1)) (resume (member_notes a.1))
    (f i j a.1 b.1 (member_is w i a.1 at) (member_is w j b.1 there))))

-- lines that help leave it so
pub stocked_stays : (r : Rules) (script : List Line) (w : World) → IsCluster r script
    → Reaches r script w → (payload : List ℕ) → is_stocked w ≡ true → (lines : List Line)
    → AllByRecursion (λ line. helps w payload line ≡ true) lines
    → is_stocked (run r w lines) ≡ true
stocked_stays r script w cluster reach payload h lines are =
    by_reach
    (reaches_on r script w lines cluster reach
    (all_so (λ line. helps w payload line ≡ true) (λ line. is_honest_line line ≡ true)
    (helps_honest w payload) lines are))
  where
    u : World
    u = run r w lines

    by_reach : ((longer : List Line) × IsCluster r longer × Reaches r longer u)
        → is_stocked u ≡ true
    by_reach (longer, among, further) = stocked_told u pair
      where
        pair : IsStocked u
        pair i j m n at there =
            by_two (lines_back r w payload lines are w i m at)
            (lines_back r w payload lines are w j n there)
          where
            by_later : (x y : Member) → member_at w i ≡ Some x → member_at w j ≡ Some y
                → HasLater u i x → HasLater u j y
                → greatest_prune (member_notes n) ≤ resume (member_notes m)
            by_later x y before then (a, is, k) (b, was, l) =
                let one : a ≡ m = same_Some a m (sym is ∙ at) in
                let two : b ≡ n = same_Some b n (sym was ∙ there) in
                let prune = l.prune in
                let same = ap (λ (q : Member). greatest_prune (member_notes q)) two in
                omega (
                  arith,
                  prune,
                  same,
                  stocked_tells w h i j x y before then,
                  resume_grows r longer u among further i m at (member_notes x)
                      (subst (λ (q : Member). Later (member_notes x) (member_notes q)) one k),
                )

            by_two : ((x : Member) × (member_at w i ≡ Some x))
                → ((y : Member) × (member_at w j ≡ Some y))
                → greatest_prune (member_notes n) ≤ resume (member_notes m)
            by_two (x, before) (y, then) =
                by_later x y before then (lines_later r w payload lines are w i x before)
                (lines_later r w payload lines are w j y then)
