-- What holds of each honest member at its start, and is kept by its turns and by what others do,
-- holds in each world that a script reaches.
use Rattle.std.proofs.Common.{◌≡◌, ℕ, zero, suc, Bool, true, false, ◌&&◌, ◌||◌, ◌==◌, cond, nat_lt, List, [], ◌∷◌, ◌++◌, Option, Some, None, is_none, length, option_map, slice_get, slice_set, refl, sym, ◌∙◌, ap, subst, inl, inr, ◌⊎◌, arith, append_assoc, append-nil}
use Rattle.std.specs.List.{list_any, AllByRecursion, range_with_len}
use Rattle.std.specs.Option.{option_map_or}
use Rattle.std.proofs.lemmas.Bool.{or_cases, or_left, or_right}
use Rattle.std.proofs.lemmas.List.Folds.{list_any-append}
use Rattle.std.proofs.lemmas.Option.{same_Some}
use Rattle.cw_types.specs.declared.event.Event.{Event}
use Rattle.cw_types.specs.declared.event.Out.{Out}
use Rattle.cw_types.specs.declared.note.Note.{Note}
use Rattle.cw_types.specs.declared.vote.Vote.{Vote}
use Rattle.cw_rules.specs.Reached.{In, IsCluster, Reaches}
use Rattle.cw_rules.specs.Rules.{Rules}
use Rattle.cw_rules.specs.Stands.{EachAfter}
use Rattle.cw_rules.specs.Step.{Member, Stepped, cut_step, member_notes, start, state_of, step, step_notes, stopped, taken}
use Rattle.cw_rules.specs.World.{Ask, Cut, Do, Faulty, Line, Restart, Sent, World, done_by, event_of, fault_sends, faults, happens, is_faulty, is_sent_vote, line_member, member_at, opening, run, sent_now, signed, turned, with_done, with_sends}
use Rattle.cw_rules.proofs.Lists.{and_then_some}
use Rattle.cw_rules.proofs.NoteLemmas.{each_weaker}
use Rattle.cw_rules.proofs.Reach.{IsOf, front_of, line_kept, opening_kept}
use Rattle.cw_rules.proofs.StepKeeps.{each_append}
use Rattle.cw_rules.proofs.Worlds.{IsWorldKept, frames_join, get-map_from, get-range, get-set, member_there, signed_sends}

-- ---- a world with more messages

-- a world with more messages, where who signed a vote still did
pub record Extends (w v : World) : Type 0 where
  pub more : List Sent
  pub pool : v.pool ≡ w.pool ++ more
  pub signs : (i : ℕ) (x : Vote) → signed w i x ≡ true → signed v i x ≡ true

-- who is faulty stays so
faulty_set : (xs : List (Option Member)) (i j : ℕ) (m x : Member) → slice_get xs i ≡ Some (Some m)
    → option_map_or is_none (slice_get (slice_set xs i (Some x)) j) false
    ≡ option_map_or is_none (slice_get xs j) false
faulty_set [] i j m x h = refl
faulty_set (o ∷ xs) zero zero m x h =
    let e : o ≡ Some m = same_Some o (Some m) h in ap is_none (sym e)
faulty_set (o ∷ xs) zero (suc j) m x h = refl
faulty_set (o ∷ xs) (suc i) zero m x h = refl
faulty_set (o ∷ xs) (suc i) (suc j) m x h = faulty_set xs i j m x h

-- what was sent stays sent
sent_more : (i : ℕ) (v : Vote) (pool more : List Sent) → list_any (is_sent_vote i v) pool ≡ true
    → list_any (is_sent_vote i v) (pool ++ more) ≡ true
sent_more i v pool more h =
    list_any-append (is_sent_vote i v) pool more
    ∙ or_left (list_any (is_sent_vote i v) pool) (list_any (is_sent_vote i v) more) h

signs_by : (w v : World) (more : List Sent) → v.pool ≡ w.pool ++ more
    → ((j : ℕ) → is_faulty v j ≡ is_faulty w j) → (i : ℕ) (x : Vote) → signed w i x ≡ true
    → signed v i x ≡ true
signs_by w v more pool same i x h =
    go (or_cases (is_faulty w i) (list_any (is_sent_vote i x) w.pool) h)
  where
    go : (is_faulty w i ≡ true) ⊎ (list_any (is_sent_vote i x) w.pool ≡ true)
        → signed v i x ≡ true
    go (inl f) = or_left (is_faulty v i) (list_any (is_sent_vote i x) v.pool) (same i ∙ f)
    go (inr s) =
        or_right (is_faulty v i) (list_any (is_sent_vote i x) v.pool)
        (subst (λ p. list_any (is_sent_vote i x) p ≡ true) (sym pool)
        (sent_more i x w.pool more s))

pub extends_done : (w : World) (i : ℕ) (m : Member) (done : Stepped)
    → slice_get w.members i ≡ Some (Some m) → Extends w (with_done w i done)
extends_done w i m done at = record {
  more = sent_now w i done.sent;
  pool = refl;
  signs =
      signs_by w (with_done w i done) (sent_now w i done.sent) refl
      (λ j. faulty_set w.members i j m done.member at);
}

extends_sends : (w : World) (a : ℕ) (outs : List Out) → Extends w (with_sends w a outs)
extends_sends w a outs =
    record { more = sent_now w a outs; pool = refl; signs = signed_sends w a outs }

-- ---- a turn

-- a step that completes before its member stops
abbrev pub whole_cut : Stepped → Stepped
whole_cut done =
    record {
      member = stopped done.member done.member.frames;
      sent = done.sent;
      handed = done.handed;
      tickets = done.tickets;
    }

-- a step of which only these frames are left
abbrev pub part_cut : Member → List (List Note) → Stepped
part_cut m frames = record { member = stopped m frames; sent = []; handed = []; tickets = [] }

extends_whole : (w : World) (i : ℕ) (m : Member) (done : Stepped)
    → slice_get w.members i ≡ Some (Some m)
    → Extends (with_done w i done) (with_done w i (whole_cut done))
extends_whole w i m done at = record {
  more = [];
  pool = sym (append-nil (w.pool ++ sent_now w i done.sent));
  signs =
      signs_by (with_done w i done) (with_done w i (whole_cut done)) []
      (sym (append-nil (w.pool ++ sent_now w i done.sent)))
      (λ j. faulty_set w.members i j m (whole_cut done).member at
      ∙ sym (faulty_set w.members i j m done.member at));
}

-- what a line asks
abbrev pub line_ask : Line → Option Ask
line_ask (Do i ask) = Some ask
line_ask (Cut a c x i ask) = Some ask
line_ask _ = None

-- a live member's turn, by a line that is allowed
pub record Turning (r : Rules) (script : List Line) (Q : Line → Type 0) (w : World) (i : ℕ)
    (m : Member) (e : Event) : Type 0 where
  pub kept : IsWorldKept r script w
  pub at : slice_get w.members i ≡ Some (Some m)
  pub live : m.live ≡ true
  pub line : Line
  pub fits : Q line
  pub ask : Ask
  pub asks : line_ask line ≡ Some ask
  pub event : event_of w i ask ≡ Some e

-- P is kept by what others send, at the opening, by a step, by a stop, by a stop after which the
-- step's frame is on the disk, and by a start
pub record Carries (r : Rules) (script : List Line) (Q : Line → Type 0)
    (P : World → ℕ → Member → Type 0) : Type 0 where
  pub stays : (w v : World) (i : ℕ) (m : Member) → Extends w v → P w i m → P v i m
  pub first : (i : ℕ) → P (opening r script) i (start r i []).member
  pub stepped : (w : World) (i : ℕ) (m : Member) (e : Event) → Turning r script Q w i m e
      → P w i m
      → P (with_done w i (step r i (signed w) m e)) i (step r i (signed w) m e).member
  pub halts : (w : World) (i : ℕ) (m : Member) → P w i m → P w i (stopped m m.frames)
  pub kept : (w : World) (i : ℕ) (m : Member) (e : Event) → Turning r script Q w i m e → P w i m
      → P w i (stopped m (step r i (signed w) m e).member.frames)
  pub started : (w : World) (i : ℕ) (m : Member) → IsWorldKept r script w
      → slice_get w.members i ≡ Some (Some m) → m.live ≡ false → P w i m
      → P (with_done w i (start r i m.frames)) i (start r i m.frames).member

all_front : {X : Type 0} (Q : X → Type 0) (xs ys : List X) → AllByRecursion Q (xs ++ ys)
    → AllByRecursion Q xs
all_front Q [] ys a = tt
all_front Q (x ∷ xs) ys a = (a.0, all_front Q xs ys a.1)

module _ (r : Rules) (script : List Line) (Q : Line → Type 0) (P : World → ℕ → Member → Type 0)
    (k : Carries r script Q P) where
  -- what a turn leaves of its member
  abbrev Left : World → ℕ → Stepped → Type 0
  Left w i done = P (with_done w i done) i done.member

  cut_left : (w : World) (i : ℕ) (m : Member) (a c x : ℕ) (e : Event) → Turning r script Q w i m e
      → P w i m → Left w i (cut_step r i (signed w) m a c x e)
  cut_left w i m a c x e t p = by_end ((length notes == 0) || nat_lt 4 a)
    where
      done : Stepped
      done = step r i (signed w) m e

      notes : List Note
      notes = step_notes r i (taken r (signed w) (state_of m) e) e

      part : Bool → Stepped
      part b = part_cut m (cond b done.member.frames m.frames)

      by_stay : (b : Bool) → Left w i (part b)
      by_stay true =
          k.stays w (with_done w i (part true)) i (part true).member
          (extends_done w i m (part true) t.at) (k.kept w i m e t p)
      by_stay false =
          k.stays w (with_done w i (part false)) i (part false).member
          (extends_done w i m (part false) t.at) (k.halts w i m p)

      by_end : (b : Bool)
          → Left w i (cond b (whole_cut done) (part (nat_lt 2 a && (nat_lt 0 c || (x == 1)))))
      by_end true =
          k.stays (with_done w i done) (with_done w i (whole_cut done)) i (whole_cut done).member
          (extends_whole w i m done t.at)
          (k.halts (with_done w i done) i done.member (k.stepped w i m e t p))
      by_end false = by_stay (nat_lt 2 a && (nat_lt 0 c || (x == 1)))

  turned_left : (w : World) (i : ℕ) (line : Line) (m : Member) (done : Stepped)
      → IsWorldKept r script w → slice_get w.members i ≡ Some (Some m) → Q line → P w i m
      → turned r w i line m ≡ Some done → Left w i done
  turned_left w i (Do j ask) m done c at q p h = by_live m.live refl h
    where
      by_event : m.live ≡ true → (o : Option Event) → event_of w i ask ≡ o
          → option_map (step r i (signed w) m) o ≡ Some done → Left w i done
      by_event live None is h = cc
      by_event live (Some e) is h =
          subst (Left w i) (same_Some (step r i (signed w) m e) done h)
          (k.stepped w i m e (record {
            kept = c;
            at = at;
            live = live;
            line = Do j ask;
            fits = q;
            ask = ask;
            asks = refl;
            event = is;
          }) p)

      by_live : (b : Bool) → m.live ≡ b
          → cond b (option_map (step r i (signed w) m) (event_of w i ask)) None ≡ Some done
          → Left w i done
      by_live true live h = by_event live (event_of w i ask) refl h
      by_live false live h = cc
  turned_left w i (Cut a b x j ask) m done c at q p h = by_live m.live refl h
    where
      by_event : m.live ≡ true → (o : Option Event) → event_of w i ask ≡ o
          → option_map (cut_step r i (signed w) m a b x) o ≡ Some done → Left w i done
      by_event live None is h = cc
      by_event live (Some e) is h =
          subst (Left w i) (same_Some (cut_step r i (signed w) m a b x e) done h)
          (cut_left w i m a b x e (record {
            kept = c;
            at = at;
            live = live;
            line = Cut a b x j ask;
            fits = q;
            ask = ask;
            asks = refl;
            event = is;
          }) p)

      by_live : (l : Bool) → m.live ≡ l
          → cond l (option_map (cut_step r i (signed w) m a b x) (event_of w i ask)) None
          ≡ Some done
          → Left w i done
      by_live true live h = by_event live (event_of w i ask) refl h
      by_live false live h = cc
  turned_left w i (Restart j) m done c at q p h = by_live m.live refl h
    where
      by_live : (b : Bool) → m.live ≡ b → cond b None (Some (start r i m.frames)) ≡ Some done
          → Left w i done
      by_live true live h = cc
      by_live false live h =
          subst (Left w i) (same_Some (start r i m.frames) done h) (k.started w i m c at live p)
  turned_left w i (Faulty j fault) m done c at q p h = cc

  -- it holds of each honest member
  abbrev pub AllHold : World → Type 0
  AllHold w = (i : ℕ) (m : Member) → slice_get w.members i ≡ Some (Some m) → P w i m

  done_all : (w : World) (line : Line) → IsWorldKept r script w → Q line → AllHold w
      → (o : Option Stepped) → done_by r w line ≡ o
      → AllHold (option_map_or (with_done w (line_member line)) o w)
  done_all w line c q all None e j x at = all j x at
  done_all w line c q all (Some done) e j x at =
      let (m, f, t) =
      and_then_some (turned r w (line_member line) line) (member_at w (line_member line)) done e
      in
      by_place m (member_there w (line_member line) m f) t
      (get-set w.members (line_member line) j (Some done.member) (Some x) at)
    where
      n : ℕ
      n = line_member line

      by_place : (m : Member) → slice_get w.members n ≡ Some (Some m)
          → turned r w n line m ≡ Some done
          → ((n ≡ j) × (Some done.member ≡ Some x))
          ⊎ ((n ≡ j → ⊥) × (slice_get w.members j ≡ Some (Some x)))
          → P (with_done w n done) j x
      by_place m there t (inl y) =
          let s : done.member ≡ x = same_Some done.member x y.1 in
          subst (λ i. P (with_done w n done) i x) y.0
          (subst (P (with_done w n done) n) s
          (turned_left w n line m done c there q (all n m there) t))
      by_place m there t (inr y) =
          k.stays w (with_done w n done) j x (extends_done w n m done there) (all j x y.1)

  line_all : (w : World) (line : Line) → IsWorldKept r script w → Q line → AllHold w
      → AllHold (happens r w line)
  line_all w (Faulty a fault) c q all j x at =
      k.stays w (happens r w (Faulty a fault)) j x (extends_sends w a (fault_sends r w a fault))
      (all j x at)
  line_all w (Do i ask) c q all j x at =
      done_all w (Do i ask) c q all (done_by r w (Do i ask)) refl j x at
  line_all w (Cut a b f i ask) c q all j x at =
      done_all w (Cut a b f i ask) c q all (done_by r w (Cut a b f i ask)) refl j x at
  line_all w (Restart i) c q all j x at =
      done_all w (Restart i) c q all (done_by r w (Restart i)) refl j x at

  run_all : (w : World) (lines : List Line) → IsCluster r script → IsWorldKept r script w
      → AllByRecursion (IsOf script) lines → AllByRecursion Q lines → AllHold w
      → AllHold (run r w lines)
  run_all w [] cluster c of q all = all
  run_all w (line ∷ lines) cluster c of q all =
      run_all (happens r w line) lines cluster (line_kept r script w line cluster c of.0) of.1 q.1
      (line_all w line c q.0 all)

  opening_all : AllHold (opening r script)
  opening_all i m at = by_range (get-map_from start_of (range_with_len 0 r.epochs.total) i (Some m) at)
    where
      start_of : ℕ → Option Member
      start_of i = cond (list_any (faults i) script) None (Some (start r i []).member)

      by_start : (n : ℕ) (b : Bool) → cond b None (Some (start r n []).member) ≡ Some m
          → P (opening r script) n m
      by_start n true e = cc
      by_start n false e =
          subst (P (opening r script) n) (same_Some (start r n []).member m e) (k.first n)

      by_range : ((n : ℕ) × (slice_get (range_with_len 0 r.epochs.total) i ≡ Some n)
          × (start_of n ≡ Some m))
          → P (opening r script) i m
      by_range (n, there, e) =
          let same : n ≡ i = omega (arith, get-range 0 r.epochs.total i n there) in
          subst (λ x. P (opening r script) x m) same
          (by_start n (list_any (faults n) script) e)

  -- it holds in each world that the script reaches
  pub reached_all : (w : World) → IsCluster r script → AllByRecursion Q script
      → Reaches r script w → AllHold w
  reached_all w cluster q (before, rest, joined, e) =
      subst AllHold (sym e)
      (run_all (opening r script) before cluster (opening_kept r script cluster)
      (front_of script before rest joined)
      (all_front Q before rest (subst (AllByRecursion Q) joined q)) opening_all)

-- any line is allowed
abbrev pub AnyLine : Line → Type 0
AnyLine line = Unit {0}

pub any_lines : (script : List Line) → AllByRecursion AnyLine script
any_lines [] = tt
any_lines (line ∷ lines) = (tt, any_lines lines)

-- ---- what holds of each note

-- R holds of each note that a step writes, and stays where others act
pub record Writes (r : Rules) (script : List Line) (Q : Line → Type 0)
    (R : World → ℕ → List Note → Note → Type 0) : Type 0 where
  pub stays : (w v : World) (i : ℕ) (before : List Note) (n : Note) → Extends w v
      → R w i before n → R v i before n
  pub written : (w : World) (i : ℕ) (m : Member) (e : Event) → Turning r script Q w i m e
      → EachAfter (R w i) (member_notes m) (step_notes r i (taken r (signed w) (state_of m) e) e)

-- then it holds of each note of each honest member
pub writes_carry : (r : Rules) (script : List Line) (Q : Line → Type 0)
    (R : World → ℕ → List Note → Note → Type 0)
    → Writes r script Q R
    → Carries r script Q (λ w i m. EachAfter (R w i) [] (member_notes m))
writes_carry r script Q R k = record {
  stays =
      λ w v i m e p. each_weaker (R w i) (R v i) (λ before n. k.stays w v i before n e) []
      (member_notes m) p;
  first = λ i. tt;
  stepped =
      λ w i m e t p.
      each_weaker (R w i) (R (with_done w i (step r i (signed w) m e)) i)
      (λ before n. k.stays w (with_done w i (step r i (signed w) m e)) i before n
      (extends_done w i m (step r i (signed w) m e) t.at)) []
      (member_notes (step r i (signed w) m e).member) (joined w i m e t p);
  halts = λ w i m p. p;
  kept = λ w i m e t p. joined w i m e t p;
  started =
      λ w i m c at live p.
      each_weaker (R w i) (R (with_done w i (start r i m.frames)) i)
      (λ before n. k.stays w (with_done w i (start r i m.frames)) i before n
      (extends_done w i m (start r i m.frames) at)) [] (member_notes m) p;
}
  where
    joined : (w : World) (i : ℕ) (m : Member) (e : Event) → Turning r script Q w i m e
        → EachAfter (R w i) [] (member_notes m)
        → EachAfter (R w i) [] (member_notes (step r i (signed w) m e).member)
    joined w i m e t p =
        let notes = step_notes r i (taken r (signed w) (state_of m) e) e in
        subst (EachAfter (R w i) []) (sym (frames_join m.frames notes))
        (each_append (R w i) [] (member_notes m) notes p (k.written w i m e t))

-- a note that is there, with those before it
pub each_at : (R : List Note → Note → Type 0) (start notes : List Note) (n : Note)
    → EachAfter R start notes → In n notes
    → (front rest : List Note) × (start ++ notes ≡ front ++ n ∷ rest) × R front n
each_at R start [] n e h = absurd h
each_at R start (x ∷ xs) n e (inl s) =
    (start, xs, ap (λ y. start ++ y ∷ xs) (sym s), subst (R start) (sym s) e.0)
each_at R start (x ∷ xs) n e (inr h) =
    let (front, rest, joined, it) = each_at R (start ++ x ∷ []) xs n e.1 h in
    (front, rest, sym (append_assoc start (x ∷ []) xs) ∙ joined, it)
