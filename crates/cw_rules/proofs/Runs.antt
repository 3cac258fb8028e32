-- A run that ends without a clash hands out one chain.
use Rattle.std.proofs.Common.{◌≡◌, ℕ, zero, suc, ◌+◌, Bool, true, false, ◌&&◌, ◌||◌, ◌==◌, nat_lt, cond, List, [], ◌∷◌, ◌++◌, Option, Some, None, slice_get, slice_set, refl, sym, ◌∙◌, ap, subst, inl, inr, ◌⊎◌, option_map, option_and_then, length, flat_map, filter_map, append_assoc, append-nil}
use Rattle.std.specs.List.{list_any, range_with_len, AllByRecursion, cons_option}
use Rattle.std.specs.Option.{option_map_or}
use Rattle.std.proofs.lemmas.Bool.{cases_eq}
use Rattle.std.proofs.lemmas.Option.{same_Some}
use Rattle.std.proofs.lemmas.Grind.{flat_map-append}
use Rattle.cw_types.specs.declared.commitment.Commitment.{Commitment}
use Rattle.cw_types.specs.declared.event.Event.{Event}
use Rattle.cw_types.specs.declared.event.Handed.{Handed}
use Rattle.cw_types.specs.declared.note.Note.{Note}
use Rattle.cw_types.specs.declared.vote.Proposal.{Proposal}
use Rattle.cw_types.specs.declared.vote.Vote.TheVariants.{Notarize}
use Rattle.cw_types.specs.Block.{Block}
use Rattle.cw_rules.specs.Accepted.{State}
use Rattle.cw_rules.specs.Chains.{Clashes, Ends, clash_at, outcome}
use Rattle.cw_rules.specs.Held.{at_height, held, next, pending}
use Rattle.cw_rules.specs.Keeps.{IsCertifiedIn}
use Rattle.cw_rules.specs.Reached.{AllAnchored, GoesDown, In, IsAnchored, IsChainUpTo, IsCluster, IsKnown, ReachesClear, members_of}
use Rattle.cw_rules.specs.Report.{Entry, entries_from, first_line, handed_in, opening_entries, opening_entry}
use Rattle.cw_rules.specs.Rules.{Rules, digest, genesis}
use Rattle.cw_rules.specs.Stands.{Stands}
use Rattle.cw_rules.specs.Step.{Member, Stepped, cut_step, deliveries, deliveries_within, handing, member_notes, most_delivered, start, state_of, step, step_notes, stopped, taken, with_given, with_notes}
use Rattle.cw_rules.specs.World.{Cut, Do, Faulty, Line, Restart, World, done_by, event_of, fault_sends, faults, happens, line_member, member_at, opening, run, signed, turned, with_done, with_sends}
use Rattle.cw_rules.proofs.Lists.{and_then_some, in_cases}
use Rattle.cw_rules.proofs.Worlds.{get-map, get-map_from, get-set_same, frames_join, member_there, IsWorldKept, kept_lawful, kept_keep}
use Rattle.cw_rules.proofs.Reach.{IsOf, front_of, turned_kept, line_kept, opening_kept}
use Rattle.cw_rules.proofs.Anchors.{anchored_done}
use Rattle.cw_rules.proofs.Blocks.{NoClash, noter}
use Rattle.cw_rules.proofs.Bases.{IsFrontOf}
use Rattle.cw_rules.proofs.Descents.{Branch, branch_of, one_chain, one_entry, goes_down}
use Rattle.cw_rules.proofs.Clashes.{clear_done}

-- what is handed out by lines, one after another
abbrev pub handed_by : Rules → World → List Line → List Handed
handed_by r w [] = []
handed_by r w (line ∷ lines) =
    option_map_or (λ done. done.handed) (done_by r w line) []
    ++ handed_by r (happens r w line) lines

-- what is handed out at the opening
abbrev pub opening_handed : Rules → List Line → List Handed
opening_handed r script =
    flat_map (λ i. cond (list_any (faults i) script) [] (start r i []).handed)
    (range_with_len 0 r.epochs.total)

steps_handed : (r : Rules) (w : World) (number : ℕ) (lines : List Line)
    → flat_map (λ (e : Entry). e.handed) (entries_from r w number lines) ≡ handed_by r w lines
steps_handed r w number [] = refl
steps_handed r w number (line ∷ lines) =
    ap (λ xs. option_map_or (λ (done : Stepped). done.handed) (done_by r w line) [] ++ xs)
    (steps_handed r (happens r w line) (number + 1) lines)

starts_handed : (r : Rules) (script : List Line) (low len : ℕ)
    → flat_map (λ (e : Entry). e.handed)
    (filter_map (opening_entry r script) (range_with_len low len))
    ≡ flat_map (λ i. cond (list_any (faults i) script) [] (start r i []).handed)
    (range_with_len low len)
starts_handed r script low zero = refl
starts_handed r script low (suc len) =
    go (list_any (faults low) script) (starts_handed r script (low + 1) len)
  where
    rest : List Entry
    rest = filter_map (opening_entry r script) (range_with_len (low + 1) len)

    more : List Handed
    more =
        flat_map (λ i. cond (list_any (faults i) script) [] (start r i []).handed)
        (range_with_len (low + 1) len)

    go : (b : Bool) → flat_map (λ (e : Entry). e.handed) rest ≡ more
        → flat_map (λ (e : Entry). e.handed)
        (cons_option (cond b None (Some (record {
          line = 0;
          member = Some low;
          found = None;
          sent = [];
          handed = (start r low []).handed;
        }))) rest)
        ≡ cond b [] (start r low []).handed ++ more
    go true e = e
    go false e = ap (λ xs. (start r low []).handed ++ xs) e

-- all that is handed out, by starts and then by lines
pub handed_parts : (r : Rules) (script : List Line)
    → handed_in r script ≡ opening_handed r script ++ handed_by r (opening r script) script
handed_parts r script =
    flat_map-append (λ (e : Entry). e.handed) (opening_entries r script)
    (entries_from r (opening r script) (first_line r) script)
    ∙ (ap
    (λ xs. xs
    ++ flat_map (λ (e : Entry). e.handed)
    (entries_from r (opening r script) (first_line r) script))
    (starts_handed r script 0 r.epochs.total)
    ∙ ap (λ xs. opening_handed r script ++ xs)
    (steps_handed r (opening r script) (first_line r) script))

-- a block handed out by a member with these notes
pub record Delivered (r : Rules) (notes : List Note) (x : Handed) : Type 0 where
  pub block : Block
  pub high : at_height r notes x.height ≡ Some x.commitment
  pub holds : held r notes x.commitment ≡ Some block
  pub same : x.digest ≡ digest r block

delivered_within : (r : Rules) (steps : ℕ) (s : State) (x : Handed)
    → In x (deliveries_within r steps s) → Delivered r s.notes x
delivered_within r zero s x h = absurd h
delivered_within r (suc steps) s x h =
    by_room (nat_lt (length (pending s)) r.backlog) h
    (delivered_within r steps (with_given s (next s)) x)
  where
    each : Handed → List Handed
    each y = y ∷ deliveries_within r steps (with_given s y.height)

    by_block : (c : Commitment) → at_height r s.notes (next s) ≡ Some c → (o : Option Block)
        → held r s.notes c ≡ o → In x (option_map_or each (option_map (handing r (next s) c) o) [])
        → (In x (deliveries_within r steps (with_given s (next s))) → Delivered r s.notes x)
        → Delivered r s.notes x
    by_block c e None f h later = absurd h
    by_block c e (Some b) f (inl g) later =
        subst (Delivered r s.notes) (sym g) (record { block = b; high = e; holds = f; same = refl })
    by_block c e (Some b) f (inr g) later = later g

    by_at : (o : Option Commitment) → at_height r s.notes (next s) ≡ o
        → In x
        (option_map_or each
        (option_and_then (λ c. option_map (handing r (next s) c) (held r s.notes c)) o) [])
        → (In x (deliveries_within r steps (with_given s (next s))) → Delivered r s.notes x)
        → Delivered r s.notes x
    by_at None e h later = absurd h
    by_at (Some c) e h later = by_block c e (held r s.notes c) refl h later

    by_room : (b : Bool)
        → In x
        (option_map_or each
        (cond b
        (option_and_then (λ c. option_map (handing r (next s) c) (held r s.notes c))
        (at_height r s.notes (next s)))
        None)
        [])
        → (In x (deliveries_within r steps (with_given s (next s))) → Delivered r s.notes x)
        → Delivered r s.notes x
    by_room true h later = by_at (at_height r s.notes (next s)) refl h later
    by_room false h later = absurd h

delivered : (r : Rules) (s : State) (x : Handed) → In x (deliveries r s) → Delivered r s.notes x
delivered r s x h = delivered_within r (most_delivered r s) s x h

-- what a turn leaves: more notes, and what it handed out by them
pub record Turned (r : Rules) (m : Member) (done : Stepped) : Type 0 where
  pub more : List Note
  pub joined : member_notes done.member ≡ member_notes m ++ more
  pub gave : (x : Handed) → In x done.handed → Delivered r (member_notes done.member) x

step_turned : (r : Rules) (i : ℕ) (w : World) (m : Member) (e : Event)
    → Turned r m (step r i (signed w) m e)
step_turned r i w m e =
    let notes = step_notes r i (taken r (signed w) (state_of m) e) e in
    let j = frames_join m.frames notes in
    record {
      more = notes;
      joined = j;
      gave =
          λ x h. subst (λ ns. Delivered r ns x) (sym j)
          (delivered r (with_notes (taken r (signed w) (state_of m) e) notes) x h);
    }

start_turned : (r : Rules) (i : ℕ) (m : Member) → Turned r m (start r i m.frames)
start_turned r i m =
    record {
      more = [];
      joined = sym (append-nil (member_notes m));
      gave = λ x h. delivered r _ x h;
    }

cut_turned : (r : Rules) (i : ℕ) (w : World) (m : Member) (a c x : ℕ) (e : Event)
    → Turned r m (cut_step r i (signed w) m a c x e)
cut_turned r i w m a c x e = by_end ((length notes == 0) || nat_lt 4 a)
  where
    notes : List Note
    notes = step_notes r i (taken r (signed w) (state_of m) e) e

    done : Stepped
    done = step r i (signed w) m e

    whole : Stepped
    whole =
        record {
          member = stopped done.member done.member.frames;
          sent = done.sent;
          handed = done.handed;
          tickets = done.tickets;
        }

    part : Bool → Stepped
    part b =
        record {
          member = stopped m (cond b done.member.frames m.frames);
          sent = [];
          handed = [];
          tickets = [];
        }

    by_stay : (b : Bool) → Turned r m (part b)
    by_stay true =
        record { more = notes; joined = frames_join m.frames notes; gave = λ y h. absurd h }
    by_stay false =
        record { more = []; joined = sym (append-nil (member_notes m)); gave = λ y h. absurd h }

    by_end : (b : Bool) → Turned r m (cond b whole (part (nat_lt 2 a && (nat_lt 0 c || (x == 1)))))
    by_end true =
        let t = step_turned r i w m e in record { more = t.more; joined = t.joined; gave = t.gave }
    by_end false = by_stay (nat_lt 2 a && (nat_lt 0 c || (x == 1)))

pub turn : (r : Rules) (w : World) (i : ℕ) (line : Line) (m : Member) (done : Stepped)
    → turned r w i line m ≡ Some done → Turned r m done
turn r w i (Do j ask) m done h = by_live m.live h
  where
    by_event : (o : Option Event) → option_map (step r i (signed w) m) o ≡ Some done
        → Turned r m done
    by_event None h = cc
    by_event (Some e) h =
        subst (Turned r m) (same_Some (step r i (signed w) m e) done h) (step_turned r i w m e)

    by_live : (b : Bool)
        → cond b (option_map (step r i (signed w) m) (event_of w i ask)) None ≡ Some done
        → Turned r m done
    by_live true h = by_event (event_of w i ask) h
    by_live false h = cc
turn r w i (Cut a c x j ask) m done h = by_live m.live h
  where
    by_event : (o : Option Event) → option_map (cut_step r i (signed w) m a c x) o ≡ Some done
        → Turned r m done
    by_event None h = cc
    by_event (Some e) h =
        subst (Turned r m) (same_Some (cut_step r i (signed w) m a c x e) done h)
        (cut_turned r i w m a c x e)

    by_live : (b : Bool)
        → cond b (option_map (cut_step r i (signed w) m a c x) (event_of w i ask)) None ≡ Some done
        → Turned r m done
    by_live true h = by_event (event_of w i ask) h
    by_live false h = cc
turn r w i (Restart j) m done h = by_live m.live h
  where
    by_live : (b : Bool) → cond b None (Some (start r i m.frames)) ≡ Some done → Turned r m done
    by_live true h = cc
    by_live false h =
        subst (Turned r m) (same_Some (start r i m.frames) done h) (start_turned r i m)
turn r w i (Faulty j fault) m done h = cc

-- a handed block, by a member that had a front of its notes of now
pub record Gave (r : Rules) (w : World) (x : Handed) : Type 0 where
  pub place : ℕ
  pub member : Member
  pub at : slice_get w.members place ≡ Some (Some member)
  pub before : List Note
  pub rest : List Note
  pub joined : member_notes member ≡ before ++ rest
  pub gave : Delivered r before x

abbrev AllGave : Rules → World → List Handed → Type 0
AllGave r w xs = (x : Handed) → In x xs → Gave r w x

gave_later : (r : Rules) (w : World) (i : ℕ) (m : Member) (done : Stepped) (x : Handed)
    → slice_get w.members i ≡ Some (Some m) → Turned r m done → Gave r w x
    → Gave r (with_done w i done) x
gave_later r w i m done x at t g = go (cases_eq i g.place)
  where
    go : (i ≡ g.place) ⊎ (i ≡ g.place → ⊥) → Gave r (with_done w i done) x
    go (inl e) =
        let f : slice_get w.members i ≡ Some (Some g.member) =
        subst (λ j. slice_get w.members j ≡ Some (Some g.member)) (sym e) g.at in
        let s : Some m ≡ Some g.member = same_Some (Some m) (Some g.member) (sym at ∙ f) in
        let n = same_Some m g.member s in
        record {
          place = i;
          member = done.member;
          at = get-set_same w.members i (Some done.member) (Some m) at;
          before = g.before;
          rest = g.rest ++ t.more;
          joined =
              t.joined
              ∙ (ap (λ y. member_notes y ++ t.more) n
              ∙ (ap (λ ns. ns ++ t.more) g.joined ∙ append_assoc g.before g.rest t.more));
          gave = g.gave;
        }
    go (inr ne) =
        record {
          place = g.place;
          member = g.member;
          at = other w.members i g.place (Some done.member) g.at ne;
          before = g.before;
          rest = g.rest;
          joined = g.joined;
          gave = g.gave;
        }
      where
        other : (xs : List (Option Member)) (i j : ℕ) (y : Option Member)
            → slice_get xs j ≡ Some (Some g.member) → (i ≡ j → ⊥)
            → slice_get (slice_set xs i y) j ≡ Some (Some g.member)
        other [] i j y h n = cc
        other (z ∷ zs) zero zero y h n = absurd (n refl)
        other (z ∷ zs) zero (suc j) y h n = h
        other (z ∷ zs) (suc i) zero y h n = h
        other (z ∷ zs) (suc i) (suc j) y h n = other zs i j y h (λ e. n (ap suc e))

-- what is kept along a run without a clash
pub record IsClearRun (r : Rules) (script : List Line) (w : World) (xs : List Handed) : Type 0 where
  pub kept : IsWorldKept r script w
  pub clear : NoClash r w
  pub anchored : AllAnchored r.epochs (members_of w)
  pub gave : AllGave r w xs

done_clear : (r : Rules) (script : List Line) (w : World) (line : Line) (xs : List Handed)
    → IsCluster r script → IsClearRun r script w xs → (o : Option Stepped) → done_by r w line ≡ o
    → clash_at r w (option_map_or (with_done w (line_member line)) o w) (line_member line) ≡ None
    → IsClearRun r script (option_map_or (with_done w (line_member line)) o w)
    (xs ++ option_map_or (λ done. done.handed) o [])
done_clear r script w line xs c k None e h =
    record {
      kept = k.kept;
      clear = k.clear;
      anchored = k.anchored;
      gave = subst (AllGave r w) (sym (append-nil xs)) k.gave;
    }
done_clear r script w line xs c k (Some done) e h =
    let i = line_member line in
    let (m, f, g) = and_then_some (turned r w i line) (member_at w i) done e in
    let at = member_there w i m f in
    let t = turn r w i line m done g in
    let u = turned_kept r script w i line m done c k.kept at g in
    let clear = clear_done r w i m done t.more k.clear at t.joined h in
    record {
      kept = u.kept;
      clear = clear;
      anchored = anchored_done r script w c k.kept i m at done u.kept clear u.turns k.anchored;
      gave = λ x n. by_list i m at t x (in_cases x xs done.handed n);
    }
  where
    by_list : (i : ℕ) (m : Member) → slice_get w.members i ≡ Some (Some m) → Turned r m done
        → (x : Handed) → In x xs ⊎ In x done.handed → Gave r (with_done w i done) x
    by_list i m at t x (inl n) = gave_later r w i m done x at t (k.gave x n)
    by_list i m at t x (inr n) =
        record {
          place = i;
          member = done.member;
          at = get-set_same w.members i (Some done.member) (Some m) at;
          before = member_notes done.member;
          rest = [];
          joined = sym (append-nil (member_notes done.member));
          gave = t.gave x n;
        }

line_clear : (r : Rules) (script : List Line) (w : World) (line : Line) (xs : List Handed)
    → IsCluster r script → IsOf script line → IsClearRun r script w xs
    → clash_at r w (happens r w line) (line_member line) ≡ None
    → IsClearRun r script (happens r w line)
    (xs ++ option_map_or (λ done. done.handed) (done_by r w line) [])
line_clear r script w (Do i ask) xs c o k h =
    done_clear r script w (Do i ask) xs c k (done_by r w (Do i ask)) refl h
line_clear r script w (Cut a b x i ask) xs c o k h =
    done_clear r script w (Cut a b x i ask) xs c k (done_by r w (Cut a b x i ask)) refl h
line_clear r script w (Restart i) xs c o k h =
    done_clear r script w (Restart i) xs c k (done_by r w (Restart i)) refl h
line_clear r script w (Faulty a fault) xs c o k h =
    record {
      kept = line_kept r script w (Faulty a fault) c k.kept o;
      clear = k.clear;
      anchored = k.anchored;
      gave =
          λ x n. by_list x
          (in_cases x xs (option_map_or (λ done. done.handed) (done_by r w (Faulty a fault)) [])
          n);
    }
  where
    nobody : (o : Option Member) → option_and_then (turned r w a (Faulty a fault)) o ≡ None
    nobody None = refl
    nobody (Some m) = refl

    by_list : (x : Handed)
        → In x xs ⊎ In x (option_map_or (λ done. done.handed) (done_by r w (Faulty a fault)) [])
        → Gave r (with_sends w a (fault_sends r w a fault)) x
    by_list x (inl n) =
        let g = k.gave x n in
        record {
          place = g.place;
          member = g.member;
          at = g.at;
          before = g.before;
          rest = g.rest;
          joined = g.joined;
          gave = g.gave;
        }
    by_list x (inr n) =
        absurd
        (subst (λ o. In x (option_map_or (λ (done : Stepped). done.handed) o []))
        (nobody (member_at w a)) n)

run_clear : (r : Rules) (script : List Line) (w : World) (lines : List Line) (xs : List Handed)
    (end : World)
    → IsCluster r script → AllByRecursion (IsOf script) lines → IsClearRun r script w xs
    → outcome r w lines ≡ Ends end
    → (end ≡ run r w lines) × IsClearRun r script end (xs ++ handed_by r w lines)
run_clear r script w [] xs end c o k h =
    let e : w ≡ end = cc in (
      sym e,
      subst (λ v. IsClearRun r script v (xs ++ [])) e (record {
        kept = k.kept;
        clear = k.clear;
        anchored = k.anchored;
        gave = subst (AllGave r w) (sym (append-nil xs)) k.gave;
      }),
    )
run_clear r script w (line ∷ lines) xs end c o k h =
    by_clash (clash_at r w (happens r w line) (line_member line)) refl h
    (λ y. run_clear r script (happens r w line) lines y end c o.1)
  where
    now : List Handed
    now = option_map_or (λ done. done.handed) (done_by r w line) []

    by_clash : (q : Option (Block × Block)) → clash_at r w (happens r w line) (line_member line) ≡ q
        → option_map_or (λ both. Clashes (r.block_bytes both.0) (r.block_bytes both.1)) q
        (outcome r (happens r w line) lines)
        ≡ Ends end
        → ((ys : List Handed) → IsClearRun r script (happens r w line) ys
        → outcome r (happens r w line) lines ≡ Ends end
        → (end ≡ run r (happens r w line) lines)
        × IsClearRun r script end (ys ++ handed_by r (happens r w line) lines))
        → (end ≡ run r w (line ∷ lines))
        × IsClearRun r script end (xs ++ handed_by r w (line ∷ lines))
    by_clash None e h later =
        let p = later (xs ++ now) (line_clear r script w line xs c o.0 k e) h in (
          p.0,
          subst (IsClearRun r script end)
              (append_assoc xs now (handed_by r (happens r w line) lines)) p.1,
        )
    by_clash (Some both) e h later = cc

-- ---- the opening

in_flat : (f : ℕ → List Handed) (x : Handed) (low len : ℕ)
    → In x (flat_map f (range_with_len low len))
    → (p k : ℕ) × (slice_get (range_with_len low len) p ≡ Some k) × In x (f k)
in_flat f x low zero h = absurd h
in_flat f x low (suc len) h =
    go (in_cases x (f low) (flat_map f (range_with_len (low + 1) len)) h)
    (in_flat f x (low + 1) len)
  where
    go : In x (f low) ⊎ In x (flat_map f (range_with_len (low + 1) len))
        → (In x (flat_map f (range_with_len (low + 1) len))
        → (p k : ℕ) × (slice_get (range_with_len (low + 1) len) p ≡ Some k) × In x (f k))
        → (p k : ℕ) × (slice_get (low ∷ range_with_len (low + 1) len) p ≡ Some k) × In x (f k)
    go (inl i) later = (0, low, refl, i)
    go (inr i) later = let (p, k, e, j) = later i in (suc p, k, e, j)

opening_clear : (r : Rules) (script : List Line) → IsCluster r script
    → IsClearRun r script (opening r script) (opening_handed r script)
opening_clear r script c0 =
    record {
      kept = opening_kept r script c0;
      clear = λ a b ka kb e. only a ka ∙ sym (only b kb);
      anchored = λ i notes at epoch c h. none_noted i notes at epoch c h;
      gave = λ x h. by_place x (in_flat given x 0 r.epochs.total h);
    }
  where
    start_of : ℕ → Option Member
    start_of i = cond (list_any (faults i) script) None (Some (start r i []).member)

    given : ℕ → List Handed
    given i = cond (list_any (faults i) script) [] (start r i []).handed

    no_notes : (b : Bool) (i : ℕ) (m : Member) → cond b None (Some (start r i []).member) ≡ Some m
        → member_notes m ≡ []
    no_notes true i m e = cc
    no_notes false i m e = ap member_notes (sym (same_Some (start r i []).member m e))

    none_noted : (i : ℕ) (notes : List Note)
        → slice_get (members_of (opening r script)) i ≡ Some (Some notes)
        → (epoch : ℕ) (c : Commitment) → In (Note.Epoch epoch c) notes
        → IsAnchored r.epochs (members_of (opening r script)) epoch c
    none_noted i notes at epoch c h =
        by_member
        (get-map_from (option_map member_notes) (opening r script).members i (Some notes) at)
      where
        by_start : (m : Member) → member_notes m ≡ notes
            → ((k : ℕ) × (slice_get (range_with_len 0 r.epochs.total) i ≡ Some k)
            × (start_of k ≡ Some m))
            → IsAnchored r.epochs (members_of (opening r script)) epoch c
        by_start m f (k, t, e) =
            absurd
            (subst (In (Note.Epoch epoch c))
            (sym f ∙ no_notes (list_any (faults k) script) k m e) h)

        by_member : ((o : Option Member) × (slice_get (opening r script).members i ≡ Some o)
            × (option_map member_notes o ≡ Some notes))
            → IsAnchored r.epochs (members_of (opening r script)) epoch c
        by_member (None, e, f) = cc
        by_member (Some m, e, f) =
            by_start m (same_Some (member_notes m) notes f)
            (get-map_from start_of (range_with_len 0 r.epochs.total) i (Some m) e)

    only : (b : Block) → IsKnown r (opening r script) b → b ≡ genesis r
    only b (inl e) = e
    only b (inr (c, h)) =
        let n = noter (Note.Block c b) (opening r script).members h in
        let (k, at, e) =
        get-map_from start_of (range_with_len 0 r.epochs.total) n.place (Some n.member) n.at in
        absurd
        (subst (In (Note.Block c b)) (no_notes (list_any (faults k) script) k n.member e)
        n.noted)

    by_fault : (x : Handed) (k : ℕ) → (b : Bool) → list_any (faults k) script ≡ b
        → In x (cond b [] (start r k []).handed)
        → (start_of k ≡ Some (start r k []).member) × Delivered r [] x
    by_fault x k true e h = absurd h
    by_fault x k false e h =
        (ap (λ b. cond b None (Some (start r k []).member)) e, delivered r _ x h)

    by_place : (x : Handed)
        → ((p k : ℕ) × (slice_get (range_with_len 0 r.epochs.total) p ≡ Some k) × In x (given k))
        → Gave r (opening r script) x
    by_place x (p, k, e, h) =
        let (s, d) = by_fault x k (list_any (faults k) script) refl h in
        record {
          place = p;
          member = (start r k []).member;
          at = get-map start_of (range_with_len 0 r.epochs.total) p k e ∙ ap Some s;
          before = [];
          rest = [];
          joined = refl;
          gave = d;
        }

-- ---- the laws

-- what is kept in a world that is reached without a clash
pub clear_reached : (r : Rules) (script before rest : List Line) (w : World) → IsCluster r script
    → script ≡ before ++ rest → outcome r (opening r script) before ≡ Ends w
    → IsClearRun r script w (opening_handed r script ++ handed_by r (opening r script) before)
clear_reached r script before rest w c joined h =
    (run_clear r script (opening r script) before (opening_handed r script) w c
    (front_of script before rest joined) (opening_clear r script c) h).1

-- the members of a world, as they are
pub now_fronts : (w : World) (i : ℕ) (notes : List Note)
    → slice_get (members_of w) i ≡ Some (Some notes) → IsFrontOf w i notes
now_fronts w i notes at = go (get-map_from (option_map member_notes) w.members i (Some notes) at)
  where
    go : ((o : Option Member) × (slice_get w.members i ≡ Some o)
        × (option_map member_notes o ≡ Some notes))
        → IsFrontOf w i notes
    go (None, e, f) = cc
    go (Some m, e, f) =
        record {
          member = m;
          rest = [];
          at = e;
          joined = same_Some (member_notes m) notes f ∙ sym (append-nil notes);
        }

-- each note that enters an epoch is anchored
pub clear_anchored : (r : Rules) (script : List Line) (w : World) → IsCluster r script
    → ReachesClear r script w → AllAnchored r.epochs (members_of w)
clear_anchored r script w c (before, rest, joined, h) =
    (clear_reached r script before rest w c joined h).anchored

-- all notes of one epoch have one commitment
pub clear_entries : (r : Rules) (script : List Line) (w : World) → IsCluster r script
    → ReachesClear r script w → (i j : ℕ) (notes others : List Note)
    → slice_get (members_of w) i ≡ Some (Some notes)
    → slice_get (members_of w) j ≡ Some (Some others)
    → (epoch : ℕ) (c d : Commitment) → In (Note.Epoch epoch c) notes
    → In (Note.Epoch epoch d) others → c ≡ d
clear_entries r script w c (before, rest, joined, h) =
    let k = clear_reached r script before rest w c joined h in
    one_entry r w c.spans (kept_keep r script w k.kept) k.clear (members_of w)
    (kept_lawful r script w c k.kept) (kept_keep r script w k.kept) (now_fronts w) k.anchored

-- each step of a descent from what is certified goes down, or keeps the payload at the last height
pub clear_down : (r : Rules) (script : List Line) (w : World) → IsCluster r script
    → ReachesClear r script w → (q p : Proposal) → IsCertifiedIn (members_of w) q
    → Stands r.epochs (members_of w) (Notarize p) → p.epoch ≡ q.epoch → p.view ≡ q.parent
    → GoesDown r w q p
clear_down r script w c (before, rest, joined, h) =
    let k = clear_reached r script before rest w c joined h in
    goes_down r w c.spans (kept_keep r script w k.kept) k.clear (members_of w)
    (kept_lawful r script w c k.kept) (kept_keep r script w k.kept) (now_fronts w) k.anchored

-- where a script ends without a clash, all that is handed out is one chain
pub script_chain : (r : Rules) (script : List Line) (w : World) → IsCluster r script
    → outcome r (opening r script) script ≡ Ends w → (x : Handed) → In x (handed_in r script)
    → IsChainUpTo r w (handed_in r script) x
script_chain r script w c h x at =
    let k =
    subst (IsClearRun r script w) (sym (handed_parts r script))
    (clear_reached r script script [] w c (sym (append-nil script)) h) in
    one_chain r w c.spans (kept_keep r script w k.kept) k.clear (members_of w)
    (kept_lawful r script w c k.kept) (kept_keep r script w k.kept) (now_fronts w) k.anchored
    (handed_in r script)
    (λ y i. by_gave k y (k.gave y i)) x at
  where
    by_gave : (k : IsClearRun r script w (handed_in r script)) (y : Handed) → Gave r w y
        → Branch r w c.spans (kept_keep r script w k.kept) k.clear (members_of w)
        (kept_lawful r script w c k.kept) (kept_keep r script w k.kept) (now_fronts w)
        k.anchored y
    by_gave k y g =
        branch_of r w c.spans (kept_keep r script w k.kept) k.clear (members_of w)
        (kept_lawful r script w c k.kept) (kept_keep r script w k.kept) (now_fronts w)
        k.anchored g.place (member_notes g.member) g.before g.rest
        (get-map (option_map member_notes) w.members g.place (Some g.member) g.at) g.joined y
        g.gave.block g.gave.high g.gave.holds g.gave.same
