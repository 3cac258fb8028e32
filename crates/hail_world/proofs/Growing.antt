-- What a line adds to the notes of its member, and to those of no other.
use Rattle.std.proofs.Common.{◌≡◌, ℕ, zero, suc, ◌+◌, ◌<◌, ◌==◌, ◌||◌, ◌&&◌, cond, nat_lt, Bool, true, false, List, [], ◌∷◌, ◌++◌, length, map, take, drop, get_or, Option, Some, None, refl, sym, ap, subst, ◌∙◌, arith, append-nil}
use Rattle.std.specs.Prelude.{flat_map, option_and_then, option_map, slice_get, slice_set}
use Rattle.std.specs.List.{AllByRecursion}
use Rattle.std.specs.Option.{option_map_or}
use Rattle.std.proofs.lemmas.List.{take-append-drop}
use Rattle.cw_types.specs.declared.event.Event.{Event}
use Rattle.cw_types.specs.declared.note.Note.{Note}
use Rattle.cw_rules.specs.Keeps.{Keeps, Meaning, meaning}
use Rattle.cw_rules.specs.Reached.{IsMemberKept, Reaches, members_of}
use Rattle.cw_rules.specs.Rules.{Rules}
use Rattle.cw_rules.specs.Stands.{EachAfter}
use Rattle.cw_rules.specs.Step.{Member, Stepped, cut_step, member_notes, start, state_of, step, step_notes, stopped, taken}
use Rattle.cw_rules.specs.World as rule
use Rattle.cw_rules.specs.World.{Line, World, done_by, event_of, happens, line_member, member_at, run, signed, turned, with_done}
use Rattle.cw_rules.proofs.Worlds.{frames_join}
use Rattle.hail_world.specs.declared.place.Place.{Place}
use Rattle.hail_world.specs.declared.place.Place.TheVariants as place
use Rattle.hail_world.specs.Places.{SitAs, SitsAs, notes_at}
use Rattle.hail_world.specs.Runs.{HasGrown, notes_of_place}
use Rattle.hail_world.specs.MemoryNodes.{MemoryNode}
use Rattle.hail_world.proofs.Playing.{seated_notes}

-- ---- what is done only adds notes

abbrev Adds : Member → Member → Type 0
Adds m x = (more : List Note) × (member_notes x ≡ member_notes m ++ more)

none_added : (m x : Member) → member_notes x ≡ member_notes m → Adds m x
none_added m x e = ([], e ∙ sym (append-nil (member_notes m)))

step_adds : (r : Rules) (w : World) (i : ℕ) (m : Member) (e : Event)
    → Adds m (step r i (signed w) m e).member
step_adds r w i m e =
    let notes = step_notes r i (taken r (signed w) (state_of m) e) e in
    (notes, frames_join m.frames notes)

cut_adds : (r : Rules) (w : World) (i : ℕ) (m : Member) (a c x : ℕ) (e : Event)
    → Adds m (cut_step r i (signed w) m a c x e).member
cut_adds r w i m a c x e = by_end ((length notes == 0) || nat_lt 4 a)
  where
    done : Stepped
    done = step r i (signed w) m e

    notes : List Note
    notes = step_notes r i (taken r (signed w) (state_of m) e) e

    whole : Stepped
    whole =
        record {
          member = stopped done.member done.member.frames;
          sent = done.sent;
          handed = done.handed;
          tickets = done.tickets;
        }

    part : Bool → Stepped
    part b =
        record {
          member = stopped m (cond b done.member.frames m.frames);
          sent = [];
          handed = [];
          tickets = [];
        }

    by_stay : (b : Bool) → Adds m (part b).member
    by_stay true = (notes, frames_join m.frames notes)
    by_stay false = none_added m (part false).member refl

    by_end : (b : Bool)
        → Adds m (cond b whole (part (nat_lt 2 a && (nat_lt 0 c || (x == 1))))).member
    by_end true = (notes, frames_join m.frames notes)
    by_end false = by_stay (nat_lt 2 a && (nat_lt 0 c || (x == 1)))

turn_adds : (r : Rules) (w : World) (i : ℕ) (line : Line) (m : Member) (done : Stepped)
    → turned r w i line m ≡ Some done → Adds m done.member
turn_adds r w i (rule.Do j ask) m done h = by_live m.live h
  where
    by_event : (o : Option Event) → option_map (step r i (signed w) m) o ≡ Some done
        → Adds m done.member
    by_event None h = absurd (let no : None ≡ Some done = h in cc)
    by_event (Some e) h =
        let same : step r i (signed w) m e ≡ done =
        (let s : Some (step r i (signed w) m e) ≡ Some done = h in cc) in
        subst (λ (d : Stepped). Adds m d.member) same (step_adds r w i m e)

    by_live : (b : Bool)
        → cond b (option_map (step r i (signed w) m) (event_of w i ask)) None ≡ Some done
        → Adds m done.member
    by_live true h = by_event (event_of w i ask) h
    by_live false h = absurd (let no : None ≡ Some done = h in cc)
turn_adds r w i (rule.Cut a b x j ask) m done h = by_live m.live h
  where
    by_event : (o : Option Event) → option_map (cut_step r i (signed w) m a b x) o ≡ Some done
        → Adds m done.member
    by_event None h = absurd (let no : None ≡ Some done = h in cc)
    by_event (Some e) h =
        let same : cut_step r i (signed w) m a b x e ≡ done =
        (let s : Some (cut_step r i (signed w) m a b x e) ≡ Some done = h in cc) in
        subst (λ (d : Stepped). Adds m d.member) same (cut_adds r w i m a b x e)

    by_live : (l : Bool)
        → cond l (option_map (cut_step r i (signed w) m a b x) (event_of w i ask)) None ≡ Some done
        → Adds m done.member
    by_live true h = by_event (event_of w i ask) h
    by_live false h = absurd (let no : None ≡ Some done = h in cc)
turn_adds r w i (rule.Restart j) m done h = by_live m.live h
  where
    by_live : (b : Bool) → cond b None (Some (start r i m.frames)) ≡ Some done → Adds m done.member
    by_live true h = absurd (let no : None ≡ Some done = h in cc)
    by_live false h =
        let same : start r i m.frames ≡ done =
        (let s : Some (start r i m.frames) ≡ Some done = h in cc) in
        subst (λ (d : Stepped). Adds m d.member) same
        (none_added m (start r i m.frames).member refl)
turn_adds r w i (rule.Faulty j fault) m done h = absurd (let no : None ≡ Some done = h in cc)

-- ---- one place changes

take_set : (os : List (Option Member)) (i : ℕ) (o : Option Member)
    → take i (slice_set os i o) ≡ take i os
take_set [] i o = refl
take_set (x ∷ os) zero o = refl
take_set (x ∷ os) (suc i) o = ap (λ (l : List (Option Member)). x ∷ l) (take_set os i o)

drop_set : (os : List (Option Member)) (i : ℕ) (o : Option Member)
    → drop (i + 1) (slice_set os i o) ≡ drop (i + 1) os
drop_set [] i o = refl
drop_set (x ∷ os) zero o = refl
drop_set (x ∷ os) (suc i) o =
    let n : suc i + 1 ≡ suc (i + 1) = omega arith in rw n (drop_set os i o)

set_got : (os : List (Option Member)) (i : ℕ) (p o : Option Member) → slice_get os i ≡ Some p
    → slice_get (slice_set os i o) i ≡ Some o
set_got [] i p o e = absurd (let no : None ≡ Some p = e in cc)
set_got (x ∷ os) zero p o e = refl
set_got (x ∷ os) (suc i) p o e = set_got os i p o e

own_at : (os : List (Option Member)) (i : ℕ) (o : Option Member) → slice_get os i ≡ Some o
    → flat_map notes_of_place (take 1 (drop i os)) ≡ notes_of_place o
own_at [] i o e = absurd (let no : None ≡ Some o = e in cc)
own_at (x ∷ os) zero o e =
    let same : x ≡ o = (let s : Some x ≡ Some o = e in cc) in
    append-nil (notes_of_place x) ∙ ap notes_of_place same
own_at (x ∷ os) (suc i) o e = own_at os i o e

front : (xs more : List Note) (n : ℕ) → n ≡ length xs → take n (xs ++ more) ≡ xs
front [] more n e = rw e refl
front (x ∷ xs) more n e = rw e (ap (λ (l : List Note). x ∷ l) (front xs more (length xs) refl))

same_grown : (w v : World) (i old : ℕ) (o : Option Member) → v.members ≡ w.members
    → slice_get w.members i ≡ Some o → old ≡ length (notes_of_place o) → HasGrown w v i old
same_grown w v i old o same at count =
    let own = own_at w.members i o at in
    let after : flat_map notes_of_place (take 1 (drop i v.members)) ≡ notes_of_place o =
    ap (λ (l : List (Option Member)). flat_map notes_of_place (take 1 (drop i l))) same ∙ own in
    record {
      low = ap (λ (l : List (Option Member)). take i l) same;
      high = ap (λ (l : List (Option Member)). drop (i + 1) l) same;
      own =
          own ∙ sym (front (notes_of_place o) [] old count)
          ∙ ap (λ (l : List Note). take old l) (append-nil (notes_of_place o) ∙ sym after);
    }

done_grown : (w v : World) (i old : ℕ) (m x : Member) → v.members ≡ slice_set w.members i (Some x)
    → slice_get w.members i ≡ Some (Some m) → Adds m x → old ≡ length (member_notes m)
    → HasGrown w v i old
done_grown w v i old m x set at adds count =
    let own = own_at w.members i (Some m) at in
    let got = set_got w.members i (Some m) (Some x) at in
    let after : flat_map notes_of_place (take 1 (drop i v.members)) ≡ member_notes m ++ adds.0 =
    ap (λ (l : List (Option Member)). flat_map notes_of_place (take 1 (drop i l))) set
    ∙ own_at (slice_set w.members i (Some x)) i (Some x) got ∙ adds.1 in
    record {
      low = ap (λ (l : List (Option Member)). take i l) set ∙ take_set w.members i (Some x);
      high = ap (λ (l : List (Option Member)). drop (i + 1) l) set ∙ drop_set w.members i (Some x);
      own =
          own ∙ sym (front (member_notes m) adds.0 old count)
          ∙ ap (λ (l : List Note). take old l) (sym after);
    }

-- what a member's line makes of the world
turn_grown : (r : Rules) (w : World) (line : Line) (old : ℕ) (o : Option Member)
    → slice_get w.members (line_member line) ≡ Some o → old ≡ length (notes_of_place o)
    → HasGrown w (option_map_or (with_done w (line_member line)) (done_by r w line) w)
    (line_member line) old
turn_grown r w line old None at count =
    rw at (same_grown w w (line_member line) old None refl at count)
turn_grown r w line old (Some m) at count = rw at (of (turned r w (line_member line) line m) refl)
  where
    of : (d : Option Stepped) → turned r w (line_member line) line m ≡ d
        → HasGrown w (option_map_or (with_done w (line_member line)) d w) (line_member line) old
    of None e = same_grown w w (line_member line) old (Some m) refl at count
    of (Some done) e =
        done_grown w (with_done w (line_member line) done) (line_member line) old m done.member refl
        at (turn_adds r w (line_member line) line m done e) count

line_grown : (r : Rules) (w : World) (line : Line) (old : ℕ) (o : Option Member)
    → slice_get w.members (line_member line) ≡ Some o → old ≡ length (notes_of_place o)
    → HasGrown w (happens r w line) (line_member line) old
line_grown r w (rule.Do i ask) old o at count = turn_grown r w (rule.Do i ask) old o at count
line_grown r w (rule.Cut a c x i ask) old o at count =
    turn_grown r w (rule.Cut a c x i ask) old o at count
line_grown r w (rule.Restart i) old o at count = turn_grown r w (rule.Restart i) old o at count
line_grown r w (rule.Faulty i fault) old o at count =
    same_grown w (happens r w (rule.Faulty i fault)) i old o refl at count

-- who sits in a place, and the member that it is
record IsSeated (ps : List (Place MemoryNode)) (os : List (Option Member)) (i : ℕ) : Type 0 where
  place : Place MemoryNode
  member : Option Member
  live_node : slice_get ps i ≡ Some place
  there : slice_get os i ≡ Some member
  is : SitsAs place member

seated : (ps : List (Place MemoryNode)) (os : List (Option Member)) (i : ℕ) → SitAs ps os
    → i < length ps
    → IsSeated ps os i
seated [] os i h lt = absurd (omega arith)
seated (p ∷ ps) [] i h lt = absurd h
seated (p ∷ ps) (o ∷ os) zero h lt =
    record { place = p; member = o; live_node = refl; there = refl; is = h.0 }
seated (p ∷ ps) (o ∷ os) (suc i) h lt =
    let more = seated ps os i h.1 (omega arith) in
    record {
      place = more.place;
      member = more.member;
      live_node = more.live_node;
      there = more.there;
      is = more.is;
    }

-- a line adds notes to its member's alone
pub grown : (r : Rules) (w : World) (line : Line) (ps : List (Place MemoryNode)) (i old : ℕ)
    → SitAs ps w.members → i < length ps → i ≡ line_member line
    → ((p : Place MemoryNode) → slice_get ps i ≡ Some p → old ≡ length (notes_at p))
    → HasGrown w (happens r w line) i old
grown r w line ps i old members lt named count =
    let at = seated ps w.members i members lt in
    let there : slice_get w.members (line_member line) ≡ Some at.member =
    ap (λ (k : ℕ). slice_get w.members k) (sym named) ∙ at.there in
    subst (λ (k : ℕ). HasGrown w (happens r w line) k old) (sym named)
    (line_grown r w line old at.member there
    (count at.place at.live_node
    ∙ ap (λ (l : List Note). length l) (seated_notes at.place at.member at.is)))

-- ---- noted blocks are under their digests
