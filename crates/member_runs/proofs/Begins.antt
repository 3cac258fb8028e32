-- A member that starts again, and the opening of a script.
use Rattle.std.proofs.Common.{◌≡◌, ℕ, zero, suc, ◌+◌, ◌<◌, ◌≤◌, Bool, true, false, ◌&&◌, ◌||◌, ◌==◌, nat_lt, if◌then◌else◌, List, [], ◌∷◌, ◌++◌, Option, Some, None, length, map, count_by, option_map, slice_get, refl, sym, ◌∙◌, ap, subst, arith, ⊎_elim, eqb-true}
use Rattle.std.specs.List.{AllByRecursion, list_any, range_with_len}
use Rattle.std.specs.Option.{option_map_or}
use Rattle.cw_types.specs.declared.event.Event.{Event}
use Rattle.cw_types.specs.declared.note.Note.{Note}
use Rattle.cw_types.specs.Epochs.{members_in, size}
use Rattle.cw_rules.specs.Reached.{IsCluster}
use Rattle.cw_rules.specs.Rules.{Rules}
use Rattle.cw_rules.specs.Step.{Member, Stepped, add_frame, cut_step, start, state_of, step, step_notes, stopped, taken}
use Rattle.cw_rules.specs.World.{Cut, Faulty, Line, Restart, Silent, World, done_by, event_of, faults, happens, opening, run, signed, with_done}
use Rattle.cw_rules.specs.World as world
use Rattle.member_runs.specs.Hosts.{silence}
use Rattle.member_runs.proofs.Going.{Goes, IsQuiet, done_at, goes_by, goes_less, goes_on}
use Rattle.cw_rules.proofs.Lists.{count-cons, counts_as}
use Rattle.std.proofs.lemmas.Bool.{cases_Bool}
use Rattle.std.proofs.lemmas.List.Folds.{list_any-append}
use Rattle.cw_types.specs.Numbers.{max_faults}

-- ---- a stop at the first call, and a start

-- what such a stop leaves, where the step has no notes or where it has
abbrev cut_with : Bool → Member → Stepped → Stepped
cut_with b m done =
    if b || nat_lt 4 1
    then record {
      member = stopped done.member done.member.frames;
      sent = done.sent;
      handed = done.handed;
      tickets = done.tickets;
    }
    else record {
      member =
          stopped m
          (if nat_lt 2 1 && (nat_lt 0 0 || (0 == 1)) then done.member.frames else m.frames);
      sent = [];
      handed = [];
      tickets = [];
    }

cut_keeps : (m : Member) (done : Stepped) (notes : List Note)
    → done.member.frames ≡ add_frame m.frames notes → (b : Bool) → (length notes == 0) ≡ b
    → ((cut_with b m done).member.frames ≡ m.frames) × ((cut_with b m done).member.live ≡ false)
cut_keeps m done [] is true empty = (is, refl)
cut_keeps m done (n ∷ ns) is true empty =
    absurd
    (let no : length (n ∷ ns) ≡ 0 = eqb-true (length (n ∷ ns)) 0 empty in omega (arith, no))
cut_keeps m done notes is false empty = (refl, refl)

module _ (r : Rules) (i : ℕ) (m : Member) where
  abbrev cut_here : World → Stepped
  cut_here w = cut_step r i (signed w) m 1 0 0 (Event.Timeout 0)

  cut_is : (w : World)
      → ((cut_here w).member.frames ≡ m.frames) × ((cut_here w).member.live ≡ false)
  cut_is w =
      let e : Event = Event.Timeout 0 in
      let notes = step_notes r i (taken r (signed w) (state_of m) e) e in
      cut_keeps m (step r i (signed w) m e) notes refl (length notes == 0) refl

  -- the member stops, and starts on what it has
  pub goes_again : (w : World) → slice_get w.members i ≡ Some (Some m) → m.live ≡ true
      → Goes r w (Cut 1 0 0 i (world.Timeout 0) ∷ Restart i ∷ []) i
      (start r i m.frames).member (start r i m.frames).sent (start r i m.frames).handed
  goes_again w at live =
      let d : Stepped = cut_here w in
      let s : Stepped = start r i m.frames in
      let cut : Line = Cut 1 0 0 i (world.Timeout 0) in
      let v : World = happens r w cut in
      let went : done_by r w cut ≡ Some d =
      done_at r w cut m at
      ∙ ap
      (λ (b : Bool). if b
      then option_map (cut_step r i (signed w) m 1 0 0) (event_of w i (world.Timeout 0)) else None)
      live in
      let first : Goes r w (cut ∷ []) i d.member d.sent d.handed =
      goes_by r w cut i m d tt at went
      (ap (λ (o : Option Stepped). option_map_or (with_done w i) o w) went) in
      let again : done_by r v (Restart i) ≡ Some s =
      done_at r v (Restart i) d.member first.at
      ∙ ap (λ (b : Bool). if b then None else Some (start r i d.member.frames)) (cut_is w).1
      ∙ ap (λ (fs : List (List Note)). Some (start r i fs)) (cut_is w).0 in
      let second : Goes r v (Restart i ∷ []) i s.member s.sent s.handed =
      goes_by r v (Restart i) i d.member s tt first.at again
      (ap (λ (o : Option Stepped). option_map_or (with_done v i) o v) again) in
      goes_less r w (cut ∷ Restart i ∷ []) i s.member d.sent s.sent d.handed s.handed
      (goes_on r w (cut ∷ []) (Restart i ∷ []) i d.member s.member d.sent s.sent d.handed s.handed
      first second)

-- ---- the opening

others : (i a : ℕ) → (i ≡ a → ⊥) → (i == a) ≡ false
others i a apart =
    ⊎_elim (λ same. absurd (apart (eqb-true i a same))) (λ is. is) (cases_Bool (i == a))

none_faults : (i outsider : ℕ) (lines : List Line) → i < outsider
    → AllByRecursion (IsQuiet outsider) lines → list_any (faults i) lines ≡ false
none_faults i outsider [] below quiet = refl
none_faults i outsider (Faulty a fault ∷ lines) below quiet =
    ap (λ (b : Bool). b || list_any (faults i) lines)
    (others i a (λ e. omega (arith, e, quiet.0, below)))
    ∙ none_faults i outsider lines below quiet.1
none_faults i outsider (world.Do j ask ∷ lines) below quiet =
    none_faults i outsider lines below quiet.1
none_faults i outsider (Cut a c x j ask ∷ lines) below quiet =
    none_faults i outsider lines below quiet.1
none_faults i outsider (Restart j ∷ lines) below quiet =
    none_faults i outsider lines below quiet.1

or_none : (a b : Bool) → b ≡ false → (a || b) ≡ a
or_none true b none = refl
or_none false b none = none

pub same_faults : (i outsider : ℕ) (first lines : List Line) → i < outsider
    → AllByRecursion (IsQuiet outsider) lines
    → list_any (faults i) (first ++ lines) ≡ list_any (faults i) first
same_faults i outsider first lines below quiet =
    list_any-append (faults i) first lines
    ∙ or_none (list_any (faults i) first) (list_any (faults i) lines)
    (none_faults i outsider lines below quiet)

map_range : {X : Type 0} (f g : ℕ → X) (low len : ℕ) → ((i : ℕ) → i < low + len → f i ≡ g i)
    → map f (range_with_len low len) ≡ map g (range_with_len low len)
map_range f g low zero same = refl
map_range f g low (suc len) same =
    ap (λ x. x ∷ map f (range_with_len (low + 1) len)) (same low (omega arith))
    ∙ ap (λ l. g low ∷ l) (map_range f g (low + 1) len (λ i below. same i (omega arith)))

pub same_opening : (r : Rules) (first lines : List Line)
    → AllByRecursion (IsQuiet r.epochs.total) lines
    → opening r (first ++ lines) ≡ opening r first
same_opening r first lines quiet =
    ap (λ (l : List (Option Member)). record { members = l; pool = [] })
    (map_range
    (λ i. if list_any (faults i) (first ++ lines) then None else Some (start r i []).member)
    (λ i. if list_any (faults i) first then None else Some (start r i []).member)
    0 r.epochs.total
    (λ i below. ap (λ (b : Bool). if b then None else Some (start r i []).member)
    (same_faults i r.epochs.total first lines (omega (arith, below)) quiet)))

pub silent_run : (r : Rules) (script : List Line) (faulty : List ℕ)
    → run r (opening r script) (silence faulty) ≡ opening r script
silent_run r script [] = refl
silent_run r script (a ∷ faulty) = silent_run r script faulty

pub count_same : (p q : ℕ → Bool) (xs : List ℕ) → AllByRecursion (λ i. p i ≡ q i) xs
    → count_by p xs ≡ count_by q xs
count_same p q [] all = refl
count_same p q (x ∷ xs) all =
    count-cons p x xs ∙ ap (λ (b : Bool). counts_as b + count_by p xs) all.0
    ∙ ap (λ (n : ℕ). counts_as (q x) + n) (count_same p q xs all.1) ∙ sym (count-cons q x xs)

all_below : (outsider : ℕ) (first lines : List Line) → AllByRecursion (IsQuiet outsider) lines
    → (xs : List ℕ) → AllByRecursion (λ i. i < outsider) xs
    → AllByRecursion (λ i. list_any (faults i) (first ++ lines) ≡ list_any (faults i) first) xs
all_below outsider first lines quiet [] all = tt
all_below outsider first lines quiet (x ∷ xs) all = (
  same_faults x outsider first lines all.0 quiet,
  all_below outsider first lines quiet xs all.1,
)

-- quiet lines leave a cluster one
pub still_cluster : (r : Rules) (first lines : List Line)
    → AllByRecursion (IsQuiet r.epochs.total) lines → IsCluster r first
    → IsCluster r (first ++ lines)
still_cluster r first lines quiet is = record {
  enough = is.enough;
  rising = is.rising;
  there = is.there;
  few =
      λ epoch. subst (λ (n : ℕ). n ≤ max_faults (size r.epochs epoch))
      (sym
      (count_same (λ i. list_any (faults i) (first ++ lines)) (λ i. list_any (faults i) first)
      (members_in r.epochs epoch)
      (all_below r.epochs.total first lines quiet (members_in r.epochs epoch) (is.there epoch))))
      (is.few epoch);
  spans = is.spans;
}
