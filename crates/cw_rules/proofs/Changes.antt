-- What a line changes: its own member, whose notes only grow.
use Rattle.std.proofs.Common.{◌≡◌, ℕ, zero, suc, Bool, List, [], ◌∷◌, ◌++◌, map, Option, Some, None, slice_get, slice_set, is_none, refl, sym, ap, subst, ◌∙◌, inl, inr, ◌⊎◌, append-nil}
use Rattle.std.specs.List.{AllByRecursion}
use Rattle.std.specs.Option.{option_map_or}
use Rattle.std.proofs.lemmas.Bool.{cases_eq}
use Rattle.std.proofs.lemmas.Option.{same_Some}
use Rattle.cw_types.specs.declared.note.Note.{Note}
use Rattle.cw_rules.specs.Chains.{all_notes}
use Rattle.cw_rules.specs.Keeps.{Keeps, Meaning, meaning}
use Rattle.cw_rules.specs.Reached.{AllNamed, IsCluster, IsMemberKept, IsNamed, OnlyGrows, Reaches, members_of}
use Rattle.cw_rules.specs.Rules.{Rules}
use Rattle.cw_rules.specs.Stands.{EachAfter}
use Rattle.cw_rules.specs.Step.{Member, Stepped, member_notes}
use Rattle.cw_rules.specs.World.{Cut, Do, Faulty, Line, Restart, World, done_by, happens, line_member, member_at, turned, with_done}
use Rattle.cw_rules.proofs.Lists.{and_then_some}
use Rattle.cw_rules.proofs.Runs.{turn}
use Rattle.cw_rules.proofs.Worlds.{get-set_same, member_there}
use Rattle.cw_rules.proofs.Reach.{reached_kept}

-- ---- the members' notes

get-set_other : {X : Type 0} (xs : List X) (i j : ℕ) (x : X) → (j ≡ i → ⊥)
    → slice_get (slice_set xs i x) j ≡ slice_get xs j
get-set_other [] i j x n = refl
get-set_other (y ∷ ys) zero zero x n = absurd (n refl)
get-set_other (y ∷ ys) zero (suc j) x n = refl
get-set_other (y ∷ ys) (suc i) zero x n = refl
get-set_other (y ∷ ys) (suc i) (suc j) x n = get-set_other ys i j x (λ e. n (ap suc e))

-- what stands in that world for the member i, of which it has the notes and maybe more, and all
-- where i isn't k
abbrev Grown : World → ℕ → ℕ → Member → Type 0
Grown v k i m =
    (x : Member) × (more : List Note) × (slice_get v.members i ≡ Some (Some x))
    × (member_notes x ≡ member_notes m ++ more) × ((i ≡ k → ⊥) → x ≡ m)

unchanged : (v : World) (k i : ℕ) (m : Member) → slice_get v.members i ≡ Some (Some m)
    → Grown v k i m
unchanged v k i m at = (m, [], at, sym (append-nil (member_notes m)), λ n. refl)

turn_grown : (r : Rules) (w : World) (line : Line) (i : ℕ) (m : Member)
    → slice_get w.members i ≡ Some (Some m) → (o : Option Stepped) → done_by r w line ≡ o
    → Grown (option_map_or (with_done w (line_member line)) o w) (line_member line) i m
turn_grown r w line i m at None e = unchanged w (line_member line) i m at
turn_grown r w line i m at (Some done) e = go (cases_eq i k)
  where
    k : ℕ
    k = line_member line

    go : (i ≡ k) ⊎ (i ≡ k → ⊥) → Grown (with_done w k done) k i m
    go (inr n) =
        unchanged (with_done w k done) k i m (get-set_other w.members k i (Some done.member) n ∙ at)
    go (inl same) =
        let (n, f, g) = and_then_some (turned r w k line) (member_at w k) done e in
        let there : slice_get w.members k ≡ Some (Some n) = member_there w k n f in
        let t = turn r w k line n done g in
        let one : n ≡ m =
        same_Some n m
        (same_Some (Some n) (Some m)
        (sym there ∙ ap (slice_get w.members) (sym same) ∙ at)) in (
          done.member,
          t.more,
          ap (slice_get (with_done w k done).members) same
              ∙ get-set_same w.members k (Some done.member) (Some n) there,
          subst (λ (x : Member). member_notes done.member ≡ member_notes x ++ t.more) one
              t.joined,
          λ n. absurd (n same),
        )

line_grown : (r : Rules) (w : World) (line : Line) (i : ℕ) (m : Member)
    → slice_get w.members i ≡ Some (Some m) → Grown (happens r w line) (line_member line) i m
line_grown r w (Do j ask) i m at = turn_grown r w (Do j ask) i m at (done_by r w (Do j ask)) refl
line_grown r w (Cut a c x j ask) i m at =
    turn_grown r w (Cut a c x j ask) i m at (done_by r w (Cut a c x j ask)) refl
line_grown r w (Restart j) i m at = turn_grown r w (Restart j) i m at (done_by r w (Restart j)) refl
line_grown r w (Faulty j fault) i m at = unchanged (happens r w (Faulty j fault)) j i m at

-- a line leaves each honest member its notes, and changes no other than its own
pub only_grows : (r : Rules) (w : World) (line : Line) (i : ℕ) (m : Member)
    → slice_get w.members i ≡ Some (Some m) → OnlyGrows r w line i m
only_grows r w line i m at =
    let (x, more, there, notes, same) = line_grown r w line i m at in
    record { after = x; there = there; more = more; notes = notes; same = same }

-- ---- who is faulty

pub set_flags : (os : List (Option Member)) (i : ℕ) (x y : Member) → slice_get os i ≡ Some (Some x)
    → map is_none (slice_set os i (Some y)) ≡ map is_none os
set_flags [] i x y e = refl
set_flags (o ∷ os) zero x y e =
    let same : o ≡ Some x = same_Some o (Some x) e in
    ap (λ (z : Option Member). is_none z ∷ map is_none os) (sym same)
set_flags (o ∷ os) (suc i) x y e = ap (λ (l : List Bool). is_none o ∷ l) (set_flags os i x y e)

done_flags : (r : Rules) (w : World) (line : Line) (o : Option Stepped) → done_by r w line ≡ o
    → map is_none (option_map_or (with_done w (line_member line)) o w).members
    ≡ map is_none w.members
done_flags r w line None e = refl
done_flags r w line (Some done) e =
    let (n, f, g) =
    and_then_some (turned r w (line_member line) line) (member_at w (line_member line)) done
    e in
    set_flags w.members (line_member line) n done.member (member_there w (line_member line) n f)

-- who is faulty stays so, and who is honest
pub flags_kept : (r : Rules) (w : World) (line : Line)
    → map is_none (happens r w line).members ≡ map is_none w.members
flags_kept r w (Do i ask) = done_flags r w (Do i ask) (done_by r w (Do i ask)) refl
flags_kept r w (Cut a c x i ask) =
    done_flags r w (Cut a c x i ask) (done_by r w (Cut a c x i ask)) refl
flags_kept r w (Restart i) = done_flags r w (Restart i) (done_by r w (Restart i)) refl
flags_kept r w (Faulty i fault) = refl

-- ---- blocks are noted under their digests

note_named : (r : Rules) (m : Meaning) (before : List Note) (n : Note) → Keeps r m before n
    → IsNamed r n
note_named r m before (Note.Block c b) k = ap (λ c. c.block) k
note_named r m before (Note.Verified e v c) k = tt
note_named r m before (Note.Certified p) k = tt
note_named r m before (Note.Vote v) k = tt
note_named r m before (Note.Cert c) k = tt
note_named r m before (Note.Ack h) k = tt
note_named r m before (Note.Floor h) k = tt
note_named r m before (Note.Prune h) k = tt
note_named r m before (Note.Epoch e c) k = tt

pub notes_named : (r : Rules) (m : Meaning) (before notes : List Note)
    → EachAfter (Keeps r m) before notes → AllByRecursion (IsNamed r) notes
notes_named r m before [] h = tt
notes_named r m before (n ∷ ns) h =
    (note_named r m before n h.0, notes_named r m (before ++ n ∷ []) ns h.1)

all_joined : (r : Rules) (xs ys : List Note) → AllByRecursion (IsNamed r) xs
    → AllByRecursion (IsNamed r) ys → AllByRecursion (IsNamed r) (xs ++ ys)
all_joined r [] ys a b = b
all_joined r (x ∷ xs) ys a b = (a.0, all_joined r xs ys a.1 b)

members_named : (r : Rules) (w : World) (os : List (Option Member))
    → ((i : ℕ) (m : Member) → slice_get os i ≡ Some (Some m)
    → AllByRecursion (IsNamed r) (member_notes m))
    → AllByRecursion (IsNamed r) (all_notes (record { members = os; pool = w.pool }))
members_named r w [] h = tt
members_named r w (None ∷ os) h = members_named r w os (λ i m e. h (suc i) m e)
members_named r w (Some x ∷ os) h =
    all_joined r (member_notes x) (all_notes (record { members = os; pool = w.pool })) (h 0 x refl)
    (members_named r w os (λ i m e. h (suc i) m e))

pub kept_named : (r : Rules) (w : World)
    → ((i : ℕ) (m : Member) → slice_get w.members i ≡ Some (Some m) → IsMemberKept r w i m)
    → AllNamed r w
kept_named r w h =
    members_named r w w.members
    (λ i m e. notes_named r (meaning r.epochs (members_of w)) [] (member_notes m)
    (h i m e).notes)

pub reached_named : (r : Rules) (script : List Line) (w : World) → IsCluster r script
    → Reaches r script w → AllNamed r w
reached_named r script w c reach = kept_named r w (reached_kept r script w c reach).each
