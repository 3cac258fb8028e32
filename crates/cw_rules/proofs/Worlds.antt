-- What is kept of a world: a turn whose notes keep leaves it kept, and a kept world is lawful.
use Rattle.std.proofs.Common.{◌≡◌, ℕ, zero, suc, ◌+◌, ◌<◌, ◌≤◌, Bool, true, false, ◌&&◌, ◌==◌, nat_le, List, [], ◌∷◌, ◌++◌, Option, Some, None, is_none, length, map, option_map, option_and_then, count_by, flat_map, slice_get, slice_set, refl, sym, ◌∙◌, ap, subst, inl, inr, ◌⊎◌, arith, append_assoc, append-nil, eqb-true}
use Rattle.std.specs.List.{list_any, list_all, AllByRecursion, range_with_len}
use Rattle.std.specs.Option.{option_map_or}
use Rattle.std.proofs.lemmas.Bool.{and_from, and_parts, or_cases, or_left, or_right, false≢true}
use Rattle.cw_types.specs.declared.event.Out.{Out}
use Rattle.cw_types.specs.declared.note.Note.{Note}
use Rattle.cw_types.specs.declared.vote.Vote.{Vote}
use Rattle.cw_types.specs.Epochs.{is_member, members_in, rises_from, size}
use Rattle.cw_types.specs.Numbers.{max_faults, quorum}
use Rattle.cw_types.specs.Votes.{vote_epoch, well_formed}
use Rattle.cw_rules.specs.Accepted.{Ballot, Many, Single, is_valid}
use Rattle.cw_rules.specs.Fits.{block_fits}
use Rattle.cw_rules.specs.Keeps.{AllKeep, IsSound, Keeps, KeepsBy, Meaning, meaning}
use Rattle.cw_rules.specs.Notes.{has_vote, is_vote}
use Rattle.cw_rules.specs.Reached.{IsCluster, IsMemberKept, IsSigned, members_of}
use Rattle.cw_rules.specs.Rules.{Rules}
use Rattle.cw_rules.specs.Stands.{AreKept, AreLawful, EachAfter, Members, backs_at, is_faulty_at}
use Rattle.cw_rules.specs.Step.{Member, Stepped, add_frame, member_notes}
use Rattle.cw_rules.specs.World.{Line, Sent, World, faults, is_faulty, is_sent_vote, member_at, sent_from, sent_now, signed, with_done, with_sends}
use Rattle.std.proofs.lemmas.Option.{same_Some}
use Rattle.std.proofs.lemmas.List.Folds.{list_any-append}
use Rattle.cw_types.proofs.EpochLemmas.{get-within}
use Rattle.cw_rules.proofs.Lists.{is_in}
use Rattle.cw_rules.proofs.NoteLemmas.{any_front}
use Rattle.cw_rules.proofs.StepKeeps.{each_append}
use Rattle.cw_rules.proofs.KeptNotes.{kept_from_keeps}
use Rattle.cw_rules.proofs.Grows.{Grows, count_more, Grows_length, Grows_faulty, Grows_keeps, Grows_sound, Grows_set, holds_stands}
use Rattle.cw_rules.proofs.Sends.{any_cases, votes, any_sent}

-- ---- lists by place

map-set : {X Y : Type 0} (f : X → Y) (xs : List X) (i : ℕ) (x : X)
    → map f (slice_set xs i x) ≡ slice_set (map f xs) i (f x)
map-set f [] i x = refl
map-set f (y ∷ ys) zero x = refl
map-set f (y ∷ ys) (suc i) x = ap (λ zs. f y ∷ zs) (map-set f ys i x)

-- what stands at a place after a write: what was written, or what stood there
pub get-set : {X : Type 0} (xs : List X) (i j : ℕ) (x y : X)
    → slice_get (slice_set xs i x) j ≡ Some y
    → ((i ≡ j) × (x ≡ y)) ⊎ ((i ≡ j → ⊥) × (slice_get xs j ≡ Some y))
get-set [] i j x y h = cc
get-set (z ∷ zs) zero zero x y h = inl (refl, cc)
get-set (z ∷ zs) zero (suc j) x y h = inr ((λ e. omega arith), h)
get-set (z ∷ zs) (suc i) zero x y h = inr ((λ e. omega arith), h)
get-set (z ∷ zs) (suc i) (suc j) x y h = go (get-set zs i j x y h)
  where
    go : ((i ≡ j) × (x ≡ y)) ⊎ ((i ≡ j → ⊥) × (slice_get zs j ≡ Some y))
        → ((suc i ≡ suc j) × (x ≡ y)) ⊎ ((suc i ≡ suc j → ⊥) × (slice_get zs j ≡ Some y))
    go (inl p) = inl (ap suc p.0, p.1)
    go (inr p) = inr ((λ e. p.0 (omega arith)), p.1)

pub get-set_same : {X : Type 0} (xs : List X) (i : ℕ) (x y : X) → slice_get xs i ≡ Some y
    → slice_get (slice_set xs i x) i ≡ Some x
get-set_same [] i x y h = cc
get-set_same (z ∷ zs) zero x y h = refl
get-set_same (z ∷ zs) (suc i) x y h = get-set_same zs i x y h

pub get-map : {X Y : Type 0} (f : X → Y) (xs : List X) (i : ℕ) (x : X) → slice_get xs i ≡ Some x
    → slice_get (map f xs) i ≡ Some (f x)
get-map f [] i x h = cc
get-map f (y ∷ ys) zero x h = let e : y ≡ x = cc in ap (λ z. Some (f z)) e
get-map f (y ∷ ys) (suc i) x h = get-map f ys i x h

pub get-map_from : {X Y : Type 0} (f : X → Y) (xs : List X) (i : ℕ) (y : Y)
    → slice_get (map f xs) i ≡ Some y → (x : X) × (slice_get xs i ≡ Some x) × (f x ≡ y)
get-map_from f [] i y h = cc
get-map_from f (x ∷ xs) zero y h = (x, refl, cc)
get-map_from f (x ∷ xs) (suc i) y h = get-map_from f xs i y h

pub get-range : (low len i k : ℕ) → slice_get (range_with_len low len) i ≡ Some k → low + i ≡ k
get-range low zero i k h = cc
get-range low (suc len) zero k h = let e : low ≡ k = cc in omega arith
get-range low (suc len) (suc i) k h = omega (arith, get-range (low + 1) len i k h)

pub length-mapped : {X Y : Type 0} (f : X → Y) (xs : List X) → length (map f xs) ≡ length xs
length-mapped f [] = refl
length-mapped f (x ∷ xs) = ap suc (length-mapped f xs)

-- ---- the invariant

-- what is kept of a world
pub record IsWorldKept (r : Rules) (script : List Line) (w : World) : Type 0 where
  pub total : length (members_of w) ≡ r.epochs.total
  pub few : (epoch : ℕ)
      → count_by (is_faulty_at (members_of w)) (members_in r.epochs epoch)
      ≤ max_faults (size r.epochs epoch)
  pub named : (i : ℕ) → list_any (faults i) script ≡ true → (m : Member)
      → slice_get w.members i ≡ Some (Some m) → ⊥
  pub each : (i : ℕ) (m : Member) → slice_get w.members i ≡ Some (Some m) → IsMemberKept r w i m

-- messages from one member are from no other
pub sent_other : (n i j : ℕ) (v : Vote) (outs : List Out)
    → list_any (is_sent_vote j v) (sent_from n i outs) ≡ true → i ≡ j
sent_other n i j v [] h = absurd (false≢true h)
sent_other n i j v (o ∷ os) h =
    go (or_cases ((i == j) && votes j v o) (list_any (is_sent_vote j v) (sent_from (n + 1) i os)) h)
    (sent_other (n + 1) i j v os)
  where
    go : (((i == j) && votes j v o) ≡ true)
        ⊎ (list_any (is_sent_vote j v) (sent_from (n + 1) i os) ≡ true)
        → (list_any (is_sent_vote j v) (sent_from (n + 1) i os) ≡ true → i ≡ j) → i ≡ j
    go (inl e) later = eqb-true i j (and_parts (i == j) (votes j v o) e).0
    go (inr e) later = later e

-- the members of a world after one of them has more notes
pub members_done : (w : World) (i : ℕ) (done : Stepped)
    → members_of (with_done w i done) ≡ slice_set (members_of w) i (Some (member_notes done.member))
members_done w i done = map-set (option_map member_notes) w.members i (Some done.member)

pub grows_done : (w : World) (i : ℕ) (m : Member) (done : Stepped) (more : List Note)
    → slice_get w.members i ≡ Some (Some m) → member_notes done.member ≡ member_notes m ++ more
    → Grows (members_of w) (members_of (with_done w i done))
grows_done w i m done more at e =
    rw (members_done w i done, e)
    (Grows_set i (members_of w) (member_notes m) more
    (get-map (option_map member_notes) w.members i (Some m) at))

-- the members with these notes of one of them
abbrev pub at_notes : World → ℕ → List Note → Members
at_notes w i notes = slice_set (members_of w) i (Some notes)

-- what it means when the member has these notes
abbrev pub means_at : Rules → World → ℕ → List Note → Meaning
means_at r w i notes = meaning r.epochs (at_notes w i notes)

pub set-set : {X : Type 0} (xs : List X) (i : ℕ) (x y : X)
    → slice_set (slice_set xs i x) i y ≡ slice_set xs i y
set-set [] i x y = refl
set-set (z ∷ zs) zero x y = refl
set-set (z ∷ zs) (suc i) x y = ap (λ ys. z ∷ ys) (set-set zs i x y)

pub set-get : {X : Type 0} (xs : List X) (i : ℕ) (x : X) → slice_get xs i ≡ Some x
    → slice_set xs i x ≡ xs
set-get [] i x h = cc
set-get (z ∷ zs) zero x h = let e : z ≡ x = cc in ap (λ y. y ∷ zs) (sym e)
set-get (z ∷ zs) (suc i) x h = ap (λ ys. z ∷ ys) (set-get zs i x h)

-- they grow with the member's notes
pub grows_at : (w : World) (i : ℕ) (m : Member) → slice_get w.members i ≡ Some (Some m)
    → (notes more : List Note) → Grows (at_notes w i notes) (at_notes w i (notes ++ more))
grows_at w i m at notes more =
    subst (Grows (at_notes w i notes))
    (set-set (members_of w) i (Some notes) (Some (notes ++ more)))
    (Grows_set i (at_notes w i notes) notes more
    (get-set_same (members_of w) i (Some notes) (Some (member_notes m))
    (get-map (option_map member_notes) w.members i (Some m) at)))

-- the member's own notes are those that it has
pub at_own : (w : World) (i : ℕ) (m : Member) → slice_get w.members i ≡ Some (Some m)
    → at_notes w i (member_notes m) ≡ members_of w
at_own w i m at =
    set-get (members_of w) i (Some (member_notes m))
    (get-map (option_map member_notes) w.members i (Some m) at)

-- what a member writes in a turn, and what each note keeps when it is written
pub record Turns (r : Rules) (w : World) (i : ℕ) (m : Member) (done : Stepped) : Type 0 where
  pub more : List Note
  pub joined : member_notes done.member ≡ member_notes m ++ more
  pub keeps : EachAfter (KeepsBy r (means_at r w i)) (member_notes m) more

-- what keeps at each note keeps in the end
freeze : (r : Rules) (w : World) (i : ℕ) (m : Member) → slice_get w.members i ≡ Some (Some m)
    → (before more : List Note) → EachAfter (KeepsBy r (means_at r w i)) before more
    → EachAfter (Keeps r (means_at r w i (before ++ more))) before more
freeze r w i m at before [] e = tt
freeze r w i m at before (note ∷ more) e = (
  (Grows_keeps r (at_notes w i before) (at_notes w i (before ++ note ∷ more))
      (grows_at w i m at before (note ∷ more)) before (note ∷ []) (e.0, tt)).0,
  subst (λ ns. EachAfter (Keeps r (means_at r w i ns)) (before ++ note ∷ []) more)
      (append_assoc before (note ∷ []) more) (freeze r w i m at (before ++ note ∷ []) more e.1),
)

-- what was signed by some is signed where these and maybe more signed
pub signs_more : (r : Rules) (before after : ℕ → Vote → Bool)
    → ((i : ℕ) (v : Vote) → before i v ≡ true → after i v ≡ true) → (bs : List Ballot)
    → AllByRecursion (IsSigned r before) bs → AllByRecursion (IsSigned r after) bs
signs_more r before after more [] a = tt
signs_more r before after more (Single i v ∷ bs) a =
    (more i v a.0, signs_more r before after more bs a.1)
signs_more r before after more (Many s ∷ bs) a = (valid_more, signs_more r before after more bs a.1)
  where
    all : (xs : List ℕ)
        → list_all (λ i. is_member r.epochs (vote_epoch s.vote) i && before i s.vote) xs ≡ true
        → list_all (λ i. is_member r.epochs (vote_epoch s.vote) i && after i s.vote) xs ≡ true
    all [] h = refl
    all (x ∷ xs) h =
        let p =
        and_parts (is_member r.epochs (vote_epoch s.vote) x && before x s.vote)
        (list_all (λ i. is_member r.epochs (vote_epoch s.vote) i && before i s.vote) xs)
        h in
        let q = and_parts (is_member r.epochs (vote_epoch s.vote) x) (before x s.vote) p.0 in
        and_from (is_member r.epochs (vote_epoch s.vote) x && after x s.vote)
        (list_all (λ i. is_member r.epochs (vote_epoch s.vote) i && after i s.vote) xs)
        (and_from (is_member r.epochs (vote_epoch s.vote) x) (after x s.vote) q.0
        (more x s.vote q.1))
        (all xs p.1)

    valid_more : is_valid r after s ≡ true
    valid_more =
        let front = well_formed s.vote && rises_from 0 s.signers in
        let enough = nat_le (quorum (size r.epochs (vote_epoch s.vote))) (length s.signers) in
        let a1 =
        and_parts
        (front
        && list_all (λ i. is_member r.epochs (vote_epoch s.vote) i && before i s.vote)
        s.signers)
        enough a.0 in
        let a2 =
        and_parts front
        (list_all (λ i. is_member r.epochs (vote_epoch s.vote) i && before i s.vote)
        s.signers)
        a1.0 in
        and_from
        (front
        && list_all (λ i. is_member r.epochs (vote_epoch s.vote) i && after i s.vote)
        s.signers)
        enough
        (and_from front
        (list_all (λ i. is_member r.epochs (vote_epoch s.vote) i && after i s.vote) s.signers)
        a2.0 (all s.signers a2.1))
        a1.1

-- what was sent stays sent
sent_more : (i : ℕ) (v : Vote) (pool more : List Sent) → list_any (is_sent_vote i v) pool ≡ true
    → list_any (is_sent_vote i v) (pool ++ more) ≡ true
sent_more i v pool more h =
    list_any-append (is_sent_vote i v) pool more
    ∙ or_left (list_any (is_sent_vote i v) pool) (list_any (is_sent_vote i v) more) h

-- who is faulty stays so
faulty_set : (xs : List (Option Member)) (i j : ℕ) (m x : Member) → slice_get xs i ≡ Some (Some m)
    → option_map_or is_none (slice_get (slice_set xs i (Some x)) j) false
    ≡ option_map_or is_none (slice_get xs j) false
faulty_set [] i j m x h = refl
faulty_set (o ∷ xs) zero zero m x h =
    let e : o ≡ Some m = same_Some o (Some m) h in ap is_none (sym e)
faulty_set (o ∷ xs) zero (suc j) m x h = refl
faulty_set (o ∷ xs) (suc i) zero m x h = refl
faulty_set (o ∷ xs) (suc i) (suc j) m x h = faulty_set xs i j m x h

signed_done : (w : World) (i : ℕ) (m : Member) (done : Stepped)
    → slice_get w.members i ≡ Some (Some m) → (j : ℕ) (v : Vote) → signed w j v ≡ true
    → signed (with_done w i done) j v ≡ true
signed_done w i m done at j v h =
    go (or_cases (is_faulty w j) (list_any (is_sent_vote j v) w.pool) h)
  where
    go : (is_faulty w j ≡ true) ⊎ (list_any (is_sent_vote j v) w.pool ≡ true)
        → signed (with_done w i done) j v ≡ true
    go (inl f) =
        or_left (is_faulty (with_done w i done) j)
        (list_any (is_sent_vote j v) (with_done w i done).pool)
        (faulty_set w.members i j m done.member at ∙ f)
    go (inr s) =
        or_right (is_faulty (with_done w i done) j)
        (list_any (is_sent_vote j v) (with_done w i done).pool)
        (sent_more j v w.pool (sent_now w i done.sent) s)

pub signed_sends : (w : World) (a : ℕ) (outs : List Out) (j : ℕ) (v : Vote) → signed w j v ≡ true
    → signed (with_sends w a outs) j v ≡ true
signed_sends w a outs j v h = go (or_cases (is_faulty w j) (list_any (is_sent_vote j v) w.pool) h)
  where
    go : (is_faulty w j ≡ true) ⊎ (list_any (is_sent_vote j v) w.pool ≡ true)
        → signed (with_sends w a outs) j v ≡ true
    go (inl f) = or_left (is_faulty w j) (list_any (is_sent_vote j v) (with_sends w a outs).pool) f
    go (inr s) =
        or_right (is_faulty w j) (list_any (is_sent_vote j v) (with_sends w a outs).pool)
        (sent_more j v w.pool (sent_now w a outs) s)

-- a member's turn keeps the world, where its new notes keep to those before, what came is sound,
-- and each vote sent is noted
pub world_done : (r : Rules) (script : List Line) (w : World) (i : ℕ) (m : Member) (done : Stepped)
    (t : Turns r w i m done)
    → IsWorldKept r script w → slice_get w.members i ≡ Some (Some m)
    → AllByRecursion (IsSound (meaning r.epochs (members_of (with_done w i done))))
    done.member.came.ballots
    → AllByRecursion (IsSigned r (signed w)) done.member.came.ballots
    → ((v : Vote) → list_any (votes i v) done.sent ≡ true
    → has_vote (member_notes done.member) v ≡ true)
    → IsWorldKept r script (with_done w i done)
world_done r script w i m done t k at came signs sent = record {
  total = sym (Grows_length (members_of w) (members_of w') g) ∙ k.total;
  few =
      λ epoch.
      omega (
        arith,
        k.few epoch,
        count_more (is_faulty_at (members_of w')) (is_faulty_at (members_of w))
            (λ j. Grows_faulty j (members_of w) (members_of w') g)
            (members_in r.epochs epoch),
      );
  named = λ j f m' h. by_named j f m' (get-set w.members i j (Some done.member) (Some m') h);
  each = λ j m' h. by_place j m' (get-set w.members i j (Some done.member) (Some m') h);
}
  where
    w' : World
    w' = with_done w i done

    more : List Note
    more = t.more

    e : member_notes done.member ≡ member_notes m ++ more
    e = t.joined

    new : EachAfter (Keeps r (meaning r.epochs (members_of w'))) (member_notes m) more
    new =
        subst (λ M. EachAfter (Keeps r (meaning r.epochs M)) (member_notes m) more)
        (ap (at_notes w i) (sym e) ∙ sym (members_done w i done))
        (freeze r w i m at (member_notes m) more t.keeps)

    g : Grows (members_of w) (members_of w')
    g = grows_done w i m done more at e

    by_named : (j : ℕ) → list_any (faults j) script ≡ true → (m' : Member)
        → ((i ≡ j) × (Some done.member ≡ Some m'))
        ⊎ ((i ≡ j → ⊥) × (slice_get w.members j ≡ Some (Some m')))
        → ⊥
    by_named j f m' (inl p) =
        k.named i (subst (λ x. list_any (faults x) script ≡ true) (sym p.0) f) m at
    by_named j f m' (inr p) = k.named j f m' p.1

    kept : IsMemberKept r w i m
    kept = k.each i m at

    -- who signed a vote before signed it after
    signs_done : (bs : List Ballot) → AllByRecursion (IsSigned r (signed w)) bs
        → AllByRecursion (IsSigned r (signed w')) bs
    signs_done bs a = signs_more r (signed w) (signed w') (signed_done w i m done at) bs a

    own : IsMemberKept r w' i done.member
    own = record {
      notes =
          subst (EachAfter (Keeps r (meaning r.epochs (members_of w'))) []) (sym e)
          (each_append (Keeps r (meaning r.epochs (members_of w'))) [] (member_notes m) more
          (Grows_keeps r (members_of w) (members_of w') g [] (member_notes m) kept.notes)
          new);
      came = came;
      signers = signs_done done.member.came.ballots signs;
      sent = λ v h. by_sent v (any_cases (is_sent_vote i v) w.pool (sent_now w i done.sent) h);
    }
      where
        by_sent : (v : Vote)
            → (list_any (is_sent_vote i v) w.pool ≡ true)
            ⊎ (list_any (is_sent_vote i v) (sent_now w i done.sent) ≡ true)
            → has_vote (member_notes done.member) v ≡ true
        by_sent v (inl a) =
            subst (λ ns. has_vote ns v ≡ true) (sym e)
            (any_front (is_vote v) (member_notes m) more (kept.sent v a))
        by_sent v (inr a) = sent v (any_sent i v (length w.pool) i done.sent a)

    by_place : (j : ℕ) (m' : Member)
        → ((i ≡ j) × (Some done.member ≡ Some m'))
        ⊎ ((i ≡ j → ⊥) × (slice_get w.members j ≡ Some (Some m')))
        → IsMemberKept r w' j m'
    by_place j m' (inl p) =
        let s : done.member ≡ m' = cc in
        subst (λ x. IsMemberKept r w' x m') p.0 (subst (IsMemberKept r w' i) s own)
    by_place j m' (inr p) =
        let q = k.each j m' p.1 in
        record {
          notes = Grows_keeps r (members_of w) (members_of w') g [] (member_notes m') q.notes;
          came = Grows_sound r.epochs (members_of w) (members_of w') g m'.came.ballots q.came;
          signers = signs_done m'.came.ballots q.signers;
          sent =
              λ v h. by_sent q v (any_cases (is_sent_vote j v) w.pool (sent_now w i done.sent) h);
        }
      where
        by_sent : IsMemberKept r w j m' → (v : Vote)
            → (list_any (is_sent_vote j v) w.pool ≡ true)
            ⊎ (list_any (is_sent_vote j v) (sent_now w i done.sent) ≡ true)
            → has_vote (member_notes m') v ≡ true
        by_sent q v (inl a) = q.sent v a
        by_sent q v (inr a) = absurd (p.0 (sent_other (length w.pool) i j v done.sent a))

-- ---- a member

-- a member of an epoch is there
pub member_below : (r : Rules) (script : List Line) → IsCluster r script → (epoch i : ℕ)
    → is_member r.epochs epoch i ≡ true → i < r.epochs.total
member_below r script c epoch i h = among (members_in r.epochs epoch) (c.there epoch) h
  where
    among : (xs : List ℕ) → AllByRecursion (λ j. j < r.epochs.total) xs → is_in xs i ≡ true
        → i < r.epochs.total
    among [] a h = absurd (false≢true h)
    among (x ∷ xs) a h = go (or_cases (x == i) (is_in xs i) h) (among xs a.1)
      where
        go : ((x == i) ≡ true) ⊎ (is_in xs i ≡ true) → (is_in xs i ≡ true → i < r.epochs.total)
            → i < r.epochs.total
        go (inl e) later = omega (arith, eqb-true x i e, a.0)
        go (inr e) later = later e

-- in a kept world, who signed a vote backs it
pub signed_backs : (r : Rules) (script : List Line) (w : World) → IsCluster r script
    → IsWorldKept r script w → (i : ℕ) (v : Vote) → is_member r.epochs (vote_epoch v) i ≡ true
    → signed w i v ≡ true → backs_at (members_of w) v i ≡ true
signed_backs r script w c k i v is h =
    at
    (get-within w.members i
    (subst (λ n. i < n) (sym k.total ∙ length-mapped (option_map member_notes) w.members)
    (member_below r script c (vote_epoch v) i is)))
  where
    at : ((o : Option Member) × (slice_get w.members i ≡ Some o))
        → backs_at (members_of w) v i ≡ true
    at (None, e) = rw (get-map (option_map member_notes) w.members i None e) refl
    at (Some m, e) =
        rw (get-map (option_map member_notes) w.members i (Some m) e)
        (by_signed (or_cases (is_faulty w i) (list_any (is_sent_vote i v) w.pool) h))
      where
        by_signed : (is_faulty w i ≡ true) ⊎ (list_any (is_sent_vote i v) w.pool ≡ true)
            → has_vote (member_notes m) v ≡ true
        by_signed (inl f) =
            absurd (false≢true (sym (ap (λ o. option_map_or is_none o false) e) ∙ f))
        by_signed (inr s) = (k.each i m e).sent v s

-- the frames with one more
pub frames_join : (frames : List (List Note)) (notes : List Note)
    → flat_map (λ frame. frame) (add_frame frames notes) ≡ flat_map (λ frame. frame) frames ++ notes
frames_join frames [] = sym (append-nil (flat_map (λ frame. frame) frames))
frames_join frames (n ∷ ns) = joined frames
  where
    joined : (fs : List (List Note))
        → flat_map (λ frame. frame) (fs ++ (n ∷ ns) ∷ []) ≡ flat_map (λ frame. frame) fs ++ n ∷ ns
    joined [] = append-nil (n ∷ ns)
    joined (f ∷ fs) =
        ap (λ xs. f ++ xs) (joined fs)
        ∙ sym (append_assoc f (flat_map (λ frame. frame) fs) (n ∷ ns))

-- the honest member that is there
pub member_there : (w : World) (i : ℕ) (m : Member) → member_at w i ≡ Some m
    → slice_get w.members i ≡ Some (Some m)
member_there w i m h = by_place (slice_get w.members i) refl h
  where
    by_place : (o : Option (Option Member)) → slice_get w.members i ≡ o
        → option_and_then (λ x. x) o ≡ Some m → slice_get w.members i ≡ Some (Some m)
    by_place None e h = cc
    by_place (Some p) e h = e ∙ ap Some h

-- ---- the law

-- in a kept world each honest member's notes keep
pub kept_keep : (r : Rules) (script : List Line) (w : World) → IsWorldKept r script w
    → AllKeep r (members_of w)
kept_keep r script w k i notes h =
    by_member (get-map_from (option_map member_notes) w.members i (Some notes) h)
  where
    by_member : ((o : Option Member) × (slice_get w.members i ≡ Some o)
        × (option_map member_notes o ≡ Some notes))
        → EachAfter (Keeps r (meaning r.epochs (members_of w))) [] notes
    by_member (None, at, e) = cc
    by_member (Some m, at, e) =
        let s : member_notes m ≡ notes = cc in
        subst (EachAfter (Keeps r (meaning r.epochs (members_of w))) []) s (k.each i m at).notes

-- a kept world is lawful
pub kept_lawful : (r : Rules) (script : List Line) (w : World) → IsCluster r script
    → IsWorldKept r script w → AreLawful r.epochs (block_fits r) (members_of w)
kept_lawful r script w c k = record {
  faults = record { enough = c.enough; few = k.few };
  honest =
      λ i notes h. by_member i notes
      (get-map_from (option_map member_notes) w.members i (Some notes) h);
}
  where
    by_member : (i : ℕ) (notes : List Note)
        → ((o : Option Member) × (slice_get w.members i ≡ Some o)
        × (option_map member_notes o ≡ Some notes))
        → AreKept r.epochs (block_fits r) (members_of w) notes
    by_member i notes (None, at, e) = cc
    by_member i notes (Some m, at, e) =
        let s : member_notes m ≡ notes = cc in
        subst (AreKept r.epochs (block_fits r) (members_of w)) s
        (kept_from_keeps r (meaning r.epochs (members_of w)) r.epochs (members_of w)
        (holds_stands r.epochs (members_of w)) (member_notes m) (k.each i m at).notes)
