-- A member that owes no block, and what comes to it then: one may be owed under what came last.
use Rattle.std.proofs.Common.{◌≡◌, ℕ, suc, ◌-◌, ◌≤◌, ◌&&◌, not, nat_le, cond, max, Bool, true, false, List, [], ◌∷◌, ◌++◌, length, map, take, Option, Some, None, slice_get, option_and_then, filter_map, refl, sym, ◌∙◌, ap, subst, inl, inr, ◌⊎◌, arith, append-nil, leb-true}
use Rattle.std.specs.List.{last_or, list_any}
use Rattle.std.specs.Option.{option_or, option_map_or}
use Rattle.std.proofs.lemmas.Bool.{cases_Bool, false≢true, le-leb}
use Rattle.cw_types.specs.Block.{Block}
use Rattle.cw_types.specs.Same.{same_commitment}
use Rattle.cw_types.specs.Votes.{finalized, vote_epoch, well_formed}
use Rattle.cw_types.specs.Epochs.{is_member}
use Rattle.cw_types.specs.declared.commitment.Commitment.{Commitment}
use Rattle.cw_types.specs.declared.event.Event.{Event}
use Rattle.cw_types.specs.declared.message.Message.{Message}
use Rattle.cw_types.specs.declared.note.Note.{Note}
use Rattle.cw_types.specs.declared.vote.Cert.{Cert}
use Rattle.cw_types.specs.declared.vote.Proposal.{Proposal}
use Rattle.cw_types.specs.declared.vote.Vote.{Vote}
use Rattle.cw_types.proofs.Same.{same_commitment-true, same_commitment_self}
use Rattle.cw_rules.specs.Accepted.{Ballot, Came, Many, Part, Row, Single, State, Whole, first_some, is_chunk_of, is_valid, same_ballot, same_part, take_ballot, take_part, wish_for}
use Rattle.cw_rules.specs.Held.{greatest_floor, greatest_prune, if_committed, chunk_under, shown, shown_by, shown_whole, whole_of}
use Rattle.cw_rules.specs.Notes.{has_block, is_block}
use Rattle.cw_rules.specs.Owed.{block_owed, named_commitments, part_commitment, when}
use Rattle.cw_rules.specs.Reached.{In}
use Rattle.cw_rules.specs.Rules.{Rules, block_of, commit, genesis_commitment}
use Rattle.cw_rules.specs.declared.travel.Travel.{Travel}
use Rattle.cw_rules.specs.declared.travel.Travel.TheVariants.{Chunked, Uncut}
use Rattle.cw_rules.specs.Step.{taken_came, with_notes}
use Rattle.cw_rules.proofs.Acks.{floor_grows}
use Rattle.cw_rules.proofs.Lists.{filter_map_more, first_of_both, in_cases}
use Rattle.cw_rules.proofs.NoteLemmas.{any_front}
use Rattle.node.proofs.Arrivals.{first_map, map_behind}
use Rattle.node.proofs.Leading.{prune_grows}
use Rattle.node.specs.Noting.{arrival_owed}
use Rattle.node.specs.Standing.{OwesLast, OwesNoBlock}
use Rattle.node.specs.declared.arrival.Arrival.{Arrival}

-- ---- searches that find nothing, or at one element alone

pub none_here : {Y : Type 0} (a b : Option Y) → option_or a b ≡ None → (a ≡ None) × (b ≡ None)
none_here None b h = (refl, h)
none_here (Some y) b h = cc

-- where nothing is found, nothing is at any element
pub none_at : {X Y : Type 0} (f : X → Option Y) (xs : List X) (x : X) → first_some f xs ≡ None
    → In x xs → f x ≡ None
none_at f [] x h i = absurd i
none_at f (y ∷ ys) x h (inl e) = ap f e ∙ (none_here (f y) (first_some f ys) h).0
none_at f (y ∷ ys) x h (inr i) = none_at f ys x (none_here (f y) (first_some f ys) h).1 i

first_none : {X Y : Type 0} (f : X → Option Y) (xs : List X) → ((x : X) → In x xs → f x ≡ None)
    → first_some f xs ≡ None
first_none f [] none = refl
first_none f (x ∷ xs) none =
    rw (none x (inl refl)) (first_none f xs (λ y i. none y (inr i)))

-- where something can be found at one element alone, that is what is found
only_at : {X Y : Type 0} (f : X → Option Y) (xs : List X) (z : X) (y : Y) → f z ≡ Some y
    → ((x : X) → In x xs → (Some z ≡ Some x) ⊎ (f x ≡ None)) → In z xs
    → first_some f xs ≡ Some y
only_at f [] z y h only i = absurd i
only_at {X} {Y} f (x ∷ xs) z y h only i =
    go (only x (inl refl)) i (λ later. only_at f xs z y h (λ w j. only w (inr j)) later)
  where
    go : (Some z ≡ Some x) ⊎ (f x ≡ None) → In z (x ∷ xs)
        → (In z xs → first_some f xs ≡ Some y) → first_some f (x ∷ xs) ≡ Some y
    go (inl e) i rest =
        let same : z ≡ x = cc in
        let here : f x ≡ Some y = ap f (sym same) ∙ h in rw here refl
    go (inr none) (inl e) rest = let never : None ≡ Some y = sym none ∙ (ap f (sym e) ∙ h) in cc
    go (inr none) (inr i) rest = rw none (rest i)

-- ---- the last element

last_in : {X : Type 0} (o : Option X) (xs : List X) (x : X) → last_or o xs ≡ Some x
    → (o ≡ Some x) ⊎ In x xs
last_in o [] x h = inl h
last_in {X} o (y ∷ ys) x h = go (last_in (Some y) ys x h)
  where
    go : (Some y ≡ Some x) ⊎ In x ys → (o ≡ Some x) ⊎ In x (y ∷ ys)
    go (inl e) = let same : x ≡ y = cc in inr (inl same)
    go (inr i) = inr (inr i)

last_behind : {X : Type 0} (o : Option X) (xs : List X) (x : X)
    → last_or o (xs ++ x ∷ []) ≡ Some x
last_behind o [] x = refl
last_behind o (y ∷ ys) x = last_behind (Some y) ys x

-- by its place
pub last_at : {X Y : Type 0} (g : X → Y) (o : Option Y) (xs : List X) (x : X)
    → slice_get xs (length xs - 1) ≡ Some x → last_or o (map g xs) ≡ Some (g x)
last_at g o [] x h = cc
last_at g o (y ∷ []) x h = let same : y ≡ x = cc in ap (λ z. Some (g z)) same
last_at g o (y ∷ (z ∷ zs)) x h =
    let at : suc (length (z ∷ zs)) - 1 ≡ suc (length (z ∷ zs) - 1) = omega arith in
    let there : slice_get (y ∷ (z ∷ zs)) (suc (length (z ∷ zs) - 1)) ≡ Some x =
    subst (λ n. slice_get (y ∷ (z ∷ zs)) n ≡ Some x) at h in
    last_at g (Some (g y)) (z ∷ zs) x there

-- ---- what is owed is owed under what came last

pub owed_last : (r : Rules) (s : State) (c : Commitment) → OwesLast r s
    → last_or None (named_commitments r s) ≡ Some c
    → first_some (block_owed r s) (named_commitments r s) ≡ block_owed r s c
owed_last r s c owes last = go (block_owed r s c) refl
  where
    only : (d : Commitment) → In d (named_commitments r s)
        → (Some c ≡ Some d) ⊎ (block_owed r s d ≡ None)
    only d i = by (owes d i)
      where
        by : (last_or None (named_commitments r s) ≡ Some d) ⊎ (block_owed r s d ≡ None)
            → (Some c ≡ Some d) ⊎ (block_owed r s d ≡ None)
        by (inl e) = inl (sym last ∙ e)
        by (inr none) = inr none

    there : (None ≡ Some c) ⊎ In c (named_commitments r s) → In c (named_commitments r s)
    there (inl e) = cc
    there (inr i) = i

    go : (o : Option Note) → block_owed r s c ≡ o
        → first_some (block_owed r s) (named_commitments r s) ≡ block_owed r s c
    go (Some note) e =
        only_at (block_owed r s) (named_commitments r s) c note e only
        (there (last_in None (named_commitments r s) c last))
        ∙ sym e
    go None e =
        first_none (block_owed r s) (named_commitments r s) (λ d i. none d (only d i)) ∙ sym e
      where
        none : (d : Commitment) → (Some c ≡ Some d) ⊎ (block_owed r s d ≡ None)
            → block_owed r s d ≡ None
        none d (inl same) = let is : d ≡ c = cc in ap (block_owed r s) is ∙ e
        none d (inr n) = n

-- ---- one part more

or_none : {X : Type 0} (o : Option X) → option_or o None ≡ o
or_none None = refl
or_none (Some x) = refl

-- a part of another commitment shows no more of this one
no_whole : (r : Rules) (c : Commitment) (p : Part) → same_commitment c (part_commitment r p) ≡ false
    → whole_of r c p ≡ None
no_whole r c (Row d x) other = refl
no_whole r c (Whole b) other = go (cases_Bool (same_commitment (commit r b) c))
  where
    go : (same_commitment (commit r b) c ≡ true) ⊎ (same_commitment (commit r b) c ≡ false)
        → whole_of r c (Whole b) ≡ None
    go (inr f) = rw f refl
    go (inl t) =
        let same = same_commitment-true (commit r b) c t in
        let yes : same_commitment c (commit r b) ≡ true =
        ap (same_commitment c) same ∙ same_commitment_self c in
        absurd (false≢true (sym other ∙ yes))

no_row : (r : Rules) (c : Commitment) (p : Part) → same_commitment c (part_commitment r p) ≡ false
    → chunk_under c p ≡ None
no_row r c (Row d x) other = rw other refl
no_row r c (Whole b) other = refl

-- however blocks travel, such a part shows no other block
shown_else : (t : Travel) (r : Rules) (came : Came) (c : Commitment) (p : Part)
    → same_commitment c (part_commitment r p) ≡ false
    → shown_by t r (record came { parts = came.parts ++ p ∷ [] }) c ≡ shown_by t r came c
shown_else t r came c p other = go t
  where
    whole : shown_whole r (record came { parts = came.parts ++ p ∷ [] }) c ≡ shown_whole r came c
    whole =
        first_of_both (whole_of r c) came.parts (p ∷ [])
        ∙ (ap (λ o. option_or (first_some (whole_of r c) came.parts) (option_or o None))
        (no_whole r c p other)
        ∙ or_none (first_some (whole_of r c) came.parts))

    rows : filter_map (chunk_under c) (came.parts ++ p ∷ []) ≡ filter_map (chunk_under c) came.parts
    rows =
        filter_map_more (chunk_under c) came.parts p
        ∙ (ap (λ o. filter_map (chunk_under c) came.parts ++ option_map_or (λ y. y ∷ []) o [])
        (no_row r c p other)
        ∙ append-nil (filter_map (chunk_under c) came.parts))

    go : (t : Travel)
        → shown_by t r (record came { parts = came.parts ++ p ∷ [] }) c ≡ shown_by t r came c
    go Chunked = λ i. option_or (whole i)
        (option_and_then (if_committed r c)
        (block_of r c.config (take c.config.minimum (rows i))))
    go Uncut =
        ap (λ (o : Option Block). cond (same_commitment c (genesis_commitment r)) None o) whole

-- the parts are those, or those with one behind
abbrev Grows : List Part → List Part → Type 0
Grows old new = (new ≡ old) ⊎ ((p : Part) × (new ≡ old ++ p ∷ []))

-- what is shown asks of what came for the parts alone
shown_same : (t : Travel) (r : Rules) (old new : Came) (c : Commitment) → new.parts ≡ old.parts
    → shown_by t r new c ≡ shown_by t r old c
shown_same Chunked r old new c same =
    ap
    (λ (ps : List Part). option_or (first_some (whole_of r c) ps)
    (option_and_then (if_committed r c)
    (block_of r c.config (take c.config.minimum (filter_map (chunk_under c) ps)))))
    same
shown_same Uncut r old new c same =
    ap
    (λ (ps : List Part). cond (same_commitment c (genesis_commitment r)) None
    (first_some (whole_of r c) ps))
    same

-- what a member that knows these notes owes once so much came
abbrev owes : Rules → State → Came → Commitment → Option Note
owes r s came c = block_owed r (record { notes = s.notes; came = came; given = s.given }) c

-- where the same is shown, the same is owed
owes_shown : (r : Rules) (s : State) (came : Came) (c : Commitment)
    → shown r came c ≡ shown r s.came c → owes r s came c ≡ block_owed r s c
owes_shown r s came c same =
    ap
    (λ (o : Option Block). option_and_then
    (λ (b : Block). when
    (not (has_block s.notes c)
    && nat_le (max (greatest_floor s.notes) (greatest_prune s.notes)) b.height)
    (Note.Block c b))
    o)
    same

abbrev names : Rules → List Part → List Commitment
names r parts = map (part_commitment r) parts

grown : (r : Rules) (s : State) → OwesNoBlock r s → (came : Came) → Grows s.came.parts came.parts
    → (c : Commitment) → In c (names r came.parts)
    → (last_or None (names r came.parts) ≡ Some c) ⊎ (owes r s came c ≡ None)
grown r s rests came (inl same) c i =
    inr
    (owes_shown r s came c (shown_same r.travel r s.came came c same)
    ∙ none_at (block_owed r s) (names r s.came.parts) c rests
    (subst (λ ps. In c (names r ps)) same i))
grown r s rests came (inr (p, more)) c i =
    go (cases_Bool (same_commitment c (part_commitment r p)))
  where
    both : names r came.parts ≡ names r s.came.parts ++ part_commitment r p ∷ []
    both = ap (names r) more ∙ map_behind (part_commitment r) s.came.parts (p ∷ [])

    last : last_or None (names r came.parts) ≡ Some (part_commitment r p)
    last = ap (last_or None) both ∙ last_behind None (names r s.came.parts) (part_commitment r p)

    there : In c (names r s.came.parts) ⊎ In c (part_commitment r p ∷ [])
    there =
        in_cases c (names r s.came.parts) (part_commitment r p ∷ [])
        (subst (λ cs. In c cs) both i)

    by_front : same_commitment c (part_commitment r p) ≡ false
        → In c (names r s.came.parts) ⊎ In c (part_commitment r p ∷ []) → owes r s came c ≡ None
    by_front other (inl front) =
        owes_shown r s came c
        (shown_same r.travel r (record s.came { parts = s.came.parts ++ p ∷ [] }) came c more
        ∙ shown_else r.travel r s.came c p other)
        ∙ none_at (block_owed r s) (names r s.came.parts) c rests front
    by_front other (inr (inl e)) =
        let yes : same_commitment c (part_commitment r p) ≡ true =
        ap (same_commitment c) (sym e) ∙ same_commitment_self c in
        absurd (false≢true (sym other ∙ yes))
    by_front other (inr (inr none)) = absurd none

    go : (same_commitment c (part_commitment r p) ≡ true)
        ⊎ (same_commitment c (part_commitment r p) ≡ false)
        → (last_or None (names r came.parts) ≡ Some c) ⊎ (owes r s came c ≡ None)
    go (inl t) =
        inl (last ∙ ap Some (sym (same_commitment-true c (part_commitment r p) t)))
    go (inr f) = inr (by_front f there)

-- ---- an event brings one part at most

part_taken : (came : Came) (fits : Bool) (p : Part)
    → Grows came.parts (take_part came fits p).parts
part_taken came fits p = go (fits && not (list_any (same_part p) came.parts))
  where
    go : (b : Bool)
        → Grows came.parts
        (cond b
        (record { ballots = came.ballots; parts = came.parts ++ p ∷ []; wishes = came.wishes })
        came).parts
    go true = inr (p, refl)
    go false = inl refl

ballot_taken : (came : Came) (fits : Bool) (x : Ballot) → (take_ballot came fits x).parts ≡ came.parts
ballot_taken came fits x = go (fits && not (list_any (same_ballot x) came.ballots))
  where
    go : (b : Bool)
        → (cond b
        (record { ballots = came.ballots ++ x ∷ []; parts = came.parts; wishes = came.wishes })
        came).parts
        ≡ came.parts
    go true = refl
    go false = refl

wish_taken : (r : Rules) (signed : ℕ → Vote → Bool) (came : Came) (s : Cert) (o : Option Proposal)
    → (option_map_or (wish_for r signed came s) o came).parts ≡ came.parts
wish_taken r signed came s None = refl
wish_taken r signed came s (Some p) = go (is_valid r signed s)
  where
    go : (b : Bool)
        → (cond b (record {
          ballots = (take_ballot came true (Many s)).ballots;
          parts = (take_ballot came true (Many s)).parts;
          wishes = (take_ballot came true (Many s)).wishes ++ p.payload ∷ [];
        }) came).parts
        ≡ came.parts
    go true = ballot_taken came true (Many s)
    go false = refl

event_grows : (r : Rules) (signed : ℕ → Vote → Bool) (came : Came) (e : Event)
    → Grows came.parts (taken_came r signed came e).parts
event_grows r signed came (Event.Deliver (Message.Vote i v)) =
    inl
    (ballot_taken came (is_member r.epochs (vote_epoch v) i && well_formed v && signed i v)
    (Single i v))
event_grows r signed came (Event.Deliver (Message.Cert s)) =
    inl (ballot_taken came (is_valid r signed s) (Many s))
event_grows r signed came (Event.Deliver (Message.Shard c x)) =
    part_taken came (is_chunk_of r c x) (Row c x)
event_grows r signed came (Event.Deliver (Message.Block b)) = part_taken came true (Whole b)
event_grows r signed came (Event.Deliver _) = inl refl
event_grows r signed came (Event.Floor s) = inl (wish_taken r signed came s (finalized s.vote))
event_grows r signed came _ = inl refl

-- so where none was owed, one can be owed only under what came last
pub event_owes : (r : Rules) (signed : ℕ → Vote → Bool) (s : State) (e : Event) → OwesNoBlock r s
    → OwesLast r
    (record { notes = s.notes; came = taken_came r signed s.came e; given = s.given })
event_owes r signed s e rests =
    grown r s rests (taken_came r signed s.came e) (event_grows r signed s.came e)

-- ---- notes

kept_none : (known more : Bool) (low high height : ℕ) (note : Note) → low ≤ high
    → (known ≡ true → more ≡ true) → when (not known && nat_le low height) note ≡ None
    → when (not more && nat_le high height) note ≡ None
kept_none true more low high height note le stays h = rw (stays refl) refl
kept_none false true low high height note le stays h = refl
kept_none false false low high height note le stays h =
    go (cases_Bool (nat_le low height)) (cases_Bool (nat_le high height))
  where
    go : (nat_le low height ≡ true) ⊎ (nat_le low height ≡ false)
        → (nat_le high height ≡ true) ⊎ (nat_le high height ≡ false)
        → when (nat_le high height) note ≡ None
    go l (inr f) = rw f refl
    go (inl t) (inl u) = let never : Some note ≡ None = sym (ap (λ b. when b note) t) ∙ h in cc
    go (inr f) (inl u) =
        let b = leb-true high height u in
        absurd (false≢true (sym f ∙ le-leb low height (omega (arith, b, le))))

-- more notes leave no more to be owed
no_more : (r : Rules) (s : State) (notes : List Note) (c : Commitment) → block_owed r s c ≡ None
    → block_owed r (with_notes s notes) c ≡ None
no_more r s notes c h = go (shown r s.came c) h
  where
    test : List Note → Block → Option Note
    test ns b =
        when
        (not (has_block ns c) && nat_le (max (greatest_floor ns) (greatest_prune ns)) b.height)
        (Note.Block c b)

    go : (o : Option Block) → option_and_then (test s.notes) o ≡ None
        → option_and_then (test (s.notes ++ notes)) o ≡ None
    go None h = refl
    go (Some b) h =
        kept_none (has_block s.notes c) (has_block (s.notes ++ notes) c)
        (max (greatest_floor s.notes) (greatest_prune s.notes))
        (max (greatest_floor (s.notes ++ notes)) (greatest_prune (s.notes ++ notes))) b.height
        (Note.Block c b)
        (omega (arith, floor_grows s.notes notes, prune_grows s.notes notes))
        (any_front (is_block c) s.notes notes) h

pub noted_owes : (r : Rules) (s : State) (notes : List Note) → OwesLast r s
    → OwesLast r (with_notes s notes)
noted_owes r s notes owes c i = go (owes c i)
  where
    go : (last_or None (named_commitments r s) ≡ Some c) ⊎ (block_owed r s c ≡ None)
        → (last_or None (named_commitments r s) ≡ Some c)
        ⊎ (block_owed r (with_notes s notes) c ≡ None)
    go (inl e) = inl e
    go (inr none) = inr (no_more r s notes c none)

-- ---- as what came is kept

-- what is owed under an arrival is owed under the last
pub last_arrival : (r : Rules) (s : State) (arrivals : List Arrival) (a : Arrival)
    → named_commitments r s ≡ map (λ (a : Arrival). a.commitment) arrivals → OwesLast r s
    → slice_get arrivals (length arrivals - 1) ≡ Some a
    → first_some (arrival_owed r s) arrivals ≡ block_owed r s a.commitment
last_arrival r s arrivals a named owes last =
    sym (first_map (block_owed r s) (λ (a : Arrival). a.commitment) arrivals)
    ∙ (ap (first_some (block_owed r s)) (sym named)
    ∙ owed_last r s a.commitment owes
    (ap (last_or None) named ∙ last_at (λ (a : Arrival). a.commitment) None arrivals a last))
