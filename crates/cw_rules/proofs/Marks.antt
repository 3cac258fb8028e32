-- Marks, tests of notes that stay set: an owed note sets one, unless it enters an epoch.
use Rattle.std.proofs.Common.{◌≡◌, ℕ, suc, ◌+◌, ◌*◌, ◌<◌, ◌≤◌, Bool, true, false, ◌&&◌, ◌||◌, not, nat_le, nat_lt, cond, List, [], ◌∷◌, ◌++◌, Option, Some, None, refl, sym, ◌∙◌, ap, subst, inl, inr, ◌⊎◌, arith, length, map, filter_map, flat_map, max, length-append, option_map, option_and_then, le-leb, ltb-true}
use Rattle.std.specs.List.{list_any, list_all, AllByRecursion, cons_option}
use Rattle.std.specs.Option.{option_or, option_map_or}
use Rattle.std.proofs.lemmas.Bool.{lt-leb, and_parts, or_left, or_right, false≢true, cases_Bool, cond-true, cond-false, not-true}
use Rattle.std.proofs.lemmas.List.Elements.{filter_map-append}
use Rattle.std.proofs.lemmas.List.Folds.{list_any-append}
use Rattle.cw_types.specs.declared.commitment.Commitment.{Commitment}
use Rattle.cw_types.specs.declared.note.Note.{Note}
use Rattle.cw_types.specs.declared.vote.Proposal.{Proposal}
use Rattle.cw_types.specs.declared.vote.Vote.{Vote}
use Rattle.cw_types.specs.declared.vote.Vote.TheVariants.{Finalize, Notarize, Nullify}
use Rattle.cw_types.specs.Block.{Block}
use Rattle.cw_types.specs.Epochs.{is_member}
use Rattle.cw_types.specs.Same.{same_commitment}
use Rattle.cw_rules.specs.Accepted.{State, first_some}
use Rattle.cw_rules.specs.Fits.{fits}
use Rattle.cw_rules.specs.Held.{floor_height, greatest_prune, held, next, noted_block_of, pruned_height, shown}
use Rattle.cw_rules.specs.Notes.{greatest, has_block, has_cert, has_certified, has_vote, is_block, is_cert, is_certified, is_vote, settled}
use Rattle.cw_rules.specs.Owed.{all_nullified, ballot_vote, block_owed, cert_owed, certified_owed, closes, finalize_owed, floor_owed, has_closed, has_voted, is_ready, named_commitments, named_proposals, named_votes, notarize_owed, part_commitment, signers_of, votes_in}
use Rattle.cw_rules.specs.Reached.{In}
use Rattle.cw_rules.specs.Rules.{Rules, genesis, genesis_commitment}
use Rattle.cw_rules.specs.Step.{marks}
use Rattle.cw_types.proofs.Same.{same_vote_self, same_proposal_self, same_commitment_self}
use Rattle.cw_rules.proofs.Lists.{when_some, and_then_some, map_some}
use Rattle.cw_rules.proofs.NoteLemmas.{any_front, any_back, any_weaker, vote_note}
use Rattle.cw_rules.proofs.KeptNotes.{vote_in, of_itself}

-- a mark: a test of the notes
abbrev pub Mark : Type 0
Mark = List Note → Bool

-- one for a mark that is not set
open_one : Bool → ℕ
open_one true = 0
open_one false = 1

-- how many marks are not set
pub unset : List Mark → List Note → ℕ
unset [] notes = 0
unset (t ∷ ts) notes = open_one (t notes) + unset ts notes

-- a mark that is set stays set, whatever note but a Prune comes
abbrev pub is_prune : Note → Bool
is_prune (Note.Prune h) = true
is_prune _ = false

abbrev pub Stays : Mark → Type 0
Stays t =
    (notes : List Note) (note : Note) → is_prune note ≡ false → t notes ≡ true
    → t (notes ++ note ∷ []) ≡ true

one_less : (b c : Bool) → (b ≡ true → c ≡ true) → open_one c ≤ open_one b
unfolding open_one
one_less true c f = let e : open_one c ≡ 0 = ap open_one (f refl) in omega arith
one_less false true f = omega arith
one_less false false f = omega arith

one_fewer : (b c : Bool) → b ≡ false → c ≡ true → open_one c + 1 ≤ open_one b
unfolding open_one
one_fewer b c f g =
    let u : open_one b ≡ 1 = ap open_one f in let v : open_one c ≡ 0 = ap open_one g in omega arith

pub unset_no_more : (ts : List Mark) → AllByRecursion Stays ts → (notes : List Note) (note : Note)
    → is_prune note ≡ false → unset ts (notes ++ note ∷ []) ≤ unset ts notes
unfolding unset
unset_no_more [] a notes note p = omega arith
unset_no_more (t ∷ ts) a notes note p =
    omega (
      arith,
      unset_no_more ts a.1 notes note p,
      one_less (t notes) (t (notes ++ note ∷ [])) (a.0 notes note p),
    )

-- a note that sets a mark leaves fewer unset
pub unset_less : (ts : List Mark) → AllByRecursion Stays ts → (notes : List Note) (note : Note)
    → is_prune note ≡ false → (t : Mark) → In t ts → t notes ≡ false → t (notes ++ note ∷ []) ≡ true
    → unset ts (notes ++ note ∷ []) < unset ts notes
unfolding unset
unset_less [] a notes note p t i f g = absurd i
unset_less (x ∷ ts) a notes note p t (inl e) f g =
    omega (
      arith,
      unset_no_more ts a.1 notes note p,
      one_fewer (x notes) (x (notes ++ note ∷ [])) (ap (λ (y : Mark). y notes) (sym e) ∙ f)
          (ap (λ (y : Mark). y (notes ++ note ∷ [])) (sym e) ∙ g),
    )
unset_less (x ∷ ts) a notes note p t (inr i) f g =
    omega (
      arith,
      unset_less ts a.1 notes note p t i f g,
      one_less (x notes) (x (notes ++ note ∷ [])) (a.0 notes note p),
    )

pub unset_length : (ts : List Mark) (notes : List Note) → unset ts notes ≤ length ts
unfolding unset open_one
unset_length [] notes = omega arith
unset_length (t ∷ ts) notes = omega (arith, unset_length ts notes, at_most (t notes))
  where
    at_most : (b : Bool) → open_one b ≤ 1
    at_most b = one_less false b (λ e. absurd (false≢true e))

-- ---- the marks

abbrev pub five : Proposal → List Mark
five p =
    (λ ns. has_vote ns (Notarize p)) ∷ (λ ns. has_cert ns (Notarize p)) ∷ (λ ns. has_certified ns p)
    ∷ (λ ns. has_vote ns (Finalize p)) ∷ (λ ns. has_cert ns (Finalize p)) ∷ []

-- of a vote: its proposal's five, or its certificate's
abbrev pub of_vote : Vote → List Mark
of_vote (Notarize p) = five p
of_vote (Nullify e v) = (λ ns. has_cert ns (Nullify e v)) ∷ []
of_vote (Finalize p) = five p

-- a wish's: its block is held no higher than some floor
abbrev pub of_wish : Rules → Commitment → Mark
of_wish r c ns =
    option_map_or (λ b. list_any (λ h. nat_le b.height h) (filter_map floor_height ns))
    (held r ns c) false

abbrev pub of_note : Note → List Mark
of_note (Note.Vote v) = of_vote v
of_note (Note.Cert s) = of_vote s.vote
of_note (Note.Certified p) = five p
of_note _ = []

-- all marks of what a state has
abbrev pub all_marks : Rules → State → List Mark
all_marks r s =
    flat_map (λ x. of_vote (ballot_vote x)) s.came.ballots
    ++ map (λ x ns. has_block ns (part_commitment r x)) s.came.parts
    ++ map (of_wish r) s.came.wishes ++ flat_map of_note s.notes

any_stays : (t : Note → Bool) → Stays (λ ns. list_any t ns)
any_stays t notes note p h = any_front t notes (note ∷ []) h

five_stays : (p : Proposal) → AllByRecursion Stays (five p)
five_stays p = (
  any_stays (is_vote (Notarize p)),
  (
    any_stays (is_cert (Notarize p)),
    (
      any_stays (is_certified p),
      (any_stays (is_vote (Finalize p)), (any_stays (is_cert (Finalize p)), tt)),
    ),
  ),
)

vote_stays : (v : Vote) → AllByRecursion Stays (of_vote v)
vote_stays (Notarize p) = five_stays p
vote_stays (Nullify e v) = (any_stays (is_cert (Nullify e v)), tt)
vote_stays (Finalize p) = five_stays p

-- what is held stays held, as no Prune comes
find_stays : (c : Commitment) (notes : List Note) (note : Note) (b : Block)
    → first_some (noted_block_of c) notes ≡ Some b
    → first_some (noted_block_of c) (notes ++ note ∷ []) ≡ Some b
find_stays c [] note b h = cc
find_stays c (x ∷ xs) note b h = go (noted_block_of c x) h (find_stays c xs note b)
  where
    go : (o : Option Block) → option_or o (first_some (noted_block_of c) xs) ≡ Some b
        → (first_some (noted_block_of c) xs ≡ Some b
        → first_some (noted_block_of c) (xs ++ note ∷ []) ≡ Some b)
        → option_or o (first_some (noted_block_of c) (xs ++ note ∷ [])) ≡ Some b
    go None h later = later h
    go (Some y) h later = h

pub prune_same : (notes : List Note) (note : Note) → is_prune note ≡ false
    → greatest_prune (notes ++ note ∷ []) ≡ greatest_prune notes
prune_same [] note p = by_note note p
  where
    by_note : (n : Note) → is_prune n ≡ false → greatest_prune (n ∷ []) ≡ 0
    by_note (Note.Prune h) p = cc
    by_note (Note.Block c b) p = refl
    by_note (Note.Verified e v c) p = refl
    by_note (Note.Epoch e c) p = refl
    by_note (Note.Certified q) p = refl
    by_note (Note.Vote v) p = refl
    by_note (Note.Cert s) p = refl
    by_note (Note.Ack h) p = refl
    by_note (Note.Floor h) p = refl
prune_same (x ∷ xs) note p = by_head (pruned_height x) (prune_same xs note p)
  where
    by_head : (o : Option ℕ) → greatest_prune (xs ++ note ∷ []) ≡ greatest_prune xs
        → greatest (cons_option o (filter_map pruned_height (xs ++ note ∷ [])))
        ≡ greatest (cons_option o (filter_map pruned_height xs))
    by_head None e = e
    by_head (Some h) e = ap (max h) e

held_stays : (r : Rules) (c : Commitment) (notes : List Note) (note : Note) → is_prune note ≡ false
    → (b : Block) → held r notes c ≡ Some b → held r (notes ++ note ∷ []) c ≡ Some b
held_stays r c notes note p b h = go (same_commitment c (genesis_commitment r)) h
  where
    low : ℕ → Block → Option Block
    low g x = cond (nat_lt 0 x.height && nat_lt x.height g) None (Some x)

    go : (t : Bool)
        → cond t (Some (genesis r))
        (option_and_then (low (greatest_prune notes)) (first_some (noted_block_of c) notes))
        ≡ Some b
        → cond t (Some (genesis r))
        (option_and_then (low (greatest_prune (notes ++ note ∷ [])))
        (first_some (noted_block_of c) (notes ++ note ∷ [])))
        ≡ Some b
    go true h = h
    go false h =
        let (x, e, f) =
        and_then_some (low (greatest_prune notes)) (first_some (noted_block_of c) notes) b h in
        ap (option_and_then (low (greatest_prune (notes ++ note ∷ []))))
        (find_stays c notes note x e)
        ∙ (ap (λ g. low g x) (prune_same notes note p) ∙ f)

wish_stays : (r : Rules) (c : Commitment) → Stays (of_wish r c)
wish_stays r c notes note p h = go (held r notes c) refl h
  where
    floors : List Note → Block → Bool
    floors ns b = list_any (λ h. nat_le b.height h) (filter_map floor_height ns)

    go : (o : Option Block) → held r notes c ≡ o → option_map_or (floors notes) o false ≡ true
        → option_map_or (floors (notes ++ note ∷ [])) (held r (notes ++ note ∷ []) c) false ≡ true
    go None e h = absurd (false≢true h)
    go (Some b) e h =
        ap (λ o. option_map_or (floors (notes ++ note ∷ [])) o false)
        (held_stays r c notes note p b e)
        ∙ (ap (list_any (λ k. nat_le b.height k)) (filter_map-append floor_height notes (note ∷ []))
        ∙ (list_any-append (λ k. nat_le b.height k) (filter_map floor_height notes)
        (filter_map floor_height (note ∷ []))
        ∙ or_left (floors notes b)
        (list_any (λ k. nat_le b.height k) (filter_map floor_height (note ∷ []))) h))

-- ---- all marks stay

stays_both : (xs ys : List Mark) → AllByRecursion Stays xs → AllByRecursion Stays ys
    → AllByRecursion Stays (xs ++ ys)
stays_both [] ys a b = b
stays_both (x ∷ xs) ys a b = (a.0, stays_both xs ys a.1 b)

stays_flat : {X : Type 0} (f : X → List Mark) → ((x : X) → AllByRecursion Stays (f x))
    → (xs : List X) → AllByRecursion Stays (flat_map f xs)
stays_flat f g [] = tt
stays_flat f g (x ∷ xs) = stays_both (f x) (flat_map f xs) (g x) (stays_flat f g xs)

stays_map : {X : Type 0} (f : X → Mark) → ((x : X) → Stays (f x)) → (xs : List X)
    → AllByRecursion Stays (map f xs)
stays_map f g [] = tt
stays_map f g (x ∷ xs) = (g x, stays_map f g xs)

note_stays : (n : Note) → AllByRecursion Stays (of_note n)
note_stays (Note.Vote v) = vote_stays v
note_stays (Note.Cert s) = vote_stays s.vote
note_stays (Note.Certified p) = five_stays p
note_stays (Note.Block c b) = tt
note_stays (Note.Verified e v c) = tt
note_stays (Note.Epoch e c) = tt
note_stays (Note.Ack h) = tt
note_stays (Note.Floor h) = tt
note_stays (Note.Prune h) = tt

pub all_stay : (r : Rules) (s : State) → AllByRecursion Stays (all_marks r s)
all_stay r s =
    stays_both (a ++ b ++ c) d
    (stays_both (a ++ b) c
    (stays_both a b
    (stays_flat (λ x. of_vote (ballot_vote x)) (λ x. vote_stays (ballot_vote x))
    s.came.ballots)
    (stays_map (λ x ns. has_block ns (part_commitment r x))
    (λ x. any_stays (is_block (part_commitment r x))) s.came.parts))
    (stays_map (of_wish r) (wish_stays r) s.came.wishes))
    (stays_flat of_note note_stays s.notes)
  where
    a : List Mark
    a = flat_map (λ x. of_vote (ballot_vote x)) s.came.ballots

    b : List Mark
    b = map (λ x ns. has_block ns (part_commitment r x)) s.came.parts

    c : List Mark
    c = map (of_wish r) s.came.wishes

    d : List Mark
    d = flat_map of_note s.notes

-- there are at most as many as the steps of a settling
flat_length : {X : Type 0} (f : X → List Mark) → ((x : X) → length (f x) ≤ 5) → (xs : List X)
    → length (flat_map f xs) ≤ 5 * length xs
flat_length f g [] = omega arith
flat_length f g (x ∷ xs) =
    omega (arith, flat_length f g xs, g x, length-append (f x) (flat_map f xs))

map_length : {X : Type 0} (f : X → Mark) (xs : List X) → length (map f xs) ≡ length xs
map_length f [] = refl
map_length f (x ∷ xs) = ap suc (map_length f xs)

vote_length : (v : Vote) → length (of_vote v) ≤ 5
vote_length (Notarize p) = omega arith
vote_length (Nullify e v) = omega arith
vote_length (Finalize p) = omega arith

note_length : (n : Note) → length (of_note n) ≤ 5
note_length (Note.Vote v) = vote_length v
note_length (Note.Cert s) = vote_length s.vote
note_length (Note.Certified p) = omega arith
note_length (Note.Block c b) = omega arith
note_length (Note.Verified e v c) = omega arith
note_length (Note.Epoch e c) = omega arith
note_length (Note.Ack h) = omega arith
note_length (Note.Floor h) = omega arith
note_length (Note.Prune h) = omega arith

pub marks_enough : (r : Rules) (s : State) → 2 * length (all_marks r s) + 1 ≤ marks s
marks_enough r s =
    omega (
      arith,
      length-append (a ++ b ++ c) d,
      length-append (a ++ b) c,
      length-append a b,
      flat_length (λ x. of_vote (ballot_vote x)) (λ x. vote_length (ballot_vote x)) s.came.ballots,
      map_length (λ x ns. has_block ns (part_commitment r x)) s.came.parts,
      map_length (of_wish r) s.came.wishes,
      flat_length of_note note_length s.notes,
    )
  where
    a : List Mark
    a = flat_map (λ x. of_vote (ballot_vote x)) s.came.ballots

    b : List Mark
    b = map (λ x ns. has_block ns (part_commitment r x)) s.came.parts

    c : List Mark
    c = map (of_wish r) s.came.wishes

    d : List Mark
    d = flat_map of_note s.notes

-- ---- what is named has its marks

abbrev pub Sub : List Mark → List Mark → Type 0
Sub xs ts = (t : Mark) → In t xs → In t ts

-- each thing that the state names has its marks among these
pub record IsCovered (r : Rules) (ts : List Mark) (s : State) : Type 0 where
  pub votes : AllByRecursion (λ v. Sub (of_vote v) ts) (named_votes s)
  pub proposals : AllByRecursion (λ p. Sub (five p) ts) (named_proposals s)
  pub commitments : AllByRecursion (λ c. In (λ ns. has_block ns c) ts) (named_commitments r s)
  pub wishes : AllByRecursion (λ c. In (of_wish r c) ts) s.came.wishes

cert_in : (v : Vote) → In (λ ns. has_cert ns v) (of_vote v)
cert_in (Notarize p) = inr (inl refl)
cert_in (Nullify e v) = inl refl
cert_in (Finalize p) = inr (inr (inr (inr (inl refl))))

-- a note that sets one of the marks, and names nothing new
pub record Sets (r : Rules) (ts : List Mark) (s : State) (note : Note) : Type 0 where
  pub mark : Mark
  pub there : In mark ts
  pub off : mark s.notes ≡ false
  pub on : mark (s.notes ++ note ∷ []) ≡ true
  pub kept : is_prune note ≡ false
  pub names : Sub (of_note note) ts

-- the last note passes
on_last : (t : Note → Bool) (notes : List Note) (note : Note) → t note ≡ true
    → list_any t (notes ++ note ∷ []) ≡ true
on_last t notes note h = any_back t notes (note ∷ []) (or_left (t note) false h)

pub block_sets : (r : Rules) (ts : List Mark) (s : State) (c : Commitment) (note : Note)
    → In (λ ns. has_block ns c) ts → block_owed r s c ≡ Some note → Sets r ts s note
block_sets r ts s c note i h =
    let (b, e, f) = and_then_some _ (shown r s.came c) note h in
    let w = when_some _ (Note.Block c b) note f in
    let n = (and_parts (not (has_block s.notes c)) _ w.0).0 in
    subst (Sets r ts s) w.1 (record {
      mark = λ ns. has_block ns c;
      there = i;
      off = not-true (has_block s.notes c) n;
      on = on_last (is_block c) s.notes (Note.Block c b) (same_commitment_self c);
      kept = refl;
      names = λ t k. absurd k;
    })

pub cert_sets : (r : Rules) (ts : List Mark) (id : ℕ) (s : State) (v : Vote) (note : Note)
    → Sub (of_vote v) ts → cert_owed r id s v ≡ Some note → Sets r ts s note
cert_sets r ts id s v note sub h = go (cases_Bool (has_cert s.notes v))
  where
    made : List ℕ → Note
    made signers = Note.Cert (record { vote = v; signers = signers })

    go : (has_cert s.notes v ≡ true) ⊎ (has_cert s.notes v ≡ false) → Sets r ts s note
    go (inl t) = cc (cond-true (has_cert s.notes v) None (option_map made (signers_of r id s v)) t)
    go (inr f) =
        let (signers, e, g) =
        map_some made (signers_of r id s v) note
        (sym
        (cond-false (has_cert s.notes v) None (option_map made (signers_of r id s v)) f)
        ∙ h) in
        subst (Sets r ts s) g (record {
          mark = λ ns. has_cert ns v;
          there = sub (λ ns. has_cert ns v) (cert_in v);
          off = f;
          on = on_last (is_cert v) s.notes (made signers) (same_vote_self v);
          kept = refl;
          names = sub;
        })

pub certified_sets : (r : Rules) (ts : List Mark) (s : State) (p : Proposal) (note : Note)
    → Sub (five p) ts → certified_owed r s p ≡ Some note → Sets r ts s note
certified_sets r ts s p note sub h =
    let w = when_some _ (Note.Certified p) note h in
    let a =
    and_parts (has_cert s.notes (Notarize p) && not (has_certified s.notes p))
    (option_map_or (fits r s.notes p) (held r s.notes p.payload) false) w.0 in
    let b = and_parts (has_cert s.notes (Notarize p)) (not (has_certified s.notes p)) a.0 in
    subst (Sets r ts s) w.1 (record {
      mark = λ ns. has_certified ns p;
      there = sub (λ ns. has_certified ns p) (inr (inr (inl refl)));
      off = not-true (has_certified s.notes p) b.1;
      on = on_last (is_certified p) s.notes (Note.Certified p) (same_proposal_self p);
      kept = refl;
      names = sub;
    })

none_above : (n : ℕ) (hs : List ℕ) → list_all (λ h. nat_lt h n) hs ≡ true
    → list_any (λ h. nat_le n h) hs ≡ false
none_above n [] h = refl
none_above n (x ∷ xs) h =
    let p = and_parts (nat_lt x n) (list_all (λ h. nat_lt h n) xs) h in
    or_from_both (nat_le n x) (list_any (λ h. nat_le n h) xs) (lt-leb n x (ltb-true x n p.0))
    (none_above n xs p.1)
  where
    or_from_both : (a b : Bool) → a ≡ false → b ≡ false → (a || b) ≡ false
    or_from_both a b e f = ap (λ x. x || b) e ∙ f

pub floor_sets : (r : Rules) (ts : List Mark) (s : State) (c : Commitment) (note : Note)
    → In (of_wish r c) ts → floor_owed r s c ≡ Some note → Sets r ts s note
floor_sets r ts s c note i h =
    let (b, e, f) = and_then_some _ (held r s.notes c) note h in
    let w = when_some _ (Note.Floor b.height) note f in
    let a =
    and_parts (nat_le (next s) b.height)
    (list_all (λ h. nat_lt h b.height) (filter_map floor_height s.notes)) w.0 in
    let off : of_wish r c s.notes ≡ false =
    ap
    (λ o. option_map_or
    (λ (x : Block). list_any (λ h. nat_le x.height h) (filter_map floor_height s.notes))
    o false)
    e
    ∙ none_above b.height (filter_map floor_height s.notes) a.1 in
    let on : of_wish r c (s.notes ++ Note.Floor b.height ∷ []) ≡ true =
    ap
    (λ o. option_map_or
    (λ (x : Block). list_any (λ h. nat_le x.height h)
    (filter_map floor_height (s.notes ++ Note.Floor b.height ∷ [])))
    o false)
    (held_stays r c s.notes (Note.Floor b.height) refl b e)
    ∙ (ap (list_any (λ k. nat_le b.height k))
    (filter_map-append floor_height s.notes (Note.Floor b.height ∷ []))
    ∙ (list_any-append (λ k. nat_le b.height k) (filter_map floor_height s.notes) (b.height ∷ [])
    ∙ or_right (list_any (λ k. nat_le b.height k) (filter_map floor_height s.notes))
    (nat_le b.height b.height || false)
    (or_left (nat_le b.height b.height) false (le-leb b.height b.height (omega arith))))) in
    subst (Sets r ts s) w.1 (record {
      mark = of_wish r c;
      there = i;
      off = off;
      on = on;
      kept = refl;
      names = λ t k. absurd k;
    })

-- where a weaker test fails, the stronger does
any_not : (a b : Note → Bool) → ((x : Note) → a x ≡ true → b x ≡ true) → (notes : List Note)
    → list_any b notes ≡ false → list_any a notes ≡ false
any_not a b f notes h = go (cases_Bool (list_any a notes))
  where
    go : (list_any a notes ≡ true) ⊎ (list_any a notes ≡ false) → list_any a notes ≡ false
    go (inl t) = absurd (false≢true (sym h ∙ any_weaker a b f notes t))
    go (inr n) = n

pub notarize_sets : (r : Rules) (ts : List Mark) (id : ℕ) (s : State) (p : Proposal) (note : Note)
    → Sub (five p) ts → notarize_owed r id s p ≡ Some note → Sets r ts s note
notarize_sets r ts id s p note sub h =
    let w = when_some _ (Note.Vote (Notarize p)) note h in
    let t5 = and_parts _ (all_nullified s.notes p.epoch p.parent p.view) w.0 in
    let t4 =
    and_parts _
    (option_map_or (is_ready r id s p)
    (settled (genesis_commitment r) s.notes p.epoch p.parent) false)
    t5.0 in
    let t3 = and_parts _ (not (has_voted s.notes p.epoch p.view)) t4.0 in
    subst (Sets r ts s) w.1 (record {
      mark = λ ns. has_vote ns (Notarize p);
      there = sub (λ ns. has_vote ns (Notarize p)) (inl refl);
      off =
          any_not (is_vote (Notarize p)) (votes_in p.epoch p.view) (vote_in (Notarize p)) s.notes
          (not-true (has_voted s.notes p.epoch p.view) t3.1);
      on =
          on_last (is_vote (Notarize p)) s.notes (Note.Vote (Notarize p))
          (same_vote_self (Notarize p));
      kept = refl;
      names = sub;
    })

pub finalize_sets : (r : Rules) (ts : List Mark) (id : ℕ) (s : State) (p : Proposal) (note : Note)
    → Sub (five p) ts → finalize_owed r id s p ≡ Some note → Sets r ts s note
finalize_sets r ts id s p note sub h =
    let w = when_some _ (Note.Vote (Finalize p)) note h in
    let a =
    and_parts (has_certified s.notes p && is_member r.epochs p.epoch id)
    (not (has_closed s.notes p.epoch p.view)) w.0 in
    subst (Sets r ts s) w.1 (record {
      mark = λ ns. has_vote ns (Finalize p);
      there = sub (λ ns. has_vote ns (Finalize p)) (inr (inr (inr (inl refl))));
      off =
          any_not (is_vote (Finalize p)) (closes p.epoch p.view)
          (λ y i. subst (λ n. closes p.epoch p.view n ≡ true) (sym (vote_note (Finalize p) y i))
          (of_itself (Finalize p)))
          s.notes (not-true (has_closed s.notes p.epoch p.view) a.1);
      on =
          on_last (is_vote (Finalize p)) s.notes (Note.Vote (Finalize p))
          (same_vote_self (Finalize p));
      kept = refl;
      names = sub;
    })
