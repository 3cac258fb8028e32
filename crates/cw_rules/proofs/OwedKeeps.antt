-- Each owed note has among the notes before it what it rests on.
use Rattle.std.proofs.Common.{◌≡◌, ℕ, zero, suc, ◌*◌, ◌<◌, true, false, ◌&&◌, ◌||◌, ◌==◌, Bool, cond, find, not, List, [], ◌∷◌, Option, Some, None, IsTrue, is_some, sym, ◌∙◌, ap, subst, inl, inr, ◌⊎◌, arith, length, nat_le}
use Rattle.std.specs.List.{list_any, AllByRecursion}
use Rattle.std.specs.Option.{option_or, option_map_or, option_map}
use Rattle.std.proofs.lemmas.Bool.{or_cases, or_left, or_right, and_parts, false≢true, cases_Bool, cond-true, cond-false, leb-true, eqb-true, not-true, leb-false}
use Rattle.cw_types.specs.declared.commitment.Commitment.{Commitment}
use Rattle.cw_types.specs.declared.note.Note.{Note}
use Rattle.cw_types.specs.declared.vote.Proposal.{Proposal}
use Rattle.cw_types.specs.declared.vote.Vote.{Vote}
use Rattle.cw_types.specs.declared.vote.Vote.TheVariants.{Finalize, Notarize}
use Rattle.cw_types.specs.Block.{Block}
use Rattle.cw_types.specs.Epochs.{is_member, leader, members_in}
use Rattle.cw_types.specs.Numbers.{quorum}
use Rattle.cw_types.specs.Same.{same_commitment, same_vote}
use Rattle.cw_types.specs.Votes.{vote_epoch, well_formed}
use Rattle.cw_rules.specs.Accepted.{Ballot, Came, Many, Part, Row, Single, State, Whole, first_some}
use Rattle.cw_rules.specs.Fits.{fits}
use Rattle.cw_rules.specs.Held.{at_height, first_chunks, held, if_committed, shown, shown_by, shown_by_rows, shown_whole, whole_of}
use Rattle.cw_rules.specs.Keeps.{IsClosed, IsRising, IsSound, Keeps, Meaning}
use Rattle.cw_rules.specs.Notes.{enters, epoch_entered, epoch_of, has_begun, has_cert, has_certified, has_vote, epoch_parent, settled, settler}
use Rattle.cw_rules.specs.Owed.{all_nullified, block_owed, can_vote, cert_owed, certified_owed, epoch_owed, finalize_owed, floor_owed, has_closed, has_voted, is_ready, is_single, known, knows, named_commitments, named_proposals, named_votes, notarize_owed, owed, reached_epoch, signers_in, signers_of, top_epoch, when}
use Rattle.cw_rules.specs.Rules.{Rules, block_of, commit, genesis_commitment}
use Rattle.cw_rules.specs.declared.travel.Travel.{Travel}
use Rattle.cw_rules.specs.declared.travel.Travel.TheVariants.{Chunked, Uncut}
use Rattle.cw_rules.specs.Stands.{IsSettled}
use Rattle.cw_types.proofs.Same.{same_vote-true, same_commitment-true}
use Rattle.std.proofs.Common.{filter_map}
use Rattle.cw_rules.proofs.Lists.{or_some, when_some, first_some_at, all_true, and_then_some, map_some, map_or_true, is_in, filter_rises, filter_in}

-- what an owed note is told of: what came is sound, and the member backs its own votes
pub record IsTold (m : Meaning) (id : ℕ) (s : State) : Type 0 where
  pub came : AllByRecursion (IsSound m) s.came.ballots
  pub own : (v : Vote) → has_vote s.notes v ≡ true → IsTrue (m.backs id v)

-- a block is shown under its own commitment
committed_under : (r : Rules) (c : Commitment) (x b : Block) → if_committed r c x ≡ Some b
    → commit r b ≡ c
committed_under r c x b h = go (cases_Bool (same_commitment (commit r x) c))
  where
    go : (same_commitment (commit r x) c ≡ true) ⊎ (same_commitment (commit r x) c ≡ false)
        → commit r b ≡ c
    go (inl t) =
        let e : x ≡ b = cc (cond-true (same_commitment (commit r x) c) (Some x) None t) in
        ap (commit r) (sym e) ∙ same_commitment-true (commit r x) c t
    go (inr f) = cc (cond-false (same_commitment (commit r x) c) (Some x) None f)

whole_under : (r : Rules) (c : Commitment) (p : Part) (b : Block) → whole_of r c p ≡ Some b
    → commit r b ≡ c
whole_under r c (Whole x) b h = committed_under r c x b h
whole_under r c (Row d x) b h = cc

whole_shown : (r : Rules) (came : Came) (c : Commitment) (b : Block) → shown_whole r came c ≡ Some b
    → commit r b ≡ c
whole_shown r came c b h =
    first_some_at (whole_of r c) (λ _. Unit {0}) (λ x. commit r x ≡ c) came.parts
    (all_true came.parts) (λ p x u f. whole_under r c p x f) b h

by_travel : (t : Travel) (r : Rules) (came : Came) (c : Commitment) (b : Block)
    → shown_by t r came c ≡ Some b → commit r b ≡ c
by_travel Chunked r came c b h =
    go (or_some (shown_whole r came c) (shown_by_rows r came c) b h)
  where
    go : (shown_whole r came c ≡ Some b) ⊎ (shown_by_rows r came c ≡ Some b) → commit r b ≡ c
    go (inl e) = whole_shown r came c b e
    go (inr e) =
        let (x, f, g) =
        and_then_some (if_committed r c)
        (block_of r c.config (first_chunks came c)) b e in
        committed_under r c x b g
by_travel Uncut r came c b h = go (same_commitment c (genesis_commitment r)) h
  where
    go : (t : Bool) → cond t None (shown_whole r came c) ≡ Some b → commit r b ≡ c
    go true e = cc
    go false e = whole_shown r came c b e

pub shown_under : (r : Rules) (came : Came) (c : Commitment) (b : Block) → shown r came c ≡ Some b
    → commit r b ≡ c
shown_under r came c b h = by_travel r.travel r came c b h

-- what the cases use of the test in them
block_keeps : (r : Rules) (m : Meaning) (s : State) (c : Commitment) (note : Note) → Unit {0}
    → block_owed r s c ≡ Some note → Keeps r m s.notes note
block_keeps r m s c note u h =
    let (b, e, f) = and_then_some _ (shown r s.came c) note h in
    subst (Keeps r m s.notes) (when_some _ (Note.Block c b) note f).1 (shown_under r s.came c b e)

floor_keeps : (r : Rules) (m : Meaning) (s : State) (c : Commitment) (note : Note) → Unit {0}
    → floor_owed r s c ≡ Some note → Keeps r m s.notes note
floor_keeps r m s c note u h =
    let (b, e, f) = and_then_some _ (held r s.notes c) note h in
    subst (Keeps r m s.notes) (when_some _ (Note.Floor b.height) note f).1 tt

certified_keeps : (r : Rules) (m : Meaning) (s : State) (p : Proposal) (note : Note) → Unit {0}
    → certified_owed r s p ≡ Some note → Keeps r m s.notes note
certified_keeps r m s p note u h =
    let w = when_some _ (Note.Certified p) note h in
    let a =
    and_parts (has_cert s.notes (Notarize p) && not (has_certified s.notes p))
    (option_map_or (fits r s.notes p) (held r s.notes p.payload) false) w.0 in
    let b = and_parts (has_cert s.notes (Notarize p)) (not (has_certified s.notes p)) a.0 in
    subst (Keeps r m s.notes) w.1 (b.0, a.1)

finalize_keeps : (r : Rules) (m : Meaning) (id : ℕ) (s : State) (p : Proposal) (note : Note)
    → Unit {0} → finalize_owed r id s p ≡ Some note → Keeps r m s.notes note
finalize_keeps r m id s p note u h =
    let w = when_some _ (Note.Vote (Finalize p)) note h in
    let a =
    and_parts (has_certified s.notes p && is_member r.epochs p.epoch id)
    (not (has_closed s.notes p.epoch p.view)) w.0 in
    let b = and_parts (has_certified s.notes p) (is_member r.epochs p.epoch id) a.0 in
    subst (Keeps r m s.notes) w.1 (b.0, not-true (has_closed s.notes p.epoch p.view) a.1)

-- an epoch that is owed is entered at its beginning
reached_keeps : (r : Rules) (m : Meaning) (notes : List Note) (span : ℕ) → r.epochs.span ≡ Some span
    → (top : ℕ) (note : Note) → reached_epoch r notes span top ≡ Some note → Keeps r m notes note
reached_keeps r m notes span is_span zero note h = cc
reached_keeps r m notes span is_span (suc top) note h =
    go (cases_Bool (nat_le (suc top) (epoch_of notes)))
    (reached_keeps r m notes span is_span top note)
  where
    here : Option Note
    here = option_map (Note.Epoch (suc top)) (at_height r notes (suc top * span))

    by_case : epoch_of notes < suc top
        → (here ≡ Some note) ⊎ (reached_epoch r notes span top ≡ Some note)
        → (reached_epoch r notes span top ≡ Some note → Keeps r m notes note) → Keeps r m notes note
    by_case above (inl e) later =
        let (c, at, f) =
        map_some (Note.Epoch (suc top)) (at_height r notes (suc top * span)) note e in
        subst (Keeps r m notes) f (record {
          span = span;
          is_span = is_span;
          above = above;
          reaches = at;
        })
    by_case above (inr e) later = later e

    go : (nat_le (suc top) (epoch_of notes) ≡ true) ⊎ (nat_le (suc top) (epoch_of notes) ≡ false)
        → (reached_epoch r notes span top ≡ Some note → Keeps r m notes note) → Keeps r m notes note
    go (inl t) later =
        cc
        (sym
        (cond-true (nat_le (suc top) (epoch_of notes)) None
        (option_or here (reached_epoch r notes span top)) t)
        ∙ h)
    go (inr f) later =
        by_case (omega (arith, leb-false (suc top) (epoch_of notes) f))
        (or_some here (reached_epoch r notes span top) note
        (sym
        (cond-false (nat_le (suc top) (epoch_of notes)) None
        (option_or here (reached_epoch r notes span top)) f)
        ∙ h))
        later

epoch_keeps : (r : Rules) (m : Meaning) (s : State) (note : Note) → epoch_owed r s ≡ Some note
    → Keeps r m s.notes note
epoch_keeps r m s note h =
    let (span, e, f) =
    and_then_some (λ span. reached_epoch r s.notes span (top_epoch r s.notes span))
    r.epochs.span note h in
    reached_keeps r m s.notes span e (top_epoch r s.notes span) note f

-- a single vote that came is well formed and backed
single_sound : (m : Meaning) (i : ℕ) (v : Vote) (xs : List Ballot) → AllByRecursion (IsSound m) xs
    → list_any (is_single i v) xs ≡ true → IsTrue (well_formed v) × IsTrue (m.backs i v)
single_sound m i v [] a h = absurd (false≢true h)
single_sound m i v (Many s ∷ xs) a h = single_sound m i v xs a.1 h
single_sound m i v (Single j w ∷ xs) a h =
    go (or_cases ((i == j) && same_vote v w) (list_any (is_single i v) xs) h)
    (single_sound m i v xs a.1)
  where
    go : (((i == j) && same_vote v w) ≡ true) ⊎ (list_any (is_single i v) xs ≡ true)
        → (list_any (is_single i v) xs ≡ true → IsTrue (well_formed v) × IsTrue (m.backs i v))
        → IsTrue (well_formed v) × IsTrue (m.backs i v)
    go (inl e) later =
        let p = and_parts (i == j) (same_vote v w) e in
        let f = same_vote-true v w p.1 in
        let g = eqb-true i j p.0 in (
          subst (λ u. well_formed u ≡ true) (sym f) a.0.0,
          subst (λ u. m.backs i u ≡ true) (sym f) (subst (λ k. m.backs k w ≡ true) (sym g) a.0.1),
        )
    go (inr e) later = later e

-- an entry that is found was noted
entered_by : (epoch : ℕ) (notes : List Note) (x : ℕ × Commitment)
    → find (λ (e : ℕ × Commitment). e.0 == epoch) (filter_map epoch_entered notes) ≡ Some x
    → list_any (enters epoch) notes ≡ true
entered_by epoch [] x h = cc
entered_by epoch (note ∷ notes) x h = by_note note h (entered_by epoch notes x)
  where
    of : ℕ × Commitment → Bool
    of e = e.0 == epoch

    by_note : (n : Note)
        → find (λ (e : ℕ × Commitment). e.0 == epoch) (filter_map epoch_entered (n ∷ notes))
        ≡ Some x
        → (find (λ (e : ℕ × Commitment). e.0 == epoch) (filter_map epoch_entered notes) ≡ Some x
        → list_any (enters epoch) notes ≡ true)
        → list_any (enters epoch) (n ∷ notes) ≡ true
    by_note (Note.Epoch d c) h later = go (cases_Bool (d == epoch))
      where
        go : ((d == epoch) ≡ true) ⊎ ((d == epoch) ≡ false)
            → ((d == epoch) || list_any (enters epoch) notes) ≡ true
        go (inl t) = or_left (d == epoch) (list_any (enters epoch) notes) t
        go (inr f) =
            or_right (d == epoch) (list_any (enters epoch) notes)
            (later
            (sym
            (cond-false (d == epoch) (Some (d, c))
            (find (λ (e : ℕ × Commitment). e.0 == epoch) (filter_map epoch_entered notes))
            f)
            ∙ h))
    by_note (Note.Block c b) h later = later h
    by_note (Note.Verified d w c) h later = later h
    by_note (Note.Certified p) h later = later h
    by_note (Note.Vote v) h later = later h
    by_note (Note.Cert s) h later = later h
    by_note (Note.Ack n) h later = later h
    by_note (Note.Floor n) h later = later h
    by_note (Note.Prune n) h later = later h

-- an epoch that has a root has begun
pub begun_by : (c0 : Commitment) (notes : List Note) (epoch : ℕ) (c : Commitment)
    → epoch_parent c0 notes epoch ≡ Some c → has_begun notes epoch ≡ true
begun_by c0 notes epoch c h = go (cases_Bool (epoch == 0))
  where
    found : Option (ℕ × Commitment)
    found = find (λ (e : ℕ × Commitment). e.0 == epoch) (filter_map epoch_entered notes)

    go : ((epoch == 0) ≡ true) ⊎ ((epoch == 0) ≡ false)
        → ((epoch == 0) || list_any (enters epoch) notes) ≡ true
    go (inl t) = or_left (epoch == 0) (list_any (enters epoch) notes) t
    go (inr f) =
        let (x, e, g) =
        map_some (λ (e : ℕ × Commitment). e.1) found c
        (sym
        (cond-false (epoch == 0) (Some c0)
        (option_map (λ (e : ℕ × Commitment). e.1) found) f)
        ∙ h) in
        or_right (epoch == 0) (list_any (enters epoch) notes) (entered_by epoch notes x e)

-- what isn't 0 is above it
eqb-above : (n : ℕ) → (n == 0) ≡ false → 0 < n
eqb-above zero f = absurd (false≢true (sym f))
eqb-above (suc n) f = omega arith

-- a settled view, by the search that a proposal's parent goes through
pub settled_tells : (c0 : Commitment) (notes : List Note) (epoch view : ℕ) (c : Commitment)
    → settled c0 notes epoch view ≡ Some c → IsSettled notes epoch view
settled_tells c0 notes epoch view c h = go (cases_Bool (view == 0))
  where
    go : ((view == 0) ≡ true) ⊎ ((view == 0) ≡ false) → IsSettled notes epoch view
    go (inl t) =
        inl (
          eqb-true view 0 t,
          begun_by c0 notes epoch c
              (sym
              (cond-true (view == 0) (epoch_parent c0 notes epoch)
              (option_map (λ (p : Proposal). p.payload) (settler notes epoch view)) t)
              ∙ h),
        )
    go (inr f) =
        let (p, e, g) =
        map_some (λ (p : Proposal). p.payload) (settler notes epoch view) c
        (sym
        (cond-false (view == 0) (epoch_parent c0 notes epoch)
        (option_map (λ (p : Proposal). p.payload) (settler notes epoch view)) f)
        ∙ h) in
        inr (eqb-above view f, ap is_some e)

notarize_keeps : (r : Rules) (m : Meaning) (id : ℕ) (s : State) → IsTold m id s
    → (p : Proposal) (note : Note) → Unit {0} → notarize_owed r id s p ≡ Some note
    → Keeps r m s.notes note
notarize_keeps r m id s told p note u h =
    let w = when_some _ (Note.Vote (Notarize p)) note h in
    let t6 = and_parts _ (all_nullified s.notes p.epoch p.parent p.view) w.0 in
    let t5 = and_parts _ (can_vote r id s p) t6.0 in
    let t4 = and_parts _ (not (has_voted s.notes p.epoch p.view)) t5.0 in
    let t3 =
    and_parts _
    (list_any (is_single (leader r.epochs p.epoch p.view) (Notarize p)) s.came.ballots)
    t4.0 in
    let sound =
    single_sound m (leader r.epochs p.epoch p.view) (Notarize p) s.came.ballots told.came
    t3.1 in
    let (c, e, f) =
    map_or_true (is_ready r id s p) (settled (genesis_commitment r) s.notes p.epoch p.parent)
    t5.1 in
    subst (Keeps r m s.notes) w.1 (
      sound.0,
      not-true (has_voted s.notes p.epoch p.view) t4.1,
      settled_tells (genesis_commitment r) s.notes p.epoch p.parent c e,
      t6.1,
    )

-- who came with a certificate of the vote, holds it
many_holds : (m : Meaning) (v : Vote) (b : Ballot) (signers : List ℕ) → IsSound m b
    → signers_in v b ≡ Some signers → IsTrue (m.holds v)
many_holds m v (Many s) signers sound h =
    let w = when_some (same_vote v s.vote) s.signers signers h in
    subst (λ u. m.holds u ≡ true) (sym (same_vote-true v s.vote w.0)) sound
many_holds m v (Single i w) signers sound h = cc

-- each member that is known to have signed the vote backs it
known_backs : (r : Rules) (m : Meaning) (id : ℕ) (s : State) → IsTold m id s
    → (v : Vote) (all xs : List ℕ)
    → AllByRecursion (λ i. IsTrue (is_in all i) × (knows id s v i ≡ true)) xs
    → AllByRecursion (λ i. IsTrue (is_in all i) × IsTrue (m.backs i v)) xs
known_backs r m id s told v all [] a = tt
known_backs r m id s told v all (i ∷ xs) a = (
  (
    a.0.0,
    go
        (or_cases (list_any (is_single i v) s.came.ballots) ((i == id) && has_vote s.notes v)
        a.0.1),
  ),
  known_backs r m id s told v all xs a.1,
)
  where
    go : (list_any (is_single i v) s.came.ballots ≡ true)
        ⊎ (((i == id) && has_vote s.notes v) ≡ true)
        → IsTrue (m.backs i v)
    go (inl t) = (single_sound m i v s.came.ballots told.came t).1
    go (inr t) =
        let p = and_parts (i == id) (has_vote s.notes v) t in
        subst (λ k. m.backs k v ≡ true) (sym (eqb-true i id p.0)) (told.own v p.1)

signers_hold : (r : Rules) (m : Meaning) (id : ℕ) (s : State) → IsRising r → IsClosed r m
    → IsTold m id s → (v : Vote) (signers : List ℕ) → signers_of r id s v ≡ Some signers
    → IsTrue (m.holds v)
signers_hold r m id s rising closed told v signers h =
    go (or_some (first_some (signers_in v) s.came.ballots) _ signers h)
  where
    is : List ℕ
    is = members_in r.epochs (vote_epoch v)

    go : (first_some (signers_in v) s.came.ballots ≡ Some signers)
        ⊎ (when (nat_le (quorum (length is)) (length (known r id s v))) (known r id s v)
        ≡ Some signers)
        → IsTrue (m.holds v)
    go (inl e) =
        first_some_at (signers_in v) (IsSound m) (λ _. IsTrue (m.holds v)) s.came.ballots told.came
        (λ b xs sound f. many_holds m v b xs sound f) signers e
    go (inr e) =
        let w =
        when_some (nat_le (quorum (length is)) (length (known r id s v))) (known r id s v)
        signers e in
        closed v (known r id s v) (filter_rises (knows id s v) 0 is (rising (vote_epoch v)))
        (known_backs r m id s told v is (known r id s v) (filter_in (knows id s v) is))
        (leb-true (quorum (length is)) (length (known r id s v)) w.0)

cert_keeps : (r : Rules) (m : Meaning) (id : ℕ) (s : State) → IsRising r → IsClosed r m
    → IsTold m id s → (v : Vote) (note : Note) → Unit {0} → cert_owed r id s v ≡ Some note
    → Keeps r m s.notes note
cert_keeps r m id s rising closed told v note u h = go (cases_Bool (has_cert s.notes v))
  where
    made : List ℕ → Note
    made signers = Note.Cert (record { vote = v; signers = signers })

    go : (has_cert s.notes v ≡ true) ⊎ (has_cert s.notes v ≡ false) → Keeps r m s.notes note
    go (inl t) = cc (cond-true (has_cert s.notes v) None (option_map made (signers_of r id s v)) t)
    go (inr f) =
        let (signers, e, g) =
        map_some made (signers_of r id s v) note
        (sym
        (cond-false (has_cert s.notes v) None (option_map made (signers_of r id s v)) f)
        ∙ h) in
        subst (Keeps r m s.notes) g (signers_hold r m id s rising closed told v signers e)

-- an owed note keeps to those before it
pub owed_keeps : (r : Rules) (m : Meaning) (id : ℕ) (s : State) → IsRising r → IsClosed r m
    → IsTold m id s → (note : Note) → owed r id s ≡ Some note → Keeps r m s.notes note
owed_keeps r m id s rising closed told note h = one (or_some a1 r1 note h)
  where
    Q : Note → Type 0
    Q = Keeps r m s.notes

    a1 : Option Note
    a1 = first_some (block_owed r s) (named_commitments r s)

    a2 : Option Note
    a2 = first_some (cert_owed r id s) (named_votes s)

    a3 : Option Note
    a3 = first_some (certified_owed r s) (named_proposals s)

    a4 : Option Note
    a4 = first_some (floor_owed r s) s.came.wishes

    a5 : Option Note
    a5 = epoch_owed r s

    a6 : Option Note
    a6 = first_some (notarize_owed r id s) (named_proposals s)

    a7 : Option Note
    a7 = first_some (finalize_owed r id s) (named_proposals s)

    r5 : Option Note
    r5 = option_or a6 a7

    r4 : Option Note
    r4 = option_or a5 r5

    r3 : Option Note
    r3 = option_or a4 r4

    r2 : Option Note
    r2 = option_or a3 r3

    r1 : Option Note
    r1 = option_or a2 r2

    six : (a6 ≡ Some note) ⊎ (a7 ≡ Some note) → Q note
    six (inl e) =
        first_some_at (notarize_owed r id s) (λ _. Unit {0}) Q (named_proposals s)
        (all_true (named_proposals s)) (notarize_keeps r m id s told) note e
    six (inr e) =
        first_some_at (finalize_owed r id s) (λ _. Unit {0}) Q (named_proposals s)
        (all_true (named_proposals s)) (finalize_keeps r m id s) note e

    five : (a5 ≡ Some note) ⊎ (r5 ≡ Some note) → Q note
    five (inl e) = epoch_keeps r m s note e
    five (inr e) = six (or_some a6 a7 note e)

    four : (a4 ≡ Some note) ⊎ (r4 ≡ Some note) → Q note
    four (inl e) =
        first_some_at (floor_owed r s) (λ _. Unit {0}) Q s.came.wishes (all_true s.came.wishes)
        (floor_keeps r m s) note e
    four (inr e) = five (or_some a5 r5 note e)

    three : (a3 ≡ Some note) ⊎ (r3 ≡ Some note) → Q note
    three (inl e) =
        first_some_at (certified_owed r s) (λ _. Unit {0}) Q (named_proposals s)
        (all_true (named_proposals s)) (certified_keeps r m s) note e
    three (inr e) = four (or_some a4 r4 note e)

    two : (a2 ≡ Some note) ⊎ (r2 ≡ Some note) → Q note
    two (inl e) =
        first_some_at (cert_owed r id s) (λ _. Unit {0}) Q (named_votes s)
        (all_true (named_votes s)) (cert_keeps r m id s rising closed told) note e
    two (inr e) = three (or_some a3 r3 note e)

    one : (a1 ≡ Some note) ⊎ (r1 ≡ Some note) → Q note
    one (inl e) =
        first_some_at (block_owed r s) (λ _. Unit {0}) Q (named_commitments r s)
        (all_true (named_commitments r s)) (block_keeps r m s) note e
    one (inr e) = two (or_some a2 r2 note e)
