-- What is owed may be counted.
use Rattle.std.proofs.Common.{◌≡◌, ◌++◌, ◌+◌, ℕ, zero, suc, Bool, true, false, List, [], ◌∷◌, map, filter, slice_get, Option, Some, None, IfSome, IsTrue, refl, sym, ◌∙◌, subst, if◌then◌else◌, option_map}
use Rattle.std.specs.List.{enumerate_from, filter_map, find, list_all}
use Rattle.std.specs.Option.{option_or}
use Rattle.std.proofs.lemmas.Bool.{and_from, and_parts}
use Rattle.std.proofs.lemmas.Option.{same_Some}
use Rattle.cw_base.specs.declared.hash.Digest32.{Digest32}
use Rattle.cw_types.specs.Votes.{is_ordered, proposal_of, well_formed}
use Rattle.cw_types.specs.declared.note.Note.{Note}
use Rattle.cw_types.specs.declared.vote.Proposal.{Proposal}
use Rattle.cw_types.specs.declared.vote.Vote.{Vote}
use Rattle.cw_types.specs.declared.vote.Vote.TheVariants.{Finalize, Notarize, Nullify}
use Rattle.cw_rules.specs.Accepted.{Ballot, first_some}
use Rattle.cw_rules.specs.Notes.{has_cert}
use Rattle.cw_rules.specs.Owed.{ballot_vote, cert_owed, finalize_owed, named_proposals, named_votes, note_proposal, note_vote, notarize_owed, signers_of, when}
use Rattle.note_scans.specs.Countable.{is_countable}
use Rattle.voter.specs.Known.{Known, known_state, vote_rules}
use Rattle.voter.specs.Owing as owing
use Rattle.voter.specs.Standing.{is_formed}

module _ {X : Type 0} (P : X → Bool) where
  all_more : (xs ys : List X) → list_all P xs ≡ true → list_all P ys ≡ true
      → list_all P (xs ++ ys) ≡ true
  all_more [] ys a b = b
  all_more (x ∷ xs) ys a b =
      let p = and_parts (P x) (list_all P xs) a in
      and_from (P x) (list_all P (xs ++ ys)) p.0 (all_more xs ys p.1 b)

  -- what is answered first is answered at an element that passes
  first_passes : {Y : Type 0} (f : X → Option Y) (n : Y) (Q : Type 0)
      → ((x : X) → P x ≡ true → f x ≡ Some n → Q) → (xs : List X) → list_all P xs ≡ true
      → first_some f xs ≡ Some n → Q
  first_passes f n Q each [] a h = cc
  first_passes {Y = Y} f n Q each (x ∷ xs) a h =
      let p = and_parts (P x) (list_all P xs) a in
      go (f x) refl p.0 h (first_passes f n Q each xs p.1)
    where
      go : (o : Option Y) → f x ≡ o → P x ≡ true → option_or (f x) (first_some f xs) ≡ Some n
          → (first_some f xs ≡ Some n → Q) → Q
      go (Some y) e passes k later = each x passes (e ∙ (rw e at k))
      go None e passes k later = later (rw e at k)

  -- what is found of elements that pass a test passes one
  all_found : {W : Type 0} (g : W → Option X) (R : W → Bool)
      → ((y : W) (x : X) → R y ≡ true → g y ≡ Some x → P x ≡ true) → (ys : List W)
      → list_all R ys ≡ true → list_all P (filter_map g ys) ≡ true
  all_found g R each [] a = refl
  all_found {W = W} g R each (y ∷ ys) a =
      let p = and_parts (R y) (list_all R ys) a in go (g y) refl p.0 (all_found g R each ys p.1)
    where
      go : (o : Option X) → g y ≡ o → R y ≡ true → list_all P (filter_map g ys) ≡ true
          → list_all P (filter_map g (y ∷ ys)) ≡ true
      go None e r more = rw e more
      go (Some x) e r more =
          rw e (and_from (P x) (list_all P (filter_map g ys)) (each y x r e) more)

  -- what is found passes
  found_one : (q : X → Bool) (xs : List X) (x : X) → list_all P xs ≡ true → find q xs ≡ Some x
      → P x ≡ true
  found_one q [] x a h = cc
  found_one q (y ∷ ys) x a h =
      let p = and_parts (P y) (list_all P ys) a in go (q y) refl p.0 (found_one q ys x p.1) h
    where
      go : (b : Bool) → q y ≡ b → P y ≡ true → (find q ys ≡ Some x → P x ≡ true)
          → find q (y ∷ ys) ≡ Some x → P x ≡ true
      go true e here more k =
          let same : y ≡ x = same_Some y x (rw e at k) in subst (λ z. P z ≡ true) same here
      go false e here more k = more (rw e at k)

  -- so does what stands at a place
  one_at : (xs : List X) (i : ℕ) (x : X) → list_all P xs ≡ true → slice_get xs i ≡ Some x
      → P x ≡ true
  one_at [] i x a h = cc
  one_at (y ∷ ys) zero x a h =
      let same : y ≡ x = cc in subst (λ z. P z ≡ true) same (and_parts (P y) (list_all P ys) a).0
  one_at (y ∷ ys) (suc i) x a h = one_at ys i x (and_parts (P y) (list_all P ys) a).1 h

  -- and what is picked by its place
  picked_pass : (q : ℕ × X → Bool) (n : ℕ) (xs : List X) → list_all P xs ≡ true
      → list_all P (map (λ (at : ℕ × X). at.1) (filter q (enumerate_from n xs))) ≡ true
  picked_pass q n [] a = refl
  picked_pass q n (x ∷ xs) a =
      let p = and_parts (P x) (list_all P xs) a in
      go (q (n, x)) refl p.0 (picked_pass q (n + 1) xs p.1)
    where
      go : (b : Bool) → q (n, x) ≡ b → P x ≡ true
          → list_all P (map (λ (at : ℕ × X). at.1) (filter q (enumerate_from (n + 1) xs))) ≡ true
          → list_all P (map (λ (at : ℕ × X). at.1) (filter q (enumerate_from n (x ∷ xs)))) ≡ true
      go true e here more =
          rw e
          (and_from (P x)
          (list_all P (map (λ (at : ℕ × X). at.1) (filter q (enumerate_from (n + 1) xs))))
          here more)
      go false e here more = rw e more

-- the proposal of a vote that may be counted is ordered
proposal_ordered : (v : Vote) (p : Proposal) → well_formed v ≡ true → proposal_of v ≡ Some p
    → is_ordered p ≡ true
proposal_ordered (Notarize q) p h e =
    let same : q ≡ p = cc in subst (λ x. is_ordered x ≡ true) same h
proposal_ordered (Finalize q) p h e =
    let same : q ≡ p = cc in subst (λ x. is_ordered x ≡ true) same h
proposal_ordered (Nullify epoch view) p h e = cc

note_formed : (n : Note) (v : Vote) → is_countable n ≡ true → note_vote n ≡ Some v
    → well_formed v ≡ true
note_formed (Note.Vote w) v h e = let same : w ≡ v = cc in subst (λ x. well_formed x ≡ true) same h
note_formed (Note.Cert s) v h e =
    let same : s.vote ≡ v = cc in subst (λ x. well_formed x ≡ true) same h
note_formed (Note.Block c b) v h e = cc
note_formed (Note.Verified epoch view c) v h e = cc
note_formed (Note.Certified p) v h e = cc
note_formed (Note.Ack n) v h e = cc
note_formed (Note.Floor n) v h e = cc
note_formed (Note.Prune n) v h e = cc
note_formed (Note.Epoch n c) v h e = cc

note_ordered : (n : Note) (p : Proposal) → is_countable n ≡ true → note_proposal n ≡ Some p
    → is_ordered p ≡ true
note_ordered (Note.Vote w) p h e = proposal_ordered w p h e
note_ordered (Note.Cert s) p h e = proposal_ordered s.vote p h e
note_ordered (Note.Certified q) p h e =
    let same : q ≡ p = cc in subst (λ x. is_ordered x ≡ true) same h
note_ordered (Note.Block c b) p h e = cc
note_ordered (Note.Verified epoch view c) p h e = cc
note_ordered (Note.Ack n) p h e = cc
note_ordered (Note.Floor n) p h e = cc
note_ordered (Note.Prune n) p h e = cc
note_ordered (Note.Epoch n c) p h e = cc

formed_ballots : (xs : List Ballot) → list_all is_formed xs ≡ true
    → list_all well_formed (map ballot_vote xs) ≡ true
formed_ballots [] a = refl
formed_ballots (x ∷ xs) a =
    let p = and_parts (is_formed x) (list_all is_formed xs) a in
    and_from (well_formed (ballot_vote x)) (list_all well_formed (map ballot_vote xs)) p.0
    (formed_ballots xs p.1)

module _ (t : Known) (notes : list_all is_countable t.notes ≡ true)
    (ballots : list_all is_formed t.ballots ≡ true) where
  pub votes_formed : list_all well_formed (named_votes (known_state t)) ≡ true
  votes_formed =
      all_more well_formed (map ballot_vote t.ballots) (filter_map note_vote t.notes)
      (formed_ballots t.ballots ballots)
      (all_found well_formed note_vote is_countable note_formed t.notes notes)

  proposals_ordered : list_all is_ordered (named_proposals (known_state t)) ≡ true
  proposals_ordered =
      all_more is_ordered (filter_map (λ x. proposal_of (ballot_vote x)) t.ballots)
      (filter_map note_proposal t.notes)
      (all_found is_ordered (λ x. proposal_of (ballot_vote x)) is_formed
      (λ x p h e. proposal_ordered (ballot_vote x) p h e) t.ballots ballots)
      (all_found is_ordered note_proposal is_countable note_ordered t.notes notes)

  -- a vote that is found among those that are named may be counted
  pub found_formed : (p : Vote → Bool) (v : Vote) → find p (named_votes (known_state t)) ≡ Some v
      → well_formed v ≡ true
  found_formed p v e = found_one well_formed p (named_votes (known_state t)) v votes_formed e

  candidates_ordered : (passes : Proposal → Bool)
      → list_all is_ordered (owing.candidates t passes) ≡ true
  candidates_ordered passes =
      picked_pass is_ordered (owing.is_candidate t passes) 0 (named_proposals (known_state t))
      proposals_ordered

  -- a proposal that isn't certified may be noted so
  pub certified_countable : (fits : Proposal → Bool) (p : Proposal)
      → find fits (owing.uncertified t) ≡ Some p → is_countable (Note.Certified p) ≡ true
  certified_countable fits p e =
      found_one is_ordered fits (owing.uncertified t) p
      (candidates_ordered (owing.is_uncertified t.notes)) e

  pub uncertified_counts : {X : Type 0} (of : X → Proposal) (i : ℕ) (o : Option X)
      → option_map of o ≡ slice_get (owing.uncertified t) i
      → IfSome o (λ x. IsTrue (is_ordered (of x)))
  uncertified_counts of i None e = tt
  uncertified_counts of i (Some x) e =
      one_at is_ordered (owing.uncertified t) i (of x)
      (candidates_ordered (owing.is_uncertified t.notes)) (sym e)

  -- a vote for what is votable may be noted
  pub votable_counts : (i : ℕ) (o : Option Proposal) → o ≡ slice_get (owing.votable t) i
      → IfSome o (λ p. IsTrue (is_countable (Note.Vote (Notarize p))))
  votable_counts i None e = tt
  votable_counts i (Some p) e =
      one_at is_ordered (owing.votable t) i p (candidates_ordered (owing.is_votable t)) (sym e)

module _ (hash : List ℕ → Digest32) (t : Known) (notes : list_all is_countable t.notes ≡ true)
    (ballots : list_all is_formed t.ballots ≡ true) where
  cert_counts : (v : Vote) (n : Note) → well_formed v ≡ true
      → cert_owed (vote_rules hash t.epochs) t.id (known_state t) v ≡ Some n → is_countable n ≡ true
  cert_counts v n h e =
      go (has_cert t.notes v) (signers_of (vote_rules hash t.epochs) t.id (known_state t) v) e
    where
      go : (b : Bool) (o : Option (List ℕ))
          → (if b then None else option_map (λ signers. Note.Cert (record {
            vote = v;
            signers = signers;
          })) o)
          ≡ Some n
          → is_countable n ≡ true
      go true o k = cc
      go false None k = cc
      go false (Some signers) k =
          let same : Note.Cert (record { vote = v; signers = signers }) ≡ n = cc in
          subst (λ m. is_countable m ≡ true) same h

  pub cert_countable : (n : Note) → owing.first_cert_owed hash t ≡ Some n → is_countable n ≡ true
  cert_countable n e =
      first_passes well_formed (cert_owed (vote_rules hash t.epochs) t.id (known_state t)) n
      (is_countable n ≡ true) (λ v h k. cert_counts v n h k) (named_votes (known_state t))
      (votes_formed t notes ballots) e

  when_counts : (b : Bool) (m n : Note) → is_countable m ≡ true → when b m ≡ Some n
      → is_countable n ≡ true
  when_counts true m n h k = let same : m ≡ n = cc in subst (λ x. is_countable x ≡ true) same h
  when_counts false m n h k = cc

  finalize_countable : (n : Note) → owing.first_finalize_owed hash t ≡ Some n → is_countable n
      ≡ true
  finalize_countable n e =
      first_passes is_ordered (finalize_owed (vote_rules hash t.epochs) t.id (known_state t)) n
      (is_countable n ≡ true) (λ p h m. when_counts _ (Note.Vote (Finalize p)) n h m)
      (named_proposals (known_state t)) (proposals_ordered t notes ballots) e

  pub vote_countable : (n : Note) → owing.vote_owed hash t ≡ Some n → is_countable n ≡ true
  vote_countable n e = go (owing.first_notarize_owed hash t) refl e
    where
      notarize : owing.first_notarize_owed hash t ≡ Some n → is_countable n ≡ true
      notarize k =
          first_passes is_ordered (notarize_owed (vote_rules hash t.epochs) t.id (known_state t)) n
          (is_countable n ≡ true) (λ p h m. when_counts _ (Note.Vote (Notarize p)) n h m)
          (named_proposals (known_state t)) (proposals_ordered t notes ballots) k

      go : (o : Option Note) → owing.first_notarize_owed hash t ≡ o
          → option_or (owing.first_notarize_owed hash t) (owing.first_finalize_owed hash t) ≡ Some n
          → is_countable n ≡ true
      go (Some m) f k = notarize (f ∙ (rw f at k))
      go None f k = finalize_countable n (rw f at k)

  -- so the vote to finalize alone may be noted
  pub final_countable : (o : Option Vote) → option_map Note.Vote o
      ≡ owing.first_finalize_owed hash t
      → IfSome o (λ v. IsTrue (is_countable (Note.Vote v)))
  final_countable None e = tt
  final_countable (Some v) e = finalize_countable (Note.Vote v) (sym e)

  -- so may the vote that is given
  pub given_countable : (o : Option Vote) → option_map Note.Vote o ≡ owing.vote_owed hash t
      → IfSome o (λ v. IsTrue (is_countable (Note.Vote v)))
  given_countable None e = tt
  given_countable (Some v) e = vote_countable (Note.Vote v) (sym e)

  -- so may the vote that is found
  pub found_counts : (p : Vote → Bool) (o : Option Vote) → o ≡ find p (named_votes (known_state t))
      → IfSome o (λ v. IsTrue (well_formed v))
  found_counts p None e = tt
  found_counts p (Some v) e = found_formed t notes ballots p v (sym e)
