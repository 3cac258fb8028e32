-- Who signs a certificate that is owed.
use Rattle.std.proofs.Common.{◌≡◌, ◌&&◌, ◌==◌, ◌<◌, ◌≤◌, ◌⊎◌, inl, inr, ℕ, Bool, true, false, nat_le, nat_lt, List, [], ◌∷◌, length, filter, option_map, unwrap_or, refl, sym, arith, subst, eq-eqb, eqb-true, leb-false}
use Rattle.std.specs.List.{find, list_all, list_any}
use Rattle.std.proofs.lemmas.Bool.{and_from, and_parts, cases_Bool, or_left, or_right}
use Rattle.cw_types.specs.Epochs.{Epochs, is_committee, is_member, members_in, rises_from}
use Rattle.cw_types.specs.Same.{same_vote}
use Rattle.cw_types.specs.Votes.{vote_epoch}
use Rattle.cw_types.specs.declared.vote.Vote.{Vote}
use Rattle.cw_rules.specs.Accepted.{Ballot, Many, Single}
use Rattle.cw_types.proofs.Same.{same_vote-true}
use Rattle.voter.specs.Known.{ballot_signers, is_cert_for}
use Rattle.voter.specs.Standing.{are_signers, is_signed}
use Rattle.cw_types.proofs.EpochLemmas.{committee_size}
use Rattle.cw_rules.proofs.Lists.{filter_rises}

filter_passes : (q p : ℕ → Bool) (xs : List ℕ) → list_all q xs ≡ true
    → list_all q (filter p xs) ≡ true
filter_passes q p [] h = refl
filter_passes q p (x ∷ xs) h =
    let r = and_parts (q x) (list_all q xs) h in go (p x) refl r.0 (filter_passes q p xs r.1)
  where
    go : (b : Bool) → p x ≡ b → q x ≡ true → list_all q (filter p xs) ≡ true
        → list_all q (filter p (x ∷ xs)) ≡ true
    go true e here more = rw e (and_from (q x) (list_all q (filter p xs)) here more)
    go false e here more = rw e more

all_weaker : (q r : ℕ → Bool) → ((i : ℕ) → q i ≡ true → r i ≡ true) → (xs : List ℕ)
    → list_all q xs ≡ true → list_all r xs ≡ true
all_weaker q r f [] h = refl
all_weaker q r f (x ∷ xs) h =
    let p = and_parts (q x) (list_all q xs) h in
    and_from (r x) (list_all r xs) (f x p.0) (all_weaker q r f xs p.1)

-- each of some numbers is among them
all_there : (xs : List ℕ) → list_all (λ i. list_any (λ j. j == i) xs) xs ≡ true
all_there [] = refl
all_there (x ∷ xs) =
    and_from (list_any (λ j. j == x) (x ∷ xs)) (list_all (λ i. list_any (λ j. j == i) (x ∷ xs)) xs)
    (or_left (x == x) (list_any (λ j. j == x) xs) (eq-eqb x x refl))
    (all_weaker (λ i. list_any (λ j. j == i) xs) (λ i. list_any (λ j. j == i) (x ∷ xs))
    (λ i h. or_right (x == i) (list_any (λ j. j == i) xs) h) xs (all_there xs))

-- what is among numbers that pass a test passes it
there_passes : (q : ℕ → Bool) (ys : List ℕ) (i : ℕ) → list_all q ys ≡ true
    → list_any (λ j. j == i) ys ≡ true → q i ≡ true
there_passes q [] i a h = cc
there_passes q (y ∷ ys) i a h =
    let p = and_parts (q y) (list_all q ys) a in
    go (cases_Bool (y == i)) p.0 (there_passes q ys i p.1)
  where
    go : ((y == i) ≡ true) ⊎ ((y == i) ≡ false) → q y ≡ true
        → (list_any (λ j. j == i) ys ≡ true → q i ≡ true) → q i ≡ true
    go (inl e) here more = subst (λ j. q j ≡ true) (eqb-true y i e) here
    go (inr e) here more = more (rw e at h)

-- what rises and is below the total, of a committee
pub committee_rises : (total : ℕ) (list : List ℕ) → is_committee total list ≡ true
    → (rises_from 0 list ≡ true) × (list_all (λ i. nat_lt i total) list ≡ true)
committee_rises total list h =
    let p =
    and_parts (nat_le 4 (length list) && rises_from 0 list)
    (list_all (λ i. nat_lt i total) list) h in
    let q = and_parts (nat_le 4 (length list)) (rises_from 0 list) p.0 in
    (q.1, p.1)

module _ (x : Epochs) (v : Vote) where
  -- members of a committee that are picked may sign
  picked_sign : (total : ℕ) (p : ℕ → Bool) → is_committee total (members_in x (vote_epoch v)) ≡ true
      → are_signers x v (filter p (members_in x (vote_epoch v))) ≡ true
  picked_sign total p h =
      and_from (rises_from 0 (filter p (members_in x (vote_epoch v))))
      (list_all (is_member x (vote_epoch v)) (filter p (members_in x (vote_epoch v))))
      (filter_rises p 0 (members_in x (vote_epoch v))
      (committee_rises total (members_in x (vote_epoch v)) h).0)
      (filter_passes (is_member x (vote_epoch v)) p (members_in x (vote_epoch v))
      (all_there (members_in x (vote_epoch v))))

  -- so may those of the first certificate that came, or those spare ones
  first_sign : (ballots : List Ballot) (spare : List ℕ) → list_all (is_signed x) ballots ≡ true
      → are_signers x v spare ≡ true
      → are_signers x v (unwrap_or (option_map ballot_signers (find (is_cert_for v) ballots)) spare)
      ≡ true
  first_sign [] spare a h = h
  first_sign (Single i w ∷ ballots) spare a h = first_sign ballots spare a h
  first_sign (Many s ∷ ballots) spare a h =
      let p = and_parts (are_signers x s.vote s.signers) (list_all (is_signed x) ballots) a in
      go (same_vote v s.vote) refl p.0 (first_sign ballots spare p.1 h)
    where
      go : (b : Bool) → same_vote v s.vote ≡ b → are_signers x s.vote s.signers ≡ true
          → are_signers x v
          (unwrap_or (option_map ballot_signers (find (is_cert_for v) ballots)) spare)
          ≡ true
          → are_signers x v
          (unwrap_or (option_map ballot_signers (find (is_cert_for v) (Many s ∷ ballots)))
          spare)
          ≡ true
      go true e own more =
          rw e (subst (λ w. are_signers x w s.signers ≡ true) (sym (same_vote-true v s.vote e)) own)
      go false e own more = rw e more

  pub chosen_sign : (total : ℕ) (ballots : List Ballot) (p : ℕ → Bool)
      → is_committee total (members_in x (vote_epoch v)) ≡ true
      → list_all (is_signed x) ballots ≡ true
      → are_signers x v
      (unwrap_or (option_map ballot_signers (find (is_cert_for v) ballots))
      (filter p (members_in x (vote_epoch v))))
      ≡ true
  chosen_sign total ballots p h a =
      first_sign ballots (filter p (members_in x (vote_epoch v))) a (picked_sign total p h)

  -- no more sign than there are members
  few_sign : (total : ℕ) (signers : List ℕ)
      → is_committee total (members_in x (vote_epoch v)) ≡ true → are_signers x v signers ≡ true
      → length signers ≤ total
  few_sign total signers h s =
      let p = and_parts (rises_from 0 signers) (list_all (is_member x (vote_epoch v)) signers) s in
      let below =
      all_weaker (is_member x (vote_epoch v)) (λ i. nat_lt i total)
      (λ i m. there_passes (λ j. nat_lt j total) (members_in x (vote_epoch v)) i
      (committee_rises total (members_in x (vote_epoch v)) h).1 m)
      signers p.1 in
      let size = committee_size total (members_in x (vote_epoch v)) h in
      go size.enough size.within p.0 below (cases_Bool (nat_le 4 (length signers)))
    where
      go : 4 ≤ length (members_in x (vote_epoch v)) → length (members_in x (vote_epoch v)) ≤ total
          → rises_from 0 signers ≡ true → list_all (λ i. nat_lt i total) signers ≡ true
          → (nat_le 4 (length signers) ≡ true) ⊎ (nat_le 4 (length signers) ≡ false)
          → length signers ≤ total
      go four within rise below (inl t) =
          (committee_size total signers (and_from _ _ (and_from _ _ t rise) below)).within
      go four within rise below (inr f) =
          let few : length signers < 4 = leb-false 4 (length signers) f in omega arith

  -- and no more than there are members
  pub chosen_few : (total : ℕ) (ballots : List Ballot) (p : ℕ → Bool)
      → is_committee total (members_in x (vote_epoch v)) ≡ true
      → list_all (is_signed x) ballots ≡ true
      → length
      (unwrap_or (option_map ballot_signers (find (is_cert_for v) ballots))
      (filter p (members_in x (vote_epoch v))))
      ≤ total
  chosen_few total ballots p h a =
      few_sign total
      (unwrap_or (option_map ballot_signers (find (is_cert_for v) ballots))
      (filter p (members_in x (vote_epoch v))))
      h (chosen_sign total ballots p h a)
