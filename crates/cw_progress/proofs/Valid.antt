-- Each certificate that a live member noted is valid by the signatures.
use Rattle.std.proofs.Common.{◌≡◌, ℕ, zero, suc, Bool, true, ◌&&◌, ◌||◌, ◌==◌, nat_le, List, [], ◌∷◌, ◌++◌, Some, None, length, option_map, slice_get, refl, sym, ◌∙◌, ap, subst, inl, inr, ◌⊎◌, eq-eqb, eqb-true, IsTrue}
use Rattle.std.specs.List.{AllByRecursion, list_all, list_any}
use Rattle.std.proofs.lemmas.Bool.{and_from, and_parts, false≢true, or_cases, or_left, or_right}
use Rattle.cw_types.specs.declared.event.Event.{Event}
use Rattle.cw_types.specs.declared.message.Message.{Message}
use Rattle.cw_types.specs.declared.note.Note.{Note}
use Rattle.cw_types.specs.declared.vote.Cert.{Cert}
use Rattle.cw_types.specs.declared.vote.Proposal.{Proposal}
use Rattle.cw_types.specs.declared.vote.Vote.{Vote}
use Rattle.cw_types.specs.declared.vote.Vote.TheVariants.{Finalize, Notarize, Nullify}
use Rattle.cw_types.specs.Epochs.{is_enough, is_member, members_in, rises_from, size}
use Rattle.cw_types.specs.Numbers.{quorum}
use Rattle.cw_types.specs.Same.{same_vote}
use Rattle.cw_types.specs.Votes.{vote_epoch, well_formed}
use Rattle.cw_types.proofs.Same.{same_vote-true, same_vote_self}
use Rattle.cw_rules.specs.Accepted.{Ballot, Many, Single, State, first_some, is_valid}
use Rattle.cw_rules.specs.Fits.{block_fits}
use Rattle.cw_rules.specs.Keeps.{AllKeep, IsRising, Keeps, meaning}
use Rattle.cw_rules.specs.Notes.{has_cert, has_vote, is_cert, is_vote}
use Rattle.cw_rules.specs.Owed.{is_single, known, knows, signers_in, signers_of, when}
use Rattle.cw_rules.specs.Reached.{In, IsCluster, IsSigned, Reaches, members_of}
use Rattle.cw_rules.specs.Rules.{Rules}
use Rattle.cw_rules.specs.Sends.{to_all}
use Rattle.cw_rules.specs.Stands.{AreLawful, EachAfter, Members, Stands}
use Rattle.cw_rules.specs.Step.{Member, member_notes, state_of, taken}
use Rattle.cw_rules.specs.World.{Line, Sent, World, is_sent_vote, is_vote_of, member_at, signed}
use Rattle.cw_rules.proofs.Chain.{finalized_notarized}
use Rattle.cw_rules.proofs.Lists.{filter_in, filter_rises, in_left, is_in, when_some}
use Rattle.cw_rules.proofs.NoteLemmas.{found_after, vote_note}
use Rattle.cw_rules.proofs.Quorums.{sharer}
use Rattle.cw_rules.proofs.Reach.{reached_keep, reached_lawful}
use Rattle.cw_rules.proofs.Worlds.{get-map, member_there}
use Rattle.cw_progress.specs.Sent.{IsSent}
use Rattle.cw_progress.proofs.Carries.{AnyLine, Extends, Turning, Writes, any_lines, each_at, reached_all, writes_carry}
use Rattle.cw_progress.proofs.Noted.{noted_sent}
use Rattle.cw_progress.proofs.Rests.{first_found, noted_as, or_split, step_each}
use Rattle.cw_progress.proofs.Taken.{ballots_taken}

-- ---- what is signed

-- who sent a vote signed it, and the member itself where it noted it
abbrev signs_too : World → ℕ → List Note → ℕ → Vote → Bool
signs_too w i notes j v = signed w j v || ((j == i) && has_vote notes v)

-- a quorum of rising members of its epoch signed the certificate's vote
record IsCounted (r : Rules) (sign : ℕ → Vote → Bool) (s : Cert) : Type 0 where
  pub rising : rises_from 0 s.signers ≡ true
  pub each : list_all (λ i. is_member r.epochs (vote_epoch s.vote) i && sign i s.vote) s.signers
      ≡ true
  pub enough : is_enough r.epochs (vote_epoch s.vote) (length s.signers) ≡ true

counted_valid : (r : Rules) (sign : ℕ → Vote → Bool) (s : Cert) → is_valid r sign s ≡ true
    → IsCounted r sign s
counted_valid r sign s h =
    let all = list_all (λ i. is_member r.epochs (vote_epoch s.vote) i && sign i s.vote) s.signers
    in
    let a =
    and_parts (well_formed s.vote && rises_from 0 s.signers && all)
    (is_enough r.epochs (vote_epoch s.vote) (length s.signers)) h in
    let b = and_parts (well_formed s.vote && rises_from 0 s.signers) all a.0 in
    let c = and_parts (well_formed s.vote) (rises_from 0 s.signers) b.0 in
    record { rising = c.1; each = b.1; enough = a.1 }

valid_counted : (r : Rules) (sign : ℕ → Vote → Bool) (s : Cert) → well_formed s.vote ≡ true
    → IsCounted r sign s → is_valid r sign s ≡ true
valid_counted r sign s f c =
    let all = list_all (λ i. is_member r.epochs (vote_epoch s.vote) i && sign i s.vote) s.signers
    in
    and_from (well_formed s.vote && rises_from 0 s.signers && all)
    (is_enough r.epochs (vote_epoch s.vote) (length s.signers))
    (and_from (well_formed s.vote && rises_from 0 s.signers) all
    (and_from (well_formed s.vote) (rises_from 0 s.signers) f c.rising) c.each)
    c.enough

-- each of some passes a weaker test
all_more : (p q : ℕ → Bool) → ((i : ℕ) → p i ≡ true → q i ≡ true) → (xs : List ℕ)
    → list_all p xs ≡ true → list_all q xs ≡ true
all_more p q f [] h = refl
all_more p q f (x ∷ xs) h =
    let a = and_parts (p x) (list_all p xs) h in
    and_from (q x) (list_all q xs) (f x a.0) (all_more p q f xs a.1)

counted_more : (r : Rules) (before after : ℕ → Vote → Bool) (s : Cert)
    → ((i : ℕ) → before i s.vote ≡ true → after i s.vote ≡ true) → IsCounted r before s
    → IsCounted r after s
counted_more r before after s f c = record {
  rising = c.rising;
  each =
      all_more (λ i. is_member r.epochs (vote_epoch s.vote) i && before i s.vote)
      (λ i. is_member r.epochs (vote_epoch s.vote) i && after i s.vote)
      (λ i h.
      let a = and_parts (is_member r.epochs (vote_epoch s.vote) i) (before i s.vote) h in
      and_from (is_member r.epochs (vote_epoch s.vote) i) (after i s.vote) a.0 (f i a.1))
      s.signers c.each;
  enough = c.enough;
}

-- a valid certificate's vote may be counted
pub valid_formed : (r : Rules) (sign : ℕ → Vote → Bool) (s : Cert) → is_valid r sign s ≡ true
    → well_formed s.vote ≡ true
valid_formed r sign s h =
    let all = list_all (λ i. is_member r.epochs (vote_epoch s.vote) i && sign i s.vote) s.signers
    in
    let a =
    and_parts (well_formed s.vote && rises_from 0 s.signers && all)
    (is_enough r.epochs (vote_epoch s.vote) (length s.signers)) h in
    let b = and_parts (well_formed s.vote && rises_from 0 s.signers) all a.0 in
    (and_parts (well_formed s.vote) (rises_from 0 s.signers) b.0).0

-- it stays valid where more is signed
pub valid_more : (r : Rules) (before after : ℕ → Vote → Bool) (s : Cert)
    → ((i : ℕ) → before i s.vote ≡ true → after i s.vote ≡ true) → is_valid r before s ≡ true
    → is_valid r after s ≡ true
valid_more r before after s f h =
    valid_counted r after s (valid_formed r before s h)
    (counted_more r before after s f (counted_valid r before s h))

-- ---- what is noted

-- a certificate is counted when it is noted
abbrev CountedNote : Rules → World → ℕ → List Note → Note → Type 0
CountedNote r w i before (Note.Cert s) = IsCounted r (signs_too w i before) s
CountedNote r w i before _ = Unit {0}

-- what came of a live member is signed
came_signed : (r : Rules) (script : List Line) (w : World) (i : ℕ) (m : Member) (e : Event)
    → Turning r script AnyLine w i m e → (b : Ballot)
    → In b (taken r (signed w) (state_of m) e).came.ballots → IsSigned r (signed w) b
came_signed r script w i m e t b h = go (ballots_taken r (signed w) m.came e b h)
  where
    all : (bs : List Ballot) → AllByRecursion (IsSigned r (signed w)) bs → In b bs
        → IsSigned r (signed w) b
    all [] a h = absurd h
    all (x ∷ xs) a (inl s) = subst (IsSigned r (signed w)) (sym s) a.0
    all (x ∷ xs) a (inr h) = all xs a.1 h

    go : In b m.came.ballots ⊎ IsSigned r (signed w) b → IsSigned r (signed w) b
    go (inl a) = all m.came.ballots (t.kept.each i m t.at).signers a
    go (inr s) = s

-- a vote that came is signed by its signer
single_signed : (r : Rules) (w : World) (bs : List Ballot) (i : ℕ) (v : Vote)
    → ((b : Ballot) → In b bs → IsSigned r (signed w) b) → list_any (is_single i v) bs ≡ true
    → signed w i v ≡ true
single_signed r w [] i v all h = absurd (false≢true h)
single_signed r w (Many s ∷ bs) i v all h = single_signed r w bs i v (λ b a. all b (inr a)) h
single_signed r w (Single j x ∷ bs) i v all h =
    go (or_cases ((i == j) && same_vote v x) (list_any (is_single i v) bs) h)
    (single_signed r w bs i v (λ b a. all b (inr a)))
  where
    here : signed w j x ≡ true
    here = all (Single j x) (inl refl)

    go : (((i == j) && same_vote v x) ≡ true) ⊎ (list_any (is_single i v) bs ≡ true)
        → (list_any (is_single i v) bs ≡ true → signed w i v ≡ true) → signed w i v ≡ true
    go (inl t) later =
        let a = and_parts (i == j) (same_vote v x) t in
        ap (λ k. signed w k v) (eqb-true i j a.0)
        ∙ (ap (signed w j) (same_vote-true v x a.1) ∙ here)
    go (inr t) later = later t

-- the signers of a certificate that is owed
owed_counted : (r : Rules) (w : World) (i : ℕ) (s : State) (v : Vote) (signers : List ℕ)
    → IsRising r → ((b : Ballot) → In b s.came.ballots → IsSigned r (signed w) b)
    → signers_of r i s v ≡ Some signers
    → IsCounted r (signs_too w i s.notes) (record { vote = v; signers = signers })
owed_counted r w i s v signers rising all h =
    go
    (or_split (first_some (signers_in v) s.came.ballots)
    (when (nat_le (quorum (size r.epochs (vote_epoch v))) (length (known r i s v)))
    (known r i s v))
    signers h)
  where
    by_many : (t : Cert) → In (Many t) s.came.ballots
        → when (same_vote v t.vote) t.signers ≡ Some signers
        → IsCounted r (signs_too w i s.notes) (record { vote = v; signers = signers })
    by_many t at e =
        let a = when_some (same_vote v t.vote) t.signers signers e in
        let same = same_vote-true v t.vote a.0 in
        let valid : is_valid r (signed w) t ≡ true = all (Many t) at in
        let c =
        counted_more r (signed w) (signs_too w i s.notes) t
        (λ j y. or_left (signed w j t.vote) ((j == i) && has_vote s.notes t.vote) y)
        (counted_valid r (signed w) t valid) in
        subst (λ x. IsCounted r (signs_too w i s.notes) (record { vote = x; signers = signers }))
        (sym same)
        (subst
        (λ xs. IsCounted r (signs_too w i s.notes) (record { vote = t.vote; signers = xs })) a.1
        c)

    by_ballot : (b : Ballot) → In b s.came.ballots → signers_in v b ≡ Some signers
        → IsCounted r (signs_too w i s.notes) (record { vote = v; signers = signers })
    by_ballot (Single j x) at e = cc
    by_ballot (Many t) at e = by_many t at e

    knows_signs : (j : ℕ) → knows i s v j ≡ true → signs_too w i s.notes j v ≡ true
    knows_signs j k =
        by_or
        (or_cases (list_any (is_single j v) s.came.ballots) ((j == i) && has_vote s.notes v) k)
      where
        by_or : (list_any (is_single j v) s.came.ballots ≡ true)
            ⊎ (((j == i) && has_vote s.notes v) ≡ true)
            → signs_too w i s.notes j v ≡ true
        by_or (inl a) =
            or_left (signed w j v) ((j == i) && has_vote s.notes v)
            (single_signed r w s.came.ballots j v all a)
        by_or (inr b) = or_right (signed w j v) ((j == i) && has_vote s.notes v) b

    each : (xs : List ℕ)
        → AllByRecursion
        (λ j. IsTrue (is_in (members_in r.epochs (vote_epoch v)) j) × (knows i s v j ≡ true)) xs
        → list_all
        (λ j. is_member r.epochs (vote_epoch v) j && signs_too w i s.notes j v) xs
        ≡ true
    each [] a = refl
    each (x ∷ xs) a =
        and_from (is_member r.epochs (vote_epoch v) x && signs_too w i s.notes x v)
        (list_all (λ j. is_member r.epochs (vote_epoch v) j && signs_too w i s.notes j v) xs)
        (and_from (is_member r.epochs (vote_epoch v) x) (signs_too w i s.notes x v) a.0.0
        (knows_signs x a.0.1))
        (each xs a.1)

    by_known : when (nat_le (quorum (size r.epochs (vote_epoch v))) (length (known r i s v)))
        (known r i s v)
        ≡ Some signers
        → IsCounted r (signs_too w i s.notes) (record { vote = v; signers = signers })
    by_known e =
        let a =
        when_some (nat_le (quorum (size r.epochs (vote_epoch v))) (length (known r i s v)))
        (known r i s v) signers e in
        subst (λ xs. IsCounted r (signs_too w i s.notes) (record { vote = v; signers = xs })) a.1
        (record {
          rising =
              filter_rises (knows i s v) 0 (members_in r.epochs (vote_epoch v))
              (rising (vote_epoch v));
          each =
              each (known r i s v)
              (filter_in (knows i s v) (members_in r.epochs (vote_epoch v)));
          enough = a.0;
        })

    go : (first_some (signers_in v) s.came.ballots ≡ Some signers)
        ⊎ ((first_some (signers_in v) s.came.ballots ≡ None)
        × (when (nat_le (quorum (size r.epochs (vote_epoch v))) (length (known r i s v)))
        (known r i s v)
        ≡ Some signers))
        → IsCounted r (signs_too w i s.notes) (record { vote = v; signers = signers })
    go (inl e) =
        let (b, at, f) = first_found (signers_in v) s.came.ballots signers e in by_ballot b at f
    go (inr e) = by_known e.1

counted_writes : (r : Rules) (script : List Line) → IsCluster r script
    → Writes r script AnyLine (CountedNote r)
counted_writes r script cluster = record {
  stays = λ w v i before n x c. stay w v i before n x c;
  written =
      λ w i m e t.
      step_each (CountedNote r w i) r i (taken r (signed w) (state_of m) e) e (record {
        of_block = λ ns c b. tt;
        of_verified = λ ns epoch view c. tt;
        of_notarize = λ ns p o. tt;
        of_finalize = λ ns p. tt;
        of_certified = λ ns p. tt;
        of_epoch = λ ns epoch c. tt;
        of_nullify = λ view is s. tt;
        of_ack = λ h s. tt;
        of_prune = λ h a s l o. tt;
        of_cert =
            λ ns v signers h.
            owed_counted r w i (noted_as (taken r (signed w) (state_of m) e) ns) v signers
            cluster.rising (came_signed r script w i m e t) h;
        of_floor = λ ns c b a o n h. tt;
      });
}
  where
    more : (w v : World) (i : ℕ) (before : List Note) → Extends w v → (j : ℕ) (x : Vote)
        → signs_too w i before j x ≡ true → signs_too v i before j x ≡ true
    more w v i before e j x h =
        go (or_cases (signed w j x) ((j == i) && has_vote before x) h)
      where
        go : (signed w j x ≡ true) ⊎ (((j == i) && has_vote before x) ≡ true)
            → signs_too v i before j x ≡ true
        go (inl a) = or_left (signed v j x) ((j == i) && has_vote before x) (e.signs j x a)
        go (inr b) = or_right (signed v j x) ((j == i) && has_vote before x) b

    stay : (w v : World) (i : ℕ) (before : List Note) (n : Note) → Extends w v
        → CountedNote r w i before n → CountedNote r v i before n
    stay w v i before (Note.Cert s) e c =
        counted_more r (signs_too w i before) (signs_too v i before) s
        (λ j h. more w v i before e j s.vote h) c
    stay w v i before _ e c = tt

-- ---- votes that may be counted

-- a vote that stands may be counted
pub stands_formed : (r : Rules) (members : Members) → AreLawful r.epochs (block_fits r) members
    → AllKeep r members → (v : Vote) → Stands r.epochs members v → well_formed v ≡ true
stands_formed r members l keep v a = by_vote v a
  where
    by_notarize : (p : Proposal) → Stands r.epochs members (Notarize p)
        → well_formed (Notarize p) ≡ true
    by_notarize p a =
        let s = sharer r.epochs members (Notarize p) (Notarize p) l.faults refl a a in
        let f =
        found_after (Keeps r (meaning r.epochs members)) (is_vote (Notarize p)) [] s.notes
        (keep s.place s.notes s.at) s.first in
        let k =
        subst (Keeps r (meaning r.epochs members) f.before)
        (vote_note (Notarize p) f.note f.passes) f.holds in
        k.0

    by_vote : (v : Vote) → Stands r.epochs members v → well_formed v ≡ true
    by_vote (Notarize p) a = by_notarize p a
    by_vote (Finalize p) a =
        by_notarize p (finalized_notarized r.epochs (block_fits r) members l p a)
    by_vote (Nullify epoch view) a =
        let s =
        sharer r.epochs members (Nullify epoch view) (Nullify epoch view) l.faults refl a a in
        let f =
        found_after (Keeps r (meaning r.epochs members)) (is_vote (Nullify epoch view)) []
        s.notes (keep s.place s.notes s.at) s.first in
        let k =
        subst (Keeps r (meaning r.epochs members) f.before)
        (vote_note (Nullify epoch view) f.note f.passes) f.holds in
        k.0

-- ---- the law

any_at : (t : Sent → Bool) (xs : List Sent) (k : ℕ) (x : Sent) → slice_get xs k ≡ Some x
    → t x ≡ true → list_any t xs ≡ true
any_at t [] k x at h = cc
any_at t (y ∷ ys) zero x at h =
    let e : y ≡ x = cc in or_left (t y) (list_any t ys) (ap t e ∙ h)
any_at t (y ∷ ys) (suc k) x at h = or_right (t y) (list_any t ys) (any_at t ys k x at h)

-- a vote that was sent is signed
pub sent_signs : (w : World) (i : ℕ) (v : Vote) → IsSent w i (to_all (Message.Vote i v))
    → signed w i v ≡ true
sent_signs w i v s =
    or_right _ (list_any (is_sent_vote i v) w.pool)
    (any_at (is_sent_vote i v) w.pool s.number s.sent s.there
    (and_from (s.sent.from == i) (is_vote_of i v s.sent.message)
    (eq-eqb s.sent.from i s.from)
    (ap (is_vote_of i v) s.message
    ∙ and_from (i == i) (same_vote v v) (eq-eqb i i refl) (same_vote_self v))))

-- a vote that is among the notes is one of them
pub vote_in : (v : Vote) (notes : List Note) → has_vote notes v ≡ true → In (Note.Vote v) notes
vote_in v [] h = absurd (false≢true h)
vote_in v (n ∷ ns) h = go (or_cases (is_vote v n) (has_vote ns v) h) (vote_in v ns)
  where
    go : (is_vote v n ≡ true) ⊎ (has_vote ns v ≡ true)
        → (has_vote ns v ≡ true → In (Note.Vote v) ns) → In (Note.Vote v) (n ∷ ns)
    go (inl e) later = inl (sym (vote_note v n e))
    go (inr e) later = inr (later e)

-- a certificate that is one of the notes is among them
pub cert_has : (s : Cert) (notes : List Note) → In (Note.Cert s) notes
    → has_cert notes s.vote ≡ true
cert_has s [] h = absurd h
cert_has s (n ∷ ns) (inl e) =
    or_left (is_cert s.vote n) (has_cert ns s.vote)
    (ap (is_cert s.vote) (sym e) ∙ same_vote_self s.vote)
cert_has s (n ∷ ns) (inr h) =
    or_right (is_cert s.vote n) (has_cert ns s.vote) (cert_has s ns h)

pub noted_valid : (r : Rules) (script : List Line) (w : World) → IsCluster r script
    → Reaches r script w → (i : ℕ) (m : Member) → member_at w i ≡ Some m → m.live ≡ true
    → (s : Cert) → In (Note.Cert s) (member_notes m) → is_valid r (signed w) s ≡ true
noted_valid r script w cluster reach i m at live s h =
    let lawful = reached_lawful r script w cluster reach in
    let there = member_there w i m at in
    let all =
    reached_all r script AnyLine (λ w i m. EachAfter (CountedNote r w i) [] (member_notes m))
    (writes_carry r script AnyLine (CountedNote r) (counted_writes r script cluster)) w cluster
    (any_lines script) reach i m there in
    let (front, rest, joined, c) =
    each_at (CountedNote r w i) [] (member_notes m) (Note.Cert s) all h in
    let stands =
    (lawful.honest i (member_notes m)
    (get-map (option_map member_notes) w.members i (Some m) there)).certs_stand s.vote
    (cert_has s (member_notes m) h) in
    valid_counted r (signed w) s
    (stands_formed r (members_of w) lawful (reached_keep r script w cluster reach) s.vote stands)
    (counted_more r (signs_too w i front) (signed w) s (by_sign front rest joined) c)
  where
    by_sign : (front rest : List Note) → member_notes m ≡ front ++ Note.Cert s ∷ rest → (j : ℕ)
        → signs_too w i front j s.vote ≡ true → signed w j s.vote ≡ true
    by_sign front rest joined j t =
        go (or_cases (signed w j s.vote) ((j == i) && has_vote front s.vote) t)
      where
        go : (signed w j s.vote ≡ true) ⊎ (((j == i) && has_vote front s.vote) ≡ true)
            → signed w j s.vote ≡ true
        go (inl a) = a
        go (inr b) =
            let p = and_parts (j == i) (has_vote front s.vote) b in
            ap (λ k. signed w k s.vote) (eqb-true j i p.0)
            ∙ sent_signs w i s.vote
            (noted_sent r script w cluster reach i m at live (Note.Vote s.vote)
            (Message.Vote i s.vote) refl
            (subst (In (Note.Vote s.vote)) (sym joined)
            (in_left (Note.Vote s.vote) front (Note.Cert s ∷ rest)
            (vote_in s.vote front p.1))))
