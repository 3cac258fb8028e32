-- Notes of which each keeps to those before it are an honest member's.
use Rattle.std.proofs.Common.{◌≡◌, ◌==◌, ◌+◌, ◌-◌, ◌^◌, true, ◌&&◌, nat_lt, List, [], refl, sym, ◌∙◌, subst, arith, ltb-true, eq-eqb}
use Rattle.std.specs.List.{list_any}
use Rattle.std.proofs.lemmas.Bool.{and_parts, and_from, false≢true}
use Rattle.cw_types.specs.declared.note.Note.{Note}
use Rattle.cw_types.specs.declared.vote.Proposal.{Proposal}
use Rattle.cw_types.specs.declared.vote.Vote.{Vote}
use Rattle.cw_types.specs.declared.vote.Vote.TheVariants.{Finalize, Notarize, Nullify}
use Rattle.cw_types.specs.Epochs.{Epochs}
use Rattle.cw_types.specs.Votes.{vote_epoch, vote_view}
use Rattle.cw_rules.specs.Fits.{block_fits}
use Rattle.cw_rules.specs.Keeps.{Keeps, Meaning}
use Rattle.cw_rules.specs.Notes.{is_cert, is_vote, nullified}
use Rattle.cw_rules.specs.Owed.{closes, has_closed, has_voted, is_of, votes_in}
use Rattle.cw_rules.specs.Rules.{Rules}
use Rattle.cw_rules.specs.Stands.{AreKept, EachAfter, Members, RestsOn, Stands}
use Rattle.cw_types.proofs.Same.{same_vote-true}
use Rattle.cw_rules.proofs.NoteLemmas.{found_after, any_weaker, each_weaker, in_one, vote_note}
use Rattle.cw_rules.proofs.Lists.{range_all}

-- a vote is of its own view
pub of_itself : (v : Vote) → is_of (vote_epoch v) (vote_view v) v ≡ true
of_itself v =
    and_from (vote_epoch v == vote_epoch v) (vote_view v == vote_view v)
    (eq-eqb (vote_epoch v) (vote_epoch v) refl) (eq-eqb (vote_view v) (vote_view v) refl)

-- a note that is a vote of a view is an own vote of that view
pub vote_in : (v : Vote) (note : Note) → is_vote v note ≡ true
    → votes_in (vote_epoch v) (vote_view v) note ≡ true
vote_in v note h =
    subst (λ n. votes_in (vote_epoch v) (vote_view v) n ≡ true) (sym (vote_note v note h))
    (of_itself v)

module _ (r : Rules) (m : Meaning) where
  -- no vote to notarize comes after another of its view
  no_second : (p q : Proposal) → p.epoch ≡ q.epoch → p.view ≡ q.view
      → (before : List Note) (x : Note) → Keeps r m before x → is_vote (Notarize p) x ≡ true
      → list_any (is_vote (Notarize q)) before ≡ true → ⊥
  no_second p q d e before x k h g =
      let k' = subst (Keeps r m before) (vote_note (Notarize p) x h) k in
      let voted : has_voted before q.epoch q.view ≡ true =
      any_weaker (is_vote (Notarize q)) (votes_in q.epoch q.view) (vote_in (Notarize q)) before
      g in
      false≢true
      (sym k'.1
      ∙ subst (λ n. has_voted before n p.view ≡ true) (sym d)
      (subst (λ v. has_voted before q.epoch v ≡ true) (sym e) voted))

  no_finalize_after : (p : Proposal) (before : List Note) (x : Note) → Keeps r m before x
      → is_vote (Finalize p) x ≡ true → list_any (is_vote (Nullify p.epoch p.view)) before ≡ true
      → ⊥
  no_finalize_after p before x k h g =
      let k' = subst (Keeps r m before) (vote_note (Finalize p) x h) k in
      let closed : has_closed before p.epoch p.view ≡ true =
      any_weaker (is_vote (Nullify p.epoch p.view)) (closes p.epoch p.view)
      (λ y i. subst (λ n. closes p.epoch p.view n ≡ true)
      (sym (vote_note (Nullify p.epoch p.view) y i))
      (of_itself (Nullify p.epoch p.view)))
      before g in
      false≢true (sym k'.1 ∙ closed)

  no_nullify_after : (p : Proposal) (before : List Note) (x : Note) → Keeps r m before x
      → is_vote (Nullify p.epoch p.view) x ≡ true → list_any (is_vote (Finalize p)) before ≡ true
      → ⊥
  no_nullify_after p before x k h g =
      let k' = subst (Keeps r m before) (vote_note (Nullify p.epoch p.view) x h) k in
      let closed : has_closed before p.epoch p.view ≡ true =
      any_weaker (is_vote (Finalize p)) (closes p.epoch p.view)
      (λ y i. subst (λ n. closes p.epoch p.view n ≡ true) (sym (vote_note (Finalize p) y i))
      (of_itself (Finalize p)))
      before g in
      false≢true (sym k'.1 ∙ closed)

  -- what a note keeps to, it rests on
  rests_on : (before : List Note) (note : Note) → Keeps r m before note
      → RestsOn (block_fits r) before note
  rests_on before (Note.Vote (Notarize p)) k =
      let a =
      and_parts (nat_lt 0 p.view && nat_lt p.view (2 ^ 64 - 1)) (nat_lt p.parent p.view) k.0 in (
        ltb-true p.parent p.view a.1,
        k.2,
        λ v l u. range_all (nullified before p.epoch) (p.parent + 1) (p.view - p.parent - 1) k.3 v
            (omega arith) (omega arith),
      )
  rests_on before (Note.Vote (Nullify e v)) k = tt
  rests_on before (Note.Vote (Finalize p)) k = k.0
  rests_on before (Note.Certified p) k = k
  rests_on before _ k = tt

  -- the vote of a noted certificate holds
  cert_holds : (v : Vote) (before : List Note) (note : Note) → Keeps r m before note
      → is_cert v note ≡ true → m.holds v ≡ true
  cert_holds v before (Note.Cert s) k h =
      subst (λ u. m.holds u ≡ true) (sym (same_vote-true v s.vote h)) k
  cert_holds v before _ k h = absurd (false≢true h)

  pub kept_from_keeps : (x : Epochs) (members : Members)
      → ((v : Vote) → m.holds v ≡ true → Stands x members v) → (notes : List Note)
      → EachAfter (Keeps r m) [] notes → AreKept x (block_fits r) members notes
  kept_from_keeps x members stands notes e = record {
    one_notarize = λ p q a b of same.
        let (n, np, nq) =
        in_one (Keeps r m) (is_vote (Notarize p)) (is_vote (Notarize q)) (no_second p q of same)
        (no_second q p (sym of) (sym same)) [] notes e a b in
        cc (vote_note (Notarize p) n np, vote_note (Notarize q) n nq);
    not_both = λ p a b.
        let (n, np, nq) =
        in_one (Keeps r m) (is_vote (Finalize p)) (is_vote (Nullify p.epoch p.view))
        (no_finalize_after p) (no_nullify_after p) [] notes e a b in
        cc (vote_note (Finalize p) n np, vote_note (Nullify p.epoch p.view) n nq);
    certs_stand = λ v h.
        let f = found_after (Keeps r m) (is_cert v) [] notes e h in
        stands v (cert_holds v f.before f.note f.holds f.passes);
    rests = each_weaker (Keeps r m) (RestsOn (block_fits r)) rests_on [] notes e;
  }
