-- Each view below an honest member's has ended for some honest member.
use Rattle.std.proofs.Common.{◌≡◌, ℕ, zero, suc, ◌+◌, ◌-◌, ◌<◌, ◌≤◌, true, false, ◌==◌, max, List, [], ◌∷◌, ◌++◌, Option, Some, None, filter_map, option_map, option_and_then, slice_get, refl, sym, ◌∙◌, ap, subst, inl, inr, ◌⊎◌, arith, eqb-true, eq-eqb, ltb-true, nat_lt, nat_le}
use Rattle.std.proofs.lemmas.Bool.{and_parts, cases_Bool, cond-true, cond-false, false≢true, leb-true, leb-false, or_cases, or_left, or_right}
use Rattle.std.proofs.lemmas.Option.{same_Some}
use Rattle.cw_types.specs.declared.note.Note.{Note}
use Rattle.cw_types.specs.declared.vote.Cert.{Cert}
use Rattle.cw_types.specs.declared.vote.Proposal.{Proposal}
use Rattle.cw_types.specs.declared.vote.Vote.{Vote}
use Rattle.cw_types.specs.declared.vote.Vote.TheVariants.{Finalize, Notarize, Nullify}
use Rattle.cw_types.specs.Votes.{is_view}
use Rattle.cw_types.proofs.Same.{same_proposal_self, same_vote-true}
use Rattle.cw_rules.specs.Fits.{block_fits}
use Rattle.cw_rules.specs.Keeps.{AllKeep, Keeps, meaning}
use Rattle.cw_rules.specs.Notes.{ended, ended_by, ends_in, greatest, has_cert, has_certified, is_cert, is_certified, is_vote, nullified, view_of}
use Rattle.cw_rules.specs.Owed.{all_nullified}
use Rattle.cw_rules.specs.Reached.{In, IsCluster, Reaches, members_of}
use Rattle.cw_rules.specs.Rules.{Rules}
use Rattle.cw_rules.specs.Stands.{AreLawful, EachAfter, IsSettled, Stands}
use Rattle.cw_rules.specs.Step.{Member, member_notes, state_of, taken}
use Rattle.cw_rules.specs.World.{Line, World, member_at, signed}
use Rattle.cw_rules.proofs.Chain.{certified_rests, finalized_notarized}
use Rattle.cw_rules.proofs.Lists.{in_left, range_all}
use Rattle.cw_rules.proofs.NoteLemmas.{Settles, certified_note, found_after, settler_found, vote_note}
use Rattle.cw_rules.proofs.Quorums.{sharer}
use Rattle.cw_rules.proofs.Reach.{reached_keep, reached_lawful}
use Rattle.cw_rules.proofs.Worlds.{get-map, get-map_from, member_there}
use Rattle.cw_progress.specs.Ended.{EndedForSome, IsOfView}
use Rattle.cw_progress.proofs.Carries.{AnyLine, Writes, any_lines, each_at, reached_all, writes_carry}
use Rattle.cw_progress.proofs.Outs.{mapped_from, mapped_in}
use Rattle.cw_progress.proofs.Rests.{step_each}
use Rattle.cw_progress.proofs.Valid.{cert_has, vote_in}

-- ---- what notes tell

-- the greatest of some numbers is one of them, where it isn't 0
pub greatest_in : (xs : List ℕ) → 0 < greatest xs → In (greatest xs) xs
greatest_in [] h = absurd (omega arith)
greatest_in (x ∷ xs) h = go (cases_Bool (nat_le (greatest xs) x)) (greatest_in xs)
  where
    go : (nat_le (greatest xs) x ≡ true) ⊎ (nat_le (greatest xs) x ≡ false)
        → (0 < greatest xs → In (greatest xs) xs) → In (greatest (x ∷ xs)) (x ∷ xs)
    go (inl t) later = inl (omega (arith, leb-true (greatest xs) x t))
    go (inr f) later =
        let same : greatest xs ≡ max x (greatest xs) =
        omega (arith, leb-false (greatest xs) x f) in
        inr
        (subst (λ y. In y xs) same (later (omega (arith, h, leb-false (greatest xs) x f))))

-- a certificate that is among the notes is one of them
pub cert_note : (v : Vote) (notes : List Note) → has_cert notes v ≡ true
    → (s : Cert) × In (Note.Cert s) notes × (s.vote ≡ v)
cert_note v [] h = absurd (false≢true h)
cert_note v (n ∷ ns) h = go n (or_cases (is_cert v n) (has_cert ns v) h) (cert_note v ns)
  where
    go : (x : Note) → (is_cert v x ≡ true) ⊎ (has_cert ns v ≡ true)
        → (has_cert ns v ≡ true → (s : Cert) × In (Note.Cert s) ns × (s.vote ≡ v))
        → (s : Cert) × In (Note.Cert s) (x ∷ ns) × (s.vote ≡ v)
    go (Note.Cert s) (inl e) later = (s, inl refl, sym (same_vote-true v s.vote e))
    go x (inr e) later = let (s, at, f) = later e in (s, inr at, f)
    go (Note.Vote w) (inl e) later = absurd (false≢true e)
    go (Note.Verified epoch view c) (inl e) later = absurd (false≢true e)
    go (Note.Block c b) (inl e) later = absurd (false≢true e)
    go (Note.Certified p) (inl e) later = absurd (false≢true e)
    go (Note.Ack h) (inl e) later = absurd (false≢true e)
    go (Note.Floor h) (inl e) later = absurd (false≢true e)
    go (Note.Prune h) (inl e) later = absurd (false≢true e)
    go (Note.Epoch epoch c) (inl e) later = absurd (false≢true e)

pub certified_in_notes : (p : Proposal) (notes : List Note) → has_certified notes p ≡ true
    → In (Note.Certified p) notes
certified_in_notes p [] h = absurd (false≢true h)
certified_in_notes p (n ∷ ns) h =
    go (or_cases (is_certified p n) (has_certified ns p) h) (certified_in_notes p ns)
  where
    go : (is_certified p n ≡ true) ⊎ (has_certified ns p ≡ true)
        → (has_certified ns p ≡ true → In (Note.Certified p) ns) → In (Note.Certified p) (n ∷ ns)
    go (inl e) later = inl (sym (certified_note p n e))
    go (inr e) later = inr (later e)

pub has_noted : (p : Proposal) (notes : List Note) → In (Note.Certified p) notes
    → has_certified notes p ≡ true
has_noted p [] h = absurd h
has_noted p (n ∷ ns) (inl e) =
    or_left (is_certified p n) (has_certified ns p)
    (ap (is_certified p) (sym e) ∙ same_proposal_self p)
has_noted p (n ∷ ns) (inr h) =
    or_right (is_certified p n) (has_certified ns p) (has_noted p ns h)

-- the end of a view in an epoch
pub ends_tell : (epoch e view u : ℕ) → ends_in epoch e view ≡ Some u → (e ≡ epoch) × (view ≡ u)
ends_tell epoch e view u h = go (cases_Bool (e == epoch))
  where
    go : ((e == epoch) ≡ true) ⊎ ((e == epoch) ≡ false) → (e ≡ epoch) × (view ≡ u)
    go (inl t) = (
      eqb-true e epoch t,
      same_Some view u (sym (cond-true (e == epoch) (Some view) None t) ∙ h),
    )
    go (inr f) = cc (cond-false (e == epoch) (Some view) None f)

pub ends_here : (epoch e view u : ℕ) → e ≡ epoch → view ≡ u → ends_in epoch e view ≡ Some u
ends_here epoch e view u s t =
    cond-true (e == epoch) (Some view) None (eq-eqb e epoch s) ∙ ap Some t

-- the honest member with these notes
pub member_with : (w : World) (i : ℕ) (notes : List Note)
    → slice_get (members_of w) i ≡ Some (Some notes)
    → (m : Member) × (slice_get w.members i ≡ Some (Some m)) × (member_notes m ≡ notes)
member_with w i notes h = go (get-map_from (option_map member_notes) w.members i (Some notes) h)
  where
    go : ((o : Option Member) × (slice_get w.members i ≡ Some o)
        × (option_map member_notes o ≡ Some notes))
        → (m : Member) × (slice_get w.members i ≡ Some (Some m)) × (member_notes m ≡ notes)
    go (None, at, e) = cc
    go (Some m, at, e) = (m, at, same_Some (member_notes m) notes e)

pub member_is : (w : World) (i : ℕ) (m : Member) → slice_get w.members i ≡ Some (Some m)
    → member_at w i ≡ Some m
member_is w i m h = ap (option_and_then (λ (o : Option Member). o)) h

-- ---- votes to nullify

of_view : (r : Rules) (script : List Line)
    → Writes r script AnyLine (λ w i before n. IsOfView before n)
of_view r script = record {
  stays = λ w v i before n e h. h;
  written =
      λ w i m e t.
      step_each IsOfView r i (taken r (signed w) (state_of m) e) e (record {
        of_block = λ ns c b. tt;
        of_verified = λ ns epoch view c. tt;
        of_notarize = λ ns p o. tt;
        of_finalize = λ ns p. tt;
        of_certified = λ ns p. tt;
        of_epoch = λ ns epoch c. tt;
        of_nullify = λ view is s. (refl, s);
        of_ack = λ h s. tt;
        of_prune = λ h a s l o. tt;
        of_cert = λ ns v signers h. tt;
        of_floor = λ ns c b a o n h. tt;
      });
}

-- each vote to nullify was written in its view
pub nullify_in_view : (r : Rules) (script : List Line) (w : World) → IsCluster r script
    → Reaches r script w → (i : ℕ) (m : Member) → member_at w i ≡ Some m
    → EachAfter IsOfView [] (member_notes m)
nullify_in_view r script w cluster reach i m at =
    reached_all r script AnyLine (λ w i m. EachAfter IsOfView [] (member_notes m))
    (writes_carry r script AnyLine (λ w i before n. IsOfView before n) (of_view r script)) w
    cluster (any_lines script) reach i m (member_there w i m at)

-- ---- the views below

module _ (r : Rules) (script : List Line) (w : World) (cluster : IsCluster r script)
    (reach : Reaches r script w) where
  lawful : AreLawful r.epochs (block_fits r) (members_of w)
  lawful = reached_lawful r script w cluster reach

  keep : AllKeep r (members_of w)
  keep = reached_keep r script w cluster reach

  -- what some honest member noted has ended
  noted_ends : (i : ℕ) (notes : List Note) → slice_get (members_of w) i ≡ Some (Some notes)
      → (n : Note) → In n notes → (epoch view : ℕ) → ended epoch n ≡ Some view
      → EndedForSome w epoch view
  noted_ends i notes at n h epoch view e =
      let (m, there, same) = member_with w i notes at in
      record {
        number = i;
        member = m;
        there = member_is w i m there;
        noted =
            subst (λ ns. In view (filter_map (ended epoch) ns)) (sym same)
            (mapped_in (ended epoch) notes n view h e);
      }

  -- below the view of a proposal that stands notarized
  pub below_notarized : (p : Proposal) → Stands r.epochs (members_of w) (Notarize p) → (u : ℕ)
      → p.view ≡ suc u → 0 < u → EndedForSome w p.epoch u
  below_notarized p a u is pos =
      let s = sharer r.epochs (members_of w) (Notarize p) (Notarize p) lawful.faults refl a a in
      let f =
      found_after (Keeps r (meaning r.epochs (members_of w))) (is_vote (Notarize p)) [] s.notes
      (keep s.place s.notes s.at) s.first in
      let k =
      subst (Keeps r (meaning r.epochs (members_of w)) f.before)
      (vote_note (Notarize p) f.note f.passes) f.holds in
      let formed = and_parts (is_view p.view) (nat_lt p.parent p.view) k.0 in
      by_parent s.place s.notes f.before f.rest s.at f.joined
      (ltb-true p.parent p.view formed.1) k.2 k.3 (cases_Bool (p.parent == u))
    where
      within : (i : ℕ) (notes before rest : List Note)
          → slice_get (members_of w) i ≡ Some (Some notes) → notes ≡ before ++ rest → (n : Note)
          → In n before → ended p.epoch n ≡ Some u → EndedForSome w p.epoch u
      within i notes before rest at joined n h e =
          noted_ends i notes at n (subst (In n) (sym joined) (in_left n before rest h)) p.epoch u
          e

      by_settler : (i : ℕ) (notes before rest : List Note)
          → slice_get (members_of w) i ≡ Some (Some notes) → notes ≡ before ++ rest
          → p.parent ≡ u → ((q : Proposal) × Settles before p.epoch p.parent q)
          → EndedForSome w p.epoch u
      by_settler i notes before rest at joined same (q, (of, view, inl c)) =
          within i notes before rest at joined (Note.Certified q)
          (certified_in_notes q before c)
          (ends_here p.epoch q.epoch q.view u of (view ∙ same))
      by_settler i notes before rest at joined same (q, (of, view, inr c)) =
          let (s, there, e) = cert_note (Finalize q) before c in
          within i notes before rest at joined (Note.Cert s) there
          (ap (ended_by p.epoch) e ∙ ends_here p.epoch q.epoch q.view u of (view ∙ same))

      by_settled : (i : ℕ) (notes before rest : List Note)
          → slice_get (members_of w) i ≡ Some (Some notes) → notes ≡ before ++ rest
          → p.parent ≡ u → IsSettled before p.epoch p.parent → EndedForSome w p.epoch u
      by_settled i notes before rest at joined same (inl z) =
          absurd (omega (arith, same, z.0, pos))
      by_settled i notes before rest at joined same (inr z) =
          by_settler i notes before rest at joined same
          (settler_found before p.epoch p.parent z.1)

      by_parent : (i : ℕ) (notes before rest : List Note)
          → slice_get (members_of w) i ≡ Some (Some notes) → notes ≡ before ++ rest
          → p.parent < p.view → IsSettled before p.epoch p.parent
          → all_nullified before p.epoch p.parent p.view ≡ true
          → ((p.parent == u) ≡ true) ⊎ ((p.parent == u) ≡ false) → EndedForSome w p.epoch u
      by_parent i notes before rest at joined low settled nulls (inl t) =
          by_settled i notes before rest at joined (eqb-true p.parent u t) settled
      by_parent i notes before rest at joined low settled nulls (inr f) =
          let other : p.parent ≡ u → ⊥ = λ e. false≢true (sym f ∙ eq-eqb p.parent u e) in
          let cert : nullified before p.epoch u ≡ true =
          range_all (nullified before p.epoch) (p.parent + 1) (p.view - p.parent - 1) nulls u
          (low_one low other) (high_one low) in
          let (s, there, e) = cert_note (Nullify p.epoch u) before cert in
          within i notes before rest at joined (Note.Cert s) there
          (ap (ended_by p.epoch) e ∙ ends_here p.epoch p.epoch u u refl refl)
        where
          low_one : p.parent < p.view → (p.parent ≡ u → ⊥) → p.parent + 1 ≤ u
          low_one low other = by_order (cases_Bool (nat_le (p.parent + 1) u))
            where
              by_order : (nat_le (p.parent + 1) u ≡ true) ⊎ (nat_le (p.parent + 1) u ≡ false)
                  → p.parent + 1 ≤ u
              by_order (inl t) = leb-true (p.parent + 1) u t
              by_order (inr f) =
                  absurd (other (omega (arith, low, is, leb-false (p.parent + 1) u f)))

          high_one : p.parent < p.view → u < p.parent + 1 + (p.view - p.parent - 1)
          high_one low = omega (arith, low, is)

  -- below a view that stands nullified
  below_nullified : (epoch u : ℕ) → Stands r.epochs (members_of w) (Nullify epoch (suc u))
      → 0 < u → EndedForSome w epoch u
  below_nullified epoch u a pos =
      let v = Nullify epoch (suc u) in
      let s = sharer r.epochs (members_of w) v v lawful.faults refl a a in
      let (m, there, same) = member_with w s.place s.notes s.at in
      let (front, rest, joined, seen) =
      each_at IsOfView [] (member_notes m) (Note.Vote v)
      (nullify_in_view r script w cluster reach s.place m (member_is w s.place m there))
      (subst (In (Note.Vote v)) (sym same) (vote_in v s.notes s.first)) in
      let top : greatest (filter_map (ended epoch) front) ≡ u = omega (arith, seen.1) in
      let inside = greatest_in (filter_map (ended epoch) front) (omega (arith, top, pos)) in
      let (n, at, e) =
      mapped_from (ended epoch) front u
      (subst (λ x. In x (filter_map (ended epoch) front)) top inside) in
      noted_ends s.place s.notes s.at n
      (subst (In n) (sym joined ∙ same) (in_left n front (Note.Vote v ∷ rest) at)) epoch u e

  -- below a view that has ended for somebody the next has too
  below_ended : (epoch u : ℕ) → EndedForSome w epoch (suc u) → 0 < u → EndedForSome w epoch u
  below_ended epoch u h pos =
      let (n, at, e) =
      mapped_from (ended epoch) (member_notes h.member) (suc u) h.noted in
      by_note n at e
    where
      there : slice_get (members_of w) h.number ≡ Some (Some (member_notes h.member))
      there =
          get-map (option_map member_notes) w.members h.number (Some h.member)
          (member_there w h.number h.member h.there)

      by_notarized : (p : Proposal) → Stands r.epochs (members_of w) (Notarize p)
          → ends_in epoch p.epoch p.view ≡ Some (suc u) → EndedForSome w epoch u
      by_notarized p a e =
          let t = ends_tell epoch p.epoch p.view (suc u) e in
          subst (λ x. EndedForSome w x u) t.0 (below_notarized p a u t.1 pos)

      by_vote : (v : Vote) → Stands r.epochs (members_of w) v
          → ended_by epoch v ≡ Some (suc u) → EndedForSome w epoch u
      by_vote (Notarize p) a e = cc
      by_vote (Nullify x view) a e =
          let t = ends_tell epoch x view (suc u) e in
          below_nullified epoch u
          (subst (λ y. Stands r.epochs (members_of w) (Nullify epoch y)) t.1
          (subst (λ y. Stands r.epochs (members_of w) (Nullify y view)) t.0 a))
          pos
      by_vote (Finalize p) a e =
          by_notarized p (finalized_notarized r.epochs (block_fits r) (members_of w) lawful p a)
          e

      by_note : (n : Note) → In n (member_notes h.member) → ended epoch n ≡ Some (suc u)
          → EndedForSome w epoch u
      by_note (Note.Certified p) at e =
          by_notarized p
          (certified_rests r.epochs (block_fits r) (members_of w) (member_notes h.member)
          (lawful.honest h.number (member_notes h.member) there) p
          (has_noted p (member_notes h.member) at))
          e
      by_note (Note.Cert s) at e =
          by_vote s.vote
          ((lawful.honest h.number (member_notes h.member) there).certs_stand s.vote
          (cert_has s (member_notes h.member) at))
          e
      by_note (Note.Vote v) at e = cc
      by_note (Note.Verified x view c) at e = cc
      by_note (Note.Block c b) at e = cc
      by_note (Note.Ack x) at e = cc
      by_note (Note.Floor x) at e = cc
      by_note (Note.Prune x) at e = cc
      by_note (Note.Epoch x c) at e = cc

  descend : (epoch view down : ℕ) → 0 < view → EndedForSome w epoch (view + down)
      → EndedForSome w epoch view
  descend epoch view zero pos h = subst (EndedForSome w epoch) (omega arith) h
  descend epoch view (suc down) pos h =
      let same : view + suc down ≡ suc (view + down) = omega arith in
      descend epoch view down pos
      (below_ended epoch (view + down) (subst (EndedForSome w epoch) same h) (omega (arith, pos)))

  -- each view below an honest member's has ended for somebody
  pub all_ended : (i : ℕ) (m : Member) → member_at w i ≡ Some m → (epoch view : ℕ) → 0 < view
      → view < view_of (member_notes m) epoch → EndedForSome w epoch view
  all_ended i m at epoch view pos low =
      let tops = filter_map (ended epoch) (member_notes m) in
      let top : EndedForSome w epoch (greatest tops) =
      record {
        number = i;
        member = m;
        there = at;
        noted = greatest_in tops (omega (arith, pos, low));
      } in
      let same : greatest tops ≡ view + (greatest tops - view) = omega (arith, pos, low) in
      descend epoch view (greatest tops - view) pos (subst (EndedForSome w epoch) same top)
