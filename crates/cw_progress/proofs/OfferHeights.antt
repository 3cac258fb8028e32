-- In one epoch without end: a certified block is no higher than its view, and no lower than the
-- final block of a view that isn't later.
use Rattle.std.proofs.Common.{◌≡◌, ℕ, zero, suc, ◌+◌, ◌*◌, ◌<◌, ◌≤◌, true, false, ◌==◌, List, [], ◌∷◌, ◌++◌, Option, Some, None, option_map, slice_get, sym, ◌∙◌, ap, subst, inl, inr, ◌⊎◌, arith, eqb-true, append-nil}
use Rattle.std.specs.Option.{option_map_or}
use Rattle.std.proofs.lemmas.Bool.{cases_Bool, cases_lt, cond-true, cond-false, false≢true}
use Rattle.std.proofs.lemmas.Option.{same_Some}
use Rattle.cw_types.specs.declared.commitment.Commitment.{Commitment}
use Rattle.cw_types.specs.declared.note.Note.{Note}
use Rattle.cw_types.specs.declared.vote.Proposal.{Proposal}
use Rattle.cw_types.specs.declared.vote.Vote.TheVariants.{Finalize, Notarize}
use Rattle.cw_types.specs.Block.{Block}
use Rattle.cw_types.specs.Epochs.{is_last}
use Rattle.cw_types.specs.Same.{same_commitment}
use Rattle.cw_types.proofs.Same.{same_commitment_self}
use Rattle.cw_rules.specs.Chains.{block_under}
use Rattle.cw_rules.specs.Fits.{block_fits}
use Rattle.cw_rules.specs.Held.{held, kept_block}
use Rattle.cw_rules.specs.Keeps.{IsCertifiedIn}
use Rattle.cw_rules.specs.Notes.{epoch_parent, has_cert, has_certified, is_cert, is_certified, settled, settler}
use Rattle.cw_rules.specs.Reached.{In, IsCluster, ReachesClear, members_of}
use Rattle.cw_rules.specs.Rules.{Rules, genesis, genesis_commitment}
use Rattle.cw_rules.specs.Stands.{Descends, Stands}
use Rattle.cw_rules.specs.Step.{Member, member_notes}
use Rattle.cw_rules.specs.World.{Line, World, member_at}
use Rattle.cw_rules.proofs.Certified.{Fitting, finalized_in}
use Rattle.cw_rules.proofs.Chain.{certified_rests, finalized_descent, finalized_notarized, notarized_above, notarized_below, one_notarized}
use Rattle.cw_rules.proofs.Fits.{Again, Fit, New, fit_cases}
use Rattle.cw_rules.proofs.Lists.{map_some}
use Rattle.cw_rules.proofs.NoteLemmas.{any_front, settler_tells}
use Rattle.cw_progress.proofs.Certifies.{Certifies, certifies, held_is, keeps, lawful, notes_at}
use Rattle.cw_progress.proofs.Chains.{way_falls}
use Rattle.cw_progress.proofs.Ends.{certified_in_notes, has_noted, member_is, member_with}
use Rattle.cw_progress.proofs.Latest.{HasTop, Known, Ready, Unknown, cert_stands, final_first, notarized_first}
use Rattle.cw_progress.proofs.Over.{block_has}
use Rattle.cw_progress.proofs.Paths.{clear_reaches}
use Rattle.cw_progress.proofs.Rising.{certified_held}

-- no height is the last
pub no_last : (r : Rules) → r.epochs.span ≡ None → (epoch h : ℕ) → is_last r.epochs epoch h ≡ false
no_last r none epoch h =
    ap
    (λ (s : Option ℕ). option_map_or (λ last. h == last)
    (option_map (λ span. (epoch + 1) * span) s) false)
    none

-- genesis is held as itself
pub genesis_held : (r : Rules) (notes : List Note)
    → held r notes (genesis_commitment r) ≡ Some (genesis r)
genesis_held r notes =
    cond-true (same_commitment (genesis_commitment r) (genesis_commitment r)) (Some (genesis r))
    (kept_block notes (genesis_commitment r)) (same_commitment_self (genesis_commitment r))

module _ (r : Rules) (none : r.epochs.span ≡ None) (script : List Line) (w : World)
    (cluster : IsCluster r script) (clear : ReachesClear r script w) where
  abbrev pub AllCertified : Proposal → Type 0
  AllCertified q = IsCertifiedIn (members_of w) q

  -- who certified a proposal
  pub certified_there : (i : ℕ) (m : Member) → member_at w i ≡ Some m → (q : Proposal)
      → In (Note.Certified q) (member_notes m) → AllCertified q
  certified_there i m at q h =
      let (b, noted, kept) =
      certified_held r script w cluster (clear_reaches r script w clear) i m at q h in
      record {
        place = i;
        notes = member_notes m;
        at = notes_at r script w cluster clear i m at;
        certified = has_noted q (member_notes m) h;
        noted = block_has q.payload b (member_notes m) noted;
      }

  certified_stands : (q : Proposal) → AllCertified q
      → Stands r.epochs (members_of w) (Notarize q)
  certified_stands q k =
      certified_rests r.epochs (block_fits r) (members_of w) k.notes
      ((lawful r script w cluster clear).honest k.place k.notes k.at) q k.certified

  certified_first : (q : Proposal) → AllCertified q → q.epoch ≡ 0
  certified_first q k =
      notarized_first r none script w cluster clear (suc q.view) q (certified_stands q k)
      (omega arith)

  -- what is settled for a view of the first epoch: genesis, or what is certified there
  data IsSettledBy (view : ℕ) (c : Commitment) : Type 0 where
    First : view ≡ 0 → c ≡ genesis_commitment r → IsSettledBy view c
    Next : (q : Proposal) → AllCertified q → q.view ≡ view → q.payload ≡ c
        → IsSettledBy view c

  settled_by : (i : ℕ) (m : Member) → member_at w i ≡ Some m → (before rest : List Note)
      → member_notes m ≡ before ++ rest → (view : ℕ) (c : Commitment)
      → settled (genesis_commitment r) before 0 view ≡ Some c → IsSettledBy view c
  settled_by i m at before rest joined view c h = go (cases_Bool (view == 0))
    where
      c0 : Commitment
      c0 = genesis_commitment r

      by_view : Option Commitment
      by_view = option_map (λ (p : Proposal). p.payload) (settler before 0 view)

      by_settles : (q : Proposal) → q.view ≡ view → q.payload ≡ c
          → (has_certified before q ≡ true) ⊎ (has_cert before (Finalize q) ≡ true)
          → IsSettledBy view c
      by_settles q is pays (inl k) =
          Next q
          (certified_there i m at q
          (subst (In (Note.Certified q)) (sym joined)
          (certified_in_notes q (before ++ rest) (any_front (is_certified q) before rest k))))
          is pays
      by_settles q is pays (inr k) =
          Next q
          (finalized_in r cluster.spans (members_of w) (lawful r script w cluster clear)
          (keeps r script w cluster clear) q
          (cert_stands r none script w cluster clear i m at (Finalize q)
          (subst (λ ns. has_cert ns (Finalize q) ≡ true) (sym joined)
          (any_front (is_cert (Finalize q)) before rest k))))
          is pays

      go : ((view == 0) ≡ true) ⊎ ((view == 0) ≡ false) → IsSettledBy view c
      go (inl t) =
          First (eqb-true view 0 t)
          (sym
          (same_Some c0 c (sym (cond-true (view == 0) (Some c0) by_view t) ∙ h)))
      go (inr f) =
          let (q, found, pays) =
          map_some (λ (p : Proposal). p.payload) (settler before 0 view) c
          (sym (cond-false (view == 0) (epoch_parent c0 before 0) by_view f) ∙ h) in
          let t = settler_tells before 0 view q found in
          by_settles q t.1 pays t.2

  -- what a certified block is built on
  data IsOver (q : Proposal) (b : Block) : Type 0 where
    OverFirst : q.parent ≡ 0 → b.height ≡ 1 → IsOver q b
    OverNext : (s : Proposal) (a : Block) → AllCertified s → s.view ≡ q.parent
        → block_under r w s.payload ≡ Some a → b.height ≡ a.height + 1 → IsOver q b

  is_over : (q : Proposal) → AllCertified q → (b : Block) → block_under r w q.payload ≡ Some b
      → IsOver q b
  is_over q k b under = by_member (member_with w k.place k.notes k.at)
    where
      by_member : ((n : Member) × (slice_get w.members k.place ≡ Some (Some n))
          × (member_notes n ≡ k.notes))
          → IsOver q b
      by_member (n, place, same) =
          by_fitted x.before x.rest x.joined x.fitted (fit_cases r q f.block f.over f.parent f.fit)
          (settled_by k.place n at x.before x.rest x.joined q.parent f.over
          (subst
          (λ e. settled (genesis_commitment r) x.before e q.parent ≡ Some f.over)
          (certified_first q k) f.settles))
        where
          at : member_at w k.place ≡ Some n
          at = member_is w k.place n place

          x : Certifies r script w cluster clear n q
          x =
              certifies r script w cluster clear k.place n at q
              (subst (In (Note.Certified q)) (sym same)
              (certified_in_notes q k.notes k.certified))

          f : Fitting r x.before q
          f = x.fitted

          by_fitted : (before rest : List Note) → member_notes n ≡ before ++ rest
              → (g : Fitting r before q) → Fit r q g.block g.over g.parent
              → IsSettledBy q.parent g.over → IsOver q b
          by_fitted before rest joined g (Again same block pos last) s =
              absurd (false≢true (sym (no_last r none q.epoch g.block.height) ∙ last))
          by_fitted before rest joined g (New up within named digests) (First z is) =
              let one : g.block ≡ b =
              same_Some g.block b
              (sym
              (held_is r script w cluster clear k.place n at before rest joined q.payload g.block
              g.holds)
              ∙ under) in
              let two : genesis r ≡ g.parent =
              same_Some (genesis r) g.parent
              (sym (genesis_held r before) ∙ (ap (held r before) (sym is) ∙ g.holds_parent)) in
              let high = ap (λ (y : Block). y.height) one in
              let low = ap (λ (y : Block). y.height) two in
              OverFirst z (omega (arith, high, low, up))
          by_fitted before rest joined g (New up within named digests) (Next s certified is pays) =
              let one : g.block ≡ b =
              same_Some g.block b
              (sym
              (held_is r script w cluster clear k.place n at before rest joined q.payload g.block
              g.holds)
              ∙ under) in
              let high = ap (λ (y : Block). y.height) one in
              OverNext s g.parent certified is
              (ap (block_under r w) pays
              ∙ held_is r script w cluster clear k.place n at before rest joined g.over g.parent
              g.holds_parent)
              (omega (arith, high, up))

  -- no certified block is higher than its view
  height_low : (bound : ℕ) (q : Proposal) → AllCertified q → q.view < bound → (b : Block)
      → block_under r w q.payload ≡ Some b → b.height ≤ q.view
  height_low zero q k lt b under = absurd (omega (arith, lt))
  height_low (suc bound) q k lt b under = go (is_over q k b under) (height_low bound)
    where
      stands : Stands r.epochs (members_of w) (Notarize q)
      stands = certified_stands q k

      go : IsOver q b
          → ((s : Proposal) → AllCertified s → s.view < bound → (a : Block)
          → block_under r w s.payload ≡ Some a → a.height ≤ s.view)
          → b.height ≤ q.view
      go (OverFirst z high) later =
          omega (
            arith,
            high,
            notarized_above r.epochs (block_fits r) (members_of w)
                (lawful r script w cluster clear) q stands,
          )
      go (OverNext s a c is there up) later =
          let below =
          notarized_below r.epochs (block_fits r) (members_of w) (lawful r script w cluster clear)
          q stands in
          let low = later s c (omega (arith, is, below, lt)) a there in
          omega (arith, up, is, below, low)

  -- nor lower than what is final in a view that isn't later
  module _ (p : Proposal) (a : Block) (final : Stands r.epochs (members_of w) (Finalize p))
      (final_under : block_under r w p.payload ≡ Some a) where
    parent_high : (q : Proposal) → AllCertified q → p.view < q.view → p.view ≤ q.parent
    parent_high q k lt =
        by_way
        (finalized_descent r.epochs (block_fits r) (members_of w)
        (lawful r script w cluster clear) p q final (certified_stands q k)
        (final_first r none script w cluster clear p final ∙ sym (certified_first q k)) lt)
      where
        by_way : Descends r.epochs (members_of w) q p → p.view ≤ q.parent
        by_way ([], same) =
            let one = ap (λ (x : Proposal). x.view) same in absurd (omega (arith, one, lt))
        by_way (s ∷ way, (b, of, is, more)) =
            omega (
              arith,
              is,
              way_falls r w (lawful r script w cluster clear) s b way p more,
            )

    height_over : (bound : ℕ) (q : Proposal) → AllCertified q → q.view < bound
        → p.view ≤ q.view → (b : Block) → block_under r w q.payload ≡ Some b
        → a.height ≤ b.height
    height_over zero q k lt le b under = absurd (omega (arith, lt))
    height_over (suc bound) q k lt le b under =
        go (cases_lt p.view q.view) (height_over bound)
      where
        Later : Type 0
        Later =
            (s : Proposal) → AllCertified s → s.view < bound → p.view ≤ s.view → (x : Block)
            → block_under r w s.payload ≡ Some x → a.height ≤ x.height

        by_over : p.view < q.view → IsOver q b → Later → a.height ≤ b.height
        by_over more (OverFirst z high) later =
            let pos =
            notarized_above r.epochs (block_fits r) (members_of w)
            (lawful r script w cluster clear) p
            (finalized_notarized r.epochs (block_fits r) (members_of w)
            (lawful r script w cluster clear) p final) in
            let up = parent_high q k more in
            absurd (omega (arith, z, pos, up))
        by_over more (OverNext s x c is there up) later =
            let below =
            notarized_below r.epochs (block_fits r) (members_of w)
            (lawful r script w cluster clear) q (certified_stands q k) in
            let parent = parent_high q k more in
            let high =
            later s c (omega (arith, is, below, lt)) (omega (arith, is, parent)) x there in
            omega (arith, up, high)

        go : (p.view < q.view) ⊎ (q.view ≤ p.view) → Later → a.height ≤ b.height
        go (inl more) later = by_over more (is_over q k b under) later
        go (inr less) later =
            let one : q ≡ p =
            one_notarized r.epochs (block_fits r) (members_of w)
            (lawful r script w cluster clear) q p (certified_stands q k)
            (finalized_notarized r.epochs (block_fits r) (members_of w)
            (lawful r script w cluster clear) p final)
            (certified_first q k ∙ sym (final_first r none script w cluster clear p final))
            (omega (arith, le, less)) in
            let two : b ≡ a =
            same_Some b a
            (sym under ∙ (ap (λ (x : Proposal). block_under r w x.payload) one ∙ final_under)) in
            let three = ap (λ (x : Block). x.height) two in
            omega (arith, three)

  -- so with the last finalization that somebody has
  pub certified_over : (view : ℕ) (a : Block) → Ready r w view a → (q : Proposal)
      → AllCertified q → view ≤ q.view → (b : Block) → block_under r w q.payload ≡ Some b
      → a.height ≤ b.height
  certified_over view a ready q k le b under = go ready.top
    where
      go : HasTop r view a (member_notes ready.member) → a.height ≤ b.height
      go (Unknown z e) = let low = ap (λ (x : Block). x.height) e in omega (arith, low)
      go (Known p cert is holds) =
          height_over p a
          (cert_stands r none script w cluster clear ready.number ready.member ready.there
          (Finalize p) cert)
          (held_is r script w cluster clear ready.number ready.member ready.there
          (member_notes ready.member) [] (sym (append-nil (member_notes ready.member))) p.payload
          a holds)
          (suc q.view) q k (omega arith) (omega (arith, is, le)) b under

  -- what is held as settled for a view is no higher than the view
  pub settled_low : (i : ℕ) (m : Member) → member_at w i ≡ Some m → (view : ℕ) (c : Commitment)
      (b : Block)
      → settled (genesis_commitment r) (member_notes m) 0 view ≡ Some c
      → held r (member_notes m) c ≡ Some b → b.height ≤ view
  settled_low i m at view c b s h =
      go
      (settled_by i m at (member_notes m) [] (sym (append-nil (member_notes m))) view c s)
    where
      under : block_under r w c ≡ Some b
      under =
          held_is r script w cluster clear i m at (member_notes m) []
          (sym (append-nil (member_notes m))) c b h

      go : IsSettledBy view c → b.height ≤ view
      go (First z is) =
          let one : genesis r ≡ b =
          same_Some (genesis r) b
          (sym (genesis_held r (member_notes m)) ∙ (ap (held r (member_notes m)) (sym is) ∙ h)) in
          let low = ap (λ (x : Block). x.height) one in
          omega (arith, low)
      go (Next q k is pays) =
          let low =
          height_low (suc q.view) q k (omega arith) b (ap (block_under r w) pays ∙ under) in
          omega (arith, is, low)

  -- nor lower than the last final block, where the view isn't before its
  pub settled_high : (fin : ℕ) (a : Block) → Ready r w fin a → (i : ℕ) (m : Member)
      → member_at w i ≡ Some m → (view : ℕ) (c : Commitment) (b : Block)
      → settled (genesis_commitment r) (member_notes m) 0 view ≡ Some c
      → held r (member_notes m) c ≡ Some b → fin ≤ view → a.height ≤ b.height
  settled_high fin a ready i m at view c b s h le =
      go
      (settled_by i m at (member_notes m) [] (sym (append-nil (member_notes m))) view c s)
    where
      under : block_under r w c ≡ Some b
      under =
          held_is r script w cluster clear i m at (member_notes m) []
          (sym (append-nil (member_notes m))) c b h

      by_top : view ≡ 0 → HasTop r fin a (member_notes ready.member) → a.height ≤ b.height
      by_top z (Unknown y e) =
          let low = ap (λ (x : Block). x.height) e in omega (arith, low)
      by_top z (Known p cert is holds) =
          let pos =
          notarized_above r.epochs (block_fits r) (members_of w)
          (lawful r script w cluster clear) p
          (finalized_notarized r.epochs (block_fits r) (members_of w)
          (lawful r script w cluster clear) p
          (cert_stands r none script w cluster clear ready.number ready.member ready.there
          (Finalize p) cert)) in
          absurd (omega (arith, pos, is, le, z))

      go : IsSettledBy view c → a.height ≤ b.height
      go (First z is) = by_top z ready.top
      go (Next q k is pays) =
          certified_over fin a ready q k (omega (arith, is, le)) b
          (ap (block_under r w) pays ∙ under)
