-- What is certified above a final block goes over, one proposal after another.
use Rattle.std.proofs.Common.{◌≡◌, ℕ, zero, suc, ◌+◌, ◌<◌, ◌≤◌, Bool, true, false, ◌&&◌, ◌==◌, max, nat_le, List, [], ◌∷◌, ◌++◌, Some, filter_map, find, option_map, refl, sym, ◌∙◌, ap, subst, inl, inr, ◌⊎◌, arith, eq-eqb, ne_eqb, append_assoc, append-nil, slice_get}
use Rattle.std.proofs.lemmas.Bool.{and_from, cases_Bool, cases_eq, cases_lt, cond-true, cond-false, false≢true, le-leb}
use Rattle.std.proofs.lemmas.Option.{same_Some}
use Rattle.cw_types.specs.declared.commitment.Commitment.{Commitment}
use Rattle.cw_types.specs.declared.event.Event.{Event}
use Rattle.cw_types.specs.declared.message.Message.{Message}
use Rattle.cw_types.specs.declared.note.Note.{Note}
use Rattle.cw_types.specs.declared.vote.Cert.{Cert}
use Rattle.cw_types.specs.declared.vote.Proposal.{Proposal}
use Rattle.cw_types.specs.declared.vote.Vote.{Vote}
use Rattle.cw_types.specs.declared.vote.Vote.TheVariants.{Finalize, Notarize}
use Rattle.cw_types.specs.Block.{Block}
use Rattle.cw_types.specs.Same.{same_commitment}
use Rattle.cw_types.specs.Votes.{finalized}
use Rattle.cw_rules.specs.Chains.{block_under}
use Rattle.cw_rules.specs.Fits.{block_fits, fits_over}
use Rattle.cw_rules.specs.Held.{greatest_floor, greatest_prune, held}
use Rattle.cw_rules.specs.Notes.{ended, ended_by, epoch_parent, greatest, has_cert, has_certified, is_cert, settled, settler, settling, view_of}
use Rattle.cw_rules.specs.Keeps.{IsCertifiedIn}
use Rattle.cw_rules.specs.Reached.{In, IsCluster, ReachesClear, members_of}
use Rattle.cw_rules.specs.Rules.{Rules, commit, genesis_commitment}
use Rattle.cw_rules.specs.Stands.{AreKept, AreLawful, Descends, LeadsTo, Stands}
use Rattle.cw_rules.specs.Step.{Member, member_notes, step}
use Rattle.cw_rules.specs.World.{Line, World, member_at, signed, with_done}
use Rattle.cw_rules.proofs.Blocks.{under_commit}
use Rattle.cw_rules.proofs.Certified.{finalized_in}
use Rattle.cw_rules.proofs.Chain.{certified_rests, finalized_descent, notarized_above, notarized_below, one_notarized, settler_stands}
use Rattle.cw_rules.proofs.Fits.{Again, Fit, New, fit_cases, fit_positive}
use Rattle.cw_rules.proofs.Lists.{in_left, map_some}
use Rattle.cw_rules.proofs.NoteLemmas.{any_front, settler_tells}
use Rattle.cw_progress.specs.Going.{helps}
use Rattle.cw_progress.specs.Over.{Begun, ComesTo, ComesToClash, Final, IsBase, KnowsNoLater}
use Rattle.cw_progress.specs.Tops.{final_top}
use Rattle.cw_progress.proofs.Certifies.{Certifies, HasBlock, HasOver, block_goes, certifies, fitted_other, held_is, keeps, lawful, noted_is, notes_at, one_each, one_over, settled_same}
use Rattle.cw_progress.proofs.Ends.{cert_note, certified_in_notes, ends_here, ends_tell, greatest_in, has_noted, member_is, member_with}
use Rattle.cw_progress.proofs.Fresh.{again, again_helps, one_started}
use Rattle.cw_progress.proofs.Finals.{settled_stays}
use Rattle.cw_progress.proofs.Outs.{mapped_from, mapped_in}
use Rattle.cw_progress.proofs.Paths.{clear_reaches}
use Rattle.cw_progress.proofs.Rising.{certified_held}
use Rattle.cw_progress.proofs.Stages.{Arrives, Begins, Stage, begins, cert_goes, later_held, later_settled, taker_comes}
use Rattle.cw_progress.proofs.Tops.{in_greatest}

-- the view of the epoch is its beginning, or one in which a proposal is finalized
abbrev IsFinalView : Rules → World → ℕ → ℕ → Type 0
IsFinalView r w epoch view =
    (view ≡ 0)
    ⊎ ((p : Proposal) × Stands r.epochs (members_of w) (Finalize p) × (p.epoch ≡ epoch)
    × (p.view ≡ view))

-- a search that something passes finds something
find_some : {X : Type 0} (t : X → Bool) (xs : List X) (x : X) → In x xs → t x ≡ true
    → (y : X) × (find t xs ≡ Some y)
find_some t [] x h e = absurd h
find_some {X} t (z ∷ zs) x h e = go (cases_Bool (t z)) h (λ k. find_some t zs x k e)
  where
    go : (t z ≡ true) ⊎ (t z ≡ false) → In x (z ∷ zs)
        → (In x zs → (y : X) × (find t zs ≡ Some y)) → (y : X) × (find t (z ∷ zs) ≡ Some y)
    go (inl s) k later = (z, cond-true (t z) (Some z) (find t zs) s)
    go (inr f) (inl same) later = absurd (false≢true (sym f ∙ (ap t (sym same) ∙ e)))
    go (inr f) (inr k) later =
        let (y, found) = later k in (y, cond-false (t z) (Some z) (find t zs) f ∙ found)

-- a block isn't lower than the one that it fits over
fit_rises : (r : Rules) (p : Proposal) (b : Block) (c : Commitment) (a : Block)
    → fits_over r p b c a ≡ true → a.height ≤ b.height
fit_rises r p b c a h = go (fit_cases r p b c a h)
  where
    go : Fit r p b c a → a.height ≤ b.height
    go (New up within named digests) = omega (arith, up)
    go (Again same block pos last) =
        let high = ap (λ (x : Block). x.height) block in omega (arith, high)

-- what a member noted to be certified or final is settled for it
pub settles_so : (r : Rules) (script : List Line) (w : World) (cluster : IsCluster r script)
    (clear : ReachesClear r script w) (j : ℕ) (n : Member)
    → member_at w j ≡ Some n → (q : Proposal)
    → (has_certified (member_notes n) q ≡ true) ⊎ (has_cert (member_notes n) (Finalize q) ≡ true)
    → settled (genesis_commitment r) (member_notes n) q.epoch q.view ≡ Some q.payload
settles_so r script w cluster clear j n at q h =
    let (s, found) = find_some test (filter_map settling notes) q (settling_in h) itself in
    let t = settler_tells notes q.epoch q.view s found in
    let same : s ≡ q =
    one_notarized r.epochs (block_fits r) (members_of w) (lawful r script w cluster clear) s q
    (settler_stands r.epochs (block_fits r) (members_of w) (lawful r script w cluster clear)
    notes own q.epoch q.view s t)
    stands t.0 t.1 in
    cond-false (q.view == 0) (epoch_parent (genesis_commitment r) notes q.epoch)
    (option_map (λ (p : Proposal). p.payload) (settler notes q.epoch q.view))
    (ne_eqb q.view 0
    (λ z. absurd
    (omega (
      arith,
      z,
      notarized_above r.epochs (block_fits r) (members_of w)
          (lawful r script w cluster clear) q stands,
    ))))
    ∙ (ap (option_map (λ (p : Proposal). p.payload)) found
    ∙ ap (λ (p : Proposal). Some p.payload) same)
  where
    notes : List Note
    notes = member_notes n

    test : Proposal → Bool
    test p = (p.epoch == q.epoch) && (p.view == q.view)

    itself : test q ≡ true
    itself =
        and_from (q.epoch == q.epoch) (q.view == q.view) (eq-eqb q.epoch q.epoch refl)
        (eq-eqb q.view q.view refl)

    settling_in : (has_certified notes q ≡ true) ⊎ (has_cert notes (Finalize q) ≡ true)
        → In q (filter_map settling notes)
    settling_in (inl k) =
        mapped_in settling notes (Note.Certified q) q (certified_in_notes q notes k) refl
    settling_in (inr k) =
        let (t, inside, votes) = cert_note (Finalize q) notes k in
        mapped_in settling notes (Note.Cert t) q inside (ap finalized votes)

    own : AreKept r.epochs (block_fits r) (members_of w) notes
    own =
        (lawful r script w cluster clear).honest j notes (notes_at r script w cluster clear j n at)

    stands : Stands r.epochs (members_of w) (Notarize q)
    stands =
        settler_stands r.epochs (block_fits r) (members_of w) (lawful r script w cluster clear)
        notes own q.epoch q.view q (refl, refl, h)

-- down the way from what is notarized no view is later
pub way_falls : (r : Rules) (w : World) → AreLawful r.epochs (block_fits r) (members_of w)
    → (q : Proposal) → Stands r.epochs (members_of w) (Notarize q) → (way : List Proposal)
    (p : Proposal)
    → LeadsTo r.epochs (members_of w) q way p → p.view ≤ q.view
way_falls r w rules q a [] p same =
    let one = ap (λ (x : Proposal). x.view) same in omega (arith, one)
way_falls r w rules q a (s ∷ way) p (b, of, is, more) =
    omega (
      arith,
      is,
      notarized_below r.epochs (block_fits r) (members_of w) rules q a,
      way_falls r w rules s b way p more,
    )

module _ (r : Rules) (script : List Line) (w : World) (cluster : IsCluster r script)
    (clear : ReachesClear r script w) (payload : List ℕ) (i j : ℕ) (m n : Member)
    (at : member_at w i ≡ Some m) (epoch view : ℕ) (final : IsFinalView r w epoch view)
    (a : Block) (knows : KnowsNoLater r (member_notes m) epoch view a.height)
    (low : max (greatest_floor (member_notes n)) (greatest_prune (member_notes n)) ≤ a.height)
    (differ : i ≡ j → ⊥) where
  -- a stage at which the taker holds the final block
  record Starts : Type 0 where
    world : World
    giver : Member
    taker : Member
    stage : Stage r w payload i j (member_notes m) (member_notes n) world giver taker
    over : Commitment
    settles : settled (genesis_commitment r) (member_notes taker) epoch view ≡ Some over
    holds : held r (member_notes taker) over ≡ Some a

  -- the proposal goes over, and its block isn't lower than the final one
  record Climbs (p : Proposal) : Type 0 where
    block : Block
    high : a.height ≤ block.height
    under : block_under r w p.payload ≡ Some block
    over : HasOver r w payload i j (member_notes m) (member_notes n) p block

  own : AreKept r.epochs (block_fits r) (members_of w) (member_notes m)
  own =
      (lawful r script w cluster clear).honest i (member_notes m)
      (notes_at r script w cluster clear i m at)

  stands : (p : Proposal) → In (Note.Certified p) (member_notes m)
      → Stands r.epochs (members_of w) (Notarize p)
  stands p said =
      certified_rests r.epochs (block_fits r) (members_of w) (member_notes m) own p
      (has_noted p (member_notes m) said)

  -- no certified proposal has a parent below the final one
  parent_above : (p : Proposal) → In (Note.Certified p) (member_notes m) → p.epoch ≡ epoch
      → view < p.view → view ≤ p.parent
  parent_above p said of above = go final
    where
      by_way : (f : Proposal) → f.view ≡ view → (way : List Proposal)
          → LeadsTo r.epochs (members_of w) p way f → view ≤ p.parent
      by_way f is [] same =
          let one = ap (λ (x : Proposal). x.view) same in
          absurd (omega (arith, one, is, above))
      by_way f is (s ∷ way) (b, same, at_parent, more) =
          omega (
            arith,
            is,
            at_parent,
            way_falls r w (lawful r script w cluster clear) s b way f more,
          )

      by_descent : (f : Proposal) → f.view ≡ view → Descends r.epochs (members_of w) p f
          → view ≤ p.parent
      by_descent f is (way, leads) = by_way f is way leads

      go : IsFinalView r w epoch view → view ≤ p.parent
      go (inl z) = omega (arith, z)
      go (inr (f, fin, same, is)) =
          by_descent f is
          (finalized_descent r.epochs (block_fits r) (members_of w)
          (lawful r script w cluster clear) f p fin (stands p said) (same ∙ sym of)
          (omega (arith, is, above)))

  -- from a stage at which the taker holds what is settled for the parent view
  climb_from : (p : Proposal) → In (Note.Certified p) (member_notes m) → (f : Block)
      → block_under r w p.payload ≡ Some f → a.height ≤ f.height
      → (u : World) (x y : Member)
      → Stage r w payload i j (member_notes m) (member_notes n) u x y → (d : Commitment)
      (b : Block)
      → settled (genesis_commitment r) (member_notes y) p.epoch p.parent ≡ Some d
      → held r (member_notes y) d ≡ Some b → Climbs p ⊎ ComesToClash r w (helps w payload)
  climb_from p said f under high u x y s d b settled_there held_there =
      by_block
      (certified_held r script w cluster (clear_reaches r script w clear) i m at p said)
    where
      by_over : HasOver r w payload i j (member_notes m) (member_notes n) p f
          ⊎ ComesToClash r w (helps w payload)
          → Climbs p ⊎ ComesToClash r w (helps w payload)
      by_over (inl h) = inl (record { block = f; high = high; under = under; over = h })
      by_over (inr clash) = inr clash

      by_block : ((e : Block) × In (Note.Block p.payload e) (member_notes m)
          × (final_top r (member_notes m) ≤ e.height → held r (member_notes m) p.payload ≡ Some e))
          → Climbs p ⊎ ComesToClash r w (helps w payload)
      by_block (e, noted, kept) =
          let same : e ≡ f =
          same_Some e f
          (sym (noted_is r script w cluster clear i m at p.payload e noted) ∙ under) in
          let one = ap (λ (z : Block). z.height) same in
          by_over
          (one_over r w payload i j differ (member_notes m) (member_notes n) p said f
          (kept (omega (arith, knows.1, high, one)) ∙ ap Some same)
          (omega (arith, low, high)) u x y s d b settled_there held_there)

  climb : Starts → (bound : ℕ) (p : Proposal) → In (Note.Certified p) (member_notes m)
      → p.epoch ≡ epoch → view < p.view → p.view < bound → Climbs p ⊎ ComesToClash r w (helps w payload)
  climb s zero p said of above within = absurd (omega (arith, within))
  climb s (suc bound) p said of above within =
      by_parent (certifies r script w cluster clear i m at p said) (cases_eq p.parent view)
      (climb s bound)
    where
      below : p.parent < p.view
      below =
          notarized_below r.epochs (block_fits r) (members_of w) (lawful r script w cluster clear)
          p (stands p said)

      under : (k : Certifies r script w cluster clear m p)
          → block_under r w p.payload ≡ Some k.fitted.block
      under k =
          held_is r script w cluster clear i m at k.before k.rest k.joined p.payload
          k.fitted.block k.fitted.holds

      under_parent : (k : Certifies r script w cluster clear m p)
          → block_under r w k.fitted.over ≡ Some k.fitted.parent
      under_parent k =
          held_is r script w cluster clear i m at k.before k.rest k.joined k.fitted.over
          k.fitted.parent k.fitted.holds_parent

      rises : (k : Certifies r script w cluster clear m p)
          → k.fitted.parent.height ≤ k.fitted.block.height
      rises k = fit_rises r p k.fitted.block k.fitted.over k.fitted.parent k.fitted.fit

      -- over the final block
      at_base : (k : Certifies r script w cluster clear m p) → p.parent ≡ view
          → Climbs p ⊎ ComesToClash r w (helps w payload)
      at_base k same =
          let t = s.stage.path in
          let more = s.stage.gives_more in
          let settled_here : settled (genesis_commitment r) (member_notes s.taker) p.epoch p.parent
          ≡ Some s.over =
          subst
          (λ z. settled (genesis_commitment r) (member_notes s.taker) p.epoch z ≡ Some s.over)
          (sym same)
          (subst
          (λ z. settled (genesis_commitment r) (member_notes s.taker) z view ≡ Some s.over)
          (sym of) s.settles) in
          let over : k.fitted.over ≡ s.over =
          settled_same r t.script s.world t.cluster t.clear i j s.giver s.taker s.stage.gives_at
          s.stage.takes_at p.epoch p.parent k.fitted.over s.over
          (later_settled (genesis_commitment r) (member_notes m) (member_notes s.giver) more
          p.epoch p.parent k.fitted.over
          (subst
          (λ ns. settled (genesis_commitment r) ns p.epoch p.parent ≡ Some k.fitted.over)
          (sym k.joined)
          (settled_stays (genesis_commitment r) k.before k.rest p.epoch p.parent k.fitted.over
          k.fitted.settles)))
          settled_here in
          let one : k.fitted.parent ≡ a =
          same_Some k.fitted.parent a
          (sym
          (held_is r t.script s.world t.cluster t.clear i s.giver s.stage.gives_at k.before
          (k.rest ++ more.more)
          (more.joined
          ∙ (ap (λ ns. ns ++ more.more) k.joined ∙ append_assoc k.before k.rest more.more))
          k.fitted.over k.fitted.parent k.fitted.holds_parent)
          ∙ (ap (block_under r s.world) over
          ∙ held_is r t.script s.world t.cluster t.clear j s.taker s.stage.takes_at
          (member_notes s.taker) [] (sym (append-nil (member_notes s.taker))) s.over a s.holds))
          in
          let high = ap (λ (z : Block). z.height) one in
          climb_from p said k.fitted.block (under k) (omega (arith, high, rises k)) s.world
          s.giver s.taker s.stage s.over a settled_here s.holds

      -- over a certified proposal that has gone over
      over_it : (k : Certifies r script w cluster clear m p) (q : Proposal)
          → q.payload ≡ k.fitted.over → q.epoch ≡ p.epoch → q.view ≡ p.parent → Climbs q
          → Climbs p ⊎ ComesToClash r w (helps w payload)
      over_it k q pays same is x =
          let one : x.block ≡ k.fitted.parent =
          same_Some x.block k.fitted.parent
          (sym x.under ∙ (ap (block_under r w) pays ∙ under_parent k)) in
          let high = ap (λ (z : Block). z.height) one in
          climb_from p said k.fitted.block (under k) (omega (arith, high, rises k, x.high))
          x.over.world x.over.giver x.over.taker x.over.stage q.payload x.block
          (subst
          (λ z. settled (genesis_commitment r) (member_notes x.over.taker) p.epoch z
          ≡ Some q.payload)
          is
          (subst
          (λ z. settled (genesis_commitment r) (member_notes x.over.taker) z q.view
          ≡ Some q.payload)
          same
          (settles_so r x.over.stage.path.script x.over.world x.over.stage.path.cluster
          x.over.stage.path.clear j x.over.taker x.over.stage.takes_at q
          (inl x.over.certified))))
          x.over.held_there

      by_settler : (k : Certifies r script w cluster clear m p) → view < p.parent
          → ((q : Proposal) → In (Note.Certified q) (member_notes m) → q.epoch ≡ epoch
          → view < q.view → q.view < bound → Climbs q ⊎ ComesToClash r w (helps w payload))
          → (q : Proposal) → q.payload ≡ k.fitted.over → q.epoch ≡ p.epoch → q.view ≡ p.parent
          → (has_certified k.before q ≡ true) ⊎ (has_cert k.before (Finalize q) ≡ true)
          → Climbs p ⊎ ComesToClash r w (helps w payload)
      by_settler k more later q pays same is (inr fin) =
          absurd
          (omega (
            arith,
            more,
            is,
            knows.0 q
                (subst (λ ns. has_cert ns (Finalize q) ≡ true) (sym k.joined)
                (any_front (is_cert (Finalize q)) k.before k.rest fin))
                (same ∙ of),
          ))
      by_settler k more later q pays same is (inl cert) =
          go
          (later q
          (subst (In (Note.Certified q)) (sym k.joined)
          (in_left (Note.Certified q) k.before k.rest (certified_in_notes q k.before cert)))
          (same ∙ of) (omega (arith, more, is)) (omega (arith, is, below, within)))
        where
          go : Climbs q ⊎ ComesToClash r w (helps w payload) → Climbs p ⊎ ComesToClash r w (helps w payload)
          go (inl x) = over_it k q pays same is x
          go (inr clash) = inr clash

      by_parent : Certifies r script w cluster clear m p
          → (p.parent ≡ view) ⊎ (p.parent ≡ view → ⊥)
          → ((q : Proposal) → In (Note.Certified q) (member_notes m) → q.epoch ≡ epoch
          → view < q.view → q.view < bound → Climbs q ⊎ ComesToClash r w (helps w payload))
          → Climbs p ⊎ ComesToClash r w (helps w payload)
      by_parent k (inl same) later = at_base k same
      by_parent k (inr ne) later =
          let more : view < p.parent = above_it (parent_above p said of above) ne in
          let (q, found, pays) =
          map_some (λ (q : Proposal). q.payload) (settler k.before p.epoch p.parent)
          k.fitted.over
          (sym
          (cond-false (p.parent == 0) (epoch_parent (genesis_commitment r) k.before p.epoch)
          (option_map (λ (q : Proposal). q.payload) (settler k.before p.epoch p.parent))
          (ne_eqb p.parent 0 (λ z. absurd (omega (arith, z, more)))))
          ∙ k.fitted.settles) in
          let t = settler_tells k.before p.epoch p.parent q found in
          by_settler k more later q pays t.0 t.1 t.2
        where
          above_it : view ≤ p.parent → (p.parent ≡ view → ⊥) → view < p.parent
          above_it le ne = by_order (cases_lt view p.parent)
            where
              by_order : (view < p.parent) ⊎ (p.parent ≤ view) → view < p.parent
              by_order (inl lt) = lt
              by_order (inr high) = absurd (ne (omega (arith, le, high)))

-- ---- views

le_self : (k : ℕ) → nat_le k k ≡ true
le_self k = le-leb k k (omega arith)

-- who has noted the end of a view is in a later one
after_end : (notes : List Note) (epoch view low : ℕ) (n : Note) → In n notes
    → ended epoch n ≡ Some view → low ≤ view → nat_le (1 + low) (view_of notes epoch) ≡ true
after_end notes epoch view low n h e le =
    le-leb (1 + low) (view_of notes epoch)
    (omega (
      arith,
      le,
      in_greatest (filter_map (ended epoch) notes) view (mapped_in (ended epoch) notes n view h e),
    ))

-- ---- what both build on

module _ (r : Rules) (script : List Line) (w : World) (cluster : IsCluster r script)
    (clear : ReachesClear r script w) (payload : List ℕ) (i j : ℕ) (m n : Member)
    (at : member_at w i ≡ Some m) (there : member_at w j ≡ Some n) (epoch view : ℕ) (a : Block)
    (base : IsBase r (member_notes m) (member_notes n) epoch view a)
    (knows : KnowsNoLater r (member_notes m) epoch view a.height)
    (low : max (greatest_floor (member_notes n)) (greatest_prune (member_notes n)) ≤ a.height)
  where
    rules : AreLawful r.epochs (block_fits r) (members_of w)
    rules = lawful r script w cluster clear

    noted_stands : (v : Vote) → has_cert (member_notes m) v ≡ true
        → Stands r.epochs (members_of w) v
    noted_stands v cert =
        (rules.honest i (member_notes m) (notes_at r script w cluster clear i m at)).certs_stand v
        cert

    is_final : IsFinalView r w epoch view
    is_final = go base
      where
        go : IsBase r (member_notes m) (member_notes n) epoch view a → IsFinalView r w epoch view
        go (Begun z c settles holds) = inl z
        go (Final p cert of is holds) = inr (p, noted_stands (Finalize p) cert, of, is)

    abbrev IsStart : (i ≡ j → ⊥) → Type 0
    IsStart differ =
        Starts r script w cluster clear payload i j m n at epoch view is_final a knows low differ
        ⊎ ComesToClash r w (helps w payload)

    -- the block of what is finalized is under its commitment, which isn't genesis's
    final_named : (p : Proposal) → has_cert (member_notes m) (Finalize p) ≡ true
        → held r (member_notes m) p.payload ≡ Some a
        → (same_commitment p.payload (genesis_commitment r) ≡ false) × (commit r a ≡ p.payload)
    final_named p cert holds =
        by_somebody (member_with w certified.place certified.notes certified.at)
      where
        -- somebody certified it, with its block
        certified : IsCertifiedIn (members_of w) p
        certified =
            finalized_in r cluster.spans (members_of w) rules (keeps r script w cluster clear) p
            (noted_stands (Finalize p) cert)

        by_somebody : ((k : Member) × (slice_get w.members certified.place ≡ Some (Some k))
            × (member_notes k ≡ certified.notes))
            → (same_commitment p.payload (genesis_commitment r) ≡ false)
            × (commit r a ≡ p.payload)
        by_somebody (k, place, same) =
            let x =
            certifies r script w cluster clear certified.place k
            (member_is w certified.place k place) p
            (subst (In (Note.Certified p)) (sym same)
            (certified_in_notes p certified.notes certified.certified)) in
            let f = x.fitted in
            let under =
            held_is r script w cluster clear i m at (member_notes m) []
            (sym (append-nil (member_notes m))) p.payload a holds in
            let one : f.block ≡ a =
            same_Some f.block a
            (sym
            (held_is r script w cluster clear certified.place k
            (member_is w certified.place k place) x.before x.rest x.joined p.payload f.block
            f.holds)
            ∙ under) in
            let high = ap (λ (z : Block). z.height) one in (
              fitted_other r script w cluster clear x.before p f,
              under_commit r w (keeps r script w cluster clear)
                  (one_each r script w cluster clear) p.payload a under
                  (omega (
                    arith,
                    high,
                    fit_positive r cluster.spans p f.block f.over f.parent f.fit,
                  )),
            )

    -- a stage at which the taker holds the final block, and was told that it is final
    pub record Told (p : Proposal) : Type 0 where
      pub world : World
      pub giver : Member
      pub taker : Member
      pub stage : Stage r w payload i j (member_notes m) (member_notes n) world giver taker
      pub told : has_cert (member_notes taker) (Finalize p) ≡ true
      pub holds : held r (member_notes taker) p.payload ≡ Some a

    module _ (differ : i ≡ j → ⊥) (s : Begins r w payload i j m n) where
      -- the final block goes over first
      final_told : (p : Proposal) → has_cert (member_notes m) (Finalize p) ≡ true
          → p.epoch ≡ epoch → p.view ≡ view → held r (member_notes m) p.payload ≡ Some a
          → Told p ⊎ ComesToClash r w (helps w payload)
      final_told p cert of is holds =
          let (t, noted, votes) = cert_note (Finalize p) (member_notes m) cert in
          by_cert t noted votes
        where
          IsTold : Type 0
          IsTold = Told p ⊎ ComesToClash r w (helps w payload)

          by_cert : (t : Cert) → In (Note.Cert t) (member_notes m) → t.vote ≡ Finalize p → IsTold
          by_cert t noted votes =
              go
              (cert_goes r w payload i j differ (member_notes m) (member_notes n) s.world s.giver
              s.taker s.stage t (subst (In (Note.Cert t)) (sym s.given_same) noted))
            where
              e : Event
              e = Event.Deliver (Message.Cert t)

              after : Member
              after = (step r j (signed s.world) s.taker e).member

              next_world : World
              next_world = with_done s.world j (step r j (signed s.world) s.taker e)

              by_block : has_cert (member_notes after) (Finalize p) ≡ true
                  → HasBlock r w payload i j (member_notes m) (member_notes n) p.payload a
                  (member_notes after)
                  ⊎ ComesToClash r w (helps w payload)
                  → IsTold
              by_block cert_there (inr clash) = inr clash
              by_block cert_there (inl h) =
                  inl (record {
                    world = h.world;
                    giver = h.giver;
                    taker = (step r j h.sign h.before h.event).member;
                    stage = h.stage;
                    told =
                        subst (λ ns. has_cert ns (Finalize p) ≡ true) (sym h.later.joined)
                        (any_front (is_cert (Finalize p)) (member_notes after) h.later.more
                        cert_there);
                    holds = h.holds;
                  })

              go : (Stage r w payload i j (member_notes m) (member_notes n) next_world s.giver after
                  × (has_cert (member_notes after) t.vote ≡ true))
                  ⊎ ComesToClash r w (helps w payload)
                  → IsTold
              go (inr clash) = inr clash
              go (inl (x, h)) =
                  let named = final_named p cert holds in
                  let cert_there : has_cert (member_notes after) (Finalize p) ≡ true =
                  subst (λ v. has_cert (member_notes after) v ≡ true) votes h in
                  by_block cert_there
                  (block_goes r w payload i j differ (member_notes m) (member_notes n) p.payload a
                  holds low named.0 named.1 next_world s.giver s.taker (signed s.world) e x
                  (Finalize p) cert_there p refl refl)

      starts : IsStart differ
      starts = go base
        where
          by_told : (p : Proposal) → p.epoch ≡ epoch → p.view ≡ view
              → Told p ⊎ ComesToClash r w (helps w payload)
              → IsStart differ
          by_told p of is (inr clash) = inr clash
          by_told p of is (inl t) =
              inl (record {
                world = t.world;
                giver = t.giver;
                taker = t.taker;
                stage = t.stage;
                over = p.payload;
                settles =
                    subst
                    (λ z. settled (genesis_commitment r) (member_notes t.taker) epoch z
                    ≡ Some p.payload)
                    is
                    (subst
                    (λ z. settled (genesis_commitment r) (member_notes t.taker) z p.view
                    ≡ Some p.payload)
                    of
                    (settles_so r t.stage.path.script t.world t.stage.path.cluster
                    t.stage.path.clear j t.taker t.stage.takes_at p (inr t.told)));
                holds = t.holds;
              })

          go : IsBase r (member_notes m) (member_notes n) epoch view a → IsStart differ
          go (Begun z c settles holds) =
              inl (record {
                world = s.world;
                giver = s.giver;
                taker = s.taker;
                stage = s.stage;
                over = c;
                settles =
                    later_settled (genesis_commitment r) (member_notes n) (member_notes s.taker)
                    s.stage.takes_more epoch view c settles;
                holds =
                    later_held r (member_notes n) (member_notes s.taker) s.stage.takes_more c a
                    holds;
              })
          go (Final p cert of is holds) = by_told p of is (final_told p cert of is holds)

    abbrev Comes : (List Note → Bool) → Type 0
    Comes test = ComesTo r w j (helps w payload) test ⊎ ComesToClash r w (helps w payload)

    abbrev Lands : (i ≡ j → ⊥) → (List Note → Bool) → Type 0
    Lands differ test =
        Arrives r w payload i j differ (member_notes m) (member_notes n) test
        ⊎ ComesToClash r w (helps w payload)

    -- who has passed the test already does so once it is started again
    comes_itself : (test : List Note → Bool) → test (member_notes n) ≡ true → Comes test
    comes_itself test h =
        let k = one_started r w j in
        let f = k.it n there in
        inl (record {
          lines = again r (j ∷ []);
          are = again_helps r w payload (j ∷ []);
          after = f.member;
          there = ap (λ u. member_at u j) k.goes ∙ f.there;
          live = f.live;
          passes = subst (λ ns. test ns ≡ true) (sym f.same) h;
        })

    comes_there : (test : List Note → Bool) → ((differ : i ≡ j → ⊥) → Lands differ test)
        → (m ≡ n → test (member_notes n) ≡ true) → Comes test
    comes_there test other itself = go (cases_eq i j)
      where
        go : (i ≡ j) ⊎ (i ≡ j → ⊥) → Comes test
        go (inr differ) =
            taker_comes r w payload i j differ (member_notes m) (member_notes n) test
            (other differ)
        go (inl same) =
            comes_itself test
            (itself (same_Some m n (sym at ∙ (ap (member_at w) same ∙ there))))

    both_start : (differ : i ≡ j → ⊥) → Begins r w payload i j m n
    both_start differ = begins r script w cluster clear payload i j differ m n at there

    -- the final block goes over, with what tells that it is final
    pub final_lands : (i ≡ j → ⊥) → (p : Proposal) → has_cert (member_notes m) (Finalize p) ≡ true
        → p.epoch ≡ epoch → p.view ≡ view → held r (member_notes m) p.payload ≡ Some a
        → Told p ⊎ ComesToClash r w (helps w payload)
    final_lands differ = final_told differ (both_start differ)

    -- what is certified above goes over
    pub chain_lands : (differ : i ≡ j → ⊥) (p : Proposal) → In (Note.Certified p) (member_notes m)
        → p.epoch ≡ epoch → view < p.view → Lands differ (λ notes. has_certified notes p)
    chain_lands differ p said of above = by_start (starts differ (both_start differ))
      where
        by_climb : Climbs r script w cluster clear payload i j m n at epoch view is_final a knows
            low differ p
            ⊎ ComesToClash r w (helps w payload)
            → Lands differ (λ notes. has_certified notes p)
        by_climb (inr clash) = inr clash
        by_climb (inl x) =
            inl (record {
              world = x.over.world;
              giver = x.over.giver;
              taker = x.over.taker;
              stage = x.over.stage;
              passes = x.over.certified;
            })

        by_start : IsStart differ → Lands differ (λ notes. has_certified notes p)
        by_start (inr clash) = inr clash
        by_start (inl s) =
            by_climb
            (climb r script w cluster clear payload i j m n at epoch view is_final a knows low
            differ s (suc p.view) p said of above (omega arith))

    pub chain_goes : (p : Proposal) → In (Note.Certified p) (member_notes m) → p.epoch ≡ epoch
        → view < p.view → Comes (λ notes. has_certified notes p)
    chain_goes p said of above =
        comes_there (λ notes. has_certified notes p)
        (λ differ. chain_lands differ p said of above)
        (λ one. has_noted p (member_notes n)
        (subst (λ (x : Member). In (Note.Certified p) (member_notes x)) one said))

    -- to a view that is no lower
    pub view_lands : (differ : i ≡ j → ⊥)
        → Lands differ (λ notes. nat_le (view_of (member_notes m) epoch) (view_of notes epoch))
    view_lands differ = go (cases_lt 0 top)
      where
        top : ℕ
        top = greatest (filter_map (ended epoch) (member_notes m))

        test : List Note → Bool
        test notes = nat_le (1 + top) (view_of notes epoch)

        s : Begins r w payload i j m n
        s = both_start differ

        by_cert : (t : Cert) → In (Note.Cert t) (member_notes m) → (u : ℕ)
            → ended epoch (Note.Cert t) ≡ Some u → top ≤ u → Lands differ test
        by_cert t h u e le =
            by_stage
            (cert_goes r w payload i j differ (member_notes m) (member_notes n) s.world s.giver
            s.taker s.stage t (subst (In (Note.Cert t)) (sym s.given_same) h))
          where
            after : Member
            after = (step r j (signed s.world) s.taker (Event.Deliver (Message.Cert t))).member

            next_world : World
            next_world =
                with_done s.world j
                (step r j (signed s.world) s.taker (Event.Deliver (Message.Cert t)))

            by_stage : (Stage r w payload i j (member_notes m) (member_notes n) next_world
                s.giver after
                × (has_cert (member_notes after) t.vote ≡ true))
                ⊎ ComesToClash r w (helps w payload)
                → Lands differ test
            by_stage (inr clash) = inr clash
            by_stage (inl (x, cert)) =
                let (y, inside, same) = cert_note t.vote (member_notes after) cert in
                inl (record {
                  world = next_world;
                  giver = s.giver;
                  taker = after;
                  stage = x;
                  passes =
                      after_end (member_notes after) epoch u top (Note.Cert y) inside
                      (ap (ended_by epoch) same ∙ e) le;
                })

        by_chain : (q : Proposal) → q.epoch ≡ epoch → q.view ≡ top
            → Lands differ (λ notes. has_certified notes q) → Lands differ test
        by_chain q of is (inr clash) = inr clash
        by_chain q of is (inl g) =
            inl (record {
              world = g.world;
              giver = g.giver;
              taker = g.taker;
              stage = g.stage;
              passes =
                  after_end (member_notes g.taker) epoch top top (Note.Certified q)
                  (certified_in_notes q (member_notes g.taker) g.passes)
                  (ends_here epoch q.epoch q.view top of is) (omega arith);
            })

        by_base : 0 < top → top ≤ view
            → IsBase r (member_notes m) (member_notes n) epoch view a → Lands differ test
        by_base pos le (Begun z c settles holds) = absurd (omega (arith, pos, le, z))
        by_base pos le (Final p cert of is holds) =
            let (t, h, votes) = cert_note (Finalize p) (member_notes m) cert in
            by_cert t h view
            (ap (ended_by epoch) votes ∙ ends_here epoch p.epoch p.view view of is) le

        by_certified : (q : Proposal) → In (Note.Certified q) (member_notes m)
            → q.epoch ≡ epoch → q.view ≡ top → 0 < top → (view < q.view) ⊎ (q.view ≤ view)
            → Lands differ test
        by_certified q said of is pos (inl above) =
            by_chain q of is (chain_lands differ q said of above)
        by_certified q said of is pos (inr below) = by_base pos (omega (arith, is, below)) base

        by_note : (k : Note) → In k (member_notes m) → ended epoch k ≡ Some top → 0 < top
            → Lands differ test
        by_note (Note.Certified q) h e pos =
            let t = ends_tell epoch q.epoch q.view top e in
            by_certified q h t.0 t.1 pos (cases_lt view q.view)
        by_note (Note.Cert s) h e pos = by_cert s h top e (omega arith)
        by_note (Note.Vote v) h e pos = cc e
        by_note (Note.Verified x y d) h e pos = cc e
        by_note (Note.Block d b) h e pos = cc e
        by_note (Note.Ack x) h e pos = cc e
        by_note (Note.Floor x) h e pos = cc e
        by_note (Note.Prune x) h e pos = cc e
        by_note (Note.Epoch x d) h e pos = cc e

        go : (0 < top) ⊎ (top ≤ 0) → Lands differ test
        go (inl pos) =
            let (k, h, e) =
            mapped_from (ended epoch) (member_notes m) top
            (greatest_in (filter_map (ended epoch) (member_notes m)) pos) in
            by_note k h e pos
        go (inr none) =
            inl (record {
              world = s.world;
              giver = s.giver;
              taker = s.taker;
              stage = s.stage;
              passes =
                  le-leb (1 + top) (view_of (member_notes s.taker) epoch) (omega (arith, none));
            })

    pub view_goes : Comes (λ notes. nat_le (view_of (member_notes m) epoch) (view_of notes epoch))
    view_goes =
        comes_there (λ notes. nat_le (view_of (member_notes m) epoch) (view_of notes epoch))
        view_lands
        (λ one. subst
        (λ (x : Member). nat_le (view_of (member_notes m) epoch) (view_of (member_notes x) epoch)
        ≡ true)
        one (le_self (view_of (member_notes m) epoch)))
