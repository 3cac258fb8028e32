-- In one epoch without end: each honest member is told what an offer is over.
use Rattle.std.proofs.Common.{◌≡◌, ℕ, zero, suc, ◌+◌, ◌-◌, ◌<◌, ◌≤◌, true, ◌==◌, List, Some, None, option_map, sym, ◌∙◌, ap, subst, inl, inr, ◌⊎◌, arith, ne_eqb}
use Rattle.std.proofs.lemmas.Bool.{cases_lt, cond-false}
use Rattle.cw_types.specs.declared.note.Note.{Note}
use Rattle.cw_types.specs.declared.vote.Proposal.{Proposal}
use Rattle.cw_types.specs.declared.vote.Vote.TheVariants.{Finalize, Nullify}
use Rattle.cw_rules.specs.Notes.{epoch_parent, has_cert, has_certified, nullified, settled, settler}
use Rattle.cw_rules.specs.Reached.{IsCluster, ReachesClear}
use Rattle.cw_rules.specs.Rules.{Rules, genesis_commitment}
use Rattle.cw_rules.specs.Step.{Member, member_notes}
use Rattle.cw_rules.specs.World.{Line, World, member_at}
use Rattle.cw_rules.proofs.Lists.{map_some}
use Rattle.cw_rules.proofs.NoteLemmas.{settler_tells}
use Rattle.cw_progress.proofs.Certifies.{settled_same}
use Rattle.cw_progress.proofs.Chains.{settles_so}
use Rattle.cw_progress.proofs.Ends.{certified_in_notes}
use Rattle.cw_progress.proofs.Latest.{HasTop}
use Rattle.cw_progress.proofs.OfferGives.{Every, HasAt, IsLasting, all_have, cert_to, certified_to, every_on, some_on}
use Rattle.cw_progress.proofs.OfferLeader.{top_settles}
use Rattle.cw_progress.proofs.OfferMade.{goes_map, made_on}
use Rattle.cw_progress.proofs.OfferParents.{null_later}
use Rattle.cw_progress.proofs.OfferProposed.{IsOffered, Terms}
use Rattle.cw_progress.proofs.OneView.{Leads, stays, top_to}
use Rattle.cw_progress.proofs.Stages.{later_settled}
use Rattle.cw_progress.proofs.Ways.{HasSome, NoVote, Way, goes_then}

module _ (r : Rules) (none : r.epochs.span ≡ None) (payload : List ℕ) (view l : ℕ) (x : Terms)
    (low : ℕ) where
  abbrev p : Proposal
  p = x.proposal

  abbrev Offered : World → Type 0
  Offered = IsOffered r payload view l x low

  offered_on : (u v : World) → Way r u payload NoVote v → Offered u → Offered v
  offered_on u v way k = made_on r none payload view l low u v way x k

  -- ---- its parent

  abbrev HasParent : List Note → Type 0
  HasParent ns = settled (genesis_commitment r) ns 0 p.parent ≡ Some x.over

  parent_lasts : IsLasting r none payload HasParent
  parent_lasts xs ys k h = later_settled (genesis_commitment r) xs ys k 0 p.parent x.over h

  module _ (script : List Line) (u : World) (cluster : IsCluster r script)
      (clear : ReachesClear r script u) (k : Offered u) (j : ℕ) (n : Member)
      (at : member_at u j ≡ Some n) where
    -- over the last final block
    from_top : x.final_view ≡ p.parent → Leads r none payload u (HasAt r none payload HasParent j)
    from_top same =
        goes_map r payload NoVote u
        (HasAt r none payload (HasTop r x.final_view x.final_block) j)
        (HasAt r none payload HasParent j) so
        (top_to r none payload script u cluster clear x.final_view x.final_block k.ready j n at)
      where
        so : (v : World) → Way r u payload NoVote v
            → HasAt r none payload (HasTop r x.final_view x.final_block) j v
            → HasAt r none payload HasParent j v
        so v way (z, there, top) =
            let o = offered_on u v way k in
            let (c, s, h) =
            top_settles r none way.path.script v way.path.cluster way.path.clear x.final_view
            x.final_block o.ready j z there top in
            let own : settled (genesis_commitment r) (member_notes z) 0 p.parent ≡ Some c =
            subst (λ y. settled (genesis_commitment r) (member_notes z) 0 y ≡ Some c) same s in
            let one : c ≡ x.over =
            settled_same r way.path.script v way.path.cluster way.path.clear j l z o.member there
            o.there 0 p.parent c x.over own o.offers.settles in
            (z, there, own ∙ ap (λ d. Some d) one)

    -- over what the leader certified
    from_certified : x.final_view < p.parent → (q : Proposal) → q.epoch ≡ 0
        → q.view ≡ p.parent → q.payload ≡ x.over
        → has_certified (member_notes k.member) q ≡ true
        → Leads r none payload u (HasAt r none payload HasParent j)
    from_certified lt q of is pays said =
        goes_map r payload NoVote u (HasAt r none payload (λ ns. has_certified ns q ≡ true) j)
        (HasAt r none payload HasParent j) so
        (certified_to r none payload script u cluster clear x.final_view x.final_block k.ready l
        k.member k.there q (certified_in_notes q (member_notes k.member) said) of
        (omega (arith, lt, is)) j n at)
      where
        so : (v : World) → Way r u payload NoVote v
            → HasAt r none payload (λ ns. has_certified ns q ≡ true) j v
            → HasAt r none payload HasParent j v
        so v way (z, there, t) = (
          z,
          there,
          subst (λ y. settled (genesis_commitment r) (member_notes z) 0 y ≡ Some x.over) is
              (subst
              (λ e. settled (genesis_commitment r) (member_notes z) e q.view ≡ Some x.over) of
              (settles_so r way.path.script v way.path.cluster way.path.clear j z there q (inl t)
              ∙ ap (λ d. Some d) pays)),
        )

    parent_to : Leads r none payload u (HasAt r none payload HasParent j)
    parent_to = go (cases_lt x.final_view p.parent)
      where
        by_settles : x.final_view < p.parent → (q : Proposal) → q.epoch ≡ 0
            → q.view ≡ p.parent → q.payload ≡ x.over
            → (has_certified (member_notes k.member) q ≡ true)
            ⊎ (has_cert (member_notes k.member) (Finalize q) ≡ true)
            → Leads r none payload u (HasAt r none payload HasParent j)
        by_settles lt q of is pays (inl said) = from_certified lt q of is pays said
        by_settles lt q of is pays (inr cert) =
            let early =
            k.ready.last q (record {
              number = l;
              member = k.member;
              there = k.there;
              noted = cert;
            }) in
            absurd (omega (arith, early, is, lt))

        go : (x.final_view < p.parent) ⊎ (p.parent ≤ x.final_view)
            → Leads r none payload u (HasAt r none payload HasParent j)
        go (inr le) = let e = k.late in from_top (omega (arith, le, e))
        go (inl lt) =
            let notes = member_notes k.member in
            let (q, found, pays) =
            map_some (λ (q : Proposal). q.payload) (settler notes 0 p.parent) x.over
            (sym
            (cond-false (p.parent == 0) (epoch_parent (genesis_commitment r) notes 0)
            (option_map (λ (q : Proposal). q.payload) (settler notes 0 p.parent))
            (ne_eqb p.parent 0 (λ z. absurd (omega (arith, z, lt)))))
            ∙ k.offers.settles) in
            let t = settler_tells notes 0 p.parent q found in
            by_settles lt q t.0 t.1 pays t.2

  all_parents : (script : List Line) (u : World) → IsCluster r script → ReachesClear r script u
      → Offered u
      → Leads r none payload u (λ v. Offered v × Every r none payload HasParent v)
  all_parents script u cluster clear k =
      goes_map r payload NoVote u (Every r none payload HasParent)
      (λ v. Offered v × Every r none payload HasParent v) (λ v way h. (offered_on u v way k, h))
      (all_have r none payload Offered offered_on HasParent parent_lasts parent_to script u cluster
      clear k)

  -- ---- the views between

  abbrev HasNulls : ℕ → List Note → Type 0
  HasNulls high ns = (y : ℕ) → p.parent < y → y < high → nullified ns 0 y ≡ true

  nulls_last : (high : ℕ) → IsLasting r none payload (HasNulls high)
  nulls_last high xs ys k h y above below = null_later r xs ys k y (h y above below)

  all_nulls : (more : ℕ) → p.parent + 1 + more ≤ p.view → (script : List Line) (u : World)
      → IsCluster r script → ReachesClear r script u → Offered u
      → Leads r none payload u
      (λ v. Offered v × Every r none payload (HasNulls (p.parent + 1 + more)) v)
  all_nulls zero le script u cluster clear k =
      stays r none payload script u cluster clear
      (λ v. Offered v × Every r none payload (HasNulls (p.parent + 1 + zero)) v)
      (k, λ j n at y above below. absurd (omega (arith, above, below)))
  all_nulls (suc more) le script u cluster clear k =
      goes_then r payload NoVote u
      (λ v. Offered v × Every r none payload (HasNulls (p.parent + 1 + more)) v)
      (λ v. Offered v × Every r none payload (HasNulls (p.parent + 1 + suc more)) v)
      (all_nulls more (omega (arith, le)) script u cluster clear k) next
    where
      top : ℕ
      top = p.parent + 1 + more

      T : List Note → Type 0
      T ns = has_cert ns (Nullify 0 top) ≡ true

      T_lasts : IsLasting r none payload T
      T_lasts xs ys k h = null_later r xs ys k top h

      joined : (ns : List Note) → HasNulls top ns → T ns → HasNulls (p.parent + 1 + suc more) ns
      joined ns h t y above below = go (cases_lt y top)
        where
          go : (y < top) ⊎ (top ≤ y) → nullified ns 0 y ≡ true
          go (inl lt) = h y above lt
          go (inr ge) =
              let same : top ≡ y = omega (arith, below, ge) in
              subst (λ z. nullified ns 0 z ≡ true) same t

      next : (v : World) → Way r u payload NoVote v
          → Offered v × Every r none payload (HasNulls top) v
          → Leads r none payload v
          (λ z. Offered z × Every r none payload (HasNulls (p.parent + 1 + suc more)) z)
      next v way (o, all) =
          goes_map r payload NoVote v (Every r none payload T)
          (λ z. Offered z × Every r none payload (HasNulls (p.parent + 1 + suc more)) z)
          (λ z on h. (
            offered_on v z on o,
            λ j n at.
                joined (member_notes n)
                (every_on r none payload (HasNulls top) (nulls_last top) NoVote v z on all j n at)
                (h j n at),
          ))
          (all_have r none payload (λ z. HasSome z (Nullify 0 top))
          (λ y z on s. some_on r payload NoVote y z on (Nullify 0 top) s) T T_lasts
          (λ s y c d h j n at. cert_to r none payload s y c d (Nullify 0 top) h j n at)
          way.path.script v way.path.cluster way.path.clear
          (record {
            number = l;
            member = o.member;
            there = o.there;
            noted = o.offers.nulls top (omega arith) (omega (arith, le));
          }))

  -- ---- both

  abbrev pub Knows : List Note → Type 0
  Knows ns = HasParent ns × HasNulls p.view ns

  pub knows_lasts : IsLasting r none payload Knows
  knows_lasts xs ys k h = (parent_lasts xs ys k h.0, nulls_last p.view xs ys k h.1)

  pub all_know : (script : List Line) (u : World) → IsCluster r script → ReachesClear r script u
      → Offered u → Leads r none payload u (λ v. Offered v × Every r none payload Knows v)
  all_know script u cluster clear k =
      goes_then r payload NoVote u (λ v. Offered v × Every r none payload HasParent v)
      (λ v. Offered v × Every r none payload Knows v) (all_parents script u cluster clear k) next
    where
      below : p.parent < p.view
      below = let e = k.new.below in let f = k.new.is_view in omega (arith, e, f)

      same : p.parent + 1 + (p.view - (p.parent + 1)) ≡ p.view
      same = omega (arith, below)

      next : (v : World) → Way r u payload NoVote v
          → Offered v × Every r none payload HasParent v
          → Leads r none payload v (λ z. Offered z × Every r none payload Knows z)
      next v way (o, all) =
          goes_map r payload NoVote v (λ z. Offered z × Every r none payload (HasNulls p.view) z)
          (λ z. Offered z × Every r none payload Knows z)
          (λ z on h. (
            h.0,
            λ j n at. (
              every_on r none payload HasParent parent_lasts NoVote v z on all j n at,
              h.1 j n at,
            ),
          ))
          (subst
          (λ y. Leads r none payload v
          (λ z. Offered z × Every r none payload (HasNulls y) z))
          same
          (all_nulls (p.view - (p.parent + 1)) (omega (arith, below)) way.path.script v
          way.path.cluster way.path.clear o))
