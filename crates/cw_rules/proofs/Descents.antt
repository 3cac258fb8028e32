-- What honest members certify and finalize leads down to genesis, epoch by epoch.
use Rattle.std.proofs.Common.{◌≡◌, ℕ, zero, suc, ◌+◌, ◌-◌, ◌*◌, ◌<◌, ◌≤◌, true, false, ◌==◌, List, [], ◌∷◌, ◌++◌, Some, slice_get, refl, sym, ◌∙◌, ap, subst, inl, inr, ◌⊎◌, arith, eqb-true, ne_eqb, filter_map}
use Rattle.std.proofs.lemmas.Bool.{eqb-false, cases_Bool, cases_order, cond-true, cond-false}
use Rattle.std.proofs.lemmas.Option.{same_Some}
use Rattle.cw_types.specs.declared.commitment.Commitment.{Commitment}
use Rattle.cw_types.specs.declared.event.Handed.{Handed}
use Rattle.cw_types.specs.declared.note.Note.{Note}
use Rattle.cw_types.specs.declared.vote.Proposal.{Proposal}
use Rattle.cw_types.specs.declared.vote.Vote.TheVariants.{Finalize, Notarize}
use Rattle.cw_types.specs.Block.{Block}
use Rattle.cw_types.specs.Epochs.{Epochs, is_within}
use Rattle.cw_rules.specs.Accepted.{first_some}
use Rattle.cw_rules.specs.Chains.{block_under, chain_to, link_commitment, links_to}
use Rattle.cw_rules.specs.Fits.{block_fits}
use Rattle.cw_rules.specs.Held.{at_height, finalization_of, held}
use Rattle.cw_rules.specs.Keeps.{AllKeep, IsCertifiedIn}
use Rattle.cw_rules.specs.Reached.{AllAnchored, GoesDown, In, IsChainUpTo, IsLinkOf, Lower, Same, members_of}
use Rattle.cw_rules.specs.Rules.{Rules, commit, digest, genesis, genesis_commitment}
use Rattle.cw_rules.specs.Stands.{AreLawful, LeadsTo, Members, Stands}
use Rattle.cw_rules.specs.World.{World}
use Rattle.cw_rules.proofs.Chain.{one_notarized, finalized_notarized, finalized_descent, notarized_above, notarized_below}
use Rattle.cw_rules.proofs.Fits.{Fit, New, Again, IsSpanned, within_is}
use Rattle.cw_rules.proofs.Certified.{finalized_in}
use Rattle.cw_rules.proofs.Blocks.{NoClash, under_commit, DownTo, down_height, down_same, down_split, down_join, IsRooted, rooted_down, links_rooted, chain_rooted, links_down}
use Rattle.cw_rules.proofs.Bases
use Rattle.cw_rules.proofs.Bases.{IsFrontOf, At_genesis, At_entry, At_proposal, From_genesis, From_entry}

-- members M as they were at some time in the run of a world w without a clash: their notes are
-- fronts of those in w
module _ (r : Rules) (w : World)
    (spans : IsSpanned r.epochs) (keepw : AllKeep r (members_of w)) (clear : NoClash r w)
    (M : Members) (l : AreLawful r.epochs (block_fits r) M) (keep : AllKeep r M)
    (fronts : (i : ℕ) (notes : List Note) → slice_get M i ≡ Some (Some notes)
    → IsFrontOf w i notes) where
  abbrev x : Epochs
  x = r.epochs

  -- what `Bases` shows of these members
  genesis_under : block_under r w (genesis_commitment r) ≡ Some (genesis r)
  genesis_under = Bases.genesis_under r w spans keepw clear M l keep fronts

  entered_at : (i : ℕ) (notes : List Note) → slice_get M i ≡ Some (Some notes)
      → (epoch : ℕ) (c : Commitment) → In (Note.Epoch epoch c) notes
      → Bases.Entering r w spans keepw clear M l keep fronts epoch c
  entered_at = Bases.entered_at r w spans keepw clear M l keep fronts

  module _ (anchors : AllAnchored x M) where
    abbrev Parent : Proposal → Commitment → Type 0
    Parent = Bases.Parent r w spans keepw clear M l keep fronts anchors

    abbrev pub Linked : Proposal → Type 0
    Linked = Bases.Linked r w spans keepw clear M l keep fronts anchors

    pub linked : (p : Proposal) → IsCertifiedIn M p → Linked p
    linked = Bases.linked r w spans keepw clear M l keep fronts anchors

    abbrev Base : Proposal → Block → Type 0
    Base = Bases.Base r w spans keepw clear M l keep fronts anchors

    abbrev Based : Proposal → Type 0
    Based = Bases.Based r w spans keepw clear M l keep fronts anchors

    finalized_based : (p : Proposal) → Stands x M (Finalize p) → Based p
    finalized_based = Bases.finalized_based r w spans keepw clear M l keep fronts anchors

    -- ---- descents

    -- the way from a certified proposal to another leads down through their blocks
    pub lead_down : (way : List Proposal) (q p : Proposal) (bq bp : Block) → IsCertifiedIn M q
        → LeadsTo x M q way p → block_under r w q.payload ≡ Some bq
        → block_under r w p.payload ≡ Some bp → (k : ℕ) × DownTo r w k bq bp
    lead_down [] q p bq bp c e u v = (
      0,
      same_Some bq bp
          (sym u ∙ subst (λ (y : Proposal). block_under r w y.payload ≡ Some bp) (sym e) v),
    )
    lead_down (s ∷ way) q p bq bp c (a, of, same, more) u v =
        go (linked q c) (linked q c).fit (linked q c).from (lead_down way s p)
      where
        by_fit : (k : Linked q) → Fit r q k.block k.over k.parent → k.block ≡ bq
            → ((n : ℕ) × DownTo r w n k.parent bp) → (n : ℕ) × DownTo r w n bq bp
        by_fit k (New up within named digests) own (n, d) = (
          suc n,
          subst (λ y. DownTo r w (suc n) y bp) own (
            k.parent,
            subst (λ y. block_under r w y ≡ Some k.parent) (sym named) k.over_under,
            up,
            d,
          ),
        )
        by_fit k (Again again block pos last) own (n, d) =
            (n, subst (λ y. DownTo r w n y bp) (sym block ∙ own) d)

        go : (k : Linked q) → Fit r q k.block k.over k.parent → Parent q k.over
            → ((bs b : Block) → IsCertifiedIn M s → LeadsTo x M s way p
            → block_under r w s.payload ≡ Some bs → block_under r w p.payload ≡ Some b
            → (n : ℕ) × DownTo r w n bs b)
            → (n : ℕ) × DownTo r w n bq bp
        go k f (At_genesis z e g) later =
            absurd (omega (arith, notarized_above x (block_fits r) M l s a))
        go k f (At_entry z e n) later =
            absurd (omega (arith, notarized_above x (block_fits r) M l s a))
        go k f (At_proposal t ct st d y e) later =
            let same_t : t ≡ s =
            one_notarized x (block_fits r) M l t s st a (d ∙ sym of) (y ∙ sym same) in
            let over : block_under r w s.payload ≡ Some k.parent =
            subst (λ (z : Proposal). block_under r w z.payload ≡ Some k.parent) same_t
            (subst (λ z. block_under r w z ≡ Some k.parent) e k.over_under) in
            by_fit k f (same_Some k.block bq (sym k.under ∙ u))
            (later k.parent bp (subst (IsCertifiedIn M) same_t ct) more over v)

    -- each step of it goes to the height below, or keeps the payload at the epoch's last height
    pub goes_down : (q s : Proposal) → IsCertifiedIn M q → Stands x M (Notarize s)
        → s.epoch ≡ q.epoch → s.view ≡ q.parent → GoesDown r w q s
    goes_down q s c a of same = go (linked q c) (linked q c).fit (linked q c).from
      where
        by_fit : (k : Linked q) → Fit r q k.block k.over k.parent → k.over ≡ s.payload
            → GoesDown r w q s
        by_fit k (New up within named digests) e =
            Lower k.block k.parent k.under
            (subst (λ z. block_under r w z ≡ Some k.parent) e k.over_under) up
        by_fit k (Again again block pos last) e = Same (again ∙ e) k.block k.under last

        go : (k : Linked q) → Fit r q k.block k.over k.parent → Parent q k.over → GoesDown r w q s
        go k f (At_genesis z e g) = absurd (omega (arith, notarized_above x (block_fits r) M l s a))
        go k f (At_entry z e n) = absurd (omega (arith, notarized_above x (block_fits r) M l s a))
        go k f (At_proposal t ct st d y e) =
            by_fit k f
            (e
            ∙ ap (λ (z : Proposal). z.payload)
            (one_notarized x (block_fits r) M l t s st a (d ∙ sym of) (y ∙ sym same)))

    -- of two finalized blocks of one epoch one leads down to the other
    in_epoch : (p q : Proposal) → Stands x M (Finalize p) → Stands x M (Finalize q)
        → p.epoch ≡ q.epoch → (b d : Block) → block_under r w p.payload ≡ Some b
        → block_under r w q.payload ≡ Some d
        → ((k : ℕ) × DownTo r w k d b) ⊎ ((k : ℕ) × DownTo r w k b d)
    in_epoch p q sp sq e b d u v = go (cases_order p.view q.view)
      where
        go : (p.view ≡ q.view) ⊎ ((p.view < q.view) ⊎ (q.view < p.view))
            → ((k : ℕ) × DownTo r w k d b) ⊎ ((k : ℕ) × DownTo r w k b d)
        go (inl same) =
            let s : p ≡ q =
            one_notarized x (block_fits r) M l p q
            (finalized_notarized x (block_fits r) M l p sp)
            (finalized_notarized x (block_fits r) M l q sq) e same in
            inl (
              0,
              same_Some d b
                  (sym v ∙ subst (λ (y : Proposal). block_under r w y.payload ≡ Some b) s u),
            )
        go (inr (inl less)) =
            let (way, leads) =
            finalized_descent x (block_fits r) M l p q sp
            (finalized_notarized x (block_fits r) M l q sq) e less in
            inl (lead_down way q p d b (finalized_in r spans M l keep q sq) leads v u)
        go (inr (inr more)) =
            let (way, leads) =
            finalized_descent x (block_fits r) M l q p sq
            (finalized_notarized x (block_fits r) M l p sp) (sym e) more in
            inr (lead_down way p q b d (finalized_in r spans M l keep p sp) leads u v)

    -- one of a later epoch leads down to one of an earlier
    over_epochs : (bound : ℕ) (p q : Proposal) → Stands x M (Finalize p) → Stands x M (Finalize q)
        → p.epoch < q.epoch → q.epoch < bound → (b d : Block) → block_under r w p.payload ≡ Some b
        → block_under r w q.payload ≡ Some d → (k : ℕ) × DownTo r w k d b
    over_epochs zero p q sp sq less lt b d u v = absurd (omega arith)
    over_epochs (suc bound) p q sp sq less lt b d u v =
        go (finalized_based q sq) (finalized_based q sq).base (λ s. over_epochs bound p s)
      where
        low : (t : Based p) (span : ℕ) → x.span ≡ Some span → b.height ≤ (p.epoch + 1) * span
        low t span is_span =
            within_is x p.epoch b.height span is_span
            (subst (λ (z : Block). is_within x p.epoch z.height ≡ true)
            (same_Some t.block b (sym t.under ∙ u)) t.within)

        by_order : (t : Based q) (s : Proposal) → Stands x M (Finalize s) → s.epoch + 1 ≡ q.epoch
            → block_under r w s.payload ≡ Some t.root → (span : ℕ) → x.span ≡ Some span
            → t.root.height ≡ q.epoch * span
            → (p.epoch ≡ s.epoch) ⊎ ((p.epoch < s.epoch) ⊎ (s.epoch < p.epoch))
            → (p.epoch < s.epoch → (k : ℕ) × DownTo r w k t.root b)
            → (k : ℕ) × DownTo r w k t.root b
        by_order t s ss before us span is_span h (inl e) later =
            by_two (in_epoch p s sp ss e b t.root u us)
          where
            by_two : ((k : ℕ) × DownTo r w k t.root b) ⊎ ((k : ℕ) × DownTo r w k b t.root)
                → (k : ℕ) × DownTo r w k t.root b
            by_two (inl f) = f
            by_two (inr (k, f)) =
                let g : q.epoch * span ≡ (p.epoch + 1) * span =
                ap (λ n. n * span) (sym before ∙ ap (λ n. n + 1) (sym e)) in
                let z : k ≡ 0 =
                omega (
                  arith,
                  low (finalized_based p sp) span is_span,
                  down_height r w k b t.root f,
                  h,
                  g,
                ) in
                (0, sym (subst (λ n. DownTo r w n b t.root) z f))
        by_order t s ss before us span is_span h (inr (inl f)) later = later f
        by_order t s ss before us span is_span h (inr (inr f)) later = absurd (omega arith)

        go : (t : Based q) → Base q t.root
            → ((s : Proposal) → Stands x M (Finalize p) → Stands x M (Finalize s)
            → p.epoch < s.epoch → s.epoch < bound → (b d : Block)
            → block_under r w p.payload ≡ Some b → block_under r w s.payload ≡ Some d
            → (k : ℕ) × DownTo r w k d b)
            → (k : ℕ) × DownTo r w k d b
        go t (From_genesis z g) later = absurd (omega arith)
        go t (From_entry s ss before us span is_span h) later =
            let (k, f) =
            by_order t s ss before us span is_span h (cases_order p.epoch s.epoch)
            (λ f. later s sp ss f (omega arith) b t.root u us) in
            let down : DownTo r w t.steps d t.root =
            subst (λ z. DownTo r w t.steps z t.root) (same_Some t.block d (sym t.under ∙ v))
            t.down in
            (t.steps + k, down_join r w t.steps k d t.root b down f)

    -- of any two finalized blocks one leads down to the other
    pub compare : (p q : Proposal) → Stands x M (Finalize p) → Stands x M (Finalize q)
        → (b d : Block) → block_under r w p.payload ≡ Some b → block_under r w q.payload ≡ Some d
        → ((k : ℕ) × DownTo r w k d b) ⊎ ((k : ℕ) × DownTo r w k b d)
    compare p q sp sq b d u v = go (cases_order p.epoch q.epoch)
      where
        go : (p.epoch ≡ q.epoch) ⊎ ((p.epoch < q.epoch) ⊎ (q.epoch < p.epoch))
            → ((k : ℕ) × DownTo r w k d b) ⊎ ((k : ℕ) × DownTo r w k b d)
        go (inl e) = in_epoch p q sp sq e b d u v
        go (inr (inl less)) = inl (over_epochs (suc q.epoch) p q sp sq less (omega arith) b d u v)
        go (inr (inr more)) = inr (over_epochs (suc p.epoch) q p sq sp more (omega arith) d b v u)

    -- all notes that enter one epoch have one commitment
    pub one_entry : (i j : ℕ) (notes others : List Note) → slice_get M i ≡ Some (Some notes)
        → slice_get M j ≡ Some (Some others) → (epoch : ℕ) (c d : Commitment)
        → In (Note.Epoch epoch c) notes → In (Note.Epoch epoch d) others → c ≡ d
    one_entry i j notes others at at' epoch c d h h' =
        let n = entered_at i notes at epoch c h in
        let m = entered_at j others at' epoch d h' in
        let a = anchors i notes at epoch c h in
        let a' = anchors j others at' epoch d h' in
        let u : block_under r w a.proposal.payload ≡ Some n.reach.block =
        subst (λ y. block_under r w y ≡ Some n.reach.block) (sym a.payload) n.reach.under in
        let v : block_under r w a'.proposal.payload ≡ Some m.reach.block =
        subst (λ y. block_under r w y ≡ Some m.reach.block) (sym a'.payload) m.reach.under in
        let same : n.reach.block.height ≡ m.reach.block.height =
        n.reach.height
        ∙ (ap (λ y. epoch * y) (same_Some n.span m.span (sym n.is_span ∙ m.is_span))
        ∙ sym m.reach.height) in
        let block : n.reach.block ≡ m.reach.block =
        by_two n.reach.block m.reach.block same
        (compare a.proposal a'.proposal a.stands a'.stands n.reach.block m.reach.block u
        v) in
        let cn : commit r n.reach.block ≡ c =
        under_commit r w keepw clear c n.reach.block n.reach.under
        (omega (arith, n.reach.height, n.positive)) in
        let cm : commit r m.reach.block ≡ d =
        under_commit r w keepw clear d m.reach.block m.reach.under
        (omega (arith, m.reach.height, m.positive)) in
        sym cn ∙ (ap (commit r) block ∙ cm)
      where
        by_two : (b d : Block) → b.height ≡ d.height
            → ((k : ℕ) × DownTo r w k d b) ⊎ ((k : ℕ) × DownTo r w k b d) → b ≡ d
        by_two b d e (inl (k, f)) =
            let z : k ≡ 0 = omega (arith, down_height r w k d b f) in
            sym (subst (λ n. DownTo r w n d b) z f)
        by_two b d e (inr (k, f)) =
            let z : k ≡ 0 = omega (arith, down_height r w k b d f) in
            subst (λ n. DownTo r w n b d) z f

    -- ---- down to genesis

    -- what is finalized in an epoch below the bound is rooted
    abbrev LowRooted : ℕ → Type 0
    LowRooted bound =
        (q : Proposal) → Stands x M (Finalize q) → q.epoch < bound → (b : Block)
        → block_under r w q.payload ≡ Some b → IsRooted r w b.height b

    rooted_in : (epochs : ℕ) → LowRooted epochs → (bound : ℕ) (p : Proposal) → IsCertifiedIn M p
        → Stands x M (Notarize p) → p.epoch < suc epochs → p.view < bound → (b : Block)
        → block_under r w p.payload ≡ Some b → IsRooted r w b.height b
    rooted_in epochs below zero p c a le lt b u = absurd (omega arith)
    rooted_in epochs below (suc bound) p c a le lt b u =
        subst (λ (y : Block). IsRooted r w y.height y)
        (same_Some (linked p c).block b (sym (linked p c).under ∙ u))
        (go (linked p c) (linked p c).fit (linked p c).from
        (λ s. rooted_in epochs below bound s))
      where
        suc_height : (h g : ℕ) → h ≡ g + 1 → suc g ≡ h
        suc_height h g e = omega arith

        -- a new block over a rooted one
        over_it : (k : Linked p) → k.block.height ≡ k.parent.height + 1
            → k.block.context.parent ≡ k.over → k.block.parent ≡ digest r k.parent
            → link_commitment r k.parent ≡ k.over → IsRooted r w k.parent.height k.parent
            → IsRooted r w k.block.height k.block
        over_it k up named digests e root =
            subst (λ n. IsRooted r w n k.block) (suc_height k.block.height k.parent.height up) (
              k.parent,
              record {
                under = subst (λ y. block_under r w y ≡ Some k.parent) (sym named) k.over_under;
                height = up;
                named = named ∙ sym e;
                digests = digests;
                certified = k.certified;
              },
              root,
            )

        high_link : (k : Linked p) → 0 < k.parent.height → link_commitment r k.parent ≡ k.over
        high_link k pos =
            cond-false (k.parent.height == 0) (genesis_commitment r) (commit r k.parent)
            (ne_eqb k.parent.height 0 (λ z. omega arith))
            ∙ under_commit r w keepw clear k.over k.parent k.over_under pos

        go : (k : Linked p) → Fit r p k.block k.over k.parent → Parent p k.over
            → ((s : Proposal) → IsCertifiedIn M s → Stands x M (Notarize s) → s.epoch < suc epochs
            → s.view < bound → (b : Block) → block_under r w s.payload ≡ Some b
            → IsRooted r w b.height b)
            → IsRooted r w k.block.height k.block
        go k (New up within named digests) (At_genesis z e g) later =
            let root : k.parent ≡ genesis r =
            same_Some k.parent (genesis r)
            (sym (subst (λ c. block_under r w c ≡ Some k.parent) g k.over_under)
            ∙ genesis_under) in
            over_it k up named digests (ap (link_commitment r) root ∙ sym g)
            (subst (λ (y : Block). IsRooted r w y.height y) (sym root) refl)
        go k (New up within named digests) (At_entry z q n) later =
            let same = same_Some n.reach.block k.parent (sym n.reach.under ∙ k.over_under) in
            let pos : 0 < k.parent.height =
            subst (λ (y : Block). 0 < y.height) same
            (omega (arith, n.reach.height, n.positive)) in
            over_it k up named digests (high_link k pos)
            (below q.proposal q.stands (omega (arith, q.before)) k.parent
            (subst (λ y. block_under r w y ≡ Some k.parent) (sym q.payload) k.over_under))
        go k (New up within named digests) (At_proposal s cs st e v g) later =
            let us : block_under r w s.payload ≡ Some k.parent =
            subst (λ c. block_under r w c ≡ Some k.parent) g k.over_under in
            let t = linked s cs in
            let pos : 0 < k.parent.height =
            subst (λ (y : Block). 0 < y.height) (same_Some t.block k.parent (sym t.under ∙ us))
            t.positive in
            over_it k up named digests (high_link k pos)
            (later s cs st (omega arith)
            (omega (arith, notarized_below x (block_fits r) M l p a)) k.parent us)
        go k (Again same block pos last) (At_genesis z e g) later = absurd (omega arith)
        go k (Again same block pos last) (At_entry z q n) later = absurd (omega arith)
        go k (Again same block pos last) (At_proposal s cs st e v g) later =
            let us : block_under r w s.payload ≡ Some k.parent =
            subst (λ c. block_under r w c ≡ Some k.parent) g k.over_under in
            subst (λ (y : Block). IsRooted r w y.height y) (sym block)
            (later s cs st (omega arith)
            (omega (arith, notarized_below x (block_fits r) M l p a)) k.parent us)

    low_rooted : (bound : ℕ) → LowRooted bound
    low_rooted zero q st lt b u = absurd (omega arith)
    low_rooted (suc bound) q st lt b u =
        rooted_in bound (low_rooted bound) (suc q.view) q (finalized_in r spans M l keep q st)
        (finalized_notarized x (block_fits r) M l q st) lt (omega arith) b u

    rooted_block : (p : Proposal) → Stands x M (Finalize p) → (b : Block)
        → block_under r w p.payload ≡ Some b → IsRooted r w b.height b
    rooted_block p st b u = low_rooted (suc p.epoch) p st (omega arith) b u

    -- where a handed block lies: genesis, or down from a finalized proposal's block
    pub data Branch (y : Handed) : Type 0 where
      Low : y.height ≡ 0 → y.commitment ≡ genesis_commitment r → y.digest ≡ digest r (genesis r)
          → Branch y
      High : 0 < y.height → (p : Proposal) → Stands x M (Finalize p) → (b a : Block)
          → block_under r w p.payload ≡ Some b → (k : ℕ) → DownTo r w k b a
          → block_under r w y.commitment ≡ Some a → a.height ≡ y.height → y.digest ≡ digest r a
          → Branch y

    -- a block that the member handed out when it had these notes
    pub branch_of : (i : ℕ) (notes before rest : List Note) (at : slice_get M i ≡ Some (Some notes))
        (joined : notes ≡ before ++ rest) (y : Handed) (block : Block)
        → at_height r before y.height ≡ Some y.commitment → held r before y.commitment ≡ Some block
        → y.digest ≡ digest r block → Branch y
    branch_of i notes before rest at joined y block high holds same =
        go (cases_Bool (y.height == 0))
      where
        u : block_under r w y.commitment ≡ Some block
        u =
            Bases.held_under r w spans keepw clear M l keep fronts i notes before rest at
            joined y.commitment block holds

        go : ((y.height == 0) ≡ true) ⊎ ((y.height == 0) ≡ false) → Branch y
        go (inl t) =
            let s : genesis_commitment r ≡ y.commitment =
            same_Some (genesis_commitment r) y.commitment
            (sym
            (cond-true (y.height == 0) (Some (genesis_commitment r))
            (first_some _ (filter_map finalization_of before)) t)
            ∙ high) in
            let g : genesis r ≡ block =
            same_Some (genesis r) block
            (sym (subst (λ c. block_under r w c ≡ Some (genesis r)) s genesis_under) ∙ u) in
            Low (eqb-true y.height 0 t) (sym s) (same ∙ ap (digest r) (sym g))
        go (inr f) =
            let pos : 0 < y.height = omega (arith, eqb-false y.height 0 f) in
            let t =
            Bases.reaching r w spans keepw clear M l keep fronts i notes before rest at
            joined y.height y.commitment pos high in
            let same_block : t.block ≡ block = same_Some t.block block (sym t.under ∙ u) in
            High pos t.proposal t.stands t.top t.block t.top_under t.steps t.down t.under t.height
            (same ∙ ap (digest r) (sym same_block))

    -- ---- one chain

    -- a block from which both lead down
    record Above (a c : Block) : Type 0 where
      top : Block
      i : ℕ
      j : ℕ
      first : DownTo r w i top a
      second : DownTo r w j top c

    above : (p q : Proposal) → Stands x M (Finalize p) → Stands x M (Finalize q) → (b d a c : Block)
        → block_under r w p.payload ≡ Some b → block_under r w q.payload ≡ Some d → (i j : ℕ)
        → DownTo r w i b a → DownTo r w j d c → Above a c
    above p q sp sq b d a c u v i j e f = go (compare p q sp sq b d u v)
      where
        go : ((k : ℕ) × DownTo r w k d b) ⊎ ((k : ℕ) × DownTo r w k b d) → Above a c
        go (inl (k, n)) =
            record { top = d; i = k + i; j = j; first = down_join r w k i d b a n e; second = f }
        go (inr (k, n)) =
            record { top = b; i = i; j = k + j; first = e; second = down_join r w k j b d c n f }

    -- the lower of two such blocks is reached from the higher
    down_between : (a c : Block) → Above a c → c.height ≤ a.height
        → (k : ℕ) × (a.height ≡ k + c.height) × DownTo r w k a c
    down_between a c t le =
        let h = down_height r w t.i t.top a t.first in
        let g = down_height r w t.j t.top c t.second in
        let e : t.j ≡ t.i + (t.j - t.i) = omega arith in
        let (m, x, y) =
        down_split r w t.i (t.j - t.i) t.top c (subst (λ n. DownTo r w n t.top c) e t.second) in
        let s : m ≡ a = down_same r w t.i t.top m a x t.first in
        (t.j - t.i, omega arith, subst (λ z. DownTo r w (t.j - t.i) z c) s y)

    -- a rooted block's chain holds genesis in the first place
    root_link : (b : Block) → IsRooted r w b.height b
        → slice_get (chain_to r w b) 0 ≡ Some (genesis r)
    root_link b h =
        let k = links_rooted r w b.height b h in
        subst (λ xs. slice_get xs 0 ≡ Some (genesis r)) (sym k.are) refl

    link_named : (y : Handed) (a : Block) → block_under r w y.commitment ≡ Some a → 0 < a.height
        → y.commitment ≡ link_commitment r a
    link_named y a u pos =
        sym
        (cond-false (a.height == 0) (genesis_commitment r) (commit r a)
        (ne_eqb a.height 0 (λ z. omega arith))
        ∙ under_commit r w keepw clear y.commitment a u pos)

    -- each lower branch is a link below a higher one
    link_below : (z y : Handed) (a : Block) → 0 < z.height → (p : Proposal)
        → Stands x M (Finalize p) → (b : Block) → block_under r w p.payload ≡ Some b → (k : ℕ)
        → DownTo r w k b a → a.height ≡ z.height → IsRooted r w a.height a → Branch y
        → y.height ≤ z.height → IsLinkOf r (chain_to r w a) y
    link_below z y a pos p sp b u k d h root (Low e n g) le =
        record {
          link = genesis r;
          there =
              subst (λ i. slice_get (chain_to r w a) i ≡ Some (genesis r)) (sym e)
              (root_link a root);
          same_digest = g;
          same_commitment = n;
        }
    link_below z y a pos p sp b u k d h root (High pos' q sq b' c v k' e n g s) le =
        let (m, t, f) = down_between a c (above p q sp sq b b' a c u v k k' d e) (omega arith) in
        let root' : IsRooted r w (m + c.height) a = subst (λ i. IsRooted r w i a) t root in
        let there : slice_get (links_to r w (m + c.height) a) c.height ≡ Some c =
        links_down r w c.height m a c root' f in
        record {
          link = c;
          there =
              subst (λ i. slice_get (chain_to r w a) i ≡ Some c) g
              (subst (λ i. slice_get (links_to r w i a) c.height ≡ Some c) (sym t) there);
          same_digest = s;
          same_commitment = link_named y c n (omega arith);
        }

    -- all that is handed out lies on one chain
    pub one_chain : (handed : List Handed) → ((y : Handed) → In y handed → Branch y) → (z : Handed)
        → In z handed → IsChainUpTo r w handed z
    one_chain handed all z at = go (all z at)
      where
        go : Branch z → IsChainUpTo r w handed z
        go (Low e0 n g) = record {
          block = genesis r;
          under = subst (λ c. block_under r w c ≡ Some (genesis r)) (sym n) genesis_under;
          height = sym e0;
          chain = (refl, tt);
          links = λ y i le. low y (all y i) (omega arith);
        }
          where
            low : (y : Handed) → Branch y → y.height ≡ 0 → IsLinkOf r (chain_to r w (genesis r)) y
            low y (Low z' n' g') e =
                record {
                  link = genesis r;
                  there =
                      subst (λ i. slice_get (chain_to r w (genesis r)) i ≡ Some (genesis r)) (sym e)
                      refl;
                  same_digest = g';
                  same_commitment = n';
                }
            low y (High pos' q sq b' c v k' e' n' g' s') e = absurd (omega arith)
        go (High pos p sp b a u k d n h g) =
            let root' : IsRooted r w (k + a.height) b =
            subst (λ i. IsRooted r w i b) (down_height r w k b a d ∙ omega arith)
            (rooted_block p sp b u) in
            let root = rooted_down r w a.height k b a root' d in
            record {
              block = a;
              under = n;
              height = h;
              chain = chain_rooted r w a.height a root;
              links = λ y i le. link_below z y a pos p sp b u k d h root (all y i) le;
            }
