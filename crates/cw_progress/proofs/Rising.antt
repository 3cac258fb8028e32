-- Final heights rise with the views, and what is certified above them is held.
use Rattle.std.proofs.Common.{◌≡◌, ℕ, ◌<◌, ◌≤◌, true, false, List, [], ◌∷◌, ◌++◌, Some, option_map, refl, sym, ◌∙◌, ap, inl, inr, ◌⊎◌, arith}
use Rattle.std.specs.Option.{option_or}
use Rattle.std.proofs.lemmas.Bool.{cases_Bool, cond-true}
use Rattle.std.proofs.lemmas.Option.{same_Some}
use Rattle.cw_types.specs.declared.note.Note.{Note}
use Rattle.cw_types.specs.declared.vote.Proposal.{Proposal}
use Rattle.cw_types.specs.declared.vote.Vote.TheVariants.{Finalize, Notarize}
use Rattle.cw_types.specs.Block.{Block}
use Rattle.cw_types.specs.Same.{same_commitment}
use Rattle.cw_rules.specs.Accepted.{first_some}
use Rattle.cw_rules.specs.Chains.{block_under}
use Rattle.cw_rules.specs.Fits.{block_fits}
use Rattle.cw_rules.specs.Held.{held, kept_block, noted_block_of}
use Rattle.cw_rules.specs.Reached.{GoesDown, In, IsCluster, Lower, Reaches, ReachesClear, Same, members_of}
use Rattle.cw_rules.specs.Rules.{Rules, genesis, genesis_commitment}
use Rattle.cw_rules.specs.Stands.{Descends, LeadsTo, Stands}
use Rattle.cw_rules.specs.Step.{Member, member_notes}
use Rattle.cw_rules.specs.World.{Line, World, member_at}
use Rattle.cw_rules.proofs.Blocks.{first_in}
use Rattle.cw_rules.proofs.Certified.{ancestors_in, certified_at}
use Rattle.cw_rules.proofs.Chain.{finalized_descent, finalized_notarized}
use Rattle.cw_rules.proofs.Fits.{fit_positive}
use Rattle.cw_rules.proofs.Lists.{first_of_both}
use Rattle.cw_rules.proofs.Reach.{reached_keep, reached_lawful}
use Rattle.cw_rules.proofs.Runs.{clear_down, clear_reached}
use Rattle.cw_rules.proofs.Worlds.{IsWorldKept, get-map, kept_keep, kept_lawful, member_there}
use Rattle.cw_progress.specs.Tops.{final_top}
use Rattle.cw_progress.proofs.Ends.{has_noted}
use Rattle.cw_progress.proofs.Tops.{first_held, held_first, prune_final}

-- ---- heights

-- a way with one proposal more
pub way_on : (r : Rules) (w : World) (done : List Proposal) (q x y : Proposal)
    → LeadsTo r.epochs (members_of w) q done x → Stands r.epochs (members_of w) (Notarize y)
    → y.epoch ≡ x.epoch → y.view ≡ x.parent
    → LeadsTo r.epochs (members_of w) q (done ++ y ∷ []) y
way_on r w [] q x y same a of view =
    (a, of ∙ ap (λ (p : Proposal). p.epoch) (sym same), view ∙ ap (λ (p : Proposal). p.parent) (sym same), refl)
way_on r w (z ∷ zs) q x y (b, k, l, more) a of view =
    (b, k, l, way_on r w zs z x y more a of view)

module _ (r : Rules) (script : List Line) (w : World) (cluster : IsCluster r script)
    (clear : ReachesClear r script w) where
  world_kept : IsWorldKept r script w
  world_kept = go clear
    where
      go : ReachesClear r script w → IsWorldKept r script w
      go (before, rest, joined, h) = (clear_reached r script before rest w cluster joined h).kept

  -- down the way from what is finalized no block is higher
  pub way_low : (q : Proposal) → Stands r.epochs (members_of w) (Finalize q)
      → (done way : List Proposal) (x p : Proposal)
      → LeadsTo r.epochs (members_of w) q done x → LeadsTo r.epochs (members_of w) x way p
      → (b a : Block) → block_under r w x.payload ≡ Some b → block_under r w p.payload ≡ Some a
      → a.height ≤ b.height
  way_low q fin done [] x p before same b a f g =
      let one : b ≡ a =
      same_Some b a (sym f ∙ (ap (λ (y : Proposal). block_under r w y.payload) same ∙ g)) in
      let two = ap (λ (y : Block). y.height) one in
      omega (arith, two)
  way_low q fin done (y ∷ way) x p before (stands, of, view, more) b a f g =
      by_step
      (clear_down r script w cluster clear x y
      (ancestors_in r cluster.spans (members_of w) (kept_lawful r script w cluster world_kept)
      (kept_keep r script w world_kept) q x fin (done, before))
      stands of view)
      (λ c h. way_low q fin (done ++ y ∷ []) way y p (way_on r w done q x y before stands of view)
      more c a h g)
    where
      by_step : GoesDown r w x y
          → ((c : Block) → block_under r w y.payload ≡ Some c → a.height ≤ c.height)
          → a.height ≤ b.height
      by_step (Lower d c k l up) later =
          let one : b ≡ d = same_Some b d (sym f ∙ k) in
          let two = ap (λ (z : Block). z.height) one in
          omega (arith, two, up, later c l)
      by_step (Same s d k last) later = later b (ap (block_under r w) (sym s) ∙ f)

  -- what is finalized in a later view of the epoch is no lower
  pub rises : (p q : Proposal) → Stands r.epochs (members_of w) (Finalize p)
      → Stands r.epochs (members_of w) (Finalize q) → p.epoch ≡ q.epoch → p.view < q.view
      → (a b : Block) → block_under r w p.payload ≡ Some a → block_under r w q.payload ≡ Some b
      → a.height ≤ b.height
  rises p q fp fq same lt a b f g =
      go
      (finalized_descent r.epochs (block_fits r) (members_of w)
      (kept_lawful r script w cluster world_kept) p q fp
      (finalized_notarized r.epochs (block_fits r) (members_of w)
      (kept_lawful r script w cluster world_kept) q fq)
      same lt)
    where
      go : Descends r.epochs (members_of w) q p → a.height ≤ b.height
      go (way, leads) = way_low q fq [] way q p refl leads b a g f

-- ---- blocks

-- whoever certified a proposal noted its block, and holds it where it is as high as what it knows
-- to be final
pub certified_held : (r : Rules) (script : List Line) (w : World) → IsCluster r script
    → Reaches r script w → (i : ℕ) (m : Member) → member_at w i ≡ Some m → (p : Proposal)
    → In (Note.Certified p) (member_notes m)
    → (b : Block) × In (Note.Block p.payload b) (member_notes m)
    × (final_top r (member_notes m) ≤ b.height → held r (member_notes m) p.payload ≡ Some b)
certified_held r script w cluster reach i m at p h =
    let there =
    get-map (option_map member_notes) w.members i (Some m) (member_there w i m at) in
    let (before, rest, joined, f) =
    certified_at r cluster.spans (members_of w) (reached_lawful r script w cluster reach)
    (reached_keep r script w cluster reach) i (member_notes m) there p
    (has_noted p (member_notes m) h) in
    go before rest joined f.block f.holds
    (fit_positive r cluster.spans p f.block f.over f.parent f.fit)
    (cases_Bool (same_commitment p.payload (genesis_commitment r)))
  where
    go : (before rest : List Note) → member_notes m ≡ before ++ rest → (b : Block)
        → held r before p.payload ≡ Some b → 0 < b.height
        → (same_commitment p.payload (genesis_commitment r) ≡ true)
        ⊎ (same_commitment p.payload (genesis_commitment r) ≡ false)
        → (b : Block) × In (Note.Block p.payload b) (member_notes m)
        × (final_top r (member_notes m) ≤ b.height → held r (member_notes m) p.payload ≡ Some b)
    go before rest joined b holds pos (inl t) =
        let e : Some (genesis r) ≡ Some b =
        sym
        (cond-true (same_commitment p.payload (genesis_commitment r)) (Some (genesis r))
        (kept_block before p.payload) t)
        ∙ holds in
        let f : genesis r ≡ b = same_Some (genesis r) b e in
        let g = ap (λ (x : Block). x.height) f in
        absurd (omega (arith, g, pos))
    go before rest joined b holds pos (inr n) =
        let first : first_some (noted_block_of p.payload) (member_notes m) ≡ Some b =
        ap (first_some (noted_block_of p.payload)) joined
        ∙ (first_of_both (noted_block_of p.payload) before rest
        ∙ ap (λ o. option_or o (first_some (noted_block_of p.payload) rest))
        (held_first r before p.payload b n holds).0) in (
          b,
          first_in p.payload (member_notes m) b first,
          λ le.
              first_held r (member_notes m) p.payload b n first
              (omega (arith, le, prune_final r script w cluster reach i m at)),
        )
