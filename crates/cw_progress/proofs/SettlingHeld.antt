-- In one epoch without end, where no block is gone that is still to be handed out, what all know to be
-- final and all that is below it comes to each that still has to hand it out.
use Rattle.std.proofs.Common.{◌≡◌, ℕ, zero, suc, ◌+◌, ◌<◌, ◌≤◌, true, false, ◌==◌, max, List, [], ◌∷◌, ◌++◌, Option, Some, None, is_some, option_map, slice_get, refl, sym, ◌∙◌, ap, subst, inl, inr, ◌⊎◌, arith, append_assoc, append-nil}
use Rattle.std.specs.Prelude.{IsSome}
use Rattle.std.specs.List.{AllByRecursion}
use Rattle.std.proofs.lemmas.Bool.{cases_Bool, cases_eq, cases_lt, cond-true, cond-false}
use Rattle.std.proofs.lemmas.Option.{same_Some}
use Rattle.cw_types.specs.declared.commitment.Commitment.{Commitment}
use Rattle.cw_types.specs.declared.event.Event.{Event}
use Rattle.cw_types.specs.declared.message.Message.{Message}
use Rattle.cw_types.specs.declared.note.Note.{Note}
use Rattle.cw_types.specs.declared.vote.Proposal.{Proposal}
use Rattle.cw_types.specs.declared.vote.Vote.TheVariants.{Finalize, Notarize}
use Rattle.cw_types.specs.Block.{Block}
use Rattle.cw_rules.specs.Chains.{Ends, block_under, outcome}
use Rattle.cw_rules.specs.Fits.{block_fits}
use Rattle.cw_rules.specs.Held.{at_height, greatest_floor, greatest_prune, held, resume}
use Rattle.cw_rules.specs.Keeps.{IsCertifiedIn}
use Rattle.cw_rules.specs.Notes.{epoch_parent, has_cert, has_certified, settler}
use Rattle.cw_rules.specs.Reached.{In, IsCluster, ReachesClear, members_of}
use Rattle.cw_rules.specs.Rules.{Rules, genesis, genesis_commitment}
use Rattle.cw_rules.specs.Stands.{AreKept, AreLawful, LeadsTo, Stands}
use Rattle.cw_rules.specs.Step.{Member, member_notes, step}
use Rattle.cw_rules.specs.World.{Line, World, member_at, run, signed, with_done}
use Rattle.cw_rules.proofs.Blocks.{under_commit}
use Rattle.cw_rules.proofs.Certified.{Fitting, ancestors_in}
use Rattle.cw_rules.proofs.Chain.{certified_rests, settler_stands}
use Rattle.cw_rules.proofs.Deliveries.{holds_genesis}
use Rattle.cw_rules.proofs.Fits.{Again, Fit, New, fit_cases, fit_positive, last_is}
use Rattle.cw_rules.proofs.Lists.{all_both, in_left, map_some}
use Rattle.cw_rules.proofs.NoteLemmas.{Settles, Settles_front, settler_tells}
use Rattle.cw_progress.specs.Fresh.{IsFresh}
use Rattle.cw_progress.specs.Going.{helps, is_stocked}
use Rattle.cw_progress.specs.Over.{ComesToClash}
use Rattle.cw_progress.specs.Settling.{ComeToHold, HoldsUpTo, KnowsFinal}
use Rattle.cw_progress.proofs.Certifies.{Certifies, HasBlock, block_goes, certifies, fitted_other, held_is, keeps, lawful, notes_at, one_each}
use Rattle.cw_progress.proofs.Ends.{certified_in_notes, member_is, member_with}
use Rattle.cw_progress.proofs.Fresh.{all_fresh}
use Rattle.cw_progress.proofs.Latest.{Known, Ready, cert_stands, final_first, gave_up_low, notarized_first}
use Rattle.cw_progress.proofs.OneView.{numbered, numbers}
use Rattle.cw_progress.proofs.Paths.{clear_reaches, outcome_both}
use Rattle.cw_progress.proofs.Rising.{way_on}
use Rattle.cw_progress.proofs.Rounds.{Brings, here_way}
use Rattle.cw_progress.proofs.SettlingCertified.{cert_later}
use Rattle.cw_progress.proofs.SettlingDown.{HoldsDown, at_down, down_here, down_later}
use Rattle.cw_progress.proofs.SettlingStocked.{IsStocked, resume_grows, stocked_tells}
use Rattle.cw_progress.proofs.SettlingViews.{near_fresh}
use Rattle.cw_progress.proofs.Stages.{Begins, Later, Stage, begins, cert_goes, later_held, later_in}
use Rattle.cw_progress.proofs.Tops.{held_stays}
use Rattle.cw_progress.proofs.Ways.{HasSome, NoVote, Way, all_so, goes_then, helps_before, stage_way}

-- ---- what a member certified

module _ (r : Rules) (script : List Line) (w : World) (cluster : IsCluster r script)
    (clear : ReachesClear r script w) where
  -- whoever certified a proposal holds its block, unless it let that go
  certified_kept : (i : ℕ) (m : Member) → member_at w i ≡ Some m → (q : Proposal)
      → In (Note.Certified q) (member_notes m) → (b : Block)
      → block_under r w q.payload ≡ Some b → greatest_prune (member_notes m) ≤ b.height
      → held r (member_notes m) q.payload ≡ Some b
  certified_kept i m at q said b under low =
      let k = certifies r script w cluster clear i m at q said in
      let same : k.fitted.block ≡ b =
      same_Some k.fitted.block b
      (sym
      (held_is r script w cluster clear i m at k.before k.rest k.joined q.payload k.fitted.block
      k.fitted.holds)
      ∙ under) in
      subst (λ ns. held r ns q.payload ≡ Some b) (sym k.joined)
      (held_stays r k.before k.rest q.payload b (k.fitted.holds ∙ ap Some same)
      (subst (λ ns. greatest_prune ns ≤ b.height) k.joined low))

  -- the block goes over
  record Lands (payload : List ℕ) (i j : ℕ) (m n : Member) (c : Commitment) (b : Block)
      : Type 0 where
    world : World
    giver : Member
    taker : Member
    stage : Stage r w payload i j (member_notes m) (member_notes n) world giver taker
    holds : held r (member_notes taker) c ≡ Some b

  block_lands : (payload : List ℕ) (i j : ℕ) (m n : Member) → member_at w i ≡ Some m
      → member_at w j ≡ Some n → (i ≡ j → ⊥) → (q : Proposal)
      → In (Note.Certified q) (member_notes m) → (b : Block)
      → held r (member_notes m) q.payload ≡ Some b
      → max (greatest_floor (member_notes n)) (greatest_prune (member_notes n)) ≤ b.height
      → Lands payload i j m n q.payload b ⊎ ComesToClash r w (helps w payload)
  block_lands payload i j m n at there differ q said b holds low =
      go
      (cert_goes r w payload i j differ (member_notes m) (member_notes n) s.world s.giver s.taker
      s.stage k.cert
      (subst (In (Note.Cert k.cert)) (sym s.given_same)
      (subst (In (Note.Cert k.cert)) (sym k.joined)
      (in_left (Note.Cert k.cert) k.before k.rest k.noted))))
    where
      k : Certifies r script w cluster clear m q
      k = certifies r script w cluster clear i m at q said

      s : Begins r w payload i j m n
      s = begins r script w cluster clear payload i j differ m n at there

      under : block_under r w q.payload ≡ Some b
      under =
          held_is r script w cluster clear i m at (member_notes m) []
          (sym (append-nil (member_notes m))) q.payload b holds

      positive : Fitting r k.before q → 0 < b.height
      positive f =
          let same : f.block ≡ b =
          same_Some f.block b
          (sym
          (held_is r script w cluster clear i m at k.before k.rest k.joined q.payload f.block
          f.holds)
          ∙ under) in
          let high = ap (λ (z : Block). z.height) same in
          omega (arith, high, fit_positive r cluster.spans q f.block f.over f.parent f.fit)

      e : Event
      e = Event.Deliver (Message.Cert k.cert)

      after : Member
      after = (step r j (signed s.world) s.taker e).member

      next_world : World
      next_world = with_done s.world j (step r j (signed s.world) s.taker e)

      land : HasBlock r w payload i j (member_notes m) (member_notes n) q.payload b
          (member_notes after)
          ⊎ ComesToClash r w (helps w payload)
          → Lands payload i j m n q.payload b ⊎ ComesToClash r w (helps w payload)
      land (inr clash) = inr clash
      land (inl h) =
          inl (record {
            world = h.world;
            giver = h.giver;
            taker = (step r j h.sign h.before h.event).member;
            stage = h.stage;
            holds = h.holds;
          })

      go : (Stage r w payload i j (member_notes m) (member_notes n) next_world s.giver after
          × (has_cert (member_notes after) k.cert.vote ≡ true))
          ⊎ ComesToClash r w (helps w payload)
          → Lands payload i j m n q.payload b ⊎ ComesToClash r w (helps w payload)
      go (inr clash) = inr clash
      go (inl (x, h)) =
          land
          (block_goes r w payload i j differ (member_notes m) (member_notes n) q.payload b holds
          low (fitted_other r script w cluster clear k.before q k.fitted)
          (under_commit r w (keeps r script w cluster clear) (one_each r script w cluster clear)
          q.payload b under (positive k.fitted))
          next_world s.giver s.taker (signed s.world) e x (Notarize q)
          (subst (λ v. has_cert (member_notes after) v ≡ true) k.votes h) q refl refl)

-- ---- down from what is final

module _ (r : Rules) (none : r.epochs.span ≡ None) (payload : List ℕ) (j low : ℕ) where
  abbrev Leads : World → (World → Type 0) → Type 0
  Leads u P = Brings r none payload NoVote u P

  -- nobody let a block of that height or above go
  abbrev KeepAbove : World → Type 0
  KeepAbove u =
      (k : ℕ) (x : Member) → member_at u k ≡ Some x → greatest_prune (member_notes x) ≤ low

  abbrev IsFilled : ℕ → Block → World → Type 0
  IsFilled steps b u =
      (z : Member) × (member_at u j ≡ Some z)
      × (max (greatest_floor (member_notes z)) (greatest_prune (member_notes z)) ≤ low)
      × HoldsDown r (member_notes z) low steps b

  kept_on : (u v : World) → Way r u payload NoVote v → KeepAbove u → KeepAbove v
  kept_on u v way kept k y at = by_back (way.back k y at)
    where
      by_back : ((x : Member) × (member_at u k ≡ Some x)) → greatest_prune (member_notes y) ≤ low
      by_back (x, before) =
          let (z, still, later) = way.kept k x before in
          let prune = later.prune in
          let same = ap (λ (q : Member). greatest_prune (member_notes q))
          (same_Some z y (sym still ∙ at)) in
          omega (arith, prune, same, kept k x before)

  -- what a certified proposal stands on
  record Below (script : List Line) (u : World) (p q : Proposal) (b : Block) : Type 0 where
    block : Block
    up : block.height + 1 ≡ b.height
    from : ((b.context.parent ≡ genesis_commitment r) × (block ≡ genesis r))
        ⊎ ((s : Proposal) × (s.payload ≡ b.context.parent) × IsCertifiedIn (members_of u) s
        × (block_under r u s.payload ≡ Some block)
        × ((way : List Proposal) × LeadsTo r.epochs (members_of u) p way s))

  below : (script : List Line) (u : World) → IsCluster r script → ReachesClear r script u
      → (p q : Proposal) → Stands r.epochs (members_of u) (Finalize p) → (way : List Proposal)
      → LeadsTo r.epochs (members_of u) p way q → (b : Block)
      → block_under r u q.payload ≡ Some b → Below script u p q b
  below script u cluster clear p q fin way leads b under =
      by_member (member_with u c.place c.notes c.at)
    where
      rules : AreLawful r.epochs (block_fits r) (members_of u)
      rules = lawful r script u cluster clear

      c : IsCertifiedIn (members_of u) q
      c = ancestors_in r cluster.spans (members_of u) rules (keeps r script u cluster clear) p q fin
          (way, leads)

      by_member : ((x : Member) × (slice_get u.members c.place ≡ Some (Some x))
          × (member_notes x ≡ c.notes))
          → Below script u p q b
      by_member (x, slot, same) =
          by_fit
          (fit_cases r q k.fitted.block k.fitted.over k.fitted.parent k.fitted.fit)
        where
          at : member_at u c.place ≡ Some x
          at = member_is u c.place x slot

          k : Certifies r script u cluster clear x q
          k =
              certifies r script u cluster clear c.place x at q
              (subst (In (Note.Certified q)) (sym same)
              (certified_in_notes q c.notes c.certified))

          own : AreKept r.epochs (block_fits r) (members_of u) (member_notes x)
          own =
              rules.honest c.place (member_notes x)
              (notes_at r script u cluster clear c.place x at)

          stands_q : Stands r.epochs (members_of u) (Notarize q)
          stands_q =
              certified_rests r.epochs (block_fits r) (members_of u) (member_notes x) own q
              (subst (λ ns. has_certified ns q ≡ true) (sym same) c.certified)

          one : k.fitted.block ≡ b
          one =
              same_Some k.fitted.block b
              (sym
              (held_is r script u cluster clear c.place x at k.before k.rest k.joined q.payload
              k.fitted.block k.fitted.holds)
              ∙ under)

          under_parent : block_under r u k.fitted.over ≡ Some k.fitted.parent
          under_parent =
              held_is r script u cluster clear c.place x at k.before k.rest k.joined k.fitted.over
              k.fitted.parent k.fitted.holds_parent

          parent_is : k.fitted.block.context.parent ≡ k.fitted.over
              → k.fitted.over ≡ b.context.parent
          parent_is named = sym named ∙ ap (λ (z : Block). z.context.parent) one

          height_is : k.fitted.block.height ≡ k.fitted.parent.height + 1
              → k.fitted.parent.height + 1 ≡ b.height
          height_is up = sym up ∙ ap (λ (z : Block). z.height) one

          by_genesis : k.fitted.block.height ≡ k.fitted.parent.height + 1
              → k.fitted.block.context.parent ≡ k.fitted.over
              → genesis_commitment r ≡ k.fitted.over → Below script u p q b
          by_genesis up named e =
              record {
                block = k.fitted.parent;
                up = height_is up;
                from =
                    inl (
                      sym (e ∙ parent_is named),
                      same_Some k.fitted.parent (genesis r)
                          (sym k.fitted.holds_parent
                          ∙ (ap (held r k.before) (sym e) ∙ holds_genesis r k.before)),
                    );
              }

          by_settler : k.fitted.block.height ≡ k.fitted.parent.height + 1
              → k.fitted.block.context.parent ≡ k.fitted.over
              → (s : Proposal) → s.payload ≡ k.fitted.over
              → Settles k.before q.epoch q.parent s → Below script u p q b
          by_settler up named s pays t =
              let stands_s =
              settler_stands r.epochs (block_fits r) (members_of u) rules (member_notes x) own
              q.epoch q.parent s
              (subst (λ ns. Settles ns q.epoch q.parent s) (sym k.joined)
              (Settles_front k.before k.rest q.epoch q.parent s t)) in
              let further = way_on r u way p q s leads stands_s t.0 t.1 in
              record {
                block = k.fitted.parent;
                up = height_is up;
                from =
                    inr (
                      s,
                      pays ∙ parent_is named,
                      ancestors_in r cluster.spans (members_of u) rules
                          (keeps r script u cluster clear) p s fin (way ++ s ∷ [], further),
                      ap (block_under r u) pays ∙ under_parent,
                      (way ++ s ∷ [], further),
                    );
              }

          by_parent : k.fitted.block.height ≡ k.fitted.parent.height + 1
              → k.fitted.block.context.parent ≡ k.fitted.over
              → ((q.parent == 0) ≡ true) ⊎ ((q.parent == 0) ≡ false) → Below script u p q b
          by_parent up named (inl z) =
              let g = genesis_commitment r in
              let of : q.epoch ≡ 0 =
              notarized_first r none script u cluster clear (suc q.view) q stands_q (omega arith) in
              by_genesis up named
              (same_Some g k.fitted.over
              (sym
              (cond-true (q.parent == 0) (epoch_parent g k.before q.epoch)
              (option_map (λ (s : Proposal). s.payload) (settler k.before q.epoch q.parent)) z
              ∙ ap (epoch_parent g k.before) of)
              ∙ k.fitted.settles))
          by_parent up named (inr n) =
              let (s, found, pays) =
              map_some (λ (s : Proposal). s.payload) (settler k.before q.epoch q.parent)
              k.fitted.over
              (sym
              (cond-false (q.parent == 0) (epoch_parent (genesis_commitment r) k.before q.epoch)
              (option_map (λ (s : Proposal). s.payload) (settler k.before q.epoch q.parent)) n)
              ∙ k.fitted.settles) in
              by_settler up named s pays (settler_tells k.before q.epoch q.parent s found)

          by_fit : Fit r q k.fitted.block k.fitted.over k.fitted.parent → Below script u p q b
          by_fit (New up within named digests) =
              by_parent up named (cases_Bool (q.parent == 0))
          by_fit (Again again block pos last) =
              let (span, is, e) = last_is r.epochs q.epoch k.fitted.block.height last in
              let y : ◌≡◌ {A = Option ℕ} None (Some span) = sym none ∙ is in
              absurd (cc y)

  -- ---- all of it comes to one member

  -- a certified block comes to the member, with what is below it
  one_more : (script : List Line) (u v : World) → IsCluster r script → ReachesClear r script u
      → Way r u payload NoVote v → KeepAbove u → (s : Proposal) → IsCertifiedIn (members_of u) s
      → (a : Block) → block_under r u s.payload ≡ Some a → low ≤ a.height → (steps : ℕ) (b : Block)
      → s.payload ≡ b.context.parent → a.height + 1 ≡ b.height → IsFilled steps a v
      → Leads v (IsFilled (suc steps) b)
  one_more script u v cluster clear way kept s c a under high steps b pays up (z, there, gave, down) =
      by_member (member_with u c.place c.notes c.at)
    where
      IsDone : World → Type 0
      IsDone = IsFilled (suc steps) b

      has_it : (y : Member) → held r (member_notes y) s.payload ≡ Some a
          → HoldsDown r (member_notes y) low steps a
          → HoldsDown r (member_notes y) low (suc steps) b
      has_it y holds more =
          inr (a, ap (held r (member_notes y)) (sym pays) ∙ holds, up, more)

      by_kept : (y : Member) → member_at v c.place ≡ Some y
          → In (Note.Certified s) (member_notes y) → block_under r v s.payload ≡ Some a
          → (c.place ≡ j) ⊎ (c.place ≡ j → ⊥) → Leads v IsDone
      by_kept y at said under_then (inl same) =
          let one : y ≡ z = same_Some y z (sym at ∙ (ap (member_at v) same ∙ there)) in
          here_way r none payload NoVote way.path.script v way.path.cluster way.path.clear IsDone (
            z,
            there,
            gave,
            has_it z
                (subst (λ (q : Member). held r (member_notes q) s.payload ≡ Some a) one
                (certified_kept r way.path.script v way.path.cluster way.path.clear c.place y at s
                said a under_then (omega (arith, high, kept_on u v way kept c.place y at))))
                down,
          )
      by_kept y at said under_then (inr differ) =
          land
          (block_lands r way.path.script v way.path.cluster way.path.clear payload c.place j y z
          at there differ s said a
          (certified_kept r way.path.script v way.path.cluster way.path.clear c.place y at s said a
          under_then (omega (arith, high, kept_on u v way kept c.place y at)))
          (omega (arith, gave, high)))
        where
          land : Lands r way.path.script v way.path.cluster way.path.clear payload c.place j y z
              s.payload a
              ⊎ ComesToClash r v (helps v payload)
              → Leads v IsDone
          land (inr clash) = inr clash
          land (inl x) =
              let later = x.stage.takes_more in
              let prune = later.prune in
              let floor = x.stage.takes_floor in
              inl (record {
                world = x.world;
                way =
                    stage_way r payload NoVote v c.place j y z at there x.world x.giver x.taker
                    x.stage;
                holds = (
                  x.taker,
                  x.stage.takes_at,
                  omega (arith, gave, prune, floor),
                  has_it x.taker x.holds
                      (down_later r (member_notes z) (member_notes x.taker) later low steps a down),
                );
              })

      by_then : (x : Member) → member_at u c.place ≡ Some x
          → In (Note.Certified s) (member_notes x)
          → ((y : Member) × (member_at v c.place ≡ Some y)
          × Later (member_notes x) (member_notes y))
          → Leads v IsDone
      by_then x at said (y, still, later) =
          let k = certifies r script u cluster clear c.place x at s said in
          let one : k.fitted.block ≡ a =
          same_Some k.fitted.block a
          (sym
          (held_is r script u cluster clear c.place x at k.before k.rest k.joined s.payload
          k.fitted.block k.fitted.holds)
          ∙ under) in
          by_kept y still (later_in (member_notes x) (member_notes y) later (Note.Certified s) said)
          (held_is r way.path.script v way.path.cluster way.path.clear c.place y still k.before
          (k.rest ++ later.more)
          (later.joined
          ∙ (ap (λ ns. ns ++ later.more) k.joined ∙ append_assoc k.before k.rest later.more))
          s.payload a (k.fitted.holds ∙ ap Some one))
          (cases_eq c.place j)

      by_member : ((x : Member) × (slice_get u.members c.place ≡ Some (Some x))
          × (member_notes x ≡ c.notes))
          → Leads v IsDone
      by_member (x, slot, same) =
          let at = member_is u c.place x slot in
          by_then x at
          (subst (In (Note.Certified s)) (sym same) (certified_in_notes s c.notes c.certified))
          (way.kept c.place x at)

  abbrev Fills : ℕ → Type 0
  Fills steps =
      (script : List Line) (u : World) → IsCluster r script → ReachesClear r script u
      → KeepAbove u → (p q : Proposal) → Stands r.epochs (members_of u) (Finalize p)
      → (way : List Proposal) → LeadsTo r.epochs (members_of u) p way q → (b : Block)
      → block_under r u q.payload ≡ Some b → b.height ≤ steps → (n : Member)
      → member_at u j ≡ Some n
      → max (greatest_floor (member_notes n)) (greatest_prune (member_notes n)) ≤ low
      → Leads u (IsFilled steps b)

  fill : (steps : ℕ) → Fills steps
  fill zero script u cluster clear kept p q fin way leads b under enough n there gave =
      here_way r none payload NoVote script u cluster clear (IsFilled zero b)
      (n, there, gave, down_here r (member_notes n) low zero b (omega (arith, enough)))
  fill (suc steps) script u cluster clear kept p q fin way leads b under enough n there gave =
      by_order (cases_lt low b.height) (fill steps)
    where
      here : HoldsDown r (member_notes n) low (suc steps) b → Leads u (IsFilled (suc steps) b)
      here down =
          here_way r none payload NoVote script u cluster clear (IsFilled (suc steps) b)
          (n, there, gave, down)

      by_below : low < b.height → Fills steps → Below script u p q b
          → Leads u (IsFilled (suc steps) b)
      by_below lt later x = by_from x.from
        where
          by_from : ((b.context.parent ≡ genesis_commitment r) × (x.block ≡ genesis r))
              ⊎ ((s : Proposal) × (s.payload ≡ b.context.parent)
              × IsCertifiedIn (members_of u) s × (block_under r u s.payload ≡ Some x.block)
              × ((more : List Proposal) × LeadsTo r.epochs (members_of u) p more s))
              → Leads u (IsFilled (suc steps) b)
          by_from (inl (named, first)) =
              let zero_high : x.block.height ≡ 0 = ap (λ (z : Block). z.height) first in
              here
              (inr (
                x.block,
                ap (held r (member_notes n)) named
                    ∙ (holds_genesis r (member_notes n) ∙ ap Some (sym first)),
                x.up,
                down_here r (member_notes n) low steps x.block (omega (arith, zero_high)),
              ))
          by_from (inr (s, pays, c, under_s, (more, further))) =
              let up = x.up in
              goes_then r payload NoVote u (IsFilled steps x.block) (IsFilled (suc steps) b)
              (later script u cluster clear kept p s fin more further x.block under_s
              (omega (arith, enough, up)) n there gave)
              (λ v on h. one_more script u v cluster clear on kept s c x.block under_s
              (omega (arith, lt, up)) steps b pays up h)

      by_order : (low < b.height) ⊎ (b.height ≤ low) → Fills steps
          → Leads u (IsFilled (suc steps) b)
      by_order (inr high) later = here (down_here r (member_notes n) low (suc steps) b high)
      by_order (inl lt) later =
          by_below lt later (below script u cluster clear p q fin way leads b under)

-- ---- all of it comes to all

module _ (r : Rules) (script : List Line) (w : World) (none : r.epochs.span ≡ None)
    (cluster : IsCluster r script) (clear : ReachesClear r script w) (payload : List ℕ)
    (p : Proposal) (b : Block) (stocked : IsStocked w)
    (each : (i : ℕ) (m : Member) → member_at w i ≡ Some m → KnowsFinal r w p b i) where
  abbrev To : World → (World → Type 0) → Type 0
  To u P = Brings r none payload NoVote u P

  abbrev IsDone : List Note → Type 0
  IsDone notes = (low : ℕ) × (low ≤ resume notes) × HoldsDown r notes low b.height b

  abbrev AreDone : List ℕ → World → Type 0
  AreDone xs u =
      (j : ℕ) → In j xs → (n : Member) → member_at u j ≡ Some n → IsDone (member_notes n)

  -- what stays by the way
  module _ (u : World) (way : Way r w payload NoVote u) where
    pub stocked_then : IsStocked u
    stocked_then i j m n at there = by_two (way.back i m at) (way.back j n there)
      where
        by_kept : (x y : Member) → member_at w i ≡ Some x → member_at w j ≡ Some y
            → ((a : Member) × (member_at u i ≡ Some a) × Later (member_notes x) (member_notes a))
            → ((c : Member) × (member_at u j ≡ Some c) × Later (member_notes y) (member_notes c))
            → greatest_prune (member_notes n) ≤ resume (member_notes m)
        by_kept x y before then (a, is, k) (c, was, l) =
            let one : a ≡ m = same_Some a m (sym is ∙ at) in
            let two : c ≡ n = same_Some c n (sym was ∙ there) in
            let prune = l.prune in
            let same = ap (λ (q : Member). greatest_prune (member_notes q)) two in
            omega (
              arith,
              prune,
              same,
              stocked i j x y before then,
              resume_grows r way.path.script u way.path.cluster
                  (clear_reaches r way.path.script u way.path.clear) i m at (member_notes x)
                  (subst (λ (q : Member). Later (member_notes x) (member_notes q)) one k),
            )

        by_two : ((x : Member) × (member_at w i ≡ Some x))
            → ((y : Member) × (member_at w j ≡ Some y))
            → greatest_prune (member_notes n) ≤ resume (member_notes m)
        by_two (x, before) (y, then) =
            by_kept x y before then (way.kept i x before) (way.kept j y then)

    pub knows_then : (j : ℕ) (n : Member) → member_at u j ≡ Some n
        → (has_cert (member_notes n) (Finalize p) ≡ true)
        × (held r (member_notes n) p.payload ≡ Some b)
    knows_then j n at = by_back (way.back j n at)
      where
        by_kept : (x : Member) → member_at w j ≡ Some x
            → ((a : Member) × (member_at u j ≡ Some a) × Later (member_notes x) (member_notes a))
            → (has_cert (member_notes n) (Finalize p) ≡ true)
            × (held r (member_notes n) p.payload ≡ Some b)
        by_kept x before (a, is, k) =
            let f = each j x before in
            let one : f.member ≡ x = same_Some f.member x (sym f.there ∙ before) in
            let two : a ≡ n = same_Some a n (sym is ∙ at) in
            let later =
            subst (λ (q : Member). Later (member_notes q) (member_notes n)) (sym one)
            (subst (λ (q : Member). Later (member_notes x) (member_notes q)) two k) in (
              cert_later (Finalize p) (member_notes f.member) (member_notes n) later f.finalized,
              later_held r (member_notes f.member) (member_notes n) later p.payload b f.holds,
            )

        by_back : ((x : Member) × (member_at w j ≡ Some x))
            → (has_cert (member_notes n) (Finalize p) ≡ true)
            × (held r (member_notes n) p.payload ≡ Some b)
        by_back (x, before) = by_kept x before (way.kept j x before)

    -- it comes to one member
    pub one_filled : (j : ℕ) (n : Member) → member_at u j ≡ Some n
        → To u (λ v. (z : Member) × (member_at v j ≡ Some z) × IsDone (member_notes z))
    one_filled j n at =
        land
        (fill r none payload j low b.height way.path.script u way.path.cluster way.path.clear
        (λ k x there. stocked_then j k n x at there) p p
        (cert_stands r none way.path.script u way.path.cluster way.path.clear j n at (Finalize p)
        (knows_then j n at).0)
        [] refl b
        (held_is r way.path.script u way.path.cluster way.path.clear j n at (member_notes n) []
        (sym (append-nil (member_notes n))) p.payload b (knows_then j n at).1)
        (omega arith) n at
        (let own = stocked_then j j n n at at in omega (arith, own)))
      where
        low : ℕ
        low = resume (member_notes n)

        land : To u (IsFilled r none payload j low b.height b)
            → To u (λ v. (z : Member) × (member_at v j ≡ Some z) × IsDone (member_notes z))
        land (inr clash) = inr clash
        land (inl g) =
            inl (record {
              world = g.world;
              way = g.way;
              holds = by_kept g.holds (g.way.kept j n at);
            })
          where
            by_kept : IsFilled r none payload j low b.height b g.world
                → ((y : Member) × (member_at g.world j ≡ Some y)
                × Later (member_notes n) (member_notes y))
                → (z : Member) × (member_at g.world j ≡ Some z) × IsDone (member_notes z)
            by_kept (z, there, gave, down) (y, still, later) =
                let one : y ≡ z = same_Some y z (sym still ∙ there) in (
                  z,
                  there,
                  (
                    low,
                    resume_grows r g.way.path.script g.world g.way.path.cluster
                        (clear_reaches r g.way.path.script g.world g.way.path.clear) j z there
                        (member_notes n)
                        (subst (λ (q : Member). Later (member_notes n) (member_notes q)) one later),
                    down,
                  ),
                )

  done_later : (v : World) (j : ℕ) (z y : Member) → (on : List Line) → IsCluster r on
      → ReachesClear r on v → member_at v j ≡ Some y → Later (member_notes z) (member_notes y)
      → IsDone (member_notes z) → IsDone (member_notes y)
  done_later v j z y on among still at later (low, le, down) = (
    low,
    (let grows = resume_grows r on v among (clear_reaches r on v still) j y at (member_notes z) later
        in omega (arith, le, grows)),
    down_later r (member_notes z) (member_notes y) later low b.height b down,
  )

  all_filled : (xs : List ℕ) → To w (AreDone xs)
  all_filled [] =
      here_way r none payload NoVote script w cluster clear (AreDone []) (λ j h n there. absurd h)
  all_filled (x ∷ xs) =
      goes_then r payload NoVote w (AreDone xs) (AreDone (x ∷ xs)) (all_filled xs) next
    where
      next : (u : World) → Way r w payload NoVote u → AreDone xs u → To u (AreDone (x ∷ xs))
      next u way h = by_there (member_at u x) refl
        where
          both : (v : World) → Way r u payload NoVote v
              → ((z : Member) × (member_at v x ≡ Some z) × IsDone (member_notes z))
              → AreDone (x ∷ xs) v
          both v more (z, there, done) j (inl same) n at =
              subst (λ (q : Member). IsDone (member_notes q))
              (same_Some z n (sym there ∙ (ap (member_at v) (sym same) ∙ at))) done
          both v more own j (inr inside) n at = by_back (more.back j n at)
            where
              by_kept : (z : Member) → IsDone (member_notes z)
                  → ((y : Member) × (member_at v j ≡ Some y)
                  × Later (member_notes z) (member_notes y))
                  → IsDone (member_notes n)
              by_kept z done (y, still, later) =
                  subst (λ (q : Member). IsDone (member_notes q)) (same_Some y n (sym still ∙ at))
                  (done_later v j z y more.path.script more.path.cluster more.path.clear still
                  later done)

              by_back : ((z : Member) × (member_at u j ≡ Some z)) → IsDone (member_notes n)
              by_back (z, before) = by_kept z (h j inside z before) (more.kept j z before)

          land : To u (λ v. (z : Member) × (member_at v x ≡ Some z) × IsDone (member_notes z))
              → To u (AreDone (x ∷ xs))
          land (inr clash) = inr clash
          land (inl g) =
              inl (record {
                world = g.world;
                way = g.way;
                holds = both g.world g.way g.holds;
              })

          by_there : (o : Option Member) → member_at u x ≡ o → To u (AreDone (x ∷ xs))
          by_there None e =
              here_way r none payload NoVote way.path.script u way.path.cluster way.path.clear
              (AreDone (x ∷ xs)) absent
            where
              absent : AreDone (x ∷ xs) u
              absent j (inl same) n there =
                  let y : ◌≡◌ {A = Option Member} None (Some n) =
                  sym e ∙ (ap (member_at u) (sym same) ∙ there) in
                  absurd (cc y)
              absent j (inr inside) n there = h j inside n there
          by_there (Some n) e = land (one_filled u way x n e)

  abbrev IsHeldByAll : Type 0
  IsHeldByAll = ComeToHold r w (helps w payload) b.height ⊎ ComesToClash r w (helps w payload)

  come_to_hold : IsHeldByAll
  come_to_hold = go (all_filled (numbers w))
    where
      go : To w (AreDone (numbers w)) → IsHeldByAll
      go (inr clash) = inr clash
      go (inl g) = by_fresh (all_fresh r g.world payload)
        where
          -- nobody knows of a later finalization
          last : (q : Proposal) → HasSome g.world (Finalize q) → q.view ≤ p.view
          last q s = by_source (g.way.certs s.number s.member s.there (Finalize q) s.noted)
            where
              by_source : HasSome w (Finalize q) ⊎ ⊥ → q.view ≤ p.view
              by_source (inr h) = absurd h
              by_source (inl t) =
                  let f = each t.number t.member t.there in
                  let one : t.member ≡ f.member =
                  same_Some t.member f.member (sym t.there ∙ f.there) in
                  let cert =
                  subst (λ (x : Member). has_cert (member_notes x) (Finalize q) ≡ true) one
                  t.noted in
                  f.latest q cert
                  (final_first r none script w cluster clear q
                  (cert_stands r none script w cluster clear t.number f.member f.there
                  (Finalize q) cert)
                  ∙ sym
                  (final_first r none script w cluster clear p
                  (cert_stands r none script w cluster clear t.number f.member f.there
                  (Finalize p) f.finalized)))

          low_floor : (j : ℕ) (n : Member) → member_at g.world j ≡ Some n
              → greatest_floor (member_notes n) ≤ b.height
          low_floor j n at =
              let ready : Ready r g.world p.view b =
              record {
                last = last;
                number = j;
                member = n;
                there = at;
                top =
                    Known p (knows_then g.world g.way j n at).0 refl
                    (knows_then g.world g.way j n at).1;
              } in
              let both =
              gave_up_low r none g.way.path.script g.world g.way.path.cluster g.way.path.clear
              p.view b ready j n at in
              omega (arith, both)

          by_fresh : ((lines : List Line)
              × AllByRecursion (λ line. helps g.world payload line ≡ true) lines
              × (outcome r g.world lines ≡ Ends (run r g.world lines))
              × ((i : ℕ) (y : Member) → member_at g.world i ≡ Some y
              → IsFresh (run r g.world lines) i (member_notes y)))
              → IsHeldByAll
          by_fresh (lines, are, ends, fresh) =
              inl (record {
                lines = g.way.path.lines ++ lines;
                are =
                    all_both (λ line. helps w payload line ≡ true) g.way.path.lines lines
                    g.way.path.are
                    (all_so (λ line. helps g.world payload line ≡ true)
                    (λ line. helps w payload line ≡ true)
                    (helps_before w g.world payload g.way.more g.way.pool) lines are);
                after = run r g.world lines;
                ends = outcome_both r w g.world g.way.path.lines lines g.way.path.ends ∙ ends;
                each = λ i m at. by_kept i m at (g.way.kept i m at);
                near =
                    near_fresh r none payload script w cluster clear NoVote
                    (λ top i m at all. record {
                      proposals = λ q h. absurd h;
                      ends = λ v h x e. absurd h;
                    })
                    g.world g.way lines are fresh;
              })
            where
              by_kept : (i : ℕ) (m : Member) → member_at w i ≡ Some m
                  → ((y : Member) × (member_at g.world i ≡ Some y)
                  × Later (member_notes m) (member_notes y))
                  → HoldsUpTo r (run r g.world lines) b.height i
              by_kept i m at (y, there, later) =
                  by_done (fresh i y there) (g.holds i (numbered w i m at) y there)
                where
                  by_done : IsFresh (run r g.world lines) i (member_notes y)
                      → IsDone (member_notes y)
                      → HoldsUpTo r (run r g.world lines) b.height i
                  by_done f (low, le, down) =
                      record {
                        member = f.member;
                        there = f.there;
                        nothing = f.nothing;
                        can =
                            record {
                              live = f.live;
                              not_given_up =
                                  subst (λ ns. greatest_floor ns ≤ b.height) (sym f.same)
                                  (low_floor i y there);
                              reached =
                                  λ h lo hi.
                                  let begins = f.begins in
                                  let k = knows_then g.world g.way i y there in
                                  let (d, e) =
                                  at_down r (member_notes y) p b k.0 k.1 low down h
                                  (omega (arith, le, begins, lo)) hi in
                                  subst (λ ns. IsSome (at_height r ns h)) (sym f.same)
                                  (ap is_some e);
                            };
                      }

-- all honest members come to hold what they still have to hand out
pub hold : (r : Rules) (script : List Line) (w : World) → r.epochs.span ≡ None
    → IsCluster r script → ReachesClear r script w → (payload : List ℕ)
    → is_stocked w ≡ true → (p : Proposal) (b : Block)
    → ((i : ℕ) (m : Member) → member_at w i ≡ Some m → KnowsFinal r w p b i)
    → ComeToHold r w (helps w payload) b.height ⊎ ComesToClash r w (helps w payload)
hold r script w none cluster clear payload stocked p b each =
    come_to_hold r script w none cluster clear payload p b (stocked_tells w stocked) each
