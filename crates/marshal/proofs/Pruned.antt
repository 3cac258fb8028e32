-- Nothing is reached, and no finalization stands, at a height that is let go.
use Rattle.std.proofs.Common.{◌≡◌, ◌⊎◌, inl, inr, ℕ, zero, suc, ◌<◌, ◌≤◌, ◌==◌, ◌&&◌, nat_lt, true, false, List, Option, Some, None, option_and_then, refl, sym, ◌∙◌, ap, arith, ltb-true}
use Rattle.std.specs.List.{filter_map}
use Rattle.std.proofs.lemmas.Bool.{and_parts, cases_Bool, cond-false, cond-true, eqb-true}
use Rattle.std.proofs.lemmas.Bool.Decides.{nat_tests}
use Rattle.std.proofs.lemmas.Option.{none-some}
use Rattle.cw_types.specs.Block.{Block}
use Rattle.cw_types.specs.Same.{same_commitment}
use Rattle.cw_types.specs.declared.commitment.Commitment.{Commitment}
use Rattle.cw_types.specs.declared.note.Note.{Note}
use Rattle.cw_types.specs.declared.vote.Cert.{Cert}
use Rattle.cw_rules.specs.Accepted.{first_some}
use Rattle.cw_rules.specs.Held.{at_height, finalization_of, greatest_prune, held, noted_block_of, reached}
use Rattle.cw_rules.specs.Rules.{Rules, genesis, genesis_commitment}
use Rattle.cw_rules.specs.Sends.{finalization_at}
use Rattle.cw_rules.proofs.Lists.{and_then_some}
use Rattle.marshal.specs.Bare.{reached_by}
use Rattle.marshal.proofs.FirstStays.{final_is}
use Rattle.marshal.proofs.Growing.{Down, first_in, held_cases, is_gone, parent_is, reached_cases, reached_now, unless_gone}

module _ (r : Rules) (notes : List Note) where
  -- no height that is let go has a held block
  pub held_high : (c : Commitment) (b : Block) → held r notes c ≡ Some b
      → (b.height ≡ 0) ⊎ (greatest_prune notes ≤ b.height)
  held_high c b e = go (held_cases r notes c b e)
    where
      go : ((same_commitment c (genesis_commitment r) ≡ true) × (b ≡ genesis r))
          ⊎ ((same_commitment c (genesis_commitment r) ≡ false)
          × (first_some (noted_block_of c) notes ≡ Some b))
          → (b.height ≡ 0) ⊎ (greatest_prune notes ≤ b.height)
      go (inl (t, g)) = inl (ap (λ (z : Block). z.height) g)
      go (inr (f, p)) = on (cases_Bool (is_gone notes b))
        where
          holds : held r notes c ≡ unless_gone notes b
          holds =
              cond-false (same_commitment c (genesis_commitment r)) (Some (genesis r))
              (option_and_then (unless_gone notes) (first_some (noted_block_of c) notes)) f
              ∙ ap (option_and_then (unless_gone notes)) p

          on : (is_gone notes b ≡ true) ⊎ (is_gone notes b ≡ false)
              → (b.height ≡ 0) ⊎ (greatest_prune notes ≤ b.height)
          on (inl t) =
              absurd
              (none-some b (sym (holds ∙ cond-true (is_gone notes b) None (Some b) t) ∙ e))
          on (inr n) = grind (arith, nat_tests)

  -- what is reached is held, and of that height
  pub reached_held : (steps h : ℕ) (c : Commitment) (b : Block) (d : Commitment)
      → held r notes c ≡ Some b → reached r notes steps h c b ≡ Some d
      → (x : Block) × (held r notes d ≡ Some x) × (x.height ≡ h)
  reached_held zero h c b d k e =
      let (t, same) = reached_now r notes h c b d e in
      (b, ap (held r notes) (sym same) ∙ k, eqb-true b.height h t)
  reached_held (suc steps) h c b d k e =
      go (reached_cases r notes steps h c b d e) (λ a. reached_held steps h b.context.parent a d)
    where
      go : Down r notes steps h c b d
          → ((a : Block) → held r notes b.context.parent ≡ Some a
          → reached r notes steps h b.context.parent a ≡ Some d
          → (x : Block) × (held r notes d ≡ Some x) × (x.height ≡ h))
          → (x : Block) × (held r notes d ≡ Some x) × (x.height ≡ h)
      go (inl (t, same)) later = (b, ap (held r notes) (sym same) ∙ k, eqb-true b.height h t)
      go (inr (f, found)) later =
          let (a, p, q) = found in later a (parent_is r notes b a p).0 q

  module _ (h : ℕ) (low : 0 < h) (gone : h < greatest_prune notes) where
    nothing_held : (c : Commitment) (b : Block) → held r notes c ≡ Some b → b.height ≡ h → ⊥
    nothing_held c b e is = go (held_high c b e)
      where
        go : (b.height ≡ 0) ⊎ (greatest_prune notes ≤ b.height) → ⊥
        go (inl z) = omega (arith, z, is, low)
        go (inr z) = omega (arith, z, is, gone)

    -- nothing is reached there
    pub none_reached : first_some (reached_by r notes h) (filter_map finalization_of notes) ≡ None
    none_reached =
        go (first_some (reached_by r notes h) (filter_map finalization_of notes)) refl
      where
        go : (o : Option Commitment)
            → first_some (reached_by r notes h) (filter_map finalization_of notes) ≡ o → o ≡ None
        go None e = refl
        go (Some d) e =
            let (p, inside, f) =
            first_in (reached_by r notes h) (filter_map finalization_of notes) d e in
            let (b, k, w) =
            and_then_some (λ (x : Block). reached r notes x.height h p.payload x)
            (held r notes p.payload) d f in
            let (x, g, is) = reached_held b.height h p.payload b d k w in
            absurd (nothing_held d x g is)

    -- and no finalization stands there
    pub none_finalized : first_some (finalization_at r notes h) notes ≡ None
    none_finalized = go (first_some (finalization_at r notes h) notes) refl
      where
        go : (o : Option Cert) → first_some (finalization_at r notes h) notes ≡ o → o ≡ None
        go None e = refl
        go (Some s) e =
            let (n, inside, f) = first_in (finalization_at r notes h) notes s e in
            let is = final_is r notes h n s f in
            absurd
            (nothing_held is.proposal.payload is.block is.is_held
            (eqb-true is.block.height h is.height))

  -- the same, by the test
  pub pruned_at : (h : ℕ) → (nat_lt 0 h && nat_lt h (greatest_prune notes)) ≡ true
      → at_height r notes h ≡ None
  pruned_at h t =
      let parts = and_parts (nat_lt 0 h) (nat_lt h (greatest_prune notes)) t in
      let low = ltb-true 0 h parts.0 in
      let gone = ltb-true h (greatest_prune notes) parts.1 in
      let not : (h == 0) ≡ false = grind (arith, nat_tests) in
      cond-false (h == 0) (Some (genesis_commitment r))
      (first_some (reached_by r notes h) (filter_map finalization_of notes)) not
      ∙ none_reached h low gone

  pub pruned_finalization : (h : ℕ) → (nat_lt 0 h && nat_lt h (greatest_prune notes)) ≡ true
      → first_some (finalization_at r notes h) notes ≡ None
  pruned_finalization h t =
      let parts = and_parts (nat_lt 0 h) (nat_lt h (greatest_prune notes)) t in
      none_finalized h (ltb-true 0 h parts.0) (ltb-true h (greatest_prune notes) parts.1)
