-- What stands at a height is of that height.
use Rattle.std.proofs.Common.{◌≡◌, ◌⊎◌, inl, inr, ℕ, zero, suc, ◌+◌, ◌==◌, true, false, cond, List, filter_map, Option, Some, None, option_and_then, refl, sym, ap, ◌∙◌}
use Rattle.std.proofs.lemmas.Bool.{cases_Bool, cond-false, cond-true, eqb-true}
use Rattle.std.proofs.lemmas.Option.{same_Some}
use Rattle.cw_types.specs.Block.{Block}
use Rattle.cw_types.specs.declared.commitment.Commitment.{Commitment}
use Rattle.cw_types.specs.declared.note.Note.{Note}
use Rattle.cw_types.specs.declared.vote.Proposal.{Proposal}
use Rattle.cw_rules.specs.Accepted.{first_some}
use Rattle.cw_rules.specs.Held.{at_height, finalization_of, held, parent_of, reached}
use Rattle.cw_rules.specs.Rules.{Rules, genesis, genesis_commitment}
use Rattle.cw_rules.proofs.Deliveries.{holds_genesis}
use Rattle.cw_rules.proofs.Lists.{all_true, and_then_some, first_some_at}

module _ (r : Rules) (notes : List Note) where
  -- each block that is held under it is of that height
  abbrev IsAt : ℕ → Commitment → Type 0
  IsAt h d = (a : Block) → held r notes d ≡ Some a → a.height ≡ h

  is_here : (h : ℕ) (c : Commitment) (b : Block) (d : Commitment) → held r notes c ≡ Some b
      → (b.height == h) ≡ true → ◌≡◌ {A = Option Commitment} (Some c) (Some d) → IsAt h d
  is_here h c b d k t e a is =
      let same : c ≡ d = same_Some c d e in
      let one : b ≡ a = same_Some b a (sym k ∙ ap (held r notes) same ∙ is) in
      sym (ap (λ (x : Block). x.height) one) ∙ eqb-true b.height h t

  reached_at : (steps h : ℕ) (c : Commitment) (b : Block) (d : Commitment) → held r notes c ≡ Some b
      → reached r notes steps h c b ≡ Some d → IsAt h d
  reached_at zero h c b d k e = go (cases_Bool (b.height == h))
    where
      nowhere : ◌≡◌ {A = Option Commitment} None (Some d) → ⊥
      nowhere x = cc

      go : ((b.height == h) ≡ true) ⊎ ((b.height == h) ≡ false) → IsAt h d
      go (inl t) = is_here h c b d k t (sym (cond-true (b.height == h) (Some c) None t) ∙ e)
      go (inr f) = absurd (nowhere (sym (cond-false (b.height == h) (Some c) None f) ∙ e))
  reached_at (suc steps) h c b d k e =
      go (λ a. reached_at steps h b.context.parent a d) (cases_Bool (b.height == h))
    where
      on : Option Commitment
      on = option_and_then (reached r notes steps h b.context.parent) (parent_of r notes b)

      up : Block → Option Block
      up a = cond (a.height + 1 == b.height) (Some a) None

      same_up : (a x : Block) → up a ≡ Some x → a ≡ x
      same_up a x u = by (cases_Bool (a.height + 1 == b.height))
        where
          by : ((a.height + 1 == b.height) ≡ true) ⊎ ((a.height + 1 == b.height) ≡ false) → a ≡ x
          by (inl t) =
              same_Some a x (sym (cond-true (a.height + 1 == b.height) (Some a) None t) ∙ u)
          by (inr f) = cc (cond-false (a.height + 1 == b.height) (Some a) None f)

      go : ((a : Block) → held r notes b.context.parent ≡ Some a
          → reached r notes steps h b.context.parent a ≡ Some d → IsAt h d)
          → ((b.height == h) ≡ true) ⊎ ((b.height == h) ≡ false) → IsAt h d
      go later (inl t) = is_here h c b d k t (sym (cond-true (b.height == h) (Some c) on t) ∙ e)
      go later (inr f) =
          let (x, p, q) =
          and_then_some (reached r notes steps h b.context.parent) (parent_of r notes b) d
          (sym (cond-false (b.height == h) (Some c) on f) ∙ e) in
          let (a, s, u) = and_then_some up (held r notes b.context.parent) x p in
          later x (s ∙ ap Some (same_up a x u)) q

  pub at_is_at : (h : ℕ) (c : Commitment) → at_height r notes h ≡ Some c → IsAt h c
  at_is_at h c e = go (cases_Bool (h == 0))
    where
      from : Proposal → Option Commitment
      from p =
          option_and_then (λ b. reached r notes b.height h p.payload b) (held r notes p.payload)

      first : Option Commitment
      first = first_some from (filter_map finalization_of notes)

      each : (p : Proposal) (d : Commitment) → Unit {0} → from p ≡ Some d → IsAt h d
      each p d u q =
          let (b, k, f) =
          and_then_some (λ b. reached r notes b.height h p.payload b) (held r notes p.payload) d
          q in
          reached_at b.height h p.payload b d k f

      go : ((h == 0) ≡ true) ⊎ ((h == 0) ≡ false) → IsAt h c
      go (inl t) =
          is_here h (genesis_commitment r) (genesis r) c (holds_genesis r notes)
          (by_zero (eqb-true h 0 t))
          (sym (cond-true (h == 0) (Some (genesis_commitment r)) first t) ∙ e)
        where
          by_zero : h ≡ 0 → ((genesis r).height == h) ≡ true
          by_zero z = rw z refl
      go (inr f) =
          first_some_at from (λ _. Unit {0}) (IsAt h) (filter_map finalization_of notes)
          (all_true (filter_map finalization_of notes)) each c
          (sym (cond-false (h == 0) (Some (genesis_commitment r)) first f) ∙ e)
