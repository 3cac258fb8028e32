-- What is owed is written, until nothing is.
use Rattle.std.proofs.Common.{◌≡◌, ℕ, zero, suc, Bool, ◌+◌, ◌-◌, ◌<◌, List, [], ◌∷◌, ◌++◌, length, Some, None, refl, sym, ◌∙◌, ap, subst, append_assoc, append-nil, length-append, arith}
use Rattle.cw_base.specs.declared.hash.Digest32.{Digest32}
use Rattle.cw_types.specs.Block.{Block}
use Rattle.cw_types.specs.declared.note.Note.{Note}
use Rattle.cw_rules.specs.Accepted.{State, first_some}
use Rattle.cw_rules.specs.Owed.{block_owed, named_commitments, owed}
use Rattle.cw_rules.specs.Rules.{Rules}
use Rattle.cw_rules.specs.Step.{marks, settle, with_notes}
use Rattle.marshal.proofs.Floors.{no_notes}
use Rattle.node.proofs.Resting.{none_here, noted_owes}
use Rattle.node.proofs.Noting.{noted_none, noted_on, notes_on, same_rules}
use Rattle.node.specs.Holding.{Holding, own_state, rules_of}
use Rattle.node.specs.Noting.{HasNoted}
use Rattle.node.specs.Standing.{OwesLast, OwesNoBlock, PartsStand}
use Rattle.node.specs.Store.{Store}

-- where nothing is owed nothing is settled
settles_none : (r : Rules) (id fuel : ℕ) (s : State) → owed r id s ≡ None → settle r id fuel s ≡ []
settles_none r id zero s e = refl
settles_none r id (suc fuel) s e = rw e refl

-- so far these notes were written of those that are owed
pub record IsSettling {D A : Type 0} (hash : List ℕ → Digest32) (accepts : A → Block → Block → Bool)
    (old now : Holding D A) : Type 0 where
  pub notes : List Note
  pub fuel : ℕ
  pub noted : HasNoted hash accepts notes old now
  pub count : length notes + fuel ≡ marks (own_state old)
  pub rest : settle (rules_of hash accepts old) old.id (marks (own_state old))
      (own_state old)
      ≡ notes ++ settle (rules_of hash accepts old) old.id fuel
      (with_notes (own_state old) notes)

-- how many may be written yet
abbrev pub left : {D A : Type 0} → Holding D A → Holding D A → ℕ
left old now = marks (own_state old) - (length now.store.staged - length old.store.staged)

module _ {D A : Type 0} (hash : List ℕ → Digest32) (accepts : A → Block → Block → Bool) where
  pub settling_none : (h : Holding D A) → PartsStand hash accepts h → IsSettling hash accepts h h
  settling_none h s = record {
    notes = [];
    fuel = marks (own_state h);
    noted = noted_none hash accepts h s;
    count = omega arith;
    rest =
        ap (settle (rules_of hash accepts h) h.id (marks (own_state h)))
        (sym (no_notes (own_state h)));
  }

  -- what is owed now is owed after these notes
  owed_now : (old now : Holding D A) (p : IsSettling hash accepts old now)
      → owed (rules_of hash accepts now) now.id (own_state now)
      ≡ owed (rules_of hash accepts old) old.id (with_notes (own_state old) p.notes)
  owed_now old now p =
      λ i. owed (same_rules hash accepts old now p.notes p.noted i) (p.noted.id i) (p.noted.state i)

  -- nothing is owed any more
  pub settling_done : (old now : Holding D A) → IsSettling hash accepts old now
      → owed (rules_of hash accepts now) now.id (own_state now) ≡ None
      → HasNoted hash accepts
      (settle (rules_of hash accepts old) old.id (marks (own_state old)) (own_state old))
      old now
  settling_done old now p none =
      subst (λ (l : List Note). HasNoted hash accepts l old now)
      (sym
      (p.rest
      ∙ (ap (λ (l : List Note). p.notes ++ l)
      (settles_none (rules_of hash accepts old) old.id p.fuel
      (with_notes (own_state old) p.notes) (sym (owed_now old now p) ∙ none))
      ∙ append-nil p.notes)))
      p.noted

  -- no block is owed any more
  pub settling_rests : (now : Holding D A)
      → owed (rules_of hash accepts now) now.id (own_state now) ≡ None
      → OwesNoBlock (rules_of hash accepts now) (own_state now)
  settling_rests now none =
      (none_here
      (first_some (block_owed (rules_of hash accepts now) (own_state now))
      (named_commitments (rules_of hash accepts now) (own_state now)))
      _ none).0

  -- one can be owed yet only under what came last
  pub settling_owes : (old now : Holding D A) → IsSettling hash accepts old now
      → OwesLast (rules_of hash accepts old) (own_state old)
      → OwesLast (rules_of hash accepts now) (own_state now)
  settling_owes old now p owes =
      subst (λ (r : Rules). OwesLast r (own_state now))
      (sym (same_rules hash accepts old now p.notes p.noted))
      (subst (λ (s : State). OwesLast (rules_of hash accepts old) s) (sym p.noted.state)
      (noted_owes (rules_of hash accepts old) (own_state old) p.notes owes))

  -- one more is owed, so the bound isn't reached
  some_left : (old now : Holding D A) (p : IsSettling hash accepts old now) (note : Note)
      → owed (rules_of hash accepts old) old.id
      (with_notes (own_state old)
      (settle (rules_of hash accepts old) old.id (marks (own_state old)) (own_state old)))
      ≡ None
      → owed (rules_of hash accepts now) now.id (own_state now) ≡ Some note → p.fuel ≡ 0 → ⊥
  some_left old now p note bound more out =
      let all : settle (rules_of hash accepts old) old.id (marks (own_state old))
      (own_state old)
      ≡ p.notes =
      p.rest
      ∙ (ap
      (λ (n : ℕ). p.notes
      ++ settle (rules_of hash accepts old) old.id n
      (with_notes (own_state old) p.notes))
      out
      ∙ append-nil p.notes) in
      let no : owed (rules_of hash accepts old) old.id (with_notes (own_state old) p.notes)
      ≡ None =
      ap
      (λ (l : List Note). owed (rules_of hash accepts old) old.id
      (with_notes (own_state old) l))
      (sym all)
      ∙ bound in
      let yes : owed (rules_of hash accepts old) old.id (with_notes (own_state old) p.notes)
      ≡ Some note =
      sym (owed_now old now p) ∙ more in
      let z : None ≡ Some note = sym no ∙ yes in cc

  -- it is written
  pub settling_more : (old now next : Holding D A) (p : IsSettling hash accepts old now)
      (note : Note)
      → owed (rules_of hash accepts old) old.id
      (with_notes (own_state old)
      (settle (rules_of hash accepts old) old.id (marks (own_state old)) (own_state old)))
      ≡ None
      → owed (rules_of hash accepts now) now.id (own_state now) ≡ Some note
      → HasNoted hash accepts (note ∷ []) now next
      → IsSettling hash accepts old next
  settling_more old now next p note bound more noted = go p.fuel refl
    where
      go : (fuel : ℕ) → p.fuel ≡ fuel → IsSettling hash accepts old next
      go zero e = absurd (some_left old now p note bound more e)
      go (suc fuel) e = record {
        notes = p.notes ++ note ∷ [];
        fuel = fuel;
        noted = noted_on hash accepts old now next p.notes (note ∷ []) p.noted noted;
        count = let n = length-append p.notes (note ∷ []) in let m = p.count in omega (arith, e);
        rest =
            let step : settle (rules_of hash accepts old) old.id (suc fuel)
            (with_notes (own_state old) p.notes)
            ≡ note
            ∷ settle (rules_of hash accepts old) old.id fuel
            (with_notes (with_notes (own_state old) p.notes) (note ∷ [])) =
            rw (sym (owed_now old now p) ∙ more) refl in
            p.rest
            ∙ (ap
            (λ (n : ℕ). p.notes
            ++ settle (rules_of hash accepts old) old.id n
            (with_notes (own_state old) p.notes))
            e
            ∙ (ap (λ (l : List Note). p.notes ++ l) step
            ∙ (ap
            (λ (s : State). p.notes
            ++ (note ∷ settle (rules_of hash accepts old) old.id fuel s))
            (notes_on (own_state old) p.notes (note ∷ []))
            ∙ sym
            (append_assoc p.notes (note ∷ [])
            (settle (rules_of hash accepts old) old.id fuel
            (with_notes (own_state old) (p.notes ++ note ∷ [])))))));
      }

  -- how many were written
  pub staged_more : (old now : Holding D A) (xs : List Note) → HasNoted hash accepts xs old now
      → length now.store.staged ≡ length old.store.staged + length xs
  staged_more old now xs p =
      ap (λ (t : Store). length t.staged) p.store ∙ length-append old.store.staged xs

  -- so fewer may be written yet
  pub settling_falls : (old now next : Holding D A) (p : IsSettling hash accepts old now)
      (note : Note)
      → owed (rules_of hash accepts old) old.id
      (with_notes (own_state old)
      (settle (rules_of hash accepts old) old.id (marks (own_state old)) (own_state old)))
      ≡ None
      → owed (rules_of hash accepts now) now.id (own_state now) ≡ Some note
      → HasNoted hash accepts (note ∷ []) now next
      → left old next < left old now
  settling_falls old now next p note bound more noted = go p.fuel refl
    where
      go : (fuel : ℕ) → p.fuel ≡ fuel → left old next < left old now
      go zero e = absurd (some_left old now p note bound more e)
      go (suc fuel) e =
          let a = staged_more old now p.notes p.noted in
          let b = staged_more now next (note ∷ []) noted in
          let m = p.count in
          omega (arith, e)
