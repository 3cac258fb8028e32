-- What is reached at each height stays known while finalizations are entered.
use Rattle.std.proofs.Common.{◌≡◌, ◌⊎◌, inl, inr, ⊎_elim, ℕ, zero, suc, ◌+◌, ◌<◌, ◌≤◌, refl, sym, ◌∙◌, ap, subst, arith, List, [], ◌∷◌, ◌++◌, Some, None, option_and_then}
use Rattle.std.proofs.lemmas.Bool.{cases_eq, eqb-true}
use Rattle.std.proofs.lemmas.Option.{none-some, same_Some}
use Rattle.cw_types.specs.Block.{Block}
use Rattle.cw_types.specs.declared.commitment.Commitment.{Commitment}
use Rattle.cw_types.specs.declared.note.Note.{Note}
use Rattle.cw_types.specs.declared.vote.Proposal.{Proposal}
use Rattle.cw_rules.specs.Held.{greatest_prune, held, reached}
use Rattle.cw_rules.specs.Reached.{In}
use Rattle.cw_rules.specs.Rules.{Rules}
use Rattle.cw_rules.proofs.Lists.{and_then_some, in_cases, in_left, in_right}
use Rattle.marshal.specs.Bare.{reached_by}
use Rattle.marshal.specs.Heights.{HaveReached, IsWalked, IsReachedOf, there}
use Rattle.marshal.proofs.Entering.{Entries, on_from}
use Rattle.marshal.proofs.Growing.{Down, parent_is, reached_cases, reached_low, reached_now}
use Rattle.marshal.proofs.Pruned.{held_high}

module _ (r : Rules) (notes : List Note) where
  -- the block through which a walk goes at a height: it begins there, or that block is held
  pub record Through (c : Commitment) (b : Block) (k : ℕ) (e : Commitment) : Type 0 where
    pub block : Block
    pub high : block.height ≡ k
    pub from : ((e ≡ c) × (block ≡ b)) ⊎ (held r notes e ≡ Some block)
    pub same : (h : ℕ) → h ≤ k
        → reached r notes b.height h c b ≡ reached r notes block.height h e block

  pub through : (s : ℕ) (c : Commitment) (b : Block) (k : ℕ) (e : Commitment) → b.height ≡ s
      → reached r notes b.height k c b ≡ Some e → Through c b k e
  through zero c b k e z is =
      let (t, same) = reached_now r notes k c b e
      (subst (λ (n : ℕ). reached r notes n k c b ≡ Some e) z is) in
      record {
        block = b;
        high = eqb-true b.height k t;
        from = inl (sym same, refl);
        same = λ h le. ap (λ (x : Commitment). reached r notes b.height h x b) same;
      }
  through (suc s) c b k e z is =
      go
      (reached_cases r notes s k c b e
      (subst (λ (n : ℕ). reached r notes n k c b ≡ Some e) z is))
      (λ a low. through s b.context.parent a k e low)
    where
      go : Down r notes s k c b e
          → ((a : Block) → a.height ≡ s → reached r notes a.height k b.context.parent a ≡ Some e
          → Through b.context.parent a k e)
          → Through c b k e
      go (inl (t, same)) later =
          record {
            block = b;
            high = eqb-true b.height k t;
            from = inl (sym same, refl);
            same = λ h le. ap (λ (x : Commitment). reached r notes b.height h x b) same;
          }
      go (inr (f, (a, p, q))) later = on (later a low (subst there_too (sym low) q))
        where
          up : a.height + 1 ≡ b.height
          up = (parent_is r notes b a p).1

          low : a.height ≡ s
          low = omega (arith, up, z)

          there_too : ℕ → Type 0
          there_too n = reached r notes n k b.context.parent a ≡ Some e

          on : Through b.context.parent a k e → Through c b k e
          on x =
              record {
                block = x.block;
                high = x.high;
                from = inr (was x.from);
                same = λ h le.
                    on_from r notes h c b a p (omega (arith, le, below)) ∙ x.same h le;
              }
            where
              below : k ≤ a.height
              below =
                  reached_low r notes a.height k b.context.parent a e (subst there_too (sym low) q)

              was : ((e ≡ b.context.parent) × (x.block ≡ a)) ⊎ (held r notes e ≡ Some x.block)
                  → held r notes e ≡ Some x.block
              was (inl (one, two)) =
                  ap (held r notes) one ∙ ((parent_is r notes b a p).0 ∙ ap Some (sym two))
              was (inr h) = h

  -- what a proposal of a held block reaches is what that block does
  pub by_block : (p : Proposal) (b : Block) → held r notes p.payload ≡ Some b → (h : ℕ)
      → reached_by r notes h p ≡ reached r notes b.height h p.payload b
  by_block p b is h =
      ap (option_and_then (λ (x : Block). reached r notes x.height h p.payload x)) is

  pub block_by : (p : Proposal) (h : ℕ) (c : Commitment) → reached_by r notes h p ≡ Some c
      → (b : Block) × (held r notes p.payload ≡ Some b)
      × (reached r notes b.height h p.payload b ≡ Some c)
  block_by p h c e =
      and_then_some (λ (x : Block). reached r notes x.height h p.payload x)
      (held r notes p.payload) c e

  -- the block that a proposal reaches is held
  pub through_by : (p : Proposal) (k : ℕ) (e : Commitment) → reached_by r notes k p ≡ Some e
      → (x : Block) × (held r notes e ≡ Some x) × (x.height ≡ k)
      × ((h : ℕ) → h ≤ k → reached_by r notes h p ≡ reached r notes x.height h e x)
  through_by p k e is =
      let (b, stands, q) = block_by p k e is in
      on b stands (through b.height p.payload b k e refl q)
    where
      on : (b : Block) → held r notes p.payload ≡ Some b → Through p.payload b k e
          → (x : Block) × (held r notes e ≡ Some x) × (x.height ≡ k)
          × ((h : ℕ) → h ≤ k → reached_by r notes h p ≡ reached r notes x.height h e x)
      on b stands t = (
        t.block,
        was t.from,
        t.high,
        λ h le. by_block p b stands h ∙ t.same h le,
      )
        where
          was : ((e ≡ p.payload) × (t.block ≡ b)) ⊎ (held r notes e ≡ Some t.block)
              → held r notes e ≡ Some t.block
          was (inl (one, two)) = ap (held r notes) one ∙ (stands ∙ ap Some (sym two))
          was (inr h) = h

  module _ (finals : List Proposal) (at : Entries) (have : HaveReached r notes finals at) where
    -- what a block that stands above 0 reaches stands too
    pub closed : (k : ℕ) (e : Commitment) (x : Block) → there k at ≡ Some e
        → held r notes e ≡ Some x → x.height ≡ k → 0 < k → (h : ℕ) (d : Commitment) → h ≤ k
        → reached r notes x.height h e x ≡ Some d → there h at ≡ Some d
    closed k e x stands is high up h d le reaches =
        let (q, inside, by) = have.sound k e (unpruned (held_high r notes e x is)) stands in
        let (y, is_too, high_too, same) = through_by q k e by in
        let one : x ≡ y = same_Some x y (sym is ∙ is_too) in
        have.whole h d (
          q,
          inside,
          same h le
              ∙ (ap (λ (z : Block). reached r notes z.height h e z) (sym one) ∙ reaches),
        )
      where
        unpruned : (x.height ≡ 0) ⊎ (greatest_prune notes ≤ x.height) → greatest_prune notes ≤ k
        unpruned (inl z) = absurd (omega (arith, z, high, up))
        unpruned (inr p) = omega (arith, p, high)

    module _ (c : Commitment) (b : Block) (new : Entries) (is : IsWalked r notes c b at new)
        (apart : (k : ℕ) → there k at ≡ Some c → b.height ≡ k → 0 < k
        → held r notes c ≡ Some b) where
      -- what an entered block reaches stands then
      pub entered_whole : (h : ℕ) (d : Commitment) → reached r notes b.height h c b ≡ Some d
          → there h new ≡ Some d
      entered_whole h d e = ⊎_elim (λ l. l) below (is.whole h d e)
        where
          below : (k : ℕ) × (x : Commitment) × (h ≤ k) × (there k at ≡ Some x)
              × (reached r notes b.height k c b ≡ Some x)
              → there h new ≡ Some d
          below (k, x, le, stands, reaches) = go (cases_eq h k)
            where
              t : Through c b k x
              t = through b.height c b k x refl reaches

              go : (h ≡ k) ⊎ (h ≡ k → ⊥) → there h new ≡ Some d
              go (inl same) =
                  let one : x ≡ d =
                  same_Some x d
                  (sym reaches
                  ∙ (ap (λ (n : ℕ). reached r notes b.height n c b) (sym same) ∙ e)) in
                  is.kept h d
                  (ap (λ (n : ℕ). there n at) same ∙ (stands ∙ ap Some one))
              go (inr other) =
                  is.kept h d
                  (closed k x t.block stands (was t.from) t.high up h d le (sym (t.same h le) ∙ e))
                where
                  up : 0 < k
                  up = omega (arith, le, other)

                  was : ((x ≡ c) × (t.block ≡ b)) ⊎ (held r notes x ≡ Some t.block)
                      → held r notes x ≡ Some t.block
                  was (inl (one, two)) =
                      ap (held r notes) one
                      ∙ (apart k (stands ∙ ap Some one)
                      (ap (λ (y : Block). y.height) (sym two) ∙ t.high) up
                      ∙ ap Some (sym two))
                  was (inr held_so) = held_so

    -- one finalization more, whose block was entered
    pub more_reached : (p : Proposal) (b : Block) (new : Entries) → held r notes p.payload ≡ Some b
        → IsWalked r notes p.payload b at new → HaveReached r notes (finals ++ p ∷ []) new
    more_reached p b new stands is = record { whole = whole; sound = sound }
      where
        whole : (h : ℕ) (d : Commitment) → IsReachedOf r notes (finals ++ p ∷ []) h d
            → there h new ≡ Some d
        whole h d (q, inside, e) = go (in_cases q finals (p ∷ []) inside)
          where
            go : In q finals ⊎ In q (p ∷ []) → there h new ≡ Some d
            go (inl i) = is.kept h d (have.whole h d (q, i, e))
            go (inr (inl same)) =
                entered_whole p.payload b new is (λ k l m u. stands) h d
                (sym (by_block p b stands h)
                ∙ (ap (reached_by r notes h) (sym same) ∙ e))
            go (inr (inr i)) = absurd i

        sound : (h : ℕ) (d : Commitment) → greatest_prune notes ≤ h → there h new ≡ Some d
            → IsReachedOf r notes (finals ++ p ∷ []) h d
        sound h d high e =
            ⊎_elim
            (λ l.
            let (q, inside, by) = have.sound h d high l in
            (q, in_left q finals (p ∷ []) inside, by))
            (λ f. (p, in_right p finals (p ∷ []) (inl refl), by_block p b stands h ∙ f))
            (is.sound h d e)

    -- one more, whose block isn't held
    pub none_reached : (p : Proposal) → held r notes p.payload ≡ None
        → HaveReached r notes (finals ++ p ∷ []) at
    none_reached p none = record {
      whole = λ h d x. whole h d x.0 (in_cases x.0 finals (p ∷ []) x.1) x.2;
      sound = λ h d high e.
          let (q, inside, by) = have.sound h d high e in
          (q, in_left q finals (p ∷ []) inside, by);
    }
      where
        whole : (h : ℕ) (d : Commitment) (q : Proposal) → In q finals ⊎ In q (p ∷ [])
            → reached_by r notes h q ≡ Some d → there h at ≡ Some d
        whole h d q (inl i) e = have.whole h d (q, i, e)
        whole h d q (inr (inl same)) e =
            absurd
            (none-some d
            (sym
            (ap (option_and_then (λ (x : Block). reached r notes x.height h p.payload x)) none)
            ∙ (ap (reached_by r notes h) (sym same) ∙ e)))
        whole h d q (inr (inr i)) e = absurd i
