-- A block and those below it, as far down as they are held.
use Rattle.std.proofs.Common.{◌≡◌, ℕ, zero, suc, ◌+◌, ◌<◌, ◌≤◌, true, false, ◌==◌, cond, List, [], ◌∷◌, Option, Some, None, filter_map, option_and_then, refl, sym, ◌∙◌, ap, inl, inr, ◌⊎◌, arith, eqb-true, eq-eqb}
use Rattle.std.specs.Option.{option_or}
use Rattle.std.proofs.lemmas.Bool.{cases_Bool, cases_lt, cond-true, cond-false}
use Rattle.cw_types.specs.declared.commitment.Commitment.{Commitment}
use Rattle.cw_types.specs.declared.note.Note.{Note}
use Rattle.cw_types.specs.declared.vote.Proposal.{Proposal}
use Rattle.cw_types.specs.declared.vote.Vote.TheVariants.{Finalize}
use Rattle.cw_types.specs.Block.{Block}
use Rattle.cw_types.specs.Votes.{finalized}
use Rattle.cw_rules.specs.Accepted.{first_some}
use Rattle.cw_rules.specs.Held.{at_height, finalization_of, held, parent_of, reached}
use Rattle.cw_rules.specs.Notes.{has_cert}
use Rattle.cw_rules.specs.Reached.{In}
use Rattle.cw_rules.specs.Rules.{Rules, genesis_commitment}
use Rattle.cw_progress.proofs.Ends.{cert_note}
use Rattle.cw_progress.proofs.Outs.{mapped_in}
use Rattle.cw_progress.proofs.Stages.{Later, later_held}

-- where a search would answer at some element it answers something
found_some : {X Y : Type 0} (f : X → Option Y) (xs : List X) (x : X) (y : Y) → In x xs
    → f x ≡ Some y → (z : Y) × (first_some f xs ≡ Some z)
found_some f [] x y h e = absurd h
found_some {X} {Y} f (w ∷ xs) x y h e = go (f w) refl h (λ k. found_some f xs x y k e)
  where
    go : (o : Option Y) → f w ≡ o → In x (w ∷ xs)
        → (In x xs → (z : Y) × (first_some f xs ≡ Some z))
        → (z : Y) × (option_or (f w) (first_some f xs) ≡ Some z)
    go (Some z) g at later = (z, ap (λ o. option_or o (first_some f xs)) g)
    go None g (inl same) later =
        let n : ◌≡◌ {A = Option Y} None (Some y) = sym g ∙ (ap f (sym same) ∙ e) in absurd (cc n)
    go None g (inr k) later =
        let (z, found) = later k in (z, ap (λ o. option_or o (first_some f xs)) g ∙ found)

module _ (r : Rules) where
  -- each parent down from the block is held until that height, in at most so many steps
  abbrev pub HoldsDown : List Note → ℕ → ℕ → Block → Type 0
  HoldsDown notes low zero b = b.height ≤ low
  HoldsDown notes low (suc steps) b =
      (b.height ≤ low)
      ⊎ ((a : Block) × (held r notes b.context.parent ≡ Some a) × (a.height + 1 ≡ b.height)
      × HoldsDown notes low steps a)

  pub down_here : (notes : List Note) (low steps : ℕ) (b : Block) → b.height ≤ low
      → HoldsDown notes low steps b
  down_here notes low zero b le = le
  down_here notes low (suc steps) b le = inl le

  pub down_later : (xs ys : List Note) → Later xs ys → (low steps : ℕ) (b : Block)
      → HoldsDown xs low steps b → HoldsDown ys low steps b
  down_later xs ys k low zero b le = le
  down_later xs ys k low (suc steps) b (inl le) = inl le
  down_later xs ys k low (suc steps) b (inr (a, holds, up, more)) =
      inr (
        a,
        later_held r xs ys k b.context.parent a holds,
        up,
        down_later xs ys k low steps a more,
      )

  -- its own height is reached
  at_top : (notes : List Note) (b : Block) (h : ℕ) → b.height ≡ h → (n : ℕ) (c : Commitment)
      → (d : Commitment) × (reached r notes n h c b ≡ Some d)
  at_top notes b h same zero c =
      (c, cond-true (b.height == h) (Some c) None (eq-eqb b.height h same))
  at_top notes b h same (suc n) c = (
    c,
    cond-true (b.height == h) (Some c)
        (option_and_then (reached r notes n h b.context.parent) (parent_of r notes b))
        (eq-eqb b.height h same),
  )

  -- so is one below it that its parent reaches
  at_parent : (notes : List Note) (b a : Block) (h : ℕ)
      → held r notes b.context.parent ≡ Some a → a.height + 1 ≡ b.height → h < b.height → (n : ℕ)
      → b.height ≤ n → (c : Commitment)
      → ((m : ℕ) → a.height ≤ m
      → (d : Commitment) × (reached r notes m h b.context.parent a ≡ Some d))
      → (d : Commitment) × (reached r notes n h c b ≡ Some d)
  at_parent notes b a h holds up lt zero enough c later = absurd (omega (arith, lt, enough))
  at_parent notes b a h holds up lt (suc n) enough c later = go (cases_Bool (b.height == h))
    where
      parent : parent_of r notes b ≡ Some a
      parent =
          ap (option_and_then (λ (x : Block). cond (x.height + 1 == b.height) (Some x) None)) holds
          ∙ cond-true (a.height + 1 == b.height) (Some a) None
          (eq-eqb (a.height + 1) b.height up)

      go : ((b.height == h) ≡ true) ⊎ ((b.height == h) ≡ false)
          → (d : Commitment) × (reached r notes (suc n) h c b ≡ Some d)
      go (inl t) = absurd (omega (arith, lt, eqb-true b.height h t))
      go (inr f) =
          let (d, e) = later n (omega (arith, enough, up)) in (
            d,
            cond-false (b.height == h) (Some c)
                (option_and_then (reached r notes n h b.context.parent) (parent_of r notes b)) f
                ∙ (ap (option_and_then (reached r notes n h b.context.parent)) parent ∙ e),
          )

  -- so each height from there up to the block's is reached
  reaches : (notes : List Note) (low steps : ℕ) (b : Block) → HoldsDown notes low steps b → (h : ℕ)
      → low ≤ h → h ≤ b.height → (n : ℕ) → b.height ≤ n → (c : Commitment)
      → (d : Commitment) × (reached r notes n h c b ≡ Some d)
  reaches notes low zero b le h lo hi n enough c =
      at_top notes b h (omega (arith, le, lo, hi)) n c
  reaches notes low (suc steps) b (inl le) h lo hi n enough c =
      at_top notes b h (omega (arith, le, lo, hi)) n c
  reaches notes low (suc steps) b (inr (a, holds, up, more)) h lo hi n enough c =
      go (cases_lt h b.height) (reaches notes low steps a more h lo)
    where
      go : (h < b.height) ⊎ (b.height ≤ h)
          → (h ≤ a.height → (m : ℕ) → a.height ≤ m → (e : Commitment)
          → (d : Commitment) × (reached r notes m h e a ≡ Some d))
          → (d : Commitment) × (reached r notes n h c b ≡ Some d)
      go (inr le) later = at_top notes b h (omega (arith, le, hi)) n c
      go (inl lt) later =
          at_parent notes b a h holds up lt n enough c
          (λ m le. later (omega (arith, lt, up)) m le b.context.parent)

  pub at_down : (notes : List Note) (p : Proposal) (b : Block)
      → has_cert notes (Finalize p) ≡ true → held r notes p.payload ≡ Some b → (low : ℕ)
      → HoldsDown notes low b.height b → (h : ℕ) → low ≤ h → h ≤ b.height
      → (d : Commitment) × (at_height r notes h ≡ Some d)
  at_down notes p b cert holds low down h lo hi = go (cases_Bool (h == 0))
    where
      from : Proposal → Option Commitment
      from q =
          option_and_then (λ x. reached r notes x.height h q.payload x) (held r notes q.payload)

      go : ((h == 0) ≡ true) ⊎ ((h == 0) ≡ false)
          → (d : Commitment) × (at_height r notes h ≡ Some d)
      go (inl t) = (
        genesis_commitment r,
        cond-true (h == 0) (Some (genesis_commitment r))
            (first_some from (filter_map finalization_of notes)) t,
      )
      go (inr f) =
          let (t, inside, same) = cert_note (Finalize p) notes cert in
          let (d, e) = reaches notes low b.height b down h lo hi b.height (omega arith) p.payload in
          let (z, found) =
          found_some from (filter_map finalization_of notes) p d
          (mapped_in finalization_of notes (Note.Cert t) p inside (ap finalized same))
          (ap (option_and_then (λ (x : Block). reached r notes x.height h p.payload x)) holds ∙ e)
          in (
            z,
            cond-false (h == 0) (Some (genesis_commitment r))
                (first_some from (filter_map finalization_of notes)) f
                ∙ found,
          )
