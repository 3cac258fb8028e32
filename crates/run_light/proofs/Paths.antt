-- The blocks from one down to a height.
use Rattle.std.specs.Option.{IfSome, option_map_or}
use Rattle.std.proofs.Common.{◌≡◌, ℕ, zero, suc, ◌+◌, ◌-◌, ◌<◌, ◌≤◌, true, false, ◌&&◌, ◌==◌, nat_lt, cond, Bool, List, [], ◌∷◌, ◌++◌, Option, Some, None, refl, sym, ◌∙◌, ap, subst, inl, inr, ◌⊎◌, arith, eqb-true, eq-eqb, ne_eqb, append_assoc, option_and_then, option_map}
use Rattle.std.proofs.lemmas.Bool.{cases_Bool, cond-false, cond-true, eqb-false}
use Rattle.cw_base.specs.declared.hash.Digest32.{Digest32}
use Rattle.cw_types.specs.Block.{Block}
use Rattle.cw_types.specs.declared.commitment.Commitment.{Commitment}
use Rattle.cw_types.specs.declared.note.Note.{Note}
use Rattle.cw_types.specs.declared.vote.Cert.{Cert}
use Rattle.cw_types.specs.declared.vote.Proposal.{Proposal}
use Rattle.cw_types.specs.declared.vote.Vote.{Vote}
use Rattle.cw_types.specs.declared.vote.Vote.TheVariants.{Finalize}
use Rattle.cw_types.specs.Same.{same_commitment}
use Rattle.cw_types.specs.Votes.{finalized}
use Rattle.cw_rules.specs.Accepted.{first_some, is_valid}
use Rattle.cw_rules.specs.Held.{greatest_prune, held, noted_block_of, parent_of}
use Rattle.cw_rules.specs.Rules.{Rules, genesis, genesis_commitment}
use Rattle.cw_rules.proofs.Lists.{and_then_some}
use Rattle.cw_light.specs.declared.check.Answer.TheVariants.{Yes}
use Rattle.run_light.specs.Finding.{path_to, held_path_within, shown_by_note}
use Rattle.run_light.specs.declared.search.Shown.{Shown}

module _ (r : Rules) (notes : List Note) (height : ℕ) where
  -- a parent is held, one height lower
  pub parent_low : (b a : Block) → parent_of r notes b ≡ Some a
      → (held r notes b.context.parent ≡ Some a) × (a.height + 1 ≡ b.height)
  parent_low b a h =
      by_held
      (and_then_some (λ (x : Block). cond (x.height + 1 == b.height) (Some x) None)
      (held r notes b.context.parent) a h)
    where
      by_height : (x : Block) → held r notes b.context.parent ≡ Some x
          → ((x.height + 1 == b.height) ≡ true) ⊎ ((x.height + 1 == b.height) ≡ false)
          → cond (x.height + 1 == b.height) (Some x) None ≡ Some a
          → (held r notes b.context.parent ≡ Some a) × (a.height + 1 ≡ b.height)
      by_height x e (inl t) f =
          let s : x ≡ a = cc (cond-true (x.height + 1 == b.height) (Some x) None t) in (
            e ∙ ap Some s,
            ap (λ (y : Block). y.height + 1) (sym s) ∙ eqb-true (x.height + 1) b.height t,
          )
      by_height x e (inr n) f = cc (cond-false (x.height + 1 == b.height) (Some x) None n)

      by_held : ((x : Block) × (held r notes b.context.parent ≡ Some x)
          × (cond (x.height + 1 == b.height) (Some x) None ≡ Some a))
          → (held r notes b.context.parent ≡ Some a) × (a.height + 1 ≡ b.height)
      by_held (x, e, f) = by_height x e (cases_Bool (x.height + 1 == b.height)) f

  -- what is found from a block, if there is one
  abbrev pub from : Option Block → Option (List Block)
  from o = option_and_then (λ b. held_path_within r notes b.height height b) o

  -- below the height nothing is found
  pub below_none : (n : ℕ) (b : Block) → b.height < height → held_path_within r notes n height b
      ≡ None
  below_none zero b lt =
      cond-false (b.height == height) (Some (b ∷ [])) None
      (ne_eqb b.height height (λ e. omega arith))
  below_none (suc n) b lt =
      cond-false (b.height == height) (Some (b ∷ []))
      (option_map (λ path. b ∷ path)
      (option_and_then (held_path_within r notes n height) (parent_of r notes b)))
      (ne_eqb b.height height (λ e. omega arith))
      ∙ go (parent_of r notes b) refl (below_none n)
    where
      go : (o : Option Block) → parent_of r notes b ≡ o
          → ((a : Block) → a.height < height → held_path_within r notes n height a ≡ None)
          → option_map (λ path. b ∷ path) (option_and_then (held_path_within r notes n height) o)
          ≡ None
      go None e later = refl
      go (Some a) e later =
          ap (option_map (λ path. b ∷ path)) (later a (omega (arith, (parent_low b a e).1)))

  -- at the height it is the block alone
  pub at_end : (n : ℕ) (b : Block) → b.height ≡ height
      → held_path_within r notes n height b ≡ Some (b ∷ [])
  at_end zero b e = cond-true (b.height == height) (Some (b ∷ [])) None (eq-eqb b.height height e)
  at_end (suc n) b e =
      cond-true (b.height == height) (Some (b ∷ []))
      (option_map (λ path. b ∷ path)
      (option_and_then (held_path_within r notes n height) (parent_of r notes b)))
      (eq-eqb b.height height e)

  -- above the height it goes on from the parent
  pub above_on : (b : Block) → height < b.height
      → held_path_within r notes b.height height b
      ≡ option_map (λ path. b ∷ path) (from (parent_of r notes b))
  above_on b lt =
      let n : ℕ = b.height - 1 in
      let e : b.height ≡ suc n = omega arith in
      ap (λ k. held_path_within r notes k height b) e
      ∙ cond-false (b.height == height) (Some (b ∷ []))
      (option_map (λ path. b ∷ path)
      (option_and_then (held_path_within r notes n height) (parent_of r notes b)))
      (ne_eqb b.height height (λ e. omega arith))
      ∙ go n e (parent_of r notes b) refl
    where
      go : (n : ℕ) → b.height ≡ suc n → (o : Option Block) → parent_of r notes b ≡ o
          → option_map (λ path. b ∷ path) (option_and_then (held_path_within r notes n height) o)
          ≡ option_map (λ path. b ∷ path) (from o)
      go n e None h = refl
      go n e (Some a) h =
          let s : n ≡ a.height = omega (arith, (parent_low b a h).1) in
          ap (λ k. option_map (λ path. b ∷ path) (held_path_within r notes k height a)) s

  -- the way from here, behind what was gone
  abbrev pub behind : List Block → Option Block → Option (List Block)
  behind gone next = option_map (λ rest. gone ++ rest) (from next)

  pub behind_start : (o : Option Block) → behind [] o ≡ from o
  behind_start o = go (from o)
    where
      go : (x : Option (List Block)) → option_map (λ rest. [] ++ rest) x ≡ x
      go None = refl
      go (Some rest) = refl

  -- a step of the way
  pub behind_on : (gone : List Block) (b : Block) (next : Option Block) → height < b.height
      → next ≡ parent_of r notes b → behind (gone ++ b ∷ []) next ≡ behind gone (Some b)
  behind_on gone b next lt e =
      go (from next)
      ∙ sym
      (ap (option_map (λ rest. gone ++ rest))
      (above_on b lt ∙ ap (λ o. option_map (λ path. b ∷ path) (from o)) (sym e)))
    where
      go : (x : Option (List Block))
          → option_map (λ rest. (gone ++ b ∷ []) ++ rest) x
          ≡ option_map (λ rest. gone ++ rest) (option_map (λ path. b ∷ path) x)
      go None = refl
      go (Some rest) = ap Some (append_assoc gone (b ∷ []) rest)

  -- its end: the block of that height, or one below
  pub behind_end : (gone : List Block) (b : Block) → b.height ≤ height
      → behind gone (Some b) ≡ cond (b.height == height) (Some (gone ++ b ∷ [])) None
  behind_end gone b le = go (cases_Bool (b.height == height))
    where
      go : ((b.height == height) ≡ true) ⊎ ((b.height == height) ≡ false)
          → behind gone (Some b) ≡ cond (b.height == height) (Some (gone ++ b ∷ [])) None
      go (inl t) =
          ap (option_map (λ rest. gone ++ rest)) (at_end b.height b (eqb-true b.height height t))
          ∙ sym (cond-true (b.height == height) (Some (gone ++ b ∷ [])) None t)
      go (inr f) =
          ap (option_map (λ rest. gone ++ rest))
          (below_none b.height b (omega (arith, eqb-false b.height height f)))
          ∙ sym (cond-false (b.height == height) (Some (gone ++ b ∷ [])) None f)

-- ---- what is held

module _ (r : Rules) (notes : List Note) where
  -- a noted block, unless it was pruned
  abbrev pub kept : Commitment → Option Block
  kept c =
      option_and_then
      (λ b. cond (nat_lt 0 b.height && nat_lt b.height (greatest_prune notes)) None (Some b))
      (first_some (noted_block_of c) notes)

  pub held_genesis : (c : Commitment) → same_commitment c (genesis_commitment r) ≡ true
      → held r notes c ≡ Some (genesis r)
  held_genesis c t =
      cond-true (same_commitment c (genesis_commitment r)) (Some (genesis r)) (kept c) t

  pub held_kept : (c : Commitment) → same_commitment c (genesis_commitment r) ≡ false
      → held r notes c ≡ kept c
  held_kept c f =
      cond-false (same_commitment c (genesis_commitment r)) (Some (genesis r)) (kept c) f

  pub no_parent : (b : Block) (o : Option Block) → o ≡ held r notes b.context.parent → o ≡ None
      → parent_of r notes b ≡ None
  no_parent b o e n =
      ap (option_and_then (λ a. cond (a.height + 1 == b.height) (Some a) None)) (sym e ∙ n)

  pub is_parent : (b a : Block) (o : Option Block) → o ≡ held r notes b.context.parent → o ≡ Some a
      → (a.height + 1 == b.height) ≡ true → parent_of r notes b ≡ Some a
  is_parent b a o e s t =
      ap (option_and_then (λ a. cond (a.height + 1 == b.height) (Some a) None)) (sym e ∙ s)
      ∙ cond-true (a.height + 1 == b.height) (Some a) None t

  pub other_height : (b a : Block) (o : Option Block) → o ≡ held r notes b.context.parent
      → o ≡ Some a → (a.height + 1 == b.height) ≡ false → parent_of r notes b ≡ None
  other_height b a o e s f =
      ap (option_and_then (λ a. cond (a.height + 1 == b.height) (Some a) None)) (sym e ∙ s)
      ∙ cond-false (a.height + 1 == b.height) (Some a) None f

-- ---- the search of a path

-- heights fall
pub smaller : (b : Block) (o next : Option Block) → next ≡ Some b
    → IfSome o (λ a. a.height + 1 ≡ b.height)
    → suc (option_map_or (λ (x : Block). x.height + 1) o 0)
    ≤ option_map_or (λ (x : Block). x.height + 1) next 0
smaller b o next e h =
    subst
    (λ (n : Option Block). suc (option_map_or (λ (x : Block). x.height + 1) o 0)
    ≤ option_map_or (λ (x : Block). x.height + 1) n 0)
    (sym e) (go o h)
  where
    go : (o : Option Block) → IfSome o (λ a. a.height + 1 ≡ b.height)
        → suc (option_map_or (λ (x : Block). x.height + 1) o 0) ≤ b.height + 1
    go None h = omega arith
    go (Some a) h = omega arith

-- ---- what a note shows

abbrev pub pair : Cert → List Block → Shown
pair s path = record { cert = s; path = path }

-- a valid finalization shows its path
pub shown_is : (r : Rules) (sign : ℕ → Vote → Bool) (height : ℕ) (notes : List Note) (note : Note)
    (s : Cert) (p : Proposal) (o : Option (List Block))
    → note ≡ Note.Cert s → s.vote ≡ Finalize p → is_valid r sign s ≡ true
    → o ≡ path_to r notes height p.payload
    → shown_by_note r sign height notes note ≡ option_map (pair s) o
shown_is r sign height notes note s p o is final valid e =
    ap (shown_by_note r sign height notes) is
    ∙ (cond-true (is_valid r sign s)
    (option_map (pair s)
    (option_and_then (λ (q : Proposal). path_to r notes height q.payload)
    (finalized s.vote)))
    None valid
    ∙ ap (option_map (pair s))
    (ap
    (λ v. option_and_then (λ (q : Proposal). path_to r notes height q.payload)
    (finalized v))
    final
    ∙ sym e))

-- one yes has one height and one digest
pub yes_same : (a c : ℕ) (b d : Digest32) → Yes a b ≡ Yes c d → ◌≡◌ {A = ℕ × Digest32} (a, b) (c, d)
yes_same a c b d e =
    let high : a ≡ c = cc in
    let is : b ≡ d = cc in
    λ i. (high i, is i)
