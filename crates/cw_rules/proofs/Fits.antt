-- What fitting says of a block.
use Rattle.std.proofs.Common.{◌≡◌, ℕ, zero, suc, ◌+◌, ◌*◌, ◌<◌, ◌≤◌, true, false, ◌&&◌, ◌==◌, nat_lt, Option, Some, None, refl, ◌∙◌, ap, subst, inl, inr, ◌⊎◌, arith, eqb-true, ltb-true, leb-true, add-one, option_map, nat_le}
use Rattle.std.specs.Option.{option_map_or}
use Rattle.std.proofs.Math.Nat.{suc-mul}
use Rattle.std.proofs.lemmas.Bool.{and_parts, or_cases, false≢true}
use Rattle.cw_types.specs.declared.block.Context.{Context}
use Rattle.cw_types.specs.declared.commitment.Commitment.{Commitment}
use Rattle.cw_types.specs.declared.vote.Proposal.{Proposal}
use Rattle.cw_types.specs.Block.{Block}
use Rattle.cw_types.specs.Epochs.{Epochs, is_last, is_within}
use Rattle.cw_types.specs.Same.{same_block, same_commitment, same_context, same_digest}
use Rattle.cw_rules.specs.Fits.{builds_on, context_for, fits_over, repeats}
use Rattle.cw_rules.specs.Rules.{Rules, digest}
use Rattle.cw_types.proofs.Same.{same_block-true, same_commitment-true, same_context-true, same_digest-true}

-- ---- heights of an epoch

pub plus_mul : (e l : ℕ) → (e + 1) * l ≡ e * l + l
plus_mul e l = ap (λ n. n * l) (add-one e) ∙ suc-mul e l

pub mul_more : (d a l : ℕ) → a * l ≤ (a + d) * l
mul_more zero a l = subst (λ n. a * l ≤ n * l) zero_more (omega arith)
  where
    zero_more : a ≡ a + 0
    zero_more = omega arith
mul_more (suc d) a l =
    subst (λ n. a * l ≤ n * l) one_more (omega (arith, suc-mul (a + d) l, mul_more d a l))
  where
    one_more : suc (a + d) ≡ a + suc d
    one_more = omega arith

-- each epoch covers a height
abbrev pub IsSpanned : Epochs → Type 0
IsSpanned x = (span : ℕ) → x.span ≡ Some span → 0 < span

-- the last height of an epoch
pub last_is : (x : Epochs) (epoch h : ℕ) → is_last x epoch h ≡ true
    → (span : ℕ) × (x.span ≡ Some span) × (h ≡ (epoch + 1) * span)
last_is x epoch h t = go x.span refl t
  where
    go : (o : Option ℕ) → x.span ≡ o
        → option_map_or (λ last. h == last) (option_map (λ span. (epoch + 1) * span) o) false ≡ true
        → (span : ℕ) × (x.span ≡ Some span) × (h ≡ (epoch + 1) * span)
    go None e t = absurd (false≢true t)
    go (Some span) e t = (span, e, eqb-true h ((epoch + 1) * span) t)

pub within_is : (x : Epochs) (epoch h span : ℕ) → x.span ≡ Some span → is_within x epoch h ≡ true
    → h ≤ (epoch + 1) * span
within_is x epoch h span e t =
    leb-true h ((epoch + 1) * span)
    (subst
    (λ o. option_map_or (λ last. nat_le h last) (option_map (λ span. (epoch + 1) * span) o)
    true
    ≡ true)
    e t)

-- a new block over the parent, or the parent's again, the last of its epoch
pub data Fit (r : Rules) (p : Proposal) (b : Block) (c : Commitment) (a : Block) : Type 0 where
  New : b.height ≡ a.height + 1 → is_within r.epochs p.epoch b.height ≡ true → b.context.parent ≡ c
      → b.parent ≡ digest r a → Fit r p b c a
  Again : p.payload ≡ c → b ≡ a → 0 < p.parent → is_last r.epochs p.epoch b.height ≡ true
      → Fit r p b c a

-- contexts that test alike have one parent commitment
context_parent : (a b : Context) → same_context a b ≡ true → a.parent ≡ b.parent
context_parent a b h = ap (λ (x : Context). x.parent) (same_context-true a b h)

pub fit_cases : (r : Rules) (p : Proposal) (b : Block) (c : Commitment) (a : Block)
    → fits_over r p b c a ≡ true → Fit r p b c a
fit_cases r p b c a h = go (or_cases (builds_on r p b c a) (repeats r p b c a) h)
  where
    go : (builds_on r p b c a ≡ true) ⊎ (repeats r p b c a ≡ true) → Fit r p b c a
    go (inl t) =
        let v =
        and_parts
        (same_context b.context (context_for r p c) && same_digest b.parent (digest r a)
        && (b.height == a.height + 1) && is_within r.epochs p.epoch b.height)
        (r.accepts b a) t in
        let x =
        and_parts
        (same_context b.context (context_for r p c) && same_digest b.parent (digest r a)
        && (b.height == a.height + 1))
        (is_within r.epochs p.epoch b.height) v.0 in
        let y =
        and_parts
        (same_context b.context (context_for r p c) && same_digest b.parent (digest r a))
        (b.height == a.height + 1) x.0 in
        let z =
        and_parts (same_context b.context (context_for r p c))
        (same_digest b.parent (digest r a)) y.0 in
        New (eqb-true b.height (a.height + 1) y.1) x.1
        (context_parent b.context (context_for r p c) z.0)
        (same_digest-true b.parent (digest r a) z.1)
    go (inr t) =
        let x =
        and_parts (same_commitment p.payload c && same_block b a && nat_lt 0 p.parent)
        (is_last r.epochs p.epoch b.height) t in
        let y = and_parts (same_commitment p.payload c && same_block b a) (nat_lt 0 p.parent) x.0 in
        let z = and_parts (same_commitment p.payload c) (same_block b a) y.0 in
        Again (same_commitment-true p.payload c z.0) (same_block-true b a z.1)
        (ltb-true 0 p.parent y.1) x.1

-- a fitting block isn't genesis
pub fit_positive : (r : Rules) → IsSpanned r.epochs
    → (p : Proposal) (b : Block) (c : Commitment) (a : Block) → fits_over r p b c a ≡ true
    → 0 < b.height
fit_positive r spans p b c a h = go (fit_cases r p b c a h)
  where
    go : Fit r p b c a → 0 < b.height
    go (New up within named digests) = omega arith
    go (Again same block pos last) =
        let (span, e, f) = last_is r.epochs p.epoch b.height last in
        omega (arith, spans span e, plus_mul p.epoch span)
