-- Numbers that never fall, raised from a place on.
use Rattle.std.proofs.Common.{◌≡◌, ◌⊎◌, inl, inr, ⊎_elim, ℕ, ◌+◌, ◌<◌, ◌≤◌, set, refl, sym, ◌∙◌, ap, arith, subst, List, length, Some, None}
use Rattle.std.specs.Prelude.{slice_index_or}
use Rattle.std.specs.List.Sorted.{IsNonDecreasing}
use Rattle.std.specs.Map.{lookup}
use Rattle.std.proofs.lemmas.Bool.{cases_eq, cases_lt}
use Rattle.std.proofs.lemmas.List.{get_or_default, get_or-set_other, get_or-set_same, length-set}
use Rattle.std.proofs.lemmas.Option.{none-some, same_Some}
use Rattle.cw_types.specs.Block.{Block}
use Rattle.cw_types.specs.Same.{same_commitment}
use Rattle.cw_types.specs.declared.commitment.Commitment.{Commitment}
use Rattle.cw_types.specs.declared.note.Note.{Note}
use Rattle.marshal.specs.Reach.{AreAbove, IsLifted}

-- ---- raised from a place on

-- the numbers from a place on are a height up to another place, and those behind it are as before
pub record Raising (old : List ℕ) (from height : ℕ) (reach : List ℕ) (place : ℕ) : Type 0 where
  pub as_many : length reach ≡ length old
  pub begun : from ≤ place
  pub front : (i d : ℕ) → i < from → slice_index_or reach i d ≡ slice_index_or old i d
  pub raised : (i d : ℕ) → from ≤ i → i < place → slice_index_or reach i d ≡ height
  pub lower : (i d : ℕ) → from ≤ i → i < place → slice_index_or old i d ≤ height
  pub behind : (i d : ℕ) → place ≤ i → slice_index_or reach i d ≡ slice_index_or old i d

pub raising : (old : List ℕ) (from height : ℕ) → Raising old from height old from
raising old from height = record {
  as_many = refl;
  begun = omega arith;
  front = λ i d l. refl;
  raised = λ i d g l. absurd (omega (arith, g, l));
  lower = λ i d g l. absurd (omega (arith, g, l));
  behind = λ i d g. refl;
}

pub raised_on : (old : List ℕ) (from height : ℕ) (reach : List ℕ) (place : ℕ)
    → Raising old from height reach place → place < length reach
    → slice_index_or reach place 0 < height
    → Raising old from height (set reach place height) (place + 1)
raised_on old from height reach place is inside low = record {
  as_many = length-set reach place height ∙ is.as_many;
  begun = omega (arith, is.begun);
  front = λ i d l.
      get_or-set_other reach place i height d (λ e. absurd (omega (arith, e, l, is.begun)))
      ∙ is.front i d l;
  raised = λ i d g l. ⊎_elim
      (λ e.
      ap (λ k. slice_index_or (set reach place height) k d) e
      ∙ get_or-set_same reach place height d inside)
      (λ apart. get_or-set_other reach place i height d apart ∙ is.raised i d g (below i l apart))
      (cases_eq i place);
  lower = λ i d g l. ⊎_elim
      (λ e. subst (λ (k : ℕ). slice_index_or old k d ≤ height) (sym e) (here d))
      (λ apart. is.lower i d g (below i l apart)) (cases_eq i place);
  behind = λ i d g.
      get_or-set_other reach place i height d (λ e. absurd (omega (arith, e, g)))
      ∙ is.behind i d (omega (arith, g));
}
  where
    below : (i : ℕ) → i < place + 1 → (i ≡ place → ⊥) → i < place
    below i l apart = ⊎_elim (λ h. h) (λ h. absurd (apart (omega (arith, h, l)))) (cases_lt i place)

    here : (d : ℕ) → slice_index_or old place d ≤ height
    here d =
        let now = is.behind place d (omega arith) in
        let same = get_or_default reach place d 0 inside in
        omega (arith, now, same, low)

pub raised_all : (old : List ℕ) (from height : ℕ) (reach : List ℕ) (place : ℕ)
    → Raising old from height reach place → IsNonDecreasing old
    → ((d : ℕ) → place < length old → height ≤ slice_index_or reach place d)
    → IsLifted old reach × AreAbove from height reach
raised_all old from height reach place is up end = (
  record { as_many = is.as_many; rising = rising; higher = higher },
  above,
)
  where
    Where : ℕ → Type 0
    Where i = (i < from) ⊎ (((from ≤ i) × (i < place)) ⊎ (place ≤ i))

    where_is : (i : ℕ) → Where i
    where_is i = ⊎_elim (λ l. inl l)
        (λ g. inr (⊎_elim (λ l. inl (g, l)) (λ h. inr h) (cases_lt i place))) (cases_lt i from)

    higher : (i d : ℕ) → slice_index_or old i d ≤ slice_index_or reach i d
    higher i d = go (where_is i)
      where
        go : Where i → slice_index_or old i d ≤ slice_index_or reach i d
        go (inl l) = omega (arith, is.front i d l)
        go (inr (inl (g, l))) = omega (arith, is.raised i d g l, is.lower i d g l)
        go (inr (inr g)) = omega (arith, is.behind i d g)

    -- behind the place nothing is lower than the height
    high : (i d : ℕ) → place ≤ i → i < length reach → height ≤ slice_index_or reach i d
    high i d g l =
        let long = is.as_many in
        let low = end d (omega (arith, g, l, long)) in
        let first = is.behind place d (omega arith) in
        let there = is.behind i d g in
        let on = up place i d g (omega (arith, l, long)) in
        omega (arith, low, first, there, on)

    above : AreAbove from height reach
    above i d g l = go (where_is i)
      where
        go : Where i → height ≤ slice_index_or reach i d
        go (inl b) = absurd (omega (arith, b, g))
        go (inr (inl (a, b))) = omega (arith, is.raised i d a b)
        go (inr (inr b)) = high i d b l

    rising : IsNonDecreasing reach
    rising i j d le l = go (where_is i)
      where
        on : slice_index_or old i d ≤ slice_index_or old j d
        on = up i j d le (omega (arith, l, is.as_many))

        go : Where i → slice_index_or reach i d ≤ slice_index_or reach j d
        go (inl b) = omega (arith, is.front i d b, on, higher j d)
        go (inr (inl (a, b))) =
            omega (arith, is.raised i d a b, above j d (omega (arith, a, le)) l)
        go (inr (inr b)) =
            omega (arith, is.behind i d b, is.behind j d (omega (arith, b, le)), on)

-- ---- a block behind its finalization

abbrev commitment_or : Commitment → Note → Commitment
commitment_or x (Note.Block c b) = c
commitment_or x _ = x

abbrev height_of : Note → ℕ
height_of (Note.Block c b) = b.height
height_of _ = 0

pub raised_block : (note : Note) (c k : Commitment) (a b : Block)
    (finals : List (Commitment × ℕ)) (at place height : ℕ) (new : List ℕ)
    → note ≡ Note.Block c a → lookup (same_commitment c) finals ≡ Some at → height ≡ a.height
    → AreAbove at height new → note ≡ Note.Block k b
    → lookup (same_commitment k) finals ≡ Some place → AreAbove place b.height new
raised_block note c k a b finals at place height new is found high above too look = λ i d le l.
    let same : Note.Block c a ≡ Note.Block k b = sym is ∙ too in
    let one : c ≡ k = ap (commitment_or c) same in
    let as_high : a.height ≡ b.height = ap height_of same in
    let there : at ≡ place =
    same_Some at place
    (sym found ∙ (ap (λ (x : Commitment). lookup (same_commitment x) finals) one ∙ look)) in
    omega (arith, above i d (omega (arith, there, le)) l, as_high, high)

pub no_final : (note : Note) (c k : Commitment) (a b : Block) (finals : List (Commitment × ℕ))
    (place : ℕ)
    → note ≡ Note.Block c a → lookup (same_commitment c) finals ≡ None → note ≡ Note.Block k b
    → lookup (same_commitment k) finals ≡ Some place → ⊥
no_final note c k a b finals place is none too look =
    let same : Note.Block c a ≡ Note.Block k b = sym is ∙ too in
    let one : c ≡ k = ap (commitment_or c) same in
    none-some place
    (sym none ∙ (ap (λ (x : Commitment). lookup (same_commitment x) finals) one ∙ look))
