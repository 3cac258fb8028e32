-- No finalization is higher than the number beside its note, as notes come and go.
use Rattle.std.proofs.Common.{◌≡◌, ◌⊎◌, inl, inr, ⊎_elim, ℕ, zero, suc, ◌+◌, ◌-◌, ◌<◌, ◌≤◌, Bool, true, false, cond, nat_lt, take, refl, sym, ◌∙◌, ap, arith, subst, List, [], ◌∷◌, ◌++◌, length, Option, Some, None, IfSome, option_and_then, option_map, slice_get, unwrap_or}
use Rattle.std.specs.Prelude.{slice_index_or}
use Rattle.std.specs.List.{AllByRecursion, position}
use Rattle.std.specs.Map.{lookup}
use Rattle.std.specs.Option.{option_map_or, option_or}
use Rattle.std.proofs.lemmas.Bool.{cases_Bool, cases_lt, ltb-true}
use Rattle.std.proofs.lemmas.List.{get_or_append_left, get_or_push, get_or-take, length-take, length_push}
use Rattle.std.proofs.lemmas.List.Sorted.{IsNonDecreasingBy-take}
use Rattle.std.proofs.lemmas.Option.{none-some, same_Some, slice_get-get_or, slice_get_within}
use Rattle.cw_types.specs.Block.{Block}
use Rattle.cw_types.specs.Same.{same_commitment}
use Rattle.cw_types.specs.declared.commitment.Commitment.{Commitment}
use Rattle.cw_types.specs.declared.note.Note.{Note}
use Rattle.cw_types.specs.declared.vote.Proposal.{Proposal}
use Rattle.cw_types.proofs.Same.{same_commitment-true, same_commitment_self}
use Rattle.cw_rules.specs.Accepted.{first_some}
use Rattle.cw_rules.specs.Held.{finalization_of, held, noted_block_of}
use Rattle.cw_rules.specs.Rules.{Rules}
use Rattle.cw_rules.proofs.Lists.{and_then_some, first_of_both}
use Rattle.marshal.specs.Finding.{final_block}
use Rattle.marshal.specs.Reach.{AreAbove, BoundsHeights, HasFinals, IsLifted, final_height, is_final}
use Rattle.marshal.proofs.Growing.{first_front, held_cases}
use Rattle.marshal.proofs.Placing.{or_none, position_cons}

pub front_get : {X : Type 0} (xs ys : List X) (i : ℕ) → i < length xs
    → slice_get (xs ++ ys) i ≡ slice_get xs i
front_get [] ys i l = absurd (omega (arith, l))
front_get (x ∷ xs) ys zero l = refl
front_get (x ∷ xs) ys (suc i) l = front_get xs ys i (omega (arith, l))

pub end_get : {X : Type 0} (xs : List X) (y : X) → slice_get (xs ++ y ∷ []) (length xs) ≡ Some y
end_get [] y = refl
end_get (x ∷ xs) y = end_get xs y

-- the first that passes stands no later than one that does
pub position_upto : {X : Type 0} (p : X → Bool) (xs : List X) (i : ℕ) (x : X) → slice_get xs i ≡ Some x
    → p x ≡ true → (j : ℕ) × (position p xs ≡ Some j) × (j ≤ i)
position_upto p [] i x e t = absurd (none-some x e)
position_upto p (y ∷ ys) zero x e t = (
  0,
  position_cons p y ys
      ∙ ap (λ b. cond b (Some 0) (option_map (λ k. 1 + k) (position p ys)))
      (ap p (same_Some y x e) ∙ t),
  omega arith,
)
position_upto {X = X} p (y ∷ ys) (suc i) x e t =
    go (cases_Bool (p y)) (position_upto p ys i x e t)
  where
    go : (p y ≡ true) ⊎ (p y ≡ false)
        → ((j : ℕ) × (position p ys ≡ Some j) × (j ≤ i))
        → (j : ℕ) × (position p (y ∷ ys) ≡ Some j) × (j ≤ suc i)
    go (inl h) more = (
      0,
      position_cons p y ys
          ∙ ap (λ b. cond b (Some 0) (option_map (λ k. 1 + k) (position p ys))) h,
      omega arith,
    )
    go (inr h) (j, found, le) = (
      1 + j,
      position_cons p y ys
          ∙ (ap (λ b. cond b (Some 0) (option_map (λ k. 1 + k) (position p ys))) h
          ∙ ap (option_map (λ k. 1 + k)) found),
      omega (arith, le),
    )

-- what the block of a note is, under a commitment
pub block_is : (c : Commitment) (note : Note) (b : Block) → noted_block_of c note ≡ Some b
    → (d : Commitment) × (note ≡ Note.Block d b) × (c ≡ d)
block_is c (Note.Block d x) b e = go (cases_Bool (same_commitment c d))
  where
    go : (same_commitment c d ≡ true) ⊎ (same_commitment c d ≡ false)
        → (k : Commitment) × (Note.Block d x ≡ Note.Block k b) × (c ≡ k)
    go (inl t) = (
      d,
      ap (λ (y : Block). Note.Block d y)
          (same_Some x b (sym (ap (λ s. cond s (Some x) None) t) ∙ e)),
      same_commitment-true c d t,
    )
    go (inr f) = absurd (none-some b (sym (ap (λ s. cond s (Some x) None) f) ∙ e))
block_is c (Note.Verified e v d) b h = absurd (none-some b h)
block_is c (Note.Certified p) b h = absurd (none-some b h)
block_is c (Note.Vote v) b h = absurd (none-some b h)
block_is c (Note.Cert s) b h = absurd (none-some b h)
block_is c (Note.Ack k) b h = absurd (none-some b h)
block_is c (Note.Floor k) b h = absurd (none-some b h)
block_is c (Note.Prune k) b h = absurd (none-some b h)
block_is c (Note.Epoch e d) b h = absurd (none-some b h)

-- a finalization is no block
final_none : (c : Commitment) (note : Note) (p : Proposal) → finalization_of note ≡ Some p
    → noted_block_of c note ≡ None
final_none c (Note.Cert s) p e = refl
final_none c (Note.Block d b) p e = absurd (none-some p e)
final_none c (Note.Verified x v d) p e = absurd (none-some p e)
final_none c (Note.Certified q) p e = absurd (none-some p e)
final_none c (Note.Vote v) p e = absurd (none-some p e)
final_none c (Note.Ack k) p e = absurd (none-some p e)
final_none c (Note.Floor k) p e = absurd (none-some p e)
final_none c (Note.Prune k) p e = absurd (none-some p e)
final_none c (Note.Epoch x d) p e = absurd (none-some p e)

-- the bound of a note's height, by what it finalizes and which block is noted
abbrev LowAt : List Note → Note → ℕ → Type 0
LowAt notes note n = IfSome (final_height notes note) (λ h. h ≤ n)

low_at : (notes : List Note) (note : Note) (n : ℕ)
    → ((p : Proposal) (b : Block) → finalization_of note ≡ Some p
    → first_some (noted_block_of p.payload) notes ≡ Some b → b.height ≤ n)
    → LowAt notes note n
low_at notes note n each = go (finalization_of note) refl
  where
    on : (p : Proposal) → finalization_of note ≡ Some p → (o : Option Block)
        → first_some (noted_block_of p.payload) notes ≡ o
        → IfSome (option_map (λ (b : Block). b.height) o) (λ h. h ≤ n)
    on p is None e = tt
    on p is (Some b) e = each p b is e

    go : (o : Option Proposal) → finalization_of note ≡ o
        → IfSome
        (option_map (λ (b : Block). b.height)
        (option_and_then (λ q. first_some (noted_block_of q.payload) notes) o))
        (λ h. h ≤ n)
    go None is = tt
    go (Some p) is = on p is (first_some (noted_block_of p.payload) notes) refl

height_low : (notes : List Note) (note : Note) (n : ℕ) (p : Proposal) (b : Block)
    → LowAt notes note n → finalization_of note ≡ Some p
    → first_some (noted_block_of p.payload) notes ≡ Some b → b.height ≤ n
height_low notes note n p b low is e =
    subst (λ (o : Option ℕ). IfSome o (λ h. h ≤ n))
    (ap (λ (o : Option Proposal). option_map (λ (x : Block). x.height)
    (option_and_then (λ q. first_some (noted_block_of q.payload) notes) o))
    is
    ∙ ap (option_map (λ (x : Block). x.height)) e)
    low

-- a note at the end
pub reaches_on : (notes : List Note) (note : Note) (finals : List (Commitment × ℕ))
    (reach more new : List ℕ) (x : ℕ)
    → BoundsHeights notes reach → HasFinals finals (notes ++ note ∷ []) → more ≡ reach ++ x ∷ []
    → unwrap_or (final_height notes note) 0 ≤ x → IsLifted more new
    → ((c : Commitment) (b : Block) (place : ℕ) → note ≡ Note.Block c b
    → lookup (same_commitment c) finals ≡ Some place → AreAbove place b.height new)
    → BoundsHeights (notes ++ note ∷ []) new
reaches_on notes note finals reach more new x reaches has more_is own lifted block = record {
  one_each = long;
  rising = lifted.rising;
  bounds = λ i n e.
      low_at (notes ++ note ∷ []) n (slice_index_or new i 0) (each i n e);
}
  where
    long : length new ≡ length (notes ++ note ∷ [])
    long =
        let a = lifted.as_many in
        let b = ap length more_is in
        let c = length_push reach x in
        let d = length_push notes note in
        let e = reaches.one_each in
        omega (arith, a, b, c, d, e)

    -- where the block was noted before
    before : (i : ℕ) (n : Note) (p : Proposal) (b : Block) → i < length notes
        → slice_get notes i ≡ Some n → finalization_of n ≡ Some p
        → first_some (noted_block_of p.payload) notes ≡ Some b → b.height ≤ slice_index_or new i 0
    before i n p b l e is found =
        let low =
        height_low notes n (slice_index_or reach i 0) p b (reaches.bounds i n e) is found in
        let same =
        ap (λ (r : List ℕ). slice_index_or r i 0) more_is
        ∙ get_or_append_left reach (x ∷ []) 0 i (omega (arith, l, reaches.one_each)) in
        omega (arith, low, same, lifted.higher i 0)

    -- where it is the new note
    behind : (i : ℕ) (n : Note) (p : Proposal) (b : Block)
        → slice_get (notes ++ note ∷ []) i ≡ Some n → finalization_of n ≡ Some p
        → noted_block_of p.payload note ≡ Some b → b.height ≤ slice_index_or new i 0
    behind i n p b e is found =
        let (d, note_is, same) = block_is p.payload note b found in
        let final : is_final p.payload n ≡ true =
        ap (λ (o : Option Proposal). option_map_or
        (λ q. same_commitment p.payload q.payload) o false)
        is
        ∙ same_commitment_self p.payload in
        let (j, first, le) = position_upto (is_final p.payload) (notes ++ note ∷ []) i n e final in
        let look : lookup (same_commitment d) finals ≡ Some j =
        ap (λ (c : Commitment). lookup (same_commitment c) finals) (sym same)
        ∙ (has p.payload ∙ first) in
        let inside = slice_get_within (notes ++ note ∷ []) i n e in
        block d b j note_is look i 0 le (omega (arith, inside, long))

    -- where it is one of before
    inner : (i : ℕ) (n : Note) → slice_get (notes ++ note ∷ []) i ≡ Some n → i < length notes
        → (p : Proposal) (b : Block) → finalization_of n ≡ Some p
        → (o : Option Block) → first_some (noted_block_of p.payload) notes ≡ o
        → option_or o (option_or (noted_block_of p.payload note) None) ≡ Some b
        → b.height ≤ slice_index_or new i 0
    inner i n e l p b is (Some y) f g =
        before i n p b l (sym (front_get notes (note ∷ []) i l) ∙ e) is (f ∙ g)
    inner i n e l p b is None f g =
        behind i n p b e is (sym (or_none (noted_block_of p.payload note)) ∙ g)

    -- where it is the new one
    last : (n : Note) → note ≡ n → (p : Proposal) (b : Block) → finalization_of n ≡ Some p
        → first_some (noted_block_of p.payload) (notes ++ note ∷ []) ≡ Some b
        → b.height ≤ slice_index_or new (length notes) 0
    last n same p b is found =
        let note_final = ap finalization_of same ∙ is in
        let there : first_some (noted_block_of p.payload) notes ≡ Some b =
        sym (or_none (first_some (noted_block_of p.payload) notes))
        ∙ (ap (λ (o : Option Block). option_or (first_some (noted_block_of p.payload) notes)
        (option_or o None))
        (sym (final_none p.payload note p note_final))
        ∙ (sym (first_of_both (noted_block_of p.payload) notes (note ∷ [])) ∙ found)) in
        let height : final_height notes note ≡ Some b.height =
        ap (λ (o : Option Proposal). option_map (λ (y : Block). y.height)
        (option_and_then (λ q. first_some (noted_block_of q.payload) notes) o))
        note_final
        ∙ ap (option_map (λ (y : Block). y.height)) there in
        let low : b.height ≤ x =
        subst (λ (o : Option ℕ). unwrap_or o 0 ≤ x) height own in
        let at =
        ap (λ (r : List ℕ). slice_index_or r (length notes) 0) more_is
        ∙ get_or_push reach x 0 (length notes) reaches.one_each in
        omega (arith, low, at, lifted.higher (length notes) 0)

    each : (i : ℕ) (n : Note) → slice_get (notes ++ note ∷ []) i ≡ Some n → (p : Proposal)
        (b : Block)
        → finalization_of n ≡ Some p
        → first_some (noted_block_of p.payload) (notes ++ note ∷ []) ≡ Some b
        → b.height ≤ slice_index_or new i 0
    each i n e p b is found = ⊎_elim
        (λ l.
        inner i n e l p b is (first_some (noted_block_of p.payload) notes) refl
        (sym (first_of_both (noted_block_of p.payload) notes (note ∷ [])) ∙ found))
        (λ g.
        let inside = slice_get_within (notes ++ note ∷ []) i n e in
        let at : i ≡ length notes = omega (arith, inside, length_push notes note, g) in
        let same : note ≡ n =
        same_Some note n
        (sym (end_get notes note)
        ∙ (ap (slice_get (notes ++ note ∷ [])) (sym at) ∙ e)) in
        subst (λ (k : ℕ). b.height ≤ slice_index_or new k 0) (sym at)
        (last n same p b is found))
        (cases_lt i (length notes))

-- without the last note
pub reaches_less : (notes less : List Note) (note : Note) (n : ℕ) (reach new : List ℕ)
    → BoundsHeights notes reach → notes ≡ less ++ note ∷ [] → n ≡ length less → new ≡ take n reach
    → BoundsHeights less new
reaches_less notes less note n reach new reaches split at new_is =
    subst (BoundsHeights less) (sym new_is) (record {
      one_each = long;
      rising = IsNonDecreasingBy-take (λ y. y) n reach reaches.rising;
      bounds = λ i m e. low_at less m (slice_index_or (take n reach) i 0) (each i m e);
    })
  where
    long : length (take n reach) ≡ length less
    long =
        let a = length-take n reach in
        let b = reaches.one_each in
        let c = ap length split in
        let d = length_push less note in
        omega (arith, a, b, c, d, at)

    each : (i : ℕ) (m : Note) → slice_get less i ≡ Some m → (p : Proposal) (b : Block)
        → finalization_of m ≡ Some p → first_some (noted_block_of p.payload) less ≡ Some b
        → b.height ≤ slice_index_or (take n reach) i 0
    each i m e p b is found =
        let l = slice_get_within less i m e in
        let there : slice_get notes i ≡ Some m =
        ap (λ (ns : List Note). slice_get ns i) split
        ∙ (front_get less (note ∷ []) i l ∙ e) in
        let still : first_some (noted_block_of p.payload) notes ≡ Some b =
        ap (first_some (noted_block_of p.payload)) split
        ∙ first_front (noted_block_of p.payload) less (note ∷ []) b found in
        let low =
        height_low notes m (slice_index_or reach i 0) p b (reaches.bounds i m there) is still in
        omega (arith, low, get_or-take n reach i 0 (omega (arith, l, at)))

-- ---- what is held

pub taken : {X : Type 0} (P : X → Type 0) (k : ℕ) (xs : List X)
    → ((i : ℕ) (x : X) → i < k → slice_get xs i ≡ Some x → P x) → AllByRecursion P (take k xs)
taken P zero xs each = tt
taken P (suc k) [] each = tt
taken P (suc k) (x ∷ xs) each = (
  each 0 x (omega arith) refl,
  taken P k xs (λ i y l e. each (suc i) y (omega (arith, l)) e),
)

every : {X : Type 0} (P : X → Type 0) (xs : List X)
    → ((i : ℕ) (x : X) → slice_get xs i ≡ Some x → P x) → AllByRecursion P xs
every P [] each = tt
every P (x ∷ xs) each = (each 0 x refl, every P xs (λ i y e. each (suc i) y e))

module _ (r : Rules) (notes : List Note) (reach : List ℕ) (reaches : BoundsHeights notes reach)
  where
    final_low : (i : ℕ) (note : Note) (b : Block) → slice_get notes i ≡ Some note
        → final_block r notes note ≡ Some b → b.height ≤ slice_index_or reach i 0
    final_low i note b e is =
        let (p, final, holds) =
        and_then_some (λ (q : Proposal). held r notes q.payload) (finalization_of note) b is in
        ⊎_elim (λ g. subst (λ (x : Block). x.height ≤ slice_index_or reach i 0) (sym g.1)
        (omega arith))
        (λ h.
        height_low notes note (slice_index_or reach i 0) p b (reaches.bounds i note e) final h.1)
        (held_cases r notes p.payload b holds)

    some_low : (P : ℕ → Type 0) (note : Note)
        → ((b : Block) → final_block r notes note ≡ Some b → P b.height)
        → IfSome (final_block r notes note) (λ b. P b.height)
    some_low P note each = go (final_block r notes note) refl
      where
        go : (o : Option Block) → final_block r notes note ≡ o → IfSome o (λ b. P b.height)
        go None e = tt
        go (Some b) e = each b e

    pub low_before : (h k : ℕ) → ((i d : ℕ) → i < k → nat_lt (slice_index_or reach i d) h ≡ true)
        → AllByRecursion (λ note. IfSome (final_block r notes note) (λ b. b.height < h))
        (take k notes)
    low_before h k low =
        taken (λ note. IfSome (final_block r notes note) (λ b. b.height < h)) k notes
        (λ i note l e. some_low (λ x. x < h) note
        (λ b is. omega (
          arith,
          final_low i note b e is,
          ltb-true (slice_index_or reach i 0) h (low i 0 l),
        )))

    low_all : (top : ℕ) → Some top ≡ slice_get reach (length reach - 1)
        → AllByRecursion (λ note. IfSome (final_block r notes note) (λ b. b.height ≤ top)) notes
    low_all top is =
        every (λ note. IfSome (final_block r notes note) (λ b. b.height ≤ top)) notes
        (λ i note e. some_low (λ x. x ≤ top) note
        (λ b found.
        let l = slice_get_within notes i note e in
        let one = reaches.one_each in
        let at =
        same_Some _ _ (is ∙ slice_get-get_or reach (length reach - 1) 0 (omega (arith, l, one))) in
        let on = reaches.rising i (length reach - 1) 0 (omega (arith, l, one))
        (omega (arith, l, one))
        in
        omega (arith, final_low i note b e found, at, on)))

    pub low_top : (o : Option ℕ) → o ≡ slice_get reach (length reach - 1)
        → IfSome o
        (λ top. AllByRecursion
        (λ note. IfSome (final_block r notes note) (λ b. b.height ≤ top)) notes)
    low_top None is = tt
    low_top (Some top) is = low_all top is
