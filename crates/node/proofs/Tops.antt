-- The greatest of some numbers, and what lies below it.
use Rattle.std.proofs.Common.{◌≡◌, ℕ, zero, suc, Bool, true, false, ◌&&◌, ◌-◌, ◌<◌, ◌≤◌, max, nat_lt, nat_le, ◌*◌, List, [], ◌∷◌, drop, find, Option, Some, None, filter_map, map, if◌then◌else◌, option_and_then, slice_get, refl, sym, ◌∙◌, ap, arith}
use Rattle.std.specs.List.{cons_option, list_all}
use Rattle.std.specs.Option.{option_map, option_map_or}
use Rattle.cw_types.specs.Block.{Block}
use Rattle.cw_rules.specs.Notes.{greatest}
use Rattle.cw_types.specs.declared.commitment.Commitment.{Commitment}
use Rattle.cw_types.specs.declared.note.Note.{Note}
use Rattle.cw_types.specs.declared.vote.Proposal.{Proposal}
use Rattle.cw_rules.specs.Held.{at_height, finalization_of, held}
use Rattle.cw_rules.specs.Notes.{epoch_of}
use Rattle.cw_rules.specs.Owed.{final_heights, reached_epoch}
use Rattle.cw_rules.specs.Rules.{Rules}
use Rattle.marshal.specs.Finding.{final_blocks, higher_of, highest_block}
use Rattle.note_scans.specs.Heights.{greatest_of}

-- below both
below_max : (a b h : ℕ) → nat_lt (max a b) h ≡ (nat_lt a h && nat_lt b h)
below_max a b h = grind arith

below_alone : (a h : ℕ) → (nat_lt a h && true) ≡ nat_lt (max a 0) h
below_alone a h = grind arith

-- all are below where the greatest is, if there is one
pub all_below : (h : ℕ) (xs : List ℕ)
    → list_all (λ x. nat_lt x h) xs ≡ option_map_or (λ g. nat_lt g h) (greatest_of xs) true
all_below h [] = refl
all_below h (x ∷ []) = below_alone x h
all_below h (x ∷ (y ∷ ys)) =
    ap (λ t. nat_lt x h && t) (all_below h (y ∷ ys)) ∙ sym (below_max x (greatest (y ∷ ys)) h)

-- the element at a place, and what lies from there on
pub drop_here : {X : Type 0} (xs : List X) (i : ℕ) (x : X) → slice_get xs i ≡ Some x
    → drop i xs ≡ x ∷ drop (suc i) xs
drop_here [] i x h = cc
drop_here (y ∷ ys) zero x h = let e : y ≡ x = cc in ap (λ z. z ∷ ys) e
drop_here (y ∷ ys) (suc i) x h = drop_here ys i x h

pub drop_none : {X : Type 0} (xs : List X) (i : ℕ) → slice_get xs i ≡ None → drop i xs ≡ []
drop_none [] zero h = refl
drop_none [] (suc i) h = refl
drop_none (y ∷ ys) zero h = cc
drop_none (y ∷ ys) (suc i) h = drop_none ys i h

-- ---- the greatest epoch that is reached

module _ (r : Rules) (notes : List Note) (span : ℕ) where
  pub reach_here : (epoch : ℕ) (c : Commitment) → epoch_of notes < epoch
      → at_height r notes (epoch * span) ≡ Some c
      → reached_epoch r notes span epoch ≡ Some (Note.Epoch epoch c)
  reach_here zero c l h = absurd (omega arith)
  reach_here (suc epoch) c l h =
      let no : nat_le (suc epoch) (epoch_of notes) ≡ false = grind arith in rw (no, h) refl

  pub reach_next : (epoch : ℕ) → epoch_of notes < epoch → at_height r notes (epoch * span) ≡ None
      → reached_epoch r notes span epoch ≡ reached_epoch r notes span (epoch - 1)
  reach_next zero l h = absurd (omega arith)
  reach_next (suc epoch) l h =
      let no : nat_le (suc epoch) (epoch_of notes) ≡ false = grind arith in
      rw (no, h)
      (ap (reached_epoch r notes span) ((let e : epoch ≡ suc epoch - 1 = omega arith in e)))

  pub reach_end : (epoch : ℕ) → epoch ≤ epoch_of notes → reached_epoch r notes span epoch ≡ None
  reach_end zero l = refl
  reach_end (suc epoch) l =
      let yes : nat_le (suc epoch) (epoch_of notes) ≡ true = grind arith in rw yes refl

-- ---- the first that passes, by place

pub find_here : {X : Type 0} (p : X → Bool) (xs : List X) (i : ℕ) (x : X) → slice_get xs i ≡ Some x
    → p x ≡ true → find p (drop i xs) ≡ Some x
find_here p xs i x h t = rw (drop_here xs i x h, t) refl

pub find_next : {X : Type 0} (p : X → Bool) (xs : List X) (i : ℕ) (x : X) → slice_get xs i ≡ Some x
    → p x ≡ false → find p (drop i xs) ≡ find p (drop (suc i) xs)
find_next p xs i x h t = rw (drop_here xs i x h, t) refl

pub find_end : {X : Type 0} (p : X → Bool) (xs : List X) (i : ℕ) → slice_get xs i ≡ None
    → find p (drop i xs) ≡ None
find_end p xs i h = rw (drop_none xs i h) refl

-- ---- the highest block

-- the greatest height of some blocks is that of the highest
highest_of : (bs : List Block)
    → greatest (map (λ (b : Block). b.height) bs)
    ≡ option_map_or (λ b. b.height) (highest_block bs) 0
highest_of [] = refl
highest_of (b ∷ bs) = go (highest_block bs) (highest_of bs)
  where
    higher : (c : Block) → max b.height c.height ≡ (if nat_lt b.height c.height then c else b).height
    higher c = by (nat_lt b.height c.height) refl
      where
        by : (t : Bool) → nat_lt b.height c.height ≡ t
            → max b.height c.height ≡ (if t then c else b).height
        by true e = grind arith
        by false e = grind arith

    go : (o : Option Block)
        → greatest (map (λ (b : Block). b.height) bs) ≡ option_map_or (λ b. b.height) o 0
        → max b.height (greatest (map (λ (b : Block). b.height) bs))
        ≡ option_map_or (λ b. b.height) (higher_of (Some b) o) 0
    go None e = rw e (omega arith)
    go (Some c) e = rw e (higher c)

-- what is kept of what is kept
map_kept : {X Y Z : Type 0} (f : X → Option Y) (g : Y → Option Z) (h : Z → ℕ) (xs : List X)
    → filter_map (λ y. option_map h (g y)) (filter_map f xs)
    ≡ map h (filter_map (λ x. option_and_then g (f x)) xs)
map_kept f g h [] = refl
map_kept {Y = Y} {Z = Z} f g h (x ∷ xs) = go (f x) (map_kept f g h xs)
  where
    by : (o : Option Z)
        → filter_map (λ y. option_map h (g y)) (filter_map f xs)
        ≡ map h (filter_map (λ x. option_and_then g (f x)) xs)
        → cons_option (option_map h o) (filter_map (λ y. option_map h (g y)) (filter_map f xs))
        ≡ map h (cons_option o (filter_map (λ x. option_and_then g (f x)) xs))
    by None e = e
    by (Some z) e = ap (λ l. h z ∷ l) e

    go : (o : Option Y)
        → filter_map (λ y. option_map h (g y)) (filter_map f xs)
        ≡ map h (filter_map (λ x. option_and_then g (f x)) xs)
        → filter_map (λ y. option_map h (g y)) (cons_option o (filter_map f xs))
        ≡ map h (cons_option (option_and_then g o) (filter_map (λ x. option_and_then g (f x)) xs))
    go None e = e
    go (Some y) e = by (g y) e

pub highest_height : (r : Rules) (notes : List Note)
    → greatest (final_heights r notes)
    ≡ option_map_or (λ (b : Block). b.height) (highest_block (final_blocks r notes)) 0
highest_height r notes =
    ap greatest
    (map_kept finalization_of (λ (p : Proposal). held r notes p.payload) (λ (b : Block). b.height)
    notes)
    ∙ highest_of (final_blocks r notes)
