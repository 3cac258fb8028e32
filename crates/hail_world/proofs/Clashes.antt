-- The clash that a line brings, by the notes of its member.
use Rattle.std.proofs.Common.{◌≡◌, ℕ, zero, suc, ◌+◌, ◌<◌, List, [], ◌∷◌, ◌++◌, length, map, take, drop, get_or, Option, Some, None, refl, sym, ap, ◌∙◌, arith, subst, append_assoc, append-nil}
use Rattle.std.specs.Prelude.{flat_map}
use Rattle.std.specs.List.{AllByRecursion}
use Rattle.std.proofs.lemmas.List.{take-append-drop}
use Rattle.std.proofs.lemmas.List.Elements.{filter_map-append}
use Rattle.std.proofs.Math.Seq.{drop-append_seam}
use Rattle.cw_types.specs.Block.{Block}
use Rattle.cw_types.specs.declared.note.Note.{Note}
use Rattle.cw_rules.specs.Chains.{blocks_of, clash_at, first_clash, noted_block}
use Rattle.cw_rules.specs.Reached.{AllNamed, IsNamed}
use Rattle.cw_rules.specs.Rules.{Rules, genesis}
use Rattle.cw_rules.specs.Step.{Member, member_notes}
use Rattle.cw_rules.specs.World.{World}
use Rattle.hail_world.specs.declared.blocks.KnownBlocks.{KnownBlocks}
use Rattle.hail_world.specs.declared.place.Place.{Place}
use Rattle.hail_world.specs.Known.{AreKnown, Knows, blocks_in}
use Rattle.hail_world.specs.Places.{SitAs, notes_at}
use Rattle.hail_world.specs.Runs.{HasGrown, notes_of_place}
use Rattle.hail_world.specs.MemoryNodes.{MemoryNode}
use Rattle.hail_world.proofs.Playing.{seated_notes}

abbrev notes_in : List (Option Member) → List Note
notes_in os = flat_map notes_of_place os

blocks_is : (os : List (Option Member)) → blocks_of os ≡ blocks_in (notes_in os)
blocks_is [] = refl
blocks_is (None ∷ os) = blocks_is os
blocks_is (Some m ∷ os) =
    ap (λ (l : List Block). blocks_in (member_notes m) ++ l) (blocks_is os)
    ∙ sym (filter_map-append noted_block (member_notes m) (notes_in os))

pub same_notes : (ps : List (Place MemoryNode)) (os : List (Option Member)) → SitAs ps os
    → map notes_at ps ≡ map notes_of_place os
same_notes [] [] h = refl
same_notes [] (o ∷ os) h = absurd h
same_notes (p ∷ ps) [] h = absurd h
same_notes (p ∷ ps) (o ∷ os) h =
    ap (λ (l : List Note). l ∷ map notes_at ps) (seated_notes p o h.0)
    ∙ ap (λ (l : List (List Note)). notes_of_place o ∷ l) (same_notes ps os h.1)

own_at : (ps : List (Place MemoryNode)) (os : List (Option Member)) (i : ℕ) (d : Place MemoryNode)
    → SitAs ps os
    → i < length ps → notes_in (take 1 (drop i os)) ≡ notes_at (get_or ps i d)
own_at [] os i d h lt = absurd (omega arith)
own_at (p ∷ ps) [] i d h lt = absurd h
own_at (p ∷ ps) (o ∷ os) zero d h lt = append-nil (notes_of_place o) ∙ sym (seated_notes p o h.0)
own_at (p ∷ ps) (o ∷ os) (suc i) d h lt = own_at ps os i d h.1 (omega arith)

parts : (os : List (Option Member)) (i : ℕ)
    → notes_in os
    ≡ notes_in (take i os) ++ (notes_in (take 1 (drop i os)) ++ notes_in (drop (i + 1) os))
parts [] zero = refl
parts [] (suc i) = let n : suc i + 1 ≡ suc (i + 1) = omega arith in rw n refl
parts (o ∷ os) zero = ap (λ (l : List Note). l ++ notes_in os) (sym (append-nil (notes_of_place o)))
parts (o ∷ os) (suc i) =
    let n : suc i + 1 ≡ suc (i + 1) = omega arith in
    rw n
    (ap (λ (l : List Note). notes_of_place o ++ l) (parts os i)
    ∙ sym
    (append_assoc (notes_of_place o) (notes_in (take i os))
    (notes_in (take 1 (drop i os)) ++ notes_in (drop (i + 1) os))))

three : (low own high : List Note)
    → blocks_in (low ++ (own ++ high)) ≡ blocks_in low ++ blocks_in own ++ blocks_in high
three low own high =
    filter_map-append noted_block low (own ++ high)
    ∙ ap (λ (l : List Block). blocks_in low ++ l) (filter_map-append noted_block own high)
    ∙ sym (append_assoc (blocks_in low) (blocks_in own) (blocks_in high))

all_split : (P : Note → Type 0) (xs ys : List Note) → AllByRecursion P (xs ++ ys)
    → AllByRecursion P xs × AllByRecursion P ys
all_split P [] ys h = (tt, h)
all_split P (x ∷ xs) ys h = let more = all_split P xs ys h.1 in ((h.0, more.0), more.1)

-- what a line that only adds to the notes of one member makes of a search through its notes
pub record IsOwn (r : Rules) (before after : World) (id old : ℕ) (known : KnownBlocks)
    (own : List Note) : Type 0 where
  pub low : List Block
  pub high : List Block
  pub named : AllByRecursion (IsNamed r) own
  pub knows : AreKnown r known (genesis r ∷ low ++ blocks_in (take old own) ++ high)
  pub clash : first_clash r low (blocks_in (take old own)) high (blocks_in (drop old own))
      ≡ clash_at r before after id
  pub later : (new : KnownBlocks) → AreKnown r new (genesis r ∷ low ++ blocks_in own ++ high)
      → Knows r new after

module _ (r : Rules) (before after : World) (id old : ℕ) (known : KnownBlocks)
    (grown : HasGrown before after id old) (named : AllNamed r after)
    (knows : Knows r known before) where
  abbrev low : List Note
  low = notes_in (take id after.members)

  abbrev mine : List Note
  mine = notes_in (take 1 (drop id after.members))

  abbrev high : List Note
  high = notes_in (drop (id + 1) after.members)

  lows : blocks_of (take id before.members) ≡ blocks_in low
  lows = ap blocks_of (sym grown.low) ∙ blocks_is (take id after.members)

  highs : blocks_of (drop (id + 1) before.members) ≡ blocks_in high
  highs = ap blocks_of (sym grown.high) ∙ blocks_is (drop (id + 1) after.members)

  owns : blocks_of (take 1 (drop id before.members)) ≡ blocks_in (take old mine)
  owns = blocks_is (take 1 (drop id before.members)) ∙ ap blocks_in grown.own

  abbrev new : List Block → List Block
  new o = drop (length o) (blocks_of (take 1 (drop id after.members)))

  splits : blocks_in mine ≡ blocks_in (take old mine) ++ blocks_in (drop old mine)
  splits =
      ap blocks_in (sym (take-append-drop old mine))
      ∙ filter_map-append noted_block (take old mine) (drop old mine)

  news : new (blocks_in (take old mine)) ≡ blocks_in (drop old mine)
  news =
      ap (λ (l : List Block). drop (length (blocks_in (take old mine))) l)
      (blocks_is (take 1 (drop id after.members)) ∙ splits)
      ∙ drop-append_seam (blocks_in (take old mine)) (blocks_in (drop old mine))

  clashes : clash_at r before after id
      ≡ first_clash r (blocks_in low) (blocks_in (take old mine)) (blocks_in high)
      (blocks_in (drop old mine))
  clashes =
      ap
      (λ (l : List Block). first_clash r l (blocks_of (take 1 (drop id before.members)))
      (blocks_of (drop (id + 1) before.members))
      (new (blocks_of (take 1 (drop id before.members)))))
      lows
      ∙ ap
      (λ (l : List Block). first_clash r (blocks_in low) l
      (blocks_of (drop (id + 1) before.members)) (new l))
      owns
      ∙ ap
      (λ (l : List Block). first_clash r (blocks_in low) (blocks_in (take old mine)) l
      (new (blocks_in (take old mine))))
      highs
      ∙ ap
      (λ (l : List Block). first_clash r (blocks_in low) (blocks_in (take old mine))
      (blocks_in high) l)
      news

  notes_before : notes_in before.members ≡ low ++ (take old mine ++ high)
  notes_before =
      parts before.members id
      ∙ ap
      (λ (l : List (Option Member)). notes_in l
      ++ (notes_in (take 1 (drop id before.members)) ++ notes_in (drop (id + 1) before.members)))
      (sym grown.low)
      ∙ ap (λ (l : List Note). low ++ (l ++ notes_in (drop (id + 1) before.members))) grown.own
      ∙ ap (λ (l : List (Option Member)). low ++ (take old mine ++ notes_in l)) (sym grown.high)

  blocks_before : blocks_of before.members
      ≡ blocks_in low ++ blocks_in (take old mine) ++ blocks_in high
  blocks_before =
      blocks_is before.members ∙ ap blocks_in notes_before ∙ three low (take old mine) high

  blocks_after : blocks_of after.members ≡ blocks_in low ++ blocks_in mine ++ blocks_in high
  blocks_after =
      blocks_is after.members ∙ ap blocks_in (parts after.members id) ∙ three low mine high

  whole : AllByRecursion (IsNamed r) (low ++ (mine ++ high))
  whole = subst (AllByRecursion (IsNamed r)) (parts after.members id) named

  of_mine : IsOwn r before after id old known mine
  of_mine = record {
    low = blocks_in low;
    high = blocks_in high;
    named = (all_split (IsNamed r) mine high (all_split (IsNamed r) low (mine ++ high) whole).1).0;
    knows = subst (λ (l : List Block). AreKnown r known (genesis r ∷ l)) blocks_before knows;
    clash = sym clashes;
    later =
        λ new h. subst (λ (l : List Block). AreKnown r new (genesis r ∷ l)) (sym blocks_after) h;
  }

  pub is_own : (ps : List (Place MemoryNode)) (d : Place MemoryNode) (own : List Note)
      → SitAs ps after.members → id < length ps → own ≡ notes_at (get_or ps id d)
      → IsOwn r before after id old known own
  is_own ps d own members lt is =
      subst (IsOwn r before after id old known) (own_at ps after.members id d members lt ∙ sym is)
      of_mine
