-- The chain down from a block, link by link.
use Rattle.std.proofs.Common.{◌≡◌, ◌==◌, ℕ, zero, suc, ◌+◌, ◌-◌, Bool, true, false, cond, List, [], ◌∷◌, ◌++◌, map, reverse, Option, Some, None, refl, sym, ap, ◌∙◌, arith, append_assoc, eqb-true}
use Rattle.std.specs.Prelude.{flat_map, nat_lt}
use Rattle.std.specs.Option.{option_map_or}
use Rattle.std.proofs.lemmas.List.{reverse-append}
use Rattle.cw_base.specs.declared.hash.Digest32.{Digest32}
use Rattle.std.proofs.lemmas.Bool.{ltb-true, ltb-false, le-ltb, lt-ltb}
use Rattle.std.proofs.lemmas.Grind.{flat_map-append}
use Rattle.cw_rules.specs.Report.{Entry, highest}
use Rattle.cw_types.specs.declared.event.Handed.{Handed}
use Rattle.hail_world.specs.Runs.{higher}
use Rattle.hail_world.proofs.Standing.{higher_on}
use Rattle.cw_types.specs.Block.{Block}
use Rattle.cw_types.specs.Commit as first
use Rattle.cw_types.specs.Encoding.{block_bytes}
use Rattle.cw_types.specs.declared.block.Context.{Context}
use Rattle.cw_types.specs.declared.commitment.Commitment.{Commitment}
use Rattle.cw_types.specs.declared.note.Note.{Note}
use Rattle.cw_types.specs.Same.{same_commitment}
use Rattle.cw_rules.specs.Accepted.{first_some}
use Rattle.cw_rules.specs.Chains.{all_notes, block_under, links_to}
use Rattle.cw_rules.specs.Held.{noted_block_of}
use Rattle.cw_rules.specs.Rules.{Rules, genesis, genesis_commitment}
use Rattle.cw_rules.specs.Step.{Member, member_notes}
use Rattle.cw_rules.specs.World.{World}
use Rattle.hail_world.specs.declared.place.Place.{Place}
use Rattle.hail_world.specs.Places.{SitAs, notes_at}
use Rattle.hail_world.specs.Runs.{GoesBy, first_named, notes_of_place, under}
use Rattle.hail_world.specs.MemoryNodes.{MemoryNode}
use Rattle.hail_world.proofs.Clashes.{same_notes}

-- genesis by the rules is the first block
pub first_is : (hash : List ℕ → Digest32) (r : Rules) → GoesBy hash r
    → genesis r ≡ first.genesis hash
first_is hash r by = ap first.genesis by.hashes

abbrev named_first : (List ℕ → Digest32) → (Block → List ℕ) → (Context → List ℕ) → Commitment
named_first h b c =
    record {
      block = h (b (first.genesis h));
      root = h (b (first.genesis h));
      context = h (c first.first_context);
      config = first.uncut;
    }

same_name : (hash : List ℕ → Digest32) (r : Rules) → GoesBy hash r
    → genesis_commitment r ≡ first.genesis_commitment hash
same_name hash r by =
    ap (λ (h : List ℕ → Digest32). named_first h r.block_bytes r.context_bytes) by.hashes
    ∙ ap (λ (b : Block → List ℕ). named_first hash b r.context_bytes) by.blocks
    ∙ ap (λ (c : Context → List ℕ). named_first hash block_bytes c) by.contexts

all_of : (os : List (Option Member))
    → flat_map (λ o. option_map_or member_notes o []) os
    ≡ flat_map (λ notes. notes) (map notes_of_place os)
all_of [] = refl
all_of (None ∷ os) = all_of os
all_of (Some m ∷ os) = ap (λ (l : List Note). member_notes m ++ l) (all_of os)

pub notes_are : (ps : List (Place MemoryNode)) (w : World) → SitAs ps w.members
    → flat_map (λ notes. notes) (map notes_at ps) ≡ all_notes w
notes_are ps w h =
    ap (λ (l : List (List Note)). flat_map (λ notes. notes) l) (same_notes ps w.members h)
    ∙ sym (all_of w.members)

abbrev if_first : Bool → Block → Option Block → Option Block
if_first b a o = cond b (Some a) o

-- the block under a commitment, by what the notes at the places give
pub under_is : (hash : List ℕ → Digest32) (r : Rules) (w : World) (ps : List (Place MemoryNode))
    (c : Commitment)
    → GoesBy hash r → SitAs ps w.members
    → first_named hash (map notes_at ps) c ≡ block_under r w c
under_is hash r w ps c by h =
    ap
    (λ (d : Commitment). if_first (same_commitment c d) (first.genesis hash)
    (first_some (noted_block_of c) (flat_map (λ notes. notes) (map notes_at ps))))
    (sym (same_name hash r by))
    ∙ ap
    (λ (b : Block). if_first (same_commitment c (genesis_commitment r)) b
    (first_some (noted_block_of c) (flat_map (λ notes. notes) (map notes_at ps))))
    (sym (first_is hash r by))
    ∙ ap
    (λ (l : List Note). if_first (same_commitment c (genesis_commitment r)) (genesis r)
    (first_some (noted_block_of c) l))
    (notes_are ps w h)

-- where some are left
pub under_low : (r : Rules) (w : World) (left : ℕ) (b : Block) → (left ≡ 0 → ⊥)
    → block_under r w b.context.parent ≡ under r w left b
under_low r w left b some = go (left == 0) refl
  where
    go : (q : Bool) → (left == 0) ≡ q
        → block_under r w b.context.parent ≡ cond q None (block_under r w b.context.parent)
    go true e = absurd (some (eqb-true left 0 e))
    go false e = refl

-- one link more
pub link_more : (r : Rules) (w : World) (left less : ℕ) (b : Block) (next : Option Block)
    (down : List Block)
    → less ≡ left - 1 → next ≡ under r w left b
    → option_map_or (links_to r w less) next [] ++ reverse (down ++ b ∷ [])
    ≡ links_to r w left b ++ reverse down
link_more r w zero less b next down l e = rw e (reverse-append down (b ∷ []))
link_more r w (suc n) less b next down l e =
    let one : less ≡ n = omega arith in
    let at : next ≡ block_under r w b.context.parent =
    e ∙ sym (under_low r w (suc n) b (λ z. omega arith)) in
    let above : List Block = option_map_or (links_to r w n) (block_under r w b.context.parent) [] in
    rw (at, one)
    (ap (λ (x : List Block). above ++ x) (reverse-append down (b ∷ []))
    ∙ sym (append_assoc above (b ∷ []) (reverse down)))

pub link_on : (r : Rules) (w : World) (left less : ℕ) (b : Block) (now next : Option Block)
    (down more : List Block) (whole : List Block)
    → less ≡ left - 1 → now ≡ Some b → next ≡ under r w left b → more ≡ down ++ b ∷ []
    → option_map_or (links_to r w left) now [] ++ reverse down ≡ whole
    → option_map_or (links_to r w less) next [] ++ reverse more ≡ whole
link_on r w left less b now next down more whole l is e adds inv =
    ap (λ (x : List Block). option_map_or (links_to r w less) next [] ++ reverse x) adds
    ∙ link_more r w left less b next down l e
    ∙ ap (λ (o : Option Block). option_map_or (links_to r w left) o [] ++ reverse down) (sym is)
    ∙ inv

-- ---- the highest block

abbrev pick : Handed → Handed → Handed
pick b y = cond (nat_lt b.height y.height) y b

pick_later : (b y z : Handed) → pick (pick b y) z ≡ pick b (pick y z)
pick_later b y z = go (nat_lt b.height y.height) refl (nat_lt y.height z.height) refl
  where
    go : (p : Bool) → nat_lt b.height y.height ≡ p → (q : Bool) → nat_lt y.height z.height ≡ q
        → pick (cond p y b) z ≡ pick b (cond q z y)
    go true e true f =
        let up : nat_lt b.height z.height ≡ true =
        lt-ltb b.height z.height
        (omega (arith, ltb-true b.height y.height e, ltb-true y.height z.height f)) in
        ap (λ (t : Bool). cond t z y) f ∙ sym (ap (λ (t : Bool). cond t z b) up)
    go true e false f = ap (λ (t : Bool). cond t z y) f ∙ sym (ap (λ (t : Bool). cond t y b) e)
    go false e true f = refl
    go false e false f =
        let down : nat_lt b.height z.height ≡ false =
        le-ltb b.height z.height
        (omega (arith, ltb-false b.height y.height e, ltb-false y.height z.height f)) in
        ap (λ (t : Bool). cond t z b) down ∙ sym (ap (λ (t : Bool). cond t y b) e)

abbrev with_top : Handed → Option Handed → Handed
with_top b o = option_map_or (λ y. pick b y) o b

higher_than : (b : Handed) (xs : List Handed) → higher (Some b) xs ≡ Some (with_top b (highest xs))
higher_than b [] = refl
higher_than b (y ∷ ys) =
    higher_than (pick b y) ys
    ∙ ap (λ (x : Handed). let o : Option Handed = Some x in o) (go (highest ys))
  where
    go : (o : Option Handed) → with_top (pick b y) o ≡ pick b (with_top y o)
    go None = refl
    go (Some z) = pick_later b y z

pub higher_is : (xs : List Handed) → higher None xs ≡ highest xs
higher_is [] = refl
higher_is (x ∷ xs) = higher_than x xs

pub top_is : (opening steps : List Entry) (one two : Option Handed)
    → one ≡ higher None (flat_map (λ e. e.handed) opening)
    → two ≡ higher one (flat_map (λ e. e.handed) steps)
    → two ≡ highest (flat_map (λ e. e.handed) (opening ++ steps))
top_is opening steps one two a b =
    let first_ones : List Handed = flat_map (λ e. e.handed) opening in
    let later_ones : List Handed = flat_map (λ e. e.handed) steps in
    b ∙ ap (λ (o : Option Handed). higher o later_ones) a ∙ higher_on None first_ones later_ones
    ∙ ap (λ (l : List Handed). higher None l)
    (sym (flat_map-append (λ (e : Entry). e.handed) opening steps))
    ∙ higher_is (flat_map (λ e. e.handed) (opening ++ steps))
