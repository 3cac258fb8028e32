-- A run that ends without a clash has one block for each digest.
use Rattle.std.proofs.Common.{◌≡◌, ℕ, zero, suc, ◌+◌, Bool, true, false, not, List, [], ◌∷◌, ◌++◌, Option, Some, None, slice_get, take, drop, find, refl, sym, ◌∙◌, ap, subst, inl, inr, ◌⊎◌, option_map, length, flat_map, filter_map, append_assoc, append-nil}
use Rattle.std.specs.List.{cons_option}
use Rattle.std.specs.Option.{option_or, option_map_or}
use Rattle.std.proofs.lemmas.Bool.{and_from, false≢true, cases_Bool, cond-true, cond-false}
use Rattle.std.proofs.lemmas.List.Elements.{filter_map-append}
use Rattle.cw_types.specs.declared.commitment.Commitment.{Commitment}
use Rattle.cw_types.specs.declared.note.Note.{Note}
use Rattle.cw_types.specs.Block.{Block}
use Rattle.cw_types.specs.Same.{same_block, same_digest}
use Rattle.cw_rules.specs.Chains.{blocks_of, clash_at, collides, first_clash, noted_block}
use Rattle.cw_rules.specs.Reached.{In, IsKnown}
use Rattle.cw_rules.specs.Rules.{Rules, digest, genesis}
use Rattle.cw_rules.specs.Step.{Member, Stepped, member_notes}
use Rattle.cw_rules.specs.World.{World, with_done}
use Rattle.cw_types.proofs.Same.{same_digest_self, same_block-true}
use Rattle.cw_rules.proofs.Lists.{in_left, in_right, in_cases}
use Rattle.cw_rules.proofs.Blocks.{notes_in, Noter, noter, NoClash}
use Rattle.cw_rules.proofs.Worlds.{get-set, get-set_same}
use Rattle.std.proofs.lemmas.Option.{same_Some}
use Rattle.std.proofs.Common.{add-one}

-- two of the blocks of one digest are one
abbrev pub Clear : Rules → List Block → Type 0
Clear r xs = (a b : Block) → In a xs → In b xs → digest r a ≡ digest r b → a ≡ b

find_none : (p : Block → Bool) (xs : List Block) → find p xs ≡ None → (a : Block) → In a xs
    → p a ≡ false
find_none p [] h a i = absurd i
find_none p (x ∷ xs) h a i = go (cases_Bool (p x)) i (λ e j. find_none p xs e a j)
  where
    go : (p x ≡ true) ⊎ (p x ≡ false) → In a (x ∷ xs) → (find p xs ≡ None → In a xs → p a ≡ false)
        → p a ≡ false
    go (inl t) i later = cc (cond-true (p x) (Some x) (find p xs) t)
    go (inr f) (inl e) later = subst (λ y. p y ≡ false) (sym e) f
    go (inr f) (inr j) later = later (sym (cond-false (p x) (Some x) (find p xs) f) ∙ h) j

-- a block that collides with none of the others is one with each of its digest
no_collision : (r : Rules) (b a : Block) → collides r b a ≡ false → digest r a ≡ digest r b → a ≡ b
no_collision r b a h e = go (cases_Bool (same_block a b))
  where
    d : same_digest (digest r a) (digest r b) ≡ true
    d = subst (λ x. same_digest (digest r a) x ≡ true) e (same_digest_self (digest r a))

    go : (same_block a b ≡ true) ⊎ (same_block a b ≡ false) → a ≡ b
    go (inl t) = same_block-true a b t
    go (inr f) =
        absurd
        (false≢true
        (sym h
        ∙ and_from (same_digest (digest r a) (digest r b)) (not (same_block a b)) d
        (ap not f)))

-- the blocks with one more behind own
clear_more : (r : Rules) (low own high : List Block) (b : Block) → Clear r (low ++ own ++ high)
    → find (collides r b) (low ++ own ++ high) ≡ None → Clear r (low ++ (own ++ b ∷ []) ++ high)
clear_more r low own high b c f x y i j e = go (place x i) (place y j)
  where
    place : (z : Block) → In z (low ++ (own ++ b ∷ []) ++ high)
        → (In z (low ++ own ++ high)) ⊎ (z ≡ b)
    place z i = one (in_cases z (low ++ (own ++ b ∷ [])) high i)
      where
        three : In z own ⊎ In z (b ∷ []) → (In z (low ++ own ++ high)) ⊎ (z ≡ b)
        three (inl k) = inl (in_left z (low ++ own) high (in_right z low own k))
        three (inr (inl k)) = inr k
        three (inr (inr k)) = absurd k

        two : In z low ⊎ In z (own ++ b ∷ []) → (In z (low ++ own ++ high)) ⊎ (z ≡ b)
        two (inl k) = inl (in_left z (low ++ own) high (in_left z low own k))
        two (inr k) = three (in_cases z own (b ∷ []) k)

        one : In z (low ++ (own ++ b ∷ [])) ⊎ In z high → (In z (low ++ own ++ high)) ⊎ (z ≡ b)
        one (inl k) = two (in_cases z low (own ++ b ∷ []) k)
        one (inr k) = inl (in_right z (low ++ own) high k)

    go : (In x (low ++ own ++ high)) ⊎ (x ≡ b) → (In y (low ++ own ++ high)) ⊎ (y ≡ b) → x ≡ y
    go (inl k) (inl n) = c x y k n e
    go (inl k) (inr n) =
        no_collision r b x (find_none (collides r b) (low ++ own ++ high) f x k)
        (e ∙ ap (digest r) n)
        ∙ sym n
    go (inr k) (inl n) =
        k
        ∙ sym
        (no_collision r b y (find_none (collides r b) (low ++ own ++ high) f y n)
        (sym e ∙ ap (digest r) k))
    go (inr k) (inr n) = k ∙ sym n

or_none : {Y : Type 0} (a b : Option Y) → option_or a b ≡ None → (a ≡ None) × (b ≡ None)
or_none None b h = (refl, h)
or_none (Some x) b h = cc

map_none : {X Y : Type 0} (f : X → Y) (o : Option X) → option_map f o ≡ None → o ≡ None
map_none f None h = refl
map_none f (Some x) h = cc

-- where no new block clashes, all of them are clear
clear_all : (r : Rules) (low own high news : List Block) → Clear r (genesis r ∷ low ++ own ++ high)
    → first_clash r low own high news ≡ None → Clear r (genesis r ∷ low ++ (own ++ news) ++ high)
clear_all r low own high [] c h =
    subst (λ xs. Clear r (genesis r ∷ low ++ xs ++ high)) (sym (append-nil own)) c
clear_all r low own high (b ∷ bs) c h =
    let (p, q) =
    or_none (option_map (λ a. (a, b)) (find (collides r b) (genesis r ∷ low ++ own ++ high)))
    (first_clash r low (own ++ b ∷ []) high bs) h in
    let m =
    clear_more r (genesis r ∷ low) own high b c
    (map_none (λ a. (a, b)) (find (collides r b) (genesis r ∷ low ++ own ++ high)) p) in
    subst (λ xs. Clear r (genesis r ∷ low ++ xs ++ high)) (append_assoc own (b ∷ []) bs)
    (clear_all r low (own ++ b ∷ []) high bs m q)

-- ---- blocks by member

abbrev flat : List (Option Member) → List Note
flat ms = flat_map (λ o. option_map_or member_notes o []) ms

blocks_in : (c : Commitment) (b : Block) (notes : List Note) → In (Note.Block c b) notes
    → In b (filter_map noted_block notes)
blocks_in c b [] h = absurd h
blocks_in c b (n ∷ notes) (inl e) =
    subst (λ k. In b (cons_option (noted_block k) (filter_map noted_block notes))) e (inl refl)
blocks_in c b (n ∷ notes) (inr h) = go (noted_block n) (blocks_in c b notes h)
  where
    go : (o : Option Block) → In b (filter_map noted_block notes)
        → In b (cons_option o (filter_map noted_block notes))
    go None i = i
    go (Some x) i = inr i

pub block_from : (b : Block) (notes : List Note) → In b (filter_map noted_block notes)
    → (c : Commitment) × In (Note.Block c b) notes
block_from b [] h = absurd h
block_from b (Note.Block c x ∷ notes) (inl e) = (c, inl (ap (Note.Block c) e))
block_from b (Note.Block c x ∷ notes) (inr h) = let (d, i) = block_from b notes h in (d, inr i)
block_from b (Note.Verified e v c ∷ notes) h = let (d, i) = block_from b notes h in (d, inr i)
block_from b (Note.Epoch e c ∷ notes) h = let (d, i) = block_from b notes h in (d, inr i)
block_from b (Note.Certified p ∷ notes) h = let (d, i) = block_from b notes h in (d, inr i)
block_from b (Note.Vote v ∷ notes) h = let (d, i) = block_from b notes h in (d, inr i)
block_from b (Note.Cert s ∷ notes) h = let (d, i) = block_from b notes h in (d, inr i)
block_from b (Note.Ack x ∷ notes) h = let (d, i) = block_from b notes h in (d, inr i)
block_from b (Note.Floor x ∷ notes) h = let (d, i) = block_from b notes h in (d, inr i)
block_from b (Note.Prune x ∷ notes) h = let (d, i) = block_from b notes h in (d, inr i)

pub blocks_from : (b : Block) (ms : List (Option Member)) → In b (blocks_of ms)
    → (c : Commitment) × In (Note.Block c b) (flat ms)
blocks_from b [] h = absurd h
blocks_from b (None ∷ ms) h = blocks_from b ms h
blocks_from b (Some m ∷ ms) h =
    go (in_cases b (filter_map noted_block (member_notes m)) (blocks_of ms) h) (blocks_from b ms)
  where
    go : In b (filter_map noted_block (member_notes m)) ⊎ In b (blocks_of ms)
        → (In b (blocks_of ms) → (c : Commitment) × In (Note.Block c b) (flat ms))
        → (c : Commitment) × In (Note.Block c b) (member_notes m ++ flat ms)
    go (inl i) later =
        let (c, k) = block_from b (member_notes m) i in
        (c, in_left (Note.Block c b) (member_notes m) (flat ms) k)
    go (inr i) later =
        let (c, k) = later i in (c, in_right (Note.Block c b) (member_notes m) (flat ms) k)

pub flat_take : (n : Note) (i : ℕ) (ms : List (Option Member)) → In n (flat (take i ms))
    → In n (flat ms)
flat_take n zero ms h = absurd h
flat_take n (suc i) [] h = h
flat_take n (suc i) (o ∷ ms) h =
    go (in_cases n (option_map_or member_notes o []) (flat (take i ms)) h) (flat_take n i ms)
  where
    go : In n (option_map_or member_notes o []) ⊎ In n (flat (take i ms))
        → (In n (flat (take i ms)) → In n (flat ms))
        → In n (option_map_or member_notes o [] ++ flat ms)
    go (inl k) later = in_left n (option_map_or member_notes o []) (flat ms) k
    go (inr k) later = in_right n (option_map_or member_notes o []) (flat ms) (later k)

pub flat_drop : (n : Note) (i : ℕ) (ms : List (Option Member)) → In n (flat (drop i ms))
    → In n (flat ms)
flat_drop n zero ms h = h
flat_drop n (suc i) [] h = h
flat_drop n (suc i) (o ∷ ms) h =
    in_right n (option_map_or member_notes o []) (flat ms) (flat_drop n i ms h)

-- the blocks of another member lie below or above the place
elsewhere : (b : Block) (ms : List (Option Member)) (i j : ℕ) (k : Member)
    → slice_get ms j ≡ Some (Some k) → In b (filter_map noted_block (member_notes k)) → (i ≡ j → ⊥)
    → In b (blocks_of (take i ms)) ⊎ In b (blocks_of (drop (suc i) ms))
elsewhere b [] i j k at h ne = cc
elsewhere b (o ∷ ms) zero zero k at h ne = absurd (ne refl)
elsewhere b (o ∷ ms) zero (suc j) k at h ne = inr (there b ms j k at h)
  where
    there : (b : Block) (ms : List (Option Member)) (j : ℕ) (k : Member)
        → slice_get ms j ≡ Some (Some k) → In b (filter_map noted_block (member_notes k))
        → In b (blocks_of ms)
    there b [] j k at h = cc
    there b (None ∷ ms) zero k at h = cc
    there b (Some m ∷ ms) zero k at h =
        let e : m ≡ k = cc in
        in_left b (filter_map noted_block (member_notes m)) (blocks_of ms)
        (subst (λ x. In b (filter_map noted_block (member_notes x))) (sym e) h)
    there b (None ∷ ms) (suc j) k at h = there b ms j k at h
    there b (Some m ∷ ms) (suc j) k at h =
        in_right b (filter_map noted_block (member_notes m)) (blocks_of ms) (there b ms j k at h)
elsewhere b (None ∷ ms) (suc i) zero k at h ne = cc
elsewhere b (Some m ∷ ms) (suc i) zero k at h ne =
    let e : m ≡ k = cc in
    inl
    (in_left b (filter_map noted_block (member_notes m)) (blocks_of (take i ms))
    (subst (λ x. In b (filter_map noted_block (member_notes x))) (sym e) h))
elsewhere b (None ∷ ms) (suc i) (suc j) k at h ne = elsewhere b ms i j k at h (λ e. ne (ap suc e))
elsewhere b (Some m ∷ ms) (suc i) (suc j) k at h ne =
    go (elsewhere b ms i j k at h (λ e. ne (ap suc e)))
  where
    go : In b (blocks_of (take i ms)) ⊎ In b (blocks_of (drop (suc i) ms))
        → In b (filter_map noted_block (member_notes m) ++ blocks_of (take i ms))
        ⊎ In b (blocks_of (drop (suc i) ms))
    go (inl x) =
        inl (in_right b (filter_map noted_block (member_notes m)) (blocks_of (take i ms)) x)
    go (inr x) = inr x

-- the blocks at a place
pub blocks_at : (ms : List (Option Member)) (i : ℕ) (k : Member) → slice_get ms i ≡ Some (Some k)
    → blocks_of (take 1 (drop i ms)) ≡ filter_map noted_block (member_notes k)
blocks_at [] i k at = cc
blocks_at (None ∷ ms) zero k at = cc
blocks_at (Some m ∷ ms) zero k at =
    let e : m ≡ k = cc in
    append-nil (filter_map noted_block (member_notes m))
    ∙ ap (λ x. filter_map noted_block (member_notes x)) e
blocks_at (o ∷ ms) (suc i) k at = blocks_at ms i k at

pub drop_front : (xs ys : List Block) → drop (length xs) (xs ++ ys) ≡ ys
drop_front [] ys = refl
drop_front (x ∷ xs) ys = drop_front xs ys

-- a turn without a clash keeps the world clear
pub clear_done : (r : Rules) (w : World) (i : ℕ) (m : Member) (done : Stepped) (more : List Note)
    → NoClash r w → slice_get w.members i ≡ Some (Some m)
    → member_notes done.member ≡ member_notes m ++ more → clash_at r w (with_done w i done) i ≡ None
    → NoClash r (with_done w i done)
clear_done r w i m done more clear at joined none a b ka kb e = all a b (place a ka) (place b kb) e
  where
    ms : List (Option Member)
    ms = w.members

    low : List Block
    low = blocks_of (take i ms)

    own : List Block
    own = filter_map noted_block (member_notes m)

    news : List Block
    news = filter_map noted_block more

    high : List Block
    high = blocks_of (drop (i + 1) ms)

    after_at : slice_get (with_done w i done).members i ≡ Some (Some done.member)
    after_at = get-set_same ms i (Some done.member) (Some m) at

    base : Clear r (genesis r ∷ low ++ own ++ high)
    base x y ix iy = clear x y (known x ix) (known y iy)
      where
        by_part : (z : Block) → (In z (low ++ own)) ⊎ In z high → IsKnown r w z
        by_part z (inr k) =
            let (c, h) = blocks_from z (drop (i + 1) ms) k in
            inr (c, flat_drop (Note.Block c z) (i + 1) ms h)
        by_part z (inl k) = by_own (in_cases z low own k)
          where
            by_own : In z low ⊎ In z own → IsKnown r w z
            by_own (inl h) =
                let (c, g) = blocks_from z (take i ms) h in
                inr (c, flat_take (Note.Block c z) i ms g)
            by_own (inr h) =
                let (c, g) = block_from z (member_notes m) h in
                inr (c, notes_in (Note.Block c z) ms i m at g)

        known : (z : Block) → In z (genesis r ∷ low ++ own ++ high) → IsKnown r w z
        known z h = by_head (in_cases z (genesis r ∷ low ++ own) high h)
          where
            by_head : In z (genesis r ∷ low ++ own) ⊎ In z high → IsKnown r w z
            by_head (inl (inl g)) = inl g
            by_head (inl (inr k)) = by_part z (inl k)
            by_head (inr k) = by_part z (inr k)

    quiet : first_clash r low own high news ≡ None
    quiet =
        let e0 = blocks_at ms i m at in
        let e1 =
        blocks_at (with_done w i done).members i done.member after_at
        ∙ (ap (filter_map noted_block) joined
        ∙ filter_map-append noted_block (member_notes m) more) in
        let e2 : drop (length (blocks_of (take 1 (drop i ms))))
        (blocks_of (take 1 (drop i (with_done w i done).members)))
        ≡ news =
        ap (λ xs. drop (length xs) (blocks_of (take 1 (drop i (with_done w i done).members))))
        e0
        ∙ (ap (drop (length own)) e1 ∙ drop_front own news) in
        ap (λ xs. first_clash r low xs high news) (sym e0)
        ∙ (ap (first_clash r low (blocks_of (take 1 (drop i ms))) high) (sym e2) ∙ none)

    all : Clear r (genesis r ∷ low ++ (own ++ news) ++ high)
    all = clear_all r low own high news base quiet

    place : (z : Block) → IsKnown r (with_done w i done) z
        → In z (genesis r ∷ low ++ (own ++ news) ++ high)
    place z (inl g) = inl g
    place z (inr (c, h)) = by_noter (noter (Note.Block c z) (with_done w i done).members h)
      where
        head : In z (low ++ (own ++ news) ++ high) → In z (genesis r ∷ low ++ (own ++ news) ++ high)
        head k = inr k

        at_own : In z (own ++ news) → In z (low ++ (own ++ news) ++ high)
        at_own k = in_left z (low ++ (own ++ news)) high (in_right z low (own ++ news) k)

        by_else : (In z low) ⊎ (In z high) → In z (low ++ (own ++ news) ++ high)
        by_else (inl k) = in_left z (low ++ (own ++ news)) high (in_left z low (own ++ news) k)
        by_else (inr k) = in_right z (low ++ (own ++ news)) high k

        by_noter : Noter (Note.Block c z) (with_done w i done).members
            → In z (genesis r ∷ low ++ (own ++ news) ++ high)
        by_noter n = by_place (get-set ms i n.place (Some done.member) (Some n.member) n.at)
          where
            by_place : ((i ≡ n.place) × (Some done.member ≡ Some n.member))
                ⊎ ((i ≡ n.place → ⊥) × (slice_get ms n.place ≡ Some (Some n.member)))
                → In z (genesis r ∷ low ++ (own ++ news) ++ high)
            by_place (inl p) =
                let s : n.member ≡ done.member = sym (same_Some done.member n.member p.1) in
                let k : In z (filter_map noted_block (member_notes n.member)) =
                blocks_in c z (member_notes n.member) n.noted in
                let t : filter_map noted_block (member_notes n.member) ≡ own ++ news =
                ap (λ x. filter_map noted_block (member_notes x)) s
                ∙ (ap (filter_map noted_block) joined
                ∙ filter_map-append noted_block (member_notes m) more) in
                head (at_own (subst (In z) t k))
            by_place (inr p) =
                head
                (by_else
                (subst (λ j. In z (blocks_of (take i ms)) ⊎ In z (blocks_of (drop j ms)))
                (sym (add-one i))
                (elsewhere z ms i n.place n.member p.1
                (blocks_in c z (member_notes n.member) n.noted) p.0)))
