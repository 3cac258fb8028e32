-- The parts that came, as arrivals and kept chunks.
use Rattle.std.proofs.Common.{◌≡◌, suc, ◌+◌, ◌||◌, if◌then◌else◌, List, [], ◌∷◌, ◌++◌, length, map, Option, Some, None, refl, sym, ◌∙◌, ap, arith, append-nil, zero-add, add_assoc}
use Rattle.std.specs.List.{list_any}
use Rattle.std.specs.Option.{option_or}
use Rattle.cw_types.specs.Block.{Block}
use Rattle.cw_types.specs.Same.{same_block, same_commitment}
use Rattle.cw_types.specs.declared.commitment.Commitment.{Commitment}
use Rattle.cw_rules.specs.Accepted.{Part, Row, Whole, first_some, same_part}
use Rattle.cw_rules.specs.Held.{whole_of}
use Rattle.cw_rules.specs.Owed.{part_commitment}
use Rattle.cw_rules.specs.Rules.{Chunk, Rules, commit}
use Rattle.shards.specs.Kept.{part_of, with_chunk}
use Rattle.shards.specs.declared.pieces.KeptChunk.{KeptChunk}
use Rattle.node.specs.Holding.{count_rows, is_whole, parts_of, whole_under}
use Rattle.node.specs.declared.arrival.Arrival.{Arrival}

-- as many arrivals and chunks behind
pub parts_behind : (ars : List Arrival) (kept : List KeptChunk) (tail : List Arrival)
    (more : List KeptChunk)
    → count_rows ars ≡ length kept
    → parts_of (ars ++ tail) (kept ++ more) ≡ parts_of ars kept ++ parts_of tail more
parts_behind [] [] tail more h = refl
parts_behind [] (k ∷ ks) tail more h = cc
parts_behind (a ∷ ars) kept tail more h =
    go a.block refl kept h (λ ks n. parts_behind ars ks tail more n)
  where
    go : (o : Option Block) → a.block ≡ o → (ks : List KeptChunk) → count_rows (a ∷ ars) ≡ length ks
        → ((ls : List KeptChunk) → count_rows ars ≡ length ls
        → parts_of (ars ++ tail) (ls ++ more) ≡ parts_of ars ls ++ parts_of tail more)
        → parts_of ((a ∷ ars) ++ tail) (ks ++ more) ≡ parts_of (a ∷ ars) ks ++ parts_of tail more
    go (Some b) e ks n rest = rw e (ap (λ (xs : List Part). Whole b ∷ xs) (rest ks (rw e at n)))
    go None e [] n rest = let no : suc (count_rows ars) ≡ 0 = rw e at n in cc
    go None e (k ∷ ks) n rest =
        let m : suc (count_rows ars) ≡ suc (length ks) = rw e at n in
        let less : count_rows ars ≡ length ks = cc in
        rw e (ap (λ (xs : List Part). part_of k ∷ xs) (rest ks less))

-- a block came whole where an arrival is that block
pub whole_arrived : (b : Block) (ars : List Arrival) (kept : List KeptChunk)
    → count_rows ars ≡ length kept
    → list_any (same_part (Whole b)) (parts_of ars kept) ≡ list_any (is_whole b) ars
whole_arrived b [] kept h = refl
whole_arrived b (a ∷ ars) kept h = go a.block refl kept h (λ ks n. whole_arrived b ars ks n)
  where
    go : (o : Option Block) → a.block ≡ o → (ks : List KeptChunk) → count_rows (a ∷ ars) ≡ length ks
        → ((ls : List KeptChunk) → count_rows ars ≡ length ls
        → list_any (same_part (Whole b)) (parts_of ars ls) ≡ list_any (is_whole b) ars)
        → list_any (same_part (Whole b)) (parts_of (a ∷ ars) ks) ≡ list_any (is_whole b) (a ∷ ars)
    go (Some d) e ks n rest = rw e (ap (λ t. same_block b d || t) (rest ks (rw e at n)))
    go None e [] n rest = let no : suc (count_rows ars) ≡ 0 = rw e at n in cc
    go None e (k ∷ ks) n rest =
        let m : suc (count_rows ars) ≡ suc (length ks) = rw e at n in
        let less : count_rows ars ≡ length ks = cc in
        rw e (rest ks less)

-- ---- one more

count_one : (a : Arrival) (more : List Arrival)
    → count_rows (a ∷ more) ≡ count_rows (a ∷ []) + count_rows more
count_one a more = go a.block refl
  where
    go : (o : Option Block) → a.block ≡ o
        → count_rows (a ∷ more) ≡ count_rows (a ∷ []) + count_rows more
    go (Some b) e = rw e (sym (zero-add (count_rows more)))
    go None e = rw e (omega arith)

pub count_behind : (ars more : List Arrival)
    → count_rows (ars ++ more) ≡ count_rows ars + count_rows more
count_behind [] more = sym (zero-add (count_rows more))
count_behind (a ∷ ars) more =
    count_one a (ars ++ more)
    ∙ (ap (λ n. count_rows (a ∷ []) + n) (count_behind ars more)
    ∙ (sym (add_assoc (count_rows (a ∷ [])) (count_rows ars) (count_rows more))
    ∙ ap (λ n. n + count_rows more) (sym (count_one a ars))))

pub map_behind : {X Y : Type 0} (f : X → Y) (xs ys : List X)
    → map f (xs ++ ys) ≡ map f xs ++ map f ys
map_behind f [] ys = refl
map_behind f (x ∷ xs) ys = ap (λ l. f x ∷ l) (map_behind f xs ys)

-- one more block that came whole
pub parts_whole : (ars : List Arrival) (kept : List KeptChunk) (c : Commitment) (b : Block)
    → count_rows ars ≡ length kept
    → parts_of (ars ++ record { commitment = c; block = Some b } ∷ []) kept
    ≡ parts_of ars kept ++ Whole b ∷ []
parts_whole ars kept c b h =
    ap (parts_of (ars ++ record { commitment = c; block = Some b } ∷ [])) (sym (append-nil kept))
    ∙ parts_behind ars kept (record { commitment = c; block = Some b } ∷ []) [] h

-- one more chunk
pub parts_row : (ars : List Arrival) (kept : List KeptChunk) (c : Commitment) (x : Chunk)
    → count_rows ars ≡ length kept
    → parts_of (ars ++ record { commitment = c; block = None } ∷ []) (with_chunk kept c x)
    ≡ parts_of ars kept ++ Row c x ∷ []
parts_row ars kept c x h =
    parts_behind ars kept (record { commitment = c; block = None } ∷ [])
    (record { commitment = c; chunk = x } ∷ []) h

-- the first whole block under a commitment is that of the first such arrival, where each has the
-- commitment of its part
pub first_whole : (r : Rules) (c : Commitment) (ars : List Arrival) (kept : List KeptChunk)
    → count_rows ars ≡ length kept
    → map (part_commitment r) (parts_of ars kept) ≡ map (λ (a : Arrival). a.commitment) ars
    → first_some (whole_of r c) (parts_of ars kept) ≡ first_some (whole_under c) ars
first_whole r c [] kept h n = refl
first_whole r c (a ∷ ars) kept h n = go a.block refl kept h n (λ ks m e. first_whole r c ars ks m e)
  where
    go : (o : Option Block) → a.block ≡ o → (ks : List KeptChunk) → count_rows (a ∷ ars) ≡ length ks
        → map (part_commitment r) (parts_of (a ∷ ars) ks)
        ≡ map (λ (a : Arrival). a.commitment) (a ∷ ars)
        → ((ls : List KeptChunk) → count_rows ars ≡ length ls
        → map (part_commitment r) (parts_of ars ls) ≡ map (λ (a : Arrival). a.commitment) ars
        → first_some (whole_of r c) (parts_of ars ls) ≡ first_some (whole_under c) ars)
        → first_some (whole_of r c) (parts_of (a ∷ ars) ks) ≡ first_some (whole_under c) (a ∷ ars)
    go (Some b) e ks m n rest =
        let all : commit r b ∷ map (part_commitment r) (parts_of ars ks)
        ≡ a.commitment ∷ map (λ (a : Arrival). a.commitment) ars =
        rw e at n in
        let head : commit r b ≡ a.commitment = cc in
        let tail : map (part_commitment r) (parts_of ars ks)
        ≡ map (λ (a : Arrival). a.commitment) ars =
        cc in
        rw e
        (λ i. option_or (if same_commitment (head i) c then Some b else None)
        (rest ks (rw e at m) tail i))
    go None e [] m n rest = let no : suc (count_rows ars) ≡ 0 = rw e at m in cc
    go None e (k ∷ ks) m n rest =
        let l : suc (count_rows ars) ≡ suc (length ks) = rw e at m in
        let less : count_rows ars ≡ length ks = cc in
        let all : k.commitment ∷ map (part_commitment r) (parts_of ars ks)
        ≡ a.commitment ∷ map (λ (a : Arrival). a.commitment) ars =
        rw e at n in
        let tail : map (part_commitment r) (parts_of ars ks)
        ≡ map (λ (a : Arrival). a.commitment) ars =
        cc in
        rw e (rest ks less tail)

pub first_map : {X Y Z : Type 0} (f : Y → Option Z) (g : X → Y) (xs : List X)
    → first_some f (map g xs) ≡ first_some (λ x. f (g x)) xs
first_map f g [] = refl
first_map f g (x ∷ xs) = ap (λ o. option_or (f (g x)) o) (first_map f g xs)
