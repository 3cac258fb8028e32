-- The blocks that are known tell which clash some notes bring.
use Rattle.std.proofs.Common.{◌≡◌, ◌⊎◌, inl, inr, ℕ, zero, suc, ◌+◌, ◌<◌, ◌≤◌, Bool, true, false, cond, if◌then◌else◌, is_some, not, List, [], ◌∷◌, ◌++◌, length, map, take, drop, get_or, Option, Some, None, refl, sym, ap, ◌∙◌, arith, subst, append-nil}
use Rattle.std.specs.Prelude.{find, option_map}
use Rattle.std.specs.BTreeMap.{BTreeMap, Updates, get}
use Rattle.std.specs.Cmp.Lexicographic.{texts_ties}
use Rattle.std.specs.List.{AllByRecursion, list_any, range_with_len}
use Rattle.std.specs.Map.{lookup}
use Rattle.std.specs.Option.{option_or}
use Rattle.std.specs.Ordering.{is_eq}
use Rattle.std.proofs.lemmas.Bool.{and_from, and_parts, false_from_ne_true}
use Rattle.std.proofs.lemmas.List.Elements.{filter_map-append}
use Rattle.cw_base.specs.declared.hash.Digest32.{Digest32}
use Rattle.cw_types.specs.Block.{Block}
use Rattle.cw_types.specs.Commit as first
use Rattle.cw_types.specs.Encoding.{block_bytes}
use Rattle.cw_types.specs.Same.{same_block, same_digest}
use Rattle.cw_types.specs.declared.commitment.Commitment.{Commitment}
use Rattle.cw_types.specs.declared.note.Note.{Note}
use Rattle.cw_types.proofs.Same.{same_block-true, same_digest-true, same_digest_self}
use Rattle.cw_rules.specs.Chains.{blocks_of, collides, first_clash, noted_block}
use Rattle.cw_rules.specs.Reached.{In, IsNamed}
use Rattle.cw_rules.specs.Rules.{Rules, digest, genesis}
use Rattle.cw_rules.specs.Step.{Member, start}
use Rattle.cw_rules.specs.World.{Line, faults, opening}
use Rattle.cw_rules.proofs.Lists.{in_cases, in_left, in_right}
use Rattle.hail_world.specs.declared.blocks.KnownBlocks.{KnownBlocks}
use Rattle.hail_world.specs.Known.{AreKnown, Knows, Takes, blocks_in, clash_with, digest_cmp, other}
use Rattle.hail_world.specs.Runs.{GoesBy, encoded}

-- ---- digests

digest_same : (a b : Digest32) → is_eq (digest_cmp a b) ≡ true → a ≡ b
digest_same a b h = same_digest-true a b (texts_ties a.0 b.0 ∙ h)

digest_self : (a : Digest32) → is_eq (digest_cmp a a) ≡ true
digest_self a = sym (texts_ties a.0 a.0) ∙ same_digest_self a

-- ---- searches

find_none : {X : Type 0} (p : X → Bool) (xs : List X) → ((x : X) → In x xs → p x ≡ false)
    → find p xs ≡ None
find_none p [] h = refl
find_none p (x ∷ xs) h =
    ap (λ b. cond b (Some x) (find p xs)) (h x (inl refl)) ∙ find_none p xs (λ y k. h y (inr k))

find_only : {X : Type 0} (p : X → Bool) (xs : List X) (a : X) → In a xs → p a ≡ true
    → ((x : X) → In x xs → p x ≡ true → x ≡ a) → find p xs ≡ Some a
find_only p [] a h passes only = absurd h
find_only {X} p (x ∷ xs) a h passes only =
    go (p x) refl h (λ k. find_only p xs a k passes (λ y m t. only y (inr m) t))
  where
    go : (b : Bool) → p x ≡ b → In a (x ∷ xs) → (In a xs → find p xs ≡ Some a)
        → find p (x ∷ xs) ≡ Some a
    go true e h later =
        ap (λ b. cond b (Some x) (find p xs)) e
        ∙ ap (λ (y : X). let o : Option X = Some y in o) (only x (inl refl) e)
    go false e (inl same) later =
        absurd (let no : false ≡ true = sym e ∙ ap p (sym same) ∙ passes in cc)
    go false e (inr k) later = ap (λ b. cond b (Some x) (find p xs)) e ∙ later k

-- ---- the block that is known under a digest

one_block : (a b : Block) → other b (Some a) ≡ None → a ≡ b
one_block a b h = go (same_block a b) refl h
  where
    go : (s : Bool) → same_block a b ≡ s → (let o : Option Block = if s then None else Some a in o)
        ≡ None
        → a ≡ b
    go true e h = same_block-true a b e
    go false e h = absurd (let no : Some a ≡ None = h in cc)

module _ (r : Rules) (known : KnownBlocks) (blocks : List Block)
    (h : AreKnown r known blocks) where
  met : (b x : Block) → In x blocks → collides r b x ≡ true
      → (get digest_cmp known.by_digest (digest r b) ≡ Some x) × (same_block x b ≡ false)
  met b x k t =
      let both = and_parts (same_digest (digest r x) (digest r b)) (not (same_block x b)) t in (
        ap (λ (d : Digest32). get digest_cmp known.by_digest d)
            (sym (same_digest-true (digest r x) (digest r b) both.0))
            ∙ h.each x k,
        unlike (same_block x b) both.1,
      )
    where
      unlike : (s : Bool) → not s ≡ true → s ≡ false
      unlike true e = absurd (let no : false ≡ true = e in cc)
      unlike false e = refl

  -- is the one that a search through all of them finds
  pub known_find : (b : Block)
      → find (collides r b) blocks ≡ other b (get digest_cmp known.by_digest (digest r b))
  known_find b = go (get digest_cmp known.by_digest (digest r b)) refl
    where
      by : (a : Block) → get digest_cmp known.by_digest (digest r b) ≡ Some a → (s : Bool)
          → same_block a b ≡ s
          → find (collides r b) blocks ≡ (let o : Option Block = if s then None else Some a in o)
      by a e true same =
          find_none (collides r b) blocks
          (λ x k. false_from_ne_true (collides r b x)
          (λ t.
          let m = met b x k t in
          let one : a ≡ x = (let s : Some a ≡ Some x = sym e ∙ m.0 in cc) in
          absurd
          (let no : true ≡ false =
          sym same ∙ ap (λ (y : Block). same_block y b) one ∙ m.1 in
          cc)))
      by a e false same =
          let there = h.only (digest r b) a e in
          find_only (collides r b) blocks a there.1
          (and_from (same_digest (digest r a) (digest r b)) (not (same_block a b))
          (ap (λ (d : Digest32). same_digest d (digest r b)) there.0
          ∙ same_digest_self (digest r b))
          (ap not same))
          (λ x k t. (let s : Some x ≡ Some a = sym (met b x k t).0 ∙ e in cc))

      go : (o : Option Block) → get digest_cmp known.by_digest (digest r b) ≡ o
          → find (collides r b) blocks ≡ other b o
      go None e =
          find_none (collides r b) blocks
          (λ x k. false_from_ne_true (collides r b x)
          (λ t. absurd (let no : None ≡ Some x = sym e ∙ (met b x k t).0 in cc)))
      go (Some a) e = by a e (same_block a b) refl

  -- with one more that collides with none
  pub known_more : (b : Block) (new : KnownBlocks) (d : Digest32) → digest r b ≡ d
      → other b (get digest_cmp known.by_digest d) ≡ None
      → ((q : Digest32) → get digest_cmp new.by_digest q
      ≡ option_or (get digest_cmp known.by_digest q)
      (if is_eq (digest_cmp q d) then Some b else None))
      → AreKnown r new (blocks ++ b ∷ [])
  known_more b new d named clear puts = record { each = each; only = only }
    where
      each : (x : Block) → In x (blocks ++ b ∷ [])
          → get digest_cmp new.by_digest (digest r x) ≡ Some x
      each x k = go (in_cases x blocks (b ∷ []) k)
        where
          added : (o : Option Block) → other b o ≡ None
              → option_or o (if is_eq (digest_cmp d d) then Some b else None) ≡ Some b
          added None e =
              ap (λ (s : Bool). let o : Option Block = if s then Some b else None in o)
              (digest_self d)
          added (Some a) e =
              ap (λ (y : Block). let o : Option Block = Some y in o) (one_block a b e)

          go : In x blocks ⊎ In x (b ∷ []) → get digest_cmp new.by_digest (digest r x) ≡ Some x
          go (inl m) =
              puts (digest r x)
              ∙ ap
              (λ (o : Option Block). option_or o
              (if is_eq (digest_cmp (digest r x) d) then Some b else None))
              (h.each x m)
          go (inr (inl e)) =
              ap (λ (y : Block). get digest_cmp new.by_digest (digest r y)) e
              ∙ ap (λ (q : Digest32). get digest_cmp new.by_digest q) named ∙ puts d
              ∙ added (get digest_cmp known.by_digest d) clear
              ∙ ap (λ (y : Block). let o : Option Block = Some y in o) (sym e)
          go (inr (inr m)) = absurd m

      only : (q : Digest32) (x : Block) → get digest_cmp new.by_digest q ≡ Some x
          → (digest r x ≡ q) × In x (blocks ++ b ∷ [])
      only q x e = go (get digest_cmp known.by_digest q) refl (sym (puts q) ∙ e)
        where
          by : (s : Bool) → is_eq (digest_cmp q d) ≡ s
              → (let o : Option Block = if s then Some b else None in o) ≡ Some x
              → (digest r x ≡ q) × In x (blocks ++ b ∷ [])
          by true at is =
              let same : b ≡ x = (let s : Some b ≡ Some x = is in cc) in (
                ap (λ (y : Block). digest r y) (sym same) ∙ named ∙ sym (digest_same q d at),
                in_right x blocks (b ∷ []) (inl (sym same)),
              )
          by false at is = absurd (let no : None ≡ Some x = is in cc)

          go : (o : Option Block) → get digest_cmp known.by_digest q ≡ o
              → option_or o (if is_eq (digest_cmp q d) then Some b else None) ≡ Some x
              → (digest r x ≡ q) × In x (blocks ++ b ∷ [])
          go None at is = by (is_eq (digest_cmp q d)) refl is
          go (Some a) at is =
              let was = h.only q x (at ∙ is) in (was.0, in_left x blocks (b ∷ []) was.1)

  -- in whatever order they are told
  pub known_moved : (others : List Block) → ((b : Block) → In b blocks → In b others)
      → ((b : Block) → In b others → In b blocks) → AreKnown r known others
  known_moved others there back = record {
    each = λ b k. h.each b (back b k);
    only = λ d b e. let was = h.only d b e in (was.0, there b was.1);
  }

-- a digest that has a block already
pub there_already : (m : BTreeMap Digest32 Block) (d : Digest32) (b : Block)
    → is_some (get digest_cmp m d) ≡ true → (q : Digest32)
    → get digest_cmp m q
    ≡ option_or (get digest_cmp m q) (if is_eq (digest_cmp q d) then Some b else None)
there_already m d b has q = go (is_eq (digest_cmp q d)) refl
  where
    or_none : (o : Option Block) → o ≡ option_or o None
    or_none None = refl
    or_none (Some a) = refl

    or_more : (o : Option Block) → is_some o ≡ true → o ≡ option_or o (Some b)
    or_more None e = absurd (let no : false ≡ true = e in cc)
    or_more (Some a) e = refl

    go : (s : Bool) → is_eq (digest_cmp q d) ≡ s
        → get digest_cmp m q ≡ option_or (get digest_cmp m q) (if s then Some b else None)
    go true e =
        or_more (get digest_cmp m q)
        (ap (λ (x : Digest32). is_some (get digest_cmp m x)) (digest_same q d e) ∙ has)
    go false e = or_none (get digest_cmp m q)

-- one that has none
pub put_anew : (m n : BTreeMap Digest32 Block) (d : Digest32) (b : Block)
    → is_some (get digest_cmp m d) ≡ false → Updates digest_cmp m n d (Some b) → (q : Digest32)
    → get digest_cmp n q
    ≡ option_or (get digest_cmp m q) (if is_eq (digest_cmp q d) then Some b else None)
put_anew m n d b none puts q = puts.0 q ∙ go (is_eq (digest_cmp d q)) refl
  where
    or_none : (o : Option Block) → o ≡ option_or o None
    or_none None = refl
    or_none (Some a) = refl

    empty : (o : Option Block) → is_some o ≡ false → o ≡ None
    empty None e = refl
    empty (Some a) e = absurd (let no : true ≡ false = e in cc)

    go : (s : Bool) → is_eq (digest_cmp d q) ≡ s
        → cond s (Some b) (get digest_cmp m q)
        ≡ option_or (get digest_cmp m q) (if is_eq (digest_cmp q d) then Some b else None)
    go true e =
        let same : d ≡ q = digest_same d q e in
        subst
        (λ (x : Digest32). Some b
        ≡ option_or (get digest_cmp m x) (if is_eq (digest_cmp x d) then Some b else None))
        same
        (sym
        (ap
        (λ (o : Option Block). option_or o (if is_eq (digest_cmp d d) then Some b else None))
        (empty (get digest_cmp m d) none)
        ∙ ap (λ (s : Bool). let o : Option Block = if s then Some b else None in o)
        (digest_self d)))
    go false e =
        or_none (get digest_cmp m q)
        ∙ ap
        (λ (s : Bool). option_or (get digest_cmp m q)
        (let o : Option Block = if s then Some b else None in o))
        (sym other_way)
      where
        other_way : is_eq (digest_cmp q d) ≡ false
        other_way =
            false_from_ne_true (is_eq (digest_cmp q d))
            (λ t.
            let same : q ≡ d = digest_same q d t in
            absurd
            (let no : true ≡ false =
            sym (digest_self d) ∙ ap (λ (x : Digest32). is_eq (digest_cmp d x)) (sym same) ∙ e in
            cc))

-- genesis, or any block, as the first
pub known_first : (r : Rules) (old new : BTreeMap Digest32 Block) (b : Block) (d : Digest32)
    → digest r b ≡ d → old.entries ≡ [] → Updates digest_cmp old new d (Some b)
    → AreKnown r (record { by_digest = new }) (b ∷ [])
known_first r old new b d named none puts = record { each = each; only = only }
  where
    each : (x : Block) → In x (b ∷ []) → get digest_cmp new (digest r x) ≡ Some x
    each x (inl e) =
        ap (λ (y : Block). get digest_cmp new (digest r y)) e
        ∙ ap (λ (q : Digest32). get digest_cmp new q) named ∙ puts.1
        ∙ ap (λ (y : Block). let o : Option Block = Some y in o) (sym e)
    each x (inr m) = absurd m

    only : (q : Digest32) (x : Block) → get digest_cmp new q ≡ Some x
        → (digest r x ≡ q) × In x (b ∷ [])
    only q x e = go (is_eq (digest_cmp d q)) refl (sym (puts.0 q) ∙ e)
      where
        go : (s : Bool) → is_eq (digest_cmp d q) ≡ s
            → cond s (Some b) (get digest_cmp old q) ≡ Some x
            → (digest r x ≡ q) × In x (b ∷ [])
        go true at is =
            let same : b ≡ x = (let s : Some b ≡ Some x = is in cc) in (
              ap (λ (y : Block). digest r y) (sym same) ∙ named ∙ digest_same d q at,
              inl (sym same),
            )
        go false at is =
            absurd
            (let no : None ≡ Some x =
            sym
            (ap
            (λ (l : List (Digest32 × Block)). lookup (λ (k : Digest32). is_eq (digest_cmp q k)) l)
            none)
            ∙ is in
            cc)

pub known_genesis : (hash : List ℕ → Digest32) (r : Rules) (old new : BTreeMap Digest32 Block)
    (b : Block) (d : Digest32)
    → GoesBy hash r → b ≡ first.genesis hash → d ≡ hash (block_bytes b) → old.entries ≡ []
    → Updates digest_cmp old new d (Some b)
    → AreKnown r (record { by_digest = new }) (genesis r ∷ [])
known_genesis hash r old new b d by is at none puts =
    let named : digest r b ≡ d =
    ap (λ (h : List ℕ → Digest32). h (r.block_bytes b)) by.hashes
    ∙ ap (λ (f : Block → List ℕ). hash (f b)) by.blocks ∙ sym at in
    subst (λ (x : Block). AreKnown r (record { by_digest = new }) (x ∷ []))
    (is ∙ ap (λ (h : List ℕ → Digest32). first.genesis h) (sym by.hashes))
    (known_first r old new b d named none puts)

-- ---- note by note

pub named_at : (r : Rules) (own : List Note) (i : ℕ) (d : Note) → AllByRecursion (IsNamed r) own
    → i < length own → IsNamed r (get_or own i d)
named_at r [] i d h lt = absurd (omega arith)
named_at r (x ∷ own) zero d h lt = h.0
named_at r (x ∷ own) (suc i) d h lt = named_at r own i d h.1 (omega arith)

-- the clash that the first of some notes brings, or a later one
clash_step : (r : Rules) (low own high : List Block) (note : Note) (notes : List Note)
    → first_clash r low own high (blocks_in (note ∷ notes))
    ≡ option_or (clash_with r (genesis r ∷ low ++ own ++ high) note)
    (first_clash r low (own ++ blocks_in (note ∷ [])) high (blocks_in notes))
clash_step r low own high (Note.Block c b) notes = refl
clash_step r low own high (Note.Verified e v c) notes =
    ap (λ (l : List Block). first_clash r low l high (blocks_in notes)) (sym (append-nil own))
clash_step r low own high (Note.Certified p) notes =
    ap (λ (l : List Block). first_clash r low l high (blocks_in notes)) (sym (append-nil own))
clash_step r low own high (Note.Vote v) notes =
    ap (λ (l : List Block). first_clash r low l high (blocks_in notes)) (sym (append-nil own))
clash_step r low own high (Note.Cert c) notes =
    ap (λ (l : List Block). first_clash r low l high (blocks_in notes)) (sym (append-nil own))
clash_step r low own high (Note.Ack a) notes =
    ap (λ (l : List Block). first_clash r low l high (blocks_in notes)) (sym (append-nil own))
clash_step r low own high (Note.Floor a) notes =
    ap (λ (l : List Block). first_clash r low l high (blocks_in notes)) (sym (append-nil own))
clash_step r low own high (Note.Prune a) notes =
    ap (λ (l : List Block). first_clash r low l high (blocks_in notes)) (sym (append-nil own))
clash_step r low own high (Note.Epoch e c) notes =
    ap (λ (l : List Block). first_clash r low l high (blocks_in notes)) (sym (append-nil own))

drop_own : (own : List Note) (i : ℕ) (d : Note) → i < length own
    → drop i own ≡ get_or own i d ∷ drop (i + 1) own
drop_own [] i d lt = absurd (omega arith)
drop_own (x ∷ own) zero d lt = refl
drop_own (x ∷ own) (suc i) d lt =
    let n : suc i + 1 ≡ suc (i + 1) = omega arith in rw n (drop_own own i d (omega arith))

take_own : (own : List Note) (i : ℕ) (d : Note) → i < length own
    → take (i + 1) own ≡ take i own ++ get_or own i d ∷ []
take_own [] i d lt = absurd (omega arith)
take_own (x ∷ own) zero d lt = refl
take_own (x ∷ own) (suc i) d lt =
    let n : suc i + 1 ≡ suc (i + 1) = omega arith in
    rw n (ap (λ (l : List Note). x ∷ l) (take_own own i d (omega arith)))

none_of : {X Y : Type 0} (f : X → Y) (o : Option X) → None ≡ option_map f o → o ≡ None
none_of f None e = refl
none_of {Y = Y} f (Some x) e =
    absurd (let no : (let o : Option Y = None in o) ≡ Some (f x) = e in cc)

some_or : {X Y : Type 0} (f : X → Y) (a b : Option X) (y : Y) → Some y ≡ option_map f a
    → Some y ≡ option_map f (option_or a b)
some_or {Y = Y} f None b y e =
    absurd (let no : (let o : Option Y = Some y in o) ≡ None = e in cc)
some_or f (Some x) b y e = e

module _ {X : Type 0} (x : X) (front own more back : List X) where
  moved_in : In x ((front ++ own ++ back) ++ more) → In x (front ++ (own ++ more) ++ back)
  moved_in k = by (in_cases x (front ++ own ++ back) more k)
    where
      early : In x front ⊎ In x own → In x (front ++ (own ++ more) ++ back)
      early (inl m) = in_left x (front ++ (own ++ more)) back (in_left x front (own ++ more) m)
      early (inr m) =
          in_left x (front ++ (own ++ more)) back
          (in_right x front (own ++ more) (in_left x own more m))

      was : In x (front ++ own) ⊎ In x back → In x (front ++ (own ++ more) ++ back)
      was (inl m) = early (in_cases x front own m)
      was (inr m) = in_right x (front ++ (own ++ more)) back m

      by : In x (front ++ own ++ back) ⊎ In x more → In x (front ++ (own ++ more) ++ back)
      by (inl m) = was (in_cases x (front ++ own) back m)
      by (inr m) =
          in_left x (front ++ (own ++ more)) back
          (in_right x front (own ++ more) (in_right x own more m))

  moved_out : In x (front ++ (own ++ more) ++ back) → In x ((front ++ own ++ back) ++ more)
  moved_out k = by (in_cases x (front ++ (own ++ more)) back k)
    where
      late : In x own ⊎ In x more → In x ((front ++ own ++ back) ++ more)
      late (inl m) =
          in_left x (front ++ own ++ back) more
          (in_left x (front ++ own) back (in_right x front own m))
      late (inr m) = in_right x (front ++ own ++ back) more m

      early : In x front ⊎ In x (own ++ more) → In x ((front ++ own ++ back) ++ more)
      early (inl m) =
          in_left x (front ++ own ++ back) more
          (in_left x (front ++ own) back (in_left x front own m))
      early (inr m) = late (in_cases x own more m)

      by : In x (front ++ (own ++ more)) ⊎ In x back → In x ((front ++ own ++ back) ++ more)
      by (inl m) = early (in_cases x front (own ++ more) m)
      by (inr m) = in_left x (front ++ own ++ back) more (in_right x (front ++ own) back m)

-- ---- one note

paired : (r : Rules) (b : Block) (o : Option Block) → r.block_bytes ≡ block_bytes
    → option_map (encoded r) (option_map (λ a. (a, b)) o)
    ≡ option_map (λ a. (block_bytes a, block_bytes b)) o
paired r b None e = refl
paired r b (Some a) e =
    ap (λ (f : Block → List ℕ). let o : Option (List ℕ × List ℕ) = Some (f a, f b) in o) e

-- a note of a block
pub takes_block : (r : Rules) (blocks : List Block) (c : Commitment) (b : Block)
    (old new : KnownBlocks) (clash : Option (List ℕ × List ℕ))
    → r.block_bytes ≡ block_bytes → digest r b ≡ c.block → AreKnown r old blocks
    → clash
    ≡ option_map (λ a. (block_bytes a, block_bytes b))
    (other b (get digest_cmp old.by_digest c.block))
    → (clash ≡ None → (q : Digest32) → get digest_cmp new.by_digest q
    ≡ option_or (get digest_cmp old.by_digest q)
    (if is_eq (digest_cmp q c.block) then Some b else None))
    → Takes r blocks (Note.Block c b) new clash
takes_block r blocks c b old new clash bytes named h is puts =
    let at : find (collides r b) blocks ≡ other b (get digest_cmp old.by_digest c.block) =
    known_find r old blocks h b
    ∙ ap (λ (d : Digest32). other b (get digest_cmp old.by_digest d)) named in (
      is ∙ sym (paired r b (other b (get digest_cmp old.by_digest c.block)) bytes)
          ∙ ap
          (λ (o : Option Block). option_map (encoded r) (option_map (λ a. (a, b)) o)) (sym at),
      λ none. known_more r old blocks h b new c.block named
          (none_of (λ (a : Block). (block_bytes a, block_bytes b))
          (other b (get digest_cmp old.by_digest c.block)) (sym none ∙ is))
          (puts none),
    )

-- another note
pub takes_other : (r : Rules) (blocks : List Block) (note : Note) (known : KnownBlocks)
    → ((c : Commitment) (b : Block) → note ≡ Note.Block c b → ⊥) → AreKnown r known blocks
    → Takes r blocks note known None
takes_other r blocks note known never h = go note refl
  where
    same : AreKnown r known (blocks ++ [])
    same = subst (λ (l : List Block). AreKnown r known l) (sym (append-nil blocks)) h

    go : (n : Note) → note ≡ n → Takes r blocks n known None
    go (Note.Block c b) e = absurd (never c b e)
    go (Note.Verified e v c) is = (refl, λ _. same)
    go (Note.Certified p) is = (refl, λ _. same)
    go (Note.Vote v) is = (refl, λ _. same)
    go (Note.Cert c) is = (refl, λ _. same)
    go (Note.Ack a) is = (refl, λ _. same)
    go (Note.Floor a) is = (refl, λ _. same)
    go (Note.Prune a) is = (refl, λ _. same)
    go (Note.Epoch e c) is = (refl, λ _. same)

-- ---- note after note

-- the notes from one number up to another were taken, of which none brought a clash
pub record AreTaken (r : Rules) (low high : List Block) (own : List Note) (old index : ℕ)
    (known : KnownBlocks) : Type 0 where
  pub knows : AreKnown r known (genesis r ∷ low ++ blocks_in (take index own) ++ high)
  pub decides : first_clash r low (blocks_in (take index own)) high (blocks_in (drop index own))
      ≡ first_clash r low (blocks_in (take old own)) high (blocks_in (drop old own))

pub none_taken : (r : Rules) (low high : List Block) (own : List Note) (old : ℕ)
    (known : KnownBlocks) → AreKnown r known (genesis r ∷ low ++ blocks_in (take old own) ++ high)
    → AreTaken r low high own old old known
none_taken r low high own old known h = record { knows = h; decides = refl }

module _ (r : Rules) (low high : List Block) (own : List Note) (old index : ℕ) (d : Note)
    (knew known : KnownBlocks) (clash : Option (List ℕ × List ℕ))
    (h : AreTaken r low high own old index knew)
    (lt : index < length own)
    (takes : Takes r (genesis r ∷ low ++ blocks_in (take index own) ++ high) (get_or own index d)
    known clash) where
  abbrev note : Note
  note = get_or own index d

  abbrev front : List Block
  front = blocks_in (take index own)

  step : first_clash r low front high (blocks_in (drop index own))
      ≡ option_or (clash_with r (genesis r ∷ low ++ front ++ high) note)
      (first_clash r low (front ++ blocks_in (note ∷ [])) high (blocks_in (drop (index + 1) own)))
  step =
      ap (λ (l : List Note). first_clash r low front high (blocks_in l)) (drop_own own index d lt)
      ∙ clash_step r low front high note (drop (index + 1) own)

  ahead : blocks_in (take (index + 1) own) ≡ front ++ blocks_in (note ∷ [])
  ahead =
      ap blocks_in (take_own own index d lt)
      ∙ filter_map-append noted_block (take index own) (note ∷ [])

  -- a note that brings none
  pub one_taken : clash ≡ None → AreTaken r low high own old (index + 1) known
  one_taken none =
      let clear : clash_with r (genesis r ∷ low ++ front ++ high) note ≡ None =
      none_of (encoded r) (clash_with r (genesis r ∷ low ++ front ++ high) note)
      (sym none ∙ takes.0) in
      record {
        knows =
            subst
            (λ (l : List Block). AreKnown r known (genesis r ∷ low ++ l ++ high)) (sym ahead)
            (known_moved r known ((genesis r ∷ low ++ front ++ high) ++ blocks_in (note ∷ []))
            (takes.1 none) (genesis r ∷ low ++ (front ++ blocks_in (note ∷ [])) ++ high)
            (λ b k. moved_in b (genesis r ∷ low) front (blocks_in (note ∷ [])) high k)
            (λ b k. moved_out b (genesis r ∷ low) front (blocks_in (note ∷ [])) high k));
        decides =
            ap
            (λ (l : List Block). first_clash r low l high (blocks_in (drop (index + 1) own)))
            ahead
            ∙ ap
            (λ (o : Option (Block × Block)). option_or o
            (first_clash r low (front ++ blocks_in (note ∷ [])) high
            (blocks_in (drop (index + 1) own))))
            (sym clear)
            ∙ sym step ∙ h.decides;
      }

  -- one that brings one
  pub clash_taken : (both : List ℕ × List ℕ) → clash ≡ Some both
      → Some both
      ≡ option_map (encoded r)
      (first_clash r low (blocks_in (take old own)) high (blocks_in (drop old own)))
  clash_taken both some =
      some_or (encoded r) (clash_with r (genesis r ∷ low ++ front ++ high) note)
      (first_clash r low (front ++ blocks_in (note ∷ [])) high (blocks_in (drop (index + 1) own)))
      both (sym some ∙ takes.0)
      ∙ ap (λ (o : Option (Block × Block)). option_map (encoded r) o) (sym step ∙ h.decides)

drop_past : (own : List Note) (i : ℕ) → length own ≤ i → drop i own ≡ []
drop_past [] zero le = refl
drop_past [] (suc i) le = refl
drop_past (x ∷ own) zero le = absurd (omega arith)
drop_past (x ∷ own) (suc i) le = drop_past own i (omega arith)

take_past : (own : List Note) (i : ℕ) → length own ≤ i → take i own ≡ own
take_past [] zero le = refl
take_past [] (suc i) le = refl
take_past (x ∷ own) zero le = absurd (omega arith)
take_past (x ∷ own) (suc i) le = ap (λ (l : List Note). x ∷ l) (take_past own i (omega arith))

-- behind the last note
pub all_taken : (r : Rules) (low high : List Block) (own : List Note) (old index : ℕ)
    (known : KnownBlocks) → length own ≤ index → AreTaken r low high own old index known
    → (first_clash r low (blocks_in (take old own)) high (blocks_in (drop old own)) ≡ None)
    × AreKnown r known (genesis r ∷ low ++ blocks_in own ++ high)
all_taken r low high own old index known past h = (
  sym h.decides
      ∙ ap
      (λ (l : List Note). first_clash r low (blocks_in (take index own)) high (blocks_in l))
      (drop_past own index past),
  subst (λ (l : List Note). AreKnown r known (genesis r ∷ low ++ blocks_in l ++ high))
      (take_past own index past) h.knows,
)

-- ---- before the first line

none_noted : (r : Rules) (script : List Line) (ids : List ℕ)
    → blocks_of
    (map (λ i. if list_any (faults i) script then None else Some (start r i []).member) ids)
    ≡ []
none_noted r script [] = refl
none_noted r script (i ∷ ids) = go (list_any (faults i) script) (none_noted r script ids)
  where
    rest : List (Option Member)
    rest = map (λ i. if list_any (faults i) script then None else Some (start r i []).member) ids

    go : (b : Bool) → blocks_of rest ≡ []
        → blocks_of ((if b then None else Some (start r i []).member) ∷ rest) ≡ []
    go true e = e
    go false e = e

-- nothing is noted
pub knows_opened : (r : Rules) (known : KnownBlocks) (script : List Line)
    → AreKnown r known (genesis r ∷ []) → Knows r known (opening r script)
knows_opened r known script h =
    subst (λ (l : List Block). AreKnown r known (genesis r ∷ l))
    (sym (none_noted r script (range_with_len 0 r.epochs.total))) h
