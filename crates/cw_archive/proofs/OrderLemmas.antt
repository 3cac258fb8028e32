-- Chunks in a map and their keys in order: what is added, and what leaves.
use Rattle.std.proofs.Common.{◌≡◌, ℕ, ◌&&◌, ◌||◌, ◌==◌, Bool, true, false, cond, if◌then◌else◌, refl, sym, ◌∙◌, ap, subst, eqb-true, eq-eqb, List, [], ◌∷◌, ◌++◌, Option, Some, None, is_some, slice_get, drop, map}
use Rattle.std.specs.List.{AllByRecursion, IsDistinct, filter, find, list_any, cons_option}
use Rattle.std.specs.Map.{lookup}
use Rattle.std.specs.Option.{option_map}
use Rattle.std.specs.Ordering.{is_eq}
use Rattle.std.proofs.lemmas.List.Elements.{filter_map-append}
use Rattle.std.proofs.lemmas.List.Folds.{list_any-append}
use Rattle.std.proofs.lemmas.Map.Keys.{IsDistinct-head, IsDistinct-push, IsDistinct-tail}
use Rattle.std.proofs.lemmas.Cmp.{nat_eq_equiv}
use Rattle.std.proofs.lemmas.Option.{same_Some}
use Rattle.cw_types.specs.Same.{same_commitment}
use Rattle.cw_types.specs.declared.commitment.Commitment.{Commitment}
use Rattle.cw_rules.specs.Rules.{Chunk}
use Rattle.cw_archive.specs.Archived.{kept_chunk_at}
use Rattle.shards.specs.Kept.{is_kept_chunk, with_chunk}
use Rattle.cw_archive.specs.Keys.{IsInOrder, at_key, chunk_key, commitment_of, kept_at_keys, kept_by, same_chunk_key}
use Rattle.shards.specs.declared.pieces.KeptChunk.{KeptChunk}
use Rattle.cw_archive.specs.declared.key.ChunkKey.{ChunkKey}
use Rattle.cw_archive.proofs.KeyLemmas.{at_key_found, key_cmp, key_tests, same_key-true, same_key_equiv, same_key_self, same_key_symm}

abbrev pub Entries : Type 0
Entries = List (ChunkKey × Chunk)

-- the new entries have w at the key, and at each other what the old have
abbrev pub Sets : Entries → Entries → ChunkKey → Option Chunk → Type 0
Sets old new k w = (q : ChunkKey) → at_key new q ≡ cond (same_chunk_key k q) w (at_key old q)

or_parts : (a b : Bool) → (a || b) ≡ false → (a ≡ false) × (b ≡ false)
or_parts true b h = cc
or_parts false b h = (refl, h)

-- ---- what is at the other keys stays

abbrev Stays : Entries → Entries → List ChunkKey → Type 0
Stays old new order = AllByRecursion (λ (q : ChunkKey). at_key new q ≡ at_key old q) order

kept_stays : (old new : Entries) (order : List ChunkKey) → Stays old new order
    → kept_at_keys new order ≡ kept_at_keys old order
kept_stays old new [] h = refl
kept_stays old new (q ∷ qs) h =
    ap
    (λ o. cons_option
    (option_map (λ (x : Chunk). record { commitment = commitment_of q; chunk = x }) o)
    (kept_at_keys new qs))
    h.0
    ∙ ap (λ ks. cons_option (kept_by old q) ks) (kept_stays old new qs h.1)

others_stay : (old new : Entries) (k : ChunkKey) (w : Option Chunk) (order : List ChunkKey)
    → Sets old new k w → AllByRecursion (λ (q : ChunkKey). same_chunk_key k q ≡ false) order
    → Stays old new order
others_stay old new k w [] s h = tt
others_stay old new k w (q ∷ qs) s h =
    (s q ∙ ap (λ b. cond b w (at_key old q)) h.0, others_stay old new k w qs s h.1)

all_others : (k : ChunkKey) (order : List ChunkKey) → list_any (same_chunk_key k) order ≡ false
    → AllByRecursion (λ (q : ChunkKey). same_chunk_key k q ≡ false) order
all_others k [] h = tt
all_others k (q ∷ qs) h =
    let p = or_parts (same_chunk_key k q) (list_any (same_chunk_key k) qs) h in
    (p.0, all_others k qs p.1)

none_others : (k : ChunkKey) (order : List ChunkKey)
    → AllByRecursion (λ (q : ChunkKey). same_chunk_key k q ≡ false) order
    → list_any (same_chunk_key k) order ≡ false
none_others k [] h = refl
none_others k (q ∷ qs) h = rw h.0 (none_others k qs h.1)

-- ---- one more

module _ (old new : Entries) (order : List ChunkKey) (c : Commitment) (x : Chunk) where
  key : ChunkKey
  key = chunk_key c x.index

  absent : IsInOrder old order → at_key old (chunk_key c x.index) ≡ None
      → list_any (same_chunk_key (chunk_key c x.index)) order ≡ false
  absent is none = sym (is.there (chunk_key c x.index)) ∙ ap is_some none

  pub kept_pushed : IsInOrder old order → at_key old (chunk_key c x.index) ≡ None
      → Sets old new (chunk_key c x.index) (Some x)
      → kept_at_keys new (order ++ chunk_key c x.index ∷ [])
      ≡ with_chunk (kept_at_keys old order) c x
  kept_pushed is none s =
      let here : at_key new (chunk_key c x.index) ≡ Some x =
      s (chunk_key c x.index)
      ∙ ap (λ b. cond b (Some x) (at_key old (chunk_key c x.index)))
      (same_key_self (chunk_key c x.index)) in
      let stays =
      kept_stays old new order
      (others_stay old new (chunk_key c x.index) (Some x) order s
      (all_others (chunk_key c x.index) order (absent is none))) in
      filter_map-append (kept_by new) order (chunk_key c x.index ∷ [])
      ∙ (ap (λ ks. ks ++ kept_at_keys new (chunk_key c x.index ∷ [])) stays
      ∙ ap
      (λ (o : Option Chunk). kept_at_keys old order
      ++ cons_option (option_map (λ (y : Chunk). record {
        commitment = c;
        chunk = y;
      }) o) [])
      here)

  pub order_pushed : IsInOrder old order → at_key old (chunk_key c x.index) ≡ None
      → Sets old new (chunk_key c x.index) (Some x)
      → IsInOrder new (order ++ chunk_key c x.index ∷ [])
  order_pushed is none s = record {
    once = IsDistinct-push same_key_equiv order (chunk_key c x.index) is.once (absent is none);
    there =
        λ q. rw (s q, list_any-append (same_chunk_key q) order (chunk_key c x.index ∷ []))
        (there q (same_chunk_key (chunk_key c x.index) q) refl);
    own = λ q y e. own q y (same_chunk_key (chunk_key c x.index) q) refl (sym (s q) ∙ e);
  }
    where
      there : (q : ChunkKey) (b : Bool) → same_chunk_key (chunk_key c x.index) q ≡ b
          → is_some (cond b (Some x) (at_key old q))
          ≡ (list_any (same_chunk_key q) order || (same_chunk_key q (chunk_key c x.index) || false))
      there q true e =
          rw (same_key_symm q (chunk_key c x.index), e)
          (sym (or_true (list_any (same_chunk_key q) order)))
        where
          or_true : (a : Bool) → (a || true) ≡ true
          or_true true = refl
          or_true false = refl
      there q false e =
          rw (same_key_symm q (chunk_key c x.index), e)
          (is.there q ∙ sym (or_false (list_any (same_chunk_key q) order)))
        where
          or_false : (a : Bool) → (a || false) ≡ a
          or_false true = refl
          or_false false = refl

      own : (q : ChunkKey) (y : Chunk) (b : Bool) → same_chunk_key (chunk_key c x.index) q ≡ b
          → cond b (Some x) (at_key old q) ≡ Some y → y.index ≡ q.index
      own q y true e h =
          ap (λ (z : Chunk). z.index) (sym (same_Some x y h))
          ∙ ap (λ (z : ChunkKey). z.index) (same_key-true (chunk_key c x.index) q e)
      own q y false e h = is.own q y h

-- ---- the oldest leaves

some_at : (o : Option Chunk) → is_some o ≡ true → (x : Chunk) × (o ≡ Some x)
some_at None h = cc
some_at (Some x) h = (x, refl)

module _ (old new : Entries) (order : List ChunkKey) (k : ChunkKey) where
  here : IsInOrder old (k ∷ order) → (x : Chunk) × (at_key old k ≡ Some x)
  here is =
      some_at (at_key old k)
      (is.there k ∙ ap (λ b. b || list_any (same_chunk_key k) order) (same_key_self k))

  pub oldest : IsInOrder old (k ∷ order)
      → at_key old k
      ≡ option_map (λ (e : KeptChunk). e.chunk) (slice_get (kept_at_keys old (k ∷ order)) 0)
  oldest is = let h = here is in rw h.1 refl

  pub kept_popped : IsInOrder old (k ∷ order) → Sets old new k None
      → kept_at_keys new order ≡ drop 1 (kept_at_keys old (k ∷ order))
  kept_popped is s =
      let h = here is in
      kept_stays old new order
      (others_stay old new k None order s (IsDistinct-head same_chunk_key k order is.once))
      ∙ sym (rw h.1 refl)

  pub order_popped : IsInOrder old (k ∷ order) → Sets old new k None → IsInOrder new order
  order_popped is s = record {
    once = IsDistinct-tail same_chunk_key k order is.once;
    there = λ q. rw (s q) (there q (same_chunk_key k q) refl);
    own = λ q y e. own q y (same_chunk_key k q) (sym (s q) ∙ e);
  }
    where
      there : (q : ChunkKey) (b : Bool) → same_chunk_key k q ≡ b
          → is_some (cond b None (at_key old q)) ≡ list_any (same_chunk_key q) order
      there q true e =
          sym
          (subst (λ (z : ChunkKey). list_any (same_chunk_key z) order ≡ false) (same_key-true k q e)
          (none_others k order (IsDistinct-head same_chunk_key k order is.once)))
      there q false e =
          is.there q ∙ ap (λ b. b || list_any (same_chunk_key q) order) (same_key_symm q k ∙ e)

      own : (q : ChunkKey) (y : Chunk) (b : Bool) → cond b None (at_key old q) ≡ Some y
          → y.index ≡ q.index
      own q y true h = cc
      own q y false h = is.own q y h

-- ---- what is found

module _ (es : Entries) where
  -- each key in the order has a chunk of its index
  abbrev pub Full : List ChunkKey → Type 0
  Full order =
      AllByRecursion
      (λ (q : ChunkKey). (x : Chunk) × ((at_key es q ≡ Some x) × (x.index ≡ q.index))) order

  full : (whole order : List ChunkKey) → IsInOrder es whole
      → AllByRecursion (λ (q : ChunkKey). list_any (same_chunk_key q) whole ≡ true) order
      → Full order
  full whole [] is h = tt
  full whole (q ∷ qs) is h =
      let at = some_at (at_key es q) (is.there q ∙ h.0) in
      ((at.0, (at.1, is.own q at.0 at.1)), full whole qs is h.1)

  among : (front order : List ChunkKey)
      → AllByRecursion (λ (q : ChunkKey). list_any (same_chunk_key q) (front ++ order) ≡ true) order
  among front [] = tt
  among front (q ∷ qs) = (
    list_any-append (same_chunk_key q) front (q ∷ qs)
        ∙ in_second (list_any (same_chunk_key q) front) (same_chunk_key q q)
        (list_any (same_chunk_key q) qs)
        (same_key_self q),
    subst
        (λ (w : List ChunkKey). AllByRecursion
        (λ (p : ChunkKey). list_any (same_chunk_key p) w ≡ true) qs)
        (shift front) (among (front ++ q ∷ []) qs),
  )
    where
      in_second : (a b d : Bool) → b ≡ true → (a || (b || d)) ≡ true
      in_second true b d e = refl
      in_second false b d e = rw e refl

      shift : (f : List ChunkKey) → (f ++ q ∷ []) ++ qs ≡ f ++ q ∷ qs
      shift [] = refl
      shift (p ∷ ps) = ap (λ (w : List ChunkKey). p ∷ w) (shift ps)

  -- each key of an order has a chunk
  pub filled : (order : List ChunkKey) → IsInOrder es order → Full order
  filled order is = full order order is (among [] order)

module _ (es : Entries) (c : Commitment) (i : ℕ) where
  found_in : (order : List ChunkKey) → Full es order
      → kept_chunk_at c (kept_at_keys es order) i
      ≡ (if list_any (same_chunk_key (chunk_key c i)) order then at_key es (chunk_key c i) else
      None)
  found_in [] h = refl
  found_in (q ∷ qs) h =
      rw h.0.1.0
      (go (same_commitment c (commitment_of q)) (h.0.0.index == i) refl refl (found_in qs h.1))
    where
      go : (s t : Bool) → same_commitment c (commitment_of q) ≡ s → (h.0.0.index == i) ≡ t
          → kept_chunk_at c (kept_at_keys es qs) i
          ≡ (if list_any (same_chunk_key (chunk_key c i)) qs then at_key es (chunk_key c i) else
          None)
          → find (λ (y : Chunk). y.index == i)
          (map (λ (k : KeptChunk). k.chunk)
          (cond s
          (record { commitment = commitment_of q; chunk = h.0.0 }
          ∷ filter (λ (k : KeptChunk). same_commitment c k.commitment)
          (kept_at_keys es qs))
          (filter (λ (k : KeptChunk). same_commitment c k.commitment) (kept_at_keys es qs))))
          ≡ (if (s && (i == q.index)) || list_any (same_chunk_key (chunk_key c i)) qs
          then at_key es (chunk_key c i) else None)
      go false t e f again = again
      go true true e f again =
          let at : h.0.0.index ≡ i = eqb-true h.0.0.index i f in
          let is : (i == q.index) ≡ true = eq-eqb i q.index (sym at ∙ h.0.1.1) in
          let key : chunk_key c i ≡ q =
          same_key-true (chunk_key c i) q (ap (λ b. b && (i == q.index)) e ∙ is) in
          rw (f, is) (sym h.0.1.0 ∙ ap (at_key es) (sym key))
      go true false e f again =
          let is : (i == q.index) ≡ false =
          nat_eq_equiv.symm i q.index ∙ (ap (λ n. n == i) (sym h.0.1.1) ∙ f) in
          rw (f, is) again

  pub chunk_at_found : (order : List ChunkKey) → IsInOrder es order
      → kept_chunk_at c (kept_at_keys es order) i ≡ at_key es (chunk_key c i)
  chunk_at_found order is =
      found_in order (filled es order is)
      ∙ rw (← is.there (chunk_key c i)) (same (at_key es (chunk_key c i)))
    where
      same : (o : Option Chunk) → (if is_some o then o else None) ≡ o
      same None = refl
      same (Some x) = refl

-- a chunk is known where there is one at its index
pub known_found : (kept : List KeptChunk) (c : Commitment) (x : Chunk)
    → is_kept_chunk kept c x ≡ is_some (kept_chunk_at c kept x.index)
known_found [] c x = refl
known_found (k ∷ ks) c x =
    go (same_commitment c k.commitment) (k.chunk.index == x.index) refl (known_found ks c x)
  where
    go : (s t : Bool) → (k.chunk.index == x.index) ≡ t
        → is_kept_chunk ks c x ≡ is_some (kept_chunk_at c ks x.index)
        → ((s && (x.index == k.chunk.index)) || is_kept_chunk ks c x)
        ≡ is_some
        (find (λ (y : Chunk). y.index == x.index)
        (map (λ (e : KeptChunk). e.chunk)
        (cond s (k ∷ filter (λ (e : KeptChunk). same_commitment c e.commitment) ks)
        (filter (λ (e : KeptChunk). same_commitment c e.commitment) ks))))
    go false t f h = h
    go true true f h = rw (nat_eq_equiv.symm x.index k.chunk.index, f) refl
    go true false f h = rw (nat_eq_equiv.symm x.index k.chunk.index, f) h

-- ---- what the map tells

-- an update of the map sets the key
pub sets_of : (old new : Entries) (k : ChunkKey) (w : Option Chunk)
    → ((q : ChunkKey)
    → lookup (λ (j : ChunkKey). is_eq (key_cmp q j)) new
    ≡ cond (is_eq (key_cmp k q)) w (lookup (λ (j : ChunkKey). is_eq (key_cmp q j)) old))
    → Sets old new k w
sets_of old new k w h = λ q.
    sym (at_key_found new q)
    ∙ (h q
    ∙ (ap (λ b. cond b w (lookup (λ (j : ChunkKey). is_eq (key_cmp q j)) old)) (key_tests k q)
    ∙ ap (λ o. cond (same_chunk_key k q) w o) (at_key_found old q)))

-- a chunk that isn't known isn't in the map
pub absent_from : (es : Entries) (order : List ChunkKey) (c : Commitment) (x : Chunk)
    → IsInOrder es order → is_kept_chunk (kept_at_keys es order) c x ≡ false
    → at_key es (chunk_key c x.index) ≡ None
absent_from es order c x is new =
    none (at_key es (chunk_key c x.index))
    (ap is_some (sym (chunk_at_found es c x.index order is))
    ∙ (sym (known_found (kept_at_keys es order) c x) ∙ new))
  where
    none : (o : Option Chunk) → is_some o ≡ false → o ≡ None
    none None h = refl
    none (Some y) h = cc

pub order_empty : IsInOrder [] []
unfolding IsDistinct
order_empty = record { once = tt; there = λ q. refl; own = λ q x e. cc }
