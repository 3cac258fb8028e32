-- The chunks of all commitments, by commitment and in the order in which they came.
use Rattle.std.proofs.Common.{◌≡◌, ◌<◌, ◌&&◌, ◌||◌, ◌==◌, Bool, true, false, cond, if◌then◌else◌, IsTrue, List, [], ◌∷◌, ◌++◌, length, map, Option, Some, None, is_some, unwrap_or, refl, sym, ◌∙◌, ap, subst, arith, eq-eqb, length-append, append-nil}
use Rattle.std.specs.List.{AllByRecursion, cons_option, filter, find}
use Rattle.std.specs.Map.{lookup}
use Rattle.std.specs.Option.{option_map, option_or}
use Rattle.std.specs.Ordering.{is_eq}
use Rattle.std.specs.Prelude.{Err, IfOk, Ok, OnErr, OnOk, Result}
use Rattle.std.proofs.lemmas.Cmp.{nat_eq_equiv}
use Rattle.std.proofs.lemmas.List.Elements.{filter_map-append}
use Rattle.std.proofs.lemmas.List.Folds.{find-append}
use Rattle.std.proofs.lemmas.Option.{same_Some}
use Rattle.cw_types.specs.Order.{commitment_cmp}
use Rattle.cw_types.specs.OrderLaws.{commitments_are_told, commitments_tie}
use Rattle.cw_types.specs.Same.{same_commitment}
use Rattle.cw_types.specs.declared.commitment.Commitment.{Commitment}
use Rattle.cw_types.proofs.Ordered.{found_same}
use Rattle.cw_types.proofs.Same.{same_commitment-true, same_commitment_self}
use Rattle.shards.specs.Index.{AreGathered, ByCommitment, HasAdded, HasStayed, IsNewChunk, chunks_by, all_gathered, gathered_by, with_index}
use Rattle.shards.specs.Kept.{chunks_of, is_kept_chunk, with_chunk}
use Rattle.cw_rules.specs.Rules.{Chunk}
use Rattle.shards.specs.declared.pieces.KeptChunk.{KeptChunk}
use Rattle.shards.specs.declared.index.ChunkKey.{ChunkKey}
use Rattle.shards.proofs.KeptLemmas.{chunks_more}

-- ---- what is found

-- the chunks of a commitment are those that a look-up finds, or none
pub chunks_found : (bs : ByCommitment) (order : List ChunkKey) (c : Commitment)
    (o : Option (List Chunk))
    → AreGathered bs order → o ≡ lookup (λ (k : Commitment). is_eq (commitment_cmp c k)) bs
    → unwrap_or o [] ≡ chunks_of c (all_gathered bs order)
chunks_found bs order c o are e =
    ap (λ (p : Option (List Chunk)). unwrap_or p []) (e ∙ found_same bs c) ∙ are.found c

-- a chunk is known where there is one of its index
pub known_found : (kept : List KeptChunk) (c : Commitment) (x : Chunk)
    → is_kept_chunk kept c x ≡ is_some (with_index x.index (chunks_of c kept))
known_found [] c x = refl
known_found (k ∷ ks) c x =
    go (same_commitment c k.commitment) (k.chunk.index == x.index) refl (known_found ks c x)
  where
    go : (s t : Bool) → (k.chunk.index == x.index) ≡ t
        → is_kept_chunk ks c x ≡ is_some (with_index x.index (chunks_of c ks))
        → ((s && (x.index == k.chunk.index)) || is_kept_chunk ks c x)
        ≡ is_some
        (find (λ (y : Chunk). y.index == x.index)
        (map (λ (e : KeptChunk). e.chunk)
        (cond s (k ∷ filter (λ (e : KeptChunk). same_commitment c e.commitment) ks)
        (filter (λ (e : KeptChunk). same_commitment c e.commitment) ks))))
    go false t f h = h
    go true true f h = rw (nat_eq_equiv.symm x.index k.chunk.index, f) refl
    go true false f h = rw (nat_eq_equiv.symm x.index k.chunk.index, f) h

none_some : {X : Type 0} (o : Option X) → is_some o ≡ false → o ≡ None
none_some None h = refl
none_some (Some x) h = cc h

-- a chunk that isn't known is new
pub new_unknown : (bs : ByCommitment) (order : List ChunkKey) (c : Commitment) (x : Chunk)
    → AreGathered bs order → is_kept_chunk (all_gathered bs order) c x ≡ false → IsNewChunk bs c x
new_unknown bs order c x are new =
    none_some (with_index x.index (chunks_by bs c))
    (ap (λ (xs : List Chunk). is_some (with_index x.index xs)) (are.found c)
    ∙ (sym (known_found (all_gathered bs order) c x) ∙ new))

-- the chunks of a commitment have none of a new chunk's index
pub new_found : (bs : ByCommitment) (c : Commitment) (x : Chunk) (o : Option (List Chunk))
    → IsNewChunk bs c x → o ≡ lookup (λ (k : Commitment). is_eq (commitment_cmp c k)) bs
    → with_index x.index (unwrap_or o []) ≡ None
new_found bs c x o new e =
    ap (λ (p : Option (List Chunk)). with_index x.index (unwrap_or p [])) (e ∙ found_same bs c)
    ∙ new

pub if_ok_then : {T E : Type 0} {P Q : T → Type 0} (r : Result T E) → IfOk r P
    → ((t : T) → P t → Q t) → IfOk r Q
if_ok_then (Ok t) p f = f t p
if_ok_then (Err e) p f = tt

pub ok_then : {T E : Type 0} {P Q : Type 0} (r : Result T E) → OnOk r P → (P → Q) → OnOk r Q
ok_then (Ok t) p f = f p
ok_then (Err e) p f = tt

pub err_then : {T E : Type 0} {P Q : Type 0} (r : Result T E) → OnErr r P → (P → Q) → OnErr r Q
err_then (Ok t) p f = tt
err_then (Err e) p f = f p

-- ---- an update

-- an update of the map at a commitment
abbrev pub SetsCommitment : Commitment → Option (List Chunk) → ByCommitment → ByCommitment → Type 0
SetsCommitment c w old new =
    (d : Commitment) → lookup (λ (k : Commitment). is_eq (commitment_cmp d k)) new
    ≡ cond (is_eq (commitment_cmp c d)) w
    (lookup (λ (k : Commitment). is_eq (commitment_cmp d k)) old)

pub set_at : (c : Commitment) (w : Option (List Chunk)) (old new : ByCommitment)
    → SetsCommitment c w old new
    → (d : Commitment) → lookup (same_commitment d) new
    ≡ cond (same_commitment d c) w (lookup (same_commitment d) old)
set_at c w old new sets d =
    sym (found_same new d)
    ∙ (sets d
    ∙ (ap (λ b. cond b w (lookup (λ (k : Commitment). is_eq (commitment_cmp d k)) old))
    (sym (commitments_tie c d) ∙ commitments_are_told.symm c d)
    ∙ ap (λ (o : Option (List Chunk)). cond (same_commitment d c) w o) (found_same old d)))

-- chunks that are written back as they were
pub stayed_there : (old new : ByCommitment) (c : Commitment) (xs ys : List Chunk)
    → Some xs ≡ lookup (λ (k : Commitment). is_eq (commitment_cmp c k)) old → ys ≡ xs
    → SetsCommitment c (Some ys) old new → HasStayed old new
stayed_there old new c xs ys at same sets d =
    set_at c (Some ys) old new sets d ∙ go (same_commitment d c) refl
  where
    go : (b : Bool) → same_commitment d c ≡ b
        → cond b (Some ys) (lookup (same_commitment d) old) ≡ lookup (same_commitment d) old
    go true e =
        ap Some same
        ∙ (at
        ∙ (found_same old c
        ∙ ap (λ (k : Commitment). lookup (same_commitment k) old)
        (sym (same_commitment-true d c e))))
    go false e = refl

-- one more of a commitment that has these chunks
pub added_there : (old new : ByCommitment) (c : Commitment) (x : Chunk) (o : Option (List Chunk))
    (ys : List Chunk) → o ≡ lookup (λ (k : Commitment). is_eq (commitment_cmp c k)) old
    → ys ≡ unwrap_or o [] ++ x ∷ [] → SetsCommitment c (Some ys) old new → HasAdded c x old new
added_there old new c x o ys at is sets d =
    set_at c (Some ys) old new sets d
    ∙ ap
    (λ (zs : List Chunk). cond (same_commitment d c) (Some zs) (lookup (same_commitment d) old))
    (is
    ∙ ap (λ (p : Option (List Chunk)). unwrap_or p [] ++ x ∷ []) (at ∙ found_same old c))

-- ---- what is as it was

one_stays : (old new : ByCommitment) → HasStayed old new → (q : ChunkKey)
    → gathered_by new q ≡ gathered_by old q
one_stays old new same q =
    ap
    (λ (xs : List Chunk). option_map
    (λ (x : Chunk). record { commitment = q.commitment; chunk = x }) (with_index q.index xs))
    (ap (λ (o : Option (List Chunk)). unwrap_or o []) (same q.commitment))

pub all_stay : (old new : ByCommitment) (order : List ChunkKey) → HasStayed old new
    → all_gathered new order ≡ all_gathered old order
all_stay old new [] same = refl
all_stay old new (q ∷ qs) same =
    ap (λ (o : Option KeptChunk). cons_option o (all_gathered new qs)) (one_stays old new same q)
    ∙ ap (λ (ks : List KeptChunk). cons_option (gathered_by old q) ks) (all_stay old new qs same)

pub gathered_stay : (old new : ByCommitment) (order : List ChunkKey) → HasStayed old new
    → AreGathered old order → AreGathered new order
gathered_stay old new order same are = record {
  there = go order are.there;
  found =
      λ c. ap (λ (o : Option (List Chunk)). unwrap_or o []) (same c)
      ∙ (are.found c ∙ ap (chunks_of c) (sym (all_stay old new order same)));
  some = λ c xs e. are.some c xs (sym (same c) ∙ e);
}
  where
    go : (qs : List ChunkKey) → AllByRecursion (λ q. IsTrue (is_some (gathered_by old q))) qs
        → AllByRecursion (λ q. IsTrue (is_some (gathered_by new q))) qs
    go [] a = tt
    go (q ∷ qs) a = (ap is_some (one_stays old new same q) ∙ a.0, go qs a.1)

-- ---- one more

module _ (old new : ByCommitment) (c : Commitment) (x : Chunk) (put : HasAdded c x old new) where
  key : ChunkKey
  key = record { commitment = c; index = x.index }

  more : (d : Commitment)
      → chunks_by new d
      ≡ chunks_by old d ++ (if same_commitment d c then x ∷ [] else [])
  more d =
      ap (λ (o : Option (List Chunk)). unwrap_or o []) (put d) ∙ go (same_commitment d c) refl
    where
      go : (b : Bool) → same_commitment d c ≡ b
          → unwrap_or
          (cond b (Some (chunks_by old c ++ x ∷ [])) (lookup (same_commitment d) old)) []
          ≡ chunks_by old d ++ (if b then x ∷ [] else [])
      go true e =
          ap (λ (k : Commitment). chunks_by old k ++ x ∷ []) (sym (same_commitment-true d c e))
      go false e = sym (append-nil (chunks_by old d))

  -- a key that names a chunk names it still
  named_still : (q : ChunkKey) → IsTrue (is_some (gathered_by old q))
      → gathered_by new q ≡ gathered_by old q
  named_still q h =
      ap named
      (ap (with_index q.index) (more q.commitment)
      ∙ (find-append (λ (y : Chunk). y.index == q.index) (chunks_by old q.commitment) rest
      ∙ go (with_index q.index (chunks_by old q.commitment)) h))
    where
      rest : List Chunk
      rest = if same_commitment q.commitment c then x ∷ [] else []

      named : Option Chunk → Option KeptChunk
      named o = option_map (λ (y : Chunk). record { commitment = q.commitment; chunk = y }) o

      go : (o : Option Chunk) → IsTrue (is_some (named o))
          → option_or o (with_index q.index rest) ≡ o
      go None t = cc t
      go (Some y) t = refl

  all_still : (qs : List ChunkKey) → AllByRecursion (λ q. IsTrue (is_some (gathered_by old q))) qs
      → (all_gathered new qs ≡ all_gathered old qs)
      × AllByRecursion (λ q. IsTrue (is_some (gathered_by new q))) qs
  all_still [] a = (refl, tt)
  all_still (q ∷ qs) a =
      let still = named_still q a.0 in
      let rest = all_still qs a.1 in (
        ap (λ (o : Option KeptChunk). cons_option o (all_gathered new qs)) still
            ∙ ap (λ (ks : List KeptChunk). cons_option (gathered_by old q) ks) rest.0,
        (ap is_some still ∙ a.0, rest.1),
      )

  module _ (order : List ChunkKey) (are : AreGathered old order) (is_new : IsNewChunk old c x) where
    here : gathered_by new (record { commitment = c; index = x.index })
        ≡ Some (record { commitment = c; chunk = x })
    here =
        ap (option_map (λ (y : Chunk). record { commitment = c; chunk = y }))
        (ap (with_index x.index)
        (more c
        ∙ ap (λ b. chunks_by old c ++ (if b then x ∷ [] else [])) (same_commitment_self c))
        ∙ (find-append (λ (y : Chunk). y.index == x.index) (chunks_by old c) (x ∷ [])
        ∙ (ap (λ (o : Option Chunk). option_or o (with_index x.index (x ∷ []))) is_new
        ∙ ap (λ b. cond b (Some x) None) (eq-eqb x.index x.index refl))))

    -- the chunk goes to the end
    pub one_more : all_gathered new (order ++ record { commitment = c; index = x.index } ∷ [])
        ≡ with_chunk (all_gathered old order) c x
    one_more =
        filter_map-append (gathered_by new) order (record { commitment = c; index = x.index } ∷ [])
        ∙ (ap
        (λ (ks : List KeptChunk). ks
        ++ all_gathered new (record { commitment = c; index = x.index } ∷ []))
        (all_still order are.there).0
        ∙ ap (λ (o : Option KeptChunk). all_gathered old order ++ cons_option o []) here)

    pub gathered_more : AreGathered new (order ++ record { commitment = c; index = x.index } ∷ [])
    gathered_more = record {
      there = go order (all_still order are.there).1;
      found =
          λ d. more d
          ∙ (ap
          (λ (xs : List Chunk). xs ++ (if same_commitment d c then x ∷ [] else []))
          (are.found d)
          ∙ (sym (chunks_more d (all_gathered old order) c x)
          ∙ ap (chunks_of d) (sym one_more)));
      some = λ d xs e. some d xs (same_commitment d c) (sym (put d) ∙ e);
    }
      where
        go : (qs : List ChunkKey) → AllByRecursion (λ q. IsTrue (is_some (gathered_by new q))) qs
            → AllByRecursion (λ q. IsTrue (is_some (gathered_by new q)))
            (qs ++ record { commitment = c; index = x.index } ∷ [])
        go [] a = (ap is_some here, tt)
        go (q ∷ qs) a = (a.0, go qs a.1)

        some : (d : Commitment) (xs : List Chunk) (b : Bool)
            → cond b (Some (chunks_by old c ++ x ∷ [])) (lookup (same_commitment d) old) ≡ Some xs
            → 0 < length xs
        some d xs true h =
            subst (λ (ys : List Chunk). 0 < length ys)
            (same_Some (chunks_by old c ++ x ∷ []) xs h)
            (omega (arith, length-append (chunks_by old c) (x ∷ [])))
        some d xs false h = are.some d xs h
