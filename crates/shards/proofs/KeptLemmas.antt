-- The chunks that are kept of a commitment, and one more.
use Rattle.std.proofs.Common.{◌≡◌, ◌≢◌, Bool, true, false, ◌&&◌, ◌||◌, ◌==◌, if◌then◌else◌, IsTrue, List, [], ◌∷◌, ◌++◌, length, map, take, None, refl, sym, ◌∙◌, ap, subst, arith, ◌⊎◌, inl, inr, eq-eqb}
use Rattle.std.specs.List.{AllByRecursion, filter_map}
use Rattle.std.specs.Option.{option_and_then, option_or}
use Rattle.std.proofs.lemmas.Bool.{cases_Bool}
use Rattle.std.proofs.lemmas.List.{append-nil, take_all}
use Rattle.cw_types.specs.Same.{same_commitment}
use Rattle.cw_types.specs.declared.commitment.Commitment.{Commitment}
use Rattle.cw_rules.specs.Accepted.{first_some, is_chunk_of}
use Rattle.cw_rules.specs.Coding.{AreApart}
use Rattle.cw_rules.specs.Held.{if_committed, chunk_under, shown, shown_by, shown_by_rows, whole_of}
use Rattle.cw_rules.specs.Rules.{Chunk, Rules, block_of}
use Rattle.cw_rules.specs.declared.travel.Travel.TheVariants.{Chunked}
use Rattle.shards.specs.Kept.{AreTakenOnce, chunks_of, is_kept_chunk, kept_came, part_of, with_chunk}
use Rattle.shards.specs.declared.pieces.KeptChunk.{KeptChunk}
use Rattle.cw_types.proofs.Same.{same_commitment-true}
use Rattle.cw_rules.proofs.Lists.{all_both}
use Rattle.cw_rules.proofs.Codewords.{apart_more}

-- the rows of a commitment that came are the chunks that were kept of it
pub rows_kept : (c : Commitment) (kept : List KeptChunk)
    → filter_map (chunk_under c) (map part_of kept) ≡ chunks_of c kept
rows_kept c [] = refl
rows_kept c (k ∷ ks) = go (same_commitment c k.commitment) refl (rows_kept c ks)
  where
    go : (b : Bool) → same_commitment c k.commitment ≡ b
        → filter_map (chunk_under c) (map part_of ks) ≡ chunks_of c ks
        → filter_map (chunk_under c) (map part_of (k ∷ ks)) ≡ chunks_of c (k ∷ ks)
    go true e more = rw e (ap (λ xs. k.chunk ∷ xs) more)
    go false e more = rw e more

pub none_whole : (r : Rules) (c : Commitment) (kept : List KeptChunk)
    → first_some (whole_of r c) (map part_of kept) ≡ None
none_whole r c [] = refl
none_whole r c (k ∷ ks) = none_whole r c ks

-- what k kept chunks show
pub shown_kept : (r : Rules) → r.travel ≡ Chunked → (c : Commitment) (kept : List KeptChunk)
    → length (chunks_of c kept) ≡ c.config.minimum →
    shown r (kept_came kept) c
    ≡ option_and_then (if_committed r c) (block_of r c.config (chunks_of c kept))
shown_kept r cut c kept enough =
    ap (λ t. shown_by t r (kept_came kept) c) cut
    ∙ (ap (λ o. option_or o (shown_by_rows r (kept_came kept) c)) (none_whole r c kept)
    ∙ ap (λ xs. option_and_then (if_committed r c) (block_of r c.config xs))
    (ap (take c.config.minimum) (rows_kept c kept)
    ∙ take_all c.config.minimum (chunks_of c kept) (omega (arith, enough))))

-- one more chunk of the commitment, or of another
pub chunks_more : (c : Commitment) (kept : List KeptChunk) (d : Commitment) (x : Chunk)
    → chunks_of c (with_chunk kept d x)
    ≡ chunks_of c kept ++ (if same_commitment c d then x ∷ [] else [])
chunks_more c [] d x = go (same_commitment c d) refl
  where
    go : (b : Bool) → same_commitment c d ≡ b
        → chunks_of c (with_chunk [] d x) ≡ (if same_commitment c d then x ∷ [] else [])
    go true e = rw e refl
    go false e = rw e refl
chunks_more c (k ∷ ks) d x = go (same_commitment c k.commitment) refl (chunks_more c ks d x)
  where
    go : (b : Bool) → same_commitment c k.commitment ≡ b
        → chunks_of c (with_chunk ks d x)
        ≡ chunks_of c ks ++ (if same_commitment c d then x ∷ [] else [])
        →
        chunks_of c (with_chunk (k ∷ ks) d x)
        ≡ chunks_of c (k ∷ ks) ++ (if same_commitment c d then x ∷ [] else [])
    go true e more = rw e (ap (λ xs. k.chunk ∷ xs) more)
    go false e more = rw e more

-- a chunk that isn't known has another index than those kept of its commitment
pub unknown_apart : (c : Commitment) (x : Chunk) (kept : List KeptChunk) → is_kept_chunk kept c x
    ≡ false
    → AllByRecursion (λ (y : Chunk). y.index ≢ x.index) (chunks_of c kept)
unknown_apart c x [] h = tt
unknown_apart c x (k ∷ ks) h = go (same_commitment c k.commitment) refl h (unknown_apart c x ks)
  where
    go : (b : Bool) → same_commitment c k.commitment ≡ b
        → ((same_commitment c k.commitment && (x.index == k.chunk.index)) || is_kept_chunk ks c x)
        ≡ false
        → (is_kept_chunk ks c x ≡ false
        → AllByRecursion (λ (y : Chunk). y.index ≢ x.index) (chunks_of c ks))
        → AllByRecursion (λ (y : Chunk). y.index ≢ x.index) (chunks_of c (k ∷ ks))
    go false e n more = rw e (more (rw e at n))
    go true e n more = rw e (here (x.index == k.chunk.index) refl (rw e at n))
      where
        here : (b : Bool) → (x.index == k.chunk.index) ≡ b
            → ((x.index == k.chunk.index) || is_kept_chunk ks c x) ≡ false
            → (k.chunk.index ≢ x.index)
            × AllByRecursion (λ (y : Chunk). y.index ≢ x.index) (chunks_of c ks)
        here true t m = cc (ap (λ b. b || is_kept_chunk ks c x) t)
        here false f m = (
          λ same. cc (eq-eqb x.index k.chunk.index (sym same)),
          more (ap (λ b. b || is_kept_chunk ks c x) (sym f) ∙ m),
        )

-- what is kept stays lawful
pub keep_more : (r : Rules) (kept : List KeptChunk) (c : Commitment) (x : Chunk)
    → AreTakenOnce r kept → is_kept_chunk kept c x ≡ false → is_chunk_of r c x ≡ true
    → AreTakenOnce r (with_chunk kept c x)
keep_more r kept c x are new taken =
    record {
      taken = λ d. rw (chunks_more d kept c x) (take_in d (cases_Bool (same_commitment d c)));
      apart = λ d. rw (chunks_more d kept c x) (apart_in d (cases_Bool (same_commitment d c)));
    }
  where
    take_in : (d : Commitment) → (same_commitment d c ≡ true) ⊎ (same_commitment d c ≡ false)
        → AllByRecursion (λ y. IsTrue (is_chunk_of r d y))
        (chunks_of d kept ++ (if same_commitment d c then x ∷ [] else []))
    take_in d (inl e) =
        rw e
        (all_both (λ y. IsTrue (is_chunk_of r d y)) (chunks_of d kept) (x ∷ []) (are.taken d) (
          subst (λ e. IsTrue (is_chunk_of r e x)) (sym (same_commitment-true d c e)) taken,
          tt,
        ))
    take_in d (inr e) = rw e (rw append-nil (are.taken d))

    apart_in : (d : Commitment) → (same_commitment d c ≡ true) ⊎ (same_commitment d c ≡ false)
        → AreApart (chunks_of d kept ++ (if same_commitment d c then x ∷ [] else []))
    apart_in d (inl e) =
        rw e
        (apart_more (chunks_of d kept) x (are.apart d)
        (subst (λ e. AllByRecursion (λ (y : Chunk). y.index ≢ x.index) (chunks_of e kept))
        (sym (same_commitment-true d c e)) (unknown_apart c x kept new)))
    apart_in d (inr e) = rw e (rw append-nil (are.apart d))
