-- What is kept shows what a member is shown, and what enough chunks show stays.
use Rattle.std.proofs.Common.{◌≡◌, ℕ, zero, suc, ◌+◌, ◌≤◌, Bool, true, false, ◌==◌, if◌then◌else◌, List, [], ◌∷◌, ◌++◌, length, take, Option, Some, None, option_and_then, filter_map, refl, sym, ◌∙◌, ap, subst, arith, ◌<◌, ◌⊎◌, inl, inr, append-nil, eq-eqb, eqb-true, length-append}
use Rattle.std.specs.Option.{option_or}
use Rattle.std.proofs.lemmas.Bool.{cases_Bool, cases_lt}
use Rattle.std.proofs.lemmas.List.{take_all}
use Rattle.cw_base.specs.Counts.{Counts}
use Rattle.cw_base.specs.declared.hash.Digest32.{Digest32}
use Rattle.cw_types.specs.Block.{Block}
use Rattle.cw_types.specs.Same.{same_commitment}
use Rattle.cw_types.specs.declared.commitment.Commitment.{Commitment}
use Rattle.cw_rules.specs.Accepted.{Came, Part, Row, Whole, first_some, is_chunk_of}
use Rattle.cw_rules.specs.Coding.{IsCoder}
use Rattle.cw_rules.specs.Held.{if_committed, chunk_under, shown, shown_by, shown_by_rows, whole_of}
use Rattle.cw_rules.specs.Rules.{Chunk, Rules, block_of}
use Rattle.cw_rules.specs.declared.travel.Travel.TheVariants.{Chunked}
use Rattle.shards.specs.Kept.{Gathered, chunk_rules, chunks_of, is_kept_chunk, kept_came, with_chunk}
use Rattle.shards.specs.Standing.{StandsFor, kept_of}
use Rattle.shards.specs.Verdicts.{kept_after, of_shown, verdict}
use Rattle.shards.specs.declared.pieces.KeptChunk.{KeptChunk}
use Rattle.shards.specs.declared.verdict.Verdict.{Verdict}
use Rattle.shards.specs.declared.verdict.Verdict.TheVariants.{Foreign, Garbage, Held, Kept, Known}
use Rattle.shards.proofs.Answered.{chunks_with}
use Rattle.shards.proofs.KeptLemmas.{chunks_more, none_whole, rows_kept}
use Rattle.cw_types.proofs.Same.{same_commitment-true}

-- what the first k chunks that are kept of a commitment show
pub shown_first : (r : Rules) → r.travel ≡ Chunked → (kept : List KeptChunk) (c : Commitment)
    → shown r (kept_came kept) c
    ≡ option_and_then (if_committed r c)
    (block_of r c.config (take c.config.minimum (chunks_of c kept)))
shown_first r cut kept c =
    ap (λ t. shown_by t r (kept_came kept) c) cut
    ∙ (ap (λ o. option_or o (shown_by_rows r (kept_came kept) c)) (none_whole r c kept)
    ∙ ap (λ xs. option_and_then (if_committed r c) (block_of r c.config (take c.config.minimum xs)))
    (rows_kept c kept))

-- ---- of a member

came_rows : (c : Commitment) (parts : List Part)
    → filter_map (chunk_under c) parts ≡ chunks_of c (filter_map kept_of parts)
came_rows c [] = refl
came_rows c (Whole b ∷ parts) = came_rows c parts
came_rows c (Row d y ∷ parts) = go (same_commitment c d) refl (came_rows c parts)
  where
    go : (b : Bool) → same_commitment c d ≡ b
        → filter_map (chunk_under c) parts ≡ chunks_of c (filter_map kept_of parts)
        → filter_map (chunk_under c) (Row d y ∷ parts)
        ≡ chunks_of c (filter_map kept_of (Row d y ∷ parts))
    go true e more = rw e (ap (λ xs. y ∷ xs) more)
    go false e more = rw e more

module _ (hash : List ℕ → Digest32) (t : Gathered) (r : Rules) (came : Came)
    (stands : StandsFor hash t r came) where
  pub member_rows : (c : Commitment) → filter_map (chunk_under c) came.parts ≡ chunks_of c t.kept
  member_rows c = came_rows c came.parts ∙ ap (chunks_of c) stands.rows

  pub member_shown : (c : Commitment) → first_some (whole_of r c) came.parts ≡ None
      → shown r came c ≡ shown (chunk_rules hash t.epochs) (kept_came t.kept) c
  member_shown c none =
      ap (λ (q : Rules). shown_by q.travel r came c) stands.rules
      ∙ (ap (λ o. option_or o (shown_by_rows r came c)) none
      ∙ (ap
      (λ xs. option_and_then (if_committed r c)
      (block_of r c.config (take c.config.minimum xs)))
      (member_rows c)
      ∙ (ap
      (λ (q : Rules). option_and_then (if_committed q c)
      (block_of q c.config (take c.config.minimum (chunks_of c t.kept))))
      stands.rules
      ∙ sym (shown_first (chunk_rules hash t.epochs) refl t.kept c))))

-- ---- of enough chunks

chunks_append : (c : Commitment) (kept more : List KeptChunk)
    → chunks_of c (kept ++ more) ≡ chunks_of c kept ++ chunks_of c more
chunks_append c [] more = refl
chunks_append c (k ∷ ks) more = go (same_commitment c k.commitment) refl (chunks_append c ks more)
  where
    go : (b : Bool) → same_commitment c k.commitment ≡ b
        → chunks_of c (ks ++ more) ≡ chunks_of c ks ++ chunks_of c more
        → chunks_of c ((k ∷ ks) ++ more) ≡ chunks_of c (k ∷ ks) ++ chunks_of c more
    go true e later = rw e (ap (λ xs. k.chunk ∷ xs) later)
    go false e later = rw e later

take_first : {X : Type 0} (n : ℕ) (xs ys : List X) → n ≤ length xs → take n (xs ++ ys) ≡ take n xs
take_first zero xs ys h = refl
take_first (suc n) [] ys h = absurd (omega arith)
take_first (suc n) (x ∷ xs) ys h = ap (λ zs. x ∷ zs) (take_first n xs ys (omega arith))

pub enough_stay : (r : Rules) → r.travel ≡ Chunked → (kept more : List KeptChunk) (c : Commitment)
    → c.config.minimum ≤ length (chunks_of c kept)
    → shown r (kept_came (kept ++ more)) c ≡ shown r (kept_came kept) c
enough_stay r cut kept more c enough =
    shown_first r cut (kept ++ more) c
    ∙ (ap (λ xs. option_and_then (if_committed r c) (block_of r c.config xs))
    (ap (take c.config.minimum) (chunks_append c kept more)
    ∙ take_first c.config.minimum (chunks_of c kept) (chunks_of c more) enough)
    ∙ sym (shown_first r cut kept c))

-- ---- of a verdict

shown_held : (o : Option Block) (b : Block) → of_shown o ≡ Held b → o ≡ Some b
shown_held None b e = cc
shown_held (Some a) b e = cc

shown_garbage : (o : Option Block) → of_shown o ≡ Garbage → o ≡ None
shown_garbage None e = refl
shown_garbage (Some a) e = cc

module _ (r : Rules) (cut : r.travel ≡ Chunked) (kept more : List KeptChunk) (c : Commitment)
    (x : Chunk) where
  -- the k-th chunk and what is kept behind it
  kth_stays : (length (chunks_of c kept) + 1 == c.config.minimum) ≡ true
      → shown r (kept_came (with_chunk kept c x ++ more)) c
      ≡ shown r (kept_came (with_chunk kept c x)) c
  kth_stays last =
      let e = eqb-true (length (chunks_of c kept) + 1) c.config.minimum last in
      enough_stay r cut (with_chunk kept c x) more c
      (omega (
        arith,
        e,
        ap length (chunks_with c kept x),
        length-append (chunks_of c kept) (x ∷ []),
      ))

  -- a verdict that is given at the k-th chunk alone says what is shown
  shows : (v : Verdict) (o : Option Block) → (Known ≡ v → ⊥) → (Foreign ≡ v → ⊥) → (Kept ≡ v → ⊥)
      → ((p : Option Block) → of_shown p ≡ v → p ≡ o)
      → (known taken last : Bool) → (length (chunks_of c kept) + 1 == c.config.minimum) ≡ last
      → (if known then Known else if taken
      then (if last then of_shown (shown r (kept_came (with_chunk kept c x)) c) else Kept)
      else Foreign)
      ≡ v
      → shown r
      (kept_came ((if known then kept else if taken then with_chunk kept c x else kept) ++ more))
      c
      ≡ o
  shows v o a b d by true taken last is e = absurd (a e)
  shows v o a b d by false false last is e = absurd (b e)
  shows v o a b d by false true false is e = absurd (d e)
  shows v o a b d by false true true is e =
      kth_stays is ∙ by (shown r (kept_came (with_chunk kept c x)) c) e

  pub held_stays : (b : Block) → verdict r kept c x ≡ Held b
      → shown r (kept_came (kept_after r kept c x ++ more)) c ≡ Some b
  held_stays b =
      shows (Held b) (Some b) (λ e. cc) (λ e. cc) (λ e. cc) (λ p e. shown_held p b e)
      (is_kept_chunk kept c x) (is_chunk_of r c x)
      (length (chunks_of c kept) + 1 == c.config.minimum) refl

  pub garbage_stays : verdict r kept c x ≡ Garbage
      → shown r (kept_came (kept_after r kept c x ++ more)) c ≡ None
  garbage_stays =
      shows Garbage None (λ e. cc) (λ e. cc) (λ e. cc) shown_garbage (is_kept_chunk kept c x)
      (is_chunk_of r c x) (length (chunks_of c kept) + 1 == c.config.minimum) refl

-- ---- of a chunk that shows no block

-- fewer than k chunks show nothing
few_are_none : (r : Rules) → IsCoder r → (x : Counts) (chunks : List Chunk)
    → length chunks < x.minimum → block_of r x chunks ≡ None
few_are_none r coder x chunks few = go (r.text_of x chunks) refl
  where
    go : (o : Option (List ℕ)) → r.text_of x chunks ≡ o
        → option_and_then r.read_block (r.text_of x chunks) ≡ None
    go None e = rw e refl
    go (Some text) e = absurd (let long = (coder.sound x chunks text e).0 in omega arith)

few_show_none : (r : Rules) → r.travel ≡ Chunked → IsCoder r
    → (kept : List KeptChunk) (c : Commitment) → length (chunks_of c kept) < c.config.minimum
    → shown r (kept_came kept) c ≡ None
few_show_none r cut coder kept c few =
    shown_first r cut kept c
    ∙ (ap (λ xs. option_and_then (if_committed r c) (block_of r c.config xs))
    (take_all c.config.minimum (chunks_of c kept) (omega (arith, few)))
    ∙ ap (option_and_then (if_committed r c))
    (few_are_none r coder c.config (chunks_of c kept) few))

none_held : (o : Option Block) → ((b : Block) → of_shown o ≡ Held b → ⊥) → o ≡ None
none_held None unheld = refl
none_held (Some b) unheld = absurd (unheld b refl)

-- a chunk leaves what is shown of another commitment
pub others_stay : (r : Rules) → r.travel ≡ Chunked → (kept : List KeptChunk) (c d : Commitment)
    (x : Chunk)
    → same_commitment d c ≡ false
    → shown r (kept_came (kept_after r kept c x)) d ≡ shown r (kept_came kept) d
others_stay r cut kept c d x other = go (is_kept_chunk kept c x) (is_chunk_of r c x)
  where
    go : (known taken : Bool)
        → shown r (kept_came (if known then kept else if taken then with_chunk kept c x else kept))
        d
        ≡ shown r (kept_came kept) d
    go true taken = refl
    go false false = refl
    go false true =
        shown_first r cut (with_chunk kept c x) d
        ∙ (ap
        (λ xs. option_and_then (if_committed r d)
        (block_of r d.config (take d.config.minimum xs)))
        (chunks_more d kept c x
        ∙ (ap (λ b. chunks_of d kept ++ (if b then x ∷ [] else [])) other
        ∙ append-nil (chunks_of d kept)))
        ∙ sym (shown_first r cut kept d))

module _ (r : Rules) (cut : r.travel ≡ Chunked) (coder : IsCoder r) (kept : List KeptChunk)
    (c : Commitment) (x : Chunk) where
  -- what is kept before the last of k chunks, and after more, shows the same
  not_last : (length (chunks_of c kept) + 1 == c.config.minimum) ≡ false
      → shown r (kept_came (with_chunk kept c x)) c ≡ shown r (kept_came kept) c
  not_last is = go (cases_lt (length (chunks_of c kept)) c.config.minimum)
    where
      other : length (chunks_of c kept) + 1 ≡ c.config.minimum → ⊥
      other e = let t = eq-eqb (length (chunks_of c kept) + 1) c.config.minimum e in cc

      long : length (chunks_of c (with_chunk kept c x)) ≡ length (chunks_of c kept) + 1
      long = ap length (chunks_with c kept x) ∙ length-append (chunks_of c kept) (x ∷ [])

      go : (length (chunks_of c kept) < c.config.minimum)
          ⊎ (c.config.minimum ≤ length (chunks_of c kept))
          → shown r (kept_came (with_chunk kept c x)) c ≡ shown r (kept_came kept) c
      go (inr more) = enough_stay r cut kept (record { commitment = c; chunk = x } ∷ []) c more
      go (inl less) = by_next (cases_lt (length (chunks_of c kept) + 1) c.config.minimum)
        where
          by_next : (length (chunks_of c kept) + 1 < c.config.minimum)
              ⊎ (c.config.minimum ≤ length (chunks_of c kept) + 1)
              → shown r (kept_came (with_chunk kept c x)) c ≡ shown r (kept_came kept) c
          by_next (inl few) =
              few_show_none r cut coder (with_chunk kept c x) c (omega (arith, few, long))
              ∙ sym (few_show_none r cut coder kept c less)
          by_next (inr last) = absurd (other (omega (arith, less, last)))

  own_stays : (known taken last : Bool) → (length (chunks_of c kept) + 1 == c.config.minimum) ≡ last
      → ((b : Block)
      → (if known then Known else if taken
      then (if last then of_shown (shown r (kept_came (with_chunk kept c x)) c) else Kept)
      else Foreign)
      ≡ Held b
      → ⊥)
      → shown r (kept_came (if known then kept else if taken then with_chunk kept c x else kept)) c
      ≡ shown r (kept_came kept) c
  own_stays true taken last is unheld = refl
  own_stays false false last is unheld = refl
  own_stays false true false is unheld = not_last is
  own_stays false true true is unheld =
      let e = eqb-true (length (chunks_of c kept) + 1) c.config.minimum is in
      none_held (shown r (kept_came (with_chunk kept c x)) c) unheld
      ∙ sym (few_show_none r cut coder kept c (omega (arith, e)))

  -- a chunk that shows no block leaves what is shown
  pub unheld_stays : (d : Commitment) → ((b : Block) → verdict r kept c x ≡ Held b → ⊥)
      → shown r (kept_came (kept_after r kept c x)) d ≡ shown r (kept_came kept) d
  unheld_stays d unheld = go (cases_Bool (same_commitment d c))
    where
      go : (same_commitment d c ≡ true) ⊎ (same_commitment d c ≡ false)
          → shown r (kept_came (kept_after r kept c x)) d ≡ shown r (kept_came kept) d
      go (inl t) =
          subst (λ e. shown r (kept_came (kept_after r kept c x)) e ≡ shown r (kept_came kept) e)
          (sym (same_commitment-true d c t))
          (own_stays (is_kept_chunk kept c x) (is_chunk_of r c x)
          (length (chunks_of c kept) + 1 == c.config.minimum) refl unheld)
      go (inr f) = others_stay r cut kept c d x f
