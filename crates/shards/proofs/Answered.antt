-- The verdict on a chunk that is kept.
use Rattle.std.proofs.Common.{◌≡◌, ℕ, ◌+◌, ◌-◌, ◌≤◌, ◌==◌, true, false, if◌then◌else◌, IsTrue, List, [], ◌∷◌, ◌++◌, length, Option, sym, ◌∙◌, ap, subst, arith, eq-eqb, length-append}
use Rattle.std.specs.List.{AllByRecursion, list_any}
use Rattle.std.specs.Option.{option_and_then}
use Rattle.std.proofs.lemmas.Bool.{and_parts, cond-false, cond-true}
use Rattle.cw_base.specs.Config.{same_counts}
use Rattle.cw_base.specs.declared.hash.Digest32.{Digest32}
use Rattle.cw_types.specs.Block.{Block}
use Rattle.cw_types.specs.Epochs.{Epochs}
use Rattle.cw_types.specs.declared.commitment.Commitment.{Commitment}
use Rattle.cw_rules.specs.Accepted.{is_chunk_of}
use Rattle.cw_rules.specs.Held.{if_committed}
use Rattle.cw_rules.specs.Rules.{Chunk, Rules, block_of, is_under}
use Rattle.cw_coding.specs.Totals.{total_of}
use Rattle.cw_types.specs.Numbers.{config_for}
use Rattle.shards.specs.Enough.{AreEnough, AreUnder}
use Rattle.cw_rules.specs.declared.travel.Travel.TheVariants.{Chunked}
use Rattle.shards.specs.Kept.{AreTakenOnce, chunk_rules, chunks_of, is_kept_chunk, with_chunk}
use Rattle.shards.specs.Verdicts.{kept_verdict, of_shown, verdict}
use Rattle.shards.specs.declared.pieces.KeptChunk.{KeptChunk}
use Rattle.shards.specs.declared.verdict.Verdict.{Verdict}
use Rattle.shards.specs.declared.verdict.Verdict.TheVariants.{Foreign, Kept, Known}
use Rattle.shards.proofs.KeptLemmas.{chunks_more, keep_more, shown_kept}
use Rattle.cw_types.proofs.Same.{same_commitment_self}

-- with one more of the same commitment
pub chunks_with : (c : Commitment) (kept : List KeptChunk) (x : Chunk)
    → chunks_of c (with_chunk kept c x) ≡ chunks_of c kept ++ x ∷ []
chunks_with c kept x =
    chunks_more c kept c x
    ∙ ap (λ b. chunks_of c kept ++ (if b then x ∷ [] else [])) (same_commitment_self c)

all_under : (hash : List ℕ → Digest32) (epochs : Epochs) (c : Commitment) (xs : List Chunk)
    → AllByRecursion (λ x. IsTrue (is_chunk_of (chunk_rules hash epochs) c x)) xs
    → AreUnder hash c xs
all_under hash epochs c [] a = tt
all_under hash epochs c (x ∷ xs) a = (
  (and_parts
      (list_any (λ (list : List ℕ). same_counts c.config (config_for (length list))) epochs.lists)
      (is_under (chunk_rules hash epochs) c x) a.0).1,
  all_under hash epochs c xs a.1,
)

-- k chunks that are kept are enough
pub enough_kept : (hash : List ℕ → Digest32) (epochs : Epochs) (kept : List KeptChunk)
    (c : Commitment) (x : Chunk)
    → AreTakenOnce (chunk_rules hash epochs) kept → is_kept_chunk kept c x ≡ false
    → is_chunk_of (chunk_rules hash epochs) c x ≡ true → 2 ≤ c.config.minimum
    → total_of c.config ≤ 65535 → length (chunks_of c kept) ≡ c.config.minimum - 1
    → AreEnough hash c (chunks_of c kept ++ x ∷ [])
enough_kept hash epochs kept c x are new taken some few n =
    let more = keep_more (chunk_rules hash epochs) kept c x are new taken in
    record {
      some = some;
      few = few;
      enough = omega (arith, length-append (chunks_of c kept) (x ∷ []));
      under =
          all_under hash epochs c (chunks_of c kept ++ x ∷ [])
          (subst (AllByRecursion (λ y. IsTrue (is_chunk_of (chunk_rules hash epochs) c y)))
          (chunks_with c kept x) (more.taken c));
      apart = rw (← chunks_with c kept x) (more.apart c);
    }

-- the verdict on the k-th chunk
pub verdict_shown : (r : Rules) → r.travel ≡ Chunked
    → (kept : List KeptChunk) (c : Commitment) (x : Chunk) (block : Option Block)
    → 2 ≤ c.config.minimum → length (chunks_of c kept) ≡ c.config.minimum - 1
    → block ≡ option_and_then (if_committed r c) (block_of r c.config (chunks_of c kept ++ x ∷ []))
    → of_shown block ≡ kept_verdict r kept c x
verdict_shown r cut kept c x block some n is =
    let long : length (chunks_of c (with_chunk kept c x)) ≡ c.config.minimum =
    ap length (chunks_with c kept x)
    ∙ omega (arith, length-append (chunks_of c kept) (x ∷ [])) in
    let last : (length (chunks_of c kept) + 1 == c.config.minimum) ≡ true =
    eq-eqb _ _ (omega arith) in
    ap of_shown
    (is
    ∙ (ap (λ xs. option_and_then (if_committed r c) (block_of r c.config xs))
    (sym (chunks_with c kept x))
    ∙ sym (shown_kept r cut c (with_chunk kept c x) long)))
    ∙ sym (cond-true (length (chunks_of c kept) + 1 == c.config.minimum) _ Kept last)

-- the verdict on a chunk that isn't known and that the rules take
pub verdict_taken : (r : Rules) (kept : List KeptChunk) (c : Commitment) (x : Chunk) (v : Verdict)
    → is_kept_chunk kept c x ≡ false → is_chunk_of r c x ≡ true → v ≡ kept_verdict r kept c x
    → v ≡ verdict r kept c x
verdict_taken r kept c x v new taken is =
    is
    ∙ (sym (cond-true (is_chunk_of r c x) (kept_verdict r kept c x) Foreign taken)
    ∙ sym
    (cond-false (is_kept_chunk kept c x) Known
    (if is_chunk_of r c x then kept_verdict r kept c x else Foreign) new))
