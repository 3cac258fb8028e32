-- The commitment and the chunks of a block are those of the rules.
use Rattle.std.proofs.Common.{◌≡◌, ℕ, zero, suc, ◌+◌, ◌<◌, Bool, List, [], ◌∷◌, ◌++◌, length, map}
use Rattle.std.proofs.Common.{unwrap_or, refl, sym, ◌∙◌, ap, arith, add-one}
use Rattle.std.specs.List.{enumerate_from}
use Rattle.std.proofs.lemmas.List.{map-append}
use Rattle.cw_base.specs.Rows.{listed}
use Rattle.cw_base.proofs.Listed.{length-listed, listed_more, listed_none, listed_same, map-listed}
use Rattle.cw_base.specs.Counts.{Counts}
use Rattle.cw_base.specs.declared.hash.Digest32.{Digest32}
use Rattle.cw_coding.specs.Encoding.{piece_of}
use Rattle.cw_coding.specs.Layout.{row_at, row_digests}
use Rattle.cw_tree.specs.Tree.{path_of, root_of}
use Rattle.cw_types.specs.Block.{Block}
use Rattle.cw_types.specs.Commit as types
use Rattle.cw_types.specs.Commit.{digest_bytes, empty_digest, text_root}
use Rattle.cw_types.specs.Encoding.{block_bytes, context_bytes}
use Rattle.cw_types.specs.Epochs.{Epochs, size}
use Rattle.cw_types.specs.Numbers.{config_for}
use Rattle.cw_rules.specs.Rules.{Rules, row_chunk, chunks, commit}
use Rattle.cw_rules_coded.specs.Coded.{code_rows, coded, root_over}

enumerate_push : {X : Type 0} (n : ℕ) (xs : List X) (y : X)
    → enumerate_from n (xs ++ y ∷ []) ≡ enumerate_from n xs ++ (n + length xs, y) ∷ []
enumerate_push n [] y = let e : n ≡ n + 0 = omega arith in ap (λ k. (k, y) ∷ []) e
enumerate_push n (x ∷ xs) y =
    let e : n + 1 + length xs ≡ n + length (x ∷ xs) = omega arith in
    ap (λ zs. (n, x) ∷ zs) (enumerate_push (n + 1) xs y)
    ∙ ap (λ k. (n, x) ∷ (enumerate_from (n + 1) xs ++ (k, y) ∷ [])) e

-- what is made of each row and its place, in order
enumerated : {X Y : Type 0} (F : ℕ → X → Y) (n : ℕ) (f : ℕ → X)
    → map (λ (at : ℕ × X). F at.0 at.1) (enumerate_from 0 (listed n f)) ≡ listed n (λ i. F i (f i))
enumerated F zero f = rw (listed_none f, listed_none (λ i. F i (f i))) refl
enumerated {X = X} F (suc n) f =
    let more : listed (suc n) f ≡ listed n f ++ f n ∷ [] = rw (← add-one) (listed_more n f) in
    let long : 0 + length (listed n f) ≡ n = omega (arith, length-listed n f) in
    ap (λ xs. map (λ (at : ℕ × X). F at.0 at.1) (enumerate_from 0 xs)) more
    ∙ (ap (map (λ (at : ℕ × X). F at.0 at.1)) (enumerate_push 0 (listed n f) (f n))
    ∙ (map-append (λ (at : ℕ × X). F at.0 at.1) (enumerate_from 0 (listed n f))
    ((0 + length (listed n f), f n) ∷ [])
    ∙ (ap (λ xs. xs ++ F (0 + length (listed n f)) (f n) ∷ []) (enumerated F n f)
    ∙ (ap (λ k. listed n (λ i. F i (f i)) ++ F k (f n) ∷ []) long
    ∙ sym (rw (← add-one) (listed_more n (λ i. F i (f i))))))))

-- the digests of a text's rows
row_digests_are : (hash : List ℕ → Digest32) (k m : ℕ) (text : List ℕ)
    → row_digests hash k m text ≡ map hash (code_rows text k m)
row_digests_are hash k m text = sym (map-listed (k + m) (row_at k text) hash)

-- the root of a text is that over the digests of its rows
pub text_root_is : (hash : List ℕ → Digest32) (x : Counts) (text : List ℕ)
    → text_root hash x text ≡ root_over hash (map hash (code_rows text x.minimum x.extra))
text_root_is hash x text =
    ap (λ ds. unwrap_or (root_of hash digest_bytes ds) empty_digest)
    (row_digests_are hash x.minimum x.extra text)

module _ (hash : List ℕ → Digest32) (epochs : Epochs) (backlog : ℕ) (accepts : Block → Block → Bool)
    (b : Block) where
  abbrev r : Rules
  r = coded hash epochs backlog accepts

  abbrev own : Counts
  own = config_for (size epochs b.context.epoch)

  pub commit_by_rules : types.commit hash (size epochs b.context.epoch) b ≡ commit r b
  commit_by_rules =
      let root = text_root_is hash own (block_bytes b) in
      λ i. record {
        block = hash (block_bytes b);
        root = root i;
        context = hash (context_bytes b.context);
        config = own;
      }

  pub chunks_by_rules : types.block_chunks hash (size epochs b.context.epoch) b ≡ chunks r b
  chunks_by_rules =
      listed_same (own.minimum + own.extra) (piece_of hash digest_bytes own (block_bytes b))
      (λ i. row_chunk r rows i (row_at own.minimum (block_bytes b) i)) each
      ∙ sym
      (enumerated (row_chunk r rows) (own.minimum + own.extra)
      (row_at own.minimum (block_bytes b)))
    where
      rows : List (List ℕ)
      rows = code_rows (block_bytes b) own.minimum own.extra

      each : (i : ℕ) → i < own.minimum + own.extra
          → piece_of hash digest_bytes own (block_bytes b) i
          ≡ row_chunk r rows i (row_at own.minimum (block_bytes b) i)
      each i l =
          let long : own.minimum + own.extra ≡ length rows =
          sym (length-listed (own.minimum + own.extra) (row_at own.minimum (block_bytes b))) in
          let digests : row_digests hash own.minimum own.extra (block_bytes b) ≡ map hash rows =
          row_digests_are hash own.minimum own.extra (block_bytes b) in
          λ j. record {
            shard = row_at own.minimum (block_bytes b) i;
            index = i;
            leaf_count = long j;
            siblings = path_of hash digest_bytes i (digests j);
          }
