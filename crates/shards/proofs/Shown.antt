-- What is shown by the text of chunks.
use Rattle.std.proofs.Common.{◌≡◌, ℕ, ◌+◌, ◌<◌, Bool, true, false, ◌&&◌, List, length, map, slice_get, Option, Some, None, refl, sym, ◌∙◌, ap, subst, arith, ◌⊎◌, inl, inr}
use Rattle.std.specs.Option.{option_and_then, option_map_or}
use Rattle.std.proofs.lemmas.Bool.{cases_Bool}
use Rattle.std.proofs.lemmas.List.{length-map}
use Rattle.std.proofs.lemmas.Option.{same_Some}
use Rattle.cw_base.specs.Config.{same_counts}
use Rattle.cw_base.proofs.Listed.{length-listed, map-listed}
use Rattle.cw_base.specs.Counts.{Counts}
use Rattle.cw_base.specs.declared.hash.Digest32.{Digest32}
use Rattle.cw_coding.specs.Layout.{row_at, row_digests}
use Rattle.cw_tree.specs.Tree.{path_of, root_by, root_of}
use Rattle.cw_tree.proofs.TreeRoots.{root_by-path_of}
use Rattle.cw_types.specs.Block.{Block}
use Rattle.cw_types.specs.Encoding.{block_bytes, context_bytes}
use Rattle.cw_types.specs.Epochs.{Epochs}
use Rattle.cw_types.specs.Same.{same_commitment, same_digest}
use Rattle.cw_types.specs.declared.commitment.Commitment.{Commitment}
use Rattle.cw_rules.specs.Coding.{IsCoder}
use Rattle.cw_rules.specs.Held.{if_committed}
use Rattle.cw_rules.specs.Rules.{Chunk, block_of, commit, config}
use Rattle.cw_rules_coded.specs.Coded.{code_rows, decoded, digest_bytes, root_over}
use Rattle.shards.specs.Enough.{AreOfText}
use Rattle.shards.specs.Kept.{chunk_rules}
use Rattle.cw_types.specs.Reading.{block_in}
use Rattle.cw_rules_coded.proofs.RealCoder.{listed_at, get-mapped}
use Rattle.cw_types.proofs.Same.{same_commitment-true, same_digest-true, same_digest_self, same_counts-true}

module _ (hash : List ℕ → Digest32) (epochs : Epochs) where
  -- the root over the rows of a text
  pub root_there : (x : Counts) (text : List ℕ) → IsCoder (chunk_rules hash epochs) → 0 < x.minimum
      → root_of hash digest_bytes (row_digests hash x.minimum x.extra text)
      ≡ Some (root_over hash (map hash (code_rows text x.minimum x.extra)))
  root_there x text coder pos =
      ap (root_of hash digest_bytes)
      (sym (map-listed (x.minimum + x.extra) (row_at x.minimum text) hash))
      ∙ there (root_of hash digest_bytes ds) refl
    where
      rows : List (List ℕ)
      rows = code_rows text x.minimum x.extra

      ds : List Digest32
      ds = map hash rows

      first : List ℕ
      first = row_at x.minimum text 0

      at : slice_get rows 0 ≡ Some first
      at = listed_at (x.minimum + x.extra) (row_at x.minimum text) 0 (omega arith)

      long : length ds ≡ x.minimum + x.extra
      long = length-map rows hash ∙ length-listed (x.minimum + x.extra) (row_at x.minimum text)

      up : root_by hash digest_bytes (length ds) (path_of hash digest_bytes 0 ds) 0 (hash first)
          ≡ root_of hash digest_bytes ds
      up =
          root_by-path_of hash digest_bytes ds 0 (hash first) (omega (arith, long))
          (sym (get-mapped hash rows 0 first (hash first) at))

      led : option_map_or (same_digest (root_over hash ds))
          (root_by hash digest_bytes (length rows) (path_of hash digest_bytes 0 ds) 0 (hash first))
          false
          ≡ true
      led = coder.leads rows 0 first at

      there : (o : Option Digest32) → root_of hash digest_bytes ds ≡ o
          → root_of hash digest_bytes ds ≡ Some (root_over hash ds)
      there o e =
          go o e
          (subst (λ p. option_map_or (same_digest (root_over hash ds)) p false ≡ true)
          (subst
          (λ n. root_by hash digest_bytes n (path_of hash digest_bytes 0 ds) 0
          (hash first)
          ≡ o)
          (length-map rows hash) (up ∙ e))
          led)
        where
          go : (p : Option Digest32) → root_of hash digest_bytes ds ≡ p
              → option_map_or (same_digest (root_over hash ds)) p false ≡ true
              → root_of hash digest_bytes ds ≡ Some (root_over hash ds)
          go None f t = cc
          go (Some d) f t = f ∙ ap Some (sym (same_digest-true (root_over hash ds) d t))

  -- chunks of a text show what the text is read as
  pub shows_text : (c : Commitment) (chunks : List Chunk) (text : List ℕ)
      → AreOfText hash c chunks text
      → option_and_then (if_committed (chunk_rules hash epochs) c)
      (block_of (chunk_rules hash epochs) c.config chunks)
      ≡ option_and_then (if_committed (chunk_rules hash epochs) c) (block_in text)
  shows_text c chunks text of =
      ap (λ o. option_and_then (if_committed (chunk_rules hash epochs) c)
      (option_and_then block_in o))
      of.decodes

  -- a block that is committed to so has that root
  committed_root : (c : Commitment) (b : Block) → IsCoder (chunk_rules hash epochs)
      → 0 < c.config.minimum → commit (chunk_rules hash epochs) b ≡ c
      → root_of hash digest_bytes (row_digests hash c.config.minimum c.config.extra (block_bytes b))
      ≡ Some c.root
  committed_root c b coder pos e =
      let configs : config (chunk_rules hash epochs) b.context.epoch ≡ c.config =
      ap (λ (d : Commitment). d.config) e in
      let roots : root_over hash
      (map hash
      (code_rows (block_bytes b) (config (chunk_rules hash epochs) b.context.epoch).minimum
      (config (chunk_rules hash epochs) b.context.epoch).extra))
      ≡ c.root =
      ap (λ (d : Commitment). d.root) e in
      root_there c.config (block_bytes b) coder pos
      ∙ ap Some
      (ap
      (λ (x : Counts). root_over hash
      (map hash (code_rows (block_bytes b) x.minimum x.extra)))
      (sym configs)
      ∙ roots)

  -- chunks of no text show nothing
  pub shows_none : (c : Commitment) (chunks : List Chunk) → IsCoder (chunk_rules hash epochs)
      → 0 < c.config.minimum → ((text : List ℕ) → AreOfText hash c chunks text → ⊥)
      → option_and_then (if_committed (chunk_rules hash epochs) c)
      (block_of (chunk_rules hash epochs) c.config chunks)
      ≡ None
  shows_none c chunks coder pos none = go (decoded c.config chunks) refl
    where
      go : (o : Option (List ℕ)) → decoded c.config chunks ≡ o
          → option_and_then (if_committed (chunk_rules hash epochs) c)
          (option_and_then block_in (decoded c.config chunks))
          ≡ None
      go None e = rw e refl
      go (Some text) e = rw e (by_block (block_in text) refl)
        where
          by_block : (o : Option Block) → block_in text ≡ o
              → option_and_then (if_committed (chunk_rules hash epochs) c) (block_in text) ≡ None
          by_block None f = rw f refl
          by_block (Some b) f =
              rw f (by_test (same_commitment (commit (chunk_rules hash epochs) b) c) refl)
            where
              by_test : (t : Bool) → same_commitment (commit (chunk_rules hash epochs) b) c ≡ t
                  → if_committed (chunk_rules hash epochs) c b ≡ None
              by_test false g = rw g refl
              by_test true g =
                  let is =
                  committed_root c b coder pos
                  (same_commitment-true (commit (chunk_rules hash epochs) b) c g) in
                  let back : block_bytes b ≡ text =
                  coder.reads text b (coder.sound c.config chunks text e).1 f in
                  absurd (none text (record {
                    decodes = e;
                    rooted =
                        subst
                        (λ t. root_of hash digest_bytes
                        (row_digests hash c.config.minimum c.config.extra t)
                        ≡ Some c.root)
                        back is;
                  }))

  -- a block whose bytes have that root is committed to so where the digests and the config are
  -- those
  pub committed_by : (c : Commitment) (b : Block) (text : List ℕ)
      → IsCoder (chunk_rules hash epochs)
      → 0 < c.config.minimum → block_bytes b ≡ text
      → root_of hash digest_bytes (row_digests hash c.config.minimum c.config.extra text)
      ≡ Some c.root
      → (same_digest (hash text) c.block
      && (same_digest (hash (context_bytes b.context)) c.context
      && same_counts (config (chunk_rules hash epochs) b.context.epoch) c.config))
      ≡ same_commitment (commit (chunk_rules hash epochs) b) c
  unfolding same_commitment
  committed_by c b text coder pos is rooted =
      go (cases_Bool (same_counts (config (chunk_rules hash epochs) b.context.epoch) c.config))
    where
      own : Counts
      own = config (chunk_rules hash epochs) b.context.epoch

      root : Digest32
      root = root_over hash (map hash (code_rows (block_bytes b) own.minimum own.extra))

      rest : (p q r : Bool) → (p && (q && false)) ≡ (p && (r && (q && false)))
      rest true true true = refl
      rest true true false = refl
      rest true false true = refl
      rest true false false = refl
      rest false q r = refl

      block : same_digest (hash text) c.block ≡ same_digest (hash (block_bytes b)) c.block
      block = ap (λ t. same_digest (hash t) c.block) (sym is)

      go : (same_counts own c.config ≡ true) ⊎ (same_counts own c.config ≡ false)
          → (same_digest (hash text) c.block
          && (same_digest (hash (context_bytes b.context)) c.context
          && same_counts own c.config))
          ≡ (same_digest (hash (block_bytes b)) c.block
          && (same_digest root c.root
          && (same_digest (hash (context_bytes b.context)) c.context
          && same_counts own c.config)))
      go (inl t) =
          let configs : own ≡ c.config = same_counts-true own c.config t in
          let same : root ≡ c.root = same_Some root c.root
          (sym
          (subst
          (λ (x : Counts). root_of hash digest_bytes
          (row_digests hash x.minimum x.extra (block_bytes b))
          ≡ Some root)
          configs
          (root_there own (block_bytes b) coder
          (subst (λ (x : Counts). 0 < x.minimum) (sym configs) pos)))
          ∙ (subst
          (λ t. root_of hash digest_bytes (row_digests hash c.config.minimum c.config.extra t)
          ≡ Some c.root)
          (sym is) rooted)) in
          let yes : same_digest root c.root ≡ true =
          subst (λ d. same_digest root d ≡ true) same (same_digest_self root) in
          rw yes
          (ap
          (λ p. p
          && (same_digest (hash (context_bytes b.context)) c.context
          && same_counts own c.config))
          block)
      go (inr f) =
          rw f
          (ap (λ p. p && (same_digest (hash (context_bytes b.context)) c.context && false))
          block
          ∙ rest (same_digest (hash (block_bytes b)) c.block)
          (same_digest (hash (context_bytes b.context)) c.context)
          (same_digest root c.root))

  -- the same, of values that are equal to those
  pub committed_with : (c : Commitment) (b : Block) (text : List ℕ) (d e : Digest32) (x : Counts)
      → IsCoder (chunk_rules hash epochs) → 0 < c.config.minimum → block_bytes b ≡ text
      → root_of hash digest_bytes (row_digests hash c.config.minimum c.config.extra text)
      ≡ Some c.root
      → d ≡ hash text → e ≡ hash (context_bytes b.context)
      → x ≡ config (chunk_rules hash epochs) b.context.epoch
      → (same_digest d c.block && (same_digest e c.context && same_counts x c.config))
      ≡ same_commitment (commit (chunk_rules hash epochs) b) c
  committed_with c b text d e x coder pos is rooted isd ise isx =
      ap (λ y. same_digest y c.block && (same_digest e c.context && same_counts x c.config)) isd
      ∙ (ap
      (λ y. same_digest (hash text) c.block
      && (same_digest y c.context && same_counts x c.config))
      ise
      ∙ (ap
      (λ (y : Counts). same_digest (hash text) c.block
      && (same_digest (hash (context_bytes b.context)) c.context && same_counts y c.config))
      isx
      ∙ committed_by c b text coder pos is rooted))
