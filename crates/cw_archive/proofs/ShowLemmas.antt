-- What chunks give back, by the text of which they are rows.
use Rattle.std.proofs.Common.{◌≡◌, ℕ, ◌<◌, ◌≤◌, ◌&&◌, ◌==◌, ◌⊎◌, inl, inr, Bool, true, false, if◌then◌else◌, List, length, map, Option, Some, None, refl, sym, ◌∙◌, ap, subst, arith, eqb-true}
use Rattle.std.specs.Option.{option_and_then}
use Rattle.std.proofs.lemmas.Bool.{cases_Bool}
use Rattle.std.proofs.lemmas.Option.{same_Some}
use Rattle.cw_base.specs.ReadsBack.{IsBytes}
use Rattle.cw_base.specs.declared.hash.Digest32.{Digest32}
use Rattle.cw_types.specs.Block.{Block}
use Rattle.cw_types.specs.Encoding.{block_bytes, context_bytes}
use Rattle.cw_types.specs.Values.{IsBlock}
use Rattle.cw_types.specs.Reading.{block_in}
use Rattle.cw_types.specs.Same.{same_commitment, same_digest}
use Rattle.cw_types.specs.declared.commitment.Commitment.{Commitment}
use Rattle.cw_types.proofs.Same.{same_commitment-true, same_commitment_self, same_digest_self, same_counts_self}
use Rattle.cw_rules.specs.Coding.{AreApart, AreByteChunks, AreRowsOf, IsCoder, IsText}
use Rattle.cw_rules.specs.Rules.{Chunk}
use Rattle.cw_coding.specs.Totals.{total_of}
use Rattle.cw_rules_coded.specs.Coded.{code_rows, decoded, root_over}
use Rattle.shards.specs.Enough.{AreOfText, IsRooted, no_committees}
use Rattle.shards.specs.Kept.{chunk_rules}
use Rattle.shards.proofs.Shown.{root_there}
use Rattle.cw_archive.specs.Archived.{if_named, name_of, shown_by_chunks}
use Rattle.cw_archive.specs.Showing.{IsOfNoBlock, Shows}
use Rattle.cw_rules_coded.proofs.RealCoder.{byte_at}

module _ (hash : List ℕ → Digest32) (c : Commitment) where
  -- chunks of a text show what the text is read as
  pub shows_text : (chunks : List Chunk) (text : List ℕ) → AreOfText hash c chunks text
      → shown_by_chunks hash c chunks ≡ option_and_then (if_named hash c) (block_in text)
  shows_text chunks text of =
      ap (λ o. option_and_then (if_named hash c) (option_and_then block_in o)) of.decodes

  -- a block that the commitment names has its root
  named_root : (b : Block) → IsCoder (chunk_rules hash no_committees) → 0 < c.config.minimum
      → name_of hash c.config b ≡ c → IsRooted hash c (block_bytes b)
  named_root b coder pos e =
      root_there hash no_committees c.config (block_bytes b) coder pos
      ∙ ap Some (ap (λ (d : Commitment). d.root) e)

  -- chunks of no block's text give nothing back
  pub shows_none : (chunks : List Chunk) → IsCoder (chunk_rules hash no_committees)
      → 0 < c.config.minimum
      → ((text : List ℕ) (b : Block) → IsBytes text → block_in text ≡ Some b
      → (block_bytes b ≡ text) × IsBlock b)
      → ((b : Block) → IsBlock b → length (block_bytes b) ≤ 1048745)
      → IsOfNoBlock hash c chunks → shown_by_chunks hash c chunks ≡ None
  shows_none chunks coder pos found bound none = go (decoded c.config chunks) refl
    where
      go : (o : Option (List ℕ)) → decoded c.config chunks ≡ o
          → option_and_then (if_named hash c) (option_and_then block_in (decoded c.config chunks))
          ≡ None
      go None e = rw e refl
      go (Some text) e = rw e (by_block (block_in text) refl)
        where
          by_block : (o : Option Block) → block_in text ≡ o
              → option_and_then (if_named hash c) (block_in text) ≡ None
          by_block None f = rw f refl
          by_block (Some b) f = rw f (by_test (same_commitment (name_of hash c.config b) c) refl)
            where
              by_test : (t : Bool) → same_commitment (name_of hash c.config b) c ≡ t
                  → if_named hash c b ≡ None
              by_test false g = rw g refl
              by_test true g =
                  let is =
                  named_root b coder pos (same_commitment-true (name_of hash c.config b) c g) in
                  let sound = coder.sound c.config chunks text e in
                  let read = found text b (byte_at text sound.1.0) f in
                  let short : length text ≤ 1048745 =
                  subst (λ (t : List ℕ). length t ≤ 1048745) read.0 (bound b read.1) in
                  absurd (none text short (record {
                    decodes = e;
                    rooted = subst (λ (t : List ℕ). IsRooted hash c t) read.0 is;
                  }))

  -- fewer chunks than a text is given back by
  pub shows_few : (chunks : List Chunk) → length chunks < c.config.minimum
      → shown_by_chunks hash c chunks ≡ None
  shows_few chunks few = go (cases_Bool (length chunks == c.config.minimum))
    where
      go : ((length chunks == c.config.minimum) ≡ true)
          ⊎ ((length chunks == c.config.minimum) ≡ false)
          → shown_by_chunks hash c chunks ≡ None
      go (inl t) = absurd (let e = eqb-true (length chunks) c.config.minimum t in omega arith)
      go (inr f) = rw f refl

  -- the commitment names a block of its root where both digests are its own
  pub named_by : (b : Block) (text : List ℕ) (d e : Digest32)
      → IsCoder (chunk_rules hash no_committees) → 0 < c.config.minimum → block_bytes b ≡ text
      → IsRooted hash c text
      → d ≡ hash text → e ≡ hash (context_bytes b.context)
      → (same_digest d c.block && same_digest e c.context)
      ≡ same_commitment (name_of hash c.config b) c
  unfolding same_commitment
  named_by b text d e coder pos is rooted isd ise =
      let own : Digest32 =
      root_over hash (map hash (code_rows (block_bytes b) c.config.minimum c.config.extra)) in
      let root : own ≡ c.root = same_Some own c.root
      (sym (root_there hash no_committees c.config (block_bytes b) coder pos)
      ∙ subst (λ (t : List ℕ). IsRooted hash c t) (sym is) rooted) in
      let yes : same_digest own c.root ≡ true =
      subst (λ (r : Digest32). same_digest own r ≡ true) root (same_digest_self own) in
      ap (λ (y : Digest32). same_digest y c.block && same_digest e c.context)
      (isd ∙ ap hash (sym is))
      ∙ (ap
      (λ (y : Digest32). same_digest (hash (block_bytes b)) c.block && same_digest y c.context)
      ise
      ∙ rw (yes, same_counts_self c.config)
      (rest (same_digest (hash (block_bytes b)) c.block)
      (same_digest (hash (context_bytes b.context)) c.context)))
    where
      rest : (p q : Bool) → (p && q) ≡ (p && (q && true))
      rest true true = refl
      rest true false = refl
      rest false q = refl

  -- ---- exactly what the chunks show

  -- what chunks give back is what they show
  pub given_shows : (chunks : List Chunk) (b : Block) → IsCoder (chunk_rules hash no_committees)
      → shown_by_chunks hash c chunks ≡ Some b → Shows hash c chunks b
  given_shows chunks b coder = go (decoded c.config chunks) refl
    where
      go : (o : Option (List ℕ)) → decoded c.config chunks ≡ o
          → option_and_then (if_named hash c) (option_and_then block_in o) ≡ Some b
          → Shows hash c chunks b
      go None e h = cc
      go (Some text) e h = by_block (block_in text) refl h
        where
          by_block : (o : Option Block) → block_in text ≡ o
              → option_and_then (if_named hash c) o ≡ Some b → Shows hash c chunks b
          by_block None f h = cc
          by_block (Some d) f h = by_test (same_commitment (name_of hash c.config d) c) refl h
            where
              by_test : (t : Bool) → same_commitment (name_of hash c.config d) c ≡ t
                  → (if t then Some d else None) ≡ Some b → Shows hash c chunks b
              by_test false g h = cc
              by_test true g h =
                  let sound = coder.sound c.config chunks text e in
                  let same : d ≡ b = same_Some d b h in
                  let is : block_bytes d ≡ text = coder.reads text d sound.1 f in
                  subst (λ (z : Block). Shows hash c chunks z) same
                  (record {
                    enough = sound.0;
                    text = subst (λ (t : List ℕ). IsText t) (sym is) sound.1;
                    back = ap block_in is ∙ f;
                    rows =
                        subst
                        (λ (t : List ℕ). AreRowsOf (chunk_rules hash no_committees) c.config chunks
                        t)
                        (sym is) sound.2;
                    named = same_commitment-true (name_of hash c.config d) c g;
                  })

  -- what they show is what they give back
  pub shows_given : (chunks : List Chunk) (b : Block) → IsCoder (chunk_rules hash no_committees)
      → 1 ≤ c.config.minimum → total_of c.config ≤ 65535 → AreApart chunks → AreByteChunks chunks
      → Shows hash c chunks b → shown_by_chunks hash c chunks ≡ Some b
  shows_given chunks b coder some few apart bytes s =
      let decodes : decoded c.config chunks ≡ Some (block_bytes b) =
      coder.complete c.config chunks (block_bytes b) (omega arith) few apart bytes s.enough
      s.text s.rows in
      ap (λ o. option_and_then (if_named hash c) (option_and_then block_in o)) decodes
      ∙ (ap (λ o. option_and_then (if_named hash c) o) s.back
      ∙ ap (λ t. if t then Some b else None)
      (subst (λ (d : Commitment). same_commitment (name_of hash c.config b) d ≡ true) s.named
      (same_commitment_self (name_of hash c.config b))))
