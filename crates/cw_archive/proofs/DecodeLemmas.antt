-- The text that chunks are decoded to, and the texts that they aren't.
use Rattle.std.proofs.Common.{◌≡◌, ◌≢◌, ℕ, ◌≤◌, List, length, map, refl, ◌∙◌, arith}
use Rattle.std.proofs.lemmas.List.{length-map}
use Rattle.std.proofs.lemmas.List.Elements.{All-from_recursion}
use Rattle.cw_base.specs.Rows.{listed}
use Rattle.cw_base.specs.Counts.{Counts}
use Rattle.cw_base.specs.declared.hash.Digest32.{Digest32}
use Rattle.cw_coding.specs.Checked.{Checked}
use Rattle.cw_coding.specs.Decoding.{IsDecoding, IsDecodeRefusal}
use Rattle.cw_coding.specs.Encoding.{IsCodable, IsEncoding, piece_of}
use Rattle.cw_coding.specs.Layout.{row_at}
use Rattle.cw_coding.specs.Laws.{AnyEnoughDecode, IsChunkOf}
use Rattle.cw_coding.specs.Totals.{total_of}
use Rattle.cw_coding.specs.declared.error.ReedSolomonError.{ReedSolomonError}
use Rattle.cw_coding.specs.declared.error.ReedSolomonError.TheVariants.{NoMemory}
use Rattle.cw_tree.proofs.WidthLaws.{product_fits, shard_len-narrow}
use Rattle.cw_tree.specs.Widths.{shard_len}
use Rattle.cw_types.specs.declared.commitment.Commitment.{Commitment}
use Rattle.cw_rules.specs.Coding.{AreByteChunks, IsCoder}
use Rattle.cw_rules.specs.Rules.{Chunk}
use Rattle.cw_rules_coded.specs.Coded.{digest_bytes}
use Rattle.shards.specs.Enough.{AreOfText, checked_of, no_committees}
use Rattle.shards.specs.Kept.{chunk_rules}
use Rattle.shards.proofs.Decoded.{all_bytes, all_in_order, chunks_of_text, rows_of_text, sound_indices}
use Rattle.cw_rules_coded.proofs.RealCoder.{byte_at}
use Rattle.cw_archive.specs.Showing.{AreSufficient}
use Rattle.cw_archive.proofs.CheckLemmas.{all_under, few_of}

-- ---- which texts are cut

-- a text that is as short as a block's is cut by any config
pub short_codable : (x : Counts) (n : ℕ) → 1 ≤ x.minimum → total_of x ≤ 65535 → n ≤ 1048745
    → IsCodable x n
short_codable x n some few short =
    let wide = shard_len-narrow n x.minimum some in
    let fits = product_fits (total_of x) (shard_len n x.minimum) few (omega arith) in
    record { short = omega arith; narrow = omega arith; room = omega arith }

module _ (hash : List ℕ → Digest32) (c : Commitment) where
  -- ---- from what is decoded

  -- chunks that are decoded to a text are rows of its codeword
  pub of_text : (chunks : List Chunk) (text : List ℕ) → IsCoder (chunk_rules hash no_committees)
      → AreSufficient hash c chunks → AreByteChunks chunks
      → IsDecoding hash digest_bytes c.config c.root (map (checked_of hash c) chunks) text
      → AreOfText hash c chunks text
  of_text chunks text coder are bytes d =
      let some = are.some in
      let short = d.short in
      let few = few_of hash c chunks are in
      let under = all_under hash c chunks are.check in
      let long : length (map (checked_of hash c) chunks) ≡ c.config.minimum =
      length-map chunks (checked_of hash c) ∙ are.enough in
      let rows =
      all_in_order (λ (y : Checked Digest32). y.shard ≡ row_at c.config.minimum text y.index)
      c.config.minimum (map (checked_of hash c) chunks) long d.rows in
      record {
        decodes =
            coder.complete c.config chunks text (omega arith) few are.apart bytes are.enough
            (all_bytes text d.bytes, omega arith)
            (rows_of_text hash no_committees c text chunks few under rows);
        rooted = d.rooted;
      }

  -- ---- from what is refused

  -- chunks that are refused, and not for want of memory, are of no text
  pub of_no_text : (chunks : List Chunk) (e : ReedSolomonError)
      → IsCoder (chunk_rules hash no_committees) → AnyEnoughDecode hash digest_bytes
      → AreSufficient hash c chunks
      → IsDecodeRefusal hash digest_bytes c.config c.root (map (checked_of hash c) chunks) e
      → e ≢ NoMemory → (text : List ℕ) → length text ≤ 1048745 → AreOfText hash c chunks text
      → ⊥
  of_no_text chunks e coder any are refusal other text short of =
      let some = are.some in
      let few = few_of hash c chunks are in
      let under = all_under hash c chunks are.check in
      let is = coder.sound c.config chunks text of.decodes in
      let long : length (map (checked_of hash c) chunks) ≡ c.config.minimum =
      length-map chunks (checked_of hash c) ∙ are.enough in
      let encoded : IsEncoding hash digest_bytes c.config text c.root
      (listed (total_of c.config) (piece_of hash digest_bytes c.config text)) =
      record {
        total = few;
        codable = short_codable c.config (length text) are.some few short;
        rooted = of.rooted;
        each = refl;
      } in
      let decoded =
      any c.config text c.root
      (listed (total_of c.config) (piece_of hash digest_bytes c.config text))
      (map (checked_of hash c) chunks) are.some (byte_at text is.1.0) encoded
      (All-from_recursion (IsChunkOf c.config text c.root) (map (checked_of hash c) chunks)
      (chunks_of_text hash no_committees c text chunks few under is.2))
      (sound_indices hash no_committees c chunks few under are.apart) (omega arith) in
      other (decoded.taken e refusal)
