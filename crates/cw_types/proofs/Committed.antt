-- What an encoding of a block's bytes is made into.
use Rattle.std.proofs.Common.{◌≡◌, ℕ, List, unwrap_or, sym, ◌∙◌, ap}
use Rattle.cw_base.specs.Rows.{listed}
use Rattle.cw_base.specs.Counts.{Counts}
use Rattle.cw_base.specs.declared.hash.Digest32.{Digest32}
use Rattle.cw_tree.specs.Chunks.{Piece}
use Rattle.cw_coding.specs.Encoding.{IsEncoding, piece_of}
use Rattle.cw_coding.specs.Totals.{total_of}
use Rattle.cw_types.specs.Block.{Block}
use Rattle.cw_types.specs.Commit.{block_chunks, commit, digest_bytes, empty_digest, text_root}
use Rattle.cw_types.specs.Encoding.{block_bytes, context_bytes}
use Rattle.cw_types.specs.Numbers.{config_for}

module _ (hash : List ℕ → Digest32) (n : ℕ) (b : Block) where
  -- the root of an encoding is that of its text
  pub root_is : (x : Counts) (text : List ℕ) (root : Digest32) (pieces : List (Piece Digest32))
      → IsEncoding hash digest_bytes x text root pieces → text_root hash x text ≡ root
  root_is x text root pieces made = ap (λ o. unwrap_or o empty_digest) made.rooted

  -- the parts of an encoding make the commitment
  pub commitment_is : (x : Counts) (text : List ℕ) (d root e : Digest32)
      (pieces : List (Piece Digest32))
      → x ≡ config_for n → text ≡ block_bytes b → d ≡ hash text → e ≡ hash (context_bytes b.context)
      → IsEncoding hash digest_bytes x text root pieces
      → record { block = d; root = root; context = e; config = x } ≡ commit hash n b
  commitment_is x text d root e pieces isx is isd ise made =
      let own : root ≡ text_root hash (config_for n) (block_bytes b) =
      sym (root_is x text root pieces made)
      ∙ (ap (text_root hash x) is ∙ ap (λ y. text_root hash y (block_bytes b)) isx) in
      let block : d ≡ hash (block_bytes b) = isd ∙ ap hash is in
      λ i. record { block = block i; root = own i; context = ise i; config = isx i }

  -- its pieces are the chunks
  pub chunks_are : (x : Counts) (text : List ℕ) (root : Digest32) (pieces : List (Piece Digest32))
      → x ≡ config_for n → text ≡ block_bytes b
      → IsEncoding hash digest_bytes x text root pieces → pieces ≡ block_chunks hash n b
  chunks_are x text root pieces isx is made =
      made.each ∙ (ap (λ t. listed (total_of x) (piece_of hash digest_bytes x t)) is
      ∙ ap (λ (y : Counts). listed (total_of y) (piece_of hash digest_bytes y (block_bytes b))) isx)
