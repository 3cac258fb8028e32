-- What a text is encoded to.
use Rattle.std.proofs.Common.{◌≡◌, ℕ, ◌+◌, ◌<◌, ◌≤◌, List, length, sym, ap, ◌∙◌, refl, Some}
use Rattle.cw_base.specs.Counts.{Counts}
use Rattle.cw_base.specs.Rows.{listed, row_of, row_hashes}
use Rattle.cw_base.proofs.Listed.{listed_same, length-listed}
use Rattle.rs_code.specs.Rows.{joined}
use Rattle.cw_tree.specs.Chunks.{Piece}
use Rattle.cw_tree.specs.Tree.{root_of, path_of}
use Rattle.cw_tree.specs.Widths.{shard_len}
use Rattle.cw_coding.specs.Layout.{row_at, row_digests}
use Rattle.cw_coding.specs.Totals.{total_of}
use Rattle.cw_coding.specs.Encoding.{IsEncodable, IsEncoding, piece_of}
use Rattle.cw_coding.proofs.LayoutLaws.{row_of-text, text_hashes}

pub encoding_is : {D : Type 0} (hash : List ℕ → D) (content : D → List ℕ) (c : Counts)
    (text : List ℕ) (root : D) (total width : ℕ)
    (rows : List ℕ) (tree : List D) (chunks : List (Piece D)) →
    total ≡ total_of c → IsEncodable c (length text) → width ≡ shard_len (length text) c.minimum →
    rows ≡ joined (total_of c) (row_at c.minimum text) →
    tree ≡ row_digests hash c.minimum c.extra text → root_of hash content tree ≡ Some root →
    chunks ≡ listed total (λ i. record {
      shard = row_of rows width i;
      index = i;
      leaf_count = length tree;
      siblings = path_of hash content i tree;
    }) →
    IsEncoding hash content c text root chunks
encoding_is {D = D} hash content c text root total width rows tree chunks t is w r here rooted ch =
    let k = c.minimum in
    let m = c.extra in
    let count : length tree ≡ total_of c =
    ap length here ∙ length-listed (k + m) (λ i. hash (row_at k text i)) in
    let at : ℕ → Piece D =
    λ i. record {
      shard = row_of rows width i;
      index = i;
      leaf_count = length tree;
      siblings = path_of hash content i tree;
    } in
    let same : (i : ℕ) → i < total_of c → at i ≡ piece_of hash content c text i =
    λ i l. rw (count, here, row_of-text k m text rows width i w r l) refl in
    record {
      total = is.total;
      codable = is.codable;
      rooted = ap (root_of hash content) (sym here) ∙ rooted;
      each =
          ch ∙ ap (λ (n : ℕ). listed n at) t
          ∙ listed_same (total_of c) at (piece_of hash content c text) same;
    }

-- the digests of a text's rows, and how many there are
pub digests_are : {D : Type 0} (hash : List ℕ → D) (k m : ℕ) (text rows : List ℕ)
    (digests : List D)
    → 1 ≤ k → rows ≡ joined (k + m) (row_at k text)
    → digests ≡ row_hashes hash (shard_len (length text) k) rows
    → digests ≡ row_digests hash k m text
digests_are hash k m text rows digests some r d =
    d ∙ text_hashes hash k m text rows (shard_len (length text) k) some refl r

pub digests_count : {D : Type 0} (hash : List ℕ → D) (k m : ℕ) (text rows : List ℕ)
    (digests : List D)
    → 1 ≤ k → rows ≡ joined (k + m) (row_at k text)
    → digests ≡ row_hashes hash (shard_len (length text) k) rows → length digests ≡ k + m
digests_count hash k m text rows digests some r d =
    ap length (digests_are hash k m text rows digests some r d)
    ∙ length-listed (k + m) (λ i. hash (row_at k text i))
