-- Where the hashing of two texts of one root meets.
use Rattle.std.specs.Prelude.{◌≡◌, ◌≢◌, ℕ, ◌<◌, List, ◌∷◌, length, slice_get, Option, Some, option_map}
use Rattle.cw_base.specs.Counts.{Counts}
use Rattle.cw_tree.specs.Chunks.{Piece}
use Rattle.cw_tree.specs.Tree.{root_by, way_by}
use Rattle.cw_coding.specs.Encoding.{piece_of, root_of_text}
use Rattle.cw_coding.specs.Layout.{row_at}
use Rattle.cw_coding.specs.Totals.{total_of}

-- below place n, texts of one digest are one text
abbrev pub AreTold : {D : Type 0} → (List ℕ → D) → (n : ℕ) (ours theirs : List (List ℕ)) → Type 0
AreTold hash n ours theirs =
    (p : ℕ) (a b : List ℕ) → p < n → slice_get ours p ≡ Some a → slice_get theirs p ≡ Some b
    → hash a ≡ hash b → a ≡ b

-- below index n, the chunks have the same shards
abbrev pub AreAlike : {D : Type 0} → (n : ℕ) (ours theirs : List (Piece D)) → Type 0
AreAlike {D} n ours theirs =
    (i : ℕ) (p q : Piece D) → i < n → slice_get ours i ≡ Some p → slice_get theirs i ≡ Some q
    → p.shard ≡ q.shard

-- the lowest index at which two texts have different shards
pub record IsFirstDifference (c : Counts) (first second : List ℕ) (index : ℕ) : Type 0 where
  pub within : index < total_of c
  pub differ : row_at c.minimum first index ≢ row_at c.minimum second index
  pub before : (i : ℕ) → i < index → row_at c.minimum first i ≡ row_at c.minimum second i

module _ {D : Type 0} (hash : List ℕ → D) (content : D → List ℕ) where
  -- all that is hashed from a chunk up to the root: its shard, and the texts on the way up from the
  -- shard's digest; none where no such way leads up
  unfoldable pub way_of : Piece D → Option (List (List ℕ))
  way_of p =
      option_map (λ texts. p.shard ∷ texts)
      (way_by hash content p.leaf_count p.siblings p.index (hash p.shard))

  -- the first place at which all that is hashed from two chunks has different texts of one digest
  pub record IsFirstClash (p q : Piece D) (one other : List ℕ) : Type 0 where
    pub ours : List (List ℕ)
    pub theirs : List (List ℕ)
    pub our_way : way_of p ≡ Some ours
    pub their_way : way_of q ≡ Some theirs
    pub lengths : length ours ≡ length theirs
    pub place : ℕ
    pub ours_there : slice_get ours place ≡ Some one
    pub theirs_there : slice_get theirs place ≡ Some other
    pub differ : one ≢ other
    pub one_digest : hash one ≡ hash other
    pub before : AreTold hash place ours theirs

  -- where two texts of one root clash: first on the ways up from the lowest index of different
  -- shards
  pub record AreClash (c : Counts) (first second one other : List ℕ) : Type 0 where
    pub texts : first ≢ second
    pub one_root : root_of_text hash content c first ≡ root_of_text hash content c second
    pub index : ℕ
    pub lowest : IsFirstDifference c first second index
    pub clash : IsFirstClash (piece_of hash content c first index)
        (piece_of hash content c second index) one other

  -- a chunk that leads to this root
  abbrev pub Leads : Piece D → D → Type 0
  Leads p root = root_by hash content p.leaf_count p.siblings p.index (hash p.shard) ≡ Some root

  -- two chunks of different shards at one place under one root
  pub record AreRivals (p q : Piece D) : Type 0 where
    pub leaves : p.leaf_count ≡ q.leaf_count
    pub index : p.index ≡ q.index
    pub shards : p.shard ≢ q.shard
    pub root : D
    pub ours : Leads p root
    pub theirs : Leads q root
