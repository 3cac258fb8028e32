-- The text that chunks are decoded to, as the rules name it.
use Rattle.std.proofs.Common.{◌≡◌, ◌≢◌, ℕ, zero, suc, ◌+◌, ◌<◌, ◌≤◌, Bool, true, false, cond, not, ◌==◌, nat_lt, List, [], ◌∷◌, ◌++◌, length, map, take, get_or, slice_get, slice_index, All, Some, refl, sym, ◌∙◌, ap, subst, arith, ◌⊎◌, inl, inr, length-append, if◌then◌else◌}
use Rattle.std.specs.List.{AllByRecursion, filter}
use Rattle.std.proofs.lemmas.Bool.{cases_lt}
use Rattle.std.proofs.lemmas.List.{length-map, take_all}
use Rattle.std.proofs.lemmas.List.Elements.{All-from_recursion, recursion_from_All}
use Rattle.std.proofs.lemmas.Option.{same_Some, slice_get_past}
use Rattle.cw_base.specs.Rows.{listed}
use Rattle.cw_base.proofs.Listed.{length-listed}
use Rattle.cw_base.specs.declared.hash.Digest32.{Digest32}
use Rattle.rs_code.specs.Indices.{AreSound}
use Rattle.cw_coding.specs.Checked.{Checked}
use Rattle.cw_coding.specs.Decoding.{IsDecoding, IsDecodeRefusal, compared, in_order, indices_of}
use Rattle.cw_coding.specs.Encoding.{IsEncoding, piece_of}
use Rattle.cw_coding.specs.Layout.{row_at}
use Rattle.cw_coding.specs.Laws.{AnyEnoughDecode, IsChunkOf}
use Rattle.cw_coding.specs.Totals.{total_of}
use Rattle.cw_coding.specs.declared.error.ReedSolomonError.{ReedSolomonError}
use Rattle.cw_coding.specs.declared.error.ReedSolomonError.TheVariants.{NoMemory}
use Rattle.cw_types.specs.Epochs.{Epochs}
use Rattle.cw_types.specs.declared.commitment.Commitment.{Commitment}
use Rattle.cw_rules.specs.Coding.{AreApart, AreByteChunks, AreBytes, IsCoder}
use Rattle.cw_rules.specs.Rules.{Chunk}
use Rattle.cw_rules_coded.specs.Coded.{code_rows, digest_bytes}
use Rattle.shards.specs.Enough.{AreEnough, AreOfText, AreUnder, checked_of}
use Rattle.shards.specs.Kept.{chunk_rules}
use Rattle.cw_types.proofs.Cutting.{codable}
use Rattle.shards.proofs.Standing.{stands_under}
use Rattle.cw_rules_coded.proofs.RealCoder.{listed_at, byte_at}

-- ---- lists by place

pub listed_from : {X : Type 0} (n : ℕ) (f : ℕ → X) (i : ℕ) (x : X)
    → slice_get (listed n f) i ≡ Some x → f i ≡ x
listed_from n f i x h = go (cases_lt i n)
  where
    go : (i < n) ⊎ (n ≤ i) → f i ≡ x
    go (inl less) = same_Some (f i) x (sym (listed_at n f i less) ∙ h)
    go (inr more) = cc (slice_get_past (listed n f) i (omega (arith, length-listed n f)))

-- a list whose items are bytes, place by place
pub all_bytes : (xs : List ℕ) → ((i : ℕ) → slice_index xs i < 256) → AreBytes xs
all_bytes [] h = tt
all_bytes (x ∷ xs) h = (h 0, all_bytes xs (λ i. h (suc i)))

-- what holds of those that pass a test, and of those that don't, holds of all
pub all_parts : {X : Type 0} (P : X → Type 0) (p : X → Bool) (xs : List X)
    → AllByRecursion P (filter p xs ++ filter (λ x. not (p x)) xs) → AllByRecursion P xs
all_parts {X = X} P p xs h =
    let both = split (filter p xs) (filter (λ x. not (p x)) xs) h in join xs both.0 both.1
  where
    split : (ys zs : List X) → AllByRecursion P (ys ++ zs)
        → AllByRecursion P ys × AllByRecursion P zs
    split [] zs a = (tt, a)
    split (y ∷ ys) zs a = let more = split ys zs a.1 in ((a.0, more.0), more.1)

    join : (ys : List X) → AllByRecursion P (filter p ys)
        → AllByRecursion P (filter (λ x. not (p x)) ys) → AllByRecursion P ys
    join [] a b = tt
    join (y ∷ ys) a b = go (p y) (join ys) a b
      where
        go : (t : Bool)
            → (AllByRecursion P (filter p ys) → AllByRecursion P (filter (λ x. not (p x)) ys)
            → AllByRecursion P ys)
            → AllByRecursion P (cond t (y ∷ filter p ys) (filter p ys))
            → AllByRecursion P
            (cond (not t) (y ∷ filter (λ x. not (p x)) ys) (filter (λ x. not (p x)) ys))
            → AllByRecursion P (y ∷ ys)
        go true more a b = (a.0, more a.1 b)
        go false more a b = (b.0, more a b.1)

pub length-parts : {X : Type 0} (p : X → Bool) (xs : List X)
    → length (filter p xs ++ filter (λ x. not (p x)) xs) ≡ length xs
length-parts {X = X} p xs = length-append (filter p xs) (filter (λ x. not (p x)) xs) ∙ sum xs
  where
    sum : (ys : List X) → length (filter p ys) + length (filter (λ x. not (p x)) ys) ≡ length ys
    sum [] = refl
    sum (y ∷ ys) = go (p y) (sum ys)
      where
        go : (b : Bool) → length (filter p ys) + length (filter (λ x. not (p x)) ys) ≡ length ys →
            length (cond b (y ∷ filter p ys) (filter p ys))
            + length
            (cond (not b) (y ∷ filter (λ x. not (p x)) ys) (filter (λ x. not (p x)) ys))
            ≡ suc (length ys)
        go true e = omega arith
        go false e = omega arith

-- all of k chunks are compared
pub all_compared : (k : ℕ) (cs : List (Checked Digest32)) → length cs ≡ k → compared k cs ≡ k
all_compared k cs e = go (length (filter (λ (c : Checked Digest32). nat_lt c.index k) cs) == k)
  where
    go : (b : Bool) → (if b then length cs else k) ≡ k
    go true = e
    go false = refl

-- what holds of those that are compared holds of all
pub all_in_order : (P : Checked Digest32 → Type 0) (k : ℕ) (cs : List (Checked Digest32))
    → length cs ≡ k → All P (take (compared k cs) (in_order k cs)) → AllByRecursion P cs
all_in_order P k cs e h =
    let long = length-parts (λ (c : Checked Digest32). nat_lt c.index k) cs in
    let whole : take (compared k cs) (in_order k cs) ≡ in_order k cs =
    take_all (compared k cs) (in_order k cs) (omega (arith, all_compared k cs e)) in
    all_parts P (λ (c : Checked Digest32). nat_lt c.index k) cs
    (recursion_from_All P (in_order k cs) (subst (All P) whole h))

module _ (hash : List ℕ → Digest32) (epochs : Epochs) (c : Commitment) where
  -- ---- from what is decoded

  pub rows_of_text : (text : List ℕ) (chunks : List Chunk) → total_of c.config ≤ 65535
      → AreUnder hash c chunks
      → AllByRecursion (λ (y : Checked Digest32). y.shard ≡ row_at c.config.minimum text y.index)
      (map (checked_of hash c) chunks)
      → AllByRecursion
      (λ (x : Chunk). slice_get (code_rows text c.config.minimum c.config.extra) x.index
      ≡ Some x.shard)
      chunks
  rows_of_text text [] few u a = tt
  rows_of_text text (x ∷ xs) few u a =
      let stands = stands_under hash epochs c x few u.0 in (
        listed_at (c.config.minimum + c.config.extra) (row_at c.config.minimum text) x.index
            stands.within
            ∙ ap Some (sym a.0),
        rows_of_text text xs few u.1 a.1,
      )

  -- chunks that are decoded to a text are rows of its codeword
  pub of_text : (chunks : List Chunk) (text : List ℕ) → IsCoder (chunk_rules hash epochs)
      → AreEnough hash c chunks → AreByteChunks chunks
      → IsDecoding hash digest_bytes c.config c.root (map (checked_of hash c) chunks) text
      → AreOfText hash c chunks text
  of_text chunks text coder are bytes d =
      let two = are.some in
      let short = d.short in
      let long : length (map (checked_of hash c) chunks) ≡ c.config.minimum =
      length-map chunks (checked_of hash c) ∙ are.enough in
      let rows =
      all_in_order (λ (y : Checked Digest32). y.shard ≡ row_at c.config.minimum text y.index)
      c.config.minimum (map (checked_of hash c) chunks) long d.rows in
      record {
        decodes =
            coder.complete c.config chunks text (omega arith) are.few are.apart bytes are.enough
            (all_bytes text d.bytes, omega arith)
            (rows_of_text text chunks are.few are.under rows);
        rooted = d.rooted;
      }

  -- ---- from what is refused

  pub chunks_of_text : (text : List ℕ) (chunks : List Chunk) → total_of c.config ≤ 65535
      → AreUnder hash c chunks
      → AllByRecursion
      (λ (x : Chunk). slice_get (code_rows text c.config.minimum c.config.extra) x.index
      ≡ Some x.shard)
      chunks
      → AllByRecursion (IsChunkOf c.config text c.root) (map (checked_of hash c) chunks)
  chunks_of_text text [] few u a = tt
  chunks_of_text text (x ∷ xs) few u a =
      let stands = stands_under hash epochs c x few u.0 in (
        record {
          rooted = refl;
          within = stands.within;
          row =
              sym
              (listed_from (c.config.minimum + c.config.extra) (row_at c.config.minimum text)
              x.index x.shard a.0);
        },
        chunks_of_text text xs few u.1 a.1,
      )

  elsewhere : (i : ℕ) (chunks : List Chunk) → AllByRecursion (λ (d : Chunk). i ≢ d.index) chunks
      → (k : ℕ) → k < length (indices_of (map (checked_of hash c) chunks))
      → get_or (indices_of (map (checked_of hash c) chunks)) k i ≡ i → ⊥
  elsewhere i [] a k l e = absurd (omega arith)
  elsewhere i (x ∷ xs) a zero l e = a.0 (sym e)
  elsewhere i (x ∷ xs) a (suc k) l e = elsewhere i xs a.1 k (omega arith) e

  pub sound_indices : (chunks : List Chunk) → total_of c.config ≤ 65535 → AreUnder hash c chunks
      → AreApart chunks → AreSound (total_of c.config) (indices_of (map (checked_of hash c) chunks))
  sound_indices [] few u a = tt
  sound_indices (x ∷ xs) few u a =
      let stands = stands_under hash epochs c x few u.0 in
      (stands.within, λ h. elsewhere x.index xs a.0 h.0 h.1 h.2, sound_indices xs few u.1 a.1)

  -- chunks that are refused, and not for want of memory, are of no text
  pub of_no_text : (chunks : List Chunk) (e : ReedSolomonError) → IsCoder (chunk_rules hash epochs)
      → AnyEnoughDecode hash digest_bytes → AreEnough hash c chunks
      → IsDecodeRefusal hash digest_bytes c.config c.root (map (checked_of hash c) chunks) e
      → e ≢ NoMemory → (text : List ℕ) → AreOfText hash c chunks text → ⊥
  of_no_text chunks e coder any are refusal other text of =
      let two = are.some in
      let is = coder.sound c.config chunks text of.decodes in
      let long : length (map (checked_of hash c) chunks) ≡ c.config.minimum =
      length-map chunks (checked_of hash c) ∙ are.enough in
      let encoded : IsEncoding hash digest_bytes c.config text c.root
      (listed (total_of c.config) (piece_of hash digest_bytes c.config text)) =
      record {
        total = are.few;
        codable = codable c.config (length text) are.some are.few is.1.1;
        rooted = of.rooted;
        each = refl;
      } in
      let decoded =
      any c.config text c.root
      (listed (total_of c.config) (piece_of hash digest_bytes c.config text))
      (map (checked_of hash c) chunks) (omega arith) (byte_at text is.1.0) encoded
      (All-from_recursion (IsChunkOf c.config text c.root) (map (checked_of hash c) chunks)
      (chunks_of_text text chunks are.few are.under is.2))
      (sound_indices chunks are.few are.under are.apart) (omega arith) in
      other (decoded.taken e refusal)
