-- The layout, and the rows that come of it.
use Rattle.std.proofs.Common.{◌≡◌, ℕ, suc, zero, ◌+◌, ◌-◌, ◌*◌, ◌/◌, ◌%◌, ◌<◌, ◌≤◌, List, [], ◌∷◌, ◌++◌, length, drop, take, get_or, replicate, refl, sym, ap, ◌∙◌, arith, append_assoc, add-zero, ⊎_elim}
use Rattle.std.proofs.Math.Nat.{mul-le-mul_right, mul-div_cancel}
use Rattle.std.proofs.lemmas.List.{length-append, length-replicate, drop_at, take_all, drop-append-le, take-append-le, length-drop, append-nil}
use Rattle.std.proofs.lemmas.Bool.{cases_lt}
use Rattle.cw_base.specs.Bytes.{be32}
use Rattle.cw_base.proofs.Lengths.{length-be32}
use Rattle.rs_code.specs.Rows.{joined, code_row, AreRows, OriginalsComeFirst}
use Rattle.cw_base.specs.Rows.{row_of, listed, row_hashes}
use Rattle.rs_code.proofs.RowBytes.{joined_none, joined_more, length-joined, length-symbol_bytes}
use Rattle.cw_base.proofs.Listed.{listed_same}
use Rattle.cw_tree.specs.Widths.{shard_len}
use Rattle.cw_tree.proofs.WidthLaws.{shard_len-even, shard_len-covers, shard_len-some}
use Rattle.cw_coding.specs.Layout.{layout, row_at, row_digests}

pub length-layout : (k : ℕ) (text : List ℕ) → 1 ≤ k
    → length (layout k text) ≡ k * shard_len (length text) k
unfolding layout
length-layout k text h =
    let covers = shard_len-covers (length text) k h in
    let zeros : List ℕ = replicate (k * shard_len (length text) k - (length text + 4)) 0 in
    let a : length (be32 (length text) ++ text ++ zeros)
    ≡ length (be32 (length text) ++ text) + length zeros =
    length-append (be32 (length text) ++ text) zeros in
    let b : length (be32 (length text) ++ text) ≡ length (be32 (length text)) + length text =
    length-append (be32 (length text)) text in
    let z : length zeros ≡ k * shard_len (length text) k - (length text + 4) =
    length-replicate (k * shard_len (length text) k - (length text + 4)) 0 in
    omega (arith, length-be32 (length text))

pub joined-add : (k m : ℕ) (f : ℕ → List ℕ)
    → joined (k + m) f ≡ joined k f ++ joined m (λ i. f (k + i))
joined-add k zero f = rw (joined_none, add-zero, append-nil) refl
joined-add k (suc m) f =
    let g : ℕ → List ℕ = λ i. f (k + i) in
    let step : k + suc m ≡ k + m + 1 = omega arith in
    let one : m + 1 ≡ suc m = omega arith in
    ap (λ n. joined n f) step ∙ joined_more (k + m) f
    ∙ ap (λ xs. xs ++ f (k + m)) (joined-add k m f)
    ∙ append_assoc (joined k f) (joined m g) (f (k + m))
    ∙ ap (λ xs. joined k f ++ xs) (sym (joined_more m g))
    ∙ ap (λ n. joined k f ++ joined n g) one

pub length-code_row : (k : ℕ) (originals : List ℕ) (width i : ℕ) → width % 2 ≡ 0
    → length (code_row k originals width i) ≡ width
unfolding code_row
length-code_row k originals width i even = length-symbol_bytes (width / 2) _ ∙ omega arith

pub length-row_at : (k : ℕ) (text : List ℕ) (i : ℕ)
    → length (row_at k text i) ≡ shard_len (length text) k
unfolding row_at
length-row_at k text i =
    length-code_row k (layout k text) (shard_len (length text) k) i (shard_len-even (length text) k)

-- the rows of a text: its layout, and the recoveries
pub rows_are : OriginalsComeFirst → (k m : ℕ) (text rows recovery : List ℕ) → 1 ≤ k → k + m ≤ 65535
    →
    ((i : ℕ) → get_or (layout k text) i 0 < 256) →
    recovery ≡ joined m (λ i. code_row k (layout k text) (shard_len (length text) k) (k + i)) →
    rows ≡ layout k text ++ recovery → rows ≡ joined (k + m) (row_at k text)
unfolding row_at
rows_are law k m text rows recovery some small bytes r is =
    let w : ℕ = shard_len (length text) k in
    let are : AreRows k w (layout k text) =
    record {
      even = shard_len-even (length text) k;
      long = length-layout k text some;
      bytes = bytes;
    } in
    let first : joined k (λ s. code_row k (layout k text) w s) ≡ layout k text =
    law k w (layout k text) (omega arith) are in
    is ∙ rw (r, joined-add k m (λ i. code_row k (layout k text) w i), first) refl

-- row i of rows that are joined
pub row_of-joined : (n w : ℕ) (f : ℕ → List ℕ) → ((i : ℕ) → i < n → length (f i) ≡ w) → (i : ℕ)
    → i < n → row_of (joined n f) w i ≡ f i
unfolding row_of
row_of-joined zero w f h i l = absurd (omega arith)
row_of-joined (suc n) w f h i l =
    ⊎_elim {C = take w (drop (i * w) (joined (suc n) f)) ≡ f i}
    (λ less. before (row_of-joined n w f (λ j k. h j (omega arith)) i less) less) last
    (cases_lt i n)
  where
    one : joined (suc n) f ≡ joined n f ++ f n
    one = let step : suc n ≡ n + 1 = omega arith in rw step (joined_more n f)

    long : length (joined n f) ≡ n * w
    long = length-joined n w f (λ j k. h j (omega arith))

    before : take w (drop (i * w) (joined n f)) ≡ f i → i < n
        → take w (drop (i * w) (joined (suc n) f)) ≡ f i
    before again less =
        let room : (i + 1) * w ≤ n * w = mul-le-mul_right w (omega arith) in
        let here : i * w ≤ length (joined n f) = omega (arith, long, room) in
        let rest : w ≤ length (drop (i * w) (joined n f)) =
        omega (arith, length-drop (i * w) (joined n f), long, room) in
        let cut : drop (i * w) (joined n f ++ f n) ≡ drop (i * w) (joined n f) ++ f n =
        drop-append-le (i * w) (joined n f) (f n) here in
        let kept : take w (drop (i * w) (joined n f) ++ f n) ≡ take w (drop (i * w) (joined n f)) =
        take-append-le w (drop (i * w) (joined n f)) (f n) rest in
        rw (one, cut, kept) again

    last : n ≤ i → take w (drop (i * w) (joined (suc n) f)) ≡ f i
    last more =
        let same : i ≡ n = omega arith in
        let here : length (joined n f) ≡ i * w = rw same long in
        let cut : drop (i * w) (joined n f ++ f n) ≡ f n =
        drop_at (joined n f) (f n) (i * w) here in
        let whole : take w (f n) ≡ f n = take_all w (f n) (omega (arith, h n (omega arith))) in
        rw (one, cut, whole) (ap f (sym same))

-- a row of the rows of a text
pub row_of-text : (k m : ℕ) (text rows : List ℕ) (width i : ℕ) → width ≡ shard_len (length text) k
    → rows ≡ joined (k + m) (row_at k text) →
    i < k + m → row_of rows width i ≡ row_at k text i
row_of-text k m text rows width i w r l =
    ap (λ xs. row_of xs width i) r
    ∙ row_of-joined (k + m) width (row_at k text) (λ j h. length-row_at k text j ∙ sym w) i l

pub row_is : (rows part : List ℕ) (i w : ℕ) → part ≡ take (i * w + w - i * w) (drop (i * w) rows)
    → part ≡ row_of rows w i
unfolding row_of
row_is rows part i w h = let e : i * w + w - i * w ≡ w = omega arith in rw e at h

-- as many rows as there are
pub whole_rows : (n w : ℕ) → 0 < w → n * w / w ≡ n
whole_rows n w some = mul-div_cancel n some

-- what the rows of a text hash to
pub text_hashes : {D : Type 0} (hash : List ℕ → D) (k m : ℕ) (text rows : List ℕ) (width : ℕ)
    → 1 ≤ k →
    width ≡ shard_len (length text) k → rows ≡ joined (k + m) (row_at k text)
    → row_hashes hash width rows ≡ row_digests hash k m text
unfolding row_hashes
text_hashes {D = D} hash k m text rows width some w r =
    let long : length rows ≡ (k + m) * width =
    ap length r
    ∙ length-joined (k + m) width (row_at k text) (λ i l. length-row_at k text i ∙ sym w) in
    let positive : 0 < width = rw w (shard_len-some (length text) k some) in
    let count : length rows / width ≡ k + m =
    ap (λ (x : ℕ). x / width) long ∙ whole_rows (k + m) width positive in
    ap (λ (n : ℕ). listed n (λ i. hash (row_of rows width i))) count
    ∙ listed_same (k + m) (λ i. hash (row_of rows width i)) (λ i. hash (row_at k text i))
    (λ i l. ap hash (row_of-text k m text rows width i w r l))

-- ---- bytes
bytes_append : (xs ys : List ℕ) → ((i : ℕ) → get_or xs i 0 < 256) → ((i : ℕ) → get_or ys i 0 < 256)
    → (i : ℕ) → get_or (xs ++ ys) i 0 < 256
bytes_append [] ys a b i = b i
bytes_append (x ∷ xs) ys a b zero = a 0
bytes_append (x ∷ xs) ys a b (suc i) = bytes_append xs ys (λ j. a (suc j)) b i

bytes_zeros : (n i : ℕ) → get_or (replicate n 0) i 0 < 256
bytes_zeros zero i = omega arith
bytes_zeros (suc n) zero = omega arith
bytes_zeros (suc n) (suc i) = bytes_zeros n i

bytes_be32 : (n i : ℕ) → get_or (be32 n) i 0 < 256
unfolding be32
bytes_be32 n zero = omega arith
bytes_be32 n (suc zero) = omega arith
bytes_be32 n (suc (suc zero)) = omega arith
bytes_be32 n (suc (suc (suc zero))) = omega arith
bytes_be32 n (suc (suc (suc (suc i)))) = omega arith

pub bytes_layout : (k : ℕ) (text : List ℕ) → ((i : ℕ) → get_or text i 0 < 256) → (i : ℕ)
    → get_or (layout k text) i 0 < 256
unfolding layout
bytes_layout k text b =
    bytes_append _ _ (bytes_append _ _ (bytes_be32 (length text)) b) (bytes_zeros _)

-- the rows of a text: those that its layout is cut into, and the recoveries behind them
pub codeword_rows : OriginalsComeFirst → (k m : ℕ) (text laid rows : List ℕ) (width : ℕ) → 1 ≤ k
    → k + m ≤ 65535 → ((i : ℕ) → get_or laid i 0 < 256) → width ≡ shard_len (length text) k
    → laid ≡ layout k text → rows ≡ laid ++ joined m (λ i. code_row k laid width (k + i))
    → rows ≡ joined (k + m) (row_at k text)
codeword_rows law k m text laid rows width some small bytes w l r =
    rows_are law k m text rows _ some small (rw l at bytes) refl (rw (l, w) at r)

-- how long they are
pub rows_long : (k m : ℕ) (text rows : List ℕ) → rows ≡ joined (k + m) (row_at k text)
    → length rows ≡ (k + m) * shard_len (length text) k
rows_long k m text rows r =
    ap length r ∙ length-joined (k + m) _ (row_at k text) (λ i l. length-row_at k text i)

-- how long a codeword is that begins with so many rows
pub codeword_long : (k m width : ℕ) (laid rows : List ℕ) → width % 2 ≡ 0 → length laid ≡ k * width
    → rows ≡ laid ++ joined m (λ i. code_row k laid width (k + i)) → length rows ≡ (k + m) * width
codeword_long k m width laid rows even long r =
    let more : length (joined m (λ i. code_row k laid width (k + i))) ≡ m * width =
    length-joined m width _ (λ i l. length-code_row k laid width (k + i) even) in
    ap length r ∙ length-append laid _ ∙ omega (arith, long, more)
