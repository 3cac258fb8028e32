-- Chunks that fit together, the text of a layout, and rows that are rebuilt.
use Rattle.std.proofs.Common.{◌≡◌, ℕ, suc, zero, ◌+◌, ◌-◌, ◌*◌, ◌/◌, ◌%◌, ◌^◌, ◌<◌, ◌≤◌, List, [], ◌∷◌, ◌++◌, length, drop, take, get_or, Contains, All, refl, sym, ap, subst, ◌∙◌, arith, Some, ◌⊎◌, inl, inr, ⊎_elim}
use Rattle.std.specs.Int.{w32, from_be_bytes}
use Rattle.std.proofs.Math.Nat.{mul-le-mul_right, eq_of_mul-eq-mul_left}
use Rattle.std.proofs.lemmas.Nat.{from_be_bytes-to_be_bytes_4}
use Rattle.std.proofs.lemmas.List.{take_more, take_at, map-append, get_or-take, drop-take, length-take-le, take-take, take_rest}
use Rattle.std.proofs.lemmas.List.Elements.{All-append}
use Rattle.cw_base.specs.Bytes.{be32}
use Rattle.rs_code.specs.Rows.{joined, code_row, row_through, AreRows, OriginalsComeFirst}
use Rattle.cw_base.specs.Rows.{row_of}
use Rattle.rs_code.proofs.RowBytes.{joined_same, length-joined, length-symbol_bytes}
use Rattle.rs_code.proofs.RowLaws.{joined_rows}
use Rattle.cw_coding.specs.Checked.{Checked}
use Rattle.cw_tree.specs.Widths.{shard_len}
use Rattle.cw_coding.specs.Layout.{layout, row_at}
use Rattle.rs_code.proofs.IndexLaws.{AreSound-push}
use Rattle.cw_base.specs.Counts.{Counts}
use Rattle.cw_coding.specs.declared.error.RsError.TheVariants.{InvalidShardSize}
use Rattle.cw_coding.specs.declared.error.ReedSolomonError.{ReedSolomonError}
use Rattle.cw_coding.specs.declared.error.ReedSolomonError.TheVariants.{ReedSolomon, Inconsistent, InvalidProof, NotEnoughChunks, DuplicateIndex, InvalidDataLength, InvalidIndex, TooManyTotalShards, CommitmentMismatch, NoMemory}
use Rattle.cw_coding.specs.Totals.{total_of, IsWidth}
use Rattle.cw_coding.specs.Decoding.{FitTogether, IsFirstMisfit, IsChunkRefusal, AreDecodable, indices_of, width_of, Fits}
use Rattle.cw_tree.proofs.WidthLaws.{shard_len-covers, shard_len-even, shard_len-some}
use Rattle.cw_coding.proofs.LayoutLaws.{length-layout, row_of-text, length-row_at, bytes_layout}

All-one : {X : Type 0} (P : X → Type 0) (x : X) → P x → All P (x ∷ [])
All-one P x h zero d l = h
All-one P x h (suc k) d l = absurd (omega arith)

-- one more chunk
pub fit_more : {D : Type 0} (total : ℕ) (root : D) (width : ℕ) (chunks : List (Checked D)) (i : ℕ)
    (x : Checked D)
    →
    i < length chunks → x ≡ get_or chunks i x → FitTogether total root width (take i chunks) →
    x.root ≡ root → length x.shard ≡ width → x.index < total
    → (Contains (indices_of (take i chunks)) x.index → ⊥) →
    FitTogether total root width (take (i + 1) chunks)
fit_more {D = D} total root width chunks i x l is f r w h new =
    let more : take (i + 1) chunks ≡ take i chunks ++ x ∷ [] =
    take_more chunks i x l ∙ ap (λ y. take i chunks ++ y ∷ []) (sym is) in
    let split : indices_of (take i chunks ++ x ∷ []) ≡ indices_of (take i chunks) ++ x.index ∷ [] =
    map-append (λ (c : Checked D). c.index) (take i chunks) (x ∷ []) in
    let all : FitTogether total root width (take i chunks ++ x ∷ []) =
    record {
      roots = All-append (λ c. c.root ≡ root) _ _ f.roots (All-one (λ c. c.root ≡ root) x r);
      widths =
          All-append (λ c. length c.shard ≡ width) _ _ f.widths
          (All-one (λ c. length c.shard ≡ width) x w);
      indices = rw split (AreSound-push total _ _ f.indices h new);
    } in
    rw more all

-- the count that a layout begins with
pub layout_count : (k : ℕ) (text os : List ℕ) → length text ≤ 2 ^ 32 - 1 → layout k text ≡ os →
    from_be_bytes w32 (get_or os 0 0 ∷ get_or os 1 0 ∷ get_or os 2 0 ∷ get_or os 3 0 ∷ [])
    ≡ length text
unfolding layout be32
layout_count k text os short is =
    rw (← is) (from_be_bytes-to_be_bytes_4 (length text) (omega arith))

-- the text behind it
pub layout_text : (k : ℕ) (text os : List ℕ) → layout k text ≡ os
    → take (length text) (drop 4 os) ≡ text
unfolding layout be32
layout_text k text os is = rw (← is) (take_at text _ (length text) refl)

pub layout_room : (k : ℕ) (text os : List ℕ) → 1 ≤ k → layout k text ≡ os
    → length text + 4 ≤ length os
layout_room k text os some is =
    omega (arith, ap length is, length-layout k text some, shard_len-covers (length text) k some)

pub layout_width : (k width : ℕ) (text os : List ℕ) → 1 ≤ k → length os ≡ k * width
    → layout k text ≡ os → shard_len (length text) k ≡ width
layout_width k width text os some long is =
    eq_of_mul-eq-mul_left k some (shard_len (length text) k) width
    (sym (length-layout k text some) ∙ ap length is ∙ long)

-- rows at the front of rows
pub row_of-take : (rows : List ℕ) (w k s : ℕ) → s < k → k * w ≤ length rows
    → row_of (take (k * w) rows) w s ≡ row_of rows w s
unfolding row_of
row_of-take rows w k s l h =
    let ends : (s + 1) * w ≤ k * w = mul-le-mul_right w (omega arith) in
    let split : k * w ≡ s * w + (k * w - s * w) = omega (arith, ends) in
    let cut : drop (s * w) (take (s * w + (k * w - s * w)) rows)
    ≡ take (k * w - s * w) (drop (s * w) rows) =
    drop-take (s * w) (k * w - s * w) rows in
    let whole : w ≤ k * w - s * w = omega (arith, ends) in
    ap (λ (n : ℕ). take w (drop (s * w) (take n rows))) split ∙ ap (take w) cut
    ∙ take-take w (k * w - s * w) (drop (s * w) rows) whole

pub length-row_through : (k : ℕ) (P : ℕ → ℕ) (rows : List ℕ) (width x : ℕ) → width % 2 ≡ 0
    → length (row_through k P rows width x) ≡ width
unfolding row_through
length-row_through k P rows width x even = length-symbol_bytes (width / 2) _ ∙ omega arith

pub rebuilt_long : (k j n : ℕ) (P ts : ℕ → ℕ) (rows out : List ℕ) (width : ℕ) → width % 2 ≡ 0
    → n ≡ k →
    out ≡ joined n (λ i. row_through j P rows width (ts i)) → length out ≡ k * width
rebuilt_long k j n P ts rows out width even count o =
    ap length o ∙ length-joined n width _ (λ i l. length-row_through j P rows width (ts i) even)
    ∙ ap (λ (j : ℕ). j * width) count

-- the rows that are used, where those given are rows of a codeword
pub rows_used : (k : ℕ) (indices rows used : List ℕ) (width : ℕ) (originals : List ℕ)
    → k ≤ length indices → length rows ≡ length indices * width → used ≡ take (k * width) rows →
    ((s : ℕ) → s < k → row_of rows width s ≡ code_row k originals width (get_or indices s 0)) →
    used ≡ joined k (λ s. code_row k originals width (get_or (take k indices) s 0))
rows_used k indices rows used width originals enough long u agree =
    let room : k * width ≤ length rows = rw long (mul-le-mul_right width enough) in
    let front : joined k (λ s. row_of (take (k * width) rows) width s) ≡ take (k * width) rows =
    joined_rows k width (take (k * width) rows) (length-take-le (k * width) rows room) in
    u ∙ sym front
    ∙ joined_same k _ _
    (λ s l. row_of-take rows width k s l room ∙ agree s l
    ∙ ap (code_row k originals width) (sym (get_or-take k indices s 0 l)))

-- a layout read back is laid out again
pub laid_again : (k : ℕ) (text os read : List ℕ) (count : ℕ) → layout k text ≡ os
    → count ≡ length text →
    read ≡ take count (take (length os - 4) (drop 4 os)) → layout k read ≡ os
laid_again k text os read count is n r =
    let rest : take (length os - 4) (drop 4 os) ≡ drop 4 os = take_rest os 4 in
    let same : read ≡ text =
    r ∙ ap (λ (xs : List ℕ). take count xs) rest ∙ ap (λ (i : ℕ). take i (drop 4 os)) n
    ∙ layout_text k text os is in
    ap (layout k) same ∙ is

-- a row of the rows of a text, by an index that was given
pub row_by_index : (k m : ℕ) (text rows rows' indices indices' : List ℕ) (width n : ℕ) →
    width ≡ shard_len (length text) k → rows ≡ joined (k + m) (row_at k text) → rows' ≡ rows
    → indices' ≡ indices →
    n ≤ length indices → ((s : ℕ) → s < length indices → get_or indices s 0 < k + m) → (s : ℕ)
    → s < n →
    row_of rows' width (get_or indices' s 0) ≡ row_at k text (get_or indices s 0)
row_by_index k m text rows rows' indices indices' width n w r er ei h range s l =
    rw (er, ei) (row_of-text k m text rows width (get_or indices s 0) w r (range s (omega arith)))

pub some_same : {A : Type 0} {x y : A} → Some x ≡ Some y → x ≡ y
some_same e = cc

-- ---- what comes of rows

first_long : (rows : List ℕ) (width : ℕ) → width ≤ length rows
    → length (row_of rows width 0) ≡ width
unfolding row_of
first_long rows width h =
    let none : 0 * width ≡ 0 = omega arith in
    ap (λ (i : ℕ). length (take width (drop i rows))) none ∙ length-take-le width rows h

-- a fitting text has the width of the rows
pub fits_width : {D : Type 0} (hash : List ℕ → D) (content : D → List ℕ) (k m : ℕ) (root : D)
    (width : ℕ) (indices rows : List ℕ) (n : ℕ) (text : List ℕ)
    →
    1 ≤ n → n ≤ length indices → length rows ≡ length indices * width
    → Fits hash content k m root width indices rows n text →
    shard_len (length text) k ≡ width
fits_width hash content k m root width indices rows n text some h long f =
    let one : 1 * width ≤ length indices * width = mul-le-mul_right width (omega arith) in
    sym (length-row_at k text (get_or indices 0 0)) ∙ sym (ap length (f.same 0 some))
    ∙ first_long rows width (omega (arith, one, long))

-- a fitting text's layout is rebuilt
pub fits_layout : {D : Type 0} (hash : List ℕ → D) (content : D → List ℕ) (k m : ℕ) (root : D)
    (width : ℕ) (indices rows : List ℕ) (n : ℕ) (text originals : List ℕ)
    →
    OriginalsComeFirst → 1 ≤ k → k ≤ 65535 → k ≤ n → n ≤ length indices
    → length rows ≡ length indices * width →
    Fits hash content k m root width indices rows n text →
    ((os : List ℕ)
    → ((s : ℕ) → s < k → row_of rows width s ≡ code_row k os width (get_or indices s 0))
    → originals ≡ joined k (λ i. code_row k os width i))
    →
    layout k text ≡ originals
unfolding row_at
fits_layout hash content k m root width indices rows n text originals law some small enough h long f
    rebuilt =
    let w = fits_width hash content k m root width indices rows n text (omega arith) h long f in
    let are : AreRows k width (layout k text) =
    record {
      even = rw (← w) (shard_len-even (length text) k);
      long = length-layout k text some ∙ ap (λ (v : ℕ). k * v) w;
      bytes = bytes_layout k text f.bytes;
    } in
    let agree : (s : ℕ) → s < k
    → row_of rows width s ≡ code_row k (layout k text) width (get_or indices s 0) =
    λ s l. f.same s (omega arith)
    ∙ ap (λ (v : ℕ). code_row k (layout k text) v (get_or indices s 0)) w in
    sym (law k width (layout k text) (omega arith) are) ∙ sym (rebuilt (layout k text) agree)

-- two texts of one layout
pub same_text : (k : ℕ) (first second os : List ℕ) → length first ≤ 2 ^ 32 - 1
    → length second ≤ 2 ^ 32 - 1 →
    layout k first ≡ os → layout k second ≡ os → first ≡ second
same_text k first second os a b e f =
    let count : length first ≡ length second =
    sym (layout_count k first os a e) ∙ layout_count k second os b f in
    sym (layout_text k first os e) ∙ ap (λ (n : ℕ). take n (drop 4 os)) count
    ∙ layout_text k second os f

-- no text fits rows of no width, or of an odd one
pub no_width : {D : Type 0} (hash : List ℕ → D) (content : D → List ℕ) (k m : ℕ) (root : D)
    (width : ℕ) (indices rows : List ℕ) (n : ℕ) (text : List ℕ)
    →
    1 ≤ k → 1 ≤ n → n ≤ length indices → length rows ≡ length indices * width
    → Fits hash content k m root width indices rows n text →
    (0 < width) × (width % 2 ≡ 0)
no_width hash content k m root width indices rows n text positive some h long f =
    let w = fits_width hash content k m root width indices rows n text some h long f in
    (rw (← w) (shard_len-some (length text) k positive), rw (← w) (shard_len-even (length text) k))

-- a chunk that doesn't fit those before it is a cause to refuse them
pub misfit_refuses : {D : Type 0} (c : Counts) (root : D) (chunks : List (Checked D))
    (total width : ℕ) (e : ReedSolomonError)
    →
    total ≡ total_of c → width ≡ width_of chunks → total ≤ 65535 → IsWidth total width →
    (e ≡ NoMemory) ⊎ IsFirstMisfit total root width chunks e
    → (e ≡ NoMemory) ⊎ IsChunkRefusal c root chunks e
misfit_refuses {D = D} c root chunks total width e t w small wide why =
    ⊎_elim (λ none. inl none) (λ m. inr (go e small wide m)) why
  where
    there : (e : ReedSolomonError) → total ≤ 65535 → IsWidth total width
        → IsFirstMisfit total root width chunks e →
        (total_of c ≤ 65535) × IsWidth (total_of c) (width_of chunks)
        × IsFirstMisfit (total_of c) root (width_of chunks) chunks e
    there e small wide m =
        subst
        (λ (n : ℕ). (n ≤ 65535) × IsWidth n (width_of chunks)
        × IsFirstMisfit n root (width_of chunks) chunks e)
        t
        (subst (λ (v : ℕ). (total ≤ 65535) × IsWidth total v × IsFirstMisfit total root v chunks e)
        w (small, wide, m))

    go : (e : ReedSolomonError) → total ≤ 65535 → IsWidth total width
        → IsFirstMisfit total root width chunks e → IsChunkRefusal c root chunks e
    go CommitmentMismatch small wide m = there CommitmentMismatch small wide m
    go Inconsistent small wide m = there Inconsistent small wide m
    go (InvalidIndex i) small wide m = there (InvalidIndex i) small wide m
    go (DuplicateIndex i) small wide m = there (DuplicateIndex i) small wide m
    go (ReedSolomon x) small wide m = absurd m.misfit
    go InvalidProof small wide m = there InvalidProof small wide m
    go NotEnoughChunks small wide m = absurd m.misfit
    go (InvalidDataLength n) small wide m = there (InvalidDataLength n) small wide m
    go (TooManyTotalShards n) small wide m = absurd m.misfit
    go NoMemory small wide m = there NoMemory small wide m

-- the tests that chunks are decoded after, by the numbers that they were made with
module _ {D : Type 0} (c : Counts) (root : D) (chunks : List (Checked D)) (total width : ℕ)
    (t : total ≡ total_of c) (w : width ≡ width_of chunks) (small : total ≤ 65535)
    (some : 0 < length chunks) where
  pub wide_refuses : (IsWidth total width → ⊥)
      → IsChunkRefusal c root chunks (ReedSolomon (InvalidShardSize width))
  wide_refuses never = (omega arith, some, w, λ h. never (rw (t, w) h))

  pub few_refuses : IsWidth total width → FitTogether total root width chunks
      → length chunks < c.minimum → IsChunkRefusal c root chunks NotEnoughChunks
  few_refuses wide fit few =
      (omega arith, inr (record { width = rw (t, w) at wide; fit = rw (t, w) at fit; few = few }))

  pub decodable_is : IsWidth total width → FitTogether total root width chunks
      → c.minimum ≤ length chunks → AreDecodable c root chunks
  decodable_is wide fit enough = record {
    total = omega arith;
    some = some;
    width = rw (t, w) at wide;
    fit = rw (t, w) at fit;
    enough = enough;
  }
