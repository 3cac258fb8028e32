-- The text that rows come of, and the rows of its codeword.
use Rattle.std.proofs.Common.{◌≡◌, ℕ, zero, suc, ◌+◌, ◌-◌, ◌*◌, ◌/◌, ◌^◌, ◌<◌, ◌≤◌, List, [], ◌∷◌, ◌++◌, length, drop, take, get_or, replicate, refl, sym, ap, ◌∙◌, arith, append_assoc, Some}
use Rattle.std.specs.Int.{from_be_bytes, to_be_bytes, w32}
use Rattle.std.proofs.lemmas.Nat.{be_bytes_4}
use Rattle.std.proofs.lemmas.List.{drop-take, drop_at, get_or-take, length-drop, length-replicate, length-take-le, take-append-drop, take-take, take_rest}
use Rattle.cw_base.specs.Bytes.{be32}
use Rattle.cw_base.specs.Counts.{Counts}
use Rattle.cw_base.specs.Rows.{row_hashes, row_of}
use Rattle.cw_base.proofs.Listed.{length-listed}
use Rattle.rs_code.specs.Rows.{joined}
use Rattle.rs_code.proofs.IndexLaws.{AreSound-in_range}
use Rattle.cw_tree.specs.Tree.{root_of}
use Rattle.cw_tree.specs.Widths.{shard_len}
use Rattle.cw_coding.specs.Layout.{counted_text, layout, row_at, row_digests}
use Rattle.cw_coding.specs.Totals.{total_of}
use Rattle.cw_coding.specs.Digests.{AreDigests, AreDigestsAt}
use Rattle.cw_coding.specs.Decoding.{AreRecoverable, Fits}
use Rattle.cw_coding.proofs.LayoutLaws.{row_of-text, text_hashes, whole_rows}

pub length-text_in : (laid : List ℕ) (count : ℕ) → count + 4 ≤ length laid
    → length (counted_text laid count) ≡ count
length-text_in laid count h =
    length-take-le count (drop 4 laid) (omega (arith, h, length-drop 4 laid))

-- the text in rows that begin with its layout
pub text_in_front : (laid rows : List ℕ) (count : ℕ) → take (length laid) rows ≡ laid
    → count + 4 ≤ length laid → counted_text rows count ≡ counted_text laid count
text_in_front laid rows count front room =
    let more : ℕ = length laid - 4 in
    let split : length laid ≡ 4 + more = omega (arith, room) in
    sym
    (ap (λ (xs : List ℕ). take count (drop 4 xs)) (sym front)
    ∙ ap (λ (n : ℕ). take count (drop 4 (take n rows))) split
    ∙ ap (take count) (drop-take 4 more rows)
    ∙ take-take count more (drop 4 rows) (omega (arith, room)))

-- ---- what stands behind a text in its layout

-- the rest of a text, as it is sliced
pub behind : (os : List ℕ) (count : ℕ)
    → take (length (take (length os - 4) (drop 4 os)) - count)
    (drop count (take (length os - 4) (drop 4 os)))
    ≡ drop count (drop 4 os)
behind os count =
    ap (λ (xs : List ℕ). take (length xs - count) (drop count xs)) (take_rest os 4)
    ∙ take_rest (drop 4 os) count

pub zeros_again : (xs : List ℕ) (n : ℕ) → xs ≡ replicate n 0 → xs ≡ replicate (length xs) 0
zeros_again xs n e =
    e ∙ ap (λ (i : ℕ). replicate i 0) (sym (ap length e ∙ length-replicate n 0))

-- zeros stand there
pub layout_zeros : (k : ℕ) (text os : List ℕ) → layout k text ≡ os
    → drop (length text) (drop 4 os)
    ≡ replicate (k * shard_len (length text) k - (length text + 4)) 0
unfolding layout be32
layout_zeros k text os is = rw (← is) (drop_at text _ (length text) refl)

first_four : (os : List ℕ) → 4 ≤ length os
    → take 4 os ≡ get_or os 0 0 ∷ get_or os 1 0 ∷ get_or os 2 0 ∷ get_or os 3 0 ∷ []
first_four [] h = absurd (omega (arith, h))
first_four (a ∷ []) h = absurd (omega (arith, h))
first_four (a ∷ b ∷ []) h = absurd (omega (arith, h))
first_four (a ∷ b ∷ c ∷ []) h = absurd (omega (arith, h))
first_four (a ∷ b ∷ c ∷ d ∷ rest) h = refl

four_bytes : (a b c d : ℕ) → a < 256 → b < 256 → c < 256 → d < 256 → (i : ℕ)
    → get_or (a ∷ b ∷ c ∷ d ∷ []) i 0 < 256
four_bytes a b c d ha hb hc hd zero = ha
four_bytes a b c d ha hb hc hd (suc zero) = hb
four_bytes a b c d ha hb hc hd (suc (suc zero)) = hc
four_bytes a b c d ha hb hc hd (suc (suc (suc zero))) = hd
four_bytes a b c d ha hb hc hd (suc (suc (suc (suc i)))) = omega arith

-- a text with its length before it, and zeros behind it, is laid out
pub laid_out : (k width count : ℕ) (os : List ℕ) → length os ≡ k * width → count + 4 ≤ length os
    → ((i : ℕ) → get_or os i 0 < 256)
    → count
    ≡ from_be_bytes w32 (get_or os 0 0 ∷ get_or os 1 0 ∷ get_or os 2 0 ∷ get_or os 3 0 ∷ [])
    → shard_len count k ≡ width
    → drop count (drop 4 os) ≡ replicate (length (drop count (drop 4 os))) 0
    → layout k (counted_text os count) ≡ os
unfolding layout be32
laid_out k width count os long room bytes number w zeros =
    let rest : List ℕ = drop 4 os in
    let n : length (counted_text os count) ≡ count = length-text_in os count room in
    let head : to_be_bytes w32 count ≡ take 4 os =
    be_bytes_4 (get_or os 0 0 ∷ get_or os 1 0 ∷ get_or os 2 0 ∷ get_or os 3 0 ∷ []) count refl
    (four_bytes _ _ _ _ (bytes 0) (bytes 1) (bytes 2) (bytes 3)) number
    ∙ sym (first_four os (omega (arith, room))) in
    let size : k * shard_len count k - (count + 4) ≡ length (drop count rest) =
    omega (arith, ap (λ (v : ℕ). k * v) w, long, length-drop count rest, length-drop 4 os) in
    let tail : replicate (k * shard_len count k - (count + 4)) 0 ≡ drop count rest =
    ap (λ (z : ℕ). replicate z 0) size ∙ sym zeros in
    ap
    (λ (i : ℕ). to_be_bytes w32 i ++ counted_text os count
    ++ replicate (k * shard_len i k - (i + 4)) 0)
    n
    ∙ ap
    (λ (xs : List ℕ). xs ++ counted_text os count
    ++ replicate (k * shard_len count k - (count + 4)) 0)
    head
    ∙ ap (λ (xs : List ℕ). take 4 os ++ counted_text os count ++ xs) tail
    ∙ append_assoc (take 4 os) (take count rest) (drop count rest)
    ∙ ap (λ (xs : List ℕ). take 4 os ++ xs) (take-append-drop count rest)
    ∙ take-append-drop 4 os

-- ---- the codeword of a text, beside the rows that are given

pub hashes_count : {D : Type 0} (hash : List ℕ → D) (width : ℕ) (rows : List ℕ)
    → length (row_hashes hash width rows) ≡ length rows / width
unfolding row_hashes
hashes_count hash width rows = length-listed (length rows / width) (λ i. hash (row_of rows width i))

pub rows_count : (total width : ℕ) (rows : List ℕ) → 0 < width → length rows ≡ total * width
    → length rows / width ≡ total
rows_count total width rows some long =
    ap (λ (n : ℕ). n / width) long ∙ whole_rows total width some

module _ {D : Type 0} (hash : List ℕ → D) (content : D → List ℕ) (c : Counts) (root : D)
    (width : ℕ) (indices rows : List ℕ) (n : ℕ) (text all : List ℕ)
    (are : AreRecoverable c width indices rows n)
    (w : shard_len (length text) c.minimum ≡ width)
    (value : all ≡ joined (total_of c) (row_at c.minimum text)) where
  range : (s : ℕ) → s < n → get_or indices s 0 < total_of c
  range s l =
      AreSound-in_range (total_of c) indices are.sound s (omega (arith, l, are.within))

  here : (s : ℕ) → s < n
      → row_of all width (get_or indices s 0) ≡ row_at c.minimum text (get_or indices s 0)
  here s l =
      row_of-text c.minimum c.extra text all width (get_or indices s 0) (sym w) value (range s l)

  -- where a text fits the rows that are given, its codeword has them
  pub has_given : (other : List ℕ) → other ≡ text
      → Fits hash content c.minimum c.extra root width indices rows n other → (s : ℕ) → s < n
      → row_of rows width s ≡ row_of all width (get_or indices s 0)
  has_given other is f s l =
      f.same s l ∙ ap (λ (t : List ℕ). row_at c.minimum t (get_or indices s 0)) is
      ∙ sym (here s l)

  -- the digests of rows that are given are those of the codeword's
  pub digests_at : (digests : List D) → 0 < width → length all ≡ total_of c * width
      → ((s : ℕ) → s < n → row_of rows width s ≡ row_of all width (get_or indices s 0))
      → AreDigests hash width rows (length indices) digests
      → AreDigestsAt hash width all (take n indices) (take n digests)
  digests_at digests some long same known =
      let count : length (take n indices) ≡ n = length-take-le n indices are.within in
      let room : n ≤ length digests = omega (arith, are.within, known.count) in
      record {
        count = length-take-le n digests room ∙ sym count;
        below = λ t l.
            let at = get_or-take n indices t 0 (omega (arith, l, count)) in
            omega (
              arith,
              at,
              range t (omega (arith, l, count)),
              rows_count (total_of c) width all some long,
            );
        each = λ t d l.
            let within : t < n = omega (arith, l, count) in
            get_or-take n digests t d within
            ∙ known.each t d (omega (arith, within, are.within)) ∙ ap hash (same t within)
            ∙ ap (λ (i : ℕ). hash (row_of all width i)) (sym (get_or-take n indices t 0 within));
      }

  -- the root of the codeword's digests
  pub root_is : (digests : List D) → digests ≡ row_hashes hash width all
      → root_of hash content digests
      ≡ root_of hash content (row_digests hash c.minimum c.extra text)
  root_is digests are_hashes =
      ap (root_of hash content)
      (are_hashes ∙ text_hashes hash c.minimum c.extra text all width are.some (sym w) value)

  -- a text that fits has that root
  pub fits_root : (digests : List D) (other : List ℕ) → digests ≡ row_hashes hash width all
      → other ≡ text
      → Fits hash content c.minimum c.extra root width indices rows n other
      → root_of hash content digests ≡ Some root
  fits_root digests other are_hashes is f =
      root_is digests are_hashes
      ∙ ap (λ (t : List ℕ). root_of hash content (row_digests hash c.minimum c.extra t)) (sym is)
      ∙ f.rooted

  -- and one with that root whose codeword has the rows fits
  pub fitting : (digests : List D) (found : List ℕ) → length text ≤ 2 ^ 32 - 1
      → ((i : ℕ) → get_or found i 0 < 256) → found ≡ text
      → ((s : ℕ) → s < n → row_of rows width s ≡ row_of all width (get_or indices s 0))
      → digests ≡ row_hashes hash width all → root_of hash content digests ≡ Some root
      → Fits hash content c.minimum c.extra root width indices rows n found
  fitting digests found short bytes is same are_hashes rooted =
      rw is
      (record {
        short = short;
        bytes = rw is at bytes;
        same = λ s l. same s l ∙ here s l;
        rooted = sym (root_is digests are_hashes) ∙ rooted;
      })
