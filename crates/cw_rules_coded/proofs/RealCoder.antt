-- The real codeword, tree and bytes have what the rules ask.
use Rattle.std.specs.Int.{w32, from_be_bytes}
use Rattle.std.proofs.Common.{◌≡◌, ◌≢◌, ℕ, zero, suc, ◌+◌, ◌-◌, ◌*◌, ◌/◌, ◌%◌, ◌^◌, ◌<◌, ◌≤◌, Bool}
use Rattle.std.proofs.Common.{true, false, ◌&&◌, ◌==◌, bytes_eq, nat_lt, List, [], ◌∷◌, ◌++◌}
use Rattle.std.proofs.Common.{length, map, take, drop, replicate, slice_get, slice_index, get_or}
use Rattle.std.proofs.Common.{Some, None, unwrap_or, refl, sym, ◌∙◌, ap, subst, inl, inr, ◌⊎◌}
use Rattle.std.proofs.Common.{arith, length-append, append_assoc, eq-eqb, eqb-true, ltb-true}
use Rattle.std.specs.List.{AllByRecursion, list_all}
use Rattle.std.specs.Option.{option_map_or}
use Rattle.std.proofs.lemmas.Bool.{and_parts, and_from, cases_Bool, cases_lt, cond-true, cond-false}
use Rattle.std.proofs.lemmas.Bool.{lt-ltb}
use Rattle.std.proofs.lemmas.Nat.{from_be_bytes-to_be_bytes_4}
use Rattle.std.proofs.lemmas.Option.{same_Some, slice_get_past, slice_get_within}
use Rattle.std.proofs.lemmas.Slice.Eq.{bytes_eq-Decides}
use Rattle.cw_base.specs.declared.hash.Digest32.{Digest32}
use Rattle.cw_base.specs.Bytes.{be32}
use Rattle.cw_base.specs.Rows.{listed, row_of}
use Rattle.cw_base.proofs.Listed.{length-listed}
use Rattle.cw_base.specs.Counts.{Counts}
use Rattle.rs_code.specs.Codeword.{ArePoints}
use Rattle.rs_code.specs.Rows.{AreRows, OriginalsComeFirst, RowsFixCodeword, RowsHaveCodeword}
use Rattle.rs_code.specs.Rows.{code_row, joined, row_through}
use Rattle.cw_tree.specs.Tree.{leaves_from, paired, path_of, root_by, root_of, rooted_some}
use Rattle.cw_tree.specs.Tree.{top_within}
use Rattle.cw_tree.proofs.TreeRoots.{root_by-path_of}
use Rattle.cw_tree.specs.Widths.{shard_len}
use Rattle.cw_types.specs.Block.{Block}
use Rattle.cw_types.specs.Commit.{empty_digest}
use Rattle.cw_types.specs.Epochs.{Epochs}
use Rattle.cw_types.specs.Same.{same_digest}
use Rattle.cw_types.proofs.FormatLaws.{block_found}
use Rattle.cw_rules.specs.Coding.{AreApart, AreByteChunks, AreBytes, IsCoder, IsText}
use Rattle.cw_rules.specs.Rules.{Chunk}
use Rattle.cw_coding.specs.Totals.{total_of}
use Rattle.cw_rules_coded.specs.Coded.{code_rows, coded, decoded, digest_bytes, if_codeword}
use Rattle.cw_rules_coded.specs.Coded.{is_row_of, is_text, originals, place_at, root_over}
use Rattle.cw_rules_coded.specs.Coded.{shards_of, text_in, width_of}
use Rattle.cw_coding.specs.Layout.{layout, row_at}
use Rattle.rs_code.proofs.RowBytes.{joined_same}
use Rattle.cw_coding.proofs.LayoutLaws.{length-layout, length-row_at}
use Rattle.cw_tree.proofs.WidthLaws.{shard_len-even, shard_len-some}
use Rattle.cw_base.proofs.Lengths.{length-be32}
use Rattle.cw_rules.proofs.Worlds.{length-mapped}
use Rattle.cw_rules.proofs.Written.{bytes_by_place}
use Rattle.cw_rules.proofs.Lists.{all_both}

-- ---- lists by place

pub get-append_left : {X : Type 0} (xs ys : List X) (i : ℕ) → i < length xs
    → slice_get (xs ++ ys) i ≡ slice_get xs i
get-append_left [] ys i h = absurd (omega arith)
get-append_left (x ∷ xs) ys zero h = refl
get-append_left (x ∷ xs) ys (suc i) h = get-append_left xs ys i (omega arith)

pub get-append_at : {X : Type 0} (xs : List X) (y : X)
    → slice_get (xs ++ y ∷ []) (length xs) ≡ Some y
get-append_at [] y = refl
get-append_at (x ∷ xs) y = get-append_at xs y

pub listed_at : {X : Type 0} (n : ℕ) (f : ℕ → X) (i : ℕ) → i < n
    → slice_get (listed n f) i ≡ Some (f i)
unfolding listed
listed_at zero f i h = absurd (omega arith)
listed_at (suc n) f i h = go (cases_lt i n) (listed_at n f i)
  where
    go : (i < n) ⊎ (n ≤ i) → (i < n → slice_get (listed n f) i ≡ Some (f i))
        → slice_get (listed n f ++ f n ∷ []) i ≡ Some (f i)
    go (inl less) later =
        get-append_left (listed n f) (f n ∷ []) i (omega (arith, length-listed n f)) ∙ later less
    go (inr more) later =
        let e : n ≡ i = omega arith in
        let here : length (listed n f) ≡ i = length-listed n f ∙ e in
        subst (λ j. slice_get (listed n f ++ f n ∷ []) j ≡ Some (f n)) here
        (get-append_at (listed n f) (f n))
        ∙ ap (λ j. Some (f j)) e

listed_from : {X : Type 0} (n : ℕ) (f : ℕ → X) (i : ℕ) (x : X) → slice_get (listed n f) i ≡ Some x
    → (i < n) × (f i ≡ x)
listed_from n f i x h = go (cases_lt i n)
  where
    go : (i < n) ⊎ (n ≤ i) → (i < n) × (f i ≡ x)
    go (inl less) = (less, same_Some (f i) x (sym (listed_at n f i less) ∙ h))
    go (inr more) = cc (slice_get_past (listed n f) i (omega (arith, length-listed n f)))

all_listed : {X : Type 0} (P : X → Type 0) (n : ℕ) (f : ℕ → X) → ((i : ℕ) → P (f i))
    → AllByRecursion P (listed n f)
unfolding listed
all_listed P zero f h = tt
all_listed P (suc n) f h = all_both P (listed n f) (f n ∷ []) (all_listed P n f h) (h n, tt)

pub byte_at : (xs : List ℕ) → AreBytes xs → (i : ℕ) → slice_index xs i < 256
byte_at [] a i = omega arith
byte_at (x ∷ xs) a zero = a.0
byte_at (x ∷ xs) a (suc i) = byte_at xs a.1 i

drop_past : {X : Type 0} (n : ℕ) (xs ys : List X) → drop (length xs + n) (xs ++ ys) ≡ drop n ys
drop_past n [] ys = let e : 0 + n ≡ n = omega arith in ap (λ k. drop k ys) e
drop_past n (x ∷ xs) ys =
    let e : length (x ∷ xs) + n ≡ suc (length xs + n) = omega arith in
    ap (λ k. drop k (x ∷ xs ++ ys)) e ∙ drop_past n xs ys

pub take_front : {X : Type 0} (xs ys : List X) → take (length xs) (xs ++ ys) ≡ xs
take_front [] ys = refl
take_front (x ∷ xs) ys = ap (λ zs. x ∷ zs) (take_front xs ys)

-- ---- the layout

bytes_be32 : (n : ℕ) → AreBytes (be32 n)
unfolding be32
bytes_be32 n = (omega arith, (omega arith, (omega arith, (omega arith, tt))))

bytes_zeros : (n : ℕ) → AreBytes (replicate n 0)
bytes_zeros zero = tt
bytes_zeros (suc n) = (omega arith, bytes_zeros n)

layout_rows : (k : ℕ) (text : List ℕ) → 1 ≤ k → AreBytes text
    → AreRows k (shard_len (length text) k) (layout k text)
unfolding layout
layout_rows k text h bytes = record {
  even = shard_len-even (length text) k;
  long = length-layout k text h;
  bytes =
      byte_at (layout k text)
      (all_both (λ x. x < 256) (be32 (length text) ++ text)
      (replicate (k * shard_len (length text) k - (length text + 4)) 0)
      (all_both (λ x. x < 256) (be32 (length text)) text (bytes_be32 (length text)) bytes)
      (bytes_zeros (k * shard_len (length text) k - (length text + 4))));
}

number_back : (n : ℕ) → n < 2 ^ 32 → from_be_bytes w32 (be32 n) ≡ n
unfolding be32
number_back n h = from_be_bytes-to_be_bytes_4 n h

-- the text in a layout is the text
layout_text : (k : ℕ) (text : List ℕ) → length text < 2 ^ 32 → text_in (layout k text) ≡ text
unfolding layout
layout_text k text short =
    let zeros : List ℕ = replicate (k * shard_len (length text) k - (length text + 4)) 0 in
    let whole : be32 (length text) ++ text ++ zeros ≡ be32 (length text) ++ (text ++ zeros) =
    append_assoc (be32 (length text)) text zeros in
    let front : take 4 (be32 (length text) ++ text ++ zeros) ≡ be32 (length text) =
    ap (take 4) whole
    ∙ subst (λ n. take n (be32 (length text) ++ (text ++ zeros)) ≡ be32 (length text))
    (length-be32 (length text)) (take_front (be32 (length text)) (text ++ zeros)) in
    let four : length (be32 (length text)) + 0 ≡ 4 = omega (arith, length-be32 (length text)) in
    let back : drop 4 (be32 (length text) ++ text ++ zeros) ≡ text ++ zeros =
    ap (drop 4) whole
    ∙ subst (λ n. drop n (be32 (length text) ++ (text ++ zeros)) ≡ text ++ zeros) four
    (drop_past 0 (be32 (length text)) (text ++ zeros)) in
    let count : from_be_bytes w32 (take 4 (be32 (length text) ++ text ++ zeros)) ≡ length text =
    ap (from_be_bytes w32) front ∙ number_back (length text) short in
    ap (λ n. take n (drop 4 (be32 (length text) ++ text ++ zeros))) count
    ∙ (ap (take (length text)) back ∙ take_front text zeros)

-- ---- chunks that are rows of a text

abbrev AreRowsAt : ℕ → ℕ → List ℕ → List Chunk → Type 0
AreRowsAt k total text chunks =
    AllByRecursion (λ (c : Chunk). (c.index < total) × (c.shard ≡ row_at k text c.index)) chunks

rows_at : (x : Counts) (text : List ℕ) (chunks : List Chunk)
    → AllByRecursion
    (λ (c : Chunk). slice_get (code_rows text x.minimum x.extra) c.index ≡ Some c.shard) chunks
    → AreRowsAt x.minimum (total_of x) text chunks
rows_at x text [] a = tt
rows_at x text (c ∷ cs) a =
    let p = listed_from (x.minimum + x.extra) (row_at x.minimum text) c.index c.shard a.0 in
    ((p.0, sym p.1), rows_at x text cs a.1)

module _ (k total : ℕ) (text : List ℕ) where
  abbrev w : ℕ
  w = shard_len (length text) k

  shard_width : (c : Chunk) → c.shard ≡ row_at k text c.index → length c.shard ≡ w
  shard_width c e = ap length e ∙ length-row_at k text c.index

  shards_long : (chunks : List Chunk) → AreRowsAt k total text chunks
      → length (shards_of chunks) ≡ length chunks * w
  shards_long [] a = omega arith
  shards_long (c ∷ cs) a =
      omega (arith, length-append c.shard (shards_of cs), shard_width c a.0.1, shards_long cs a.1)

  shards_bytes : (chunks : List Chunk) → AreByteChunks chunks → AreBytes (shards_of chunks)
  shards_bytes [] a = tt
  shards_bytes (c ∷ cs) a = all_both (λ x. x < 256) c.shard (shards_of cs) a.0 (shards_bytes cs a.1)

  shard_rows : (chunks : List Chunk) → AreRowsAt k total text chunks → (s : ℕ) → s < length chunks
      → row_of (shards_of chunks) w s ≡ row_at k text (place_at chunks s)
  unfolding row_of
  shard_rows [] a s h = absurd (omega arith)
  shard_rows (c ∷ cs) a zero h =
      let none : 0 * w ≡ 0 = omega arith in
      ap (λ n. take w (drop n (c.shard ++ shards_of cs))) none
      ∙ (subst (λ n. take n (c.shard ++ shards_of cs) ≡ c.shard) (shard_width c a.0.1)
      (take_front c.shard (shards_of cs))
      ∙ a.0.1)
  shard_rows (c ∷ cs) a (suc s) h =
      let more : suc s * w ≡ length c.shard + s * w = omega (arith, shard_width c a.0.1) in
      ap (λ n. take w (drop n (c.shard ++ shards_of cs))) more
      ∙ (ap (take w) (drop_past (s * w) c.shard (shards_of cs)) ∙ shard_rows cs a.1 s (omega arith))

  place_fits : (chunks : List Chunk) → AreRowsAt k total text chunks → (s : ℕ) → s < length chunks
      → place_at chunks s < total
  place_fits [] a s h = absurd (omega arith)
  place_fits (c ∷ cs) a zero h = a.0.0
  place_fits (c ∷ cs) a (suc s) h = place_fits cs a.1 s (omega arith)

  other_place : (i : ℕ) (chunks : List Chunk) → AllByRecursion (λ (d : Chunk). i ≢ d.index) chunks
      → (s : ℕ) → s < length chunks → i ≡ place_at chunks s → ⊥
  other_place i [] a s h e = absurd (omega arith)
  other_place i (c ∷ cs) a zero h e = a.0 e
  other_place i (c ∷ cs) a (suc s) h e = other_place i cs a.1 s (omega arith) e

  places_apart : (chunks : List Chunk) → AreApart chunks → (s u : ℕ) → s < length chunks
      → u < length chunks → place_at chunks s ≡ place_at chunks u → s ≡ u
  places_apart [] a s u h g e = absurd (omega arith)
  places_apart (c ∷ cs) a zero zero h g e = refl
  places_apart (c ∷ cs) a zero (suc u) h g e = absurd (other_place c.index cs a.0 u (omega arith) e)
  places_apart (c ∷ cs) a (suc s) zero h g e =
      absurd (other_place c.index cs a.0 s (omega arith) (sym e))
  places_apart (c ∷ cs) a (suc s) (suc u) h g e =
      ap suc (places_apart cs a.1 s u (omega arith) (omega arith) e)

  first_width : (chunks : List Chunk) → AreRowsAt k total text chunks → 0 < length chunks
      → width_of chunks ≡ w
  first_width [] a h = absurd (omega arith)
  first_width (c ∷ cs) a h = shard_width c a.0.1

-- each chunk passes the test
rows_pass : (x : Counts) (text : List ℕ) (chunks : List Chunk)
    → AreRowsAt x.minimum (total_of x) text chunks → list_all (is_row_of x text) chunks ≡ true
rows_pass x text [] a = refl
rows_pass x text (c ∷ cs) a =
    and_from (is_row_of x text c) (list_all (is_row_of x text) cs)
    (and_from (nat_lt c.index (total_of x)) (bytes_eq c.shard (row_at x.minimum text c.index))
    (lt-ltb c.index (total_of x) a.0.0)
    ((bytes_eq-Decides c.shard (row_at x.minimum text c.index)).1 a.0.1))
    (rows_pass x text cs a.1)

pass_rows : (x : Counts) (text : List ℕ) (chunks : List Chunk)
    → list_all (is_row_of x text) chunks ≡ true
    → AllByRecursion
    (λ (c : Chunk). slice_get (code_rows text x.minimum x.extra) c.index ≡ Some c.shard) chunks
pass_rows x text [] h = tt
pass_rows x text (c ∷ cs) h =
    let p = and_parts (is_row_of x text c) (list_all (is_row_of x text) cs) h in
    let q =
    and_parts (nat_lt c.index (total_of x)) (bytes_eq c.shard (row_at x.minimum text c.index))
    p.0 in
    let e = (bytes_eq-Decides c.shard (row_at x.minimum text c.index)).0 q.1 in (
      listed_at (x.minimum + x.extra) (row_at x.minimum text) c.index
          (ltb-true c.index (total_of x) q.0)
          ∙ ap Some (sym e),
      pass_rows x text cs p.1,
    )

bytes_pass : (text : List ℕ) → AreBytes text → list_all (λ x. nat_lt x 256) text ≡ true
bytes_pass [] a = refl
bytes_pass (x ∷ xs) a =
    and_from (nat_lt x 256) (list_all (λ y. nat_lt y 256) xs) (lt-ltb x 256 a.0) (bytes_pass xs a.1)

pass_bytes : (text : List ℕ) → list_all (λ x. nat_lt x 256) text ≡ true → AreBytes text
pass_bytes [] h = tt
pass_bytes (x ∷ xs) h =
    let p = and_parts (nat_lt x 256) (list_all (λ y. nat_lt y 256) xs) h in
    (ltb-true x 256 p.0, pass_bytes xs p.1)

text_passes : (text : List ℕ) → IsText text → is_text text ≡ true
text_passes text t =
    and_from (list_all (λ x. nat_lt x 256) text) (nat_lt (length text) (2 ^ 32))
    (bytes_pass text t.0) (lt-ltb (length text) (2 ^ 32) t.1)

passes_text : (text : List ℕ) → is_text text ≡ true → IsText text
passes_text text h =
    let p = and_parts (list_all (λ x. nat_lt x 256) text) (nat_lt (length text) (2 ^ 32)) h in
    (pass_bytes text p.0, ltb-true (length text) (2 ^ 32) p.1)

-- what is decoded is a text of whose codeword the chunks are rows
pub decoded_sound : (x : Counts) (chunks : List Chunk) (text : List ℕ) → decoded x chunks ≡ Some text
    → (length chunks ≡ x.minimum) × IsText text
    × AllByRecursion
    (λ (c : Chunk). slice_get (code_rows text x.minimum x.extra) c.index ≡ Some c.shard)
    chunks
decoded_sound x chunks text h = go (text_in (originals x.minimum chunks)) h
  where
    go : (t : List ℕ) → if_codeword x chunks t ≡ Some text
        → (length chunks ≡ x.minimum) × IsText text
        × AllByRecursion
        (λ (c : Chunk). slice_get (code_rows text x.minimum x.extra) c.index ≡ Some c.shard)
        chunks
    go t h =
        by_test
        (cases_Bool
        ((length chunks == x.minimum) && is_text t && list_all (is_row_of x t) chunks))
      where
        by_test : (((length chunks == x.minimum) && is_text t && list_all (is_row_of x t) chunks)
            ≡ true)
            ⊎ (((length chunks == x.minimum) && is_text t && list_all (is_row_of x t) chunks)
            ≡ false)
            → (length chunks ≡ x.minimum) × IsText text
            × AllByRecursion
            (λ (c : Chunk). slice_get (code_rows text x.minimum x.extra) c.index
            ≡ Some c.shard)
            chunks
        by_test (inl y) =
            let p =
            and_parts ((length chunks == x.minimum) && is_text t)
            (list_all (is_row_of x t) chunks) y in
            let q = and_parts (length chunks == x.minimum) (is_text t) p.0 in
            let same : t ≡ text = same_Some t text (sym (cond-true _ (Some t) None y) ∙ h) in (
              eqb-true (length chunks) x.minimum q.0,
              subst IsText same (passes_text t q.1),
              subst
                  (λ u. AllByRecursion
                  (λ (c : Chunk). slice_get (code_rows u x.minimum x.extra) c.index
                  ≡ Some c.shard)
                  chunks)
                  same (pass_rows x t chunks p.1),
            )
        by_test (inr n) =
            cc
            (cond-false
            ((length chunks == x.minimum) && is_text t && list_all (is_row_of x t) chunks)
            (Some t) None n)

-- ---- the tree

length-paired : (hash : List ℕ → Digest32) (xs : List Digest32)
    → length (paired hash digest_bytes xs) ≡ (length xs + 1) / 2
length-paired hash [] = refl
length-paired hash (a ∷ []) = refl
length-paired hash (a ∷ (b ∷ rest)) = let e = length-paired hash rest in omega arith

-- a level that isn't empty has a top
top_some : (hash : List ℕ → Digest32) (n : ℕ) (level : List Digest32) → 0 < length level
    → length level ≤ n + 1 → (top : Digest32) × (top_within hash digest_bytes n level ≡ Some top)
top_some hash n [] some le = absurd (omega arith)
top_some hash n (a ∷ []) some le = (a, refl)
top_some hash zero (a ∷ (b ∷ rest)) some le = absurd (omega arith)
top_some hash (suc n) (a ∷ (b ∷ rest)) some le =
    let e = length-paired hash (a ∷ (b ∷ rest)) in
    top_some hash n (paired hash digest_bytes (a ∷ (b ∷ rest))) (omega arith) (omega arith)

length-leaves : (hash : List ℕ → Digest32) (i : ℕ) (ds : List Digest32)
    → length (leaves_from hash digest_bytes i ds) ≡ length ds
length-leaves hash i [] = refl
length-leaves hash i (d ∷ ds) = ap suc (length-leaves hash (i + 1) ds)

root_some : (hash : List ℕ → Digest32) (ds : List Digest32) → 0 < length ds
    → (root : Digest32) × (root_of hash digest_bytes ds ≡ Some root)
unfolding root_of
root_some hash ds some =
    let e = length-leaves hash 0 ds in
    let (top, at) =
    top_some hash (length ds) (leaves_from hash digest_bytes 0 ds) (omega arith)
    (omega arith) in
    (_, ap (rooted_some hash digest_bytes (length ds)) at)

pub get-mapped : {X Y : Type 0} (f : X → Y) (xs : List X) (i : ℕ) (x : X) (d : Y)
    → slice_get xs i ≡ Some x → get_or (map f xs) i d ≡ f x
get-mapped f [] i x d h = cc
get-mapped f (y ∷ ys) zero x d h = ap f (same_Some y x h)
get-mapped f (y ∷ ys) (suc i) x d h = get-mapped f ys i x d h

-- the way up from a row leads to the root
row_leads : (hash : List ℕ → Digest32) (rows : List (List ℕ)) (i : ℕ) (row : List ℕ)
    → slice_get rows i ≡ Some row
    → option_map_or (same_digest (root_over hash (map hash rows)))
    (root_by hash digest_bytes (length rows) (path_of hash digest_bytes i (map hash rows)) i
    (hash row))
    false
    ≡ true
row_leads hash rows i row at =
    let ds : List Digest32 = map hash rows in
    let within : i < length ds =
    omega (arith, slice_get_within rows i row at, length-mapped hash rows) in
    let up =
    root_by-path_of hash digest_bytes ds i (hash row) within
    (sym (get-mapped hash rows i row (hash row) at)) in
    let (root, is) = root_some hash ds (omega arith) in
    let led : root_by hash digest_bytes (length rows) (path_of hash digest_bytes i ds) i (hash row)
    ≡ Some root =
    subst
    (λ n. root_by hash digest_bytes n (path_of hash digest_bytes i ds) i (hash row)
    ≡ Some root)
    (length-mapped hash rows) (up ∙ is) in
    subst (λ o. option_map_or (same_digest (root_over hash ds)) o false ≡ true) (sym led)
    (subst (λ o. same_digest (unwrap_or o empty_digest) root ≡ true) (sym is)
    ((bytes_eq-Decides root.0 root.0).1 refl))

-- ---- all of it

module _ (first : OriginalsComeFirst) (fix : RowsFixCodeword) (have : RowsHaveCodeword) where
  -- k rows of a text's codeword at different places are decoded to it
  decoded_complete : (x : Counts) (chunks : List Chunk) (text : List ℕ) → 0 < x.minimum
      → total_of x ≤ 65535 → AreApart chunks → AreByteChunks chunks → length chunks ≡ x.minimum
      → IsText text
      → AllByRecursion
      (λ (c : Chunk). slice_get (code_rows text x.minimum x.extra) c.index ≡ Some c.shard)
      chunks
      → decoded x chunks ≡ Some text
  unfolding row_at
  decoded_complete x chunks text pos few apart bytes long t a =
      ap (if_codeword x chunks) back ∙ cond-true _ (Some text) None tested
    where
      k : ℕ
      k = x.minimum

      wide : ℕ
      wide = shard_len (length text) k

      at : AreRowsAt k (total_of x) text chunks
      at = rows_at x text chunks a

      P : ℕ → ℕ
      P = place_at chunks

      rows : List ℕ
      rows = shards_of chunks

      laid : List ℕ
      laid = layout k text

      again : List ℕ
      again = joined k (row_through k P rows wide)

      points : ArePoints k P
      points = record {
        fit = λ s h. omega (arith, place_fits k (total_of x) text chunks at s (omega arith), few);
        distinct =
            λ s u h g e. places_apart k (total_of x) text chunks apart s u (omega arith)
            (omega arith) e;
      }

      are : AreRows k wide rows
      are = record {
        even = shard_len-even (length text) k;
        long = shards_long k (total_of x) text chunks at ∙ ap (λ n. n * wide) long;
        bytes = byte_at rows (shards_bytes k (total_of x) text chunks bytes);
      }

      agree : (s : ℕ) → s < k → code_row k again wide (P s) ≡ code_row k laid wide (P s)
      agree s h =
          have k wide rows P (omega arith) are points s h
          ∙ shard_rows k (total_of x) text chunks at s (omega arith)

      all : (i : ℕ) → code_row k again wide i ≡ code_row k laid wide i
      all i = fix k wide again laid P (omega arith) (shard_len-even (length text) k) points agree i

      originals_laid : joined k (code_row k again wide) ≡ laid
      originals_laid =
          joined_same k (code_row k again wide) (code_row k laid wide) (λ i l. all i)
          ∙ first k wide laid (omega arith) (layout_rows k text (omega arith) t.0)

      of_width : (n : ℕ) → n ≡ wide
          → joined k (code_row k (joined k (row_through k P rows n)) n) ≡ laid
      of_width n e =
          ap (λ m. joined k (code_row k (joined k (row_through k P rows m)) m)) e ∙ originals_laid

      back : text_in (originals k chunks) ≡ text
      back =
          ap text_in
          (of_width (width_of chunks)
          (first_width k (total_of x) text chunks at (omega (arith, long, pos))))
          ∙ layout_text k text t.1

      tested : ((length chunks == x.minimum) && is_text text && list_all (is_row_of x text) chunks)
          ≡ true
      tested =
          and_from ((length chunks == x.minimum) && is_text text)
          (list_all (is_row_of x text) chunks)
          (and_from (length chunks == x.minimum) (is_text text)
          (eq-eqb (length chunks) x.minimum long) (text_passes text t))
          (rows_pass x text chunks at)

  pub real_coder : (hash : List ℕ → Digest32) (epochs : Epochs) (backlog : ℕ)
      (accepts : Block → Block → Bool)
      → IsCoder (coded hash epochs backlog accepts)
  real_coder hash epochs backlog accepts = record {
    sound = decoded_sound;
    complete = decoded_complete;
    reads = λ text b t read. (block_found text b (bytes_by_place text t.0) read).0;
    count = λ x text pos. length-listed (x.minimum + x.extra) (row_at x.minimum text);
    widths =
        λ x text pos. all_listed (λ (row : List ℕ). (0 < length row) × (length row % 2 ≡ 0))
        (x.minimum + x.extra) (row_at x.minimum text) (λ i. wide x.minimum text pos i);
    leads = row_leads hash;
  }
    where
      wide : (k : ℕ) (text : List ℕ) → 0 < k → (i : ℕ)
          → (0 < length (row_at k text i)) × (length (row_at k text i) % 2 ≡ 0)
      wide k text pos i =
          rw length-row_at
          ((shard_len-some (length text) k (omega arith)), shard_len-even (length text) k)
