-- Rows that are put in buffers, one behind the other.
use Rattle.std.proofs.Common.{◌≡◌, ◌≢◌, ℕ, zero, suc, ◌+◌, ◌*◌, ◌/◌, ◌%◌, ◌<◌, ◌≤◌, List, [], ◌∷◌, ◌++◌, All, map, get_or, slice_set, drop, take, length, refl, sym, ap, ◌∙◌, arith, inl, inr, subst}
use Rattle.std.specs.List.{flat_map}
use Rattle.std.proofs.Math.ListN as listn
use Rattle.std.proofs.Math.Nat.{mul-le-mul_right}
use Rattle.std.proofs.lemmas.Bool.{cases_eq}
use Rattle.std.proofs.lemmas.Grind.{flat_map-append}
use Rattle.std.proofs.lemmas.List.{append-nil, get_or-set_same, get_or-set_other, get_or-take, get_or_default, length-append, length-map, length-set, length-take-le, take_more}
use Rattle.cw_base.specs.Rows.{row_of}
use Rattle.rs_code.specs.Rows.{joined, row_through}
use Rattle.rs_code.proofs.RowBytes.{joined_none, joined_more, length-joined, length-symbol_bytes}
use Rattle.rs_code.proofs.RowPicks.{row_behind, row_joined}
use Rattle.coding_c.specs.Calls.{IsPut}
use Rattle.cw_coding.proofs.LayoutLaws.{length-code_row}
use Rattle.coding_c.specs.Shards.{AreShards, ArePut, HaveRoom, end_to_end, first_width, recovery_of}

module _ {S : Type 0} (bytes : S → List ℕ) (d : S) (empty : bytes d ≡ []) where
  pub bytes_at : (xs : List S) (j : ℕ) → get_or (map bytes xs) j [] ≡ bytes (get_or xs j d)
  bytes_at xs j = rw (← empty) (listn.get_or-map bytes xs j d)

  -- what stands in buffer i before it is put
  pub still : (first buffers : List S) (i : ℕ) (row : ℕ → List ℕ)
      → ArePut i row (map bytes first) (map bytes buffers)
      → bytes (get_or buffers i d) ≡ get_or (map bytes first) i []
  still first buffers i row are = sym (bytes_at buffers i) ∙ are.kept i (omega arith)

  -- one more
  pub put_next : (first buffers : List S) (i : ℕ) (x : S) (row : ℕ → List ℕ)
      → i < length buffers → ArePut i row (map bytes first) (map bytes buffers)
      → IsPut (row i) (bytes (get_or buffers i d)) (bytes x)
      → ArePut (i + 1) row (map bytes first) (map bytes (slice_set buffers i x))
  put_next first buffers i x row within are is =
      record {
        count = length-map (slice_set buffers i x) bytes ∙ length-set buffers i x
            ∙ sym (length-map buffers bytes) ∙ are.count;
        put = put;
        kept = λ j more. let other : j ≢ i = λ e. omega (arith, e, more) in
            same j other ∙ are.kept j (omega (arith, more));
      }
    where
      same : (j : ℕ) → j ≢ i
          → get_or (map bytes (slice_set buffers i x)) j [] ≡ get_or (map bytes buffers) j []
      same j other =
          bytes_at (slice_set buffers i x) j ∙ ap bytes (get_or-set_other buffers i j x d other)
          ∙ sym (bytes_at buffers j)

      here : IsPut (row i) (get_or (map bytes first) i [])
          (get_or (map bytes (slice_set buffers i x)) i [])
      here =
          bytes_at (slice_set buffers i x) i ∙ ap bytes (get_or-set_same buffers i x d within) ∙ is
          ∙ ap (λ (b : List ℕ). row i ++ drop (length (row i)) b) (still first buffers i row are)

      put : (j : ℕ) → j < i + 1
          → IsPut (row j) (get_or (map bytes first) j [])
          (get_or (map bytes (slice_set buffers i x)) j [])
      put j l =
          elim (cases_eq j i) [
            | inl e ↦ subst
                (λ (n : ℕ). IsPut (row n) (get_or (map bytes first) n [])
                (get_or (map bytes (slice_set buffers i x)) n []))
                (sym e) here
            | inr other ↦ same j other ∙ are.put j (let o : j ≢ i = other in omega (arith, l, o))
          ]

-- what is so of each of the first n
pub all_below : (P : List ℕ → Type 0) (n : ℕ) (xs : List (List ℕ)) → n ≤ length xs
    → ((j : ℕ) → j < n → P (get_or xs j [])) → All P (take n xs)
all_below P n xs enough each i d l =
    let long : length (take n xs) ≡ n = length-take-le n xs enough in
    let within : i < n = omega (arith, l, long) in
    let inside : i < length xs = omega (arith, within, enough) in
    subst P (sym (get_or-take n xs i d within ∙ get_or_default xs i d [] inside)) (each i within)

-- and back
pub one_below : (P : List ℕ → Type 0) (n : ℕ) (xs : List (List ℕ)) → n ≤ length xs
    → All P (take n xs) → (j : ℕ) → j < n → P (get_or xs j [])
one_below P n xs enough all j within =
    let long : length (take n xs) ≡ n = length-take-le n xs enough in
    subst P (get_or-take n xs j [] within) (all j [] (omega (arith, within, long)))

-- one more that is so
pub below_next : (P : ℕ → Type 0) (i : ℕ) → ((j : ℕ) → j < i → P j) → P i → (j : ℕ) → j < i + 1
    → P j
below_next P i each here j l =
    elim (cases_eq j i) [
      | inl e ↦ subst P (sym e) here
      | inr other ↦ each j (let o : j ≢ i = other in omega (arith, l, o))
    ]

-- the room of one of the first n buffers
pub room_at : (n width : ℕ) (buffers : List (List ℕ)) → HaveRoom n width buffers → (i : ℕ) → i < n
    → width ≤ length (get_or buffers i [])
room_at n width buffers have i within =
    one_below (λ b. width ≤ length b) n buffers have.enough have.each i within

-- the shards up to one more, end to end
pub end_next : (xs : List (List ℕ)) (i : ℕ) → i < length xs
    → flat_map (λ shard. shard) (take (i + 1) xs)
    ≡ flat_map (λ shard. shard) (take i xs) ++ get_or xs i []
end_next xs i within =
    ap (flat_map (λ shard. shard)) (take_more xs i [] within)
    ∙ flat_map-append (λ shard. shard) (take i xs) (get_or xs i [] ∷ [])
    ∙ ap (λ ys. flat_map (λ shard. shard) (take i xs) ++ ys) (append-nil (get_or xs i []))

-- shards that are the rows of a codeword, end to end
pub end_joined : (k : ℕ) (shards : List (List ℕ)) (row : ℕ → List ℕ) → k ≤ length shards
    → ((s : ℕ) → s < k → get_or shards s [] ≡ row s) → end_to_end k shards ≡ joined k row
end_joined zero shards row enough same = sym (joined_none row)
end_joined (suc k) shards row enough same =
    let one : suc k ≡ k + 1 = omega arith in
    ap (λ n. end_to_end n shards) one
    ∙ end_next shards k (omega (arith, enough))
    ∙ ap (λ xs. xs ++ get_or shards k [])
    (end_joined k shards row (omega (arith, enough)) (λ s l. same s (omega (arith, l))))
    ∙ ap (λ r. joined k row ++ r) (same k (omega arith))
    ∙ sym (joined_more k row)
    ∙ ap (λ n. joined n row) (sym one)

-- the same rows, put in buffers
pub same_put : (n : ℕ) (f g : ℕ → List ℕ) → ((i : ℕ) → i < n → f i ≡ g i)
    → (before after : List (List ℕ)) → ArePut n f before after → ArePut n g before after
same_put n f g same before after are =
    record {
      count = are.count;
      put = λ i l. subst (λ (r : List ℕ). IsPut r (get_or before i []) (get_or after i []))
          (same i l) (are.put i l);
      kept = are.kept;
    }

-- row k + i of rows that stand behind k others
pub row_after : (k n w : ℕ) (row : ℕ → List ℕ) → ((i : ℕ) → i < n → length (row i) ≡ w)
    → (rows front : List ℕ) → rows ≡ front ++ joined n row → length front ≡ k * w → (i : ℕ) → i < n
    → row_of rows w (k + i) ≡ row i
row_after k n w row widths rows front is long i within =
    let all : length (joined n row) ≡ n * w = length-joined n w row widths in
    let whole : suc i * w ≤ n * w = mul-le-mul_right w within in
    let step : suc i * w ≡ i * w + w = omega arith in
    ap (λ (xs : List ℕ). row_of xs w (k + i)) is
    ∙ row_behind front (joined n row) w k i long (omega (arith, all, whole, step))
    ∙ row_joined n w row widths i within

-- how long a rebuilt row is
pub length-row_through : (k : ℕ) (P : ℕ → ℕ) (rows : List ℕ) (width x : ℕ) → width % 2 ≡ 0
    → length (row_through k P rows width x) ≡ width
unfolding row_through
length-row_through k P rows width x even =
    length-symbol_bytes (width / 2) _ ∙ omega (arith, even)

-- recoveries that stand behind k shards, put in buffers
pub recoveries_put : (k m first count width : ℕ) (shards : List (List ℕ))
    (rows items : List ℕ) (before after : List (List ℕ))
    → first ≡ k → count ≡ m → width ≡ first_width shards → AreShards k shards → rows ≡ items
    → items ≡ end_to_end k shards ++ joined m (recovery_of k shards)
    → length items ≡ (k + m) * width
    → ArePut count (λ i. row_of rows width (first + i)) before after
    → ArePut m (recovery_of k shards) before after
recoveries_put k m first count width shards rows items before after is_k is_m wide are same is
    long put =
    let widths : (i : ℕ) → i < m → length (recovery_of k shards i) ≡ width = λ i l.
    length-code_row k (end_to_end k shards) (first_width shards) (k + i) are.even ∙ sym wide in
    let all = length-joined m width (recovery_of k shards) widths in
    let both = length-append (end_to_end k shards) (joined m (recovery_of k shards)) in
    let step : (k + m) * width ≡ k * width + m * width = omega arith in
    let front : length (end_to_end k shards) ≡ k * width =
    omega (arith, all, both, step, long, ap length is) in
    let each : (i : ℕ) → i < count → row_of rows width (first + i) ≡ recovery_of k shards i = λ i l.
    ap (λ (xs : List ℕ). row_of xs width (first + i)) same
    ∙ ap (λ (j : ℕ). row_of items width (j + i)) is_k
    ∙ row_after k m width (recovery_of k shards) widths items (end_to_end k shards) is front i
    (omega (arith, l, is_m)) in
    subst (λ (n : ℕ). ArePut n (recovery_of k shards) before after) is_m
    (same_put count (λ i. row_of rows width (first + i)) (recovery_of k shards) each before after
    put)

-- rows that stand end to end, put in buffers
pub joined_put : (n width : ℕ) (row : ℕ → List ℕ) (rows items : List ℕ)
    (before after : List (List ℕ))
    → ((i : ℕ) → i < n → length (row i) ≡ width) → rows ≡ items → items ≡ joined n row
    → ArePut n (λ i. row_of rows width (0 + i)) before after → ArePut n row before after
joined_put n width row rows items before after widths same is put =
    same_put n (λ i. row_of rows width (0 + i)) row
    (λ i l. let none : 0 + i ≡ i = omega arith in
    ap (λ (xs : List ℕ). row_of xs width (0 + i)) (same ∙ is)
    ∙ ap (λ (j : ℕ). row_of (joined n row) width j) none
    ∙ row_joined n width row widths i l)
    before after put
