-- The chunks of a commitment, by index.
use Rattle.std.proofs.Common.{◌≡◌, ◌≢◌, ℕ, zero, suc, ◌+◌, ◌<◌, ◌≤◌, ◌==◌, ◌⊎◌, inl, inr, Bool, true, false, cond, if◌then◌else◌, is_some, List, [], ◌∷◌, ◌++◌, length, map, take, Option, Some, None, refl, sym, ◌∙◌, ap, subst, arith, eqb-true, eq-eqb, add-zero, add-one, length-append}
use Rattle.std.specs.List.{AllByRecursion, IsDistinct, cons_option, filter, filter_map, find, range_with_len}
use Rattle.std.specs.Option.{option_to_list}
use Rattle.std.proofs.lemmas.Bool.{cases_eq, false≢true}
use Rattle.std.proofs.lemmas.List.Elements.{filter_map-append}
use Rattle.std.proofs.lemmas.Map.Keys.{IsDistinct-head, IsDistinct-tail}
use Rattle.std.proofs.lemmas.Option.{same_Some}
use Rattle.cw_types.specs.Same.{same_commitment}
use Rattle.cw_types.specs.declared.commitment.Commitment.{Commitment}
use Rattle.cw_types.proofs.Same.{same_commitment-true}
use Rattle.cw_rules.specs.Coding.{AreApart}
use Rattle.cw_rules.specs.Rules.{Chunk}
use Rattle.cw_coding.specs.Totals.{total_of}
use Rattle.cw_rules.proofs.Codewords.{all_taken, apart_taken}
use Rattle.shards.specs.Kept.{chunks_of}
use Rattle.shards.specs.declared.pieces.KeptChunk.{KeptChunk}
use Rattle.cw_archive.specs.Archived.{by_index, chunks_of_least_index, kept_chunk_at}
use Rattle.cw_archive.specs.Keys.{IsInOrder, at_key, chunk_key, commitment_of, kept_at_keys, same_chunk_key}
use Rattle.cw_archive.specs.declared.key.ChunkKey.{ChunkKey}
use Rattle.cw_archive.proofs.KeyLemmas.{same_key_self}
use Rattle.cw_archive.proofs.OrderLemmas.{Entries, Full, chunk_at_found, filled}
use Rattle.cw_rules_coded.proofs.RealCoder.{take_front}

-- ---- lists

-- what f answers at the numbers from a on
abbrev pub answers : {X : Type 0} → (ℕ → Option X) → ℕ → ℕ → List X
answers f a n = filter_map f (range_with_len a n)

range_more : (a n : ℕ) → range_with_len a (suc n) ≡ range_with_len a n ++ (a + n) ∷ []
range_more a zero = ap (λ x. x ∷ []) (sym (add-zero a))
range_more a (suc n) =
    ap (λ xs. a ∷ xs)
    (range_more (a + 1) n ∙ ap (λ x. range_with_len (a + 1) n ++ x ∷ []) (omega arith))

-- one number more
pub answers_more : {X : Type 0} (f : ℕ → Option X) (n : ℕ)
    → answers f 0 (n + 1) ≡ answers f 0 n ++ option_to_list (f n)
answers_more {X = X} f n =
    ap (λ k. answers f 0 k) (add-one n)
    ∙ (ap (filter_map f) (range_more 0 n) ∙ (filter_map-append f (range_with_len 0 n) ((0 + n) ∷ [])
    ∙ ap (λ ys. answers f 0 n ++ ys) (ap (λ k. cons_option (f k) []) (omega arith) ∙ one (f n))))
  where
    one : (o : Option X) → cons_option o [] ≡ option_to_list o
    one None = refl
    one (Some x) = refl

pub answers_same : {X : Type 0} (f g : ℕ → Option X) (a n : ℕ) → ((i : ℕ) → f i ≡ g i)
    → answers f a n ≡ answers g a n
answers_same f g a zero e = refl
answers_same f g a (suc n) e =
    ap (λ o. cons_option o (answers f (a + 1) n)) (e a)
    ∙ ap (λ xs. cons_option (g a) xs) (answers_same f g (a + 1) n e)

-- the first numbers' answers begin those of all
answers_begin : {X : Type 0} (f : ℕ → Option X) (a i n : ℕ) → i ≤ n
    → (rest : List X) × (answers f a n ≡ answers f a i ++ rest)
answers_begin f a zero n h = (answers f a n, refl)
answers_begin f a (suc i) zero h = absurd (omega arith)
answers_begin f a (suc i) (suc n) h =
    let more = answers_begin f (a + 1) i n (omega arith) in
    (more.0, go (f a) (answers f (a + 1) n) (answers f (a + 1) i) more.0 more.1)
  where
    go : {X : Type 0} (o : Option X) (xs ys rest : List X) → xs ≡ ys ++ rest
        → cons_option o xs ≡ cons_option o ys ++ rest
    go None xs ys rest e = e
    go (Some x) xs ys rest e = ap (λ zs. x ∷ zs) e

-- as many answers as are asked for are the first of all
pub enough_answers : {X : Type 0} (f : ℕ → Option X) (k i n : ℕ) → i ≤ n
    → length (answers f 0 i) ≡ k → answers f 0 i ≡ take k (answers f 0 n)
enough_answers f k i n h e =
    let more = answers_begin f 0 i n h in
    sym
    (ap (take k) more.1
    ∙ (ap (λ j. take j (answers f 0 i ++ more.0)) (sym e)
    ∙ take_front (answers f 0 i) more.0))

pub take_all_of : {X : Type 0} (k : ℕ) (xs : List X) → length xs ≤ k → take k xs ≡ xs
take_all_of zero [] h = refl
take_all_of (suc k) [] h = refl
take_all_of zero (x ∷ xs) h = absurd (omega arith)
take_all_of (suc k) (x ∷ xs) h = ap (λ zs. x ∷ zs) (take_all_of k xs (omega arith))

pub all_mapped : {X : Type 0} (P Q : X → Type 0) (xs : List X) → ((x : X) → P x → Q x)
    → AllByRecursion P xs → AllByRecursion Q xs
all_mapped P Q [] f h = tt
all_mapped P Q (x ∷ xs) f h = (f x h.0, all_mapped P Q xs f h.1)

-- ---- a chunk at an index

found_index : (i : ℕ) (xs : List Chunk) (x : Chunk) → find (λ (y : Chunk). y.index == i) xs ≡ Some x
    → x.index ≡ i
found_index i [] x h = cc
found_index i (y ∷ ys) x h = go (y.index == i) refl h (found_index i ys x)
  where
    go : (b : Bool) → (y.index == i) ≡ b
        → cond b (Some y) (find (λ (z : Chunk). z.index == i) ys) ≡ Some x
        → (find (λ (z : Chunk). z.index == i) ys ≡ Some x → x.index ≡ i) → x.index ≡ i
    go true e h more = subst (λ (z : Chunk). z.index ≡ i) (same_Some y x h) (eqb-true y.index i e)
    go false e h more = more h

found_of : (P : Chunk → Type 0) (i : ℕ) (xs : List Chunk) (x : Chunk) → AllByRecursion P xs
    → find (λ (y : Chunk). y.index == i) xs ≡ Some x → P x
found_of P i [] x a h = cc
found_of P i (y ∷ ys) x a h = go (y.index == i) h (found_of P i ys x a.1)
  where
    go : (b : Bool) → cond b (Some y) (find (λ (z : Chunk). z.index == i) ys) ≡ Some x
        → (find (λ (z : Chunk). z.index == i) ys ≡ Some x → P x) → P x
    go true h more = subst P (same_Some y x h) a.0
    go false h more = more h

-- what holds of each answer holds of all
answers_all : {X : Type 0} (P : X → Type 0) (f : ℕ → Option X) (a n : ℕ)
    → ((i : ℕ) (x : X) → a ≤ i → f i ≡ Some x → P x) → AllByRecursion P (answers f a n)
answers_all P f a zero h = tt
answers_all {X = X} P f a (suc n) h =
    go (f a) refl (answers_all P f (a + 1) n (λ i x l e. h i x (omega arith) e))
  where
    go : (o : Option X) → f a ≡ o → AllByRecursion P (answers f (a + 1) n)
        → AllByRecursion P (cons_option o (answers f (a + 1) n))
    go None e more = more
    go (Some x) e more = (h a x (omega arith) e, more)

-- chunks that are answered at their indices are apart
answers_apart : (f : ℕ → Option Chunk) (a n : ℕ)
    → ((i : ℕ) (x : Chunk) → f i ≡ Some x → x.index ≡ i) → AreApart (answers f a n)
answers_apart f a zero h = tt
answers_apart f a (suc n) h = go (f a) refl (answers_apart f (a + 1) n h)
  where
    go : (o : Option Chunk) → f a ≡ o → AreApart (answers f (a + 1) n)
        → AreApart (cons_option o (answers f (a + 1) n))
    go None e more = more
    go (Some x) e more = (
      answers_all (λ (d : Chunk). x.index ≢ d.index) f (a + 1) n
          (λ i y l at same. let own = h a x e in let other = h i y at in absurd (omega arith)),
      more,
    )

-- the chunks of least index are of different indices
pub least_apart : (c : Commitment) (kept : List KeptChunk) → AreApart (chunks_of_least_index c kept)
least_apart c kept =
    apart_taken c.config.minimum (by_index c kept)
    (answers_apart (kept_chunk_at c kept) 0 (total_of c.config)
    (λ i x e. found_index i (chunks_of c kept) x e))

-- what holds of the chunks of a commitment holds of those of least index
pub least_all : (P : Chunk → Type 0) (c : Commitment) (kept : List KeptChunk)
    → AllByRecursion P (chunks_of c kept) → AllByRecursion P (chunks_of_least_index c kept)
least_all P c kept a =
    all_taken P c.config.minimum (by_index c kept)
    (answers_all P (kept_chunk_at c kept) 0 (total_of c.config)
    (λ i x l e. found_of P i (chunks_of c kept) x a e))

-- what holds of each chunk with its commitment holds of the chunks of a commitment
pub all_of : (P : Commitment → Chunk → Type 0) (c : Commitment) (kept : List KeptChunk)
    → AllByRecursion (λ (k : KeptChunk). P k.commitment k.chunk) kept
    → AllByRecursion (P c) (chunks_of c kept)
all_of P c [] a = tt
all_of P c (k ∷ ks) a = go (same_commitment c k.commitment) refl (all_of P c ks a.1)
  where
    go : (b : Bool) → same_commitment c k.commitment ≡ b → AllByRecursion (P c) (chunks_of c ks)
        → AllByRecursion (P c)
        (map (λ (e : KeptChunk). e.chunk)
        (cond b (k ∷ filter (λ (e : KeptChunk). same_commitment c e.commitment) ks)
        (filter (λ (e : KeptChunk). same_commitment c e.commitment) ks)))
    go true e more = (
      subst (λ (d : Commitment). P d k.chunk) (sym (same_commitment-true c k.commitment e)) a.0,
      more,
    )
    go false e more = more

-- ---- how many there are

-- one more answer, counted
pub count_more : {X : Type 0} (f : ℕ → Option X) (n count later : ℕ) (b : Bool)
    → count ≡ length (answers f 0 n) → count ≤ n → b ≡ is_some (f n)
    → later ≡ (if b then count + 1 else count)
    → (later ≡ length (answers f 0 (n + 1))) × (later ≤ n + 1)
count_more {X = X} f n count later b e l there is =
    let more =
    ap length (answers_more f n) ∙ length-append (answers f 0 n) (option_to_list (f n)) in
    go b (f n) there is more
  where
    go : (b : Bool) (o : Option X) → b ≡ is_some o → later ≡ (if b then count + 1 else count)
        → length (answers f 0 (n + 1)) ≡ length (answers f 0 n) + length (option_to_list o)
        → (later ≡ length (answers f 0 (n + 1))) × (later ≤ n + 1)
    go true None t is more = cc
    go true (Some x) t is more = (omega arith, omega arith)
    go false None t is more = (omega arith, omega arith)
    go false (Some x) t is more = cc

-- one more answer, as a list of at most so many
pub list_more : {X : Type 0} (f : ℕ → Option X) (n : ℕ) (xs : List X) (o : Option X)
    → xs ≡ answers f 0 n → o ≡ f n → xs ++ option_to_list o ≡ answers f 0 (n + 1)
list_more f n xs o e at =
    ap (λ ys. ys ++ option_to_list o) e
    ∙ (ap (λ p. answers f 0 n ++ option_to_list p) at ∙ sym (answers_more f n))

-- chunks of different indices below n are as many as are found below n
one_found : (x : Chunk) (xs : List Chunk) (n : ℕ)
    → AllByRecursion (λ (d : Chunk). x.index ≢ d.index) xs
    → (x.index < n
    → length (answers (λ i. find (λ (y : Chunk). y.index == i) (x ∷ xs)) 0 n)
    ≡ length (answers (λ i. find (λ (y : Chunk). y.index == i) xs) 0 n) + 1)
    × (n ≤ x.index
    → length (answers (λ i. find (λ (y : Chunk). y.index == i) (x ∷ xs)) 0 n)
    ≡ length (answers (λ i. find (λ (y : Chunk). y.index == i) xs) 0 n))
one_found x xs zero apart = (λ l. absurd (omega arith), λ l. refl)
one_found x xs (suc n) apart =
    let more = one_found x xs n apart in
    let f = length_more (λ i. find (λ (y : Chunk). y.index == i) (x ∷ xs)) n in
    let g = length_more (λ i. find (λ (y : Chunk). y.index == i) xs) n in
    go (cases_eq x.index n) more.0 more.1 f g
  where
    length_more : (f : ℕ → Option Chunk) (n : ℕ)
        → length (answers f 0 (suc n)) ≡ length (answers f 0 n) + length (option_to_list (f n))
    length_more f n =
        ap (λ k. length (answers f 0 k)) (sym (add-one n))
        ∙ (ap length (answers_more f n) ∙ length-append (answers f 0 n) (option_to_list (f n)))

    none : (ys : List Chunk) → AllByRecursion (λ (d : Chunk). x.index ≢ d.index) ys
        → find (λ (y : Chunk). y.index == x.index) ys ≡ None
    none [] a = refl
    none (y ∷ ys) a = by (y.index == x.index) refl (none ys a.1)
      where
        by : (b : Bool) → (y.index == x.index) ≡ b
            → find (λ (z : Chunk). z.index == x.index) ys ≡ None
            → cond b (Some y) (find (λ (z : Chunk). z.index == x.index) ys) ≡ None
        by true e more = absurd (a.0 (sym (eqb-true y.index x.index e)))
        by false e more = more

    go : (x.index ≡ n) ⊎ (x.index ≡ n → ⊥)
        → (x.index < n
        → length (answers (λ i. find (λ (y : Chunk). y.index == i) (x ∷ xs)) 0 n)
        ≡ length (answers (λ i. find (λ (y : Chunk). y.index == i) xs) 0 n) + 1)
        → (n ≤ x.index
        → length (answers (λ i. find (λ (y : Chunk). y.index == i) (x ∷ xs)) 0 n)
        ≡ length (answers (λ i. find (λ (y : Chunk). y.index == i) xs) 0 n))
        → length (answers (λ i. find (λ (y : Chunk). y.index == i) (x ∷ xs)) 0 (suc n))
        ≡ length (answers (λ i. find (λ (y : Chunk). y.index == i) (x ∷ xs)) 0 n)
        + length (option_to_list (find (λ (y : Chunk). y.index == n) (x ∷ xs)))
        → length (answers (λ i. find (λ (y : Chunk). y.index == i) xs) 0 (suc n))
        ≡ length (answers (λ i. find (λ (y : Chunk). y.index == i) xs) 0 n)
        + length (option_to_list (find (λ (y : Chunk). y.index == n) xs))
        → (x.index < suc n
        → length (answers (λ i. find (λ (y : Chunk). y.index == i) (x ∷ xs)) 0 (suc n))
        ≡ length (answers (λ i. find (λ (y : Chunk). y.index == i) xs) 0 (suc n)) + 1)
        × (suc n ≤ x.index
        → length (answers (λ i. find (λ (y : Chunk). y.index == i) (x ∷ xs)) 0 (suc n))
        ≡ length (answers (λ i. find (λ (y : Chunk). y.index == i) xs) 0 (suc n)))
    go (inl e) below past f g =
        let here : find (λ (y : Chunk). y.index == n) (x ∷ xs) ≡ Some x =
        ap (λ b. cond b (Some x) (find (λ (y : Chunk). y.index == n) xs))
        (eq-eqb x.index n e) in
        let there : find (λ (y : Chunk). y.index == n) xs ≡ None =
        ap (λ j. find (λ (y : Chunk). y.index == j) xs) (sym e) ∙ none xs apart in
        let a = ap (λ o. length (option_to_list o)) here in
        let b = ap (λ o. length (option_to_list o)) there in
        (λ l. let p = past (omega arith) in omega arith, λ l. absurd (omega arith))
    go (inr ne) below past f g =
        let same : find (λ (y : Chunk). y.index == n) (x ∷ xs)
        ≡ find (λ (y : Chunk). y.index == n) xs =
        other (x.index == n) refl in
        let a = ap (λ o. length (option_to_list o)) same in (
          λ l. let p = below (omega arith) in omega arith,
          λ l. let p = past (omega arith) in
              omega arith,
        )
      where
        other : (b : Bool) → (x.index == n) ≡ b
            → cond b (Some x) (find (λ (y : Chunk). y.index == n) xs)
            ≡ find (λ (y : Chunk). y.index == n) xs
        other true t = absurd (ne (eqb-true x.index n t))
        other false t = refl

all_found : (xs : List Chunk) (n : ℕ) → AreApart xs → AllByRecursion (λ (x : Chunk). x.index < n) xs
    → length (answers (λ i. find (λ (y : Chunk). y.index == i) xs) 0 n) ≡ length xs
all_found [] n a b = none 0 n
  where
    none : (a n : ℕ) → length (answers (λ i. find (λ (y : Chunk). y.index == i) []) a n) ≡ 0
    none a zero = refl
    none a (suc n) = none (a + 1) n
all_found (x ∷ xs) n a b =
    let more = all_found xs n a.1 b.1 in let one = (one_found x xs n a.0).0 b.0 in omega arith

-- the chunks of a commitment in a map are of different indices
module _ (es : Entries) (c : Commitment) where
  others_apart : (q : ChunkKey) (order : List ChunkKey) → Full es order
      → AllByRecursion (λ (p : ChunkKey). same_chunk_key q p ≡ false) order
      → same_commitment c (commitment_of q) ≡ true
      → AllByRecursion (λ (d : Chunk). q.index ≢ d.index) (chunks_of c (kept_at_keys es order))
  others_apart q [] f a s = tt
  others_apart q (p ∷ ps) f a s =
      rw f.0.1.0 (go (same_commitment c (commitment_of p)) refl (others_apart q ps f.1 a.1 s))
    where
      go : (b : Bool) → same_commitment c (commitment_of p) ≡ b
          → AllByRecursion (λ (d : Chunk). q.index ≢ d.index) (chunks_of c (kept_at_keys es ps))
          → AllByRecursion (λ (d : Chunk). q.index ≢ d.index)
          (map (λ (e : KeptChunk). e.chunk)
          (cond b
          (record { commitment = commitment_of p; chunk = f.0.0 }
          ∷ filter (λ (e : KeptChunk). same_commitment c e.commitment)
          (kept_at_keys es ps))
          (filter (λ (e : KeptChunk). same_commitment c e.commitment) (kept_at_keys es ps))))
      go false e more = more
      go true e more = (
        λ same. differ
            (sym (same_commitment-true c (commitment_of q) s)
            ∙ same_commitment-true c (commitment_of p) e)
            (same ∙ f.0.1.1),
        more,
      )
        where
          differ : commitment_of q ≡ commitment_of p → q.index ≡ p.index → ⊥
          differ g h =
              let key : q ≡ p =
              λ i. record {
                block = (g i).block;
                root = (g i).root;
                context = (g i).context;
                minimum = (g i).config.minimum;
                extra = (g i).config.extra;
                index = h i;
              } in
              false≢true
              (sym a.0 ∙ subst (λ (z : ChunkKey). same_chunk_key q z ≡ true) key (same_key_self q))

  kept_apart : (order : List ChunkKey) → Full es order → IsDistinct same_chunk_key order
      → AreApart (chunks_of c (kept_at_keys es order))
  kept_apart [] f d = tt
  kept_apart (q ∷ qs) f d =
      rw f.0.1.0
      (go (same_commitment c (commitment_of q)) refl
      (kept_apart qs f.1 (IsDistinct-tail same_chunk_key q qs d)))
    where
      go : (b : Bool) → same_commitment c (commitment_of q) ≡ b
          → AreApart (chunks_of c (kept_at_keys es qs))
          → AreApart
          (map (λ (e : KeptChunk). e.chunk)
          (cond b
          (record { commitment = commitment_of q; chunk = f.0.0 }
          ∷ filter (λ (e : KeptChunk). same_commitment c e.commitment)
          (kept_at_keys es qs))
          (filter (λ (e : KeptChunk). same_commitment c e.commitment) (kept_at_keys es qs))))
      go false e more = more
      go true e more = (
        all_mapped (λ (y : Chunk). q.index ≢ y.index) (λ (y : Chunk). f.0.0.index ≢ y.index)
            (chunks_of c (kept_at_keys es qs)) (λ y ne same. ne (sym f.0.1.1 ∙ same))
            (others_apart q qs f.1 (IsDistinct-head same_chunk_key q qs d) e),
        more,
      )

  -- a commitment has as many chunks as there are in the map at its indices
  pub counted : (order : List ChunkKey) (n : ℕ) → IsInOrder es order
      → AllByRecursion (λ (x : Chunk). x.index < n) (chunks_of c (kept_at_keys es order))
      → length (answers (λ i. at_key es (chunk_key c i)) 0 n)
      ≡ length (chunks_of c (kept_at_keys es order))
  counted order n is within =
      ap length
      (answers_same (λ i. at_key es (chunk_key c i)) (kept_chunk_at c (kept_at_keys es order)) 0 n
      (λ i. sym (chunk_at_found es c i order is)))
      ∙ all_found (chunks_of c (kept_at_keys es order)) n
      (kept_apart order (filled es order is) is.once)
      within
