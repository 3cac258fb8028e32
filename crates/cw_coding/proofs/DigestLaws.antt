-- Digests of rows, by their indices.
use Rattle.std.proofs.Common.{◌≡◌, ℕ, zero, suc, ◌+◌, ◌/◌, ◌<◌, ◌≤◌, List, [], ◌∷◌, ◌++◌, length, take, get_or, map, refl, sym, ap, ◌∙◌, arith, All, set, ◌⊎◌, inl, inr, ⊎_elim}
use Rattle.std.specs.List.{flat_map}
use Rattle.std.proofs.lemmas.Bool.{cases_eq, cases_lt}
use Rattle.std.proofs.lemmas.Grind.{get_or-set_at}
use Rattle.std.proofs.lemmas.List.{get_or-map, get_or-set_other, length-append, length-map, take_all, take_more}
use Rattle.cw_base.specs.Rows.{listed, row_hashes, row_of}
use Rattle.cw_base.proofs.Listed.{listed_more, listed_none}
use Rattle.cw_coding.specs.Checked.{Checked}
use Rattle.cw_coding.specs.Digests.{AreDigests, AreDigestsAt, IsOneOf}
use Rattle.cw_base.specs.Counts.{Counts}
use Rattle.cw_coding.specs.Decoding.{AreDecodable, in_order, indices_of, width_of}
use Rattle.cw_coding.proofs.OrderLaws.{all_in_order, flat_row}

-- a list by its elements
pub as_listed : {A : Type 0} (n : ℕ) (f : ℕ → A) (xs : List A) → length xs ≡ n
    → ((i : ℕ) (d : A) → i < n → get_or xs i d ≡ f i) → xs ≡ listed n f
as_listed {A = A} n f xs long each =
    sym (take_all n xs (omega (arith, long))) ∙ first n (omega arith)
  where
    first : (j : ℕ) → j ≤ n → take j xs ≡ listed j f
    first zero h = sym (listed_none f)
    first (suc j) h =
        let step : suc j ≡ j + 1 = omega arith in
        ap (λ (i : ℕ). take i xs) step ∙ take_more xs j (f j) (omega (arith, long, h))
        ∙ ap (λ (ys : List A). ys ++ get_or xs j (f j) ∷ []) (first j (omega (arith, h)))
        ∙ ap (λ (x : A). listed j f ++ x ∷ []) (each j (f j) (omega (arith, h)))
        ∙ sym (listed_more j f) ∙ ap (λ (i : ℕ). listed i f) (sym step)

pub all_hashes : {D : Type 0} (hash : List ℕ → D) (width : ℕ) (rows : List ℕ) (digests : List D)
    → length digests ≡ length rows / width
    → ((i : ℕ) (d : D) → i < length rows / width → get_or digests i d ≡ hash (row_of rows width i))
    → digests ≡ row_hashes hash width rows
unfolding row_hashes
all_hashes hash width rows digests long each =
    as_listed (length rows / width) (λ i. hash (row_of rows width i)) digests long each

-- the digests of chunks of one width are those of their rows
pub chunk_digests : {D : Type 0} (hash : List ℕ → D) (w : ℕ) (cs : List (Checked D))
    → All (λ c. length c.shard ≡ w) cs → (s : ℕ) (d : D) → s < length cs
    → get_or (map (λ (c : Checked D). hash c.shard) cs) s d
    ≡ hash (row_of (flat_map (λ c. c.shard) cs) w s)
chunk_digests hash w [] a s d l = absurd (omega arith)
chunk_digests {D = D} hash w (c ∷ cs) a s d l =
    get_or-map (λ (x : Checked D). hash x.shard) (c ∷ cs) s c d l
    ∙ ap hash (sym (flat_row w (c ∷ cs) a s c l))

pub given_digests : {D : Type 0} (hash : List ℕ → D) (c : Counts) (root : D)
    (chunks : List (Checked D)) (k width : ℕ) (indices rows : List ℕ) (digests : List D)
    → AreDecodable c root chunks → width ≡ width_of chunks
    → indices ≡ indices_of (in_order k chunks)
    → rows ≡ flat_map (λ c. c.shard) (in_order k chunks)
    → digests ≡ map (λ c. hash c.shard) (in_order k chunks)
    → AreDigests hash width rows (length indices) digests
given_digests {D = D} hash c root chunks k width indices rows digests are w i r d =
    let count : length indices ≡ length (in_order k chunks) =
    ap length i ∙ length-map (in_order k chunks) (λ (x : Checked D). x.index) in
    record {
      count =
          ap length d ∙ length-map (in_order k chunks) (λ (x : Checked D). hash x.shard)
          ∙ sym count;
      each = λ s e l. ap (λ (ds : List D). get_or ds s e) d
          ∙ chunk_digests hash width (in_order k chunks)
          (all_in_order (λ (x : Checked D). length x.shard ≡ width) k chunks
          (rw w are.fit.widths))
          s e
          (omega (arith, l, count))
          ∙ ap (λ (xs : List ℕ). hash (row_of xs width s)) (sym r);
    }

-- digests that are mapped from indices
pub mapped_digests : {D : Type 0} (hash : List ℕ → D) (width : ℕ) (rows indices : List ℕ)
    (digests : List D)
    → ((t : ℕ) → t < length indices → get_or indices t 0 < length rows / width)
    → digests ≡ map (λ i. hash (row_of rows width i)) indices
    → AreDigestsAt hash width rows indices digests
mapped_digests {D = D} hash width rows indices digests below are = record {
  count = ap length are ∙ length-map indices (λ (i : ℕ). hash (row_of rows width i));
  below = below;
  each = λ t d l. ap (λ (ds : List D). get_or ds t d) are
      ∙ get_or-map (λ (i : ℕ). hash (row_of rows width i)) indices t 0 d l;
}

-- ---- numbers that lists have

pub one_of_more : (i x : ℕ) (xs : List ℕ) → IsOneOf i xs → IsOneOf i (xs ++ x ∷ [])
one_of_more i x xs one =
    (one.0, omega (arith, one.1, length-append xs (x ∷ [])), kept xs one.0 one.1 ∙ one.2)
  where
    kept : (ys : List ℕ) (t : ℕ) → t < length ys
        → get_or (ys ++ x ∷ []) t 0 ≡ get_or ys t 0
    kept [] t l = absurd (omega (arith, l))
    kept (y ∷ ys) zero l = refl
    kept (y ∷ ys) (suc t) l = kept ys t (omega (arith, l))

pub one_of_last : (x : ℕ) (xs : List ℕ) → IsOneOf x (xs ++ x ∷ [])
one_of_last x xs = (length xs, omega (arith, length-append xs (x ∷ [])), last xs)
  where
    last : (ys : List ℕ) → get_or (ys ++ x ∷ []) (length ys) 0 ≡ x
    last [] = refl
    last (y ∷ ys) = last ys

pub below_more : (total x : ℕ) (xs ys : List ℕ) → ys ≡ xs ++ x ∷ [] → x < total
    → ((t : ℕ) → t < length xs → get_or xs t 0 < total) → (t : ℕ) → t < length ys
    → get_or ys t 0 < total
below_more total x xs ys more small below t l =
    rw more (go xs below t (omega (arith, l, ap length more, length-append xs (x ∷ []))))
  where
    go : (zs : List ℕ) → ((t : ℕ) → t < length zs → get_or zs t 0 < total) → (t : ℕ)
        → t < length zs + 1 → get_or (zs ++ x ∷ []) t 0 < total
    go [] b zero l = small
    go [] b (suc t) l = absurd (omega (arith, l))
    go (z ∷ zs) b zero l = b 0 (omega arith)
    go (z ∷ zs) b (suc t) l = go zs (λ u h. b (suc u) (omega (arith, h))) t (omega (arith, l))

-- one number more is listed or stands at the end of the others
pub all_more : (i : ℕ) (listed xs ys : List ℕ) → ys ≡ xs ++ i ∷ []
    → ((j : ℕ) → j < i → IsOneOf j listed ⊎ IsOneOf j xs) → (j : ℕ) → j < i + 1
    → IsOneOf j listed ⊎ IsOneOf j ys
all_more i listed xs ys more all j l =
    ⊎_elim
    (λ less. ⊎_elim inl (λ one. inr (rw more (one_of_more j i xs one))) (all j less))
    (λ last. inr (let same : j ≡ i = omega (arith, l, last) in rw (more, same) (one_of_last i xs)))
    (cases_lt j i)

pub all_listed : (i : ℕ) (listed xs : List ℕ) → IsOneOf i listed
    → ((j : ℕ) → j < i → IsOneOf j listed ⊎ IsOneOf j xs) → (j : ℕ) → j < i + 1
    → IsOneOf j listed ⊎ IsOneOf j xs
all_listed i listed xs one all j l =
    ⊎_elim (λ less. all j less)
    (λ last. inl (let same : j ≡ i = omega (arith, l, last) in rw same one)) (cases_lt j i)

-- one digest more at its place
pub put_more : {D : Type 0} (all : List D) (places : List ℕ) (f : ℕ → D) (A : Type 0) (t p i : ℕ)
    (x d : D)
    → p ≡ get_or places t 0 → p < length all → x ≡ f p
    → (A ⊎ ((u : ℕ) × (u < t) × (get_or places u 0 ≡ i)) → get_or all i d ≡ f i)
    → A ⊎ ((u : ℕ) × (u < t + 1) × (get_or places u 0 ≡ i)) → get_or (set all p x) i d ≡ f i
put_more all places f A t p i x d at below is old why = ⊎_elim here other (cases_eq i p)
  where
    before : (i ≡ p → ⊥) → A ⊎ ((u : ℕ) × (u < t + 1) × (get_or places u 0 ≡ i))
        → A ⊎ ((u : ℕ) × (u < t) × (get_or places u 0 ≡ i))
    before ne (inl a) = inl a
    before ne (inr one) =
        ⊎_elim (λ less. inr (one.0, less, one.2))
        (λ last. absurd
        (ne
        (sym one.2
        ∙ ap (λ (n : ℕ). get_or places n 0)
        (let same : one.0 ≡ t = omega (arith, one.1, last) in same)
        ∙ sym at)))
        (cases_lt one.0 t)

    here : i ≡ p → get_or (set all p x) i d ≡ f i
    here e = get_or-set_at all p i x d e below ∙ is ∙ ap f (sym e)

    other : (i ≡ p → ⊥) → get_or (set all p x) i d ≡ f i
    other ne = get_or-set_other all p i x d ne ∙ old (before ne why)
