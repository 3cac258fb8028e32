-- Chunks in the order in which they are used.
use Rattle.std.proofs.Common.{◌≡◌, ℕ, suc, zero, ◌+◌, ◌*◌, ◌<◌, ◌≤◌, Bool, true, false, cond, not, nat_lt, List, [], ◌∷◌, ◌++◌, length, drop, take, get_or, All, refl, sym, ap, ◌∙◌, arith}
use Rattle.std.specs.List.{filter, flat_map}
use Rattle.std.proofs.lemmas.List.{length-append, map-append, length-map, take_at, drop_at, get_or-take, drop-drop, length-take-le, append_assoc, append-nil, drop_more, drop_all}
use Rattle.std.proofs.lemmas.List.Elements.{All-append}
use Rattle.cw_base.specs.Rows.{row_of}
use Rattle.rs_code.specs.Indices.{AreSound}
use Rattle.cw_coding.specs.Checked.{Checked}
use Rattle.cw_base.specs.Counts.{Counts}
use Rattle.cw_coding.specs.Layout.{row_at}
use Rattle.rs_code.proofs.IndexLaws.{AreSound-split}
use Rattle.cw_coding.specs.Decoding.{indices_of, in_order, compared, width_of, AreDecodable, IsDecoding, Fits}

indices_filter : {D : Type 0} (q : ℕ → Bool) (cs : List (Checked D))
    → indices_of (filter (λ c. q c.index) cs) ≡ filter q (indices_of cs)
indices_filter q [] = refl
indices_filter {D = D} q (c ∷ cs) = go (q c.index) (indices_filter q cs)
  where
    go : (b : Bool)
        → indices_of (filter (λ (x : Checked D). q x.index) cs) ≡ filter q (indices_of cs) →
        indices_of
        (cond b (c ∷ filter (λ (x : Checked D). q x.index) cs)
        (filter (λ (x : Checked D). q x.index) cs))
        ≡ cond b (c.index ∷ filter q (indices_of cs)) (filter q (indices_of cs))
    go true e = ap (λ xs. c.index ∷ xs) e
    go false e = e

pub sound_in_order : {D : Type 0} (k total : ℕ) (cs : List (Checked D))
    → AreSound total (indices_of cs) → AreSound total (indices_of (in_order k cs))
sound_in_order {D = D} k total cs a =
    let first = indices_filter (λ i. nat_lt i k) cs in
    let second = indices_filter (λ i. not (nat_lt i k)) cs in
    let split : indices_of (in_order k cs)
    ≡ indices_of (filter (λ c. nat_lt c.index k) cs)
    ++ indices_of (filter (λ c. not (nat_lt c.index k)) cs) =
    map-append (λ (c : Checked D). c.index) (filter (λ c. nat_lt c.index k) cs)
    (filter (λ c. not (nat_lt c.index k)) cs) in
    rw (split, first, second) (AreSound-split (λ i. nat_lt i k) total (indices_of cs) a)

pub length-split : {X : Type 0} (p : X → Bool) (xs : List X)
    → length (filter p xs) + length (filter (λ x. not (p x)) xs) ≡ length xs
length-split p [] = refl
length-split {X = X} p (x ∷ xs) = go (p x) (length-split p xs)
  where
    go : (b : Bool) → length (filter p xs) + length (filter (λ x. not (p x)) xs) ≡ length xs →
        length (cond b (x ∷ filter p xs) (filter p xs))
        + length (cond (not b) (x ∷ filter (λ x. not (p x)) xs) (filter (λ x. not (p x)) xs))
        ≡ suc (length xs)
    go true e = omega arith
    go false e = omega arith

pub length-in_order : {D : Type 0} (k : ℕ) (cs : List (Checked D))
    → length (in_order k cs) ≡ length cs
length-in_order k cs = length-append _ _ ∙ length-split (λ c. nat_lt c.index k) cs

pub all_filter : {X : Type 0} (P : X → Type 0) (p : X → Bool) (xs : List X) → All P xs
    → All P (filter p xs)
all_filter P p [] a = a
all_filter {X = X} P p (x ∷ xs) a =
    go (p x) (all_filter P p xs (λ k d l. a (suc k) d (omega arith)))
  where
    go : (b : Bool) → All P (filter p xs) → All P (cond b (x ∷ filter p xs) (filter p xs))
    go true r zero d l = a 0 d (omega arith)
    go true r (suc k) d l = r k d (omega arith)
    go false r k d l = r k d l

pub all_in_order : {D : Type 0} (P : Checked D → Type 0) (k : ℕ) (cs : List (Checked D)) → All P cs
    → All P (in_order k cs)
all_in_order P k cs a =
    All-append P _ _ (all_filter P (λ c. nat_lt c.index k) cs a)
    (all_filter P (λ c. not (nat_lt c.index k)) cs a)

-- row s of the shards of chunks of one width
pub flat_row : {D : Type 0} (w : ℕ) (cs : List (Checked D)) → All (λ c. length c.shard ≡ w) cs
    → (s : ℕ) (d : Checked D) → s < length cs →
    row_of (flat_map (λ c. c.shard) cs) w s ≡ (get_or cs s d).shard
unfolding row_of
flat_row w [] a s d l = absurd (omega arith)
flat_row {D = D} w (c ∷ cs) a zero d l =
    let none : 0 * w ≡ 0 = omega arith in
    ap (λ i. take w (drop i (c.shard ++ flat_map (λ (c : Checked D). c.shard) cs))) none
    ∙ take_at c.shard (flat_map (λ (c : Checked D). c.shard) cs) w (a 0 d (omega arith))
flat_row {D = D} w (c ∷ cs) a (suc s) d l =
    let rest : List ℕ = flat_map (λ (c : Checked D). c.shard) cs in
    let step : suc s * w ≡ w + s * w = omega arith in
    let first : drop w (c.shard ++ rest) ≡ rest = drop_at c.shard rest w (a 0 d (omega arith)) in
    let twice : drop (s * w) (drop w (c.shard ++ rest)) ≡ drop (w + s * w) (c.shard ++ rest) =
    drop-drop (s * w) w (c.shard ++ rest) in
    ap (λ i. take w (drop i (c.shard ++ rest))) step
    ∙ ap (take w) (sym twice ∙ ap (drop (s * w)) first)
    ∙ flat_row w cs (λ k e h. a (suc k) e (omega arith)) s d (omega arith)

pub flat_long : {D : Type 0} (w : ℕ) (cs : List (Checked D)) → All (λ c. length c.shard ≡ w) cs
    → length (flat_map (λ c. c.shard) cs) ≡ length cs * w
flat_long w [] a = omega arith
flat_long {D = D} w (c ∷ cs) a =
    let h : length c.shard ≡ w = a 0 c (omega arith) in
    let r = flat_long w cs (λ k e l. a (suc k) e (omega arith)) in
    length-append c.shard (flat_map (λ (c : Checked D). c.shard) cs) ∙ omega (arith, h, r)

pub index_at : {D : Type 0} (cs : List (Checked D)) (s : ℕ) (d : Checked D) → s < length cs
    → get_or (indices_of cs) s 0 ≡ (get_or cs s d).index
index_at [] s d l = absurd (omega arith)
index_at (c ∷ cs) zero d l = refl
index_at (c ∷ cs) (suc s) d l = index_at cs s d (omega arith)

-- chunks and the rows that they are joined to
pub rows_of_chunks : {D : Type 0} (w n : ℕ) (f : ℕ → List ℕ) (cs : List (Checked D))
    → All (λ c. length c.shard ≡ w) cs → n ≤ length cs →
    ((s : ℕ) → s < n → row_of (flat_map (λ c. c.shard) cs) w s ≡ f (get_or (indices_of cs) s 0))
    → All (λ c. c.shard ≡ f c.index) (take n cs)
rows_of_chunks w n f cs a h rows k d l =
    let less : k < n = omega (arith, length-take-le n cs h) in
    let within : k < length cs = omega arith in
    rw (get_or-take n cs k d less)
    (sym (flat_row w cs a k d within) ∙ rows k less ∙ ap f (index_at cs k d within))

pub chunks_of_rows : {D : Type 0} (w n : ℕ) (f : ℕ → List ℕ) (cs : List (Checked D))
    → All (λ c. length c.shard ≡ w) cs → n ≤ length cs →
    All (λ c. c.shard ≡ f c.index) (take n cs) → (s : ℕ) → s < n
    → row_of (flat_map (λ c. c.shard) cs) w s ≡ f (get_or (indices_of cs) s 0)
chunks_of_rows w n f [] a h all s l = absurd (omega arith)
chunks_of_rows w n f (c ∷ cs) a h all s l =
    let within : s < length (c ∷ cs) = omega arith in
    let said : (get_or (take n (c ∷ cs)) s c).shard ≡ f (get_or (take n (c ∷ cs)) s c).index =
    all s c (omega (arith, length-take-le n (c ∷ cs) h)) in
    let same = get_or-take n (c ∷ cs) s c l in
    flat_row w (c ∷ cs) a s c within ∙ (rw same at said) ∙ ap f (sym (index_at (c ∷ cs) s c within))

compared_cases : (P : ℕ → Type 0) (b : Bool) (x y : ℕ) → P x → P y → P (cond b x y)
compared_cases P true x y h l = h
compared_cases P false x y h l = l

pub compared-le : {D : Type 0} (k : ℕ) (cs : List (Checked D)) → k ≤ length cs
    → compared k cs ≤ length cs
compared-le k cs h = compared_cases (λ n. n ≤ length cs) _ (length cs) k (omega arith) h

pub compared-ge : {D : Type 0} (k : ℕ) (cs : List (Checked D)) → k ≤ length cs → k ≤ compared k cs
compared-ge k cs h = compared_cases (λ n. k ≤ n) _ (length cs) k h (omega arith)

pub length-indices : {D : Type 0} (k : ℕ) (cs : List (Checked D))
    → length (indices_of (in_order k cs)) ≡ length cs
length-indices {D = D} k cs =
    length-map (in_order k cs) (λ (c : Checked D). c.index) ∙ length-in_order k cs

-- what rows come of, and what chunks are decoded to
pub decoding_from : {D : Type 0} (hash : List ℕ → D) (content : D → List ℕ) (c : Counts) (root : D)
    (chunks : List (Checked D))
    (k m width n : ℕ) (indices rows text : List ℕ) → AreDecodable c root chunks →
    k ≡ c.minimum → m ≡ c.extra → width ≡ width_of chunks → indices ≡ indices_of (in_order k chunks)
    →
    rows ≡ flat_map (λ c. c.shard) (in_order k chunks) → n ≡ compared k chunks →
    Fits hash content k m root width indices rows n text
    → IsDecoding hash content c root chunks text
decoding_from {D = D} hash content c root chunks k m width n indices rows text d ek em ew ei er en
    f =
    let g : Fits hash content c.minimum c.extra root (width_of chunks)
    (indices_of (in_order c.minimum chunks))
    (flat_map (λ (x : Checked D). x.shard) (in_order c.minimum chunks)) (compared c.minimum chunks)
    text
    = rw (ei, er, en, ek, em, ew) at f in
    record {
      short = g.short;
      bytes = g.bytes;
      rows =
          rows_of_chunks (width_of chunks) (compared c.minimum chunks) (row_at c.minimum text)
          (in_order c.minimum chunks)
          (all_in_order (λ x. length x.shard ≡ width_of chunks) c.minimum chunks d.fit.widths)
          (rw (length-in_order c.minimum chunks) (compared-le c.minimum chunks d.enough)) g.same;
      rooted = g.rooted;
    }

pub fits_from : {D : Type 0} (hash : List ℕ → D) (content : D → List ℕ) (c : Counts) (root : D)
    (chunks : List (Checked D))
    (k m width n : ℕ) (indices rows text : List ℕ) → AreDecodable c root chunks →
    k ≡ c.minimum → m ≡ c.extra → width ≡ width_of chunks → indices ≡ indices_of (in_order k chunks)
    →
    rows ≡ flat_map (λ c. c.shard) (in_order k chunks) → n ≡ compared k chunks →
    IsDecoding hash content c root chunks text
    → Fits hash content k m root width indices rows n text
fits_from {D = D} hash content c root chunks k m width n indices rows text d ek em ew ei er en f =
    let g : Fits hash content c.minimum c.extra root (width_of chunks)
    (indices_of (in_order c.minimum chunks))
    (flat_map (λ (x : Checked D). x.shard) (in_order c.minimum chunks)) (compared c.minimum chunks)
    text
    = record {
      short = f.short;
      bytes = f.bytes;
      same =
          chunks_of_rows (width_of chunks) (compared c.minimum chunks) (row_at c.minimum text)
          (in_order c.minimum chunks)
          (all_in_order (λ x. length x.shard ≡ width_of chunks) c.minimum chunks d.fit.widths)
          (rw (length-in_order c.minimum chunks) (compared-le c.minimum chunks d.enough)) f.rows;
      rooted = f.rooted;
    } in
    rw (ei, er, en, ek, em, ew) g

pub rows_long_of : {D : Type 0} (c : Counts) (root : D) (chunks : List (Checked D)) (k width : ℕ)
    (indices rows : List ℕ)
    → AreDecodable c root chunks →
    width ≡ width_of chunks → indices ≡ indices_of (in_order k chunks)
    → rows ≡ flat_map (λ c. c.shard) (in_order k chunks) →
    length rows ≡ length indices * width
rows_long_of c root chunks k width indices rows d ew ei er =
    ap length er
    ∙ flat_long (width_of chunks) (in_order k chunks)
    (all_in_order (λ x. length x.shard ≡ width_of chunks) k chunks d.fit.widths)
    ∙ ap (λ n. n * width_of chunks)
    (length-in_order k chunks ∙ sym (ap length ei ∙ length-indices k chunks))
    ∙ ap (λ w. length indices * w) (sym ew)

-- ---- chunks that are taken one by one

-- F gathers something of each chunk. What is taken of chunk i, with what is gathered behind it, is
-- what is gathered from it on
pub taken_more : {D E : Type 0} (F : List (Checked D) → List E) (p : Checked D → Bool)
    (cs : List (Checked D)) (i : ℕ) (c : Checked D) (taken : Bool) (x old new whole : List E)
    → ((rest : List (Checked D)) → F (c ∷ rest) ≡ x ++ F rest) → i < length cs → c ≡ get_or cs i c
    → taken ≡ p c → new ≡ cond taken (old ++ x) old → old ++ F (filter p (drop i cs)) ≡ whole
    → new ++ F (filter p (drop (i + 1) cs)) ≡ whole
taken_more {D = D} {E = E} F p cs i c taken x old new whole first l is t e before =
    let rest : List (Checked D) = drop (i + 1) cs in
    let here : drop i cs ≡ c ∷ rest = drop_more cs i c l ∙ ap (λ y. y ∷ rest) (sym is) in
    ap (λ (xs : List E). xs ++ F (filter p rest)) e
    ∙ ap (λ (b : Bool). cond b (old ++ x) old ++ F (filter p rest)) t
    ∙ step (p c) (filter p rest)
    ∙ ap (λ (xs : List (Checked D)). old ++ F (filter p xs)) (sym here) ∙ before
  where
    step : (b : Bool) (ys : List (Checked D))
        → cond b (old ++ x) old ++ F ys ≡ old ++ F (cond b (c ∷ ys) ys)
    step true ys = append_assoc old x (F ys) ∙ ap (λ zs. old ++ zs) (sym (first ys))
    step false ys = refl

-- behind the last chunk nothing is gathered
pub taken_all : {D E : Type 0} (F : List (Checked D) → List E) (p : Checked D → Bool)
    (cs : List (Checked D)) (n : ℕ) (now whole : List E)
    → F [] ≡ [] → length cs ≤ n → now ++ F (filter p (drop n cs)) ≡ whole → now ≡ whole
taken_all F p cs n now whole none l all =
    sym (append-nil now) ∙ ap (λ zs. now ++ zs) (sym none)
    ∙ ap (λ xs. now ++ F (filter p xs)) (sym (drop_all n cs l)) ∙ all
