-- Rows and their symbols in lists that were appended, joined or picked from.
use Rattle.std.proofs.Common.{◌≡◌, ℕ, suc, ◌+◌, ◌-◌, ◌*◌, ◌/◌, ◌<◌, ◌≤◌, bit_xor, List, ◌++◌, length, get_or, drop, sym, ap, ap₂, ◌∙◌, arith, length-append, length-take-le, length-drop, ext_get_or, get_or-take, get_or-drop, mul-le-mul_right, div-add-mod'}
use Rattle.std.proofs.lemmas.Nat.{xor_block}
use Rattle.std.proofs.lemmas.List.{get_or_append_left, get_or-append_right}
use Rattle.cw_base.specs.Rows.{row_of}
use Rattle.rs_code.specs.Rows.{symbol, joined}
use Rattle.rs_code.proofs.RowBytes.{length-joined, place_in_row}

-- a row that is there has its bytes there
pub row_fits : (xs : List ℕ) (w a : ℕ) → a < length xs / w → a * w + w ≤ length xs
row_fits xs w a h =
    let whole : suc a * w ≤ length xs / w * w = mul-le-mul_right w h in
    omega (arith, whole, div-add-mod' (length xs) w)

pub row_long : (xs : List ℕ) (w a : ℕ) → a * w + w ≤ length xs → length (row_of xs w a) ≡ w
unfolding row_of
row_long xs w a h =
    length-take-le w (drop (a * w) xs) (omega (arith, h, length-drop (a * w) xs))

pub row_at : (xs : List ℕ) (w a i : ℕ) → i < w
    → get_or (row_of xs w a) i 0 ≡ get_or xs (a * w + i) 0
unfolding row_of
row_at xs w a i h = get_or-take w (drop (a * w) xs) i 0 h ∙ get_or-drop (a * w) xs i 0

-- rows with the same bytes
row_same : (xs ys : List ℕ) (w a b : ℕ) → a * w + w ≤ length xs → b * w + w ≤ length ys →
    ((i : ℕ) → i < w → get_or xs (a * w + i) 0 ≡ get_or ys (b * w + i) 0) →
    row_of xs w a ≡ row_of ys w b
row_same xs ys w a b hx hy same_bytes =
    let long : length (row_of xs w a) ≡ w = row_long xs w a hx in
    ext_get_or 0 _ _ (long ∙ sym (row_long ys w b hy))
    (λ i l. (let within : i < w = omega (arith, l, long) in
    row_at xs w a i within ∙ same_bytes i within ∙ sym (row_at ys w b i within)))

-- a row of two lists is one of the first, or one of the second
pub row_before : (xs ys : List ℕ) (w a : ℕ) → a * w + w ≤ length xs
    → row_of (xs ++ ys) w a ≡ row_of xs w a
row_before xs ys w a h =
    row_same (xs ++ ys) xs w a a (omega (arith, h, length-append xs ys)) h
    (λ i l. get_or_append_left xs ys 0 (a * w + i) (omega (arith, h, l)))

behind_at : (xs ys : List ℕ) (w n a i : ℕ) → length xs ≡ n * w
    → get_or (xs ++ ys) ((n + a) * w + i) 0 ≡ get_or ys (a * w + i) 0
behind_at xs ys w n a i h =
    let place : (n + a) * w + i ≡ n * w + (a * w + i) = omega arith in
    let rest : n * w + (a * w + i) - n * w ≡ a * w + i = omega arith in
    ap (λ (p : ℕ). get_or (xs ++ ys) p 0) place
    ∙ get_or-append_right xs ys (n * w) (n * w + (a * w + i)) 0 h (omega arith)
    ∙ ap (λ (p : ℕ). get_or ys p 0) rest

pub row_behind : (xs ys : List ℕ) (w n a : ℕ) → length xs ≡ n * w → a * w + w ≤ length ys
    → row_of (xs ++ ys) w (n + a) ≡ row_of ys w a
row_behind xs ys w n a h within =
    let place : (n + a) * w ≡ n * w + a * w = omega arith in
    row_same (xs ++ ys) ys w (n + a) a
    (omega (arith, h, within, length-append xs ys, place)) within
    (λ i l. behind_at xs ys w n a i h)

-- a row of joined rows
pub row_joined : (n w : ℕ) (row : ℕ → List ℕ) → ((i : ℕ) → i < n → length (row i) ≡ w) → (a : ℕ)
    → a < n → row_of (joined n row) w a ≡ row a
row_joined n w row widths a h =
    let whole : suc a * w ≤ n * w = mul-le-mul_right w h in
    let long : length (row_of (joined n row) w a) ≡ w =
    row_long (joined n row) w a (omega (arith, whole, length-joined n w row widths)) in
    ext_get_or 0 _ _ (long ∙ sym (widths a h))
    (λ i l. (let within : i < w = omega (arith, l, long) in
    row_at (joined n row) w a i within ∙ place_in_row n w row widths a i h within))

-- symbols with the same bytes
symbol_same : (xs ys : List ℕ) (w v a b j : ℕ) →
    get_or xs (a * w + 2 * j) 0 ≡ get_or ys (b * v + 2 * j) 0 →
    get_or xs (a * w + (2 * j + 1)) 0 ≡ get_or ys (b * v + (2 * j + 1)) 0 →
    symbol xs w a j ≡ symbol ys v b j
unfolding symbol
symbol_same xs ys w v a b j high low =
    let left : a * w + 2 * j + 1 ≡ a * w + (2 * j + 1) = omega arith in
    let right : b * v + (2 * j + 1) ≡ b * v + 2 * j + 1 = omega arith in
    ap₂ (λ (x y : ℕ). x * 256 + y) high
    (ap (λ (p : ℕ). get_or xs p 0) left ∙ low ∙ ap (λ (p : ℕ). get_or ys p 0) right)

-- the symbols of a row by itself
pub symbol_of_row : (xs : List ℕ) (w a j : ℕ) → 2 * j + 1 < w
    → symbol (row_of xs w a) 0 0 j ≡ symbol xs w a j
symbol_of_row xs w a j h =
    let none : (n : ℕ) → 0 * 0 + n ≡ n = λ n. omega arith in
    symbol_same (row_of xs w a) xs 0 w 0 a j
    (ap (λ (p : ℕ). get_or (row_of xs w a) p 0) (none (2 * j)) ∙ row_at xs w a (2 * j) (omega (arith, h)))
    (ap (λ (p : ℕ). get_or (row_of xs w a) p 0) (none (2 * j + 1)) ∙ row_at xs w a (2 * j + 1) h)

pub symbol_before : (xs ys : List ℕ) (w a j : ℕ) → a * w + w ≤ length xs → 2 * j + 1 < w
    → symbol (xs ++ ys) w a j ≡ symbol xs w a j
symbol_before xs ys w a j h l =
    symbol_same (xs ++ ys) xs w w a a j
    (get_or_append_left xs ys 0 (a * w + 2 * j) (omega (arith, h, l)))
    (get_or_append_left xs ys 0 (a * w + (2 * j + 1)) (omega (arith, h, l)))

pub symbol_behind : (xs ys : List ℕ) (w n a j : ℕ) → length xs ≡ n * w
    → symbol (xs ++ ys) w (n + a) j ≡ symbol ys w a j
symbol_behind xs ys w n a j h =
    symbol_same (xs ++ ys) ys w w (n + a) a j
    (behind_at xs ys w n a (2 * j) h) (behind_at xs ys w n a (2 * j + 1) h)

-- the symbols of rows that were picked
pub symbol_picked : (n w : ℕ) (xs : List ℕ) (f : ℕ → ℕ) →
    ((i : ℕ) → i < n → f i * w + w ≤ length xs) → (a j : ℕ) → a < n → 2 * j + 1 < w →
    symbol (joined n (λ i. row_of xs w (f i))) w a j ≡ symbol xs w (f a) j
symbol_picked n w xs f within a j h l =
    let widths : (i : ℕ) → i < n → length (row_of xs w (f i)) ≡ w =
    λ i m. row_long xs w (f i) (within i m) in
    symbol_same (joined n (λ i. row_of xs w (f i))) xs w w a (f a) j
    (place_in_row n w _ widths a (2 * j) h (omega (arith, l)) ∙ row_at xs w (f a) (2 * j) (omega (arith, l)))
    (place_in_row n w _ widths a (2 * j + 1) h l ∙ row_at xs w (f a) (2 * j + 1) l)

-- the symbols of sums
pub symbol_sum : (sums first second : List ℕ) (w a j : ℕ) → a * w + w ≤ length first → 2 * j + 1 < w →
    ((i : ℕ) → get_or first i 0 < 256) → ((i : ℕ) → get_or second i 0 < 256) →
    ((i : ℕ) → i < length first → get_or sums i 0 ≡ bit_xor (get_or first i 0) (get_or second i 0)) →
    symbol sums w a j ≡ bit_xor (symbol first w a j) (symbol second w a j)
unfolding symbol
symbol_sum sums first second w a j within l small small' each =
    ap₂ (λ (x y : ℕ). x * 256 + y) (each (a * w + 2 * j) (omega (arith, within, l)))
    (each (a * w + 2 * j + 1) (omega (arith, within, l)))
    ∙ sym
    (xor_block 8 (get_or first (a * w + 2 * j) 0) (get_or second (a * w + 2 * j) 0)
    (get_or first (a * w + 2 * j + 1) 0) (get_or second (a * w + 2 * j + 1) 0)
    (small (a * w + 2 * j + 1)) (small' (a * w + 2 * j + 1)))
