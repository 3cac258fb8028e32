-- The sizes of a block's halves.
use Rattle.std.proofs.Common.{◌≡◌, ℕ, suc, ◌+◌, ◌-◌, ◌*◌, ◌^◌, ◌<◌, ◌≤◌, ◌/◌, ◌%◌, List, sym, ap, ◌∙◌, subst, arith, ⊎_elim, mul-le-mul_right, div-add-mod', mod-lt}
use Rattle.std.proofs.lemmas.Bool.{cases_lt}
use Rattle.std.proofs.lemmas.Nat.{pow-add}
use Rattle.rs_code.specs.Columns.{entry}
use Rattle.rs_code.specs.Transform.{combined}
use Rattle.rs_code.proofs.VanishingSums.{double}

pub next : (t : ℕ) → (t ≡ 0 → ⊥) → suc (t - 1) ≡ t
next t some = omega (arith, some)

pub halves : (t : ℕ) → (t ≡ 0 → ⊥) → 2 ^ t ≡ 2 ^ (t - 1) + 2 ^ (t - 1)
halves t some = ap (λ (m : ℕ). 2 ^ m) (sym (next t some)) ∙ double (t - 1)

pub half_rows : (t n long half : ℕ) → (t ≡ 0 → ⊥) → half ≡ 2 ^ (t - 1) → long ≡ 2 ^ t * n
    → long ≡ half * n + half * n
half_rows t n long half some is_half is_long =
    is_long ∙ ap (λ (m : ℕ). m * n) (halves t some ∙ sym (ap (λ (m : ℕ). m + m) is_half))
    ∙ omega arith

pub low_block : (t block : ℕ) → (t ≡ 0 → ⊥) → (block + 1) * 2 ^ t ≤ 2 ^ 16
    → (2 * block + 1) * 2 ^ (t - 1) ≤ 2 ^ 16
low_block t block some fits =
    let bound : (block + 1) * (2 ^ (t - 1) + 2 ^ (t - 1)) ≤ 2 ^ 16 =
    subst (λ (m : ℕ). (block + 1) * m ≤ 2 ^ 16) (halves t some) fits in
    omega (arith, bound)

pub high_block : (t block : ℕ) → (t ≡ 0 → ⊥) → (block + 1) * 2 ^ t ≤ 2 ^ 16
    → (2 * block + 1 + 1) * 2 ^ (t - 1) ≤ 2 ^ 16
high_block t block some fits =
    let bound : (block + 1) * (2 ^ (t - 1) + 2 ^ (t - 1)) ≤ 2 ^ 16 =
    subst (λ (m : ℕ). (block + 1) * m ≤ 2 ^ 16) (halves t some) fits in
    omega (arith, bound)

-- a block of one row has its coefficient as its value
pub one_row : (rows : List ℕ) (t n i j x : ℕ) → t ≡ 0 → i < 2 ^ t
    → entry rows n i j ≡ combined t (λ r. entry rows n r j) x
unfolding combined
one_row rows t n i j x none l =
    let first : i ≡ 0 = omega (arith, subst (λ (m : ℕ). i < 2 ^ m) none l) in
    ap (λ (m : ℕ). entry rows n m j) first
    ∙ ap (λ (m : ℕ). combined m (λ r. entry rows n r j) x) (sym none)

-- a block that begins within the field is within it
pub block_within : (t block total : ℕ) → t ≤ 16 → block * 2 ^ t < total → total ≤ 2 ^ 16
    → (block + 1) * 2 ^ t ≤ 2 ^ 16
block_within t block total fits begins small =
    let whole : 2 ^ (16 - t) * 2 ^ t ≡ 2 ^ 16 =
    sym (pow-add 2 (16 - t) t)
    ∙ ap (λ (m : ℕ). 2 ^ m) (let all : 16 - t + t ≡ 16 = omega (arith, fits) in all) in
    let below : block < 2 ^ (16 - t) =
    ⊎_elim (λ less. less)
    (λ more. absurd
    (let past : 2 ^ (16 - t) * 2 ^ t ≤ block * 2 ^ t = mul-le-mul_right (2 ^ t) more in
    omega (arith, past, whole, begins, small)))
    (cases_lt block (2 ^ (16 - t))) in
    let end : suc block * 2 ^ t ≤ 2 ^ (16 - t) * 2 ^ t = mul-le-mul_right (2 ^ t) below in
    omega (arith, end, whole)

-- ---- pieces of a size that cover a total

pieces_bounds : (total each : ℕ) → 1 ≤ each →
    ((total + each - 1) / each * each ≤ total + each - 1)
    × (total + each - 1 < (total + each - 1) / each * each + each)
pieces_bounds total each some =
    let split = div-add-mod' (total + each - 1) each in
    let rest : (total + each - 1) % each < each = mod-lt (total + each - 1) some in
    (omega (arith, split), omega (arith, split, rest))

pub pieces_within : (total each : ℕ) → 1 ≤ each → (b : ℕ) → b < (total + each - 1) / each
    → b * each < total
pieces_within total each some b h =
    let bounds = pieces_bounds total each some in
    let next_one : suc b * each ≤ (total + each - 1) / each * each = mul-le-mul_right each h in
    omega (arith, next_one, bounds.0, some)

pub pieces_cover : (total each : ℕ) → 1 ≤ each → total ≤ (total + each - 1) / each * each
pieces_cover total each some =
    let bounds = pieces_bounds total each some in omega (arith, bounds.1, some)
