use Rattle.std.proofs.Common.{◌≡◌, ℕ, ◌+◌, ◌-◌, ◌*◌, ◌<◌, ◌≤◌, ◌^◌, length, sym, ap, ◌∙◌, arith}
use Rattle.rs_code.proofs.TransformSizes.{next, halves, half_rows, low_block, high_block, one_row}
use Rattle.rs_code.proofs.TransformRows.{few_known, many_known}
use Rattle.rs_code.proofs.transform.+inverse.Goals as goal

pub returns-then-t-eq0-clause-values : goal.returns-then-t-eq0-clause-values
returns-then-t-eq0-clause-values t c = λ i j l h.
    sym
    (one_row c.args.rows.now c.args.t c.args.n i j (c.args.block * 2 ^ c.args.t + i) (omega arith)
    (omega (arith, l, c.requires.known)))

pub overflow_mul-half : goal.overflow_mul-half
overflow_mul-half t c =
    let whole =
    half_rows c.args.t c.args.n (length c.args.rows.now) c.size-half.result c.if-t-eq0.false
    c.size-half.ensures c.requires.rows in
    omega (arith, whole)

pub split_at_mut-low-requires : goal.split_at_mut-low-requires
split_at_mut-low-requires t c =
    let whole =
    half_rows c.args.t c.args.n (length c.args.rows.now) c.size-half.result c.if-t-eq0.false
    c.size-half.ensures c.requires.rows in
    omega (arith, whole)

pub add_products-requires : goal.add_products-requires
add_products-requires t c =
    let whole =
    half_rows c.args.t c.args.n (length c.args.rows.now) c.size-half.result c.if-t-eq0.false
    c.size-half.ensures c.requires.rows in
    omega (arith, whole, c.split_at_mut-low.ensures.front_len, c.split_at_mut-low.ensures.back_len)

pub inverse-requires : goal.inverse-requires
inverse-requires t c =
    let less : c.args.t - 1 < t = omega (arith, c.if-t-eq0.false, c.decreases) in
    let fits : c.args.t - 1 ≤ 16 = omega (arith, c.requires.fits) in (
      less,
      (
        fits,
        (
          low_block c.args.t c.args.block c.if-t-eq0.false c.requires.block,
          (
            omega (arith, c.if-known-half.true, c.size-half.ensures),
            (
              c.add_products.ensures.count ∙ c.split_at_mut-low.ensures.front_len
                  ∙ ap (λ (m : ℕ). m * c.args.n) c.size-half.ensures,
              c.requires.scales,
            ),
          ),
        ),
      ),
    )

pub add_products-requires-then-known-half :
    goal.add_products-requires-then-known-half
add_products-requires-then-known-half t c =
    let whole =
    half_rows c.args.t c.args.n (length c.args.rows.now) c.size-half.result c.if-t-eq0.false
    c.size-half.ensures c.requires.rows in
    omega (
      arith,
      whole,
      c.split_at_mut-low.ensures.front_len,
      c.split_at_mut-low.ensures.back_len,
      c.add_products.ensures.count,
      c.inverse.ensures.count,
    )

pub returns-then-known-half-clause-values : goal.returns-then-known-half-clause-values
returns-then-known-half-clause-values t c =
    let n : ℕ = c.args.n in
    let h : ℕ = 2 ^ (c.args.t - 1) in
    let front : length c.split_at_mut-low.result.0.now ≡ h * n =
    c.split_at_mut-low.ensures.front_len ∙ ap (λ (m : ℕ). m * n) c.size-half.ensures in
    let second : length c.inverse.new.rows ≡ h * n =
    c.inverse.ensures.count ∙ c.add_products.ensures.count ∙ front in
    (few_known n (c.args.t - 1) c.args.block c.factor_at-factor.result c.args.rows.now
    c.split_at_mut-low.result.0.now c.split_at_mut-low.result.1.now
    c.split_at_mut-low.ensures.value front (omega (arith, c.requires.fits, c.if-t-eq0.false))
    c.args.t (next c.args.t c.if-t-eq0.false) c.factor_at-factor.ensures c.args.known
    c.add_products.new.sums c.inverse.new.rows c.add_products-then-known-half.new.sums
    (omega (arith, c.if-known-half.true, c.size-half.ensures))
    (λ p. omega (arith, c.type_inv.rows p))
    c.add_products.ensures.before
    (λ p l m. c.add_products.ensures.each p l (omega (arith, m, front)))
    c.inverse.ensures.values c.inverse.ensures.others
    (λ p l. c.add_products-then-known-half.ensures.each p (omega arith) (omega (arith, l, second)))
    (c.add_products-then-known-half.ensures.count ∙ second)).0

pub returns-then-known-half-clause-others : goal.returns-then-known-half-clause-others
returns-then-known-half-clause-others t c =
    let n : ℕ = c.args.n in
    let h : ℕ = 2 ^ (c.args.t - 1) in
    let front : length c.split_at_mut-low.result.0.now ≡ h * n =
    c.split_at_mut-low.ensures.front_len ∙ ap (λ (m : ℕ). m * n) c.size-half.ensures in
    let second : length c.inverse.new.rows ≡ h * n =
    c.inverse.ensures.count ∙ c.add_products.ensures.count ∙ front in
    (few_known n (c.args.t - 1) c.args.block c.factor_at-factor.result c.args.rows.now
    c.split_at_mut-low.result.0.now c.split_at_mut-low.result.1.now
    c.split_at_mut-low.ensures.value front (omega (arith, c.requires.fits, c.if-t-eq0.false))
    c.args.t (next c.args.t c.if-t-eq0.false) c.factor_at-factor.ensures c.args.known
    c.add_products.new.sums c.inverse.new.rows c.add_products-then-known-half.new.sums
    (omega (arith, c.if-known-half.true, c.size-half.ensures))
    (λ p. omega (arith, c.type_inv.rows p))
    c.add_products.ensures.before
    (λ p l m. c.add_products.ensures.each p l (omega (arith, m, front)))
    c.inverse.ensures.values c.inverse.ensures.others
    (λ p l. c.add_products-then-known-half.ensures.each p (omega arith) (omega (arith, l, second)))
    (c.add_products-then-known-half.ensures.count ∙ second)).1

pub inverse-requires-2 : goal.inverse-requires-2
inverse-requires-2 t c =
    let less : c.args.t - 1 < t = omega (arith, c.if-t-eq0.false, c.decreases) in
    let fits : c.args.t - 1 ≤ 16 = omega (arith, c.requires.fits) in (
      less,
      (
        fits,
        (
          low_block c.args.t c.args.block c.if-t-eq0.false c.requires.block,
          (
            omega (arith, c.size-half.ensures),
            (
              c.split_at_mut-low.ensures.front_len
                  ∙ ap (λ (m : ℕ). m * c.args.n) c.size-half.ensures,
              c.requires.scales,
            ),
          ),
        ),
      ),
    )

pub add-requires : goal.add-requires
add-requires t c =
    let whole =
    half_rows c.args.t c.args.n (length c.args.rows.now) c.size-half.result c.if-t-eq0.false
    c.size-half.ensures c.requires.rows in
    omega (
      arith,
      whole,
      c.split_at_mut-low.ensures.front_len,
      c.split_at_mut-low.ensures.back_len,
      c.inverse-2.ensures.count,
    )

pub inverse-requires-3 : goal.inverse-requires-3
inverse-requires-3 t c =
    let less : c.args.t - 1 < t = omega (arith, c.if-t-eq0.false, c.decreases) in
    let fits : c.args.t - 1 ≤ 16 = omega (arith, c.requires.fits) in (
      less,
      (
        fits,
        (
          high_block c.args.t c.args.block c.if-t-eq0.false c.requires.block,
          (
            omega
                (arith, c.size-half.ensures, c.requires.known, halves c.args.t c.if-t-eq0.false),
            (
              c.add.ensures.count
                  ∙ omega (
                    arith,
                    c.split_at_mut-low.ensures.back_len,
                    half_rows c.args.t c.args.n
                        (length c.args.rows.now) c.size-half.result c.if-t-eq0.false c.size-half.ensures
                        c.requires.rows,
                  )
                  ∙ ap (λ (m : ℕ). m * c.args.n) c.size-half.ensures,
              c.requires.scales,
            ),
          ),
        ),
      ),
    )

pub step_back-requires : goal.step_back-requires
step_back-requires t c =
    let whole =
    half_rows c.args.t c.args.n (length c.args.rows.now) c.size-half.result c.if-t-eq0.false
    c.size-half.ensures c.requires.rows in
    omega (
      arith,
      whole,
      c.split_at_mut-low.ensures.front_len,
      c.split_at_mut-low.ensures.back_len,
      c.inverse-2.ensures.count,
      c.add.ensures.count,
      c.inverse-3.ensures.count,
    )

pub returns-clause-values : goal.returns-clause-values
returns-clause-values t c =
    let n : ℕ = c.args.n in
    let h : ℕ = 2 ^ (c.args.t - 1) in
    let front : length c.split_at_mut-low.result.0.now ≡ h * n =
    c.split_at_mut-low.ensures.front_len ∙ ap (λ (m : ℕ). m * n) c.size-half.ensures in
    let back : length c.split_at_mut-low.result.1.now ≡ h * n =
    omega (
      arith,
      c.split_at_mut-low.ensures.back_len,
      half_rows c.args.t c.args.n (length c.args.rows.now) c.size-half.result c.if-t-eq0.false
          c.size-half.ensures c.requires.rows,
      ap (λ (m : ℕ). m * n) c.size-half.ensures,
    ) in
    let many : h < c.args.known = omega (arith, c.if-known-half.false, c.size-half.ensures) in
    let more : c.args.known - h ≡ c.args.known - c.size-half.result =
    omega (arith, c.size-half.ensures) in
    let first : length c.inverse-2.new.rows ≡ h * n = c.inverse-2.ensures.count ∙ front in
    let by_more : (c.args.known - h) * n ≡ (c.args.known - c.size-half.result) * n =
    ap (λ (m : ℕ). m * n) more in
    (many_known n (c.args.t - 1) c.args.block c.factor_at-factor.result c.args.rows.now
    c.split_at_mut-low.result.0.now c.split_at_mut-low.result.1.now
    c.split_at_mut-low.ensures.value front (omega (arith, c.requires.fits, c.if-t-eq0.false))
    c.args.t (next c.args.t c.if-t-eq0.false) c.factor_at-factor.ensures c.args.known
    c.inverse-2.new.rows c.step_back.new.first c.add.new.sums c.inverse-3.new.rows
    c.step_back.new.second many (λ p. omega (arith, c.type_inv.rows p))
    (λ i j l m. c.inverse-2.ensures.values i j (omega (arith, l, c.size-half.ensures)) m)
    (λ p l. c.add.ensures.before p (omega (arith, l, by_more)))
    (λ p l m. c.add.ensures.each p (omega (arith, l, by_more)) (omega (arith, m, back)))
    (λ i j l m. c.inverse-3.ensures.values i j (omega (arith, l, more)) m)
    (λ i j l m b. c.inverse-3.ensures.others i j (omega (arith, l, more)) m b)
    (λ p l. c.step_back.ensures.second p (omega (arith, l, first)))
    (λ p l. c.step_back.ensures.first p (omega (arith, l, first)))
    (c.step_back.ensures.first_count ∙ first) c.requires.known).0

pub returns-clause-others : goal.returns-clause-others
returns-clause-others t c =
    let n : ℕ = c.args.n in
    let h : ℕ = 2 ^ (c.args.t - 1) in
    let front : length c.split_at_mut-low.result.0.now ≡ h * n =
    c.split_at_mut-low.ensures.front_len ∙ ap (λ (m : ℕ). m * n) c.size-half.ensures in
    let back : length c.split_at_mut-low.result.1.now ≡ h * n =
    omega (
      arith,
      c.split_at_mut-low.ensures.back_len,
      half_rows c.args.t c.args.n (length c.args.rows.now) c.size-half.result c.if-t-eq0.false
          c.size-half.ensures c.requires.rows,
      ap (λ (m : ℕ). m * n) c.size-half.ensures,
    ) in
    let many : h < c.args.known = omega (arith, c.if-known-half.false, c.size-half.ensures) in
    let more : c.args.known - h ≡ c.args.known - c.size-half.result =
    omega (arith, c.size-half.ensures) in
    let first : length c.inverse-2.new.rows ≡ h * n = c.inverse-2.ensures.count ∙ front in
    let by_more : (c.args.known - h) * n ≡ (c.args.known - c.size-half.result) * n =
    ap (λ (m : ℕ). m * n) more in
    (many_known n (c.args.t - 1) c.args.block c.factor_at-factor.result c.args.rows.now
    c.split_at_mut-low.result.0.now c.split_at_mut-low.result.1.now
    c.split_at_mut-low.ensures.value front (omega (arith, c.requires.fits, c.if-t-eq0.false))
    c.args.t (next c.args.t c.if-t-eq0.false) c.factor_at-factor.ensures c.args.known
    c.inverse-2.new.rows c.step_back.new.first c.add.new.sums c.inverse-3.new.rows
    c.step_back.new.second many (λ p. omega (arith, c.type_inv.rows p))
    (λ i j l m. c.inverse-2.ensures.values i j (omega (arith, l, c.size-half.ensures)) m)
    (λ p l. c.add.ensures.before p (omega (arith, l, by_more)))
    (λ p l m. c.add.ensures.each p (omega (arith, l, by_more)) (omega (arith, m, back)))
    (λ i j l m. c.inverse-3.ensures.values i j (omega (arith, l, more)) m)
    (λ i j l m b. c.inverse-3.ensures.others i j (omega (arith, l, more)) m b)
    (λ p l. c.step_back.ensures.second p (omega (arith, l, first)))
    (λ p l. c.step_back.ensures.first p (omega (arith, l, first)))
    (c.step_back.ensures.first_count ∙ first) c.requires.known).1
