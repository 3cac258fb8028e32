use Rattle.std.proofs.Common.{◌≡◌, ℕ, ◌+◌, ◌-◌, ◌*◌, ◌<◌, ◌≤◌, ◌^◌, length, ap, ◌∙◌, arith, mul-le-mul_right}
use Rattle.rs_code.proofs.TransformSizes.{next, halves, half_rows, low_block, high_block, one_row}
use Rattle.rs_code.proofs.TransformRows.{forward_values, high_zeros}
use Rattle.rs_code.proofs.transform.+forward.Goals as goal

pub returns-then-t-eq0-clause-values : goal.returns-then-t-eq0-clause-values
returns-then-t-eq0-clause-values t c = λ i j from to l h.
    one_row c.args.rows.now c.args.t c.args.n i j (c.args.block * 2 ^ c.args.t + i) (omega arith) l

pub overflow_mul-half : goal.overflow_mul-half
overflow_mul-half t c =
    let whole =
    half_rows c.args.t c.args.n (length c.args.rows.now) c.size-half.result c.if-t-eq0.false
    c.size-half.ensures c.requires.rows in
    omega (arith, whole)

pub split_at_mut-low-requires : goal.split_at_mut-low-requires
split_at_mut-low-requires t c =
    let whole =
    half_rows c.args.t c.args.n (length c.args.rows.now) c.size-half.result c.if-t-eq0.false
    c.size-half.ensures c.requires.rows in
    omega (arith, whole)

-- what is filled of the second half
filled_within : (t n given half filled : ℕ) → (t ≡ 0 → ⊥) → half ≡ 2 ^ (t - 1) → given ≤ 2 ^ t
    → filled ≡ given - half → filled * n ≤ half * n
filled_within t n given half filled some is_half small is_filled =
    mul-le-mul_right n (omega (arith, halves t some, is_half, small, is_filled))

pub step_forward-requires-clause-filled : goal.step_forward-requires-clause-filled
step_forward-requires-clause-filled t c =
    let within =
    filled_within c.args.t c.args.n c.args.part.given c.size-half.result c.saturating_sub.result
    c.if-t-eq0.false c.size-half.ensures c.requires.given c.saturating_sub.ensures in
    omega (arith, within, c.split_at_mut-low.ensures.front_len)

pub step_forward-requires-clause-zeros : goal.step_forward-requires-clause-zeros
step_forward-requires-clause-zeros t c = λ p from to.
    let half : ℕ = c.size-half.result in
    let is_half = c.size-half.ensures in
    high_zeros c.args.n half c.args.t c.args.part.given c.args.rows.now c.split_at_mut-low.result.0.now
    c.split_at_mut-low.result.1.now c.split_at_mut-low.ensures.value
    c.split_at_mut-low.ensures.front_len
    (omega (arith, halves c.args.t c.if-t-eq0.false, is_half))
    c.requires.zeros p
    (omega (arith, from, ap (λ (m : ℕ). m * c.args.n) c.saturating_sub.ensures))
    (omega (arith, to, c.split_at_mut-low.ensures.front_len))

pub step_forward-requires-clause-second : goal.step_forward-requires-clause-second
step_forward-requires-clause-second t c =
    let whole =
    half_rows c.args.t c.args.n (length c.args.rows.now) c.size-half.result c.if-t-eq0.false
    c.size-half.ensures c.requires.rows in
    omega (arith, whole, c.split_at_mut-low.ensures.front_len, c.split_at_mut-low.ensures.back_len)

pub forward-requires : goal.forward-requires
forward-requires t c =
    let less : c.args.t - 1 < t = omega (arith, c.if-t-eq0.false, c.decreases) in
    let fits : c.args.t - 1 ≤ 16 = omega (arith, c.requires.fits) in (
      less,
      (
        fits,
        (
          low_block c.args.t c.args.block c.if-t-eq0.false c.requires.block,
          (
            c.step_forward.ensures.first_count ∙ c.split_at_mut-low.ensures.front_len
                ∙ ap (λ (m : ℕ). m * c.args.n) c.size-half.ensures,
            (
              omega (arith, c.size-half.ensures),
              (
                λ i j from to _. absurd (omega (arith, from, to, c.size-half.ensures)),
                c.requires.scales,
              ),
            ),
          ),
        ),
      ),
    )

pub forward-requires-2 : goal.forward-requires-2
forward-requires-2 t c =
    let less : c.args.t - 1 < t = omega (arith, c.if-t-eq0.false, c.decreases) in
    let fits : c.args.t - 1 ≤ 16 = omega (arith, c.requires.fits) in (
      less,
      (
        fits,
        (
          high_block c.args.t c.args.block c.if-t-eq0.false c.requires.block,
          (
            c.step_forward.ensures.second_count ∙ c.split_at_mut-low.ensures.front_len
                ∙ ap (λ (m : ℕ). m * c.args.n) c.size-half.ensures,
            (
              omega (arith, c.size-half.ensures),
              (
                λ i j from to _. absurd (omega (arith, from, to, c.size-half.ensures)),
                c.requires.scales,
              ),
            ),
          ),
        ),
      ),
    )

pub returns-clause-values : goal.returns-clause-values
returns-clause-values t c =
    let n : ℕ = c.args.n in
    let h : ℕ = 2 ^ (c.args.t - 1) in
    let front : length c.split_at_mut-low.result.0.now ≡ h * n =
    c.split_at_mut-low.ensures.front_len ∙ ap (λ (m : ℕ). m * n) c.size-half.ensures in
    forward_values n (c.args.t - 1) c.args.block c.factor_at-factor.result c.args.rows.now
    c.split_at_mut-low.result.0.now c.split_at_mut-low.result.1.now
    c.split_at_mut-low.ensures.value front (omega (arith, c.requires.fits, c.if-t-eq0.false))
    c.args.t (next c.args.t c.if-t-eq0.false) c.factor_at-factor.ensures
    c.step_forward.new.first c.step_forward.new.second c.forward.new.rows c.forward-2.new.rows
    c.args.part.first c.args.part.last c.symbols_fit.ensures
    (λ p l. c.step_forward.ensures.first p (omega (arith, l, front)))
    (λ p l. c.step_forward.ensures.second p (omega (arith, l, front)))
    c.forward.ensures.values
    (λ i j from to l m. c.forward-2.ensures.values i j
    (omega (arith, from, c.saturating_sub-2.ensures, c.size-half.ensures))
    (omega (arith, to, c.saturating_sub-3.ensures, c.size-half.ensures)) l m)
    (c.forward.ensures.count ∙ c.step_forward.ensures.first_count ∙ front)
