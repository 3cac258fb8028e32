-- A polynomial by another one that has the same values at some points.
use Rattle.std.proofs.Common.{◌≡◌, ℕ, zero, suc, ◌+◌, ◌<◌, ◌≤◌, ◌^◌, ◌⊎◌, inl, inr, bit_xor, sym, ap, ap₂, ◌∙◌, subst, arith}
use Rattle.rs_code.specs.Field.{times, inverse}
use Rattle.rs_code.specs.Codeword.{through, codeword, ArePoints}
use Rattle.rs_code.specs.Coefficients.{distance}
use Rattle.rs_code.proofs.Ring.{IsField, times_left_comm, zero_times, one_times, plus_cancel}
use Rattle.rs_code.proofs.Tower as Tower
use Rattle.rs_code.proofs.Polynomial as Polynomial
use Rattle.rs_code.proofs.Polynomial.{total, AreDistinct, IsPoly, poly_same, poly_plus, poly_linear, through_poly, through_at, through_unique, total_same}
use Rattle.rs_code.proofs.Field.{of, the_field, of_times, of_xor, of_inverse, of_zero, same, times_fits, xor_fits}
use Rattle.rs_code.proofs.Codewords.{plus, mul, o, e, inv, of_through, of_points, through_fits, first_points, product_fits}
use Rattle.rs_code.proofs.WeightLaws.{of_distance, distance_is}

module _ {A : Type 0} (◌⊕◌ ◌⊗◌ : A → A → A) (o e : A) (inverse : A → A)
    (F : IsField ◌⊕◌ ◌⊗◌ o e inverse) where
  infixl 60 ◌⊕◌
  infixl 70 ◌⊗◌
  abbrev Poly : ℕ → (A → A) → Type 0
  Poly = IsPoly ◌⊕◌ ◌⊗◌ o e inverse F

  -- the product of the differences to c elements
  abbrev pub differences : (c : ℕ) (K : ℕ → A) → A → A
  differences c K x = total ◌⊗◌ e c (λ u. x ⊕ K u)

  turned : (z y g : A) → (z ⊗ y) ⊗ g ≡ y ⊗ (z ⊗ g)
  turned z y g =
      F.ring.times_assoc z y g ∙ times_left_comm ◌⊕◌ ◌⊗◌ o e F.ring z y g

  -- each difference is one more degree
  times_differences : (c d : ℕ) (K : ℕ → A) (g : A → A) → Poly d g
      → Poly (c + d) (λ x. differences c K x ⊗ g x)
  times_differences zero d K g p =
      let none : d ≡ 0 + d = omega arith in
      subst (λ (n : ℕ). Poly n (λ x. e ⊗ g x)) none
      (poly_same ◌⊕◌ ◌⊗◌ o e inverse F d g (λ x. e ⊗ g x)
      (λ x. one_times ◌⊕◌ ◌⊗◌ o e F.ring (g x)) p)
  times_differences (suc c) d K g p =
      let more : suc (c + d) ≡ suc c + d = omega arith in
      let before : A → A = λ x. differences c K x ⊗ g x in
      subst (λ (n : ℕ). Poly n (λ x. differences (suc c) K x ⊗ g x)) more
      (poly_same ◌⊕◌ ◌⊗◌ o e inverse F (suc (c + d)) (λ x. (x ⊕ K c) ⊗ before x)
      (λ x. differences (suc c) K x ⊗ g x)
      (λ x. turned (differences c K x) (x ⊕ K c) (g x))
      (poly_linear ◌⊕◌ ◌⊗◌ o e inverse F (c + d) before (K c) (times_differences c d K g p)))

  back : (r q z w : A) → (z ≡ o → ⊥) → w ≡ (r ⊕ q) ⊗ inverse z → q ⊕ z ⊗ w ≡ r
  back r q z w nonzero h =
      let R = F.ring in
      ap (λ y. q ⊕ z ⊗ y) h
      ∙ ap (λ y. q ⊕ y)
      (times_left_comm ◌⊕◌ ◌⊗◌ o e R z (r ⊕ q) (inverse z)
      ∙ ap (λ y. (r ⊕ q) ⊗ y) (F.times_inverse z nonzero) ∙ R.times_one (r ⊕ q)
      ∙ R.plus_comm r q)
      ∙ plus_cancel ◌⊕◌ ◌⊗◌ o e R q r

  module _ (k c d : ℕ) (P K J : ℕ → A) (r h : ℕ → A) (q : A → A) where
    -- q has the value at a point, where the differences vanish; or it is one of the other points,
    -- where the quotient is known
    abbrev pub IsMet : ℕ → Type 0
    IsMet s =
        ((differences c K (P s) ≡ o) × (q (P s) ≡ r s))
        ⊎ ((j : ℕ) × (j < d) × (P s ≡ J j) × (differences c K (P s) ≡ o → ⊥)
        × (h j ≡ (r s ⊕ q (P s)) ⊗ inverse (differences c K (P s))))

    -- the polynomial through values at k points, by another one below degree k
    pub completed : c + d ≡ k → AreDistinct k P → AreDistinct d J → Poly k q
        → ((s : ℕ) → s < k → IsMet s) → (x : A) →
        Polynomial.through ◌⊕◌ ◌⊗◌ o e inverse k P r x
        ≡ q x ⊕ differences c K x ⊗ Polynomial.through ◌⊕◌ ◌⊗◌ o e inverse d J h x
    completed count distinct others poly met x =
        total_same ◌⊕◌ ◌⊗◌ o e inverse F ◌⊕◌ o k _ _
        (λ s l. ap (λ y. y ⊗ Polynomial.basis ◌⊕◌ ◌⊗◌ e inverse k P x s)
        (sym (value s (met s l))))
        ∙ through_unique ◌⊕◌ ◌⊗◌ o e inverse F k P distinct f f_poly x
      where
        g : A → A
        g y = Polynomial.through ◌⊕◌ ◌⊗◌ o e inverse d J h y

        f : A → A
        f y = q y ⊕ differences c K y ⊗ g y

        f_poly : Poly k f
        f_poly =
            poly_plus ◌⊕◌ ◌⊗◌ o e inverse F k q (λ y. differences c K y ⊗ g y) poly
            (subst (λ (n : ℕ). Poly n (λ y. differences c K y ⊗ g y)) count
            (times_differences c d K g (through_poly ◌⊕◌ ◌⊗◌ o e inverse F J d others h)))

        value : (s : ℕ) → IsMet s → f (P s) ≡ r s
        value s (inl own) =
            ap (λ y. q (P s) ⊕ y ⊗ g (P s)) own.0
            ∙ ap (λ y. q (P s) ⊕ y) (zero_times ◌⊕◌ ◌⊗◌ o e F.ring (g (P s)))
            ∙ F.ring.plus_zero (q (P s)) ∙ own.1
        value s (inr other) =
            let j : ℕ = other.0 in
            let here : g (P s) ≡ h j =
            ap g other.2 ∙ through_at ◌⊕◌ ◌⊗◌ o e inverse F J d others h j other.1 in
            back (r s) (q (P s)) (differences c K (P s)) (g (P s)) other.3
            (here ∙ other.4)

-- ---- over numbers

module _ (k c d : ℕ) (P K J r h v : ℕ → ℕ) where
  -- the codeword has the row's value, where the distance is 0; or the row is one of the others, for
  -- which the quotient is known
  abbrev pub IsMetAt : ℕ → Type 0
  IsMetAt s =
      ((distance c K (P s) ≡ 0) × (codeword k v (P s) ≡ r s))
      ⊎ ((j : ℕ) × (j < d) × (P s ≡ J j) × (distance c K (P s) ≡ 0 → ⊥)
      × (h j ≡ times (bit_xor (r s) (codeword k v (P s))) (inverse (distance c K (P s)))))

  distance_fits : (x : ℕ) → distance c K x < 2 ^ 16
  distance_fits x = subst (λ (n : ℕ). n < 2 ^ 16) (sym (distance_is c K x)) (product_fits c _)

  abbrev q : Tower.El 4 → Tower.El 4
  q y = Polynomial.through plus mul o e inv k (λ s. of s) (λ s. of (v s)) y

  of_codeword : (x : ℕ) → of (codeword k v x) ≡ q (of x)
  unfolding codeword
  of_codeword x = of_through k (λ s. s) v x

  codeword_fits : (y : ℕ) → codeword k v y < 2 ^ 16
  unfolding codeword
  codeword_fits y = through_fits k (λ s. s) v y

  of_met : (s : ℕ) → IsMetAt s
      → IsMet plus mul o e inv the_field k c d (λ s. of (P s)) (λ s. of (K s)) (λ s. of (J s))
      (λ s. of (r s)) (λ s. of (h s)) q s
  of_met s (inl own) = inl (
    sym (of_distance c K (P s)) ∙ ap of own.0 ∙ of_zero,
    sym (of_codeword (P s)) ∙ ap of own.1,
  )
  of_met s (inr other) = inr (
    other.0,
    other.1,
    ap of other.2,
    λ z. other.3 (same _ 0 (distance_fits (P s)) (omega arith)
        (of_distance c K (P s) ∙ z ∙ sym of_zero)),
    ap of other.4
        ∙ of_times (bit_xor (r s) (codeword k v (P s))) (inverse (distance c K (P s)))
        ∙ ap₂ mul
        (of_xor (r s) (codeword k v (P s)) ∙ ap (plus (of (r s))) (of_codeword (P s)))
        (of_inverse (distance c K (P s)) ∙ ap inv (of_distance c K (P s))),
  )

  -- the values by the points, by the codeword that has some of them
  pub through_completed : c + d ≡ k → k ≤ 2 ^ 16 → ArePoints k P → ArePoints d J
      → ((s : ℕ) → s < k → IsMetAt s) → (x : ℕ) →
      through k P r x ≡ bit_xor (codeword k v x) (times (distance c K x) (through d J h x))
  through_completed count small points others met x =
      same _ _ (through_fits k P r x)
      (xor_fits (codeword k v x) _ (codeword_fits x) (times_fits (distance c K x) _))
      (of_through k P r x
      ∙ completed plus mul o e inv the_field k c d (λ s. of (P s)) (λ s. of (K s)) (λ s. of (J s))
      (λ s. of (r s)) (λ s. of (h s)) q count (of_points k P points) (of_points d J others)
      (through_poly plus mul o e inv the_field (λ s. of s) k
      (of_points k (λ s. s) (first_points k small)) (λ s. of (v s)))
      (λ s l. of_met s (met s l)) (of x)
      ∙ sym
      (of_xor (codeword k v x) (times (distance c K x) (through d J h x))
      ∙ ap₂ plus (of_codeword x)
      (of_times (distance c K x) (through d J h x)
      ∙ ap₂ mul (of_distance c K x) (of_through d J h x))))
