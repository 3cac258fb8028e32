-- The additive transform of one column, over a field that has the first numbers as elements: the
-- polynomials that vanish on the numbers below a power of two, sums of their products, and the step
-- from a transform's size to twice it.
use Rattle.std.proofs.Common.{◌≡◌, ℕ, zero, suc, ◌+◌, ◌-◌, ◌*◌, ◌^◌, ◌<◌, ◌≤◌, ◌⊎◌, inl, inr, refl, sym, ap, ap₂, ◌∙◌, ⊎_elim, arith, pow-suc, subst}
use Rattle.std.proofs.lemmas.Nat.{pow_pos}
use Rattle.rs_code.proofs.Ring.{IsField, zero_plus, plus_left_comm, plus_cancel, times_left_comm, plus_times, times_zero, zero_times, one_times, equal_from_sum}
use Rattle.rs_code.proofs.Polynomial.{AreDistinct, IsPoly, through, poly_same, poly_zero, poly_lift, poly_scale, poly_plus, no_divisors, through_unique, total_same, basis}

-- numbers as elements, where the sum of a multiple of a power of two and a number below it is the
-- sum of their elements
pub record AreElements {A : Type 0} (plus : A → A → A) (o e : A) (limit : ℕ) (at : ℕ → A) : Type 0 where
  pub at_zero : at 0 ≡ o
  pub at_one : at 1 ≡ e
  pub at_sum : (t c i : ℕ) → i < 2 ^ t → at (c * 2 ^ t + i) ≡ plus (at (c * 2 ^ t)) (at i)
  pub distinct : (i j : ℕ) → i < 2 ^ limit → j < 2 ^ limit → at i ≡ at j → i ≡ j

pub double : (t : ℕ) → 2 ^ suc t ≡ 2 ^ t + 2 ^ t
double t = pow-suc 2 t ∙ omega arith

pub power_below : (t n : ℕ) → t < n → 2 ^ t < 2 ^ n
power_below t zero h = absurd (omega (arith, h))
power_below t (suc n) h =
    ⊎_elim
    (λ less. omega (arith, power_below t n less, double n, pow_pos n))
    (λ same_as. omega (arith, ap (λ k. 2 ^ k) same_as, double n, pow_pos n))
    (below_or t n h)
  where
    below_or : (t n : ℕ) → t < suc n → (t < n) ⊎ (t ≡ n)
    below_or t n h = grind (arith, h)

few_or_more : (k n : ℕ) → (k ≤ n) ⊎ (n < k)
few_or_more k n = grind arith

-- a number below twice a power of two is below it, or that much above it
pub half_of : (t i : ℕ) → i < 2 ^ suc t → (i < 2 ^ t) ⊎ ((j : ℕ) × (j < 2 ^ t) × (i ≡ 2 ^ t + j))
half_of t i h = go (less_or i (2 ^ t))
  where
    less_or : (i n : ℕ) → (i < n) ⊎ (n ≤ i)
    less_or i n = grind arith

    go : (i < 2 ^ t) ⊎ (2 ^ t ≤ i) → (i < 2 ^ t) ⊎ ((j : ℕ) × (j < 2 ^ t) × (i ≡ 2 ^ t + j))
    go (inl l) = inl l
    go (inr g) = inr (i - 2 ^ t, omega (arith, g, h, double t), omega (arith, g))

module _ {A : Type 0} (◌⊕◌ ◌⊗◌ : A → A → A) (o e : A) (inverse : A → A)
    (F : IsField ◌⊕◌ ◌⊗◌ o e inverse) (limit : ℕ) (at : ℕ → A)
    (E : AreElements ◌⊕◌ o e limit at) where
  infixl 60 ◌⊕◌
  infixl 70 ◌⊗◌
  -- y * (y + 1), and its quotient by the same of u
  abbrev pub next : A → A → A
  next y u = (y ⊗ (y ⊕ e)) ⊗ inverse (u ⊗ (u ⊕ e))

  -- the polynomial of degree 2 ^ t that vanishes on the numbers below 2 ^ t, and is 1 at 2 ^ t
  abbrev pub vanish : ℕ → A → A
  vanish zero x = x
  vanish (suc t) x = next (vanish t x) (vanish t (at (2 ^ suc t)))

  -- the sum of 2 ^ t coefficients, each times the product of those polynomials whose bit its index
  -- has
  abbrev pub value : ℕ → (ℕ → A) → A → A
  value zero d x = d 0
  value (suc t) d x = value t d x ⊕ vanish t x ⊗ value t (λ j. d (2 ^ t + j)) x

  -- ---- they are additive

  scaled_plus : (a b c : A) →
      ((a ⊕ b) ⊗ ((a ⊕ b) ⊕ e)) ⊗ c ≡ (a ⊗ (a ⊕ e)) ⊗ c ⊕ (b ⊗ (b ⊕ e)) ⊗ c
  scaled_plus a b c =
      let R = F.ring in
      simp (
        R.times_plus,
        plus_times ◌⊕◌ ◌⊗◌ o e R,
        R.times_assoc,
        times_left_comm ◌⊕◌ ◌⊗◌ o e R,
        R.times_comm,
        R.plus_assoc,
        plus_cancel ◌⊕◌ ◌⊗◌ o e R,
        R.plus_self,
        plus_left_comm ◌⊕◌ ◌⊗◌ o e R,
        R.plus_comm,
        R.plus_zero,
        zero_plus ◌⊕◌ ◌⊗◌ o e R,
        R.times_one,
        one_times ◌⊕◌ ◌⊗◌ o e R,
      )

  pub vanish_plus : (t : ℕ) (x y : A) → vanish t (x ⊕ y) ≡ vanish t x ⊕ vanish t y
  vanish_plus zero x y = refl
  vanish_plus (suc t) x y =
      let u = vanish t (at (2 ^ suc t)) in
      ap (λ z. next z u) (vanish_plus t x y)
      ∙ scaled_plus (vanish t x) (vanish t y) (inverse (u ⊗ (u ⊕ e)))

  -- ---- where they vanish

  moved : (x a b : A) → x ⊕ a ≡ b → x ≡ a ⊕ b
  moved x a b h =
      let R = F.ring in
      sym (plus_cancel ◌⊕◌ ◌⊗◌ o e R a x) ∙ ap (λ y. a ⊕ y) (R.plus_comm a x ∙ h)

  at_above : (t i : ℕ) → i < 2 ^ t → at (2 ^ t + i) ≡ at (2 ^ t) ⊕ at i
  at_above t i h =
      let one : 1 * 2 ^ t ≡ 2 ^ t = omega arith in
      ap (λ n. at (n + i)) (sym one) ∙ E.at_sum t 1 i h ∙ ap (λ n. at n ⊕ at i) one

  next_of_zero : (y u : A) → y ≡ o → next y u ≡ o
  next_of_zero y u h =
      let R = F.ring in
      let c = inverse (u ⊗ (u ⊕ e)) in
      ap (λ z. (z ⊗ (z ⊕ e)) ⊗ c) h
      ∙ ap (λ z. z ⊗ c) (zero_times ◌⊕◌ ◌⊗◌ o e R (o ⊕ e)) ∙ zero_times ◌⊕◌ ◌⊗◌ o e R c

  next_of_one : (y u : A) → y ≡ e → next y u ≡ o
  next_of_one y u h =
      let R = F.ring in
      let c = inverse (u ⊗ (u ⊕ e)) in
      ap (λ z. (z ⊗ (z ⊕ e)) ⊗ c) h
      ∙ ap (λ z. (e ⊗ z) ⊗ c) (R.plus_self e)
      ∙ ap (λ z. z ⊗ c) (times_zero ◌⊕◌ ◌⊗◌ o e R e) ∙ zero_times ◌⊕◌ ◌⊗◌ o e R c

  abbrev pub Zeros : ℕ → Type 0
  Zeros t = (i : ℕ) → i < 2 ^ t → vanish t (at i) ≡ o

  abbrev pub One : ℕ → Type 0
  One t = vanish t (at (2 ^ t)) ≡ e

  abbrev pub Only : ℕ → Type 0
  Only t = (x : A) → vanish t x ≡ o → (i : ℕ) × (i < 2 ^ t) × (x ≡ at i)

  -- an element at which it is 1 is one at which it vanishes, and 2 ^ t
  shifted : (t : ℕ) → One t → Only t → (x : A) → vanish t x ≡ e →
      (i : ℕ) × (i < 2 ^ t) × (x ≡ at (2 ^ t + i))
  shifted t one only x h =
      let found : (i : ℕ) × (i < 2 ^ t) × (x ⊕ at (2 ^ t) ≡ at i) =
      only (x ⊕ at (2 ^ t))
      (vanish_plus t x (at (2 ^ t)) ∙ ap₂ (λ y z. y ⊕ z) h one ∙ F.ring.plus_self e) in (
        found.0,
        found.1,
        moved x (at (2 ^ t)) (at found.0) found.2 ∙ sym (at_above t found.0 found.1),
      )

  -- so the next one's divisor isn't zero
  pub divisor : (t : ℕ) → suc t < limit → One t → Only t →
      let u = vanish t (at (2 ^ suc t)) in
      u ⊗ (u ⊕ e) ≡ o → ⊥
  divisor t h one only z =
      let u = vanish t (at (2 ^ suc t)) in
      let big : 2 ^ suc t < 2 ^ limit = power_below (suc t) limit h in
      let not_zero : u ≡ o → ⊥ =
      λ uz. let found = only (at (2 ^ suc t)) uz in
      let equal : 2 ^ suc t ≡ found.0 =
      E.distinct (2 ^ suc t) found.0 big (omega (arith, found.1, big, double t)) found.2 in
      absurd (omega (arith, equal, found.1, double t)) in
      let found =
      shifted t one only (at (2 ^ suc t))
      (equal_from_sum ◌⊕◌ ◌⊗◌ o e F.ring u e
      (no_divisors ◌⊕◌ ◌⊗◌ o e inverse F u (u ⊕ e) z not_zero)) in
      let equal : 2 ^ suc t ≡ 2 ^ t + found.0 =
      E.distinct (2 ^ suc t) (2 ^ t + found.0) big (omega (arith, found.1, big, double t)) found.2 in
      absurd (omega (arith, equal, found.1, double t))

  next_only : (t : ℕ) → suc t < limit → One t → Only t → Only (suc t)
  next_only t h one only x z =
      let R = F.ring in
      let u = vanish t (at (2 ^ suc t)) in
      let p = u ⊗ (u ⊕ e) in
      let y = vanish t x in
      let apart : inverse p ≡ o → ⊥ =
      λ w. F.one_nonzero
      (sym (F.times_inverse p (divisor t h one only)) ∙ ap (λ q. p ⊗ q) w
      ∙ times_zero ◌⊕◌ ◌⊗◌ o e R p) in
      let either : y ⊗ (y ⊕ e) ≡ o =
      no_divisors ◌⊕◌ ◌⊗◌ o e inverse F (inverse p) (y ⊗ (y ⊕ e))
      (R.times_comm (inverse p) (y ⊗ (y ⊕ e)) ∙ z) apart in
      ⊎_elim
      (λ here. let found = only x here in
      (found.0, omega (arith, found.1, double t), found.2))
      (λ away. let found =
      shifted t one only x
      (equal_from_sum ◌⊕◌ ◌⊗◌ o e R y e (no_divisors ◌⊕◌ ◌⊗◌ o e inverse F y (y ⊕ e) either away)) in
      (2 ^ t + found.0, omega (arith, found.1, double t), found.2))
      (F.zero_or y)

  next_zeros : (t : ℕ) → One t → Zeros t → Zeros (suc t)
  next_zeros t one zeros i h =
      let R = F.ring in
      let u = vanish t (at (2 ^ suc t)) in
      ⊎_elim
      (λ low. next_of_zero (vanish t (at i)) u (zeros i low))
      (λ high. next_of_one (vanish t (at i)) u
      (ap (λ n. vanish t (at n)) high.2
      ∙ ap (λ y. vanish t y) (at_above t high.0 high.1)
      ∙ vanish_plus t (at (2 ^ t)) (at high.0)
      ∙ ap₂ (λ y z. y ⊕ z) one (zeros high.0 high.1) ∙ R.plus_zero e))
      (half_of t i h)

  pub vanishes : (t : ℕ) → t < limit → Zeros t × One t × Only t
  vanishes zero h = (
    λ i l. let none : i ≡ 0 = omega (arith, l) in ap at none ∙ E.at_zero,
    E.at_one,
    λ x z. (0, omega arith, z ∙ sym E.at_zero),
  )
  vanishes (suc t) h =
      let V = vanishes t (omega (arith, h)) in
      let u = vanish t (at (2 ^ suc t)) in (
        next_zeros t V.1 V.0,
        F.times_inverse (u ⊗ (u ⊕ e)) (divisor t h V.1 V.2),
        next_only t h V.1 V.2,
      )

  -- ---- on a block of twice the size

  pub low_place : (t c i : ℕ) → 2 * c * 2 ^ t + i ≡ c * 2 ^ suc t + i
  low_place t c i = rw (double t) (omega arith)

  pub high_place : (t c i : ℕ) → (2 * c + 1) * 2 ^ t + i ≡ c * 2 ^ suc t + (2 ^ t + i)
  high_place t c i = rw (double t) (omega arith)

  -- on the first half of it the polynomial is what it is at the block's begin
  vanish_low : (t c i : ℕ) → t < limit → i < 2 ^ t
      → vanish t (at (c * 2 ^ suc t + i)) ≡ vanish t (at (c * 2 ^ suc t))
  vanish_low t c i small h =
      ap (λ x. vanish t x) (E.at_sum (suc t) c i (omega (arith, h, double t)))
      ∙ vanish_plus t (at (c * 2 ^ suc t)) (at i)
      ∙ ap (λ y. vanish t (at (c * 2 ^ suc t)) ⊕ y) ((vanishes t small).0 i h)
      ∙ F.ring.plus_zero (vanish t (at (c * 2 ^ suc t)))

  -- and 1 more on the second half
  vanish_high : (t c i : ℕ) → t < limit → i < 2 ^ t
      → vanish t (at (c * 2 ^ suc t + (2 ^ t + i))) ≡ vanish t (at (c * 2 ^ suc t)) ⊕ e
  vanish_high t c i small h =
      let V = vanishes t small in
      ap (λ x. vanish t x) (E.at_sum (suc t) c (2 ^ t + i) (omega (arith, h, double t)))
      ∙ vanish_plus t (at (c * 2 ^ suc t)) (at (2 ^ t + i))
      ∙ ap (λ y. vanish t (at (c * 2 ^ suc t)) ⊕ y)
      (ap (λ x. vanish t x) (at_above t i h) ∙ vanish_plus t (at (2 ^ t)) (at i)
      ∙ ap₂ (λ y z. y ⊕ z) V.1 (V.0 i h) ∙ F.ring.plus_zero e)

  pub value_same : (t : ℕ) (d f : ℕ → A) (x : A) → ((j : ℕ) → j < 2 ^ t → d j ≡ f j)
      → value t d x ≡ value t f x
  value_same zero d f x h = h 0 (omega arith)
  value_same (suc t) d f x h =
      ap₂ (λ y z. y ⊕ vanish t x ⊗ z)
      (value_same t d f x (λ j l. h j (omega (arith, l, double t))))
      (value_same t (λ j. d (2 ^ t + j)) (λ j. f (2 ^ t + j)) x
      (λ j l. h (2 ^ t + j) (omega (arith, l, double t))))

  mixed : (a b c d w v : A) →
      (a ⊕ w ⊗ b) ⊕ v ⊗ (c ⊕ w ⊗ d) ≡ (a ⊕ v ⊗ c) ⊕ w ⊗ (b ⊕ v ⊗ d)
  mixed a b c d w v =
      let R = F.ring in
      simp (
        R.times_plus,
        times_left_comm ◌⊕◌ ◌⊗◌ o e R,
        R.plus_assoc,
        plus_left_comm ◌⊕◌ ◌⊗◌ o e R,
        R.plus_comm,
      )

  pub value_linear : (t : ℕ) (d f : ℕ → A) (w x : A) →
      value t (λ j. d j ⊕ w ⊗ f j) x ≡ value t d x ⊕ w ⊗ value t f x
  value_linear zero d f w x = refl
  value_linear (suc t) d f w x =
      let high : (ℕ → A) → ℕ → A = λ g j. g (2 ^ t + j) in
      ap₂ (λ y z. y ⊕ vanish t x ⊗ z) (value_linear t d f w x)
      (value_linear t (high d) (high f) w x)
      ∙ mixed (value t d x) (value t f x) (value t (high d) x) (value t (high f) x) w
      (vanish t x)

  -- the coefficients for the first half
  pub low_values : (t c : ℕ) (d a : ℕ → A) → t < limit →
      ((j : ℕ) → j < 2 ^ t → a j ≡ d j ⊕ vanish t (at (c * 2 ^ suc t)) ⊗ d (2 ^ t + j)) →
      (i : ℕ) → i < 2 ^ t →
      value t a (at (2 * c * 2 ^ t + i)) ≡ value (suc t) d (at (c * 2 ^ suc t + i))
  low_values t c d a small h i l =
      let w = vanish t (at (c * 2 ^ suc t)) in
      let x = at (c * 2 ^ suc t + i) in
      ap (λ n. value t a (at n)) (low_place t c i)
      ∙ value_same t a (λ j. d j ⊕ w ⊗ d (2 ^ t + j)) x h
      ∙ value_linear t d (λ j. d (2 ^ t + j)) w x
      ∙ ap (λ y. value t d x ⊕ y ⊗ value t (λ j. d (2 ^ t + j)) x)
      (sym (vanish_low t c i small l))

  one_more : (a b w : A) → (a ⊕ w ⊗ b) ⊕ b ≡ a ⊕ (w ⊕ e) ⊗ b
  one_more a b w =
      let R = F.ring in
      R.plus_assoc a (w ⊗ b) b
      ∙ ap (λ y. a ⊕ y)
      (sym
      (plus_times ◌⊕◌ ◌⊗◌ o e R w e b ∙ ap (λ y. w ⊗ b ⊕ y) (one_times ◌⊕◌ ◌⊗◌ o e R b)))

  -- the coefficients for the second half
  pub high_values : (t c : ℕ) (d a b : ℕ → A) → t < limit →
      ((j : ℕ) → j < 2 ^ t → a j ≡ d j ⊕ vanish t (at (c * 2 ^ suc t)) ⊗ d (2 ^ t + j)) →
      ((j : ℕ) → j < 2 ^ t → b j ≡ a j ⊕ d (2 ^ t + j)) →
      (i : ℕ) → i < 2 ^ t →
      value t b (at ((2 * c + 1) * 2 ^ t + i))
      ≡ value (suc t) d (at (c * 2 ^ suc t + (2 ^ t + i)))
  high_values t c d a b small h g i l =
      let w = vanish t (at (c * 2 ^ suc t)) in
      let x = at (c * 2 ^ suc t + (2 ^ t + i)) in
      ap (λ n. value t b (at n)) (high_place t c i)
      ∙ value_same t b (λ j. d j ⊕ (w ⊕ e) ⊗ d (2 ^ t + j)) x
      (λ j m. g j m ∙ ap (λ y. y ⊕ d (2 ^ t + j)) (h j m) ∙ one_more (d j) (d (2 ^ t + j)) w)
      ∙ value_linear t d (λ j. d (2 ^ t + j)) (w ⊕ e) x
      ∙ ap (λ y. value t d x ⊕ y ⊗ value t (λ j. d (2 ^ t + j)) x)
      (sym (vanish_high t c i small l))

  -- ---- the degree

  abbrev Poly : ℕ → (A → A) → Type 0
  Poly = IsPoly ◌⊕◌ ◌⊗◌ o e inverse F

  poly_lifts : (n k : ℕ) (f : A → A) → Poly k f → Poly (n + k) f
  poly_lifts zero k f p = let none : k ≡ 0 + k = omega arith in subst (λ (m : ℕ). Poly m f) none p
  poly_lifts (suc n) k f p =
      let more : suc (n + k) ≡ suc n + k = omega arith in
      subst (λ (m : ℕ). Poly m f) more
      (poly_lift ◌⊕◌ ◌⊗◌ o e inverse F (n + k) f (poly_lifts n k f p))

  pub poly_at_least : (k n : ℕ) (f : A → A) → k ≤ n → Poly k f → Poly n f
  poly_at_least k n f h p =
      let whole : n - k + k ≡ n = omega (arith, h) in
      subst (λ (m : ℕ). Poly m f) whole (poly_lifts (n - k) k f p)

  by_next : (y g c : A) → c ⊗ (y ⊗ (y ⊗ g) ⊕ y ⊗ g) ≡ ((y ⊗ (y ⊕ e)) ⊗ c) ⊗ g
  by_next y g c =
      let R = F.ring in
      simp (
        R.times_plus,
        plus_times ◌⊕◌ ◌⊗◌ o e R,
        R.times_assoc,
        times_left_comm ◌⊕◌ ◌⊗◌ o e R,
        R.times_comm,
        R.times_one,
        one_times ◌⊕◌ ◌⊗◌ o e R,
      )

  -- each of them adds its degree
  pub vanish_times : (t j : ℕ) (f : A → A) → Poly j f → Poly (2 ^ t + j) (λ x. vanish t x ⊗ f x)
  vanish_times zero j f p =
      let R = F.ring in
      let one_more_degree : suc j ≡ 2 ^ 0 + j = omega arith in
      subst (λ (m : ℕ). Poly m (λ x. x ⊗ f x)) one_more_degree
      (o, f, λ x. sym (zero_plus ◌⊕◌ ◌⊗◌ o e R (x ⊗ f x)), p)
  vanish_times (suc t) j f p =
      let u = vanish t (at (2 ^ suc t)) in
      let c = inverse (u ⊗ (u ⊕ e)) in
      let once : Poly (2 ^ t + j) (λ x. vanish t x ⊗ f x) = vanish_times t j f p in
      let n = 2 ^ t + (2 ^ t + j) in
      let twice : Poly n (λ x. vanish t x ⊗ (vanish t x ⊗ f x)) =
      vanish_times t (2 ^ t + j) (λ x. vanish t x ⊗ f x) once in
      let sum : Poly n (λ x. vanish t x ⊗ (vanish t x ⊗ f x) ⊕ vanish t x ⊗ f x) =
      poly_plus ◌⊕◌ ◌⊗◌ o e inverse F n (λ x. vanish t x ⊗ (vanish t x ⊗ f x))
      (λ x. vanish t x ⊗ f x) twice
      (poly_at_least (2 ^ t + j) n (λ x. vanish t x ⊗ f x) (omega arith) once) in
      let degree : n ≡ 2 ^ suc t + j = omega (arith, double t) in
      subst (λ (m : ℕ). Poly m (λ x. vanish (suc t) x ⊗ f x)) degree
      (poly_same ◌⊕◌ ◌⊗◌ o e inverse F n
      (λ x. c ⊗ (vanish t x ⊗ (vanish t x ⊗ f x) ⊕ vanish t x ⊗ f x))
      (λ x. vanish (suc t) x ⊗ f x)
      (λ x. sym (by_next (vanish t x) (f x) c))
      (poly_scale ◌⊕◌ ◌⊗◌ o e inverse F n
      (λ x. vanish t x ⊗ (vanish t x ⊗ f x) ⊕ vanish t x ⊗ f x) c sum))

  value_of_zeros : (t : ℕ) (d : ℕ → A) (x : A) → ((j : ℕ) → j < 2 ^ t → d j ≡ o) → value t d x ≡ o
  value_of_zeros zero d x h = h 0 (omega arith)
  value_of_zeros (suc t) d x h =
      let R = F.ring in
      ap₂ (λ y z. y ⊕ vanish t x ⊗ z)
      (value_of_zeros t d x (λ j l. h j (omega (arith, l, double t))))
      (value_of_zeros t (λ j. d (2 ^ t + j)) x
      (λ j l. h (2 ^ t + j) (omega (arith, l, double t))))
      ∙ zero_plus ◌⊕◌ ◌⊗◌ o e R (vanish t x ⊗ o) ∙ times_zero ◌⊕◌ ◌⊗◌ o e R (vanish t x)

  -- where the coefficients from k on are zero, the sum is a polynomial below degree k
  pub value_poly : (t k : ℕ) (d : ℕ → A) → ((j : ℕ) → k ≤ j → j < 2 ^ t → d j ≡ o)
      → Poly k (λ x. value t d x)
  value_poly zero zero d h = λ x. h 0 (omega arith) (omega arith)
  value_poly zero (suc k) d h = (
    d 0,
    λ x. o,
    λ x. sym
        (ap (λ y. d 0 ⊕ y) (times_zero ◌⊕◌ ◌⊗◌ o e F.ring x) ∙ F.ring.plus_zero (d 0)),
    poly_zero ◌⊕◌ ◌⊗◌ o e inverse F k,
  )
  value_poly (suc t) k d h =
      let R = F.ring in
      let low : A → A = λ x. value t d x in
      let high : A → A = λ x. value t (λ j. d (2 ^ t + j)) x in
      ⊎_elim
      (λ few.
      poly_same ◌⊕◌ ◌⊗◌ o e inverse F k low (λ x. value (suc t) d x)
      (λ x. ap (λ y. low x ⊕ vanish t x ⊗ y)
      (value_of_zeros t (λ j. d (2 ^ t + j)) x
      (λ j l. h (2 ^ t + j) (omega (arith, few)) (omega (arith, l, double t))))
      ∙ ap (λ y. low x ⊕ y) (times_zero ◌⊕◌ ◌⊗◌ o e R (vanish t x)) ∙ R.plus_zero (low x))
      (value_poly t k d (λ j g l. h j g (omega (arith, l, double t)))))
      (λ more.
      let whole : 2 ^ t + (k - 2 ^ t) ≡ k = omega (arith, more) in
      poly_plus ◌⊕◌ ◌⊗◌ o e inverse F k low (λ x. vanish t x ⊗ high x)
      (poly_at_least (2 ^ t) k low (omega (arith, more))
      (value_poly t (2 ^ t) d (λ j g l. absurd (omega (arith, g, l)))))
      (subst (λ (m : ℕ). Poly m (λ x. vanish t x ⊗ high x)) whole
      (vanish_times t (k - 2 ^ t) high
      (value_poly t (k - 2 ^ t) (λ j. d (2 ^ t + j))
      (λ j g l. h (2 ^ t + j) (omega (arith, g, more)) (omega (arith, l, double t)))))))
      (few_or_more k (2 ^ t))

  -- so it is the polynomial through its values on the numbers below k
  pub value_through : (t k : ℕ) (d v : ℕ → A) → k ≤ 2 ^ limit →
      ((j : ℕ) → k ≤ j → j < 2 ^ t → d j ≡ o) → ((i : ℕ) → i < k → value t d (at i) ≡ v i) →
      (x : A) → value t d x ≡ through ◌⊕◌ ◌⊗◌ o e inverse k at v x
  value_through t k d v small zeros values x =
      let points : AreDistinct k at =
      λ i j hi hj equal. E.distinct i j (omega (arith, hi, small)) (omega (arith, hj, small)) equal in
      sym
      (through_unique ◌⊕◌ ◌⊗◌ o e inverse F k at points (λ y. value t d y) (value_poly t k d zeros) x)
      ∙ total_same ◌⊕◌ ◌⊗◌ o e inverse F ◌⊕◌ o k _ _
      (λ s l. ap (λ y. y ⊗ basis ◌⊕◌ ◌⊗◌ e inverse k at x s) (values s l))
