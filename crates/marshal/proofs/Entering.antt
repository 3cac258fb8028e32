-- A walk that enters what it comes by, down to what stands already.
use Rattle.std.proofs.Common.{◌≡◌, ◌⊎◌, inl, inr, ⊎_elim, ℕ, ◌≤◌, ◌==◌, Bool, true, false, if◌then◌else◌, refl, sym, ◌∙◌, ap, subst, arith, eq-eqb, List, Option, Some, None, option_and_then}
use Rattle.std.specs.Cmp.{unsigned_ties}
use Rattle.std.specs.Ordering.{is_eq, nat_cmp}
use Rattle.std.proofs.lemmas.Bool.{cases_Bool, cases_eq, cond-false, cond-true, eqb-true}
use Rattle.std.proofs.lemmas.Option.{none-some, same_Some}
use Rattle.cw_types.specs.Block.{Block}
use Rattle.cw_types.specs.declared.commitment.Commitment.{Commitment}
use Rattle.cw_types.specs.declared.note.Note.{Note}
use Rattle.cw_rules.specs.Held.{parent_of, reached}
use Rattle.cw_rules.specs.Rules.{Rules}
use Rattle.marshal.specs.Heights.{IsWalked, there}
use Rattle.marshal.proofs.Down.{goes_down}
use Rattle.marshal.proofs.Growing.{parent_is, reached_low, reaches_itself}

abbrev pub Entries : Type 0
Entries = List (ℕ × Commitment)

-- one entry more
abbrev pub IsPut : ℕ → Commitment → Entries → Entries → Type 0
IsPut height c old new =
    (h : ℕ) → there h new ≡ (if is_eq (nat_cmp height h) then Some c else there h old)

pub test_apart : (a b : ℕ) → (a ≡ b → ⊥) → (a == b) ≡ false
test_apart a b apart =
    ⊎_elim (λ t. absurd (apart (eqb-true a b t))) (λ f. f) (cases_Bool (a == b))

pub other_height : (h k : ℕ) → (h ≡ k → ⊥) → is_eq (nat_cmp h k) ≡ false
other_height h k apart = sym (unsigned_ties h k) ∙ test_apart h k apart

pub same_height : (k : ℕ) → is_eq (nat_cmp k k) ≡ true
same_height k = sym (unsigned_ties k k) ∙ eq-eqb k k refl

pub put_other : (height : ℕ) (c : Commitment) (old new : Entries) → IsPut height c old new
    → (h : ℕ) → (h ≡ height → ⊥) → there h new ≡ there h old
put_other height c old new puts h apart =
    puts h
    ∙ cond-false (is_eq (nat_cmp height h)) (Some c) (there h old)
    (other_height height h (λ e. apart (sym e)))

pub put_same : (height : ℕ) (c : Commitment) (old new : Entries) → IsPut height c old new
    → there height new ≡ Some c
put_same height c old new puts =
    puts height ∙ cond-true (is_eq (nat_cmp height height)) (Some c) (there height old)
    (same_height height)

-- a block that isn't of the height, on from its parent
pub on_from : (r : Rules) (notes : List Note) (h : ℕ) (c : Commitment) (x a : Block)
    → parent_of r notes x ≡ Some a → h ≤ a.height
    → reached r notes x.height h c x ≡ reached r notes a.height h x.context.parent a
on_from r notes h c x a p le =
    let up = (parent_is r notes x a p).1 in
    let other : (x.height == h) ≡ false =
    test_apart x.height h (λ e. omega (arith, e, up, le)) in
    goes_down r notes h c x other
    ∙ ap (option_and_then (λ (y : Block). reached r notes y.height h x.context.parent y)) p

module _ (r : Rules) (notes : List Note) (c : Commitment) (b : Block) (old : Entries) where
  -- how far a walk came: what it reaches is there, or is reached by what is next
  pub record Entering (below : Commitment) (next : Option Block) (at : Entries) : Type 0 where
    pub kept : (h : ℕ) (d : Commitment) → there h old ≡ Some d → there h at ≡ Some d
    pub sound : (h : ℕ) (d : Commitment) → there h at ≡ Some d
        → (there h old ≡ Some d) ⊎ (reached r notes b.height h c b ≡ Some d)
    pub left : (h : ℕ) (d : Commitment) → reached r notes b.height h c b ≡ Some d
        → (there h at ≡ Some d)
        ⊎ (option_and_then (λ a. reached r notes a.height h below a) next ≡ Some d)
    pub here : (a : Block) (h : ℕ) → next ≡ Some a → h ≤ a.height
        → reached r notes b.height h c b ≡ reached r notes a.height h below a
    pub apart : (a : Block) (h : ℕ) → next ≡ Some a → h ≤ a.height → there h at ≡ there h old

  pub entering : Entering c (Some b) old
  entering = record {
    kept = λ h d e. e;
    sound = λ h d e. inl e;
    left = λ h d e. inr e;
    here = λ a h e le.
        ap (λ (x : Block). reached r notes x.height h c x) (same_Some b a e);
    apart = λ a h e le. refl;
  }

  module _ (below : Commitment) (x : Block) (at : Entries)
      (is : Entering below (Some x) at) where
    -- what stands at the height ends it
    pub entered_there : there x.height at ≡ Some below → IsWalked r notes c b old at
    entered_there stands = record {
      kept = is.kept;
      sound = is.sound;
      whole = λ h d e. ⊎_elim (λ l. inl l) (λ f. inr (by h d f)) (is.left h d e);
    }
      where
        by : (h : ℕ) (d : Commitment) → reached r notes x.height h below x ≡ Some d
            → (k : ℕ) × (e : Commitment) × (h ≤ k) × (there k old ≡ Some e)
            × (reached r notes b.height k c b ≡ Some e)
        by h d f = (
          x.height,
          below,
          reached_low r notes x.height h below x d f,
          sym (is.apart x x.height refl (omega arith)) ∙ stands,
          is.here x x.height refl (omega arith)
              ∙ reaches_itself r notes x.height x.height below x (eq-eqb x.height x.height refl),
        )

    module _ (new : Entries) (fresh : there x.height at ≡ None) (puts : IsPut x.height below at new)
        (lower : Commitment) (lower_is : lower ≡ x.context.parent) (next : Option Block)
        (next_is : next ≡ parent_of r notes x) where
      apart_of : (h : ℕ) (d : Commitment) → there h at ≡ Some d → h ≡ x.height → ⊥
      apart_of h d e same =
          none-some d (sym fresh ∙ ap (λ (k : ℕ). there k at) (sym same) ∙ e)

      keeps : (h : ℕ) (d : Commitment) → there h at ≡ Some d → there h new ≡ Some d
      keeps h d e = put_other x.height below at new puts h (apart_of h d e) ∙ e

      here_on : (a : Block) (h : ℕ) → next ≡ Some a → h ≤ a.height
          → reached r notes b.height h c b ≡ reached r notes a.height h lower a
      here_on a h e le =
          let p = sym next_is ∙ e in
          let up = (parent_is r notes x a p).1 in
          is.here x h refl (omega (arith, le, up))
          ∙ (on_from r notes h below x a p le
          ∙ ap (λ (k : Commitment). reached r notes a.height h k a) (sym lower_is))

      sound_on : (h : ℕ) (d : Commitment) → there h new ≡ Some d
          → (there h old ≡ Some d) ⊎ (reached r notes b.height h c b ≡ Some d)
      sound_on h d e = go (cases_eq h x.height)
        where
          go : (h ≡ x.height) ⊎ (h ≡ x.height → ⊥)
              → (there h old ≡ Some d) ⊎ (reached r notes b.height h c b ≡ Some d)
          go (inl same) =
              inr
              (is.here x h refl (omega (arith, same))
              ∙ (reaches_itself r notes x.height h below x (eq-eqb x.height h (sym same))
              ∙ (sym (put_same x.height below at new puts)
              ∙ (ap (λ (k : ℕ). there k new) (sym same) ∙ e))))
          go (inr other) = is.sound h d (sym (put_other x.height below at new puts h other) ∙ e)

      left_on : (h : ℕ) (d : Commitment) → reached r notes b.height h c b ≡ Some d
          → (there h new ≡ Some d)
          ⊎ (option_and_then (λ a. reached r notes a.height h lower a) next ≡ Some d)
      left_on h d e = ⊎_elim (λ l. inl (keeps h d l)) (λ f. go f (cases_eq h x.height)) (is.left h d e)
        where
          go : reached r notes x.height h below x ≡ Some d
              → (h ≡ x.height) ⊎ (h ≡ x.height → ⊥)
              → (there h new ≡ Some d)
              ⊎ (option_and_then (λ a. reached r notes a.height h lower a) next ≡ Some d)
          go f (inl same) =
              inl
              (ap (λ (k : ℕ). there k new) same
              ∙ (put_same x.height below at new puts
              ∙ (sym (reaches_itself r notes x.height h below x (eq-eqb x.height h (sym same))) ∙ f)))
          go f (inr apart) =
              let other : (x.height == h) ≡ false =
              test_apart x.height h (λ e. apart (sym e)) in
              inr
              (ap (option_and_then (λ (a : Block). reached r notes a.height h lower a)) next_is
              ∙ (ap
              (λ (k : Commitment). option_and_then (λ (a : Block). reached r notes a.height h k a)
              (parent_of r notes x))
              lower_is
              ∙ (sym (goes_down r notes h below x other) ∙ f)))

      pub entering_on : Entering lower next new
      entering_on = record {
        kept = λ h d e. keeps h d (is.kept h d e);
        sound = sound_on;
        left = left_on;
        here = here_on;
        apart = λ a h e le.
            let up = (parent_is r notes x a (sym next_is ∙ e)).1 in
            put_other x.height below at new puts h (λ same. absurd (omega (arith, same, le, up)))
            ∙ is.apart x h refl (omega (arith, le, up));
      }

  -- where nothing is next all is there
  pub entered_all : (below : Commitment) (at : Entries) → Entering below None at
      → IsWalked r notes c b old at
  entered_all below at is = record {
    kept = is.kept;
    sound = is.sound;
    whole = λ h d e.
        ⊎_elim (λ l. inl l) (λ f. absurd (none-some d f)) (is.left h d e);
  }

-- ---- by what a call answers

module _ (r : Rules) (notes : List Note) (c : Commitment) (b : Block) (old : Entries)
    (below : Commitment) (x : Block) (at : Entries)
    (is : Entering r notes c b old below (Some x) at) (new : Entries) (height : ℕ)
    (height_is : height ≡ x.height) (fresh : Bool) where
  pub entered_at : fresh ≡ false → (known : Bool) → known ≡ true
      → (fresh ≡ false → known ≡ true → there height at ≡ Some below)
      → (fresh ≡ false → new ≡ at) → IsWalked r notes c b old new
  entered_at stops known is_known stands same =
      subst (IsWalked r notes c b old) (sym (same stops))
      (entered_there r notes c b old below x at is
      (ap (λ (k : ℕ). there k at) (sym height_is)
      ∙ stands stops is_known))

  pub entering_at : fresh ≡ true → (fresh ≡ true → there height at ≡ None)
      → (fresh ≡ true → IsPut height below at new) → (lower : Commitment)
      → lower ≡ x.context.parent → (next : Option Block) → next ≡ parent_of r notes x
      → Entering r notes c b old lower next new
  entering_at goes_on none puts lower lower_is next next_is =
      entering_on r notes c b old below x at is new
      (ap (λ (k : ℕ). there k at) (sym height_is) ∙ none goes_on)
      (subst (λ (k : ℕ). IsPut k below at new) height_is (puts goes_on)) lower
      lower_is next next_is
