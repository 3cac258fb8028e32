-- What was held and reached stays so while notes are added, until it is pruned.
use Rattle.std.proofs.Common.{◌≡◌, ◌⊎◌, inl, inr, ℕ, zero, suc, ◌+◌, ◌≤◌, ◌==◌, ◌&&◌, Bool, true, false, if◌then◌else◌, nat_lt, List, [], ◌∷◌, ◌++◌, Option, Some, None, option_and_then, refl, sym, ◌∙◌, ap, subst, arith, ltb-true, eq-eqb}
use Rattle.std.specs.List.{filter_map}
use Rattle.std.specs.Option.{option_or}
use Rattle.std.proofs.lemmas.Bool.{and_parts, cases_Bool, cond-false, cond-true, eqb-true}
use Rattle.std.proofs.lemmas.Option.{none-some, same_Some}
use Rattle.cw_types.specs.Block.{Block}
use Rattle.cw_types.specs.Same.{same_commitment}
use Rattle.cw_types.specs.declared.commitment.Commitment.{Commitment}
use Rattle.cw_types.specs.declared.note.Note.{Note}
use Rattle.cw_types.specs.declared.vote.Proposal.{Proposal}
use Rattle.cw_rules.specs.Accepted.{first_some}
use Rattle.cw_rules.specs.Held.{finalization_of, greatest_prune, held, noted_block_of, parent_of, reached}
use Rattle.cw_rules.specs.Notes.{has_block}
use Rattle.cw_rules.specs.Reached.{In}
use Rattle.cw_rules.specs.Rules.{Rules, genesis, genesis_commitment}
use Rattle.cw_rules.proofs.Lists.{and_then_some, in_left}
use Rattle.marshal.specs.Bare.{reached_by}
use Rattle.marshal.specs.Promises.{IsReached, IsUnpruned}

-- ---- searches

-- what is found is found at an element
pub first_in : {X Y : Type 0} (f : X → Option Y) (xs : List X) (y : Y) → first_some f xs ≡ Some y
    → (x : X) × In x xs × (f x ≡ Some y)
first_in f [] y e = absurd (none-some y e)
first_in {X} {Y} f (x ∷ xs) y e = go (f x) refl e (first_in f xs y)
  where
    go : (o : Option Y) → f x ≡ o → option_or o (first_some f xs) ≡ Some y
        → (first_some f xs ≡ Some y → (z : X) × In z xs × (f z ≡ Some y))
        → (z : X) × In z (x ∷ xs) × (f z ≡ Some y)
    go None is h later = let (z, inside, found) = later h in (z, inr inside, found)
    go (Some w) is h later = (x, inl refl, is ∙ h)

-- what is found in front is found in all
pub first_front : {X Y : Type 0} (f : X → Option Y) (xs ys : List X) (y : Y)
    → first_some f xs ≡ Some y → first_some f (xs ++ ys) ≡ Some y
first_front f [] ys y e = absurd (none-some y e)
first_front {Y = Y} f (x ∷ xs) ys y e = go (f x) e (first_front f xs ys y)
  where
    go : (o : Option Y) → option_or o (first_some f xs) ≡ Some y
        → (first_some f xs ≡ Some y → first_some f (xs ++ ys) ≡ Some y)
        → option_or o (first_some f (xs ++ ys)) ≡ Some y
    go None h later = later h
    go (Some w) h later = h

-- where nothing is found in front, what is found behind is found
pub first_behind : {X Y : Type 0} (f : X → Option Y) (xs ys : List X) → first_some f xs ≡ None
    → first_some f (xs ++ ys) ≡ first_some f ys
first_behind f [] ys e = refl
first_behind {Y = Y} f (x ∷ xs) ys e = go (f x) e (first_behind f xs ys)
  where
    go : (o : Option Y) → option_or o (first_some f xs) ≡ None
        → (first_some f xs ≡ None → first_some f (xs ++ ys) ≡ first_some f ys)
        → option_or o (first_some f (xs ++ ys)) ≡ first_some f ys
    go None h later = later h
    go (Some w) h later = absurd (none-some w (sym h))

-- what is found by one test is found by another in a longer list, where the other says the same of
-- the front
pub first_same : {X Y : Type 0} (f g : X → Option Y) (y : Y) (xs ys : List X)
    → ((x : X) → In x xs → f x ≡ None → g x ≡ None)
    → ((x : X) → In x xs → f x ≡ Some y → g x ≡ Some y) → first_some f xs ≡ Some y
    → first_some g (xs ++ ys) ≡ Some y
first_same f g y [] ys none some e = absurd (none-some y e)
first_same {X} {Y} f g y (x ∷ xs) ys none some e =
    go (f x) refl e (first_same f g y xs ys (λ z i. none z (inr i)) (λ z i. some z (inr i)))
  where
    go : (o : Option Y) → f x ≡ o → option_or o (first_some f xs) ≡ Some y
        → (first_some f xs ≡ Some y → first_some g (xs ++ ys) ≡ Some y)
        → first_some g ((x ∷ xs) ++ ys) ≡ Some y
    go None is h later =
        ap (λ o. option_or o (first_some g (xs ++ ys))) (none x (inl refl) is) ∙ later h
    go (Some w) is h later =
        ap (λ o. option_or o (first_some g (xs ++ ys))) (some x (inl refl) (is ∙ h))

pub filter_map_both : {X Y : Type 0} (f : X → Option Y) (xs ys : List X)
    → filter_map f (xs ++ ys) ≡ filter_map f xs ++ filter_map f ys
filter_map_both f [] ys = refl
filter_map_both {Y = Y} f (x ∷ xs) ys = go (f x) refl (filter_map_both f xs ys)
  where
    go : (o : Option Y) → f x ≡ o → filter_map f (xs ++ ys) ≡ filter_map f xs ++ filter_map f ys
        → filter_map f ((x ∷ xs) ++ ys) ≡ filter_map f (x ∷ xs) ++ filter_map f ys
    go None e more = rw e more
    go (Some y) e more = rw e (ap (λ l. y ∷ l) more)

-- ---- noted blocks

-- where no block is found under c none is noted
pub none_noted : (c : Commitment) (notes : List Note) → first_some (noted_block_of c) notes ≡ None
    → has_block notes c ≡ false
none_noted c [] e = refl
none_noted c (Note.Block d b ∷ notes) e = go (cases_Bool (same_commitment c d)) (none_noted c notes)
  where
    go : (same_commitment c d ≡ true) ⊎ (same_commitment c d ≡ false)
        → (first_some (noted_block_of c) notes ≡ None → has_block notes c ≡ false)
        → has_block (Note.Block d b ∷ notes) c ≡ false
    go (inl t) later =
        absurd
        (none-some b
        (sym e
        ∙ ap (λ o. option_or o (first_some (noted_block_of c) notes))
        (cond-true (same_commitment c d) (Some b) None t)))
    go (inr f) later =
        rw f
        (later
        (sym
        (ap (λ o. option_or o (first_some (noted_block_of c) notes))
        (cond-false (same_commitment c d) (Some b) None f))
        ∙ e))
none_noted c (Note.Verified x v d ∷ notes) e = none_noted c notes e
none_noted c (Note.Certified p ∷ notes) e = none_noted c notes e
none_noted c (Note.Vote v ∷ notes) e = none_noted c notes e
none_noted c (Note.Cert s ∷ notes) e = none_noted c notes e
none_noted c (Note.Ack h ∷ notes) e = none_noted c notes e
none_noted c (Note.Floor h ∷ notes) e = none_noted c notes e
none_noted c (Note.Prune h ∷ notes) e = none_noted c notes e
none_noted c (Note.Epoch x d ∷ notes) e = none_noted c notes e

-- ---- what is held

-- the test of what is let go
abbrev pub is_gone : List Note → Block → Bool
is_gone notes b = nat_lt 0 b.height && nat_lt b.height (greatest_prune notes)

pub not_gone : (notes : List Note) (b : Block) → IsUnpruned notes b.height → is_gone notes b ≡ false
not_gone notes b is = go (cases_Bool (is_gone notes b)) is
  where
    go : (is_gone notes b ≡ true) ⊎ (is_gone notes b ≡ false) → IsUnpruned notes b.height
        → is_gone notes b ≡ false
    go (inr f) is = f
    go (inl t) (inl first) =
        let parts = and_parts (nat_lt 0 b.height) (nat_lt b.height (greatest_prune notes)) t in
        absurd (omega (arith, ltb-true 0 b.height parts.0, first))
    go (inl t) (inr high) =
        let parts = and_parts (nat_lt 0 b.height) (nat_lt b.height (greatest_prune notes)) t in
        absurd (omega (arith, ltb-true b.height (greatest_prune notes) parts.1, high))

-- a noted block, unless it is let go
abbrev pub unless_gone : List Note → Block → Option Block
unless_gone notes b = if is_gone notes b then None else Some b

module _ (r : Rules) where
  -- how a block is held: it is genesis, or noted first under its commitment
  pub held_cases : (notes : List Note) (c : Commitment) (b : Block) → held r notes c ≡ Some b
      → ((same_commitment c (genesis_commitment r) ≡ true) × (b ≡ genesis r))
      ⊎ ((same_commitment c (genesis_commitment r) ≡ false)
      × (first_some (noted_block_of c) notes ≡ Some b))
  held_cases notes c b e = go (cases_Bool (same_commitment c (genesis_commitment r)))
    where
      found : Option Block
      found = option_and_then (unless_gone notes) (first_some (noted_block_of c) notes)

      same : (x : Block) → unless_gone notes x ≡ Some b → x ≡ b
      same x u = by (cases_Bool (is_gone notes x))
        where
          by : (is_gone notes x ≡ true) ⊎ (is_gone notes x ≡ false) → x ≡ b
          by (inl t) = absurd (none-some b (sym (cond-true (is_gone notes x) None (Some x) t) ∙ u))
          by (inr f) = same_Some x b (sym (cond-false (is_gone notes x) None (Some x) f) ∙ u)

      go : (same_commitment c (genesis_commitment r) ≡ true)
          ⊎ (same_commitment c (genesis_commitment r) ≡ false)
          → ((same_commitment c (genesis_commitment r) ≡ true) × (b ≡ genesis r))
          ⊎ ((same_commitment c (genesis_commitment r) ≡ false)
          × (first_some (noted_block_of c) notes ≡ Some b))
      go (inl t) =
          inl (
            t,
            sym
                (same_Some (genesis r) b
                (sym
                (cond-true (same_commitment c (genesis_commitment r))
                (Some (genesis r)) found t)
                ∙ e)),
          )
      go (inr f) =
          let (x, p, u) =
          and_then_some (unless_gone notes) (first_some (noted_block_of c) notes) b
          (sym
          (cond-false (same_commitment c (genesis_commitment r)) (Some (genesis r))
          found f)
          ∙ e) in
          inr (f, p ∙ ap Some (same x u))

  -- what is noted first under a commitment that isn't genesis' is held until it is let go
  pub holds_noted : (notes : List Note) (c : Commitment) (b : Block)
      → same_commitment c (genesis_commitment r) ≡ false
      → first_some (noted_block_of c) notes ≡ Some b → IsUnpruned notes b.height
      → held r notes c ≡ Some b
  holds_noted notes c b other noted is =
      cond-false (same_commitment c (genesis_commitment r)) (Some (genesis r))
      (option_and_then (unless_gone notes) (first_some (noted_block_of c) notes)) other
      ∙ ap (option_and_then (unless_gone notes)) noted
      ∙ cond-false (is_gone notes b) None (Some b) (not_gone notes b is)

  module _ (notes more : List Note) where
    pub held_stays : (c : Commitment) (b : Block) → held r notes c ≡ Some b
        → IsUnpruned (notes ++ more) b.height → held r (notes ++ more) c ≡ Some b
    held_stays c b e is = go (held_cases notes c b e)
      where
        go : ((same_commitment c (genesis_commitment r) ≡ true) × (b ≡ genesis r))
            ⊎ ((same_commitment c (genesis_commitment r) ≡ false)
            × (first_some (noted_block_of c) notes ≡ Some b))
            → held r (notes ++ more) c ≡ Some b
        go (inl (t, g)) =
            cond-true (same_commitment c (genesis_commitment r)) (Some (genesis r))
            (option_and_then (unless_gone (notes ++ more))
            (first_some (noted_block_of c) (notes ++ more)))
            t
            ∙ ap Some (sym g)
        go (inr (f, p)) =
            holds_noted (notes ++ more) c b f (first_front (noted_block_of c) notes more b p) is

  -- ---- parents

  -- the parent of a block, where its height is one less
  abbrev pub below : Block → Block → Option Block
  below b a = if a.height + 1 == b.height then Some a else None

  pub below_is : (b a x : Block) → below b a ≡ Some x → (a ≡ x) × (a.height + 1 ≡ b.height)
  below_is b a x u = by (cases_Bool (a.height + 1 == b.height))
    where
      by : ((a.height + 1 == b.height) ≡ true) ⊎ ((a.height + 1 == b.height) ≡ false)
          → (a ≡ x) × (a.height + 1 ≡ b.height)
      by (inl t) = (
        same_Some a x (sym (cond-true (a.height + 1 == b.height) (Some a) None t) ∙ u),
        eqb-true (a.height + 1) b.height t,
      )
      by (inr f) =
          absurd (none-some x (sym (cond-false (a.height + 1 == b.height) (Some a) None f) ∙ u))

  -- what stands under the parent's commitment, and its height
  pub parent_is : (notes : List Note) (b a : Block) → parent_of r notes b ≡ Some a
      → (held r notes b.context.parent ≡ Some a) × (a.height + 1 ≡ b.height)
  parent_is notes b a e =
      let (x, p, u) = and_then_some (below b) (held r notes b.context.parent) a e in
      let is = below_is b x a u in
      (p ∙ ap Some is.0, subst (λ (y : Block). y.height + 1 ≡ b.height) is.0 is.1)

  -- how a block reaches another: it is that one, or its parent reaches it
  abbrev pub Down : List Note → ℕ → ℕ → Commitment → Block → Commitment → Type 0
  Down notes steps h c b d =
      ((b.height == h) ≡ true) × (c ≡ d)
      ⊎ (((b.height == h) ≡ false)
      × ((a : Block) × (parent_of r notes b ≡ Some a)
      × (reached r notes steps h b.context.parent a ≡ Some d)))

  pub reached_cases : (notes : List Note) (steps h : ℕ) (c : Commitment) (b : Block)
      (d : Commitment)
      → reached r notes (suc steps) h c b ≡ Some d → Down notes steps h c b d
  reached_cases notes steps h c b d e = go (cases_Bool (b.height == h))
    where
      on : Option Commitment
      on = option_and_then (reached r notes steps h b.context.parent) (parent_of r notes b)

      go : ((b.height == h) ≡ true) ⊎ ((b.height == h) ≡ false) → Down notes steps h c b d
      go (inl t) = inl (t, same_Some c d (sym (cond-true (b.height == h) (Some c) on t) ∙ e))
      go (inr f) =
          inr (
            f,
            and_then_some (reached r notes steps h b.context.parent) (parent_of r notes b) d
                (sym (cond-false (b.height == h) (Some c) on f) ∙ e),
          )

  pub reached_now : (notes : List Note) (h : ℕ) (c : Commitment) (b : Block) (d : Commitment)
      → reached r notes zero h c b ≡ Some d → ((b.height == h) ≡ true) × (c ≡ d)
  reached_now notes h c b d e = go (cases_Bool (b.height == h))
    where
      go : ((b.height == h) ≡ true) ⊎ ((b.height == h) ≡ false) → ((b.height == h) ≡ true) × (c ≡ d)
      go (inl t) = (t, same_Some c d (sym (cond-true (b.height == h) (Some c) None t) ∙ e))
      go (inr f) = absurd (none-some d (sym (cond-false (b.height == h) (Some c) None f) ∙ e))

  -- a block reaches itself
  pub reaches_itself : (notes : List Note) (steps h : ℕ) (c : Commitment) (b : Block)
      → (b.height == h) ≡ true → reached r notes steps h c b ≡ Some c
  reaches_itself notes zero h c b t = cond-true (b.height == h) (Some c) None t
  reaches_itself notes (suc steps) h c b t =
      cond-true (b.height == h) (Some c)
      (option_and_then (reached r notes steps h b.context.parent) (parent_of r notes b)) t

  -- nothing is reached above a block
  pub reached_low : (notes : List Note) (steps h : ℕ) (c : Commitment) (b : Block) (d : Commitment)
      → reached r notes steps h c b ≡ Some d → h ≤ b.height
  reached_low notes zero h c b d e =
      let is = eqb-true b.height h (reached_now notes h c b d e).0 in omega arith
  reached_low notes (suc steps) h c b d e =
      go (reached_cases notes steps h c b d e) (λ a. reached_low notes steps h b.context.parent a d)
    where
      go : Down notes steps h c b d
          → ((a : Block) → reached r notes steps h b.context.parent a ≡ Some d → h ≤ a.height)
          → h ≤ b.height
      go (inl (t, same)) later = let is = eqb-true b.height h t in omega arith
      go (inr (f, found)) later =
          let (a, p, q) = found in omega (arith, later a q, (parent_is notes b a p).1)

  module _ (notes more : List Note) (h : ℕ) (is : greatest_prune (notes ++ more) ≤ h) where
    -- what isn't below a height that isn't pruned isn't let go
    high : (b : Block) → h ≤ b.height → IsUnpruned (notes ++ more) b.height
    high b le = inr (omega (arith, is))

    pub reached_stays : (steps : ℕ) (c : Commitment) (b : Block) (d : Commitment)
        → reached r notes steps h c b ≡ Some d → reached r (notes ++ more) steps h c b ≡ Some d
    reached_stays zero c b d e = e
    reached_stays (suc steps) c b d e =
        go (reached_cases notes steps h c b d e) (λ a. reached_stays steps b.context.parent a d)
      where
        on : Option Commitment
        on =
            option_and_then (reached r (notes ++ more) steps h b.context.parent)
            (parent_of r (notes ++ more) b)

        same_parent : (a : Block) → parent_of r notes b ≡ Some a → h ≤ a.height
            → parent_of r (notes ++ more) b ≡ Some a
        same_parent a p le =
            let was = parent_is notes b a p in
            let stays = held_stays notes more b.context.parent a was.0 (high a le) in
            ap (option_and_then (below b)) stays
            ∙ cond-true (a.height + 1 == b.height) (Some a) None (by a was.1)
          where
            by : (a : Block) → a.height + 1 ≡ b.height → (a.height + 1 == b.height) ≡ true
            by a q = eq-eqb (a.height + 1) b.height q

        go : Down notes steps h c b d
            → ((a : Block) → reached r notes steps h b.context.parent a ≡ Some d
            → reached r (notes ++ more) steps h b.context.parent a ≡ Some d)
            → reached r (notes ++ more) (suc steps) h c b ≡ Some d
        go (inl (t, same)) later = cond-true (b.height == h) (Some c) on t ∙ ap Some same
        go (inr (f, found)) later =
            let (a, p, q) = found in
            let low = reached_low notes steps h b.context.parent a d q in
            cond-false (b.height == h) (Some c) on f
            ∙ ap (option_and_then (reached r (notes ++ more) steps h b.context.parent))
            (same_parent a p low)
            ∙ later a q

    pub by_stays : (p : Proposal) (c : Commitment) → reached_by r notes h p ≡ Some c
        → reached_by r (notes ++ more) h p ≡ Some c
    by_stays p c e =
        let (b, k, q) =
        and_then_some (λ (b : Block). reached r notes b.height h p.payload b)
        (held r notes p.payload) c e in
        let stays =
        held_stays notes more p.payload b k
        (high b (reached_low notes b.height h p.payload b c q)) in
        ap (option_and_then (λ (x : Block). reached r (notes ++ more) x.height h p.payload x)) stays
        ∙ reached_stays b.height p.payload b c q

    pub is_reached_stays : (c : Commitment) → IsReached r notes h c
        → IsReached r (notes ++ more) h c
    is_reached_stays c (p, inside, e) = (
      p,
      subst (In p) (sym (filter_map_both finalization_of notes more))
          (in_left p (filter_map finalization_of notes) (filter_map finalization_of more)
          inside),
      by_stays p c e,
    )
