-- Where the digests of noted blocks stand, as notes come and go, and what is found by one.
use Rattle.std.proofs.Common.{◌≡◌, ◌⊎◌, inl, inr, ⊎_elim, ℕ, zero, suc, ◌+◌, ◌<◌, ◌≤◌, true, false, cond, refl, sym, ◌∙◌, ap, subst, arith, List, [], ◌∷◌, ◌++◌, length, map, take, drop, Option, Some, None, is_some, option_and_then, slice_get, if◌then◌else◌}
use Rattle.std.specs.List.{position}
use Rattle.std.specs.Map.{lookup}
use Rattle.std.specs.Option.{option_map, option_or}
use Rattle.std.specs.Cmp.{IsTotalOrder, on_total}
use Rattle.std.specs.Cmp.Lexicographic.{nat_list_cmp_total, slice_cmp, texts_ties}
use Rattle.std.specs.Ordering.{is_eq, nat_cmp}
use Rattle.std.specs.declared.cmp.Ordering.{Ordering}
use Rattle.std.proofs.lemmas.Bool.{cases_Bool, cases_lt, cond-false, cond-true, false≢true}
use Rattle.std.proofs.lemmas.Cmp.{eq_by_cmp_equiv}
use Rattle.std.proofs.lemmas.List.{length_push, take-append-drop}
use Rattle.std.proofs.lemmas.Option.{none-some, same_Some, slice_get-map, slice_get_within}
use Rattle.cw_base.specs.declared.hash.Digest32.{Digest32}
use Rattle.cw_types.specs.Block.{Block}
use Rattle.cw_types.specs.Same.{same_digest}
use Rattle.cw_types.specs.declared.commitment.Commitment.{Commitment}
use Rattle.cw_types.specs.declared.note.Note.{Note}
use Rattle.cw_types.proofs.Same.{same_commitment_self, same_digest-true, same_digest_self}
use Rattle.cw_rules.specs.Accepted.{first_some}
use Rattle.cw_rules.specs.Held.{held, noted_block_of}
use Rattle.cw_rules.specs.Notes.{is_block}
use Rattle.cw_rules.specs.Rules.{digest, genesis}
use Rattle.cw_rules.specs.Step.{noted_of}
use Rattle.cw_rules.proofs.Lists.{and_then_some}
use Rattle.marshal.specs.Bare.{bare}
use Rattle.marshal.specs.Digests.{HaveDigests, is_digest, later_place}
use Rattle.marshal.specs.Kept.{note_digest}
use Rattle.marshal.specs.Placed.{HasFirsts, KeepsFirst}
use Rattle.marshal.proofs.Growing.{first_front, held_cases}
use Rattle.marshal.proofs.Placing.{block_at_place, first_same, kept_first, position_more}
use Rattle.marshal.proofs.Reaching.{block_is, end_get, front_get, position_upto, taken}
use Rattle.marshal.proofs.Searching.{skip}

-- the order that is derived: byte by byte
abbrev pub digest_cmp : Digest32 → Digest32 → Ordering
digest_cmp a b = slice_cmp nat_cmp a.0 b.0

pub digests_tie : (a b : Digest32) → same_digest a b ≡ is_eq (digest_cmp a b)
digests_tie a b = texts_ties a.0 b.0

digests_ordered : IsTotalOrder digest_cmp
digests_ordered = on_total (λ (d : Digest32). d.0) nat_list_cmp_total

pub same_digest_symm : (a b : Digest32) → same_digest a b ≡ same_digest b a
same_digest_symm a b =
    digests_tie a b ∙ ((eq_by_cmp_equiv digests_ordered).symm a b ∙ sym (digests_tie b a))

abbrev pub Entries : Type 0
Entries = List (Digest32 × ℕ)

abbrev pub Digests : Type 0
Digests = List (Option Digest32)

-- ---- as notes come and go

module _ (ds : Digests) (first again : Entries) (have : HaveDigests ds first again) where
  -- a digest at the end, the place of which is kept by one of the two
  lasts_more : (d : Digest32) (new more : Entries)
      → length ds ≤ later_place (lookup (same_digest d) new) (lookup (same_digest d) more)
      → ((q : Digest32) → same_digest q d ≡ false
      → (lookup (same_digest q) new ≡ lookup (same_digest q) first)
      × (lookup (same_digest q) more ≡ lookup (same_digest q) again))
      → (q : Digest32) (i : ℕ) → slice_get (ds ++ Some d ∷ []) i ≡ Some (Some q)
      → i ≤ later_place (lookup (same_digest q) new) (lookup (same_digest q) more)
  lasts_more d new more here others q i e =
      go (cases_Bool (same_digest q d))
    where
      inside : i < length ds + 1
      inside =
          let l = slice_get_within (ds ++ Some d ∷ []) i (Some q) e in
          omega (arith, l, length_push ds (Some d))

      go : (same_digest q d ≡ true) ⊎ (same_digest q d ≡ false)
          → i ≤ later_place (lookup (same_digest q) new) (lookup (same_digest q) more)
      go (inl t) =
          let same : q ≡ d = same_digest-true q d t in
          subst
          (λ (k : Digest32).
          i ≤ later_place (lookup (same_digest k) new) (lookup (same_digest k) more))
          (sym same) (omega (arith, inside, here))
      go (inr f) = ⊎_elim
          (λ l.
          let was = have.lasts q i (sym (front_get ds (Some d ∷ []) i l) ∙ e) in
          subst (λ (o : Option ℕ). i ≤ later_place o (lookup (same_digest q) more))
          (sym (others q f).0)
          (subst (λ (o : Option ℕ). i ≤ later_place (lookup (same_digest q) first) o)
          (sym (others q f).1) was))
          (λ g.
          let at : i ≡ length ds = omega (arith, inside, g) in
          let one : Some d ≡ Some q =
          same_Some (Some d) (Some q)
          (sym (end_get ds (Some d)) ∙ (ap (slice_get (ds ++ Some d ∷ [])) (sym at) ∙ e)) in
          let is : d ≡ q = same_Some d q one in
          absurd
          (false≢true
          (sym f ∙ (ap (λ (k : Digest32). same_digest q k) is ∙ same_digest_self q))))
          (cases_lt i (length ds))

  -- one that stood before, of which another map keeps the place
  pub met_again : (d : Digest32) (place : ℕ) (new : Entries)
      → is_some (lookup (same_digest d) first) ≡ true
      → ((q : Digest32) → lookup (same_digest q) new
      ≡ cond (same_digest q d) (Some place) (lookup (same_digest q) again))
      → place ≡ length ds → HaveDigests (ds ++ Some d ∷ []) first new
  met_again d place new there sets at = record {
    firsts =
        kept_first same_digest is_digest first first ds (Some d) d place (λ q. refl) have.firsts
        stays at;
    lasts =
        lasts_more d first new
        (subst
        (λ (o : Option ℕ). length ds ≤ later_place (lookup (same_digest d) first) o)
        (sym (sets d ∙ cond-true (same_digest d d) (Some place) _ (same_digest_self d)))
        (omega (arith, at)))
        (λ q f. (refl, sets q ∙ cond-false (same_digest q d) (Some place) _ f));
  }
    where
      is : (o : Option ℕ) → is_some o ≡ true → o ≡ option_or o (Some place)
      is None h = absurd (false≢true h)
      is (Some i) h = refl

      or_none : (o : Option ℕ) → o ≡ option_or o None
      or_none None = refl
      or_none (Some i) = refl

      stays : KeepsFirst same_digest d place first first
      stays q = go (cases_Bool (same_digest q d))
        where
          go : (same_digest q d ≡ true) ⊎ (same_digest q d ≡ false)
              → lookup (same_digest q) first
              ≡ option_or (lookup (same_digest q) first)
              (if same_digest q d then Some place else None)
          go (inl t) =
              let same : q ≡ d = same_digest-true q d t in
              rw t
              (is (lookup (same_digest q) first)
              (ap (λ (k : Digest32). is_some (lookup (same_digest k) first)) same ∙ there))
          go (inr f) = rw f (or_none (lookup (same_digest q) first))

  -- one that is new
  pub met_first : (d : Digest32) (place : ℕ) (new : Entries)
      → lookup (same_digest d) first ≡ None
      → ((q : Digest32) → lookup (same_digest q) new
      ≡ cond (same_digest q d) (Some place) (lookup (same_digest q) first))
      → place ≡ length ds → HaveDigests (ds ++ Some d ∷ []) new again
  met_first d place new none sets at = record {
    firsts =
        kept_first same_digest is_digest first new ds (Some d) d place (λ q. refl) have.firsts
        kept at;
    lasts =
        lasts_more d new again
        (subst
        (λ (o : Option ℕ). length ds ≤ later_place o (lookup (same_digest d) again))
        (sym here) (omega (arith, at)))
        (λ q f. (other q f, refl));
  }
    where
      or_none : (o : Option ℕ) → o ≡ option_or o None
      or_none None = refl
      or_none (Some i) = refl

      kept : KeepsFirst same_digest d place first new
      kept q = sets q ∙ go (cases_Bool (same_digest q d))
        where
          go : (same_digest q d ≡ true) ⊎ (same_digest q d ≡ false)
              → cond (same_digest q d) (Some place) (lookup (same_digest q) first)
              ≡ option_or (lookup (same_digest q) first)
              (if same_digest q d then Some place else None)
          go (inl t) =
              let same : q ≡ d = same_digest-true q d t in
              let nowhere : lookup (same_digest q) first ≡ None =
              ap (λ (k : Digest32). lookup (same_digest k) first) same ∙ none in
              rw (t, nowhere) refl
          go (inr f) = rw f (or_none (lookup (same_digest q) first))

      here : lookup (same_digest d) new ≡ Some place
      here = sets d ∙ cond-true (same_digest d d) (Some place) _ (same_digest_self d)

      other : (q : Digest32) → same_digest q d ≡ false
          → lookup (same_digest q) new ≡ lookup (same_digest q) first
      other q f = sets q ∙ cond-false (same_digest q d) (Some place) _ f

  -- a note of no block
  pub none_met : HaveDigests (ds ++ None ∷ []) first again
  none_met = record {
    firsts = first_same same_digest is_digest first ds None (λ q. refl) have.firsts;
    lasts =
        λ q i e. ⊎_elim
        (λ l. have.lasts q i (sym (front_get ds (None ∷ []) i l) ∙ e))
        (λ g.
        let l = slice_get_within (ds ++ None ∷ []) i (Some q) e in
        let at : i ≡ length ds = omega (arith, l, length_push ds None, g) in
        absurd
        (none-some q
        (same_Some None (Some q)
        (sym (end_get ds None)
        ∙ (ap (slice_get (ds ++ None ∷ [])) (sym at) ∙ e)))))
        (cases_lt i (length ds));
  }

-- without the last
module _ (ds : Digests) (x : Option Digest32) (first new again : Entries)
    (have : HaveDigests (ds ++ x ∷ []) first again)
    (less : HasFirsts same_digest is_digest new ds) where
  pub met_less : HaveDigests ds new again
  met_less = record { firsts = less; lasts = lasts }
    where
      lasts : (q : Digest32) (i : ℕ) → slice_get ds i ≡ Some (Some q)
          → i ≤ later_place (lookup (same_digest q) new) (lookup (same_digest q) again)
      lasts q i e =
          let (j, found, le) = position_upto (is_digest q) ds i (Some q) e (same_digest_self q) in
          let inside = slice_get_within ds i (Some q) e in
          let was = have.lasts q i (front_get ds (x ∷ []) i inside ∙ e) in
          let same : lookup (same_digest q) first ≡ lookup (same_digest q) new =
          have.firsts q
          ∙ (position_more (is_digest q) ds x
          ∙ (ap (λ o. option_or o (if is_digest q x then Some (length ds) else None)) found
          ∙ (sym found ∙ sym (less q)))) in
          subst (λ (o : Option ℕ). i ≤ later_place o (lookup (same_digest q) again)) same was

-- ---- searches

first_at : {X Y : Type 0} (f : X → Option Y) (xs : List X) (y : Y) → first_some f xs ≡ Some y
    → (i : ℕ) × (x : X) × (slice_get xs i ≡ Some x) × (f x ≡ Some y)
first_at f [] y e = absurd (none-some y e)
first_at {X} {Y} f (x ∷ xs) y e = go (f x) refl e (first_at f xs y)
  where
    go : (o : Option Y) → f x ≡ o → option_or o (first_some f xs) ≡ Some y
        → (first_some f xs ≡ Some y
        → (i : ℕ) × (z : X) × (slice_get xs i ≡ Some z) × (f z ≡ Some y))
        → (i : ℕ) × (z : X) × (slice_get (x ∷ xs) i ≡ Some z) × (f z ≡ Some y)
    go None is h later = let (i, z, at, found) = later h in (suc i, z, at, found)
    go (Some w) is h later = (0, x, refl, is ∙ h)

or_left : {Y : Type 0} (o p : Option Y) → option_or o p ≡ None → o ≡ None
or_left None p e = refl
or_left (Some y) p e = absurd (none-some y (sym e))

or_right : {Y : Type 0} (o p : Option Y) → option_or o p ≡ None → p ≡ None
or_right None p e = e
or_right (Some y) p e = absurd (none-some y (sym e))

none_at : {X Y : Type 0} (f : X → Option Y) (xs : List X) (i : ℕ) (x : X) → first_some f xs ≡ None
    → slice_get xs i ≡ Some x → f x ≡ None
none_at f [] i x e at = absurd (none-some x at)
none_at f (z ∷ xs) zero x e at =
    ap f (sym (same_Some z x at)) ∙ or_left (f z) (first_some f xs) e
none_at f (z ∷ xs) (suc i) x e at = none_at f xs i x (or_right (f z) (first_some f xs) e) at

get_front : {X : Type 0} (k : ℕ) (xs : List X) (i : ℕ) → i < k
    → slice_get (take k xs) i ≡ slice_get xs i
get_front zero xs i l = absurd (omega (arith, l))
get_front (suc k) [] i l = refl
get_front (suc k) (x ∷ xs) zero l = refl
get_front (suc k) (x ∷ xs) (suc i) l = get_front k xs i (omega (arith, l))

get_whole : {X : Type 0} (k : ℕ) (xs : List X) (i : ℕ) (x : X)
    → slice_get (take k xs) i ≡ Some x → slice_get xs i ≡ Some x
get_whole zero xs i x e = absurd (none-some x e)
get_whole (suc k) [] i x e = e
get_whole (suc k) (y ∷ xs) zero x e = e
get_whole (suc k) (y ∷ xs) (suc i) x e = get_whole k xs i x e

-- ---- what is found by a digest

module _ (hash : List ℕ → Digest32) (notes : List Note) (d : Digest32)
    (other : same_digest (digest (bare hash) (genesis (bare hash))) d ≡ false) where
  abbrev found : Note → Option Commitment
  found = noted_of (bare hash) notes d

  abbrev digests : Digests
  digests = map (note_digest hash) notes

  -- what a note is that is found
  is_held : (note : Note) (c : Commitment) → found note ≡ Some c
      → (b a : Block) × (note ≡ Note.Block c b) × (held (bare hash) notes c ≡ Some a)
      × (same_digest (digest (bare hash) a) d ≡ true)
  is_held (Note.Block k b) c e =
      let (a, holds, is) =
      and_then_some (λ x. if same_digest (digest (bare hash) x) d then Some k else None)
      (held (bare hash) notes k) c e in
      by a holds (cases_Bool (same_digest (digest (bare hash) a) d)) is
    where
      by : (a : Block) → held (bare hash) notes k ≡ Some a
          → (same_digest (digest (bare hash) a) d ≡ true)
          ⊎ (same_digest (digest (bare hash) a) d ≡ false)
          → (if same_digest (digest (bare hash) a) d then Some k else None) ≡ Some c
          → (y x : Block) × (Note.Block k b ≡ Note.Block c y) × (held (bare hash) notes c ≡ Some x)
          × (same_digest (digest (bare hash) x) d ≡ true)
      by a holds (inl t) is =
          let same : k ≡ c = same_Some k c (sym (cond-true _ (Some k) None t) ∙ is) in (
            b,
            a,
            ap (λ (z : Commitment). Note.Block z b) same,
            ap (held (bare hash) notes) (sym same) ∙ holds,
            t,
          )
      by a holds (inr f) is = absurd (none-some c (sym (cond-false _ (Some k) None f) ∙ is))
  is_held (Note.Verified x v k) c e = absurd (none-some c e)
  is_held (Note.Certified p) c e = absurd (none-some c e)
  is_held (Note.Vote v) c e = absurd (none-some c e)
  is_held (Note.Cert s) c e = absurd (none-some c e)
  is_held (Note.Ack k) c e = absurd (none-some c e)
  is_held (Note.Floor k) c e = absurd (none-some c e)
  is_held (Note.Prune k) c e = absurd (none-some c e)
  is_held (Note.Epoch x k) c e = absurd (none-some c e)

  -- a note that is found has the first of its commitment no later, which is found so and has the
  -- digest
  earlier : (i : ℕ) (note : Note) (c : Commitment) → slice_get notes i ≡ Some note
      → found note ≡ Some c
      → (j : ℕ) × (n : Note) × (j ≤ i) × (slice_get notes j ≡ Some n) × (found n ≡ Some c)
      × (slice_get digests j ≡ Some (Some d))
  earlier i note c at is =
      let (b, a, note_is, holds, same) = is_held note c is in
      ⊎_elim
      (λ g.
      absurd
      (false≢true
      (sym other
      ∙ (ap (λ (x : Block). same_digest (digest (bare hash) x) d) (sym g.1) ∙ same))))
      (λ h. by b a note_is holds same h.1)
      (held_cases (bare hash) notes c a holds)
    where
      by : (b a : Block) → note ≡ Note.Block c b → held (bare hash) notes c ≡ Some a
          → same_digest (digest (bare hash) a) d ≡ true
          → first_some (noted_block_of c) notes ≡ Some a
          → (j : ℕ) × (n : Note) × (j ≤ i) × (slice_get notes j ≡ Some n) × (found n ≡ Some c)
          × (slice_get digests j ≡ Some (Some d))
      by b a note_is holds same first =
          let (j, place, there) =
          and_then_some (λ k. option_and_then (noted_block_of c) (slice_get notes k))
          (position (is_block c) notes) a (sym (block_at_place c notes) ∙ first) in
          let (n, stands, block) = and_then_some (noted_block_of c) (slice_get notes j) a there in
          let (k, n_is, k_is) = block_is c n a block in
          let passes : is_block c note ≡ true =
          ap (is_block c) note_is ∙ same_commitment_self c in
          let (m, m_place, le) = position_upto (is_block c) notes i note at passes in
          let one : m ≡ j = same_Some m j (sym m_place ∙ place) in
          let whole : n ≡ Note.Block c a =
          n_is ∙ ap (λ (z : Commitment). Note.Block z a) (sym k_is) in
          let is_digest : digest (bare hash) a ≡ d =
          same_digest-true (digest (bare hash) a) d same in (
            j,
            n,
            omega (arith, le, one),
            stands,
            ap found whole
                ∙ (ap
                (option_and_then
                (λ x. if same_digest (digest (bare hash) x) d then Some c else None))
                holds
                ∙ cond-true (same_digest (digest (bare hash) a) d) (Some c) None same),
            slice_get-map (note_digest hash) notes j
                ∙ (ap (option_map (note_digest hash)) stands
                ∙ (ap (λ (z : Note). Some (note_digest hash z)) whole
                ∙ ap (λ (z : Digest32). Some (Some z)) is_digest)),
          )

  module _ (first again : Entries) (have : HaveDigests digests first again) where
    -- nowhere, where the digest doesn't stand
    pub found_nowhere : lookup (same_digest d) first ≡ None
        → None ≡ first_some found notes
    found_nowhere none = go (first_some found notes) refl
      where
        go : (o : Option Commitment) → first_some found notes ≡ o → None ≡ o
        go None e = refl
        go (Some c) e =
            let (i, x, at, is) = first_at found notes c e in
            let (j, n, le, stands, same, there) = earlier i x c at is in
            let (k, place, low) =
            position_upto (is_digest d) digests j (Some d) there (same_digest_self d) in
            absurd (none-some k (sym none ∙ (have.firsts d ∙ place)))

    -- not before the first place, and behind the last no more
    pub found_between : (place last : ℕ) → lookup (same_digest d) first ≡ Some place
        → last ≡ later_place (Some place) (lookup (same_digest d) again)
        → first_some found (drop place (take (last + 1) notes)) ≡ first_some found notes
    found_between place last is last_is =
        skip found place front
        (taken (λ x. found x ≡ None) place front (λ i x l e. none_before i x l e))
        ∙ whole
      where
        front : List Note
        front = take (last + 1) notes

        -- where the first of its commitment stands that a found note has
        span : (j : ℕ) → slice_get digests j ≡ Some (Some d) → (place ≤ j) × (j ≤ last)
        span j there =
            let (k, at, low) =
            position_upto (is_digest d) digests j (Some d) there (same_digest_self d) in
            let one : k ≡ place = same_Some k place (sym at ∙ (sym (have.firsts d) ∙ is)) in
            let high : j ≤ later_place (Some place) (lookup (same_digest d) again) =
            subst (λ (o : Option ℕ). j ≤ later_place o (lookup (same_digest d) again)) is
            (have.lasts d j there) in
            (omega (arith, low, one), omega (arith, high, last_is))

        none_before : (i : ℕ) (x : Note) → i < place → slice_get front i ≡ Some x
            → found x ≡ None
        none_before i x l e = go (found x) refl
          where
            go : (o : Option Commitment) → found x ≡ o → found x ≡ None
            go None h = h
            go (Some c) h =
                let (j, n, le, stands, same, there) =
                earlier i x c (get_whole (last + 1) notes i x e) h in
                absurd (omega (arith, l, le, (span j there).0))

        whole : first_some found front ≡ first_some found notes
        whole = go (first_some found front) refl
          where
            none : first_some found front ≡ None → (o : Option Commitment)
                → first_some found notes ≡ o → None ≡ o
            none empty None e = refl
            none empty (Some c) e =
                let (i, x, at, h) = first_at found notes c e in
                let (j, n, le, stands, same, there) = earlier i x c at h in
                let inside = get_front (last + 1) notes j (omega (arith, (span j there).1)) in
                absurd
                (none-some c (sym (none_at found front j n empty (inside ∙ stands)) ∙ same))

            go : (o : Option Commitment) → first_some found front ≡ o
                → o ≡ first_some found notes
            go None e = none e (first_some found notes) refl
            go (Some c) e =
                sym
                (first_front found front (drop (last + 1) notes) c e)
                ∙ ap (first_some found) (take-append-drop (last + 1) notes)

-- ---- where the two places of a digest are

abbrev pub span_of : Option ℕ → Option ℕ → Option (ℕ × ℕ)
span_of again first = option_map (λ (f : ℕ). (f, later_place (Some f) again)) first

pub span_is : (first again : Option ℕ) (p : ℕ × ℕ) → Some p ≡ span_of again first
    → (first ≡ Some p.0) × (p.1 ≡ later_place (Some p.0) again)
span_is None again p e = absurd (none-some p (sym e))
span_is (Some f) again p e =
    let found : ℕ × ℕ = (f, later_place (Some f) again) in
    let same : found ≡ p = same_Some found p (sym e) in
    let is : f ≡ p.0 = ap (λ (x : ℕ × ℕ). x.0) same in
    let last : later_place (Some f) again ≡ p.1 = ap (λ (x : ℕ × ℕ). x.1) same in
    (ap Some is, sym last ∙ ap (λ (n : ℕ). later_place (Some n) again) is)

pub span_none : (first again : Option ℕ) → None ≡ span_of again first → first ≡ None
span_none None again e = refl
span_none (Some f) again e =
    let found : ℕ × ℕ = (f, later_place (Some f) again) in
    absurd (none-some found e)
