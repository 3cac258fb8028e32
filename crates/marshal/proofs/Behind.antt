-- What is reached at each height stays known while a note goes behind the others.
use Rattle.std.proofs.Common.{◌≡◌, ◌⊎◌, inl, inr, ⊎_elim, ℕ, zero, suc, ◌+◌, ◌<◌, ◌≤◌, ◌==◌, ◌&&◌, ◌||◌, Bool, true, false, cond, not, refl, sym, ◌∙◌, ap, subst, arith, eq-eqb, List, [], ◌∷◌, ◌++◌, Option, Some, None, option_and_then}
use Rattle.std.specs.List.{cons_option, filter_map, list_any}
use Rattle.std.specs.Option.{option_map_or, option_or}
use Rattle.std.proofs.lemmas.Bool.{and_parts, cases_Bool, cond-false, cond-true, eqb-true, false≢true}
use Rattle.std.proofs.lemmas.List.{append-nil}
use Rattle.std.proofs.lemmas.Bool.Decides.{nat_tests}
use Rattle.std.proofs.lemmas.Option.{none-some, same_Some}
use Rattle.cw_types.specs.Block.{Block}
use Rattle.cw_types.specs.Same.{same_commitment}
use Rattle.cw_types.specs.declared.commitment.Commitment.{Commitment}
use Rattle.cw_types.specs.declared.note.Note.{Note}
use Rattle.cw_types.specs.declared.vote.Proposal.{Proposal}
use Rattle.cw_types.proofs.Same.{same_commitment-true, same_commitment_self}
use Rattle.cw_rules.specs.Accepted.{first_some}
use Rattle.cw_rules.specs.Held.{finalization_of, greatest_prune, held, noted_block_of, parent_of, pruned_height, reached}
use Rattle.cw_rules.specs.Notes.{greatest, has_block}
use Rattle.cw_rules.specs.Reached.{In}
use Rattle.cw_rules.specs.Rules.{Rules, genesis, genesis_commitment}
use Rattle.cw_rules.proofs.Lists.{first_of_both}
use Rattle.marshal.specs.Bare.{reached_by}
use Rattle.marshal.specs.Heights.{HaveReached, IsWalked, IsReachedOf, becomes_held, is_awaited, is_upper, there}
use Rattle.marshal.specs.Promises.{IsUnpruned}
use Rattle.marshal.specs.Reach.{is_final}
use Rattle.marshal.proofs.Entering.{Entries, on_from, test_apart}
use Rattle.marshal.proofs.Growing.{Down, below, by_stays, filter_map_both, held_cases, held_stays, holds_noted, is_gone, none_noted, not_gone, parent_is, reached_cases, reached_low, reached_stays, reaches_itself, unless_gone}
use Rattle.marshal.proofs.Lookups.{block_by, by_block, entered_whole, through_by}
use Rattle.marshal.proofs.Pruned.{held_high}

-- ---- prunes rise

greatest_both : (xs ys : List ℕ) → greatest xs ≤ greatest (xs ++ ys)
greatest_both [] ys = omega arith
greatest_both (x ∷ xs) ys = let more = greatest_both xs ys in omega (arith, more)

pub prune_rises : (notes more : List Note) → greatest_prune notes ≤ greatest_prune (notes ++ more)
prune_rises notes more =
    subst (λ (xs : List ℕ). greatest_prune notes ≤ greatest xs)
    (sym (filter_map_both pruned_height notes more))
    (greatest_both (filter_map pruned_height notes) (filter_map pruned_height more))

module _ (r : Rules) (notes more : List Note) where
  -- what is held with more notes was held
  abbrev pub Shrinks : Type 0
  Shrinks = (c : Commitment) (b : Block) → held r (notes ++ more) c ≡ Some b
      → held r notes c ≡ Some b

  parent_back : (x a : Block) → held r notes x.context.parent ≡ Some a → a.height + 1 ≡ x.height
      → parent_of r notes x ≡ Some a
  parent_back x a is up =
      ap (option_and_then (below r x)) is
      ∙ cond-true (a.height + 1 == x.height) (Some a) None (eq-eqb (a.height + 1) x.height up)

  on_back : (s h : ℕ) (c : Commitment) (x a : Block) (d : Commitment) → (x.height == h) ≡ false
      → held r notes x.context.parent ≡ Some a → a.height + 1 ≡ x.height
      → reached r notes s h x.context.parent a ≡ Some d → reached r notes (suc s) h c x ≡ Some d
  on_back s h c x a d other is up e =
      cond-false (x.height == h) (Some c)
      (option_and_then (reached r notes s h x.context.parent) (parent_of r notes x)) other
      ∙ (ap (option_and_then (reached r notes s h x.context.parent)) (parent_back x a is up) ∙ e)

  reached_was : Shrinks → (s h : ℕ) (c : Commitment) (b : Block) (d : Commitment)
      → reached r (notes ++ more) s h c b ≡ Some d → reached r notes s h c b ≡ Some d
  reached_was shrinks zero h c b d e = e
  reached_was shrinks (suc s) h c b d e =
      go (reached_cases r (notes ++ more) s h c b d e)
      (λ a q. reached_was shrinks s h b.context.parent a d q)
    where
      go : Down r (notes ++ more) s h c b d
          → ((a : Block) → reached r (notes ++ more) s h b.context.parent a ≡ Some d
          → reached r notes s h b.context.parent a ≡ Some d)
          → reached r notes (suc s) h c b ≡ Some d
      go (inl (t, same)) later = reaches_itself r notes (suc s) h c b t ∙ ap Some same
      go (inr (f, (a, p, q))) later =
          let is = parent_is r (notes ++ more) b a p in
          on_back s h c b a d f (shrinks b.context.parent a is.0) is.1 (later a q)

  module _ (finals : List Proposal) (at : Entries) (have : HaveReached r notes finals at) where
    sound_stays : (h : ℕ) (c : Commitment) → greatest_prune (notes ++ more) ≤ h
        → there h at ≡ Some c → IsReachedOf r (notes ++ more) finals h c
    sound_stays h c high e =
        let rises = prune_rises notes more in
        let (p, inside, by) = have.sound h c (omega (arith, rises, high)) e in
        (p, inside, by_stays r notes more h high p c by)

    -- where nothing more is held all stays
    pub reached_less : Shrinks → HaveReached r (notes ++ more) finals at
    reached_less shrinks = record {
      whole = λ h c x.
          let (b, k, q) = block_by r (notes ++ more) x.0 h c x.2 in
          have.whole h c (
            x.0,
            x.1,
            by_block r notes x.0 b (shrinks x.0.payload b k) h
                ∙ reached_was shrinks b.height h x.0.payload b c q,
          );
      sound = sound_stays;
    }

-- ---- what is held with one note more

no_block : (c : Commitment) (notes : List Note) → has_block notes c ≡ false
    → first_some (noted_block_of c) notes ≡ None
no_block c [] e = refl
no_block c (Note.Block d b ∷ notes) e = go (same_commitment c d) refl (no_block c notes)
  where
    go : (s : Bool) → same_commitment c d ≡ s
        → (has_block notes c ≡ false → first_some (noted_block_of c) notes ≡ None)
        → first_some (noted_block_of c) (Note.Block d b ∷ notes) ≡ None
    go true is later = absurd (false≢true (sym e ∙ ap (λ t. t || has_block notes c) is))
    go false is later =
        ap (λ t. option_or (cond t (Some b) None) (first_some (noted_block_of c) notes)) is
        ∙ later (sym (ap (λ t. t || has_block notes c) is) ∙ e)
no_block c (Note.Verified x v d ∷ notes) e = no_block c notes e
no_block c (Note.Certified p ∷ notes) e = no_block c notes e
no_block c (Note.Vote v ∷ notes) e = no_block c notes e
no_block c (Note.Cert s ∷ notes) e = no_block c notes e
no_block c (Note.Ack h ∷ notes) e = no_block c notes e
no_block c (Note.Floor h ∷ notes) e = no_block c notes e
no_block c (Note.Prune h ∷ notes) e = no_block c notes e
no_block c (Note.Epoch x d ∷ notes) e = no_block c notes e

none_some_end : (c : Commitment) (notes : List Note) (n : Note) (b : Block)
    → first_some (noted_block_of c) (notes ++ n ∷ []) ≡ Some b
    → (first_some (noted_block_of c) notes ≡ Some b)
    ⊎ ((first_some (noted_block_of c) notes ≡ None) × (noted_block_of c n ≡ Some b))
none_some_end c notes n b e =
    go (first_some (noted_block_of c) notes) refl
    (sym (first_of_both (noted_block_of c) notes (n ∷ [])) ∙ e)
  where
    one : (o : Option Block) → option_or o None ≡ Some b → o ≡ Some b
    one None h = absurd (none-some b h)
    one (Some x) h = h

    go : (o : Option Block) → first_some (noted_block_of c) notes ≡ o
        → option_or o (first_some (noted_block_of c) (n ∷ [])) ≡ Some b
        → (first_some (noted_block_of c) notes ≡ Some b)
        ⊎ ((first_some (noted_block_of c) notes ≡ None) × (noted_block_of c n ≡ Some b))
    go None is h = inr (is, one (noted_block_of c n) h)
    go (Some x) is h = inl (is ∙ h)

not_true : (s : Bool) → not s ≡ true → s ≡ false
not_true true e = absurd (false≢true e)
not_true false e = refl

module _ (r : Rules) (notes : List Note) (n : Note) where
  -- what is held with one note more was held, or is the block of that note
  pub record IsLast (c : Commitment) (b : Block) : Type 0 where
    pub noted : noted_block_of c n ≡ Some b
    pub first : first_some (noted_block_of c) notes ≡ None
    pub other : same_commitment c (genesis_commitment r) ≡ false
    pub unpruned : IsUnpruned notes b.height

  unpruned_was : (b : Block) (c : Commitment) → held r (notes ++ n ∷ []) c ≡ Some b
      → IsUnpruned notes b.height
  unpruned_was b c e = go (held_high r (notes ++ n ∷ []) c b e)
    where
      go : (b.height ≡ 0) ⊎ (greatest_prune (notes ++ n ∷ []) ≤ b.height)
          → IsUnpruned notes b.height
      go (inl z) = inl z
      go (inr p) = let rises = prune_rises notes (n ∷ []) in inr (omega (arith, p, rises))

  pub held_one_more : (c : Commitment) (b : Block) → held r (notes ++ n ∷ []) c ≡ Some b
      → (held r notes c ≡ Some b) ⊎ IsLast c b
  held_one_more c b e = go (held_cases r (notes ++ n ∷ []) c b e)
    where
      go : ((same_commitment c (genesis_commitment r) ≡ true) × (b ≡ genesis r))
          ⊎ ((same_commitment c (genesis_commitment r) ≡ false)
          × (first_some (noted_block_of c) (notes ++ n ∷ []) ≡ Some b))
          → (held r notes c ≡ Some b) ⊎ IsLast c b
      go (inl (t, g)) =
          inl
          (cond-true (same_commitment c (genesis_commitment r)) (Some (genesis r))
          (option_and_then (unless_gone notes) (first_some (noted_block_of c) notes)) t
          ∙ ap Some (sym g))
      go (inr (f, p)) =
          ⊎_elim (λ first. inl (holds_noted r notes c b f first (unpruned_was b c e)))
          (λ last. inr (record {
            noted = last.1;
            first = last.0;
            other = f;
            unpruned = unpruned_was b c e;
          }))
          (none_some_end c notes n b p)

-- a note that is no block
pub shrinks_other : (r : Rules) (notes : List Note) (n : Note)
    → ((c : Commitment) → noted_block_of c n ≡ None) → Shrinks r notes (n ∷ [])
shrinks_other r notes n none c b e =
    ⊎_elim (λ l. l) (λ last. absurd (none-some b (sym (none c) ∙ last.noted)))
    (held_one_more r notes n c b e)

-- ---- finalizations of a payload

or_true : (s : Bool) → (s || true) ≡ true
or_true true = refl
or_true false = refl

-- one of them is among the notes
final_any : (notes : List Note) (p : Proposal) (c : Commitment)
    → In p (filter_map finalization_of notes) → p.payload ≡ c → list_any (is_final c) notes ≡ true
final_any [] p c inside same = absurd inside
final_any (n ∷ ns) p c inside same =
    go (finalization_of n) refl (λ i. final_any ns p c i same) inside
  where
    more : (s : Bool) → list_any (is_final c) ns ≡ true → (s || list_any (is_final c) ns) ≡ true
    more true e = refl
    more false e = e

    go : (o : Option Proposal) → finalization_of n ≡ o
        → (In p (filter_map finalization_of ns) → list_any (is_final c) ns ≡ true)
        → In p (cons_option o (filter_map finalization_of ns))
        → list_any (is_final c) (n ∷ ns) ≡ true
    go None is later i = more (is_final c n) (later i)
    go (Some q) is later (inl one) =
        let named : same_commitment c q.payload ≡ true =
        ap (λ (k : Commitment). same_commitment c k)
        (ap (λ (x : Proposal). x.payload) (sym one) ∙ same)
        ∙ same_commitment_self c in
        ap (λ (o : Option Proposal). option_map_or (λ (x : Proposal). same_commitment c x.payload) o false
        || list_any (is_final c) ns)
        is
        ∙ ap (λ s. s || list_any (is_final c) ns) named
    go (Some q) is later (inr i) = more (is_final c n) (later i)

-- and there is one where the test passes
any_final : (notes : List Note) (c : Commitment) → list_any (is_final c) notes ≡ true
    → (p : Proposal) × In p (filter_map finalization_of notes) × (p.payload ≡ c)
any_final [] c e = absurd (false≢true e)
any_final (n ∷ ns) c e = go (finalization_of n) refl (any_final ns c)
  where
    Found : Option Proposal → Type 0
    Found o =
        (p : Proposal) × In p (cons_option o (filter_map finalization_of ns)) × (p.payload ≡ c)

    go : (o : Option Proposal) → finalization_of n ≡ o
        → (list_any (is_final c) ns ≡ true
        → (p : Proposal) × In p (filter_map finalization_of ns) × (p.payload ≡ c))
        → (p : Proposal) × In p (filter_map finalization_of (n ∷ ns)) × (p.payload ≡ c)
    go None is later =
        let (p, i, same) =
        later
        (sym
        (ap (λ (o : Option Proposal). option_map_or (λ (x : Proposal). same_commitment c x.payload) o false
        || list_any (is_final c) ns)
        is)
        ∙ e) in
        subst Found (sym is) (p, i, same)
    go (Some q) is later = by (cases_Bool (same_commitment c q.payload))
      where
        tested : (same_commitment c q.payload || list_any (is_final c) ns) ≡ true
        tested =
            sym
            (ap (λ (o : Option Proposal). option_map_or (λ (x : Proposal). same_commitment c x.payload) o false
            || list_any (is_final c) ns)
            is)
            ∙ e

        by : (same_commitment c q.payload ≡ true) ⊎ (same_commitment c q.payload ≡ false)
            → (p : Proposal) × In p (filter_map finalization_of (n ∷ ns)) × (p.payload ≡ c)
        by (inl t) = subst Found (sym is) (q, inl refl, sym (same_commitment-true c q.payload t))
        by (inr f) =
            let (p, i, same) =
            later (sym (ap (λ s. s || list_any (is_final c) ns) f) ∙ tested) in
            subst Found (sym is) (p, inr i, same)

module _ (r : Rules) (notes : List Note) (c : Commitment) (b : Block) where
  abbrev all : List Note
  all = notes ++ Note.Block c b ∷ []

  is_it : (d : Commitment) (x : Block) → noted_block_of d (Note.Block c b) ≡ Some x
      → (d ≡ c) × (x ≡ b)
  is_it d x e = go (cases_Bool (same_commitment d c))
    where
      go : (same_commitment d c ≡ true) ⊎ (same_commitment d c ≡ false) → (d ≡ c) × (x ≡ b)
      go (inl t) = (
        same_commitment-true d c t,
        sym (same_Some b x (sym (cond-true (same_commitment d c) (Some b) None t) ∙ e)),
      )
      go (inr f) =
          absurd (none-some x (sym (cond-false (same_commitment d c) (Some b) None f) ∙ e))

  becomes : (x : Block) → IsLast r notes (Note.Block c b) c x → x ≡ b
      → becomes_held r notes c b ≡ true
  becomes x last same =
      ap (λ s. not s && (not (has_block notes c) && not (is_gone notes b))) last.other
      ∙ (ap (λ s. not s && not (is_gone notes b)) (none_noted c notes last.first)
      ∙ ap not
      (not_gone notes b (subst (λ (y : Block). IsUnpruned notes y.height) same last.unpruned)))

  -- a block that doesn't become held
  pub shrinks_block : becomes_held r notes c b ≡ false → Shrinks r notes (Note.Block c b ∷ [])
  shrinks_block isnt d x e =
      ⊎_elim (λ l. l)
      (λ last.
      let (one, two) = is_it d x last.noted in
      absurd
      (false≢true
      (sym isnt
      ∙ becomes x (subst (λ (k : Commitment). IsLast r notes (Note.Block c b) k x) one last) two)))
      (held_one_more r notes (Note.Block c b) d x e)

  module _ (so : becomes_held r notes c b ≡ true) where
    parts : (not (same_commitment c (genesis_commitment r)) ≡ true)
        × ((not (has_block notes c) && not (is_gone notes b)) ≡ true)
    parts =
        and_parts (not (same_commitment c (genesis_commitment r)))
        (not (has_block notes c) && not (is_gone notes b)) so

    other : same_commitment c (genesis_commitment r) ≡ false
    other = not_true (same_commitment c (genesis_commitment r)) parts.0

    fresh : has_block notes c ≡ false
    fresh =
        not_true (has_block notes c)
        (and_parts (not (has_block notes c)) (not (is_gone notes b)) parts.1).0

    stays_here : is_gone notes b ≡ false
    stays_here =
        not_true (is_gone notes b)
        (and_parts (not (has_block notes c)) (not (is_gone notes b)) parts.1).1

    same_prune : greatest_prune all ≡ greatest_prune notes
    same_prune =
        ap greatest
        (filter_map_both pruned_height notes (Note.Block c b ∷ [])
        ∙ append-nil (filter_map pruned_height notes))

    unpruned_now : IsUnpruned all b.height
    unpruned_now =
        let gone = stays_here in
        ⊎_elim
        (λ z. inl z)
        (λ high. inr (omega (arith, high, same_prune)))
        (unpruned_of gone)
      where
        unpruned_of : is_gone notes b ≡ false
            → (b.height ≡ 0) ⊎ (greatest_prune notes ≤ b.height)
        unpruned_of gone = grind (arith, nat_tests)

    -- it is held then
    pub held_now : held r all c ≡ Some b
    held_now =
        holds_noted r all c b other
        (first_of_both (noted_block_of c) notes (Note.Block c b ∷ [])
        ∙ (ap (λ o. option_or o (first_some (noted_block_of c) (Note.Block c b ∷ [])))
        (no_block c notes fresh)
        ∙ ap (λ o. option_or o None)
        (cond-true (same_commitment c c) (Some b) None (same_commitment_self c))))
        unpruned_now

    -- and wasn't
    pub held_not : (x : Block) → held r notes c ≡ Some x → ⊥
    held_not x e =
        ⊎_elim (λ g. false≢true (sym other ∙ g.0))
        (λ h. none-some x (sym (no_block c notes fresh) ∙ h.1)) (held_cases r notes c x e)

    grows : (d : Commitment) (x : Block) → held r all d ≡ Some x
        → (held r notes d ≡ Some x) ⊎ ((d ≡ c) × (x ≡ b))
    grows d x e =
        ⊎_elim (λ l. inl l) (λ last. inr (is_it d x last.noted))
        (held_one_more r notes (Note.Block c b) d x e)

    -- below the block nothing is new
    low : (s h : ℕ) (e : Commitment) (x : Block) (d : Commitment) → x.height ≤ b.height
        → reached r all s h e x ≡ Some d → reached r notes s h e x ≡ Some d
    low zero h e x d le is = is
    low (suc s) h e x d le is =
        go (reached_cases r all s h e x d is)
        (λ a l q. low s h x.context.parent a d l q)
      where
        go : Down r all s h e x d
            → ((a : Block) → a.height ≤ b.height → reached r all s h x.context.parent a ≡ Some d
            → reached r notes s h x.context.parent a ≡ Some d)
            → reached r notes (suc s) h e x ≡ Some d
        go (inl (t, same)) later = reaches_itself r notes (suc s) h e x t ∙ ap Some same
        go (inr (f, (a, p, q))) later = by (grows x.context.parent a is_parent.0)
          where
            is_parent : (held r all x.context.parent ≡ Some a) × (a.height + 1 ≡ x.height)
            is_parent = parent_is r all x a p

            by : (held r notes x.context.parent ≡ Some a) ⊎ ((x.context.parent ≡ c) × (a ≡ b))
                → reached r notes (suc s) h e x ≡ Some d
            by (inl was) =
                on_back r notes (Note.Block c b ∷ []) s h e x a d f was is_parent.1
                (later a (omega (arith, is_parent.1, le)) q)
            by (inr (one, two)) =
                let up = is_parent.1 in
                let high : a.height ≡ b.height = ap (λ (y : Block). y.height) two in
                absurd (omega (arith, up, high, le))

    -- a walk that comes by the block, from the one right above it
    pub record Passes (e : Commitment) (x : Block) (s h : ℕ) (d : Commitment) : Type 0 where
      pub rest : reached r notes b.height h c b ≡ Some d
      pub upper : Block
      pub name : Commitment
      pub above : reached r notes s (b.height + 1) e x ≡ Some name
      pub there_is : ((name ≡ e) × (upper ≡ x)) ⊎ (held r notes name ≡ Some upper)
      pub parent : upper.context.parent ≡ c
      pub high : upper.height ≡ b.height + 1

    passes : (s h : ℕ) (e : Commitment) (x : Block) (d : Commitment) → x.height ≡ s
        → reached r all s h e x ≡ Some d
        → (reached r notes s h e x ≡ Some d) ⊎ Passes e x s h d
    passes zero h e x d z is = inl is
    passes (suc s) h e x d z is =
        go (reached_cases r all s h e x d is)
        (λ a l q. passes s h x.context.parent a d l q)
      where
        go : Down r all s h e x d
            → ((a : Block) → a.height ≡ s → reached r all s h x.context.parent a ≡ Some d
            → (reached r notes s h x.context.parent a ≡ Some d)
            ⊎ Passes x.context.parent a s h d)
            → (reached r notes (suc s) h e x ≡ Some d) ⊎ Passes e x (suc s) h d
        go (inl (t, same)) later = inl (reaches_itself r notes (suc s) h e x t ∙ ap Some same)
        go (inr (f, (a, p, q))) later = by (grows x.context.parent a is_parent.0)
          where
            is_parent : (held r all x.context.parent ≡ Some a) × (a.height + 1 ≡ x.height)
            is_parent = parent_is r all x a p

            one_down : a.height ≡ s
            one_down = omega (arith, is_parent.1, z)

            by : (held r notes x.context.parent ≡ Some a) ⊎ ((x.context.parent ≡ c) × (a ≡ b))
                → (reached r notes (suc s) h e x ≡ Some d) ⊎ Passes e x (suc s) h d
            by (inl was) =
                ⊎_elim
                (λ l.
                inl (on_back r notes (Note.Block c b ∷ []) s h e x a d f was is_parent.1 l))
                (λ way. inr (further way)) (later a one_down q)
              where
                further : Passes x.context.parent a s h d → Passes e x (suc s) h d
                further way = record {
                  rest = way.rest;
                  upper = way.upper;
                  name = way.name;
                  above =
                      let under =
                      reached_low r notes s (b.height + 1) x.context.parent a way.name way.above in
                      let up = is_parent.1 in
                      let apart : (x.height == b.height + 1) ≡ false =
                      test_apart x.height (b.height + 1) (λ e. omega (arith, e, under, up)) in
                      on_back r notes (Note.Block c b ∷ []) s (b.height + 1) e x a way.name apart
                      was is_parent.1 way.above;
                  there_is = inr (was_there way.there_is);
                  parent = way.parent;
                  high = way.high;
                }
                  where
                    was_there : ((way.name ≡ x.context.parent) × (way.upper ≡ a))
                        ⊎ (held r notes way.name ≡ Some way.upper)
                        → held r notes way.name ≡ Some way.upper
                    was_there (inl (one, two)) =
                        ap (held r notes) one ∙ (was ∙ ap Some (sym two))
                    was_there (inr h) = h
            by (inr (one, two)) =
                inr (record {
                  rest = rest;
                  upper = x;
                  name = e;
                  above =
                      reaches_itself r notes (suc s) (b.height + 1) e x
                      (eq-eqb x.height (b.height + 1) up);
                  there_is = inl (refl, refl);
                  parent = one;
                  high = up;
                })
              where
                same_high : a.height ≡ b.height
                same_high = ap (λ (y : Block). y.height) two

                up : x.height ≡ b.height + 1
                up = omega (arith, is_parent.1, same_high)

                from_b : reached r all b.height h c b ≡ Some d
                from_b =
                    let steps : b.height ≡ s = omega (arith, one_down, same_high) in
                    ap (λ (k : ℕ). reached r all k h c b) steps
                    ∙ (ap (λ (k : Commitment). reached r all s h k b) (sym one)
                    ∙ (ap (λ (y : Block). reached r all s h x.context.parent y) (sym two) ∙ q))

                rest : reached r notes b.height h c b ≡ Some d
                rest = low b.height h c b d (omega arith) from_b

    -- what a finalization reaches then it reached before, or comes by the block, which it finalizes
    -- or reaches from the one above
    pub data ByIt (p : Proposal) : Type 0 where
      Itself : p.payload ≡ c → ByIt p
      Above : (name : Commitment) → (upper : Block)
          → reached_by r notes (b.height + 1) p ≡ Some name → held r notes name ≡ Some upper
          → upper.context.parent ≡ c → upper.height ≡ b.height + 1 → ByIt p

    pub by_it : (p : Proposal) (h : ℕ) (d : Commitment) → reached_by r all h p ≡ Some d
        → (reached_by r notes h p ≡ Some d)
        ⊎ ((reached r notes b.height h c b ≡ Some d) × ByIt p)
    by_it p h d e =
        let (x, k, q) = block_by r all p h d e in on x q (grows p.payload x k)
      where
        on : (x : Block) → reached r all x.height h p.payload x ≡ Some d
            → (held r notes p.payload ≡ Some x) ⊎ ((p.payload ≡ c) × (x ≡ b))
            → (reached_by r notes h p ≡ Some d)
            ⊎ ((reached r notes b.height h c b ≡ Some d) × ByIt p)
        on x q (inl was) =
            ⊎_elim (λ l. inl (by_block r notes p x was h ∙ l))
            (λ way. inr (
              way.rest,
              Above way.name way.upper
                  (by_block r notes p x was (b.height + 1) ∙ way.above) (there_too way) way.parent
                  way.high,
            ))
            (passes x.height h p.payload x d refl q)
          where
            there_too : (way : Passes p.payload x x.height h d)
                → held r notes way.name ≡ Some way.upper
            there_too way =
                ⊎_elim (λ l. ap (held r notes) l.0 ∙ (was ∙ ap Some (sym l.1))) (λ h. h)
                way.there_is
        on x q (inr (one, two)) =
            inr (
              low b.height h c b d (omega arith)
                  (ap (λ (y : Block). reached r all y.height h c y) (sym two)
                  ∙ (ap (λ (k : Commitment). reached r all x.height h k x) (sym one) ∙ q)),
              Itself one,
            )

    -- ---- with the block

    module _ (at : Entries) (have : HaveReached r notes (filter_map finalization_of notes) at) where
      abbrev finals : List Proposal
      finals = filter_map finalization_of notes

      awaited : (p : Proposal) → In p finals → ByIt p → is_awaited r notes at c b.height ≡ true
      awaited p inside (Itself same) =
          ap (λ s. s || option_map_or (is_upper b.height c)
          (option_and_then (held r notes) (there (b.height + 1) at)) false)
          (final_any notes p c inside same)
      awaited p inside (Above name upper by is parent high) =
          ap (λ o. list_any (is_final c) notes || option_map_or (is_upper b.height c)
          (option_and_then (held r notes) o) false)
          (have.whole (b.height + 1) name (p, inside, by))
          ∙ (ap (λ o. list_any (is_final c) notes || option_map_or (is_upper b.height c) o false) is
          ∙ (ap (λ s. list_any (is_final c) notes || s) yes_upper
          ∙ or_true (list_any (is_final c) notes)))
        where
          yes_upper : is_upper b.height c upper ≡ true
          yes_upper =
              ap (λ s. s && same_commitment upper.context.parent c)
              (eq-eqb upper.height (b.height + 1) high)
              ∙ (ap (λ (k : Commitment). same_commitment k c) parent ∙ same_commitment_self c)

      -- a block that no finalization awaits
      pub reached_unawaited : is_awaited r notes at c b.height ≡ false
          → HaveReached r all finals at
      reached_unawaited isnt = record {
        whole = λ h d x.
            ⊎_elim (λ l. have.whole h d (x.0, x.1, l))
            (λ way. absurd (false≢true (sym isnt ∙ awaited x.0 x.1 way.1))) (by_it x.0 h d x.2);
        sound = sound_stays r notes (Note.Block c b ∷ []) finals at have;
      }

      -- a block that one does, once it was entered
      module _ (new : Entries) (is : IsWalked r notes c b at new)
          (yes_awaited : is_awaited r notes at c b.height ≡ true) where
        never : (k : ℕ) → there k at ≡ Some c → b.height ≡ k → 0 < k → held r notes c ≡ Some b
        never k stands high up =
            let (q, inside, by) = have.sound k c (unpruned_k unpruned_now) stands in
            let (x, held_so, high_so, rest) = through_by r notes q k c by in
            absurd (held_not x held_so)
          where
            unpruned_k : (b.height ≡ 0) ⊎ (greatest_prune all ≤ b.height)
                → greatest_prune notes ≤ k
            unpruned_k (inl z) = absurd (omega (arith, z, high, up))
            unpruned_k (inr p) = omega (arith, p, high, same_prune)

        whole_then : (h : ℕ) (d : Commitment) → IsReachedOf r all finals h d → there h new ≡ Some d
        whole_then h d (p, inside, e) =
            ⊎_elim (λ l. is.kept h d (have.whole h d (p, inside, l)))
            (λ way. entered_whole r notes finals at have c b new is never h d way.0)
            (by_it p h d e)

        -- which finalization reaches it
        reaching : (h : ℕ) (d : Commitment) → greatest_prune all ≤ h
            → reached r notes b.height h c b ≡ Some d → IsReachedOf r all finals h d
        reaching h d high e = by_any (cases_Bool (list_any (is_final c) notes))
          where
            now : reached r all b.height h c b ≡ Some d
            now = reached_stays r notes (Note.Block c b ∷ []) h high b.height c b d e

            by_upper : (w : Commitment) (u : Block) → there (b.height + 1) at ≡ Some w
                → held r notes w ≡ Some u → is_upper b.height c u ≡ true
                → IsReachedOf r all finals h d
            by_upper w u stands held_so t =
                (q, inside, from_q)
              where
                tests : ((u.height == b.height + 1) ≡ true)
                    × (same_commitment u.context.parent c ≡ true)
                tests =
                    and_parts (u.height == b.height + 1) (same_commitment u.context.parent c) t

                up : u.height ≡ b.height + 1
                up = eqb-true u.height (b.height + 1) tests.0

                parent : u.context.parent ≡ c
                parent = same_commitment-true u.context.parent c tests.1

                unpruned_up : (u.height ≡ 0) ⊎ (greatest_prune notes ≤ u.height)
                    → greatest_prune notes ≤ b.height + 1
                unpruned_up (inl z) = absurd (omega (arith, z, up))
                unpruned_up (inr p) = omega (arith, p, up)

                prune_up : greatest_prune notes ≤ b.height + 1
                prune_up = unpruned_up (held_high r notes w u held_so)

                found : IsReachedOf r notes finals (b.height + 1) w
                found = have.sound (b.height + 1) w prune_up stands

                q : Proposal
                q = found.0

                inside : In q finals
                inside = found.1

                prune_all : greatest_prune all ≤ b.height + 1
                prune_all = omega (arith, prune_up, same_prune)

                q_up : reached_by r all (b.height + 1) q ≡ Some w
                q_up = by_stays r notes (Note.Block c b ∷ []) (b.height + 1) prune_all q w found.2

                u_now : held r all w ≡ Some u
                u_now =
                    held_stays r notes (Note.Block c b ∷ []) w u held_so
                    (inr (omega (arith, prune_all, up)))

                under : h ≤ b.height
                under = reached_low r notes b.height h c b d e

                b_below : parent_of r all u ≡ Some b
                b_below =
                    ap (option_and_then (below r u))
                    (ap (held r all) parent ∙ held_now)
                    ∙ cond-true (b.height + 1 == u.height) (Some b) None
                    (eq-eqb (b.height + 1) u.height (sym up))

                from_q : reached_by r all h q ≡ Some d
                from_q = on (through_by r all q (b.height + 1) w q_up)
                  where
                    on : (x : Block) × (held r all w ≡ Some x) × (x.height ≡ b.height + 1)
                        × ((k : ℕ) → k ≤ b.height + 1
                        → reached_by r all k q ≡ reached r all x.height k w x)
                        → reached_by r all h q ≡ Some d
                    on (x, x_now, x_high, same) =
                        same h (omega (arith, under))
                        ∙ (ap (λ (y : Block). reached r all y.height h w y)
                        (same_Some x u (sym x_now ∙ u_now))
                        ∙ (on_from r all h w u b b_below under
                        ∙ (ap (λ (k : Commitment). reached r all b.height h k b) parent ∙ now)))

            by_there : list_any (is_final c) notes ≡ false → IsReachedOf r all finals h d
            by_there isnt = go (there (b.height + 1) at) refl rest
              where
                rest : option_map_or (is_upper b.height c)
                    (option_and_then (held r notes) (there (b.height + 1) at)) false ≡ true
                rest =
                    sym
                    (ap
                    (λ s. s || option_map_or (is_upper b.height c)
                    (option_and_then (held r notes) (there (b.height + 1) at)) false)
                    isnt)
                    ∙ yes_awaited

                on : (w : Commitment) → there (b.height + 1) at ≡ Some w → (o : Option Block)
                    → held r notes w ≡ o → option_map_or (is_upper b.height c) o false ≡ true
                    → IsReachedOf r all finals h d
                on w stands None held_so t = absurd (false≢true t)
                on w stands (Some u) held_so t = by_upper w u stands held_so t

                go : (o : Option Commitment) → there (b.height + 1) at ≡ o
                    → option_map_or (is_upper b.height c) (option_and_then (held r notes) o) false
                    ≡ true
                    → IsReachedOf r all finals h d
                go None stands t = absurd (false≢true t)
                go (Some w) stands t = on w stands (held r notes w) refl t

            by_any : (list_any (is_final c) notes ≡ true) ⊎ (list_any (is_final c) notes ≡ false)
                → IsReachedOf r all finals h d
            by_any (inl t) =
                let (p, inside, same) = any_final notes c t in (
                  p,
                  inside,
                  by_block r all p b (ap (held r all) same ∙ held_now) h
                      ∙ (ap (λ (k : Commitment). reached r all b.height h k b) same ∙ now),
                )
            by_any (inr f) = by_there f

        pub reached_awaited : HaveReached r all finals new
        reached_awaited = record {
          whole = whole_then;
          sound = λ h d high e.
              ⊎_elim (sound_stays r notes (Note.Block c b ∷ []) finals at have h d high)
              (reaching h d high) (is.sound h d e);
        }
