-- The chunks of one commitment, by index and in the order in which they came.
use Rattle.std.proofs.Common.{◌≡◌, Bor, ℕ, zero, suc, ◌+◌, ◌<◌, ◌==◌, Bool, true, false, cond, List, [], ◌∷◌, ◌++◌, length, map, drop, get_or, append-nil, append_assoc, Option, Some, None, refl, sym, ◌∙◌, ap, subst, arith, eq-eqb, eqb-true}
use Rattle.std.specs.Cmp.{unsigned_ties}
use Rattle.std.specs.List.{AllByRecursion, cons_option}
use Rattle.std.specs.Map.{lookup}
use Rattle.std.specs.Option.{option_copied, option_or}
use Rattle.std.specs.Ordering.{is_eq, nat_cmp}
use Rattle.std.specs.Prelude.{nat_eq}
use Rattle.std.proofs.lemmas.Cmp.{nat_eq_equiv}
use Rattle.std.proofs.lemmas.List.{map-append}
use Rattle.std.proofs.lemmas.List.Elements.{filter_map-append}
use Rattle.std.proofs.lemmas.List.Folds.{find-append}
use Rattle.cw_rules.specs.Rules.{Chunk}
use Rattle.shards.specs.Index.{AreChunksIndexed, chunks_at, with_index}

-- ---- what is found

-- what a look-up by the order of numbers finds
pub found_nat : (es : List (ℕ × Chunk)) (i : ℕ)
    → lookup (λ (k : ℕ). is_eq (nat_cmp i k)) es ≡ lookup (nat_eq i) es
found_nat [] i = refl
found_nat (e ∷ es) i =
    ap (λ b. cond b (Some e.1) (lookup (λ (k : ℕ). is_eq (nat_cmp i k)) es))
    (sym (unsigned_ties i e.0))
    ∙ ap (λ (o : Option Chunk). cond (nat_eq i e.0) (Some e.1) o) (found_nat es i)

-- what isn't found is none
pub copied_none : {X : Type 0} (o : Option (Bor X)) → ((x : Bor X) → o ≡ Some x → ⊥)
    → option_copied o ≡ None
copied_none None h = refl
copied_none (Some x) h = absurd (h x refl)

-- there are entries where there are chunks
pub entries_there : (es : List (ℕ × Chunk)) (came : List ℕ) → 0 < length (chunks_at es came)
    → 0 < length es
entries_there [] came some = absurd (let none = ap length (none_at came) in omega arith)
  where
    none_at : (is : List ℕ) → chunks_at [] is ≡ []
    none_at [] = refl
    none_at (i ∷ is) = none_at is
entries_there (e ∷ es) came some = omega arith

-- ---- one after the other

drop_here : (is : List ℕ) (i : ℕ) → i < length is → drop i is ≡ get_or is i 0 ∷ drop (suc i) is
drop_here [] i h = absurd (omega arith)
drop_here (j ∷ js) zero h = refl
drop_here (j ∷ js) (suc i) h = drop_here js i (omega arith)

-- the chunks so far, with that of the next index
pub next_chunk : (es : List (ℕ × Chunk)) (came is : List ℕ) (i : ℕ) (xs ys : List Chunk)
    (o : Option Chunk)
    → is ≡ came → i < length is → o ≡ lookup (λ (k : ℕ). is_eq (nat_cmp (get_or is i 0) k)) es
    → xs ++ chunks_at es (drop i came) ≡ chunks_at es came → ys ≡ xs ++ cons_option o []
    → ys ++ chunks_at es (drop (i + 1) came) ≡ chunks_at es came
next_chunk es came is i xs ys o same less at so now =
    let step : i + 1 ≡ suc i = omega arith in
    let here : drop i came ≡ get_or came i 0 ∷ drop (suc i) came =
    drop_here came i (subst (λ (js : List ℕ). i < length js) same less) in
    let found : lookup (nat_eq (get_or came i 0)) es ≡ o =
    sym
    (at
    ∙ (ap (λ (js : List ℕ). lookup (λ (k : ℕ). is_eq (nat_cmp (get_or js i 0) k)) es) same
    ∙ found_nat es (get_or came i 0))) in
    ap (λ (zs : List Chunk). zs ++ chunks_at es (drop (i + 1) came)) now
    ∙ (ap (λ n. (xs ++ cons_option o []) ++ chunks_at es (drop n came)) step
    ∙ (moved o (chunks_at es (drop (suc i) came))
    ∙ (ap (λ (p : Option Chunk). xs ++ cons_option p (chunks_at es (drop (suc i) came)))
    (sym found)
    ∙ (ap (λ (js : List ℕ). xs ++ chunks_at es js) (sym here) ∙ so))))
  where
    moved : (p : Option Chunk) (rest : List Chunk)
        → (xs ++ cons_option p []) ++ rest ≡ xs ++ cons_option p rest
    moved None rest = ap (λ (zs : List Chunk). zs ++ rest) (append-nil xs)
    moved (Some x) rest = append_assoc xs (x ∷ []) rest

-- ---- one more

-- chunks among which there is none of an index
unfound : (i : ℕ) (xs : List Chunk) → with_index i xs ≡ None
    → AllByRecursion (λ (j : ℕ). (i == j) ≡ false) (map (λ (x : Chunk). x.index) xs)
unfound i [] h = tt
unfound i (x ∷ xs) h = go (x.index == i) refl h (unfound i xs)
  where
    go : (b : Bool) → (x.index == i) ≡ b → cond b (Some x) (with_index i xs) ≡ None
        → (with_index i xs ≡ None
        → AllByRecursion (λ (j : ℕ). (i == j) ≡ false) (map (λ (y : Chunk). y.index) xs))
        → AllByRecursion (λ (j : ℕ). (i == j) ≡ false) (map (λ (y : Chunk). y.index) (x ∷ xs))
    go true e h more = cc h
    go false e h more = (nat_eq_equiv.symm i x.index ∙ e, more h)

-- the new entries have the chunk at its index, and at each other what the old have
abbrev pub SetsIndex : ℕ → Chunk → List (ℕ × Chunk) → List (ℕ × Chunk) → Type 0
SetsIndex i x old new =
    (j : ℕ) → lookup (λ (k : ℕ). is_eq (nat_cmp j k)) new
    ≡ cond (is_eq (nat_cmp i j)) (Some x) (lookup (λ (k : ℕ). is_eq (nat_cmp j k)) old)

module _ (old new : List (ℕ × Chunk)) (x : Chunk) (sets : SetsIndex x.index x old new) where
  set_at : (j : ℕ) → lookup (nat_eq j) new
      ≡ cond (x.index == j) (Some x) (lookup (nat_eq j) old)
  set_at j =
      sym (found_nat new j)
      ∙ (sets j
      ∙ (ap (λ b. cond b (Some x) (lookup (λ (k : ℕ). is_eq (nat_cmp j k)) old))
      (sym (unsigned_ties x.index j))
      ∙ ap (λ (o : Option Chunk). cond (x.index == j) (Some x) o) (found_nat old j)))

  stay : (is : List ℕ) → AllByRecursion (λ (j : ℕ). (x.index == j) ≡ false) is
      → chunks_at new is ≡ chunks_at old is
  stay [] a = refl
  stay (i ∷ is) a =
      ap (λ (o : Option Chunk). cons_option o (chunks_at new is))
      (set_at i ∙ ap (λ b. cond b (Some x) (lookup (nat_eq i) old)) a.0)
      ∙ ap (λ (xs : List Chunk). cons_option (lookup (nat_eq i) old) xs) (stay is a.1)

  module _ (came : List ℕ) (are : AreChunksIndexed old came)
      (none : with_index x.index (chunks_at old came) ≡ None) where
    others : AllByRecursion (λ (j : ℕ). (x.index == j) ≡ false) came
    others =
        subst (λ (is : List ℕ). AllByRecursion (λ (j : ℕ). (x.index == j) ≡ false) is) are.own
        (unfound x.index (chunks_at old came) none)

    -- the chunk goes to the end
    pub chunks_pushed : chunks_at new (came ++ x.index ∷ []) ≡ chunks_at old came ++ x ∷ []
    chunks_pushed =
        let here : lookup (nat_eq x.index) new ≡ Some x =
        set_at x.index
        ∙ ap (λ b. cond b (Some x) (lookup (nat_eq x.index) old))
        (eq-eqb x.index x.index refl) in
        filter_map-append (λ (i : ℕ). lookup (nat_eq i) new) came (x.index ∷ [])
        ∙ (ap (λ (xs : List Chunk). xs ++ chunks_at new (x.index ∷ [])) (stay came others)
        ∙ ap (λ (o : Option Chunk). chunks_at old came ++ cons_option o []) here)

    pub indexed_pushed : AreChunksIndexed new (came ++ x.index ∷ [])
    indexed_pushed = record {
      own =
          ap (map (λ (y : Chunk). y.index)) chunks_pushed
          ∙ (map-append (λ (y : Chunk). y.index) (chunks_at old came) (x ∷ [])
          ∙ ap (λ (is : List ℕ). is ++ x.index ∷ []) are.own);
      found =
          λ j. set_at j
          ∙ (go j (x.index == j) refl
          ∙ (sym (find-append (λ (y : Chunk). y.index == j) (chunks_at old came) (x ∷ []))
          ∙ ap (with_index j) (sym chunks_pushed)));
    }
      where
        go : (j : ℕ) (b : Bool) → (x.index == j) ≡ b
            → cond b (Some x) (lookup (nat_eq j) old)
            ≡ option_or (with_index j (chunks_at old came)) (cond b (Some x) None)
        go j true e =
            sym
            (ap (λ (o : Option Chunk). option_or o (Some x))
            (ap (λ i. with_index i (chunks_at old came)) (sym (eqb-true x.index j e)) ∙ none))
        go j false e = are.found j ∙ or_none (with_index j (chunks_at old came))
          where
            or_none : (o : Option Chunk) → o ≡ option_or o None
            or_none None = refl
            or_none (Some y) = refl
