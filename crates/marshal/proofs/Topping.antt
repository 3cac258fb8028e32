-- The heights that notes give up, prune and acknowledge, with one note more.
use Rattle.std.proofs.Common.{◌≡◌, ℕ, max, refl, sym, ◌∙◌, ap, arith, List, [], ◌∷◌, ◌++◌, Option, Some, None}
use Rattle.std.specs.List.{filter_map, last_or}
use Rattle.std.specs.Option.{option_map_or}
use Rattle.std.proofs.lemmas.List.{append-nil}
use Rattle.cw_types.specs.declared.note.Note.{Note}
use Rattle.cw_rules.specs.Held.{acked_height, floor_height, pruned_height}
use Rattle.cw_rules.specs.Notes.{greatest}
use Rattle.cw_rules.proofs.Lists.{filter_map_more}
use Rattle.note_scans.specs.Heights.{greatest_of}
use Rattle.marshal.specs.Tops.{tops_of}
use Rattle.marshal.specs.declared.tops.Tops.{Tops}

greatest_more : (xs : List ℕ) (x : ℕ) → greatest (xs ++ x ∷ []) ≡ max (greatest xs) x
greatest_more [] x = omega arith
greatest_more (y ∷ ys) x = ap (max y) (greatest_more ys x) ∙ omega arith

-- the greatest of one number more
greatest_with : (xs : List ℕ) (x : ℕ)
    → greatest_of (xs ++ x ∷ []) ≡ Some (option_map_or (λ y. max y x) (greatest_of xs) x)
greatest_with [] x = ap Some (omega arith)
greatest_with (y ∷ ys) x = ap Some (ap (max y) (greatest_more ys x) ∙ omega arith)

last_with : (o : Option ℕ) (xs : List ℕ) (x : ℕ) → last_or o (xs ++ x ∷ []) ≡ Some x
last_with o [] x = refl
last_with o (y ∷ ys) x = last_with (Some y) ys x

-- what is found of one element more
found_more : {X Y : Type 0} (f : X → Option Y) (xs : List X) (x : X) (y : Y) → f x ≡ Some y
    → filter_map f (xs ++ x ∷ []) ≡ filter_map f xs ++ y ∷ []
found_more {Y = Y} f xs x y e =
    filter_map_more f xs x
    ∙ ap (λ (o : Option Y). filter_map f xs ++ option_map_or (λ z. z ∷ []) o []) e

found_same : {X Y : Type 0} (f : X → Option Y) (xs : List X) (x : X) → f x ≡ None
    → filter_map f (xs ++ x ∷ []) ≡ filter_map f xs
found_same {Y = Y} f xs x e =
    filter_map_more f xs x
    ∙ (ap (λ (o : Option Y). filter_map f xs ++ option_map_or (λ z. z ∷ []) o []) e
    ∙ append-nil (filter_map f xs))

-- ---- three numbers

abbrev make : Option ℕ → Option ℕ → Option ℕ → Tops
make f p a = record { floor = f; prune = p; acked = a }

same : (f g p q a b : Option ℕ) → f ≡ g → p ≡ q → a ≡ b → make f p a ≡ make g q b
same f g p q a b x y z =
    ap (λ i. make i p a) x ∙ (ap (λ i. make g i a) y ∙ ap (make g q) z)

module _ (notes : List Note) (t : Tops) (is : t ≡ tops_of notes) where
  pub with_floor : (h : ℕ) (f : Option ℕ) → f ≡ Some (option_map_or (λ y. max y h) t.floor h)
      → make f t.prune t.acked ≡ tops_of (notes ++ Note.Floor h ∷ [])
  with_floor h f e =
      same f _ t.prune _ t.acked _
      (e
      ∙ (ap (λ (u : Tops). Some (option_map_or (λ y. max y h) u.floor h)) is
      ∙ sym
      (ap greatest_of (found_more floor_height notes (Note.Floor h) h refl)
      ∙ greatest_with (filter_map floor_height notes) h)))
      (ap (λ (u : Tops). u.prune) is
      ∙ sym (ap greatest_of (found_same pruned_height notes (Note.Floor h) refl)))
      (ap (λ (u : Tops). u.acked) is
      ∙ sym (ap (last_or None) (found_same acked_height notes (Note.Floor h) refl)))

  pub with_prune : (h : ℕ) (p : Option ℕ) → p ≡ Some (option_map_or (λ y. max y h) t.prune h)
      → make t.floor p t.acked ≡ tops_of (notes ++ Note.Prune h ∷ [])
  with_prune h p e =
      same t.floor _ p _ t.acked _
      (ap (λ (u : Tops). u.floor) is
      ∙ sym (ap greatest_of (found_same floor_height notes (Note.Prune h) refl)))
      (e
      ∙ (ap (λ (u : Tops). Some (option_map_or (λ y. max y h) u.prune h)) is
      ∙ sym
      (ap greatest_of (found_more pruned_height notes (Note.Prune h) h refl)
      ∙ greatest_with (filter_map pruned_height notes) h)))
      (ap (λ (u : Tops). u.acked) is
      ∙ sym (ap (last_or None) (found_same acked_height notes (Note.Prune h) refl)))

  pub with_ack : (h : ℕ) → make t.floor t.prune (Some h) ≡ tops_of (notes ++ Note.Ack h ∷ [])
  with_ack h =
      same t.floor _ t.prune _ (Some h) _
      (ap (λ (u : Tops). u.floor) is
      ∙ sym (ap greatest_of (found_same floor_height notes (Note.Ack h) refl)))
      (ap (λ (u : Tops). u.prune) is
      ∙ sym (ap greatest_of (found_same pruned_height notes (Note.Ack h) refl)))
      (sym
      (ap (last_or None) (found_more acked_height notes (Note.Ack h) h refl)
      ∙ last_with None (filter_map acked_height notes) h))

  with_other : (note : Note) → floor_height note ≡ None → pruned_height note ≡ None
      → acked_height note ≡ None → t ≡ tops_of (notes ++ note ∷ [])
  with_other note f p a =
      is
      ∙ same _ _ _ _ _ _ (sym (ap greatest_of (found_same floor_height notes note f)))
      (sym (ap greatest_of (found_same pruned_height notes note p)))
      (sym (ap (last_or None) (found_same acked_height notes note a)))

  -- a note of neither a floor nor a prune nor an acknowledgement
  pub with_none : (note : Note) → ((h : ℕ) → note ≡ Note.Floor h → ⊥)
      → ((h : ℕ) → note ≡ Note.Prune h → ⊥) → ((h : ℕ) → note ≡ Note.Ack h → ⊥)
      → t ≡ tops_of (notes ++ note ∷ [])
  with_none (Note.Block c b) f p a = with_other (Note.Block c b) refl refl refl
  with_none (Note.Verified e v c) f p a = with_other (Note.Verified e v c) refl refl refl
  with_none (Note.Certified q) f p a = with_other (Note.Certified q) refl refl refl
  with_none (Note.Vote v) f p a = with_other (Note.Vote v) refl refl refl
  with_none (Note.Cert s) f p a = with_other (Note.Cert s) refl refl refl
  with_none (Note.Ack h) f p a = absurd (a h refl)
  with_none (Note.Floor h) f p a = absurd (f h refl)
  with_none (Note.Prune h) f p a = absurd (p h refl)
  with_none (Note.Epoch e c) f p a = with_other (Note.Epoch e c) refl refl refl
