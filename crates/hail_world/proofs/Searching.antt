-- A search from some place on.
use Rattle.std.proofs.Common.{◌≡◌, ℕ, zero, suc, ◌+◌, ◌<◌, List, ◌∷◌, length, map, drop, get_or, Option, Some, None, sym, ap, ◌∙◌, arith}
use Rattle.std.specs.Prelude.{Err, IfOk, Ok, Result, flat_map}
use Rattle.std.specs.Option.{option_or}
use Rattle.std.proofs.lemmas.List.{drop_more, drop-map}
use Rattle.cw_rules.specs.Accepted.{first_some}
use Rattle.cw_rules.proofs.Lists.{first_from, first_of_both}

pub here : {X Y : Type 0} (f : X → Option Y) (xs : List X) (i : ℕ) (x : X) (y : Y) → i < length xs
    → x ≡ get_or xs i x → f x ≡ Some y → first_some f (drop i xs) ≡ Some y
here {X} {Y} f xs i x y lt is e =
    first_from f xs i x lt is
    ∙ ap (λ (o : Option Y). option_or o (first_some f (drop (i + 1) xs))) e

pub further : {X Y : Type 0} (f : X → Option Y) (xs : List X) (i : ℕ) (x : X) → i < length xs
    → x ≡ get_or xs i x → f x ≡ None → first_some f (drop (i + 1) xs) ≡ first_some f (drop i xs)
further {X} {Y} f xs i x lt is e =
    sym
    (first_from f xs i x lt is
    ∙ ap (λ (o : Option Y). option_or o (first_some f (drop (i + 1) xs))) e)

-- the rest of a list that is made of another
pub made_drop : {X Z : Type 0} (v : X → Z) (xs : List X) (i : ℕ) (x : X) → i < length xs
    → x ≡ get_or xs i x → drop i (map v xs) ≡ v x ∷ drop (i + 1) (map v xs)
made_drop {X} {Z} v xs i x lt is =
    drop-map v i xs
    ∙ ap (λ (l : List X). map v l)
    (drop_more xs i x lt ∙ ap (λ (y : X). y ∷ drop (i + 1) xs) (sym is))
    ∙ ap (λ (l : List Z). v x ∷ l) (sym (drop-map v (i + 1) xs))

-- in the lists that are made of others
lists_at : {X Y Z : Type 0} (f : Y → Option Z) (v : X → List Y) (xs : List X) (i : ℕ) (x : X)
    → i < length xs → x ≡ get_or xs i x
    → first_some f (flat_map (λ l. l) (drop i (map v xs)))
    ≡ option_or (first_some f (v x))
    (first_some f (flat_map (λ l. l) (drop (i + 1) (map v xs))))
lists_at {X} {Y} {Z} f v xs i x lt is =
    ap (λ (l : List (List Y)). first_some f (flat_map (λ n. n) l)) (made_drop v xs i x lt is)
    ∙ first_of_both f (v x) (flat_map (λ n. n) (drop (i + 1) (map v xs)))

pub lists_here : {X Y Z : Type 0} (f : Y → Option Z) (v : X → List Y) (xs : List X) (i : ℕ) (x : X)
    (notes : List Y) (z : Z)
    → i < length xs → x ≡ get_or xs i x → notes ≡ v x → Some z ≡ first_some f notes
    → first_some f (flat_map (λ l. l) (drop i (map v xs)))
    ≡ first_some f (flat_map (λ l. l) (map v xs))
    → Some z ≡ first_some f (flat_map (λ l. l) (map v xs))
lists_here {X} {Y} {Z} f v xs i x notes z lt is made e inv =
    let rest : Option Z = first_some f (flat_map (λ l. l) (drop (i + 1) (map v xs))) in
    sym
    (ap (λ (o : Option Z). option_or o rest)
    (ap (λ (l : List Y). first_some f l) (sym made) ∙ sym e))
    ∙ sym (lists_at f v xs i x lt is) ∙ inv

pub lists_on : {X Y Z : Type 0} (f : Y → Option Z) (v : X → List Y) (xs : List X) (i : ℕ) (x : X)
    (notes : List Y)
    → i < length xs → x ≡ get_or xs i x → notes ≡ v x → None ≡ first_some f notes
    → first_some f (flat_map (λ l. l) (drop i (map v xs)))
    ≡ first_some f (flat_map (λ l. l) (map v xs))
    → first_some f (flat_map (λ l. l) (drop (i + 1) (map v xs)))
    ≡ first_some f (flat_map (λ l. l) (map v xs))
lists_on {X} {Y} {Z} f v xs i x notes lt is made e inv =
    let rest : Option Z = first_some f (flat_map (λ l. l) (drop (i + 1) (map v xs))) in
    sym
    (ap (λ (o : Option Z). option_or o rest)
    (ap (λ (l : List Y). first_some f l) (sym made) ∙ sym e))
    ∙ sym (lists_at f v xs i x lt is) ∙ inv

-- what an answer says, where it is more
pub ok_more : {T E : Type 0} (P Q : T → Type 0) (result : Result T E) → ((x : T) → P x → Q x)
    → IfOk result P → IfOk result Q
ok_more P Q (Ok x) f h = f x h
ok_more P Q (Err e) f h = tt
