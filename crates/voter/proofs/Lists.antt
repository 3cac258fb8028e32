-- What is found first, step by step.
use Rattle.std.proofs.Common.{◌≡◌, Bool, true, false, if◌then◌else◌, List, [], ◌∷◌, Option, Some, None, option_and_then, refl, ◌∙◌, ap, sym, subst}
use Rattle.std.specs.List.{find}
use Rattle.std.specs.Option.{is_some}
use Rattle.cw_rules.specs.Accepted.{first_some}
use Rattle.cw_rules.specs.Owed.{when}

-- what a test lets through is there exactly where it holds
pub some_when : {X : Type 0} (b : Bool) (x : X) → is_some (when b x) ≡ b
some_when true x = refl
some_when false x = refl

-- the first answer is that of the first element that has one
pub first_by_find : {X Y : Type 0} (f : X → Option Y) (xs : List X)
    → first_some f xs ≡ option_and_then f (find (λ x. is_some (f x)) xs)
first_by_find f [] = refl
first_by_find {Y = Y} f (x ∷ xs) = go (f x) refl (first_by_find f xs)
  where
    go : (o : Option Y) → f x ≡ o
        → first_some f xs ≡ option_and_then f (find (λ y. is_some (f y)) xs)
        → first_some f (x ∷ xs) ≡ option_and_then f (find (λ y. is_some (f y)) (x ∷ xs))
    go None e more = rw e more
    go (Some y) e more = rw e (sym e)

-- what is found first passes the test
pub found_passes : {X : Type 0} (p : X → Bool) (xs : List X) (x : X) → find p xs ≡ Some x
    → p x ≡ true
found_passes p [] x h = cc
found_passes p (y ∷ ys) x h = go (p y) refl h (found_passes p ys x)
  where
    go : (b : Bool) → p y ≡ b → (if b then Some y else find p ys) ≡ Some x
        → (find p ys ≡ Some x → p x ≡ true) → p x ≡ true
    go true e k more = let same : y ≡ x = cc in subst (λ z. p z ≡ true) same e
    go false e k more = more k

-- where something is let through it is that
pub when_there : {X : Type 0} (b : Bool) (x : X) → is_some (when b x) ≡ true → when b x ≡ Some x
when_there true x h = refl
when_there false x h = cc

-- the first answer, by the first element that has one
pub first_found : {X Y : Type 0} (f : X → Option Y) (xs : List X) (found : Option X) (x : X) (y : Y)
    → found ≡ find (λ z. is_some (f z)) xs → found ≡ Some x → (is_some (f x) ≡ true → f x ≡ Some y)
    → first_some f xs ≡ Some y
first_found f xs found x y e h there =
    let here : find (λ z. is_some (f z)) xs ≡ Some x = sym e ∙ h in
    first_by_find f xs
    ∙ (ap (option_and_then f) here ∙ there (found_passes (λ z. is_some (f z)) xs x here))

-- there is none where no element has one
pub first_missing : {X Y : Type 0} (f : X → Option Y) (xs : List X) (found : Option X)
    → found ≡ find (λ z. is_some (f z)) xs → found ≡ None → first_some f xs ≡ None
first_missing f xs found e h = first_by_find f xs ∙ ap (option_and_then f) (sym e ∙ h)
