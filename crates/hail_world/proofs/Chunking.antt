-- Chunks that are sent, one more at the end.
use Rattle.std.proofs.Common.{◌≡◌, List, [], ◌∷◌, ◌++◌, Option, Some, None, refl, ap, sym, ◌∙◌}
use Rattle.std.specs.Prelude.{filter_map}
use Rattle.std.proofs.lemmas.List.Elements.{filter_map-append}
use Rattle.hail_world.specs.Offers.{some_of}

one : {X Y : Type 0} (f : X → Option Y) (x : X) (o : Option Y) → f x ≡ o
    → filter_map f (x ∷ []) ≡ some_of o
one f x None e = rw e refl
one f x (Some y) e = rw e refl

pub some_more : {X Y : Type 0} (f : X → Option Y) (xs : List X) (x : X)
    → filter_map f (xs ++ x ∷ []) ≡ filter_map f xs ++ some_of (f x)
some_more {X} {Y} f xs x =
    filter_map-append f xs (x ∷ []) ∙ ap (λ (l : List Y). filter_map f xs ++ l) (one f x (f x) refl)
