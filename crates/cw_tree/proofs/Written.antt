-- What writers add behind the bytes that were there.
use Rattle.std.proofs.Common.{◌≡◌, ℕ, ◌+◌, ◌<◌, List, [], ◌∷◌, ◌++◌, length, take, get_or, refl, sym, ap, ◌∙◌}
use Rattle.std.specs.Prelude.{Result, Ok, Err, OnErr}
use Rattle.std.specs.List.{flat_map}
use Rattle.std.proofs.lemmas.List.{take_more, flat_map_more, take_at, append-nil}

-- one more item's bytes
pub item_more : {X : Type 0} (content : X → List ℕ) (xs : List X) (i : ℕ) (x : X)
    (old before after : List ℕ)
    → i < length xs → x ≡ get_or xs i x → before ≡ old ++ flat_map content (take i xs)
    → after ≡ before ++ content x → after ≡ old ++ flat_map content (take (i + 1) xs)
item_more content xs i x old before after h is so more =
    more ∙ ap (λ bytes. bytes ++ content x) so ∙ flat_map_more content old (take i xs) x
    ∙ ap (λ items. old ++ flat_map content items)
    (ap (λ y. take i xs ++ y ∷ []) is ∙ sym (take_more xs i x h))

-- what was there stays in front
pub stays : (old more now : List ℕ) → now ≡ old ++ more → take (length old) now ≡ old
stays old more now is = ap (take (length old)) is ∙ take_at old more (length old) refl

-- nothing was put
pub same_stays : (old now : List ℕ) → now ≡ old → take (length old) now ≡ old
same_stays old now is = stays old [] now (is ∙ sym (append-nil old))

-- what holds anyway holds where there is an error
pub on_err : {T E : Type 0} {P : Type 0} (answer : Result T E) → P → OnErr answer P
on_err (Ok x) holds = tt
on_err (Err e) holds = holds
