-- Lists with one element more, and with that taken back.
use Rattle.std.proofs.Common.{◌≡◌, ℕ, Bool, true, refl, ◌∙◌, ap, List, [], ◌∷◌, ◌++◌, length, take}
use Rattle.std.specs.List.{list_all}
use Rattle.std.proofs.Math.Seq.{take-append_seam}
use Rattle.std.proofs.lemmas.Bool.{and_from}
use Rattle.std.proofs.lemmas.List.Folds.{list_all-append}

pub taken_back : {X : Type 0} (old mid new : List X) (x : X) (n : ℕ) → mid ≡ old ++ x ∷ []
    → n ≡ length old → new ≡ take n mid → new ≡ old
taken_back old mid new x n more len back =
    back
    ∙ (ap (λ k. take k mid) len
    ∙ (ap (take (length old)) more ∙ take-append_seam old (x ∷ [])))

pub all_more : {X : Type 0} (p : X → Bool) (xs : List X) (x : X) → list_all p xs ≡ true
    → p x ≡ true → list_all p (xs ++ x ∷ []) ≡ true
all_more p xs x all one =
    list_all-append p xs (x ∷ [])
    ∙ and_from (list_all p xs) (list_all p (x ∷ [])) all (and_from (p x) true one refl)
