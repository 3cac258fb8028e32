-- Lists that are given by their places.
use Rattle.std.proofs.Common.{◌≡◌, ℕ, zero, suc, ◌+◌, ◌<◌, List, [], ◌∷◌, ◌++◌, length, map, refl, ap, sym, ◌∙◌, arith, length-append, add-one}
use Rattle.std.proofs.lemmas.List.{map-append}
use Rattle.cw_base.specs.Rows.{listed}

pub listed_none : {A : Type 0} (f : ℕ → A) → listed 0 f ≡ []
unfolding listed
listed_none f = refl

pub listed_more : {A : Type 0} (n : ℕ) (f : ℕ → A) → listed (n + 1) f ≡ listed n f ++ f n ∷ []
unfolding listed
listed_more n f = rw add-one refl

-- one more at the end
pub push_listed : {A : Type 0} (n : ℕ) (f : ℕ → A) (before after : List A) (x : A)
    → before ≡ listed n f → after ≡ before ++ x ∷ [] → x ≡ f n → after ≡ listed (n + 1) f
push_listed n f before after x so more is =
    more ∙ ap (λ xs. xs ++ x ∷ []) so ∙ ap (λ y. listed n f ++ y ∷ []) is ∙ sym (listed_more n f)

pub length-listed : {A : Type 0} (n : ℕ) (f : ℕ → A) → length (listed n f) ≡ n
unfolding listed
length-listed zero f = refl
length-listed (suc n) f =
    length-append (listed n f) (f n ∷ []) ∙ (let e = length-listed n f in omega arith)

pub listed_same : {A : Type 0} (n : ℕ) (f g : ℕ → A) → ((i : ℕ) → i < n → f i ≡ g i)
    → listed n f ≡ listed n g
unfolding listed
listed_same zero f g h = refl
listed_same (suc n) f g h =
    ap (λ xs. xs ++ f n ∷ []) (listed_same n f g (λ i l. h i (omega arith)))
    ∙ ap (λ x. listed n g ++ x ∷ []) (h n (omega arith))

pub map-listed : {A B : Type 0} (n : ℕ) (f : ℕ → A) (h : A → B)
    → map h (listed n f) ≡ listed n (λ i. h (f i))
unfolding listed
map-listed zero f h = refl
map-listed (suc n) f h =
    map-append h (listed n f) (f n ∷ []) ∙ ap (λ xs. xs ++ h (f n) ∷ []) (map-listed n f h)
