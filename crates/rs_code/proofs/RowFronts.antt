-- The rows that were there, at the front of rows that were made more.
use Rattle.std.proofs.Common.{◌≡◌, ℕ, ◌≤◌, ◌<◌, ◌+◌, ◌++◌, List, [], ◌∷◌, length, length-append, get_or, sym, ⊎_elim, take, take_at, take_all, ap, ◌∙◌, arith, Result, Ok, Err, OnErr}
use Rattle.std.proofs.lemmas.Bool.{cases_eq}
use Rattle.std.proofs.lemmas.List.{get_or_push, get_or_append_left}

-- the front of a list that was made longer
pub front : (old zeros items slice given : List ℕ) (size n : ℕ) → size ≡ length old → size ≤ n
    → given ≡ take size slice → slice ≡ items
    → items ≡ take n old ++ zeros → given ≡ old
front old zeros items slice given size n is more g s i =
    g ∙ ap (take size) (s ∙ i)
    ∙ ap (λ xs. take size (xs ++ zeros)) (take_all n old (omega (arith, is, more)))
    ∙ take_at old zeros size (omega (arith, is))

-- rows that a failed call left alone
pub unchanged : {T E : Type 0} (r : Result T E) (rows : List ℕ)
    → OnErr r (take (length rows) rows ≡ rows)
unchanged {T} {E} (Ok v) rows = tt
unchanged {T} {E} (Err e) rows = take_all (length rows) rows (omega arith)

-- a list with one more number
pub one_longer : (before : List ℕ) (v : ℕ) (after : List ℕ) (n : ℕ) → length before ≡ n
    → after ≡ before ++ v ∷ [] → length after ≡ n + 1
one_longer before v after n long e =
    ap length e ∙ length-append before (v ∷ []) ∙ ap (λ (m : ℕ). m + 1) long

-- numbers that go by their places, and one more
pub number_pushed : (before : List ℕ) (v : ℕ) (after : List ℕ) (n : ℕ) (g : ℕ → ℕ)
    → length before ≡ n → after ≡ before ++ v ∷ [] → v ≡ g n
    → ((i : ℕ) → i < n → get_or before i 0 ≡ g i) →
    (i : ℕ) → i < n + 1 → get_or after i 0 ≡ g i
number_pushed before v after n g long e value done i h =
    ap (λ (xs : List ℕ). get_or xs i 0) e
    ∙ ⊎_elim
    (λ last. get_or_push before v 0 i (long ∙ sym last) ∙ value ∙ ap g (sym last))
    (λ other. get_or_append_left before (v ∷ []) 0 i (omega (arith, long, h, other))
    ∙ done i (omega (arith, h, other)))
    (cases_eq i n)
