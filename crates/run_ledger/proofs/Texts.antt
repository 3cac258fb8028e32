-- The text of the replicas, one more.
use Rattle.std.proofs.Common.{◌≡◌, ℕ, zero, suc, ◌+◌, ◌<◌, List, [], ◌∷◌, ◌++◌, length, get_or, map, take, sym, ap, ◌∙◌, add-one, arith, append_assoc, append-nil}
use Rattle.run_ledger.specs.Text.{ledger_text, replica_text}

text_from : {X Y : Type 0} (f : X → ℕ) (g : Y → List (List ℕ)) (xs : List X) (ys : List Y) (i : ℕ)
    (x : X) (y : Y)
    → i < length xs → length xs ≡ length ys → x ≡ get_or xs i x → y ≡ get_or ys i y
    → ledger_text (take (suc i) (map f xs)) (take (suc i) (map g ys))
    ≡ ledger_text (take i (map f xs)) (take i (map g ys)) ++ replica_text (f x) (g y)
text_from f g [] ys i x y lt same at is = absurd (omega arith)
text_from f g (a ∷ xs) [] i x y lt same at is = absurd (omega arith)
text_from f g (a ∷ xs) (b ∷ ys) zero x y lt same at is =
    append-nil (replica_text (f a) (g b)) ∙ ap (λ p. replica_text (f p) (g b)) (sym at)
    ∙ ap (λ q. replica_text (f x) (g q)) (sym is)
text_from f g (a ∷ xs) (b ∷ ys) (suc i) x y lt same at is =
    ap (λ t. replica_text (f a) (g b) ++ t)
    (text_from f g xs ys i x y (omega arith) (omega arith) at is)
    ∙ sym
    (append_assoc (replica_text (f a) (g b))
    (ledger_text (take i (map f xs)) (take i (map g ys))) (replica_text (f x) (g y)))

pub text_more : {X Y : Type 0} (f : X → ℕ) (g : Y → List (List ℕ)) (xs : List X) (ys : List Y)
    (i : ℕ) (x : X) (y : Y)
    → i < length xs → length xs ≡ length ys → x ≡ get_or xs i x → y ≡ get_or ys i y
    → ledger_text (take (i + 1) (map f xs)) (take (i + 1) (map g ys))
    ≡ ledger_text (take i (map f xs)) (take i (map g ys)) ++ replica_text (f x) (g y)
text_more f g xs ys i x y lt same at is = rw (add-one i) (text_from f g xs ys i x y lt same at is)
