use Rattle.std.proofs.Common.{◌≡◌, ℕ, ◌+◌, ◌*◌, ◌/◌, ◌%◌, List, [], ◌∷◌, ◌++◌, get_or, refl, sym, ap, ap₂, ◌∙◌, arith, append_assoc}
use Rattle.std.proofs.lemmas.List.{append-nil}
use Rattle.rs_code.specs.Field.{times}
use Rattle.rs_code.specs.Rows.{symbol, symbol_bytes}
use Rattle.rs_code.proofs.RowBytes.{symbol_bytes_none, symbol_bytes_more}
use Rattle.rs_code.proofs.row_lists.push_scaled.Goals as goal

-- one more symbol, byte by byte
more_symbols : (old before mid after : List ℕ) (n v high low : ℕ) (f : ℕ → ℕ) →
    before ≡ old ++ symbol_bytes n f → mid ≡ before ++ high ∷ [] → after ≡ mid ++ low ∷ [] →
    high ≡ v / 256 → low ≡ v % 256 → v ≡ f n → after ≡ old ++ symbol_bytes (n + 1) f
more_symbols old before mid after n v high low f b m a h l value =
    let two : List ℕ = f n / 256 ∷ f n % 256 ∷ [] in
    a ∙ ap (λ (xs : List ℕ). xs ++ low ∷ []) m
    ∙ append_assoc before (high ∷ []) (low ∷ [])
    ∙ ap₂ (λ (x y : ℕ). before ++ x ∷ y ∷ []) (h ∙ ap (λ (u : ℕ). u / 256) value)
    (l ∙ ap (λ (u : ℕ). u % 256) value)
    ∙ ap (λ (xs : List ℕ). xs ++ two) b
    ∙ append_assoc old (symbol_bytes n f) two
    ∙ ap (λ (xs : List ℕ). old ++ xs) (sym (symbol_bytes_more n f))

symbol_here : (row : List ℕ) (j : ℕ)
    → get_or row (2 * j) 0 * 256 + get_or row (2 * j + 1) 0 ≡ symbol row 0 0 j
unfolding symbol
symbol_here row j =
    let first : 2 * j ≡ 0 * 0 + 2 * j = omega arith in
    let second : 2 * j + 1 ≡ 0 * 0 + 2 * j + 1 = omega arith in
    ap₂ (λ (p q : ℕ). get_or row p 0 * 256 + get_or row q 0) first second

pub loop-j-init : goal.loop-j-init
loop-j-init c =
    sym (ap (λ (xs : List ℕ). c.args.out.now.items ++ xs) (symbol_bytes_none _)
    ∙ append-nil c.args.out.now.items)

pub loop-j-preserved : goal.loop-j-preserved
loop-j-preserved c =
    more_symbols c.args.out.now.items _ _ _ c.loop-j.j c.mul-product.result _ _
    (λ j. times (symbol c.args.row.now 0 0 j) c.args.factor)
    c.loop-j.invariant c.in_ok-push.ensures.items c.in_ok-push-2.ensures.items refl refl
    (c.mul-product.ensures
    ∙ ap (λ (x : ℕ). times x c.args.factor)
    (ap₂ (λ (x y : ℕ). x * 256 + y) c.from.ensures c.from-in-loop-j.ensures
    ∙ symbol_here c.args.row.now c.loop-j.j))
