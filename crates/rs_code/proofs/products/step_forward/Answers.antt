use Rattle.std.proofs.Common.{◌≡◌, ℕ, ◌++◌, List, length, get_or, bit_xor, sym, ap, ap₂, ◌∙◌, arith, ⊎_elim}
use Rattle.std.proofs.lemmas.Bool.{cases_lt}
use Rattle.std.proofs.lemmas.List.{get_or_append_left, get_or-append_right, get_or-take}
use Rattle.std.proofs.lemmas.Nat.{xor_comm}
use Rattle.rs_code.specs.Field.{times}
use Rattle.rs_code.proofs.ProductTables.{of_nothing}
use Rattle.rs_code.proofs.products.step_forward.Goals as goal

pub returns-clause-first : goal.returns-clause-first
returns-clause-first c = λ p h.
    let front : List ℕ = c.split_at_mut-front.result.0.now in
    let rest : List ℕ = c.split_at_mut-front.result.1.now in
    let news : List ℕ = c.add_products.new.sums in
    let whole : c.args.first.now ≡ front ++ rest = c.split_at_mut-front.ensures.value in
    let long : length front ≡ c.args.filled = c.split_at_mut-front.ensures.front_len in
    let same : length news ≡ c.args.filled = c.add_products.ensures.count ∙ long in
    ⊎_elim
    (λ low.
    get_or_append_left news rest 0 p (omega (arith, low, same))
    ∙ c.add_products.ensures.each p (omega arith) (omega (arith, low, long))
    ∙ ap₂ bit_xor
    (sym (ap (λ (xs : List ℕ). get_or xs p 0) whole
    ∙ get_or_append_left front rest 0 p (omega (arith, low, long))))
    (ap (times c.args.factor) (get_or-take c.args.filled c.args.second.now p 0 low)))
    (λ high.
    get_or-append_right news rest c.args.filled p 0 same high
    ∙ sym (ap (λ (xs : List ℕ). get_or xs p 0) whole
    ∙ get_or-append_right front rest c.args.filled p 0 long high)
    ∙ sym (of_nothing (get_or c.args.first.now p 0) c.args.factor (get_or c.args.second.now p 0)
    (c.requires.zeros p high h)))
    (cases_lt p c.args.filled)

pub returns-clause-second : goal.returns-clause-second
returns-clause-second c = λ p h.
    c.add.ensures.each p (omega arith) (omega (arith, h, c.requires.second))
    ∙ xor_comm (get_or c.args.second.now p 0)
    (get_or (c.add_products.new.sums ++ c.split_at_mut-front.result.1.now) p 0)
