use Rattle.std.proofs.Common.{ℕ, ◌+◌, List, length, get_or, refl, ap, ◌∙◌}
use Rattle.cw_base.specs.Rows.{row_of}
use Rattle.rs_code.specs.Rows.{code_row, joined}
use Rattle.rs_code.proofs.CompletionSteps.{codeword_long, originals_picked, targets_within}
use Rattle.rs_code.proofs.completion.rows_behind_here.Goals as goal

pub returns-then-are_originals : goal.returns-then-are_originals
returns-then-are_originals c =
    let k : ℕ = c.args.k in
    let w : ℕ = c.args.width in
    let originals : List ℕ = c.args.originals.items in
    let places : List ℕ = c.deref-then-are_originals.result.now in
    originals_picked k w originals (joined c.args.m (λ r. code_row k originals w (k + r)))
    c.args.targets.now places _ c.requires.rows
    (c.deref-then-are_originals.ensures.value ∙ c.in_ok-places.ensures)
    (c.if-are_originals.ensures refl)
    (c.in_ok-rows.ensures.rows
    ∙ ap (λ (xs : List ℕ). joined (length places) (λ i. row_of xs w (get_or places i 0)))
    c.deref.ensures.value)

pub picked-requires-2-clause-within : goal.picked-requires-2-clause-within
picked-requires-2-clause-within c =
    targets_within (c.args.k + c.args.m) c.args.width c.deref-2.result.now c.args.targets.now
    c.deref-3.result.now c.requires.some_width
    (ap length c.deref-2.ensures.value
    ∙ codeword_long c.args.k c.args.m c.args.width c.args.originals.items
    c.add_recoveries_here.new.rows.items c.requires.even c.requires.rows c.in_ok-add_recoveries_here.ensures.ok)
    (c.deref-3.ensures.value ∙ c.in_ok-places.ensures) c.requires.targets
