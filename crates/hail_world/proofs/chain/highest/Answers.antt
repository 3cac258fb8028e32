use Rattle.std.proofs.Common.{◌≡◌, ℕ, ◌+◌, suc, ◌++◌, ◌∷◌, [], List, Option, sym, ap, ◌∙◌, drop, get_or, drop-cons, add-one, arith}
use Rattle.std.specs.Prelude.{flat_map}
use Rattle.cw_types.specs.declared.event.Handed.{Handed}
use Rattle.cw_rules.specs.Report.{Entry}
use Rattle.hail_world.specs.Runs.{higher}
use Rattle.hail_world.proofs.Standing.{higher_on}
use Rattle.hail_world.proofs.chain.highest.Goals as goal

pub loop-entry-preserved : goal.loop-entry-preserved
loop-entry-preserved c =
    let es : List Entry = c.args.entries.now in
    let i : ℕ = c.loop-entry.entry-index in
    let item : Entry = c.entry-item.result in
    let rest : List Handed = flat_map (λ (e : Entry). e.handed) (drop (i + 1) es) in
    let n : suc i ≡ i + 1 = omega arith in
    let split : drop i es ≡ get_or es i item ∷ drop (i + 1) es =
    drop-cons es i item c.loop-entry-test.true
    ∙ ap (λ (k : ℕ). get_or es i item ∷ drop k es) n in
    let mine : drop i es ≡ item ∷ drop (i + 1) es =
    split ∙ ap (λ (e : Entry). e ∷ drop (i + 1) es) (sym c.entry-item.is) in
    let found =
    c.highest_in-found.ensures
    ∙ ap (λ (l : List Handed). higher c.loop-entry.found l)
    (c.as_slice.ensures ∙ ap (λ (e : Entry). e.handed) c.entry.view_is) in
    ap (λ (o : Option Handed). higher o rest) found ∙ higher_on c.loop-entry.found item.handed rest
    ∙ sym
    (ap (λ (l : List Entry). higher c.loop-entry.found (flat_map (λ (e : Entry). e.handed) l))
    mine)
    ∙ c.loop-entry.invariant
