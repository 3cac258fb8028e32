use Rattle.std.proofs.Common.{◌≡◌, ℕ, ◌/◌, ◌<◌, List, length, get_or, refl, sym, ap, ◌∙◌, arith, rules}
use Rattle.cw_base.specs.Rows.{row_of}
use Rattle.rs_code.specs.Completions.{AreSources}
use Rattle.rs_code.specs.Rows.{joined, row_through, AreRows}
use Rattle.rs_code.proofs.CompletionSteps.{rows_many}
use Rattle.rs_code.proofs.Restored.{rows_taken}
use Rattle.rs_code.proofs.RowBytes.{joined_same}
use Rattle.rs_code.proofs.RowPicks.{row_before, row_fits}
use Rattle.rs_code.proofs.plan.copied.Goals as goal

pub returns : goal.returns
returns c =
    let w : ℕ = c.args.width in
    let rows : List ℕ = c.args.rows.now in
    let targets : List ℕ = c.args.targets.now in
    let points : List ℕ = c.args.points.now in
    let missing : List ℕ = c.in_ok-sources.sources.missing.items in
    let places : List ℕ = c.in_ok-sources.sources.places.items in
    let none : length missing ≡ 0 = search rules in
    let R : AreRows (length points) w rows =
    record {
      even = c.requires.even;
      long = c.requires.rows;
      bytes = λ i. omega (arith, c.type_inv.rows i);
    } in
    let S : AreSources (length targets) (λ i. get_or targets i 0) points missing places =
    c.in_ok-sources.ensures.sources in
    let made : List ℕ = joined (length missing)
    (λ j. row_through (length points) (λ s. get_or points s 0) rows w (get_or missing j 0)) in
    let within : (i : ℕ) → i < length places → get_or places i 0 < length rows / w =
    λ i h. omega (
      arith,
      S.within i (omega (arith, h, S.count)),
      none,
      rows_many rows (length points) w c.requires.some_width c.requires.rows,
    ) in
    rows_taken (length points) w (length targets) (λ i. get_or targets i 0) points missing places
    rows made c.requires.some_width refl R c.requires.points S refl _
    (c.in_ok-copied.ensures.rows
    ∙ ap (λ (ps : List ℕ). joined (length ps) (λ i. row_of rows w (get_or ps i 0)))
    c.deref.ensures.value
    ∙ joined_same (length places) _ _
    (λ i h. sym (row_before rows made w (get_or places i 0)
    (row_fits rows w (get_or places i 0) (within i h)))))
