use Rattle.std.proofs.Common.{◌≡◌, ℕ, ◌+◌, ◌/◌, ◌<◌, ◌++◌, List, length, get_or, sym, ap, ap₂, ◌∙◌, subst, subst₂, arith}
use Rattle.cw_base.specs.Rows.{row_of}
use Rattle.rs_code.specs.Codeword.{ArePoints}
use Rattle.rs_code.specs.Completions.{AreSources}
use Rattle.rs_code.specs.Rows.{joined, row_through, AreRows}
use Rattle.rs_code.proofs.CompletionSteps.{rows_whole}
use Rattle.rs_code.proofs.Restored.{rows_taken, sources_fit}
use Rattle.rs_code.proofs.RowBytes.{joined_same, row_of_codeword}
use Rattle.rs_code.proofs.plan.Plan.rebuild_here.Goals as goal

pub sources_of-requires-clause-few : goal.sources_of-requires-clause-few
sources_of-requires-clause-few c =
    omega (
      arith,
      ap length c.points.ensures.value,
      c.points.ensures.count,
      c.points.ensures.few,
    )

pub sources_of-requires-clause-points : goal.sources_of-requires-clause-points
sources_of-requires-clause-points c =
    subst₂ (λ (n : ℕ) (ps : List ℕ). ArePoints n (λ s. get_or ps s 0))
    (sym (ap length c.points.ensures.value ∙ c.points.ensures.count))
    (sym c.points.ensures.value) c.points.ensures.distinct

pub picked_of_two-requires-clause-whole : goal.picked_of_two-requires-clause-whole
picked_of_two-requires-clause-whole c =
    rows_whole c.args.rows.now c.args.self.now.k c.args.width c.requires.rows

pub picked_of_two-requires-clause-within : goal.picked_of_two-requires-clause-within
picked_of_two-requires-clause-within c = λ i h.
    let w : ℕ = c.args.width in
    let k : ℕ = c.args.self.now.k in
    let rows : List ℕ = c.args.rows.now in
    let targets : List ℕ = c.args.targets.now in
    let points : List ℕ = c.args.self.now.points in
    let missing : List ℕ = c.in_ok-sources.sources.missing.items in
    let places : List ℕ = c.in_ok-sources.sources.places.items in
    let made : List ℕ = c.in_ok-made.made.items in
    let R : AreRows k w rows =
    record {
      even = c.requires.even;
      long = c.requires.rows;
      bytes = λ i. omega (arith, c.type_inv.rows i);
    } in
    let S : AreSources (length targets) (λ i. get_or targets i 0) points missing places =
    subst (λ (ps : List ℕ). AreSources (length targets) (λ i. get_or targets i 0) ps missing places)
    c.points.ensures.value c.in_ok-sources.ensures.sources in
    let M : made ≡ joined (length missing)
    (λ j. row_through k (λ s. get_or points s 0) rows w (get_or missing j 0)) =
    c.in_ok-made.ensures
    ∙ ap (λ (ms : List ℕ). joined (length ms)
    (λ j. row_through k (λ s. get_or points s 0) rows w (get_or ms j 0)))
    c.deref.ensures.value in
    subst₂ (λ (ps ms : List ℕ). get_or ps i 0 < (length rows + length ms) / w)
    (sym c.deref-3.ensures.value) (sym c.deref-2.ensures.value)
    (sources_fit k w (length targets) (λ i. get_or targets i 0) points missing places rows made
    c.requires.some_width c.points.ensures.count R c.points.ensures.distinct S M i
    (omega (arith, h, ap length c.deref-3.ensures.value)))

pub returns-clause-rows : goal.returns-clause-rows
returns-clause-rows c =
    let w : ℕ = c.args.width in
    let k : ℕ = c.args.self.now.k in
    let rows : List ℕ = c.args.rows.now in
    let targets : List ℕ = c.args.targets.now in
    let points : List ℕ = c.args.self.now.points in
    let missing : List ℕ = c.in_ok-sources.sources.missing.items in
    let places : List ℕ = c.in_ok-sources.sources.places.items in
    let made : List ℕ = c.in_ok-made.made.items in
    let R : AreRows k w rows =
    record {
      even = c.requires.even;
      long = c.requires.rows;
      bytes = λ i. omega (arith, c.type_inv.rows i);
    } in
    let S : AreSources (length targets) (λ i. get_or targets i 0) points missing places =
    subst (λ (ps : List ℕ). AreSources (length targets) (λ i. get_or targets i 0) ps missing places)
    c.points.ensures.value c.in_ok-sources.ensures.sources in
    let M : made ≡ joined (length missing)
    (λ j. row_through k (λ s. get_or points s 0) rows w (get_or missing j 0)) =
    c.in_ok-made.ensures
    ∙ ap (λ (ms : List ℕ). joined (length ms)
    (λ j. row_through k (λ s. get_or points s 0) rows w (get_or ms j 0)))
    c.deref.ensures.value in
    rows_taken k w (length targets) (λ i. get_or targets i 0) points missing places rows made
    c.requires.some_width c.points.ensures.count R c.points.ensures.distinct S M _
    (c.in_ok-rebuilt.ensures.rows
    ∙ ap₂ (λ (ps ms : List ℕ). joined (length ps) (λ i. row_of (rows ++ ms) w (get_or ps i 0)))
    c.deref-3.ensures.value c.deref-2.ensures.value)

pub returns-clause-codeword : goal.returns-clause-codeword
returns-clause-codeword c = λ originals own.
    let w : ℕ = c.args.width in
    let k : ℕ = c.args.self.now.k in
    let rows : List ℕ = c.args.rows.now in
    let targets : List ℕ = c.args.targets.now in
    let points : List ℕ = c.args.self.now.points in
    let missing : List ℕ = c.in_ok-sources.sources.missing.items in
    let places : List ℕ = c.in_ok-sources.sources.places.items in
    let made : List ℕ = c.in_ok-made.made.items in
    let R : AreRows k w rows =
    record {
      even = c.requires.even;
      long = c.requires.rows;
      bytes = λ i. omega (arith, c.type_inv.rows i);
    } in
    let S : AreSources (length targets) (λ i. get_or targets i 0) points missing places =
    subst (λ (ps : List ℕ). AreSources (length targets) (λ i. get_or targets i 0) ps missing places)
    c.points.ensures.value c.in_ok-sources.ensures.sources in
    let M : made ≡ joined (length missing)
    (λ j. row_through k (λ s. get_or points s 0) rows w (get_or missing j 0)) =
    c.in_ok-made.ensures
    ∙ ap (λ (ms : List ℕ). joined (length ms)
    (λ j. row_through k (λ s. get_or points s 0) rows w (get_or ms j 0)))
    c.deref.ensures.value in
    rows_taken k w (length targets) (λ i. get_or targets i 0) points missing places rows made
    c.requires.some_width c.points.ensures.count R c.points.ensures.distinct S M _
    (c.in_ok-rebuilt.ensures.rows
    ∙ ap₂ (λ (ps ms : List ℕ). joined (length ps) (λ i. row_of (rows ++ ms) w (get_or ps i 0)))
    c.deref-3.ensures.value c.deref-2.ensures.value)
    ∙ joined_same (length targets) _ _
    (λ i _. row_of_codeword k (λ s. get_or points s 0) rows originals w (get_or targets i 0)
    (omega (arith, c.points.ensures.few)) c.points.ensures.distinct c.requires.even own)
