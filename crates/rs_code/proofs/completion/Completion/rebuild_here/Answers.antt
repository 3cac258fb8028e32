use Rattle.std.proofs.Common.{ℕ, ◌+◌, ◌*◌, ◌/◌, ◌<◌, ◌++◌, bit_xor, List, length, get_or, refl, ap, ap₂, sym, ◌∙◌, subst, arith}
use Rattle.std.proofs.lemmas.Result.{IfOk-weaker}
use Rattle.rs_code.specs.Plans.{Shape}
use Rattle.cw_base.specs.Rows.{row_of}
use Rattle.rs_code.specs.Coefficients.{symbol_through}
use Rattle.rs_code.specs.Field.{times}
use Rattle.rs_code.specs.Rows.{code_row, symbol, symbol_bytes, joined, AreRows}
use Rattle.rs_code.specs.declared.completion.Parts.{Parts}
use Rattle.rs_code.proofs.CompletionSteps.{codeword_long, recoveries_within, rows_given, rows_picked, rows_whole, rebuilt_row, sources_within}
use Rattle.rs_code.proofs.RowBytes.{length-joined, length-symbol_bytes}
use Rattle.rs_code.proofs.completion.Completion.rebuild_here.Goals as goal

pub quotients-requires-clause-others : goal.quotients-requires-clause-others
quotients-requires-clause-others c =
    let w : ℕ = c.args.width in
    let k : ℕ = c.self.inside.k in
    let m : ℕ = c.self.inside.m in
    let points : List ℕ = c.self.inside.points.items in
    let rows : List ℕ = c.args.rows.now in
    let R : AreRows k w rows =
    rows_given c.args.self.now k m w points rows c.self.view_is c.requires.even c.requires.rows
    (λ i. omega (arith, c.type_inv.rows i)) in
    recoveries_within k m w points rows c.self.inside.basis c.self.inside.parts c.self.invariant.0
    c.self.invariant.1 c.self.invariant.2 c.requires.some_width R c.deref.result.now
    (ap length c.deref.ensures.value
    ∙ codeword_long k m w c.in_ok-near.near.items c.add_recoveries_here.new.rows.items c.requires.even
    (c.in_ok-near.ensures.long ∙ ap (λ (n : ℕ). n * w) c.self.invariant.2.sources.count)
    c.in_ok-add_recoveries_here.ensures.ok)

pub originals-requires-clause-whole : goal.originals-requires-clause-whole
originals-requires-clause-whole c =
    let R : AreRows c.self.inside.k c.args.width c.args.rows.now =
    rows_given c.args.self.now c.self.inside.k c.self.inside.m c.args.width
    c.self.inside.points.items c.args.rows.now c.self.view_is c.requires.even c.requires.rows
    (λ i. omega (arith, c.type_inv.rows i)) in
    rows_whole c.args.rows.now c.self.inside.k c.args.width R.long

pub originals-requires-clause-factors : goal.originals-requires-clause-factors
originals-requires-clause-factors c =
    let w : ℕ = c.args.width in
    ap length (c.deref-4.ensures.value ∙ c.in_ok-factors.ensures)
    ∙ length-joined (length c.deref-2.result.now) w _
    (λ i _. length-symbol_bytes (w / 2) _ ∙ omega (arith, c.requires.even))
    ∙ ap (λ (n : ℕ). n * w)
    (ap length c.deref-2.ensures.value ∙ sym c.self.invariant.2.distance_count)

pub originals-requires-clause-within : goal.originals-requires-clause-within
originals-requires-clause-within c = λ i h.
    let w : ℕ = c.args.width in
    let k : ℕ = c.self.inside.k in
    let m : ℕ = c.self.inside.m in
    let points : List ℕ = c.self.inside.points.items in
    let rows : List ℕ = c.args.rows.now in
    let R : AreRows k w rows =
    rows_given c.args.self.now k m w points rows c.self.view_is c.requires.even c.requires.rows
    (λ i. omega (arith, c.type_inv.rows i)) in
    omega (
      arith,
      sources_within k m w points rows c.self.inside.basis c.self.inside.parts c.self.invariant.0
          c.self.invariant.1 c.self.invariant.2 c.requires.some_width R i h,
      c.self.invariant.2.distance_count,
    )

pub rows_behind_here-requires-clause-rows : goal.rows_behind_here-requires-clause-rows
rows_behind_here-requires-clause-rows c =
    c.in_ok-originals.ensures.long
    ∙ ap (λ (n : ℕ). n * c.args.width) c.self.invariant.2.sources.count

pub rows_behind_here-requires-clause-targets : goal.rows_behind_here-requires-clause-targets
rows_behind_here-requires-clause-targets c =
    λ i d h. subst (λ (v : Shape). get_or c.args.targets.now i d < v.k + v.m) (sym c.self.view_is)
    (c.requires.targets i d h)

pub returns : goal.returns
returns c =
    let w : ℕ = c.args.width in
    let k : ℕ = c.self.inside.k in
    let m : ℕ = c.self.inside.m in
    let points : List ℕ = c.self.inside.points.items in
    let rows : List ℕ = c.args.rows.now in
    let basis : List ℕ = c.self.inside.basis in
    let parts : Parts = c.self.inside.parts in
    let whole : List ℕ = c.in_ok-originals.originals.items in
    let R : AreRows k w rows =
    rows_given c.args.self.now k m w points rows c.self.view_is c.requires.even c.requires.rows
    (λ i. omega (arith, c.type_inv.rows i)) in
    IfOk-weaker c.rows_behind_here.result _ _
    (λ v e.
    rows_picked c.args.self.now k m w points rows
    (whole ++ joined m (λ r. code_row k whole w (k + r))) c.args.targets.now c.args.targets.now
    v.items c.self.view_is refl c.requires.targets e
    (λ x h.
    rebuilt_row k m w points rows basis parts c.self.invariant.0 c.self.invariant.1
    c.self.invariant.2 c.requires.some_width R c.in_ok-near.near.items c.add_recoveries_here.new.rows.items
    c.in_ok-quotients.quotients.items c.in_ok-factors.factors.items whole
    (whole ++ joined m (λ r. code_row k whole w (k + r))) c.in_ok-near.ensures.rows
    c.in_ok-add_recoveries_here.ensures.ok
    (c.in_ok-quotients.ensures.rows
    ∙ ap
    (λ (ns : List ℕ). joined (length parts.scales.items) (λ j. symbol_bytes (w / 2) (λ t.
    times (bit_xor (symbol rows w (get_or parts.spots.items j 0) t)
    (symbol ns w (get_or parts.recoveries.items j 0) t)) (get_or parts.scales.items j 0))))
    c.deref.ensures.value)
    (c.in_ok-factors.ensures
    ∙ ap₂
    (λ (ms qs : List ℕ). joined (length ms)
    (λ i. symbol_bytes (w / 2) (λ t. symbol_through basis qs w (get_or ms i 0) t)))
    c.deref-2.ensures.value c.deref-3.ensures.value)
    (c.in_ok-originals.ensures.rows
    ∙ ap
    (λ (fs : List ℕ). joined (length parts.sources.items)
    (λ i. row_of (rows ++ joined (length parts.distances.items) (λ j. symbol_bytes (w / 2)
    (λ t. times (symbol fs w j t) (get_or parts.distances.items j 0)))) w
    (get_or parts.sources.items i 0)))
    c.deref-4.ensures.value)
    refl x h))
    c.rows_behind_here.ensures
