use Rattle.std.proofs.Common.{◌≡◌, ℕ, ◌+◌, ◌-◌, ◌*◌, ◌<◌, ◌≤◌, ◌^◌, List, sym, ap, ◌∙◌, arith}
use Rattle.rs_code.specs.Columns.{entry}
use Rattle.rs_code.specs.Rows.{symbol}
use Rattle.rs_code.specs.Transform.{combined}
use Rattle.rs_code.proofs.TransformSizes.{block_within}
use Rattle.rs_code.proofs.transformed.fill_block.Goals as goal

pub forward-requires-clause-block : goal.forward-requires-clause-block
forward-requires-clause-block c =
    block_within c.args.setting.now.t c.args.block (c.args.setting.now.k + c.args.setting.now.m) c.requires.fits c.requires.block
    (omega (arith, c.requires.total))

pub forward-requires-clause-zeros : goal.forward-requires-clause-zeros
forward-requires-clause-zeros c = λ i j from to l.
    ap (λ (xs : List ℕ). entry xs c.args.window.n i j) c.copy_from_slice.ensures.after
    ∙ c.requires.zeros i j from to l

pub returns-clause-written : goal.returns-clause-written
returns-clause-written c = λ i j hi from to hj.
    let begin : ℕ = c.args.block * c.size-each.result in
    let first : ℕ = c.saturating_sub-first.result in
    let is_size = c.size-each.ensures in
    let same_size = c.size-each.ensures in
    let begins : begin ≡ c.args.block * 2 ^ c.args.setting.now.t = ap (λ (m : ℕ). c.args.block * m) is_size in
    let is_first : first ≡ c.args.setting.now.k - begin = c.saturating_sub-first.ensures in
    let place : ℕ = c.args.setting.now.k + i - begin in
    let after : first ≤ place = omega (arith, is_first, from, begins) in
    let below : place < 2 ^ c.args.setting.now.t = omega (arith, to, begins, from) in
    let before : place < c.min-last.result =
    omega (arith, c.min-last.ensures, below, same_size, hi, from, begins) in
    let row : begin + first - c.args.setting.now.k + (place - first) ≡ i =
    omega (arith, is_first, from, begins, after) in
    let own : first + (place - first) ≡ place = omega (arith, after) in
    let count : place - first < c.saturating_sub.result =
    omega (arith, c.saturating_sub.ensures, before, after) in
    let element : c.args.block * 2 ^ c.args.setting.now.t + place ≡ c.args.setting.now.k + i = omega (arith, from, begins) in
    ap (λ (m : ℕ). symbol c.store.new.out c.args.window.wide m (c.args.window.start + j)) (sym row)
    ∙ c.store.ensures.written (place - first) j count hj
    ∙ ap (λ (m : ℕ). entry c.forward.new.rows c.args.window.n m j) own
    ∙ c.forward.ensures.values place j after before below hj
    ∙ ap (λ (xs : List ℕ). combined c.args.setting.now.t (λ r. entry xs c.args.window.n r j)
    (c.args.block * 2 ^ c.args.setting.now.t + place)) c.copy_from_slice.ensures.after
    ∙ ap (λ (m : ℕ). combined c.args.setting.now.t (λ r. entry c.args.coefficients.now c.args.window.n r j) m) element
