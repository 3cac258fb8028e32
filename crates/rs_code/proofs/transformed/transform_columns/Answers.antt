use Rattle.std.proofs.Common.{◌≡◌, ℕ, ◌+◌, ◌*◌, ◌<◌, ◌≤◌, ◌^◌, List, sym, ap, ◌∙◌, subst, arith, ⊎_elim, mul-le-mul_right}
use Rattle.std.proofs.lemmas.Bool.{cases_lt}
use Rattle.rs_code.specs.Columns.{entry}
use Rattle.rs_code.specs.Rows.{symbol}
use Rattle.rs_code.specs.Transform.{combined}
use Rattle.rs_code.proofs.EntryWrites.{entry_is}
use Rattle.rs_code.proofs.TransformLaws.{combined_codeword}
use Rattle.rs_code.proofs.TransformRows.{place_below}
use Rattle.rs_code.proofs.transformed.transform_columns.Goals as goal

pub fill_block-requires-clause-block : goal.fill_block-requires-clause-block
fill_block-requires-clause-block c =
    let within = c.pieces-block-end.ensures.within c.loop-block.block (omega arith) in
    let by_size : c.loop-block.block * c.size.result ≡ c.loop-block.block * 2 ^ c.args.setting.now.t =
    ap (λ (m : ℕ). c.loop-block.block * m) c.size.ensures in
    omega (arith, within, by_size)

pub fill_block-requires-clause-zeros : goal.fill_block-requires-clause-zeros
fill_block-requires-clause-zeros c = λ r j from to hj.
    let n : ℕ = c.args.window.n in
    c.inverse.ensures.others r j from to hj ∙ c.load.ensures.others r j from hj
    ∙ entry_is c.args.coefficients.now n r j ∙ c.requires.zeros (r * n + j)
    (omega (
      arith,
      place_below r (2 ^ c.args.setting.now.t) n j to hj,
      c.requires.coefficients,
    ))

pub loop-block-preserved : goal.loop-block-preserved
loop-block-preserved c =
    let block : ℕ = c.loop-block.block in
    record {
      long = c.fill_block.ensures.count ∙ c.loop-block.invariant.long;
      values = c.fill_block.ensures.values;
      written = λ i j hi to hj.
          ⊎_elim
          (λ before. c.fill_block.ensures.others i (c.args.window.start + j)
          (omega (arith, c.requires.own, hj)) (λ from _ _ _. absurd (omega (arith, from, before)))
          ∙ c.loop-block.invariant.written i j hi before hj)
          (λ here. c.fill_block.ensures.written i j hi here to hj)
          (cases_lt (c.args.setting.now.k + i) (block * 2 ^ c.args.setting.now.t));
      others = λ i j h away.
          c.fill_block.ensures.others i j h (λ _ _ from to. away from to)
          ∙ c.loop-block.invariant.others i j h away;
    }

pub returns-clause-written : goal.returns-clause-written
returns-clause-written c = λ i j hi hj.
    let k : ℕ = c.args.setting.now.k in
    let n : ℕ = c.args.window.n in
    let t : ℕ = c.args.setting.now.t in
    let coefficients : List ℕ = c.inverse.new.rows in
    let done : c.pieces-block-end.result * c.size.result ≤ c.loop-block.block * c.size.result =
    mul-le-mul_right c.size.result (omega arith) in
    let by_size : c.loop-block.block * c.size.result ≡ c.loop-block.block * 2 ^ t =
    ap (λ (m : ℕ). c.loop-block.block * m) c.size.ensures in
    let all : c.args.setting.now.k + c.args.setting.now.m ≤ c.loop-block.block * 2 ^ t =
    omega (arith, c.pieces-block-end.ensures.all, done, by_size) in
    c.loop-block.invariant.written i j hi (omega (arith, all, hi)) hj
    ∙ combined_codeword t k (λ r. entry coefficients n r j)
    (λ s. symbol c.args.rows.now c.args.window.width s (c.args.window.from + j))
    (omega (arith, c.requires.total))
    (λ r _. subst (λ (m : ℕ). m < 2 ^ 16) (sym (entry_is coefficients n r j))
    (c.symbols_fit.ensures (r * n + j)))
    (λ r from to. c.inverse.ensures.others r j from to hj ∙ c.load.ensures.others r j from hj
    ∙ entry_is c.args.coefficients.now n r j ∙ c.requires.zeros (r * n + j)
    (omega (arith, place_below r (2 ^ t) n j to hj, c.requires.coefficients)))
    (λ r l. ap (λ (m : ℕ). combined t (λ q. entry coefficients n q j) m)
    (let none : r ≡ 0 * 2 ^ t + r = omega arith in none)
    ∙ c.inverse.ensures.values r j l hj ∙ c.load.ensures.read r j l hj)
    (k + i)
