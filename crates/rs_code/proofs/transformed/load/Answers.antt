use Rattle.std.proofs.Common.{◌≢◌, ℕ, ◌+◌, sym, ap, ◌∙◌, arith, ⊎_elim}
use Rattle.std.proofs.lemmas.Bool.{cases_eq}
use Rattle.rs_code.specs.Columns.{entry}
use Rattle.rs_code.specs.Rows.{symbol}
use Rattle.rs_code.proofs.transformed.load.Goals as goal

pub loop-row-preserved : goal.loop-row-preserved
loop-row-preserved c =
    let row : ℕ = c.loop-row.row in
    record {
      count = c.load_row.ensures.count ∙ c.loop-row.invariant.count;
      read = λ i j h l.
          ⊎_elim
          (λ last. ap (λ (m : ℕ). entry c.load_row.new.symbols c.args.window.n m j) last
          ∙ c.load_row.ensures.read j l
          ∙ ap (λ (m : ℕ). symbol c.args.rows.now c.args.window.width m (c.args.window.from + j)) (sym last))
          (λ other. c.load_row.ensures.others i j other l
          ∙ c.loop-row.invariant.read i j (omega (arith, h, other)) l)
          (cases_eq i row);
      others = λ i j h l.
          let apart : i ≢ row = λ e. absurd (omega (arith, h, e)) in
          c.load_row.ensures.others i j apart l ∙ c.loop-row.invariant.others i j (omega (arith, h)) l;
    }
