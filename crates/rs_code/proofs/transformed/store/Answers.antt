use Rattle.std.proofs.Common.{ℕ, ◌+◌, sym, ap, ◌∙◌, arith, ⊎_elim}
use Rattle.std.proofs.lemmas.Bool.{cases_eq}
use Rattle.rs_code.specs.Columns.{entry}
use Rattle.rs_code.specs.Rows.{symbol}
use Rattle.rs_code.proofs.transformed.store.Goals as goal

pub loop-r-preserved : goal.loop-r-preserved
loop-r-preserved c =
    let done : ℕ = c.loop-r.r in
    record {
      long = c.store_row.ensures.long ∙ c.loop-r.invariant.long;
      written = λ r j h l.
          ⊎_elim
          (λ last.
          ap (λ (m : ℕ). symbol c.store_row.new.out c.args.window.wide (c.args.row + m) (c.args.window.start + j))
          last
          ∙ c.store_row.ensures.written j l
          ∙ ap (λ (m : ℕ). entry c.args.symbols.now c.args.window.n (c.args.from + m) j) (sym last))
          (λ other. c.store_row.ensures.others (c.args.row + r) (c.args.window.start + j) (omega arith)
          (λ e _ _. other (omega (arith, e)))
          ∙ c.loop-r.invariant.written r j (omega (arith, h, other)) l)
          (cases_eq r done);
      others = λ i j h away.
          c.store_row.ensures.others i j h
          (λ e low high. away (omega (arith, e)) (omega (arith, e)) low high)
          ∙ c.loop-r.invariant.others i j h
          (λ low high from to. away low (omega (arith, high)) from to);
    }
