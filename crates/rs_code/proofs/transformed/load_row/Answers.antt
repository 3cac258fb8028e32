use Rattle.std.proofs.Common.{◌≡◌, ℕ, ◌+◌, ◌*◌, List, set, sym, ap, ap₂, ◌∙◌, arith, ⊎_elim}
use Rattle.std.proofs.lemmas.Bool.{cases_eq}
use Rattle.std.proofs.lemmas.List.{length-set}
use Rattle.rs_code.specs.Columns.{entry}
use Rattle.rs_code.specs.Rows.{symbol}
use Rattle.rs_code.proofs.EntryWrites.{entry_written, entry_stays}
use Rattle.rs_code.proofs.transformed.load_row.Goals as goal

pub loop-column-preserved : goal.loop-column-preserved
unfolding symbol
loop-column-preserved c =
    let n : ℕ = c.args.window.n in
    let row : ℕ = c.args.row in
    let column : ℕ = c.loop-column.column in
    let old : List ℕ = c.loop-column.symbols in
    let v : ℕ = c.from.result * 256 + c.from-in-loop-column.result in
    let is_symbol : v ≡ symbol c.args.rows.now c.args.window.width row (c.args.window.from + column) =
    ap₂ (λ (x y : ℕ). x * 256 + y) c.from.ensures c.from-in-loop-column.ensures in
    let news : List ℕ = set old (row * n + column) v in
    record {
      count = length-set old (row * n + column) v ∙ c.loop-column.invariant.count;
      read = λ j h.
          ⊎_elim
          (λ last. ap (λ (m : ℕ). entry news n row m) last
          ∙ entry_written old n row column v
          (omega (arith, c.requires.own, c.loop-column.invariant.count))
          ∙ is_symbol
          ∙ ap (λ (m : ℕ). symbol c.args.rows.now c.args.window.width row (c.args.window.from + m)) (sym last))
          (λ other. entry_stays old n row column v row j (omega arith) (omega arith) (λ _ e. other e)
          ∙ c.loop-column.invariant.read j (omega (arith, h, other)))
          (cases_eq j column);
      others = λ i j away h.
          entry_stays old n row column v i j (omega arith) h (λ same _. away same)
          ∙ c.loop-column.invariant.others i j away h;
    }
