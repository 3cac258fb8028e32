use Rattle.std.proofs.Common.{ℕ, ◌+◌, ◌*◌, ◌/◌, ◌%◌, ◌<◌, ◌≤◌, List, length, set, sym, ap, ◌∙◌, arith, ⊎_elim}
use Rattle.std.proofs.lemmas.Bool.{cases_eq}
use Rattle.std.proofs.lemmas.List.{length-set}
use Rattle.rs_code.specs.Columns.{entry}
use Rattle.rs_code.specs.Rows.{symbol}
use Rattle.rs_code.proofs.SymbolWrites.{written, not_written}
use Rattle.rs_code.proofs.transformed.store_row.Goals as goal

pub loop-column-preserved : goal.loop-column-preserved
unfolding entry
loop-column-preserved c =
    let width : ℕ = c.args.window.wide in
    let row : ℕ = c.args.row in
    let at : ℕ = c.args.window.start + c.loop-column.column in
    let rows : List ℕ = c.loop-column.out in
    let v : ℕ = entry c.args.symbols.now c.args.window.n c.args.from c.loop-column.column in
    let once : List ℕ = set rows (row * width + 2 * at) (v / 256) in
    let news : List ℕ = set once (row * width + 2 * at + 1) (v % 256) in
    let fits : 2 * (at + 1) ≤ width = omega arith in
    let room : row * width + 2 * at + 1 < length rows =
    omega (arith, c.requires.row, c.loop-column.invariant.long, fits) in
    record {
      long =
          length-set once (row * width + 2 * at + 1) (v % 256)
          ∙ length-set rows (row * width + 2 * at) (v / 256) ∙ c.loop-column.invariant.long;
      written = λ j h.
          ⊎_elim
          (λ last. ap (λ (n : ℕ). symbol news width row (c.args.window.start + n)) last
          ∙ written rows width row at v room
          ∙ ap (λ (n : ℕ). entry c.args.symbols.now c.args.window.n c.args.from n) (sym last))
          (λ other. not_written rows width row at v row (c.args.window.start + j) fits (omega arith)
          (λ _ e. other (omega (arith, e)))
          ∙ c.loop-column.invariant.written j (omega (arith, h, other)))
          (cases_eq j c.loop-column.column);
      others = λ i j h away.
          not_written rows width row at v i j fits h
          (λ same e. away same (omega (arith, e)) (omega (arith, e)))
          ∙ c.loop-column.invariant.others i j h
          (λ same low high. away same low (omega (arith, high)));
    }
