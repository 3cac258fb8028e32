use Rattle.std.proofs.Common.{◌≡◌, ℕ, ◌+◌, ◌*◌, ◌/◌, ◌++◌, List, take_at, length-append, ap, ◌∙◌, arith}
use Rattle.rs_code.specs.Recipes.{made_count, made_symbol, made_row}
use Rattle.rs_code.specs.Rows.{joined}
use Rattle.rs_code.proofs.RowBytes.{joined_same, symbol_bytes_same}
use Rattle.rs_code.proofs.RowFronts.{front}
use Rattle.rs_code.proofs.striped.put_whole_rows.Goals as goal

pub returns-clause-ok : goal.returns-clause-ok
returns-clause-ok c =
    let old : List ℕ = c.args.rows.now.items in
    let n : ℕ = made_count c.args.recipe.now in
    let given : List ℕ = c.split_at_mut-given.result.0.now in
    let news : List ℕ = c.fill_rows.new.out in
    let size : ℕ = c.len-size.result in
    let same : given ≡ old =
    front old _ c.resize.new.self.items c.deref_mut.result.now given size
    (size + c.count.result * c.args.width) (omega (arith, c.len-size.ensures)) (omega arith)
    c.split_at_mut-given.ensures.front c.deref_mut.ensures.value c.in_ok-resize.ensures.items in
    take_at (given ++ news) _ c.resize.new.self.len
    (length-append given news
    ∙ omega (
      arith,
      c.split_at_mut-given.ensures.front_len,
      c.split_at_mut-given.ensures.back_len,
      c.fill_rows.ensures.count,
      c.deref_mut.ensures.len,
      c.resize.new.self.ok.0,
    ))
    ∙ ap (λ rows. given ++ rows) (c.in_ok-fill_rows.ensures.rows
    ∙ joined_same n _ _ (λ i _. symbol_bytes_same (c.args.width / 2) _ _ (λ j _.
    ap (made_symbol c.args.recipe.now given c.args.width i)
    (let first : 0 + j ≡ j = omega arith in first))))
    ∙ ap (λ rows. rows ++ joined n (made_row c.args.recipe.now rows c.args.width)) same
