use Rattle.std.proofs.Common.{ℕ, ◌++◌, ◌<◌, ◌∙◌, List, Vec, ap, ap₂, arith, length, length-append, subst₂, sym, take_at}
use Rattle.std.specs.declared.alloc.Global.{Global}
use Rattle.rs_code.specs.Recipes.{made_count, made_row}
use Rattle.rs_code.specs.Rows.{joined}
use Rattle.rs_code.specs.Stripes.{HaveRows, row_of_stripes}
use Rattle.rs_code.proofs.RowBytes.{joined_same}
use Rattle.rs_code.proofs.RowFronts.{unchanged}
use Rattle.rs_code.proofs.StripeCuts.{stripes_have, row_of_all}
use Rattle.rs_code.proofs.striped.put_rows_at.Goals as goal

pub put_rows-requires-clause-some : goal.put_rows-requires-clause-some
put_rows-requires-clause-some g c κs within =
    omega (
      arith,
      ap length c.deref-3.ensures.value,
      c.in_ok-done.ensures.count,
      c.requires.some_stripes,
    )

pub put_rows-requires-clause-rows : goal.put_rows-requires-clause-rows
put_rows-requires-clause-rows g c κs within =
    let stripes : List (Vec ℕ Global) = c.in_ok-done.done.stripes.items in
    let some : 0 < length stripes =
    omega (arith, c.in_ok-done.ensures.count, c.requires.some_stripes) in
    subst₂ (HaveRows c.args.width) (sym c.count-n.ensures) (sym c.deref-3.ensures.value)
    (stripes_have c.args.width (made_count c.args.recipe.now) _ stripes some c.requires.even
    c.in_ok-done.ensures.stripes)

pub returns-in_err-done-clause-err : goal.returns-in_err-done-clause-err
returns-in_err-done-clause-err g c = unchanged c.from_residual.result c.args.rows.now.items

pub returns-clause-ok : goal.returns-clause-ok
returns-clause-ok g c =
    let n : ℕ = made_count c.args.recipe.now in
    let width : ℕ = c.args.width in
    let given : List ℕ = c.copy_from_slice.new.self in
    let news : List ℕ = c.put_rows.new.out in
    let room = c.in_ok-done.done.room in
    let stripes : List (Vec ℕ Global) = c.in_ok-done.done.stripes.items in
    let some : 0 < length stripes =
    omega (arith, c.in_ok-done.ensures.count, c.requires.some_stripes) in
    take_at (given ++ news) _ room.len
    (length-append given news
    ∙ omega (
      arith,
      c.copy_from_slice.ensures.len,
      c.split_at_mut-given.ensures.front_len,
      c.split_at_mut-given.ensures.back_len,
      c.put_rows.auto.out,
      c.deref_mut.ensures.len,
      room.ok.0,
    ))
    ∙ ap₂ (λ (xs ys : List ℕ). xs ++ ys)
    (c.copy_from_slice.ensures.after ∙ c.deref-2.ensures.value)
    (c.put_rows.ensures c.args.rows.now
    ∙ ap₂ (λ m xs. joined m (row_of_stripes width xs c.args.rows.now)) c.count-n.ensures
    c.deref-3.ensures.value
    ∙ joined_same n _ _
    (λ i l. row_of_all width n _ stripes c.args.rows.now i some c.requires.even
    c.in_ok-done.ensures.stripes l)
    ∙ ap (λ rows. joined n (made_row c.args.recipe.now rows width)) c.deref.ensures.value)
