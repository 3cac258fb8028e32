use Rattle.std.proofs.Common.{◌≡◌, ℕ, ◌<◌, List, length, replicate, ap, ◌∙◌, arith}
use Rattle.std.proofs.lemmas.List.{length-replicate}
use Rattle.std.specs.List.{each_same}
use Rattle.rs_code.specs.Coefficients.{lane}
use Rattle.rs_code.proofs.LaneLaws.{two_zeros, pair_zero, written_back}
use Rattle.rs_code.proofs.pairs.pair_sums.Goals as goal

pub add_rows-requires-clause-entries : goal.add_rows-requires-clause-entries
add_rows-requires-clause-entries c =
    ap length c.deref_mut-3.ensures.value ∙ c.in_ok-entries.ensures.count

pub returns-clause-count : goal.returns-clause-count
returns-clause-count c =
    let long : length c.in_ok-sums.sums.items ≡ c.args.count =
    ap length (c.in_ok-sums.ensures.items_if_clones_equal (λ y e. each_same two_zeros y e.whole))
    ∙ length-replicate c.args.count two_zeros in
    let news_long : length c.add_rows.new.sums ≡ c.args.count =
    c.add_rows.ensures.count ∙ ap length c.deref_mut.ensures.value ∙ long in
    ap length
    (written_back c.in_ok-sums.sums.items c.add_rows.new.sums c.in_ok-sums.sums.len
    (omega (arith, c.in_ok-sums.sums.ok.0, long, news_long)))
    ∙ news_long

pub returns-clause-each : goal.returns-clause-each
returns-clause-each c = λ j l hj hl.
    let start : c.in_ok-sums.sums.items ≡ replicate c.args.count two_zeros =
    c.in_ok-sums.ensures.items_if_clones_equal (λ y e. each_same two_zeros y e.whole) in
    let long : length c.in_ok-sums.sums.items ≡ c.args.count =
    ap length start ∙ length-replicate c.args.count two_zeros in
    let given : length c.deref_mut.result.now ≡ c.args.count =
    ap length c.deref_mut.ensures.value ∙ long in
    let news_long : length c.add_rows.new.sums ≡ c.args.count = c.add_rows.ensures.count ∙ given in
    let none : (j l : ℕ) → j < length c.deref_mut.result.now → l < 2
    → lane c.deref_mut.result.now j l ≡ 0 =
    λ j l h w. ap (λ (xs : List (List ℕ)). lane xs j l) (c.deref_mut.ensures.value ∙ start)
    ∙ pair_zero c.args.count j l (omega (arith, h, given)) w in
    ap (λ (xs : List (List ℕ)). lane xs j l)
    (written_back c.in_ok-sums.sums.items c.add_rows.new.sums c.in_ok-sums.sums.len
    (omega (arith, c.in_ok-sums.sums.ok.0, long, news_long)))
    ∙ c.add_rows.ensures.each none j l (omega (arith, hj, given)) hl
