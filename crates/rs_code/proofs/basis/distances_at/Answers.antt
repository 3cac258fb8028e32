use Rattle.std.proofs.Common.{◌≡◌, ℕ, ◌+◌, ◌-◌, ◌*◌, ◌<◌, ◌++◌, List, length, get_or, take, drop, take_at, sym, ap, ◌∙◌, arith, ⊎_elim}
use Rattle.std.proofs.lemmas.Bool.{cases_lt}
use Rattle.rs_code.specs.Coefficients.{distance}
use Rattle.rs_code.proofs.basis.distances_at.Goals as goal

-- what a call on the whole slice leaves
written_back : (items news : List ℕ) (len : ℕ) → len ≡ length news
    → take len (news ++ drop (length news) items) ≡ news
written_back items news len h = take_at news (drop (length news) items) len (sym h)

pub loop-group-preserved : goal.loop-group-preserved
loop-group-preserved c =
    let news : List ℕ = c.put_eight.new.elements in
    let start : ℕ = 8 * c.loop-group.group in
    let at : ℕ → ℕ =
    distance (length c.args.points.now) (λ u. get_or c.args.points.now u 0) in
    let long : length news ≡ length c.args.targets.now =
    c.put_eight.ensures.count ∙ ap length c.deref_mut.ensures.value
    ∙ c.loop-group.invariant.count in
    let back : take c.loop-group.distances.len
    (news ++ drop (length news) c.loop-group.distances.items)
    ≡ news =
    written_back c.loop-group.distances.items news c.loop-group.distances.len
    (omega (arith, c.loop-group.distances.ok.0, c.loop-group.invariant.count, long)) in
    record {
      count = ap length back ∙ long;
      each = λ s hi hs.
          ap (λ (xs : List ℕ). get_or xs s 0) back
          ∙ ⊎_elim
          (λ low. c.put_eight.ensures.before s low
          ∙ ap (λ (xs : List ℕ). get_or xs s 0) c.deref_mut.ensures.value
          ∙ c.loop-group.invariant.each s low hs)
          (λ high. (let l : ℕ = s - start in
          let whole : s ≡ start + l = omega (arith, high) in
          let small : l < 8 = omega (arith, hi, high) in
          ap (λ (n : ℕ). get_or news n 0) whole
          ∙ c.put_eight.ensures.own l small
          (omega (
            arith,
            hs,
            high,
            ap length c.deref_mut.ensures.value,
            c.loop-group.invariant.count,
          ))
          ∙ c.distances_of-own.ensures l small
          ∙ ap at
          (c.next_eight.ensures l small (omega (arith, hs, high))
          ∙ ap (λ (n : ℕ). get_or c.args.targets.now n 0) (sym whole))))
          (cases_lt s start);
    }

pub returns-clause-each : goal.returns-clause-each
returns-clause-each c =
    λ s h. c.loop-group.invariant.each s
    (omega (arith, h, c.div_ceil-group-end.ensures, c.loop-group-test.false)) h
