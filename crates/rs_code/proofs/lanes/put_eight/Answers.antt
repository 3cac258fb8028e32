use Rattle.std.proofs.Common.{◌≢◌, ℕ, ◌+◌, List, get_or, set, get_or-set_same, get_or-set_other, sym, ap, ◌∙◌, arith, ⊎_elim}
use Rattle.std.proofs.lemmas.Bool.{cases_eq}
use Rattle.std.proofs.lemmas.List.{length-set}
use Rattle.rs_code.proofs.lanes.put_eight.Goals as goal

pub loop-lane-preserved : goal.loop-lane-preserved
loop-lane-preserved c =
    let elements : List ℕ = c.loop-lane.elements in
    let place : ℕ = c.args.done + c.loop-lane.lane in
    let value : ℕ = get_or c.args.own.now c.loop-lane.lane 0 in
    record {
      count = length-set elements place value ∙ c.loop-lane.invariant.count;
      before = λ i h.
          (let apart : i ≢ place = omega arith in get_or-set_other elements place i value 0 apart)
          ∙ c.loop-lane.invariant.before i h;
      written = λ i h.
          ⊎_elim
          (λ last. ap (λ (n : ℕ). get_or (set elements place value) (c.args.done + n) 0) last
          ∙ get_or-set_same elements place value 0 (omega (arith, c.loop-lane.invariant.count))
          ∙ ap (λ (n : ℕ). get_or c.args.own.now n 0) (sym last))
          (λ other.
          (let apart : c.args.done + i ≢ place = λ e. other (omega (arith, e)) in
          get_or-set_other elements place (c.args.done + i) value 0 apart)
          ∙ c.loop-lane.invariant.written i (omega (arith, h, other)))
          (cases_eq i c.loop-lane.lane);
    }
