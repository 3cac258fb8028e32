use Rattle.std.proofs.Common.{◌≡◌, ℕ, ◌+◌, List, length, take, get_or, sym, ap, ◌∙◌, subst, subst₂, arith, length-take-le}
use Rattle.rs_code.specs.Codeword.{ArePoints}
use Rattle.rs_code.specs.Indices.{AreSound}
use Rattle.rs_code.proofs.IndexLaws.{AreSound-points, AreSound-take}
use Rattle.rs_code.proofs.plan.plan_by.Goals as goal

pub means_of-requires-clause-count : goal.means_of-requires-clause-count
means_of-requires-clause-count c =
    let k : ℕ = c.args.k in
    let present : List ℕ = c.args.present.now in
    let items : c.in_ok-points.points.items ≡ take k present =
    c.in_ok-points.ensures.items ∙ ap (λ (n : ℕ). take n present) c.from.ensures in
    ap length items ∙ length-take-le k present c.requires.enough

pub means_of-requires-clause-sound : goal.means_of-requires-clause-sound
means_of-requires-clause-sound c =
    let k : ℕ = c.args.k in
    let total : ℕ = k + c.args.m in
    let present : List ℕ = c.args.present.now in
    let items : c.in_ok-points.points.items ≡ take k present =
    c.in_ok-points.ensures.items ∙ ap (λ (n : ℕ). take n present) c.from.ensures in
    subst (λ (xs : List ℕ). AreSound total xs) (sym items)
    (AreSound-take total k present c.requires.sound)

pub means_of-requires-clause-points : goal.means_of-requires-clause-points
means_of-requires-clause-points c =
    let present = c.args.present.now in
    let k = c.args.k in
    let items : c.in_ok-points.points.items ≡ take k present =
    c.in_ok-points.ensures.items ∙ ap (λ (n : ℕ). take n present) c.from.ensures in
    let points : ArePoints k (λ s. get_or (take k present) s 0) =
    AreSound-points (k + c.args.m) k present c.requires.sound c.requires.enough
    (λ s l. omega (arith, c.type_inv.present s)) in
    let count : k ≡ length c.in_ok-points.points.items =
    sym (ap length items ∙ length-take-le k present c.requires.enough) in
    subst₂ (λ (n : ℕ) (xs : List ℕ). ArePoints n (λ s. get_or xs s 0)) count (sym items) points
