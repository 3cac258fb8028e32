use Rattle.std.proofs.Common.{◌≡◌, ℕ, ◌+◌, ◌<◌, List, length, take, get_or, sym, ap, ◌∙◌, subst, subst₂, arith, length-take-le, IfSome, Option, Vec}
use Rattle.std.specs.declared.alloc.Global.{Global}
use Rattle.std.proofs.lemmas.List.{get_or_default}
use Rattle.std.proofs.lemmas.Result.{IfOk-weaker}
use Rattle.rs_code.specs.Codeword.{ArePoints}
use Rattle.rs_code.specs.Plans.{Shape}
use Rattle.rs_code.specs.Rows.{joined, row_through}
use Rattle.rs_code.proofs.IndexLaws.{AreSound-points}
use Rattle.rs_code.proofs.Restored.{all_copied, all_rebuilt, restored_codeword}
use Rattle.rs_code.proofs.plan.restore.Goals as goal

pub copied-requires-clause-points : goal.copied-requires-clause-points
copied-requires-clause-points g c =
    let k : ℕ = c.args.k in
    let present : List ℕ = c.args.present.now in
    let same : take c.from-3.result present ≡ take k present =
    ap (λ (n : ℕ). take n present) c.from-3.ensures in
    subst₂ (λ (n : ℕ) (xs : List ℕ). ArePoints n (λ s. get_or xs s 0))
    (sym (ap length same ∙ length-take-le k present c.requires.enough)) (sym same)
    (AreSound-points (k + c.args.m) k present c.requires.sound c.requires.enough
    (λ s _. omega (arith, c.type_inv.present s)))

pub copied-requires-clause-targets : goal.copied-requires-clause-targets
copied-requires-clause-targets g c = λ i d h.
    let k : ℕ = c.args.k in
    let present : List ℕ = c.args.present.now in
    let all : List ℕ = c.deref.result.now in
    let long : length all ≡ k =
    ap length c.deref.ensures.value ∙ c.in_ok-originals.ensures.count in
    let each : (s : ℕ) → s < k → get_or all s 0 ≡ s =
    λ s h. ap (λ (xs : List ℕ). get_or xs s 0) c.deref.ensures.value
    ∙ c.in_ok-originals.ensures.each s h ∙ (let own : 0 + s ≡ s = omega arith in own) in
    omega (
      arith,
      get_or_default all i d 0 h,
      each i (omega (arith, h, long)),
      h,
      long,
      c.from.ensures,
    )

pub returns-in-Some-clause-rows : goal.returns-in-Some-clause-rows
returns-in-Some-clause-rows g c =
    let k : ℕ = c.args.k in
    let present : List ℕ = c.args.present.now in
    let all : List ℕ = c.deref.result.now in
    let long : length all ≡ k =
    ap length c.deref.ensures.value ∙ c.in_ok-originals.ensures.count in
    let each : (s : ℕ) → s < k → get_or all s 0 ≡ s =
    λ s h. ap (λ (xs : List ℕ). get_or xs s 0) c.deref.ensures.value
    ∙ c.in_ok-originals.ensures.each s h ∙ (let own : 0 + s ≡ s = omega arith in own) in
    all_copied k c.args.width present c.args.rows.now all long each
    (take c.from-3.result present) c.in-Some.copied.items
    (ap (λ (n : ℕ). take n present) c.from-3.ensures) c.requires.enough
    (subst (λ (found : Option (Vec ℕ Global)). IfSome found (λ v. v.items ≡ joined (length all)
    (λ i. row_through (length (take c.from-3.result present))
    (λ s. get_or (take c.from-3.result present) s 0) c.args.rows.now c.args.width
    (get_or all i 0))))
    c.in-Some.is c.in_ok-copied.ensures)

pub returns-in-Some-clause-codeword : goal.returns-in-Some-clause-codeword
returns-in-Some-clause-codeword g c = λ originals own.
    let k : ℕ = c.args.k in
    let present : List ℕ = c.args.present.now in
    let all : List ℕ = c.deref.result.now in
    let long : length all ≡ k =
    ap length c.deref.ensures.value ∙ c.in_ok-originals.ensures.count in
    let each : (s : ℕ) → s < k → get_or all s 0 ≡ s =
    λ s h. ap (λ (xs : List ℕ). get_or xs s 0) c.deref.ensures.value
    ∙ c.in_ok-originals.ensures.each s h ∙ (let own : 0 + s ≡ s = omega arith in own) in
    all_copied k c.args.width present c.args.rows.now all long each
    (take c.from-3.result present) c.in-Some.copied.items
    (ap (λ (n : ℕ). take n present) c.from-3.ensures) c.requires.enough
    (subst (λ (found : Option (Vec ℕ Global)). IfSome found (λ v. v.items ≡ joined (length all)
    (λ i. row_through (length (take c.from-3.result present))
    (λ s. get_or (take c.from-3.result present) s 0) c.args.rows.now c.args.width
    (get_or all i 0))))
    c.in-Some.is c.in_ok-copied.ensures)
    ∙ restored_codeword k c.args.width present c.args.rows.now all long each c.args.m originals
    c.requires.few c.requires.even c.requires.sound c.requires.enough
    (λ s _. omega (arith, c.type_inv.present s)) own

pub rebuild-requires-clause-targets : goal.rebuild-requires-clause-targets
rebuild-requires-clause-targets g c = λ κs pre i d h.
    let k : ℕ = c.args.k in
    let present : List ℕ = c.args.present.now in
    let all : List ℕ = c.deref-2.result.now in
    let long : length all ≡ k =
    ap length c.deref-2.ensures.value ∙ c.in_ok-originals.ensures.count in
    let each : (s : ℕ) → s < k → get_or all s 0 ≡ s =
    λ s h. ap (λ (xs : List ℕ). get_or xs s 0) c.deref-2.ensures.value
    ∙ c.in_ok-originals.ensures.each s h ∙ (let own : 0 + s ≡ s = omega arith in own) in
    omega (
      arith,
      get_or_default all i d 0 h,
      each i (omega (arith, h, long)),
      h,
      long,
      ap (λ (p : Shape). p.k) c.in_ok-plan.ensures,
    )

pub returns-clause-rows : goal.returns-clause-rows
returns-clause-rows g c =
    let k : ℕ = c.args.k in
    let present : List ℕ = c.args.present.now in
    let all : List ℕ = c.deref-2.result.now in
    let long : length all ≡ k =
    ap length c.deref-2.ensures.value ∙ c.in_ok-originals.ensures.count in
    let each : (s : ℕ) → s < k → get_or all s 0 ≡ s =
    λ s h. ap (λ (xs : List ℕ). get_or xs s 0) c.deref-2.ensures.value
    ∙ c.in_ok-originals.ensures.each s h ∙ (let own : 0 + s ≡ s = omega arith in own) in
    IfOk-weaker c.rebuild.result _ _
    (λ v e. all_rebuilt k c.args.width present c.args.rows.now all long each c.args.m
    c.in_ok-plan.plan v.items c.in_ok-plan.ensures e)
    c.rebuild.ensures.rows

pub returns-clause-codeword : goal.returns-clause-codeword
returns-clause-codeword g c = λ originals own.
    let k : ℕ = c.args.k in
    let present : List ℕ = c.args.present.now in
    let all : List ℕ = c.deref-2.result.now in
    let long : length all ≡ k =
    ap length c.deref-2.ensures.value ∙ c.in_ok-originals.ensures.count in
    let each : (s : ℕ) → s < k → get_or all s 0 ≡ s =
    λ s h. ap (λ (xs : List ℕ). get_or xs s 0) c.deref-2.ensures.value
    ∙ c.in_ok-originals.ensures.each s h ∙ (let own : 0 + s ≡ s = omega arith in own) in
    IfOk-weaker c.rebuild.result _ _
    (λ v e. all_rebuilt k c.args.width present c.args.rows.now all long each c.args.m
    c.in_ok-plan.plan v.items c.in_ok-plan.ensures e
    ∙ restored_codeword k c.args.width present c.args.rows.now all long each c.args.m originals
    c.requires.few c.requires.even c.requires.sound c.requires.enough
    (λ s _. omega (arith, c.type_inv.present s)) own)
    c.rebuild.ensures.rows
