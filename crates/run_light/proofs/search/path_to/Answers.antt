use Rattle.std.proofs.Common.{◌≡◌, ◌<◌, ◌≤◌, ◌∷◌, ◌++◌, [], List, Option, Some, None, cond, ◌==◌, ◌∙◌, ap, sym, arith}
use Rattle.std.proofs.lemmas.Result.{IfOk-weaker}
use Rattle.cw_types.specs.Block.{Block}
use Rattle.cw_rules.specs.Rules.{Rules}
use Rattle.cw_rules_coded.specs.Coded.{coded}
use Rattle.hail_world.proofs.Nothing.{none_when}
use Rattle.run_light.specs.Finding.{path_to}
use Rattle.run_light.proofs.Paths.{behind, behind_end, behind_on, behind_start, from, smaller}
use Rattle.run_light.proofs.search.path_to.Goals as goal

pub loop-next-init : goal.loop-next-init
loop-next-init g c = λ epochs backlog accepts.
    let r : Rules = coded g.H.Hasher.digest_of epochs backlog accepts in
    ap (λ gone. behind r c.args.notes.now c.args.height gone c.in_ok-next.next) c.new-path.ensures
    ∙ (behind_start r c.args.notes.now c.args.height c.in_ok-next.next
    ∙ ap (from r c.args.notes.now c.args.height) (c.in_ok-next.ensures epochs backlog accepts))

pub returns-then-height : goal.returns-then-height
returns-then-height g c = λ epochs backlog accepts.
    let r : Rules = coded g.H.Hasher.digest_of epochs backlog accepts in
    let b : Block = c.in-Some.block in
    let low : b.height ≤ c.args.height = omega (arith, c.if-height.true, c.height.ensures.value) in
    IfOk-weaker c.path_end.result
    (λ (made : Option (List Block)). made
    ≡ cond (b.height == c.args.height) (Some (c.loop-next.path ++ b ∷ [])) None)
    (λ (made : Option (List Block)). made
    ≡ path_to r c.args.notes.now c.args.height c.args.commitment.now)
    (λ made h. h
    ∙ (sym (behind_end r c.args.notes.now c.args.height c.loop-next.path b low)
    ∙ (ap (behind r c.args.notes.now c.args.height c.loop-next.path) (sym c.in-Some.is)
    ∙ c.loop-next.invariant epochs backlog accepts)))
    c.path_end.ensures

pub loop-next-smaller : goal.loop-next-smaller
loop-next-smaller g c =
    smaller c.in-Some.block c.in_ok-next-2.next c.loop-next.next c.in-Some.is
    c.in_ok-next-2.ensures.below

pub loop-next-preserved : goal.loop-next-preserved
loop-next-preserved g c = λ epochs backlog accepts.
    let r : Rules = coded g.H.Hasher.digest_of epochs backlog accepts in
    let b : Block = c.in-Some.block in
    let high : c.args.height < b.height =
    omega (arith, c.if-height.false, c.height.ensures.value) in
    ap (λ gone. behind r c.args.notes.now c.args.height gone c.in_ok-next-2.next)
    c.in_ok-push.ensures.ok
    ∙ (behind_on r c.args.notes.now c.args.height c.loop-next.path b c.in_ok-next-2.next high
    (c.in_ok-next-2.ensures.value epochs backlog accepts)
    ∙ (ap (behind r c.args.notes.now c.args.height c.loop-next.path) (sym c.in-Some.is)
    ∙ c.loop-next.invariant epochs backlog accepts))

pub returns : goal.returns
returns g c = λ epochs backlog accepts.
    let r : Rules = coded g.H.Hasher.digest_of epochs backlog accepts in
    sym
    (sym (c.loop-next.invariant epochs backlog accepts)
    ∙ ap (behind r c.args.notes.now c.args.height c.loop-next.path)
    (none_when c.loop-next.next c.in_default.not-Some))
