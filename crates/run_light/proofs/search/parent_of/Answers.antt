use Rattle.std.proofs.Common.{◌+◌, ◌∙◌, ap, sym, arith, eq-eqb, ne_eqb}
use Rattle.cw_types.specs.Block.{Block}
use Rattle.cw_types.specs.declared.block.Context.{Context}
use Rattle.cw_rules.specs.Held.{held}
use Rattle.cw_rules.specs.Rules.{Rules}
use Rattle.cw_rules_coded.specs.Coded.{coded}
use Rattle.run_light.proofs.Paths.{is_parent, no_parent, other_height}
use Rattle.run_light.proofs.search.parent_of.Goals as goal

pub returns-in-None-clause-value : goal.returns-in-None-clause-value
returns-in-None-clause-value g c = λ epochs backlog accepts.
    let r : Rules = coded g.H.Hasher.digest_of epochs backlog accepts in
    let e =
    c.in_ok-held.ensures epochs backlog accepts
    ∙ ap (λ (x : Context). held r c.args.notes.now x.parent) c.context.ensures in
    sym (no_parent r c.args.notes.now c.args.block.now c.in_ok-held.field-0 e c.in-None.is)

pub returns-then-height-clause-value : goal.returns-then-height-clause-value
returns-then-height-clause-value g c = λ epochs backlog accepts.
    let r : Rules = coded g.H.Hasher.digest_of epochs backlog accepts in
    let a : Block = c.in-Some.parent in
    let b : Block = c.args.block.now in
    let e =
    c.in_ok-held.ensures epochs backlog accepts
    ∙ ap (λ (x : Context). held r c.args.notes.now x.parent) c.context.ensures in
    sym
    (is_parent r c.args.notes.now b a c.in_ok-held.field-0 e c.in-Some.is
    (eq-eqb (a.height + 1) b.height
    (omega (
      arith,
      c.if-height.true,
      c.height.ensures.value,
      c.height-in-Some.ensures.value,
    ))))

pub returns-else-height-clause-value : goal.returns-else-height-clause-value
returns-else-height-clause-value g c = λ epochs backlog accepts.
    let r : Rules = coded g.H.Hasher.digest_of epochs backlog accepts in
    let a : Block = c.in-Some.parent in
    let b : Block = c.args.block.now in
    let e =
    c.in_ok-held.ensures epochs backlog accepts
    ∙ ap (λ (x : Context). held r c.args.notes.now x.parent) c.context.ensures in
    sym
    (other_height r c.args.notes.now b a c.in_ok-held.field-0 e c.in-Some.is
    (ne_eqb (a.height + 1) b.height
    (λ s. c.if-height.false
    (omega (arith, s, c.height.ensures.value, c.height-in-Some.ensures.value)))))
