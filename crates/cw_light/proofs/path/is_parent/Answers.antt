use Rattle.std.proofs.Common.{◌≡◌, ◌+◌, ◌==◌, ◌&&◌, true, false, ◌∙◌, ap, sym, nat_eq}
use Rattle.cw_types.specs.Block.{Block}
use Rattle.cw_types.specs.declared.block.Context.{Context}
use Rattle.cw_rules.specs.Rules.{Rules}
use Rattle.cw_rules_coded.specs.Coded.{coded}
use Rattle.cw_light.specs.Checking.{is_named_by}
use Rattle.cw_light.proofs.path.is_parent.Goals as goal

pub returns-then-is_named : goal.returns-then-is_named
returns-then-is_named g c = λ backlog accepts.
    let r : Rules = coded g.H.Hasher.digest_of c.args.committees.now backlog accepts in
    let b : Block = c.args.block.now in
    let above : Block = c.args.above.now in
    let is : is_named_by r above.context.parent b ≡ true =
    sym
    (c.in_ok-is_named.ensures backlog accepts
    ∙ ap (λ (x : Context). is_named_by r x.parent b) c.context.ensures)
    ∙ c.if-is_named.true in
    (λ i. nat_eq (c.height.ensures.value i + 1) (c.height-then-is_named.ensures.value i))
    ∙ sym (ap (λ t. t && (b.height + 1 == above.height)) is)

pub returns-else-is_named : goal.returns-else-is_named
returns-else-is_named g c = λ backlog accepts.
    let r : Rules = coded g.H.Hasher.digest_of c.args.committees.now backlog accepts in
    let b : Block = c.args.block.now in
    let above : Block = c.args.above.now in
    let is : is_named_by r above.context.parent b ≡ false =
    sym
    (c.in_ok-is_named.ensures backlog accepts
    ∙ ap (λ (x : Context). is_named_by r x.parent b) c.context.ensures)
    ∙ c.if-is_named.false in
    c.if-is_named.false ∙ sym (ap (λ t. t && (b.height + 1 == above.height)) is)
