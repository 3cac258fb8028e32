use Rattle.std.proofs.Common.{◌≡◌, ◌∙◌, ap, arith, sym, length}
use Rattle.cw_base.specs.Config.{same_counts}
use Rattle.cw_types.specs.Numbers.{config_for}
use Rattle.shards.proofs.Lists.{any_epoch, none_epoch}
use Rattle.shards.proofs.configs.has_config.Goals as goal

pub returns-then-is_same-clause-value : goal.returns-then-is_same-clause-value
returns-then-is_same-clause-value c =
    let long : length c.lists-epoch-end.result.now ≡ length c.args.committees.now.lists =
    ap length c.lists-epoch-end.ensures.value in
    sym
    (any_epoch (λ list. same_counts c.args.config.now (config_for (length list)))
    c.args.committees.now.lists c.loop-epoch.epoch (omega arith)
    (ap (same_counts c.args.config.now) (sym c.config.ensures.value)
    ∙ (sym c.is_same.ensures ∙ c.if-is_same.true)))

pub returns-clause-value : goal.returns-clause-value
returns-clause-value c =
    let long : length c.lists-epoch-end.result.now ≡ length c.args.committees.now.lists =
    ap length c.lists-epoch-end.ensures.value in
    sym
    (none_epoch (λ list. same_counts c.args.config.now (config_for (length list)))
    c.args.committees.now.lists c.loop-epoch.epoch (omega arith) c.loop-epoch.invariant)
