use Rattle.std.proofs.Common.{◌∙◌, sym}
use Rattle.cw_rules.specs.World.{is_sent_vote}
use Rattle.run_light.proofs.Tables.{any_sent}
use Rattle.run_light.proofs.table.some_sends.Goals as goal

pub returns : goal.returns
returns c =
    c.any_sends.ensures
    ∙ sym (any_sent (is_sent_vote c.args.member c.args.vote.now) c.args.entries.now)
