use Rattle.std.proofs.Common.{ap, ◌∙◌, List}
use Rattle.std.specs.List.{list_any}
use Rattle.cw_rules.specs.Report.{Entry}
use Rattle.cw_rules.specs.World.{is_sent_vote}
use Rattle.hail_report.specs.Pool.{sent_in}
use Rattle.hail_report.proofs.pool.Pool.has_vote.Goals as goal

pub returns : goal.returns
returns c =
    let test = is_sent_vote c.args.member c.args.vote.now in
    c.has.ensures ∙ c.self.invariant.1 c.args.member c.args.vote.now
    ∙ ap (λ (l : List Entry). list_any test (sent_in l)) c.self.view_is
