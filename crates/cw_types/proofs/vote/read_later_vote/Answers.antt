use Rattle.std.proofs.Common.{◌≡◌, arith}
use Rattle.cw_base.proofs.Ends.{end_of_end}
use Rattle.cw_types.proofs.vote.read_later_vote.Goals as goal

pub returns-in-3-clause-place : goal.returns-in-3-clause-place
returns-in-3-clause-place c =
    end_of_end c.read_later_epoch.ensures.place c.read_notarize.ensures.place

pub returns-in-4-clause-place : goal.returns-in-4-clause-place
returns-in-4-clause-place c =
    end_of_end c.read_later_epoch.ensures.place c.read_nullify.ensures.place

pub returns-in_default-clause-place : goal.returns-in_default-clause-place
returns-in_default-clause-place c =
    end_of_end c.read_later_epoch.ensures.place c.read_finalize.ensures.place

pub returns-in_default-clause-value : goal.returns-in_default-clause-value
returns-in_default-clause-value c =
    let last : c.args.tag ≡ 5 = omega arith in
    rw (last, c.in_ok-epoch.ensures.value) c.read_finalize.ensures.value
