use Rattle.std.proofs.Common.{◌≡◌, arith}
use Rattle.cw_base.proofs.Ends.{end_of_end}
use Rattle.cw_types.proofs.note.read_later_note.Goals as goal

pub returns-in-8-clause-place : goal.returns-in-8-clause-place
returns-in-8-clause-place c =
    end_of_end c.read_later_epoch.ensures.place c.read_entered.ensures.place

pub returns-in-9-clause-place : goal.returns-in-9-clause-place
returns-in-9-clause-place c =
    end_of_end c.read_later_epoch.ensures.place c.read_certified.ensures.place

pub returns-in_default-clause-place : goal.returns-in_default-clause-place
returns-in_default-clause-place c =
    end_of_end c.read_later_epoch.ensures.place c.read_verified.ensures.place

pub returns-in_default-clause-value : goal.returns-in_default-clause-value
returns-in_default-clause-value c =
    let last : c.args.tag ≡ 10 = omega arith in
    rw (last, c.in_ok-epoch.ensures.value) c.read_verified.ensures.value
