use Rattle.cw_base.proofs.Ends.{end_of_end}
use Rattle.cw_types.proofs.block.Context.read.Goals as goal

pub returns-in_err-view-clause-place : goal.returns-in_err-view-clause-place
returns-in_err-view-clause-place c =
    end_of_end c.be64.ensures.place c.be64-2.ensures.place

pub returns-in_err-leader-clause-place : goal.returns-in_err-leader-clause-place
returns-in_err-leader-clause-place c =
    end_of_end (end_of_end c.be64.ensures.place c.be64-2.ensures.place) c.be16.ensures.place

pub returns-in_err-parent_view-clause-place : goal.returns-in_err-parent_view-clause-place
returns-in_err-parent_view-clause-place c =
    end_of_end (end_of_end c.be64.ensures.place c.be64-2.ensures.place)
    (end_of_end c.be16.ensures.place c.be64-3.ensures.place)

pub returns-in_err-parent-clause-place : goal.returns-in_err-parent-clause-place
returns-in_err-parent-clause-place c =
    end_of_end
    (end_of_end (end_of_end c.be64.ensures.place c.be64-2.ensures.place)
    (end_of_end c.be16.ensures.place c.be64-3.ensures.place))
    c.read.ensures.place

pub returns-clause-place : goal.returns-clause-place
returns-clause-place c =
    end_of_end
    (end_of_end (end_of_end c.be64.ensures.place c.be64-2.ensures.place)
    (end_of_end c.be16.ensures.place c.be64-3.ensures.place))
    c.read.ensures.place
