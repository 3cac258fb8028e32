use Rattle.cw_types.specs.Epochs.{members_in}
use Rattle.cw_types.proofs.EpochLemmas.{committee_members, members_committee, span_positive}
use Rattle.cw_types.proofs.laws.committees_are_sound.Goals as goal

pub returns-clause-enough : goal.returns-clause-enough
returns-clause-enough c epoch =
    (committee_members c.args.committees.now.total (members_in c.args.committees.now epoch)
    (members_committee c.args.committees.now epoch c.lists-lists.ensures.sound)).enough

pub returns-clause-rising : goal.returns-clause-rising
returns-clause-rising c epoch =
    (committee_members c.args.committees.now.total (members_in c.args.committees.now epoch)
    (members_committee c.args.committees.now epoch c.lists-lists.ensures.sound)).rising

pub returns-clause-there : goal.returns-clause-there
returns-clause-there c epoch =
    (committee_members c.args.committees.now.total (members_in c.args.committees.now epoch)
    (members_committee c.args.committees.now epoch c.lists-lists.ensures.sound)).there

pub returns-clause-spans : goal.returns-clause-spans
returns-clause-spans c span is =
    span_positive c.args.committees.now span c.lists-lists.ensures.sound is
