use Rattle.cw_types.proofs.EpochLemmas.{members_committee}
use Rattle.cw_types.proofs.committees.Committees.members.Goals as goal

pub returns-clause-committee : goal.returns-clause-committee
returns-clause-committee c =
    rw (c.members_of.ensures, c.lists.ensures.value)
    (members_committee c.args.self.now c.args.epoch c.lists.ensures.sound)
