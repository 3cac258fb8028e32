use Rattle.std.proofs.Common.{arith}
use Rattle.cw_types.proofs.EpochLemmas.{HasSize, committee_size}
use Rattle.cw_types.proofs.committees.Committees.size.Goals as goal

pub overflow_cast-result : goal.overflow_cast-result
overflow_cast-result c =
    let size : HasSize c.args.self.now.total c.members-members.result.now =
    committee_size c.args.self.now.total c.members-members.result.now
    c.members-members.ensures.committee in
    let fits = c.total-total.type_inv in
    omega (arith, c.total-total.ensures)

pub returns-clause-enough : goal.returns-clause-enough
returns-clause-enough c =
    let size : HasSize c.args.self.now.total c.members-members.result.now =
    committee_size c.args.self.now.total c.members-members.result.now
    c.members-members.ensures.committee in
    omega arith
