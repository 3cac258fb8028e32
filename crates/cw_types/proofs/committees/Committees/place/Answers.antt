use Rattle.std.proofs.Common.{◌==◌, arith, sym}
use Rattle.cw_types.proofs.EpochLemmas.{committee_size, place_below}
use Rattle.cw_types.proofs.committees.Committees.place.Goals as goal

pub overflow_cast-result : goal.overflow_cast-result
overflow_cast-result c =
    let size =
    committee_size c.args.self.now.total c.members.result.now c.members.ensures.committee in
    let below =
    place_below (λ other. other == c.args.member) c.members.result.now c.in-Some.place
    (sym c.in-Some.ensures) in
    let fits = c.total-total.type_inv in
    omega (arith, c.total-total.ensures)
