use Rattle.cw_types.proofs.Handoffs.{mapped_same, mapped_twice}
use Rattle.cw_types.proofs.laws.handoffs_map.Goals as goal

pub returns : goal.returns
returns g c = record { same = mapped_same; turn = mapped_twice }
