use Rattle.std.proofs.Common.{ap}
use Rattle.cw_rules.proofs.Stores.{at_same, deliveries_same, first_finalization, found_same}
use Rattle.cw_rules.proofs.laws.store_laws.Goals as goal

pub returns-clause-height : goal.returns-clause-height
returns-clause-height c r t x backlog accepts notes height =
    ap (λ f. f height) (at_same r t x accepts backlog notes)

pub returns-clause-finalization : goal.returns-clause-finalization
returns-clause-finalization c r t x backlog accepts notes height =
    first_finalization r t x accepts backlog notes height

pub returns-clause-found : goal.returns-clause-found
returns-clause-found c r t x backlog accepts notes w = found_same r t x accepts backlog notes w

pub returns-clause-handed : goal.returns-clause-handed
returns-clause-handed c r t x accepts notes came others given =
    deliveries_same r t x accepts notes came others given
