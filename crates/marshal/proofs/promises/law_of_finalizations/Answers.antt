use Rattle.marshal.proofs.FirstStays.{first_stays, no_latest}
use Rattle.marshal.proofs.promises.law_of_finalizations.Goals as goal

pub returns : goal.returns
returns c = record {
  first = λ r notes more height cert e is agree. first_stays r notes more height is agree cert e;
  latest = no_latest;
}
