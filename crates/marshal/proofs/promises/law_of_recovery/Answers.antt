use Rattle.marshal.proofs.Recovered.{cut_apart, holds_certified, holds_verified}
use Rattle.marshal.proofs.promises.law_of_recovery.Goals as goal

pub returns : goal.returns
returns c = record {
  verified = λ r notes more round b other is. holds_verified r notes more round b other is;
  certified = λ r notes more round b other is. holds_certified r notes more round b other is;
  apart = cut_apart;
}
