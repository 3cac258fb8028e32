use Rattle.marshal.proofs.Delivered.{delivered_within}
use Rattle.marshal.proofs.Pendings.{acknowledged_pending, written_pending}
use Rattle.marshal.proofs.promises.law_of_the_backlog.Goals as goal

pub returns : goal.returns
returns c = record {
  handed = delivered_within;
  acknowledged = λ r s. acknowledged_pending s r;
  written = λ r s own none. written_pending s r own none;
}
