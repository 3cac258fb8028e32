use Rattle.marshal.proofs.Delivered.{delivered_go_up, delivered_held, delivered_reached, delivered_rises, goes_above, resumes_above}
use Rattle.marshal.proofs.Growing.{held_stays, is_reached_stays}
use Rattle.marshal.proofs.promises.law_of_deliveries.Goals as goal

pub returns : goal.returns
returns c = record {
  held = delivered_held;
  reached = delivered_reached;
  stays_held = held_stays;
  stays_reached = λ r notes more height d is low. is_reached_stays r notes more height low d is;
  rising = delivered_rises;
  by_one = delivered_go_up;
  once = goes_above;
  resumed = resumes_above;
}
