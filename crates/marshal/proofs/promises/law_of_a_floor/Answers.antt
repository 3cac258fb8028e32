use Rattle.marshal.proofs.Floored.{floor_at, floor_next, none_below}
use Rattle.marshal.proofs.promises.law_of_a_floor.Goals as goal

pub returns : goal.returns
returns c = record { next = floor_next; block = floor_at; below = none_below }
