use Rattle.voter.specs.Known.{vote_rules}
use Rattle.voter.proofs.Agreeing.{parent_held, parent_missing, parent_next, parent_starts}
use Rattle.voter.proofs.BestParent.{parent_falls}
use Rattle.voter.proofs.laws.parent_stands.Goals as goal

pub returns : goal.returns
returns c = record {
  start = parent_starts;
  none = parent_missing;
  held = parent_held;
  next = parent_next;
  falls =
      λ hash t epoch below view payload e. parent_falls (vote_rules hash t.epochs) t.notes epoch
      below view payload e;
}
