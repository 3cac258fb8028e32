-- What a disk holds once it is reopened.
use Rattle.std.proofs.Common.{◌≡◌, List, [], Bool, true, false, refl}
use Rattle.node_disk.specs.Record.{RecordedCall, held_after}

pub reopened_seen : (calls : List RecordedCall) (reopened : Bool)
    → (held_after calls true).seen ≡ (held_after calls reopened).seen
unfolding held_after
reopened_seen calls true = refl
reopened_seen calls false = refl

pub reopened_writes : (calls : List RecordedCall) → (held_after calls true).writes ≡ []
unfolding held_after
reopened_writes calls = refl

pub ruleset reopens = (reopened_seen, reopened_writes)
