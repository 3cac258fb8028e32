use Rattle.std.specs.Prelude.{Some}
use Rattle.hail_tests.proofs.mailbox_tests.gated.Given as goal

abbrev pub ghosts-two_lanes-L-Ledger : goal.ghosts-two_lanes-L-Ledger
ghosts-two_lanes-L-Ledger g a = record { name = a.blank.name; parts = a.blank.parts }

abbrev pub ghosts-two_lanes-L-Session : goal.ghosts-two_lanes-L-Session
ghosts-two_lanes-L-Session g a =
    record { all = a.blank.parts; opening = Some (record { value = 0 }) }
