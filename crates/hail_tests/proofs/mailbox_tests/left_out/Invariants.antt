use Rattle.std.specs.Prelude.{Some}
use Rattle.hail_tests.proofs.mailbox_tests.left_out.Given as goal

abbrev pub ghosts-one_left_out-L-Ledger : goal.ghosts-one_left_out-L-Ledger
ghosts-one_left_out-L-Ledger g a = record { name = a.blank.name; parts = a.blank.parts }

abbrev pub ghosts-one_left_out-L-Session : goal.ghosts-one_left_out-L-Session
ghosts-one_left_out-L-Session g a =
    record { all = a.blank.parts; opening = Some (record { value = 0 }) }
