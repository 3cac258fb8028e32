use Rattle.std.specs.Prelude.{Some}
use Rattle.hail_tests.proofs.mailbox_tests.told_early.Given as goal

abbrev pub ghosts-open_told-L-Ledger : goal.ghosts-open_told-L-Ledger
ghosts-open_told-L-Ledger g a = record { name = a.blank.name; parts = a.blank.parts }

abbrev pub ghosts-open_told-L-Session : goal.ghosts-open_told-L-Session
ghosts-open_told-L-Session g a =
    record { all = a.blank.parts; opening = Some (record { value = 0 }) }
