use Rattle.std.specs.Prelude.{Some}
use Rattle.hail_tests.proofs.sessions.session.Given as goal

-- the session's ledger is that of the blank
abbrev pub ghosts-acknowledged-L-Ledger : goal.ghosts-acknowledged-L-Ledger
ghosts-acknowledged-L-Ledger g a = record { name = a.blank.name; parts = a.blank.parts }

-- it opens with the seat
abbrev pub ghosts-acknowledged-L-Session : goal.ghosts-acknowledged-L-Session
ghosts-acknowledged-L-Session g a = record { all = a.blank.parts; opening = Some a.seat }
