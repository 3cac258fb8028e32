use Rattle.std.specs.Prelude.{Some}
use Rattle.hailstorm.proofs.lanes.share.Given as goal

abbrev pub ghosts-share_by-L-Ledger : goal.ghosts-share_by-L-Ledger
ghosts-share_by-L-Ledger g a = record { name = a.blank.name; parts = a.blank.parts }

abbrev pub ghosts-share_by-L-Session : goal.ghosts-share_by-L-Session
ghosts-share_by-L-Session g a = record { all = a.blank.parts; opening = Some a.turning }
