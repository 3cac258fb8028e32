use Rattle.std.proofs.Common.{◌≡◌, take}
use Rattle.std.specs.List.{enumerate_from}
use Rattle.hail_script.specs.Grammar.{first_event}
use Rattle.hail_world.proofs.world.play_all.Given as goal

-- the lines so far had their turns
abbrev pub invariant-loop-at : goal.invariant-loop-at
invariant-loop-at g l =
    l.cluster
    ≡ record l.fn.cluster {
      rows =
          enumerate_from (first_event l.fn.cluster.script.committees)
          (take l.at l.fn.cluster.script.lines);
    }
