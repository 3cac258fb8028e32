use Rattle.std.proofs.Common.{◌≡◌, ◌+◌, drop, map, length}
use Rattle.std.specs.Prelude.{IsTrue}
use Rattle.std.specs.List.{list_all}
use Rattle.cw_types.specs.Epochs.{rises_from}
use Rattle.hail_script.specs.Headers as headers
use Rattle.hail_script.proofs.Sequences.{behind}
use Rattle.hail_script.proofs.headers.lists_from.Given as goal

-- what was read stands before the lists of the lines from here on
abbrev pub invariant-loop-index : goal.invariant-loop-index
invariant-loop-index l = record {
  rest : behind l.lists
      (headers.lists_from (l.index + 2) (map (λ line. line.now) (drop l.index l.lines)))
      ≡ headers.lists_from 2 (map (λ line. line.now) l.lines);
  rise : IsTrue (list_all (rises_from 0) l.lists);
  count : length l.lists ≡ l.index;
}
