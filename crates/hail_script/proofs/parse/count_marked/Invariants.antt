use Rattle.std.proofs.Common.{◌≡◌, ◌≤◌, take}
use Rattle.std.specs.Prelude.{count_by}
use Rattle.hail_script.specs.Admission as admission
use Rattle.hail_script.proofs.parse.count_marked.Given as goal

-- the marked members so far
abbrev pub invariant-loop-member : goal.invariant-loop-member
invariant-loop-member l = record {
  count : l.count ≡ count_by (admission.is_marked l.marks) (take l.member-index l.list);
  bound : l.count ≤ l.member-index;
}
