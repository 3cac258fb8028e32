use Rattle.std.proofs.Common.{◌≡◌, ℕ, ◌+◌, ◌*◌, length, take, Vec}
use Rattle.std.specs.declared.alloc.Global.{Global}
use Rattle.rs_code.specs.Rows.{joined}
use Rattle.rs_code.specs.Stripes.{row_of_stripes}
use Rattle.rs_code.proofs.joining.put_group.Given as goal

-- the rows so far are written
abbrev pub invariant-loop-place : goal.invariant-loop-place
invariant-loop-place l = record {
  long : length l.group ≡ length l.fn.group;
  written : (d : Vec ℕ Global) → take (l.place * l.width) l.group
      ≡ joined l.place (λ i. row_of_stripes l.width l.stripes d (l.first + i));
}
