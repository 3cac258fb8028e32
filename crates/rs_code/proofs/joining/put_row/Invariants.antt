use Rattle.std.proofs.Common.{◌≡◌, ℕ, length, take, Vec}
use Rattle.std.specs.declared.alloc.Global.{Global}
use Rattle.rs_code.specs.Rows.{joined}
use Rattle.rs_code.specs.Stripes.{stripe_start}
use Rattle.rs_code.proofs.StripeCuts.{part}
use Rattle.rs_code.proofs.joining.put_row.Given as goal

-- the row's part of the stripes so far is written
abbrev pub invariant-loop-index : goal.invariant-loop-index
invariant-loop-index l = record {
  long : length l.out ≡ l.width;
  written : (d : Vec ℕ Global) → take (stripe_start l.width (length l.stripes) l.index) l.out
      ≡ joined l.index (part l.width l.stripes d l.place);
}
