use Rattle.std.proofs.Common.{◌≡◌, ◌++◌, take}
use Rattle.std.specs.Prelude.{string_bytes}
use Rattle.std.specs.List.{flat_map}
use Rattle.run_ledger.specs.Text as spec
use Rattle.run_ledger.proofs.text.put_holdings.Given as goal

abbrev pub invariant-loop-holding : goal.invariant-loop-holding
invariant-loop-holding l =
    string_bytes l.out
    ≡ string_bytes l.fn.out
    ++ flat_map (spec.balance_line l.member) (take l.holding-index l.holdings)
