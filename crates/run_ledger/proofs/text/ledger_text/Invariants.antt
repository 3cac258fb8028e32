use Rattle.std.proofs.Common.{◌≡◌, map, take}
use Rattle.std.specs.Prelude.{string_bytes}
use Rattle.run_ledger.specs.Text as spec
use Rattle.run_ledger.proofs.text.ledger_text.Given as goal

abbrev pub invariant-loop-index : goal.invariant-loop-index
invariant-loop-index l =
    string_bytes l.out
    ≡ spec.ledger_text (take l.index (map (λ a. a.member) l.members))
    (take l.index (map (λ r. r.payloads) l.replicas))
