use Rattle.std.proofs.Common.{◌≡◌, ◌++◌, drop, []}
use Rattle.std.specs.Prelude.{string_bytes}
use Rattle.run_picture.specs.Marks as spec
use Rattle.run_picture.proofs.labels.put_sent.Given as goal

abbrev pub invariant-loop-said : goal.invariant-loop-said
invariant-loop-said l =
    string_bytes l.out ++ spec.sent_text (string_bytes l.before) (drop l.said-index l.sent)
    ≡ string_bytes l.fn.out ++ spec.sent_text [] l.sent
