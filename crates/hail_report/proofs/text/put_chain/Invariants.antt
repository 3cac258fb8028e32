use Rattle.std.proofs.Common.{◌≡◌, ◌++◌, drop}
use Rattle.std.specs.Prelude.{string_bytes}
use Rattle.hail_report.specs.Text as spec
use Rattle.hail_report.proofs.text.put_chain.Given as goal

-- what is written so far, and the links from here on
abbrev pub invariant-loop-height : goal.invariant-loop-height
invariant-loop-height g l =
    string_bytes l.out ++ spec.chain_text g.H.Hasher.digest_of l.height (drop l.height l.chain)
    ≡ string_bytes l.fn.out ++ spec.chain_text g.H.Hasher.digest_of 0 l.chain
