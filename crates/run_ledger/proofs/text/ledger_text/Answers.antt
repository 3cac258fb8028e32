use Rattle.std.proofs.Common.{◌≡◌, ◌<◌, ◌∙◌, ◌++◌, ℕ, List, ap, length, sym, arith, rules}
use Rattle.std.specs.Prelude.{string_bytes}
use Rattle.run_ledger.specs.Text as spec
use Rattle.run_ledger.proofs.Texts.{text_more}
use Rattle.run_ledger.proofs.text.ledger_text.Goals as goal

pub loop-index-preserved : goal.loop-index-preserved
loop-index-preserved c =
    let lt : c.loop-index.index < length c.args.members.now = omega arith in
    let step : string_bytes c.put_replica.new.out
    ≡ string_bytes c.loop-index.out
    ++ spec.replica_text c.index-members-index.result.member
    c.index-replicas-index.result.payloads =
    search rules in
    step
    ∙ ap
    (λ (t : List ℕ). t
    ++ spec.replica_text c.index-members-index.result.member
    c.index-replicas-index.result.payloads)
    c.loop-index.invariant
    ∙ sym
    (text_more (λ a. a.member) (λ r. r.payloads) c.args.members.now c.args.replicas.now
    c.loop-index.index c.index-members-index.result c.index-replicas-index.result lt
    c.requires c.index-members-index.is c.index-replicas-index.is)
