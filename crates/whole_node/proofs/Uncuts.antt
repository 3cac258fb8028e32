-- Members to which blocks come whole go by the rules of such blocks.
use Rattle.std.proofs.Common.{◌≡◌, ◌∙◌, ℕ, Bool, Err, IfOk, List, Ok, Result}
use Rattle.cw_base.specs.declared.hash.Digest32.{Digest32}
use Rattle.cw_types.specs.Block.{Block}
use Rattle.cw_types.specs.Epochs.{Epochs}
use Rattle.cw_types.specs.declared.event.StepOut.{StepOut}
use Rattle.cw_rules.specs.Step as rule
use Rattle.cw_rules.specs.declared.travel.Travel.TheVariants.{Uncut}
use Rattle.cw_rules_coded.specs.Coded.{ruled, uncut_rules}
use Rattle.node.specs.State.{IsNodeOf, NodeState, node_rules, stepped}

module _ {D A : Type 0} (hash : List ℕ → Digest32) (accepts : A → Block → Block → Bool) where
  -- the rules of such a member
  pub rules_uncut : (id : ℕ) (x : Epochs) (backlog : ℕ) (app : A) (node : NodeState D A)
      → IsNodeOf id x backlog app node → node.travel ≡ Uncut
      → node_rules hash accepts node ≡ uncut_rules hash x backlog (accepts app)
  rules_uncut id x backlog app node is way =
      λ i. ruled (way i) hash (is.committees i) (is.pending i) (accepts (is.application i))

  -- so it starts by them
  pub starts_uncut : {E : Type 0} (id : ℕ) (x : Epochs) (backlog : ℕ) (app : A)
      (result : Result (NodeState D A × StepOut) E)
      → IfOk result (λ r. IsNodeOf id x backlog app r.0) → IfOk result (λ r. r.0.travel ≡ Uncut)
      → IfOk result (λ r. stepped r.0.member r.1
      ≡ rule.start (node_rules hash accepts r.0) id r.0.member.frames)
      → IfOk result (λ r. stepped r.0.member r.1
      ≡ rule.start (uncut_rules hash x backlog (accepts app)) id r.0.member.frames)
  starts_uncut id x backlog app (Ok r) is way start =
      start ∙ (λ i. rule.start (rules_uncut id x backlog app r.0 is way i) id r.0.member.frames)
  starts_uncut id x backlog app (Err e) is way start = tt
