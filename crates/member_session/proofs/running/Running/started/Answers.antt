use Rattle.std.proofs.Common.{◌≡◌, ◌∙◌, ◌++◌, ap, sym}
use Rattle.std.specs.Prelude.{string_bytes}
use Rattle.cw_types.specs.Epochs.{Epochs}
use Rattle.cw_rules.specs.Step.{member_notes}
use Rattle.cw_rules.specs.declared.travel.Travel.{Travel}
use Rattle.node.specs.State.{NodeState, stepped}
use Rattle.node_disk.specs.Host.{HostState}
use Rattle.node_disk.specs.Memory.{MemoryState}
use Rattle.member_session.specs.Serving.{serving_of, serving_rules}
use Rattle.member_session.specs.Told.{given_text, view_line}
use Rattle.member_session.proofs.Behind.{same_two}
use Rattle.member_session.proofs.Taking.{serves_first}
use Rattle.member_session.proofs.running.Running.started.Goals as goal

pub invariant_of-result : goal.invariant_of-result
invariant_of-result g c =
    serves_first g.W.Way.travel c.args.committees c.args.member c.tell_start.new.member
    c.requires.travels c.requires.among c.requires.works c.tell_start.ensures.rest

pub returns-in-Ok-clause-left : goal.returns-in-Ok-clause-left
returns-in-Ok-clause-left g c =
    ap (λ (n : NodeState (HostState MemoryState) _). serving_of n) c.tell_start.ensures.rest

pub returns-in-Ok-clause-told : goal.returns-in-Ok-clause-told
returns-in-Ok-clause-told g c =
    let n = c.args.member in
    c.in-Ok.ensures.told
    ∙ same_two
    (λ (t : Travel) (x : Epochs). (string_bytes c.args.out.now
    ++ given_text (serving_rules g.H.Hasher.digest_of t (serving_of n)) n.log.disk.waiting
    (stepped n.member c.args.step.now)) ++ view_line x (member_notes n.member))
    n.travel g.W.Way.travel c.args.committees n.epochs c.requires.travels (sym c.requires.among)
