use Rattle.std.proofs.Common.{◌≡◌, ◌∙◌, ◌++◌, List, ap, map, subst, sym, ℕ}
use Rattle.std.specs.Prelude.{string_bytes}
use Rattle.std.specs.List.{flat_map}
use Rattle.std.proofs.lemmas.Result.{on_ok_weaker}
use Rattle.cw_types.specs.declared.event.Handed.{Handed}
use Rattle.cw_types.specs.declared.event.Out.{Out}
use Rattle.cw_types.specs.declared.event.TicketOut.{TicketOut}
use Rattle.marshal.specs.Stored.{marshal_rules, notes_of}
use Rattle.node.specs.State.{IsMarshalOf, NodeState}
use Rattle.node_disk.specs.Disk.{DeviceCall}
use Rattle.node_disk.specs.Host.{HostState, told_of}
use Rattle.node_disk.specs.declared.host.HostCall.{HostCall}
use Rattle.node_disk.specs.Memory.{MemoryState}
use Rattle.member_lines.specs.Answers.{send_line, ticket_line}
use Rattle.member_session.specs.Told.{call_line, hand_out_line}
use Rattle.member_session.proofs.Given.{parts_told}
use Rattle.member_session.proofs.Taking.{told_node}
use Rattle.member_session.proofs.running.tell.Goals as goal

pub returns-clause-told : goal.returns-clause-told
returns-clause-told g c =
    let n = c.args.member.now in
    let m = c.marshal.result.now in
    let live = ap (λ (x : NodeState (HostState MemoryState) _). x.member.live)
    c.take_calls-calls.ensures.rest ∙ c.requires.live in
    let is : IsMarshalOf (told_node n) m =
    subst (λ (x : NodeState (HostState MemoryState) _). IsMarshalOf x m)
    c.take_calls-calls.ensures.rest (c.marshal.ensures.value live) in
    let before : List ℕ = string_bytes c.args.out.now in
    let calls = c.in_ok-put_calls.ensures
    ∙ ap (λ (l : List HostCall). before ++ flat_map call_line (map told_of l)) c.as_slice.ensures
    ∙ ap (λ (l : List DeviceCall). before ++ flat_map call_line l) c.take_calls-calls.ensures.taken in
    let sends = c.in_ok-put_sends.ensures
    ∙ ap (λ (l : List Out). string_bytes c.put_calls.new.out ++ flat_map send_line l)
    c.as_slice-2.ensures in
    let hands = c.in_ok-put_all_handed.ensures
    ∙ ap (λ (l : List Handed). string_bytes c.put_sends.new.out
    ++ flat_map (hand_out_line (marshal_rules g.H.Hasher.digest_of m) (notes_of m)) l)
    c.as_slice-3.ensures in
    let last : List ℕ = string_bytes c.put_all_handed.new.out in
    on_ok_weaker c.put_tickets.result
    (λ ends. parts_told g.H.Hasher.digest_of n m c.args.step.now before
    (string_bytes c.put_calls.new.out) (string_bytes c.put_sends.new.out) last
    (string_bytes c.put_tickets.new.out) is calls sends hands
    (ends ∙ ap (λ (l : List TicketOut). last ++ flat_map ticket_line l) c.as_slice-4.ensures))
    c.put_tickets.ensures
