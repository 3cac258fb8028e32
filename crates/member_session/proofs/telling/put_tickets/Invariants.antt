use Rattle.std.proofs.Common.{◌≡◌, ◌++◌, take}
use Rattle.std.specs.Prelude.{string_bytes}
use Rattle.std.specs.List.{flat_map}
use Rattle.member_lines.specs.Answers.{ticket_line}
use Rattle.member_session.proofs.telling.put_tickets.Given as goal

abbrev pub invariant-loop-ticket : goal.invariant-loop-ticket
invariant-loop-ticket l =
    string_bytes l.out
    ≡ string_bytes l.fn.out ++ flat_map ticket_line (take l.ticket-index l.tickets)
