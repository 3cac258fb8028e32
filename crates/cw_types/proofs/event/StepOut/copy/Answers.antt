use Rattle.std.proofs.Common.{◌≡◌, ◌∙◌}
use Rattle.cw_types.proofs.event.StepOut.copy.Goals as goal

pub returns : goal.returns
returns c =
    let sent : c.in_ok-sent.sent ≡ c.args.self.now.sent =
    c.in_ok-sent.ensures ∙ c.as_slice.ensures in
    let handed : c.from_vec.result ≡ c.args.self.now.handed =
    c.from_vec.ensures ∙ (c.in_ok-handed.ensures.items ∙ c.as_slice-2.ensures) in
    let tickets : c.from_vec-2.result ≡ c.args.self.now.tickets =
    c.from_vec-2.ensures ∙ (c.in_ok-tickets.ensures.items ∙ c.as_slice-3.ensures) in
    λ i. record { sent = sent i; handed = handed i; tickets = tickets i }
