use Rattle.std.proofs.Common.{⊎_elim, ap, ◌∙◌}
use Rattle.coding_c.specs.Calls.{status}
use Rattle.coding_c.proofs.Enough.{never_stopped, enough_decode}
use Rattle.coding_c.proofs.answers.decoded.Goals as goal

pub returns-in-Err-clause-any_enough : goal.returns-in-Err-clause-any_enough
returns-in-Err-clause-any_enough c text e =
    ⊎_elim (λ memory. memory)
    (λ stopped. never_stopped c.encodings_decode.ensures.checks
    c.encodings_decode.ensures.read_back c.args.config.now.minimum c.args.config.now.extra
    c.args.root.now text _ e c.in-Err.code stopped)
    c.in-Err.ensures.refused

pub returns-in-Ok-decode_here-clause-any_enough : goal.returns-in-Ok-decode_here-clause-any_enough
returns-in-Ok-decode_here-clause-any_enough c text e =
    let to =
    enough_decode c.encodings_decode.ensures.checks c.encodings_decode.ensures.read_back
    c.args.config.now.minimum c.args.config.now.extra c.args.root.now text _ e
    c.encodings_decode.ensures.any_enough c.in-Ok.all.items c.in-Ok.ensures.done in
    to.alone c.in-Ok-decode_here.text.items
    (rw c.deref.ensures.value at c.in-Ok-decode_here.ensures.decoded.1)

pub returns-clause-any_enough : goal.returns-clause-any_enough
returns-clause-any_enough c text e =
    let to =
    enough_decode c.encodings_decode.ensures.checks c.encodings_decode.ensures.read_back
    c.args.config.now.minimum c.args.config.now.extra c.args.root.now text _ e
    c.encodings_decode.ensures.any_enough c.in-Ok.all.items c.in-Ok.ensures.done in
    c.status_of.ensures.value
    ∙ ap status
    (to.taken c.in-Err-decode_here.error
    (rw c.deref.ensures.value at c.in-Err-decode_here.ensures.refused))
