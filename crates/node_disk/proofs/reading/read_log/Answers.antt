use Rattle.std.proofs.Common.{List, ℕ, Ok, map, sym, ap, ◌∙◌, rules}
use Rattle.node_disk.specs.Frames.{IsAtRest}
use Rattle.node_disk.proofs.AtRest.{finds_at_rest}
use Rattle.node_disk.proofs.reading.read_log.Goals as goal

pub returns-in-Ok-items_of-clause-found : goal.returns-in-Ok-items_of-clause-found
returns-in-Ok-items_of-clause-found c =
    let rests : IsAtRest (map (λ frame. frame.now) c.in-Ok.frames.items) c.in-Ok.field-0-1 c.args.bytes.now =
    search rules in
    finds_at_rest (map (λ frame. frame.now) c.in-Ok.frames.items) c.in-Ok.field-0-1 c.args.bytes.now rests
    ∙ ap (λ (l : List (List ℕ)). Ok l)
    (sym (c.in-Ok-items_of.ensures ∙ ap (map (λ frame. frame.now)) c.deref.ensures.value))
