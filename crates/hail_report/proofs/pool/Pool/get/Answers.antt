use Rattle.std.proofs.Common.{ℕ, List, Option, ap, ◌∙◌}
use Rattle.std.specs.Prelude.{option_and_then, slice_get}
use Rattle.cw_rules.specs.Report.{Entry}
use Rattle.hail_report.specs.Pool.{sent_at, sent_in}
use Rattle.hail_report.proofs.Numbered.{looked_up}
use Rattle.hail_report.proofs.pool.Pool.get.Goals as goal

pub returns : goal.returns
returns c =
    let entries : List Entry = c.self.inside.entries in
    let places : List (ℕ × ℕ) = c.self.inside.places.items in
    c.message_at.ensures
    ∙ ap (λ (o : Option (ℕ × ℕ)). option_and_then (sent_at c.as_slice.result.now) o)
    c.place_of-place.ensures
    ∙ ap
    (λ (l : List (ℕ × ℕ)). option_and_then (sent_at c.as_slice.result.now)
    (slice_get l c.args.number))
    c.deref.ensures.value
    ∙ ap (λ (l : List Entry). option_and_then (sent_at l) (slice_get places c.args.number))
    c.as_slice.ensures
    ∙ looked_up entries places c.args.number c.self.invariant.0
    ∙ ap (λ (l : List Entry). slice_get (sent_in l) c.args.number) c.self.view_is
