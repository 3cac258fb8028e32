use Rattle.std.proofs.Common.{◌-◌, ◌∙◌, ℕ, ap, nat_le, sym}
use Rattle.cw_rules.specs.Notes.{nullified, view_of}
use Rattle.voter.proofs.ParentOver.{all_between}
use Rattle.voter.proofs.tally.Tally.all_nullified_above.Goals as goal

pub returns : goal.returns
returns g c =
    let notes = c.args.self.now.notes in
    let e = c.args.epoch in
    ap (λ (n : ℕ). nat_le n c.args.low)
    (c.saturating_sub.ensures ∙ ap (λ (n : ℕ). n - 1) c.nullified_from.ensures)
    ∙ sym (all_between (nullified notes e) c.args.low (view_of notes e))
