use Rattle.std.proofs.Common.{◌∙◌, Option, ap}
use Rattle.std.specs.Prelude.{Vec}
use Rattle.std.specs.Map.{lookup}
use Rattle.std.specs.declared.alloc.Global.{Global}
use Rattle.cw_types.specs.declared.vote.Proposal.{Proposal}
use Rattle.note_scans.specs.Keys.{same_key}
use Rattle.note_scans.specs.declared.key.VoteKey.{VoteKey}
use Rattle.note_scans.proofs.Keys.{found_key}
use Rattle.voter.proofs.Viewing.{items_in}
use Rattle.voter.proofs.views.Views.of.Goals as goal

pub returns-in-Some : goal.returns-in-Some
returns-in-Some c =
    c.as_slice.ensures.value
    ∙ (ap (λ (o : Option (Vec Proposal Global)). items_in o)
    (c.in-Some.ensures.value ∙ found_key c.args.self.now.by_view.entries c.view_key.result)
    ∙ ap (λ (k : VoteKey). items_in (lookup (same_key k) c.args.self.now.by_view.entries))
    c.view_key.ensures)

pub returns-in-None : goal.returns-in-None
returns-in-None c =
    ap (λ (o : Option (Vec Proposal Global)). items_in o)
    (c.in-None.ensures.value ∙ found_key c.args.self.now.by_view.entries c.view_key.result)
    ∙ ap (λ (k : VoteKey). items_in (lookup (same_key k) c.args.self.now.by_view.entries))
    c.view_key.ensures
