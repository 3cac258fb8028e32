use Rattle.std.proofs.Common.{◌∙◌, List, ap}
use Rattle.cw_rules.specs.Notes.{has_cert}
use Rattle.cw_types.specs.declared.note.Note.{Note}
use Rattle.marshal.proofs.notes.Notes.has_cert.Goals as goal

pub returns : goal.returns
returns g c =
    c.has.ensures c.self.inside.notes.items c.self.invariant.indexed.certified
    ∙ ap (λ (ns : List Note). has_cert ns c.args.vote.now) c.self.view_is
