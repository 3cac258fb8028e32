use Rattle.std.proofs.Common.{ap, sym, ◌∙◌}
use Rattle.cw_types.specs.declared.note.Note.TheVariants as note
use Rattle.cw_types.proofs.note.Note.copy.Goals as goal

pub returns-in_ok-copy-in-Block : goal.returns-in_ok-copy-in-Block
returns-in_ok-copy-in-Block c =
    ap (λ block. note.Block c.in-Block.commitment block) c.in_ok-copy-in-Block.ensures
    ∙ sym c.in-Block.is

pub returns-in_ok-copy-in-Cert : goal.returns-in_ok-copy-in-Cert
returns-in_ok-copy-in-Cert c = ap note.Cert c.in_ok-copy-in-Cert.ensures ∙ sym c.in-Cert.is
