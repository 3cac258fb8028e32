use Rattle.std.proofs.Common.{◌∙◌, ap, sym}
use Rattle.marshal.specs.Certs.{is_cert_keyed}
use Rattle.note_scans.specs.Keys.{same_key}
use Rattle.marshal.proofs.Certing.{none_keyed}
use Rattle.note_scans.proofs.Keys.{key_cmp, keys_tie}
use Rattle.marshal.proofs.Placing.{first_gone, first_less, gone_so}
use Rattle.marshal.proofs.certs.Certs.take.Goals as goal

pub returns-in-Cert : goal.returns-in-Cert
returns-in-Cert c = λ notes has at.
    first_gone same_key is_cert_keyed c.args.self.now.first.entries c.take_last.new.map.entries
    notes
    c.args.note.now c.new.result c.args.place
    (λ q. ap (is_cert_keyed q) c.in-Cert.is ∙ ap (same_key q) (sym c.new.ensures)) has
    (gone_so same_key key_cmp keys_tie c.new.result c.args.place c.args.self.now.first.entries
    c.take_last.new.map.entries c.take_last.ensures)
    at

pub returns-in_default : goal.returns-in_default
returns-in_default c = λ notes has at.
    first_less same_key is_cert_keyed c.args.self.now.first.entries notes c.args.note.now
    (none_keyed c.args.note.now c.in_default.not-Cert) has
