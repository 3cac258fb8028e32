use Rattle.std.proofs.Common.{◌∙◌, ap, sym}
use Rattle.marshal.specs.Certs.{is_cert_keyed}
use Rattle.note_scans.specs.Keys.{same_key}
use Rattle.marshal.proofs.Certing.{none_keyed}
use Rattle.note_scans.proofs.Keys.{key_cmp, keys_tie}
use Rattle.marshal.proofs.Placing.{first_same, kept_first, kept_so}
use Rattle.marshal.proofs.certs.Certs.put.Goals as goal

pub returns-in_ok-put_first-in-Cert-clause-ok : goal.returns-in_ok-put_first-in-Cert-clause-ok
returns-in_ok-put_first-in-Cert-clause-ok c = λ notes has at.
    kept_first same_key is_cert_keyed c.args.self.now.first.entries c.put_first.new.map.entries
    notes
    c.args.note.now c.new.result c.args.place
    (λ q. ap (is_cert_keyed q) c.in-Cert.is ∙ ap (same_key q) (sym c.new.ensures)) has
    (kept_so same_key key_cmp keys_tie c.new.result c.args.place c.args.self.now.first.entries
    c.put_first.new.map.entries c.in_ok-put_first-in-Cert.ensures.ok)
    at

pub returns-in_default-clause-ok : goal.returns-in_default-clause-ok
returns-in_default-clause-ok c = λ notes has at.
    first_same same_key is_cert_keyed c.args.self.now.first.entries notes c.args.note.now
    (none_keyed c.args.note.now c.in_default.not-Cert) has
