use Rattle.std.proofs.Common.{◌≡◌, ◌∙◌, Err, Ok, ap, sym}
use Rattle.node_disk.specs.declared.log.StoreError.TheVariants as store
use Rattle.marshal.proofs.Loading.{forms_found, notes_found, refused_notes}
use Rattle.marshal.proofs.Storable.{all_storable}
use Rattle.marshal.proofs.found.notes_on.Goals as goal

pub returns-in-Ok-clause-ok : goal.returns-in-Ok-clause-ok
returns-in-Ok-clause-ok c =
    notes_found c.args.bytes.now c.read_records.new.records.notes.items
    c.read_records.new.records.last c.in-Ok.ensures.kept c.in-Ok.ensures.all_records
    ∙ ap (λ ns. Ok ns) (sym (c.from_vec.ensures ∙ ap (λ v. v.items) c.into_notes.ensures))

pub returns-in-Ok-clause-storable : goal.returns-in-Ok-clause-storable
returns-in-Ok-clause-storable c =
    rw (c.from_vec.ensures, c.into_notes.ensures)
    (all_storable c.read_records.new.records.notes.items
    (forms_found c.args.bytes.now c.read_records.new.records.notes.items
    c.read_records.new.records.last c.in-Ok.ensures.kept c.in-Ok.ensures.all_records))

pub returns-in-Err-clause-foreign : goal.returns-in-Err-clause-foreign
returns-in-Err-clause-foreign c place is =
    let so : c.in-Err.error ≡ store.Foreign place = cc in
    refused_notes c.args.bytes.now place
    (c.read_records.ensures.foreign place (c.in-Err.is ∙ ap (λ x. Err x) so))
