use Rattle.std.proofs.Common.{◌≡◌, sym, subst, ◌++◌}
use Rattle.std.specs.Prelude.{OnOk}
use Rattle.cw_types.specs.declared.note.Note.{Note}
use Rattle.cw_rules.specs.Sends.{note_sends}
use Rattle.node.specs.Holding.{rules_of}
use Rattle.node.specs.Store.{stored_notes}
use Rattle.node.proofs.holding.Holding.put_note.Goals as goal

pub returns-in-Verified : goal.returns-in-Verified
returns-in-Verified g c =
    let h = c.args.self.now in
    subst
    (λ (n : Note). OnOk c.put_block.result
    (c.put_block.new.out.items
    ≡ c.args.out.now.items
    ++ note_sends (rules_of g.H.Hasher.digest_of g.A.Application.accepts h) h.id
    (stored_notes h.store) n))
    (sym c.in-Verified.is) (c.put_block.ensures c.in-Verified.field-1)
