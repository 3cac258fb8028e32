use Rattle.std.proofs.Common.{ℕ, ◌∙◌, ap, subst, List, [], ◌∷◌}
use Rattle.std.specs.Prelude.{OnOk}
use Rattle.std.specs.Option.{option_map_or}
use Rattle.cw_types.specs.declared.note.Note.{Note}
use Rattle.cw_rules.specs.Direct.{least}
use Rattle.cw_rules.specs.Held.{pending}
use Rattle.node.specs.Holding.{Holding}
use Rattle.node.specs.Noting.{HasNoted}
use Rattle.node.specs.Store.{stored_state}
use Rattle.node.proofs.holding.Holding.acknowledge.Goals as goal

pub returns-in-Some-clause-ok : goal.returns-in-Some-clause-ok
returns-in-Some-clause-ok g c =
    let h = c.args.self.now in
    let found =
    c.in-Some.ensures.value
    ∙ ap (λ (k : Holding g.row.D.Denot g.row.A.Denot). least (pending (stored_state k.store)))
    c.self.view_is in
    subst
    (λ (l : List Note). OnOk c.write.result
    (HasNoted g.H.Hasher.digest_of g.A.Application.accepts l h c.write.new.self))
    (ap (λ o. option_map_or (λ (x : ℕ). Note.Ack x ∷ []) o []) found) c.write.ensures.ok
