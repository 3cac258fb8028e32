use Rattle.std.proofs.Common.{◌≡◌, sym, subst, ◌++◌}
use Rattle.std.specs.Prelude.{OnOk}
use Rattle.cw_types.specs.declared.event.Event.TheVariants as event
use Rattle.cw_types.specs.declared.message.Message.{Message}
use Rattle.cw_rules.specs.Sends.{answer}
use Rattle.node.specs.Holding.{rules_of}
use Rattle.node.specs.Store.{stored_notes}
use Rattle.node.proofs.holding.Holding.answer_message.Goals as goal

pub returns-in-Ask : goal.returns-in-Ask
returns-in-Ask g c =
    let h = c.args.self.now in
    subst
    (λ (m : Message). OnOk c.answer_ask.result
    (c.answer_ask.new.out.items
    ≡ c.args.out.now.items
    ++ answer (rules_of g.H.Hasher.digest_of g.A.Application.accepts h) h.id
    (stored_notes h.store) (event.Deliver m)))
    (sym c.in-Ask.is) c.answer_ask.ensures

pub returns-in-AskHeight : goal.returns-in-AskHeight
returns-in-AskHeight g c =
    let h = c.args.self.now in
    subst
    (λ (m : Message). OnOk c.answer_height.result
    (c.answer_height.new.out.items
    ≡ c.args.out.now.items
    ++ answer (rules_of g.H.Hasher.digest_of g.A.Application.accepts h) h.id
    (stored_notes h.store) (event.Deliver m)))
    (sym c.in-AskHeight.is) c.answer_height.ensures
