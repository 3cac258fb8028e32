use Rattle.std.proofs.Common.{◌∙◌, ap, option_and_then, sym}
use Rattle.std.specs.List.{filter_map}
use Rattle.cw_rules.specs.Sends as rule
use Rattle.node.specs.Holding.{rules_of}
use Rattle.node.specs.Leading.{lead_at}
use Rattle.node.specs.Store.{stored_notes}
use Rattle.node.proofs.Leading.{lead_found, none_found}
use Rattle.node.proofs.holding.Holding.leads.Goals as goal
use Rattle.node.proofs.holding.Holding.leads.Goals.{in-Some+in_ok-push, in_default}

pub loop-note-preserved : goal.loop-note-preserved
loop-note-preserved g c = λ height.
    let h = c.args.self.now in
    let r = rules_of g.H.Hasher.digest_of g.A.Application.accepts h in
    let f = lead_at height in
    let leads = rule.leads r (stored_notes h.store) height in
    let xs = c.loop-note.leads.items in
    let ys = c.args.notes.now in
    let i = c.loop-note.note-index in
    let y = c.note-item.result in
    let has = c.loop-note.invariant height in
    elim c.match-lead.branch [
      | in-Some+in_ok-push w ↦ ap (λ v. filter_map f v.items) w.leads-is
          ∙ (ap (filter_map f) w.in_ok-push.ensures.items
          ∙ lead_found f leads xs ys i w.in-Some.lead y c.loop-note-test.true c.note-item.is
          (sym (ap (option_and_then f) w.in-Some.is) ∙ c.lead.ensures height) has)
      | in_default w ↦ ap (λ v. filter_map f v.items) w.leads-is
          ∙ none_found f leads xs ys i y c.loop-note-test.true c.note-item.is
          (sym (ap (option_and_then f) w.in_default.is) ∙ c.lead.ensures height) has
    ]
