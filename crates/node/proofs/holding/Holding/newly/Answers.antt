use Rattle.std.proofs.Common.{◌∙◌, ◌≤◌, ap, arith, filter, length, sym}
use Rattle.std.specs.List.{filter_map}
use Rattle.cw_rules.specs.Held.{next}
use Rattle.node.specs.Holding.{Holding}
use Rattle.node.specs.Leading.{is_new, lead_at}
use Rattle.node.specs.Store.{stored_notes, stored_state}
use Rattle.node.proofs.Leading.{newly_low, newly_more, newly_old, taken_whole}
use Rattle.node.proofs.holding.Holding.newly.Goals as goal
use Rattle.node.proofs.holding.Holding.newly.Goals.{else-is_above, else-is_above-via-else-is_above, else-is_above-via-then-is_above+else-is_new, then-is_above+then-is_new+in_ok-push}

pub loop-lead-preserved : goal.loop-lead-preserved
loop-lead-preserved g c =
    let notes = stored_notes c.args.self.now.store in
    let p = is_new notes c.args.map.now.led.entries c.args.height in
    let next = c.next_height-next.result in
    let xs = c.args.leads.now in
    let i = c.loop-lead.lead-index in
    let l = c.lead-item.result in
    let less = c.loop-lead-test.true in
    let at = c.lead-item.is in
    let new = c.loop-lead.new.items in
    let has = c.loop-lead.invariant in
    elim c.if-is_above.branch [
      | then-is_above+then-is_new+in_ok-push w ↦ ap (λ v. v.items) w.new-is
          ∙ (w.in_ok-push.ensures.items
          ∙ newly_more p next xs i l less at new has (sym c.is_above.ensures ∙ w.if-is_above.true)
          (sym w.is_new.ensures ∙ w.if-is_new.true))
      | else-is_above w ↦ ap (λ v. v.items) w.new-is
          ∙ elim w.else-is_above.branch [
            | else-is_above-via-then-is_above+else-is_new v ↦ newly_old p next xs i l less at new
                has (sym c.is_above.ensures ∙ v.if-is_above.true)
                (sym v.is_new.ensures ∙ v.if-is_new.false)
            | else-is_above-via-else-is_above v ↦ newly_low p next xs i l less at new has
                (sym c.is_above.ensures ∙ v.if-is_above.false)
          ]
    ]

pub returns : goal.returns
returns g c =
    let notes = stored_notes c.args.self.now.store in
    let p = is_new notes c.args.map.now.led.entries c.args.height in
    let xs = c.args.leads.now in
    let past : length xs ≤ c.loop-lead.lead-index = omega (arith, c.loop-lead-test.false) in
    let height =
    c.next_height-next.ensures
    ∙ ap (λ (k : Holding g.row.D.Denot g.row.A.Denot). next (stored_state k.store))
    c.self.view_is in
    c.loop-lead.invariant
    ∙ (λ i. filter p
    (filter_map (lead_at (height i)) (taken_whole xs c.loop-lead.lead-index past i)))
