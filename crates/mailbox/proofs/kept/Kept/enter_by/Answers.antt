use Rattle.std.proofs.Common.{◌≡◌, ◌∙◌, ◌++◌, ◌∷◌, [], arith, length-append}
use Rattle.std.proofs.lemmas.List.{map-append}
use Rattle.mailbox.proofs.Replaying.{IsReplay-append}
use Rattle.mailbox.proofs.kept.Kept.enter_by.Goals as goal

pub invariant_of-self : goal.invariant_of-self
invariant_of-self g c = rw c.reserve.ensures.items c.self.invariant

pub invariant_of-self-in_err-reserve-2 : goal.invariant_of-self-in_err-reserve-2
invariant_of-self-in_err-reserve-2 g c =
    rw (c.reserve.ensures.items, c.reserve-2.ensures.items) c.self.invariant

pub invariant_of-self-2 : goal.invariant_of-self-2
invariant_of-self-2 g c =
    let old = c.self.inside.history.items in
    let added : c.put.new.all.items ≡ old ++ (c.args.event, c.turned-stored.result.0) ∷ [] =
    c.put.ensures.items ∙ rw c.reserve.ensures.items
    in
    let counted = c.self.invariant.1 in (
      IsReplay-append _ _ old _ _ _ _ _ c.self.invariant.0 c.turned-stored.ensures.lawful added,
      rw added
          (omega (
            arith,
            length-append old ((c.args.event, c.turned-stored.result.0) ∷ []),
            counted,
            c.add.ensures.total,
            c.audit.ensures.total,
          )),
      rw (added, c.put-2.ensures.items, c.reserve-2.ensures.items, c.self.invariant.2, map-append),
    )

pub returns-clause-turned : goal.returns-clause-turned
returns-clause-turned g c =
    rw (← c.self.view_is) (record {
      stored = c.turned-stored.result.0;
      lawful = c.turned-stored.ensures.lawful;
      entry = c.put.ensures.items ∙ rw c.reserve.ensures.items;
      answer = c.turned-stored.ensures.twice;
    })
