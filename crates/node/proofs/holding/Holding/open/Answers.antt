use Rattle.std.proofs.Common.{sym, ◌∙◌, ap, refl, subst, ◌++◌, [], List, None, map}
use Rattle.std.specs.List.{flat_map, last_or}
use Rattle.std.specs.Prelude.{unwrap_or}
use Rattle.cw_types.specs.declared.event.Handed.{Handed}
use Rattle.cw_types.specs.declared.event.Out.{Out}
use Rattle.cw_rules.specs.Sends.{missing, note_sends}
use Rattle.node.proofs.Starting.{from_nothing, knows_nothing, opened}
use Rattle.node.specs.Asking.{asks}
use Rattle.node.specs.Holding.{Holding, own_state, rules_of}
use Rattle.node.specs.Leading.{IsLedBy}
use Rattle.node.specs.Standing.{OwesNoBlock}
use Rattle.node.specs.Store.{stored_notes}
use Rattle.node.proofs.holding.Holding.open.Goals as goal

pub returns-clause-start : goal.returns-clause-start
returns-clause-start g c =
    let h = c.args.self.now in
    let hash = g.H.Hasher.digest_of in
    let accepts = g.A.Application.accepts in
    let r = rules_of hash accepts h in
    let frame =
    c.last_frame.ensures
    ∙ ap
    (λ (k : Holding g.row.D.Denot g.row.A.Denot). unwrap_or (last_or None k.store.frames)
    [])
    c.self.view_is in
    let notes =
    c.in_ok-sent.ensures ∙ ap (flat_map (note_sends r h.id (stored_notes h.store))) frame in
    let on = from_nothing r (own_state h) c.args.leads.now.led.entries c.requires.nothing in
    let sent =
    c.from_vec.ensures
    ∙ (c.in_ok-put_missing.ensures.asked knows_nothing on refl refl
    ∙ ap (λ (l : List Out). l ++ asks h.id (missing r (own_state h)) []) notes) in
    let left =
    c.in_ok-handed.ensures.ok
    ∙ ap
    (λ (l : List Handed). record h {
      store =
          record h.store { given = h.store.given ++ map (λ (x : Handed). x.height) l };
    })
    (sym c.from_vec-2.ensures) in
    opened hash accepts h c.hand_out.new.self (record {
      sent = c.from_vec.result;
      handed = c.from_vec-2.result;
      tickets = c.new.result;
    })
    c.requires.ready.quiet c.requires.came c.requires.given c.requires.tickets sent
    (c.from_vec-2.ensures ∙ c.in_ok-handed.ensures.value) c.new.ensures left

pub returns-clause-awake : goal.returns-clause-awake
returns-clause-awake g c =
    let h = c.args.self.now in
    let hash = g.H.Hasher.digest_of in
    let accepts = g.A.Application.accepts in
    let new = c.put_missing.new.leads.led.entries in
    let on =
    from_nothing (rules_of hash accepts h) (own_state h) c.args.leads.now.led.entries
    c.requires.nothing in
    record {
      ready =
          record {
            stands = c.in_ok-handed.ensures.stands;
            quiet =
                ap (λ (k : Holding g.row.D.Denot g.row.A.Denot). k.store.staged)
                c.in_ok-handed.ensures.ok
                ∙ c.requires.ready.quiet;
            rests =
                subst
                (λ (k : Holding g.row.D.Denot g.row.A.Denot). OwesNoBlock (rules_of hash accepts k)
                (own_state k))
                (sym c.in_ok-handed.ensures.ok) c.requires.ready.rests;
          };
      led =
          subst
          (λ (k : Holding g.row.D.Denot g.row.A.Denot). IsLedBy (rules_of hash accepts k)
          (stored_notes k.store) new)
          (sym c.in_ok-handed.ensures.ok)
          (c.in_ok-put_missing.ensures.led knows_nothing on refl);
    }
