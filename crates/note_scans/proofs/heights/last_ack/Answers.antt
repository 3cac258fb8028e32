use Rattle.std.proofs.Common.{◌≡◌, ◌-◌, ◌^◌, None, ap, map, rules, sym, tests, ◌∙◌}
use Rattle.std.specs.List.{filter_map, last_or}
use Rattle.std.proofs.lemmas.Iterator.{YieldsList-from_slice, items_from_drains}
use Rattle.std.proofs.lemmas.Iterator.Consumers.{YieldsList-from_filter_map}
use Rattle.std.proofs.lemmas.List.{map-id}
use Rattle.cw_rules.specs.Held.{acked_height}
use Rattle.note_scans.proofs.Least.{acks_below, last_below}
use Rattle.note_scans.proofs.heights.last_ack.Goals as goal

pub returns : goal.returns
returns c =
    let d = c.last.ensures.ran in
    let value : c.last.result ≡ last_or None (filter_map acked_height c.args.notes.now) =
    d.2
    ∙ ap (last_or None)
    (sym (map-id d.0)
    ∙ items_from_drains d.0 (d.1.1.0, d.1.1.1, λ _. (d.1.0, d.1.1.2))
    (YieldsList-from_filter_map _ acked_height (YieldsList-from_slice c.args.notes.now (cc))
    c.filter_map.ensures.closure (λ x r q k. search (rules, tests)))) in
    record {
      value = value;
      bound =
          λ forms. rw value
          (last_below (2 ^ 64 - 1) None (filter_map acked_height c.args.notes.now) tt
          (acks_below c.args.notes.now forms));
    }
