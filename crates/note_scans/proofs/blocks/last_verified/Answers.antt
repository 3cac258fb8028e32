use Rattle.std.proofs.Common.{None, ap, rules, sym, tests, ◌∙◌}
use Rattle.std.specs.List.{last_or}
use Rattle.std.proofs.lemmas.Iterator.{YieldsList-from_slice, items_from_drains}
use Rattle.std.proofs.lemmas.Iterator.Consumers.{YieldsList-from_filter_map}
use Rattle.std.proofs.lemmas.List.{map-id}
use Rattle.note_scans.specs.Verified.{verified_in}
use Rattle.note_scans.proofs.blocks.last_verified.Goals as goal

pub returns : goal.returns
returns c =
    let d = c.last.ensures.ran in
    d.2
    ∙ ap (last_or None)
    (sym (map-id d.0)
    ∙ items_from_drains d.0 (d.1.1.0, d.1.1.1, λ _. (d.1.0, d.1.1.2))
    (YieldsList-from_filter_map _ (verified_in c.args.round)
    (YieldsList-from_slice c.args.notes.now (cc)) c.filter_map.ensures.closure
    (λ x r q k. search (rules, tests))))
