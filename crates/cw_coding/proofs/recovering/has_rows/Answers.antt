use Rattle.rs_code.proofs.IndexLaws.{AreSound-in_range}
use Rattle.cw_coding.specs.Totals.{total_of}
use Rattle.cw_coding.proofs.recovering.has_rows.Goals as goal

pub same_rows-requires-clause-range : goal.same_rows-requires-clause-range
same_rows-requires-clause-range g c =
    rw (c.deref.ensures.value, c.minimum.ensures.value, c.extra.ensures.value)
    (AreSound-in_range (total_of c.args.config.now) c.args.given.now.indices.items
    c.requires.given.sound)
