use Rattle.std.proofs.Common.{sym}
use Rattle.marshal.specs.Bare.{bare}
use Rattle.marshal.proofs.Searching.{none_final}
use Rattle.marshal.proofs.notes.Notes.highest.Goals as goal

pub returns-then-is_empty-clause-block : goal.returns-then-is_empty-clause-block
returns-then-is_empty-clause-block g c =
    rw (← c.self.view_is)
    (sym
    (none_final (bare g.H.Hasher.digest_of) c.self.inside.notes.items
    c.self.inside.index.finals.entries c.self.inside.notes.items
    (c.is_empty.ensures.0 c.if-is_empty.true) c.self.invariant.indexed.finalized))
