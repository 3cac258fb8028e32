use Rattle.std.proofs.Common.{◌∙◌, sym}
use Rattle.marshal.specs.Bare.{bare}
use Rattle.marshal.proofs.Answering.{known_at_height}
use Rattle.marshal.proofs.Entering.{test_apart}
use Rattle.marshal.proofs.Pruned.{pruned_at}
use Rattle.marshal.proofs.notes.Notes.at_height.Goals as goal

pub returns-then-is_pruned : goal.returns-then-is_pruned
returns-then-is_pruned g c =
    sym
    (pruned_at (bare g.H.Hasher.digest_of) c.args.self.now c.args.height
    (sym c.is_pruned.ensures ∙ c.if-is_pruned.true))

pub returns-then-self : goal.returns-then-self
returns-then-self g c =
    c.copied.ensures
    ∙ (c.get.ensures.value
    ∙ rw (← c.self.view_is)
    (known_at_height (bare g.H.Hasher.digest_of) c.self.inside.notes.items c.args.height
    c.self.inside.heights.at.entries (c.self.invariant.known c.if-self.true)
    (test_apart c.args.height 0 c.if-height-eq0.false)
    (rw c.self.view_is (sym c.is_pruned.ensures ∙ c.if-is_pruned.false))))
