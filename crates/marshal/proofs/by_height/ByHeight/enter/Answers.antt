use Rattle.std.proofs.Common.{None, ap}
use Rattle.cw_types.specs.declared.block.Context.{Context}
use Rattle.marshal.specs.Bare.{bare}
use Rattle.marshal.proofs.Entering.{entered_at, entering, entering_at}
use Rattle.marshal.proofs.by_height.ByHeight.enter.Goals as goal

pub loop-next-init : goal.loop-next-init
loop-next-init g c = (
  λ known. known,
  entering (bare g.H.Hasher.digest_of) c.args.notes.now c.args.commitment c.args.block.now
      c.args.self.now.at.entries,
)

pub returns-then-not-put_new-clause-entered : goal.returns-then-not-put_new-clause-entered
returns-then-not-put_new-clause-entered g c = λ known.
    entered_at (bare g.H.Hasher.digest_of) c.args.notes.now c.args.commitment c.args.block.now
    c.args.self.now.at.entries c.loop-next.below c.in-Some.found.now c.loop-next.self.at.entries
    (rw c.in-Some.is at c.loop-next.invariant).1 c.put_new.new.self.at.entries c.height.result
    c.height.ensures.value c.put_new.result c.if-not-put_new.true c.put_new.new.self.known known
    c.put_new.ensures.there c.put_new.ensures.same

pub loop-next-preserved-in-Some-parent_of : goal.loop-next-preserved-in-Some-parent_of
loop-next-preserved-in-Some-parent_of g c = (
  λ known. c.loop-next.invariant.0 (c.put_new.ensures.known known),
  entering_at (bare g.H.Hasher.digest_of) c.args.notes.now c.args.commitment c.args.block.now
      c.args.self.now.at.entries c.loop-next.below c.in-Some.found.now
      c.loop-next.self.at.entries (rw c.in-Some.is at c.loop-next.invariant).1
      c.put_new.new.self.at.entries c.height.result c.height.ensures.value c.put_new.result
      c.if-not-put_new.false c.put_new.ensures.fresh c.put_new.ensures.entry
      c.context.result.now.parent (ap (λ (x : Context). x.parent) c.context.ensures) _
      c.in-Some-parent_of.ensures.block,
)

pub loop-next-preserved : goal.loop-next-preserved
loop-next-preserved g c = (
  λ known. c.loop-next.invariant.0 (c.put_new.ensures.known known),
  entering_at (bare g.H.Hasher.digest_of) c.args.notes.now c.args.commitment c.args.block.now
      c.args.self.now.at.entries c.loop-next.below c.in-Some.found.now
      c.loop-next.self.at.entries (rw c.in-Some.is at c.loop-next.invariant).1
      c.put_new.new.self.at.entries c.height.result c.height.ensures.value c.put_new.result
      c.if-not-put_new.false c.put_new.ensures.fresh c.put_new.ensures.entry
      c.context.result.now.parent (ap (λ (x : Context). x.parent) c.context.ensures) None
      c.in-None.ensures.block,
)
