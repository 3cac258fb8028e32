use Rattle.std.proofs.Common.{⊎_elim, ◌∙◌, ap, arith, inl, inr, sym}
use Rattle.std.proofs.lemmas.List.{length-set}
use Rattle.cw_coding.proofs.DigestLaws.{put_more}
use Rattle.cw_coding.proofs.hashing.put_at.Goals as goal

pub loop-t-preserved : goal.loop-t-preserved
loop-t-preserved g c = record {
  count =
      length-set c.loop-t.all.items c.from.result c.index-digests-t.result
      ∙ c.loop-t.invariant.count;
  each = λ f gives i l why d.
      put_more c.loop-t.all.items c.args.places.now f _ c.loop-t.t c.from.result i
      c.index-digests-t.result d c.from.ensures
      (omega (
        arith,
        c.requires.below c.loop-t.t c.loop-t-test.true,
        c.from.ensures,
        c.loop-t.invariant.count,
      ))
      (c.index-digests-t.is ∙ gives c.loop-t.t c.index-digests-t.result c.loop-t-test.true
      ∙ ap f (sym c.from.ensures))
      (λ why. c.loop-t.invariant.each f gives i l why d) why;
}

pub returns-clause-each : goal.returns-clause-each
returns-clause-each g c = λ f gives i l why d.
    c.loop-t.invariant.each f gives i l
    (⊎_elim inl (λ one. inr (one.0, omega (arith, one.1, c.loop-t-test.false), one.2)) why) d
