use Rattle.std.proofs.Common.{[], ◌++◌, ◌∙◌, ◌∷◌, ◌≡◌, ap, arith, false, get_or, sym, true}
use Rattle.std.proofs.lemmas.List.{get_or_default}
use Rattle.cw_coding.proofs.DigestLaws.{all_listed, all_more, below_more}
use Rattle.cw_coding.proofs.hashing.others.Goals as goal
use Rattle.cw_coding.proofs.hashing.others.Goals.{else-not-index, then-not-index+in_ok-push}

pub loop-i-preserved : goal.loop-i-preserved
loop-i-preserved c =
    let i = c.loop-i.i in
    let listed = c.args.listed.now in
    let before = c.loop-i.others.items in
    elim c.if-not-index.branch [
      | then-not-index+in_ok-push w ↦
          let more : c.if-not-index.others.items ≡ before ++ i ∷ [] =
          ap (λ v. v.items) w.others-is ∙ w.in_ok-push.ensures.items in
          record {
            below =
                below_more c.args.total i before _ more c.loop-i-test.true c.loop-i.invariant.below;
            all = all_more i listed before _ more c.loop-i.invariant.all;
          }
      | else-not-index w ↦
          let same : c.if-not-index.others.items ≡ before = ap (λ v. v.items) w.others-is in
          let marks = c.in_ok-marks.marks.items in
          let marked : get_or marks i false ≡ true =
          get_or_default marks i false c.index.result.now
          (omega (arith, c.in_ok-marks.ensures.count, c.loop-i-test.true))
          ∙ ap (λ n. get_or marks n c.index.result.now) (sym c.from.ensures) ∙ sym c.index.ensures
          ∙ w.if-not-index.false in
          record {
            below = rw same c.loop-i.invariant.below;
            all =
                rw same
                (all_listed i listed before (c.in_ok-marks.ensures.marked i marked)
                c.loop-i.invariant.all);
          }
    ]

pub returns-clause-all : goal.returns-clause-all
returns-clause-all c = λ i l. c.loop-i.invariant.all i (omega (arith, l, c.loop-i-test.false))
