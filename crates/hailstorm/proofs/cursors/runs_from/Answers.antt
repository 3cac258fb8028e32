use Rattle.std.proofs.Common.{◌≡◌, ◌+◌, drop, get_or, refl}
use Rattle.std.proofs.lemmas.List.{drop_all}
use Rattle.hailstorm.proofs.Cursoring.{drop_item, run_last, run_next}
use Rattle.hailstorm.proofs.cursors.runs_from.Goals as goal

pub loop-size-preserved : goal.loop-size-preserved
loop-size-preserved c = record {
  within = c.end_of-end.ensures.within;
  runs = λ rows many.
      let i = c.loop-size.size-index in
      run_next rows c.loop-size.runs.items c.push.new.self.items (drop i c.args.sizes.now)
      (drop (i + 1) c.args.sizes.now) (get_or c.args.sizes.now i 0) c.loop-size.from
      c.end_of-end.result _
      (drop_item c.args.sizes.now i 0 (get_or c.args.sizes.now i 0) c.loop-size-test.true refl)
      c.in_ok-push.ensures.items (c.end_of-end.ensures.run rows many)
      (c.end_of-end.ensures.rest rows many) (c.loop-size.invariant.runs rows many);
}

pub returns : goal.returns
returns c = λ rows many.
    run_last rows c.loop-size.runs.items c.push-2.new.self.items
    (drop c.loop-size.size-index c.args.sizes.now) c.loop-size.from c.args.count _
    (drop_all c.loop-size.size-index c.args.sizes.now c.loop-size-test.false)
    c.in_ok-push-2.ensures.items many (c.loop-size.invariant.runs rows many)
