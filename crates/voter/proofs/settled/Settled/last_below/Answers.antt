use Rattle.voter.proofs.LastSettled.{forward, last_of_range, none_low, none_of_range}
use Rattle.voter.proofs.settled.Settled.last_below.Goals as goal

pub range-requires : goal.range-requires
range-requires c =
    forward c.args.epoch c.args.top c.in_view-low.result c.in_view-high.result
    c.in_view-low.ensures c.in_view-high.ensures c.if-top-le1.false

pub returns-then-top-le1 : goal.returns-then-top-le1
returns-then-top-le1 c = λ notes has. none_low notes c.args.epoch c.args.top c.if-top-le1.true

pub returns-in-Some : goal.returns-in-Some
returns-in-Some c = λ notes has.
    last_of_range notes c.args.self.now.by_key has c.args.epoch c.args.top c.in_view-low.result
    c.in_view-high.result c.in_view-low.ensures c.in_view-high.ensures c.range.result
    (c.range.ensures.in_range tt) c.next_back.new.self c.in-Some.key.now c.in-Some.payload.now
    c.in-Some.ensures.steps

pub returns-in-None : goal.returns-in-None
returns-in-None c = λ notes has.
    none_of_range notes c.args.self.now.by_key has c.args.epoch c.args.top c.in_view-low.result
    c.in_view-high.result c.in_view-low.ensures c.in_view-high.ensures c.range.result
    (c.range.ensures.in_range tt) c.in-None.ensures.steps.0
