use Rattle.std.proofs.Common.{rules, map-id, sym, ap, ◌∙◌, List}
use Rattle.std.proofs.lemmas.Iterator.Adapters.{YieldsList-from_vec}
use Rattle.std.proofs.lemmas.Iterator.Consumers.{YieldsList-end}
use Rattle.cw_types.specs.declared.event.Out.{Out}
use Rattle.cw_rules.specs.World.{sent_from}
use Rattle.hail_report.proofs.Numbered.{numbered_next}
use Rattle.hail_report.proofs.entry.number.Goals as goal

pub loop-out-preserved : goal.loop-out-preserved
loop-out-preserved c =
    numbered_next c.args.first c.args.from c.len.result c.loop-out.yielded c.in-Some.out
    c.loop-out.sent.items c.push.new.self.items c.loop-out.invariant
    (c.len.ensures ∙ c.loop-out.sent.ok.0) c.in_ok-push.ensures.items

pub returns : goal.returns
returns c =
    let end =
    YieldsList-end
    (YieldsList-from_vec {s = c.into_iter-out-iterator.result} c.args.outs.items
    (search rules) (search rules))
    c.loop-out.yielded c.loop-out.out-iterator c.loop-out.yielded_by c.next.result c.next.new.self
    c.in-None.is c.next.ensures.steps in
    let all = sym (map-id c.loop-out.yielded) ∙ end.0 in
    c.loop-out.invariant ∙ ap (λ (l : List Out). sent_from c.args.first c.args.from l) all
