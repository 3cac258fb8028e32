use Rattle.std.proofs.Common.{ap, is_some, subst}
use Rattle.cw_types.specs.declared.block.Context.{Context}
use Rattle.node.specs.Arriving.{PutsFirst}
use Rattle.node.specs.Holding.{whole_under}
use Rattle.node.proofs.Placing.{one_child, one_placed, whole_is}
use Rattle.node.proofs.came.put_places.Goals as goal

pub returns-in_ok-put_first-in-Some-2-clause-ok : goal.returns-in_ok-put_first-in-Some-2-clause-ok
returns-in_ok-put_first-in-Some-2-clause-ok c = λ xs are at.
    let a = c.args.arrival.now in
    record {
      wholes =
          one_placed whole_under xs c.args.wholes.now.entries
          c.put_first-in-Some.new.places.entries a.commitment c.args.place a are.wholes
          c.in_ok-put_first-in-Some-2.ensures.ok at
          (whole_is a (ap is_some c.in-Some.is));
      children =
          one_child xs c.args.children.now.entries c.put_first.new.places.entries a
          c.in-Some.block c.args.place c.in-Some.is
          (subst
          (λ (x : Context). PutsFirst x.parent c.args.place c.args.children.now.entries
          c.put_first.new.places.entries)
          c.context.ensures c.in_ok-put_first-in-Some.ensures.ok)
          at are.children;
    }
