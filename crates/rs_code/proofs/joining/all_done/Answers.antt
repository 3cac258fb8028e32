use Rattle.std.proofs.Common.{rules, map-id, sym, ◌∙◌}
use Rattle.std.proofs.lemmas.Iterator.Adapters.{YieldsList-from_vec}
use Rattle.std.proofs.lemmas.Iterator.Consumers.{YieldsList-end}
use Rattle.rs_code.proofs.joining.all_done.Goals as goal

pub returns : goal.returns
returns c =
    let end =
    YieldsList-end
    (YieldsList-from_vec {s = c.into_iter-piece-iterator.result} c.args.pieces.items
    (search rules) (search rules))
    c.loop-piece.yielded c.loop-piece.piece-iterator c.loop-piece.yielded_by c.next.result
    c.next.new.self c.in-None.is c.next.ensures.steps in
    c.loop-piece.invariant ∙ (sym (map-id c.loop-piece.yielded) ∙ end.0)
