use Rattle.std.proofs.Common.{sym, [], arith}
use Rattle.std.proofs.lemmas.List.FromFn.{map-range_with_len_more}
use Rattle.hail_script.specs.Grammar as grammar
use Rattle.hail_script.proofs.parse.unmarked.Goals as goal

pub loop-member-preserved : goal.loop-member-preserved
loop-member-preserved c =
    let more =
    map-range_with_len_more (grammar.is_faulty_in []) 0 c.loop-member._member
    c.loop-member._member (omega arith) in
    rw (c.in_ok-push.ensures.items, c.loop-member.invariant) (sym more)
