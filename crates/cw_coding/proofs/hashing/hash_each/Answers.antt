use Rattle.std.proofs.Common.{◌∙◌, sym, ap}
use Rattle.cw_base.proofs.Listed.{listed_none, push_listed}
use Rattle.cw_coding.proofs.hashing.hash_each.Goals as goal

pub loop-i-init : goal.loop-i-init
loop-i-init g c = c.in_ok-digests.ensures.items ∙ sym (listed_none _)

pub loop-i-preserved : goal.loop-i-preserved
loop-i-preserved g c =
    push_listed c.loop-i.i _ _ _ _ c.loop-i.invariant c.in_ok-push.ensures.items
    (c.hash.ensures ∙ ap g.H.Hasher.digest_of c.nth_row.ensures)
