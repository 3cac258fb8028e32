use Rattle.std.proofs.Common.{ap, sym, ◌∙◌, map}
use Rattle.std.proofs.lemmas.List.{map-append}
use Rattle.cw_base.proofs.Listed.{listed_none, push_listed}
use Rattle.cw_base.proofs.rows.rows_of.Goals as goal

pub loop-i-init : goal.loop-i-init
loop-i-init c = ap (map (λ row. row.now)) c.new-slices.ensures.items ∙ sym (listed_none _)

pub loop-i-preserved : goal.loop-i-preserved
loop-i-preserved c =
    push_listed c.loop-i.i _ _ _ _ c.loop-i.invariant
    (ap (map (λ row. row.now)) c.in_ok-push.ensures.items
    ∙ map-append (λ row. row.now) c.loop-i.slices.items _)
    c.row.ensures
