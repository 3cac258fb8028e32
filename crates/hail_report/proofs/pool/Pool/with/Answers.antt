use Rattle.std.proofs.Common.{◌≡◌, ℕ, List, [], ◌∷◌, ◌++◌, length, map, ap, sym, subst, ◌∙◌}
use Rattle.std.specs.List.{range_with_len}
use Rattle.cw_rules.specs.Report.{Entry}
use Rattle.cw_rules.specs.World.{Sent}
use Rattle.hail_report.specs.Votes.{TellVotes}
use Rattle.hail_report.specs.Pool.{StandAt, sent_in}
use Rattle.hail_report.proofs.Numbered.{sent_more, stand_more}
use Rattle.hail_report.proofs.pool.Pool.with.Goals as goal

pub invariant_of-result : goal.invariant_of-result
invariant_of-result c =
    let entries : List Entry = c.self.inside.entries in
    let places : List (ℕ × ℕ) = c.self.inside.places.items in
    let entry : Entry = c.args.entry in
    let put : c.put_places.new.places.items
    ≡ places ++ map (λ i. (length entries, i)) (range_with_len 0 (length entry.sent)) =
    c.in_ok-put_places.ensures
    ∙ ap (λ (k : ℕ). places ++ map (λ i. (k, i)) (range_with_len 0 c.len-2.result)) c.len.ensures
    ∙ ap (λ (k : ℕ). places ++ map (λ i. (length entries, i)) (range_with_len 0 k)) c.len-2.ensures
    ∙ ap
    (λ (e : Entry). places ++ map (λ i. (length entries, i)) (range_with_len 0 (length e.sent)))
    c.entry.view_is in
    let stand =
    subst (λ (l : List Entry). StandAt l c.put_places.new.places.items)
    (sym c.in_ok-push.ensures.ok)
    (subst (λ (l : List (ℕ × ℕ)). StandAt (entries ++ entry ∷ []) l) (sym put)
    (stand_more entries entry places c.self.invariant.0)) in
    let sent : sent_in (entries ++ entry ∷ []) ≡ sent_in entries ++ entry.sent =
    sent_more entries entry in
    let behind : c.as_slice.result.now ≡ entry.sent =
    c.as_slice.ensures ∙ ap (λ (e : Entry). e.sent) c.entry.view_is in
    let told =
    subst (λ (s : List Sent). TellVotes c.take_all.new.self.rounds (sent_in entries ++ s))
    behind (c.in_ok-take_all.ensures (sent_in entries) c.self.invariant.1) in
    let tell =
    subst (λ (l : List Entry). TellVotes c.take_all.new.self.rounds (sent_in l))
    (sym c.in_ok-push.ensures.ok)
    (subst (λ (s : List Sent). TellVotes c.take_all.new.self.rounds s) (sym sent) told) in
    (stand, tell)
