use Rattle.std.proofs.Common.{◌≡◌, ◌++◌, ◌∷◌, [], arith, sym, ◌∙◌, ap}
use Rattle.std.specs.List.{range_with_len}
use Rattle.cw_types.proofs.EpochLemmas.{range_more, single_sound}
use Rattle.cw_types.proofs.committees.Committees.single.Goals as goal

pub loop-member-preserved : goal.loop-member-preserved
loop-member-preserved c =
    c.in_ok-push.ensures.items
    ∙ (ap (λ xs. xs ++ c.loop-member.member ∷ []) c.loop-member.invariant
    ∙ sym (range_more 0 c.loop-member.member c.loop-member.member (omega arith)))

pub invariant_of-result : goal.invariant_of-result
invariant_of-result c =
    let all : c.loop-member.member ≡ c.args.n = omega arith in
    let members : c.from_vec.result ≡ range_with_len 0 c.args.n =
    c.from_vec.ensures ∙ (c.loop-member.invariant ∙ ap (range_with_len 0) all) in
    rw (c.in_ok-new.ensures.ok, c.in_ok-push-2.ensures.ok, c.new-lists.ensures, members)
    (single_sound c.args.n c.requires)
