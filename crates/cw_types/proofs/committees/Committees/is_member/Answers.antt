use Rattle.std.proofs.Common.{◌∙◌, ◌==◌, ap}
use Rattle.std.specs.List.{list_any}
use Rattle.cw_types.proofs.EpochLemmas.{committee_members}
use Rattle.cw_types.proofs.Searched.{member_searched}
use Rattle.cw_types.proofs.committees.Committees.is_member.Goals as goal

pub returns : goal.returns
returns c =
    let rising =
    (committee_members c.args.self.now.total c.members.result.now c.members.ensures.committee).rising
    in
    c.is_ok.ensures.value
    ∙ (member_searched c.members.result.now c.args.member c.binary_search.result rising
    c.binary_search.ensures.position
    ∙ ap (list_any (λ j. j == c.args.member)) c.members.ensures.value)
