use Rattle.std.proofs.Common.{◌∙◌}
use Rattle.cw_types.proofs.Searched.{place_searched}
use Rattle.cw_types.proofs.committees.place_in.Goals as goal

pub returns : goal.returns
returns c =
    c.ok.ensures.value
    ∙ place_searched c.args.members.now c.args.member c.binary_search.result c.requires.rising
    c.binary_search.ensures.position
