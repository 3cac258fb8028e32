use Rattle.std.proofs.Common.{◌++◌, ◌∷◌, [], List, Option, ap, ◌∙◌}
use Rattle.std.specs.Prelude.{unwrap_or}
use Rattle.cw_types.specs.declared.vote.Vote.{Vote}
use Rattle.hail_report.proofs.Voted.{put_back, round_is, told_more}
use Rattle.hail_report.proofs.votes.Votes.put.Goals as goal

pub returns-in-Ok : goal.returns-in-Ok
returns-in-Ok c before sent from is told =
    let i = c.args.signer in
    let w : Vote = c.args.vote in
    let m = c.args.self.now.rounds in
    let at = round_is i _ _ _ _ c.epoch.ensures c.view.ensures in
    let pushed =
    c.in_ok-push.ensures.ok
    ∙ ap (λ (l : List Vote). l ++ w ∷ [])
    (c.or_none-votes.ensures
    ∙ ap (λ (o : Option (List Vote)). unwrap_or o []) c.remove.ensures.value) in
    told_more m c.insert.new.self i w before sent from is
    (put_back m c.remove.new.self c.insert.new.self i w (i, c.epoch.result, c.view.result)
    c.push.new.self at c.remove.ensures.updates c.in-Ok.ensures.updates pushed before sent)
    told
