use Rattle.std.proofs.Common.{map, ap, ◌∙◌, arith}
use Rattle.cw_coding.proofs.CheckLaws.{stood, all_stood, shown_stands}
use Rattle.cw_coding.proofs.checking.stand_all.Goals as goal

pub returns : goal.returns
returns g c =
    let hash = g.H.Hasher.digest_of in
    let content = g.H.Digest.Digest.content in
    let config = c.args.config.now in
    let root = c.args.commitment.now in
    all_stood hash content config root c.args.indices.now _ c.args.shards.now _
    c.in_ok-stood.stood.items c.loop-i.i (omega (arith, c.requires)) (omega arith)
    (ap (map (λ x. x.0)) c.deref.ensures.value ∙ c.loop-i.invariant.indices)
    (ap (map (λ x. x.1.now)) c.deref.ensures.value ∙ c.loop-i.invariant.shards)
    (stood hash content config root _ _
    (λ x r e. shown_stands hash content config root x e.shown.now r e.shows e.says.met)
    c.deref.result.now c.in_ok-stood.stood.items c.in_ok-stood.ensures.list_map)
