use Rattle.std.proofs.Common.{◌∙◌, Option, subst}
use Rattle.std.specs.Prelude.{IfOk, string_bytes}
use Rattle.cw_types.specs.declared.commitment.Commitment.{Commitment}
use Rattle.cw_rules.specs.Step.{member_notes}
use Rattle.marshal.specs.Finding.{identified}
use Rattle.marshal.specs.declared.identifier.Identifier.TheVariants as ident
use Rattle.member_session.specs.Serving.{serving_rules}
use Rattle.member_session.specs.Talk.{TellsFound, block_told}
use Rattle.member_session.proofs.Asked.{height_asked}
use Rattle.member_session.proofs.running.Running.block_at.Goals as goal

pub returns : goal.returns
returns g c =
    let hash = g.H.Hasher.digest_of in
    let s = c.args.self.now in
    let r = serving_rules hash g.W.Way.travel s in
    subst
    (λ (o : Option Commitment). IfOk c.block.result (λ there. TellsFound
    (block_told r o (identified r (member_notes s.member) (ident.Height c.args.height)))
    (string_bytes c.args.out.now) (string_bytes c.block.new.out) there))
    (c.commitment_at-commitment.ensures
    ∙ height_asked hash g.W.Way.travel c.self.inside.member c.marshal.result.now s c.args.height
    (c.marshal.ensures.value c.self.invariant.works.live) c.self.view_is)
    c.block.ensures
