use Rattle.std.proofs.Common.{◌∙◌, ◌++◌, ap, refl, sym}
use Rattle.std.specs.Prelude.{string_bytes}
use Rattle.cw_rules.specs.Step.{member_notes}
use Rattle.cw_types.specs.declared.message.Message.TheVariants as message
use Rattle.cw_types.specs.declared.vote.Cert.{Cert}
use Rattle.marshal.specs.Finding.{finalization}
use Rattle.member_lines.specs.Answers.{final_line}
use Rattle.member_session.specs.Serving.{serving_rules}
use Rattle.member_session.proofs.Asked.{final_asked, told_none, told_some}
use Rattle.member_session.proofs.running.Running.finalization.Goals as goal

pub returns-in_default : goal.returns-in_default
returns-in_default g c =
    let hash = g.H.Hasher.digest_of in
    let s = c.args.self.now in
    told_none
    (finalization (serving_rules hash g.W.Way.travel s) (member_notes s.member) c.args.height)
    (λ (cert : Cert). final_line c.args.height (message.Cert cert)) (string_bytes c.args.out.now)
    (string_bytes c.args.out.now)
    (sym
    (c.in_default.ensures
    ∙ final_asked hash g.W.Way.travel c.self.inside.member c.marshal.result.now s c.args.height
    (c.marshal.ensures.value c.self.invariant.works.live) c.self.view_is))
    refl

pub returns : goal.returns
returns g c =
    let hash = g.H.Hasher.digest_of in
    let s = c.args.self.now in
    told_some
    (finalization (serving_rules hash g.W.Way.travel s) (member_notes s.member) c.args.height)
    (λ (cert : Cert). final_line c.args.height (message.Cert cert)) c.in-Some.cert.now
    (string_bytes c.args.out.now) (string_bytes c.put_final.new.out)
    (sym
    (c.in-Some.ensures
    ∙ final_asked hash g.W.Way.travel c.self.inside.member c.marshal.result.now s c.args.height
    (c.marshal.ensures.value c.self.invariant.works.live) c.self.view_is))
    (c.in_ok-put_final.ensures
    ∙ ap (λ (x : Cert). string_bytes c.args.out.now ++ final_line c.args.height (message.Cert x))
    c.in_ok-copy.ensures)
