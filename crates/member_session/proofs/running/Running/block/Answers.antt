use Rattle.std.proofs.Common.{◌≡◌, ◌∙◌, refl, sym}
use Rattle.std.specs.Prelude.{string_bytes}
use Rattle.cw_rules.specs.Rules.{digest}
use Rattle.cw_rules.specs.Step.{member_notes}
use Rattle.cw_types.specs.Block.{Block}
use Rattle.marshal.specs.Finding.{identified, info_of}
use Rattle.marshal.specs.Stored.{marshal_rules, notes_of}
use Rattle.member_lines.specs.Answers.{block_line}
use Rattle.member_session.specs.Serving.{serving_rules}
use Rattle.member_session.proofs.Asked.{block_asked, digest_told, none_of, told_none, told_of_block}
use Rattle.member_session.proofs.running.Running.block.Goals as goal

pub returns-in_default : goal.returns-in_default
returns-in_default g c =
    let hash = g.H.Hasher.digest_of in
    let m = c.marshal-marshal.result.now in
    let s = c.args.self.now in
    let r = serving_rules hash g.W.Way.travel s in
    told_none (identified r (member_notes s.member) c.args.id.now)
    (λ (b : Block). block_line b.height (digest r b) c.args.commitment b.payload)
    (string_bytes c.args.out.now) (string_bytes c.args.out.now)
    (sym
    (block_asked hash g.W.Way.travel c.self.inside.member m s c.args.id.now
    (c.marshal-marshal.ensures.value c.self.invariant.works.live) c.self.view_is)
    ∙ none_of (info_of (marshal_rules hash m))
    (identified (marshal_rules hash m) (notes_of m) c.args.id.now) c.in_default.ensures)
    refl

pub returns : goal.returns
returns g c =
    let hash = g.H.Hasher.digest_of in
    let m = c.marshal-marshal.result.now in
    let s = c.args.self.now in
    let r = serving_rules hash g.W.Way.travel s in
    let b : Block = c.in-Some-get_block.block.now in
    told_of_block hash g.W.Way.travel s c.args.commitment
    (identified r (member_notes s.member) c.args.id.now) b c.in-Some.digest c.height.result
    c.bytes-payload.result.now (string_bytes c.args.out.now) (string_bytes c.put_block.new.out)
    (c.in-Some-get_block.ensures
    ∙ block_asked hash g.W.Way.travel c.self.inside.member m s c.args.id.now
    (c.marshal-marshal.ensures.value c.self.invariant.works.live) c.self.view_is)
    (digest_told hash m (identified (marshal_rules hash m) (notes_of m) c.args.id.now) b
    c.in-Some.field-0-0 c.in-Some.digest c.in-Some.ensures c.in-Some-get_block.ensures)
    c.height.ensures.value (c.bytes-payload.ensures.value ∙ c.payload.ensures)
    c.in_ok-put_block.ensures
