use Rattle.std.proofs.Common.{◌≡◌, ◌∙◌, IfOk, Bool, List, ap, map, subst}
use Rattle.cw_base.specs.declared.hash.Digest32.{Digest32}
use Rattle.cw_types.specs.Block.{Block}
use Rattle.cw_types.specs.Encoding.{block_bytes}
use Rattle.cw_rules.specs.Report.{Entry}
use Rattle.cw_rules.specs.World.{Line}
use Rattle.hail_script.specs.Grammar.{faulty_marks}
use Rattle.run_picture.specs.Picture.{picture}
use Rattle.run_picture.specs.Steps.{Step}
use Rattle.hail_picture.specs.Drawing.{steps_of}
use Rattle.hail_picture.proofs.drawing.picture_of.Goals as goal

pub returns : goal.returns
returns g c =
    let s = c.args.ran.now.script in
    let r = c.args.ran.now.report in
    let told = c.as_slice.result.now in
    let faulty = c.deref.ensures.value ∙ c.in_ok-faulty.ensures in
    let steps =
    c.deref-2.ensures.value ∙ c.in_ok-steps.ensures
    ∙ ap (λ (ls : List Line). steps_of ls told) c.lines.ensures.value
    ∙ ap (λ (es : List Entry). steps_of s.lines es) c.as_slice.ensures in
    let chain =
    c.deref-3.ensures.value ∙ c.in_ok-chain.ensures
    ∙ ap (λ (bs : List Block). map (λ b. g.H.Hasher.digest_of (block_bytes b)) bs)
    c.as_slice-2.ensures in
    subst
    (λ (d : List Digest32). IfOk c.picture.result
    (λ text. text.items
    ≡ picture (faulty_marks s.lines s.committees.total) (steps_of s.lines r.steps) d))
    chain
    (subst
    (λ (t : List Step). IfOk c.picture.result
    (λ text. text.items ≡ picture (faulty_marks s.lines s.committees.total) t c.deref-3.result.now))
    steps
    (subst
    (λ (f : List Bool). IfOk c.picture.result
    (λ text. text.items ≡ picture f c.deref-2.result.now c.deref-3.result.now))
    faulty c.picture.ensures))
