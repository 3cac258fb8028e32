use Rattle.std.proofs.Common.{ℕ, ◌≡◌, arith}
use Rattle.cw_coding.specs.Layout.{counted_text, layout}
use Rattle.cw_coding.proofs.DecodingLaws.{fits_layout, same_text}
use Rattle.cw_coding.proofs.RecoveringLaws.{length-text_in}
use Rattle.cw_coding.proofs.recovering.candidate.Goals as goal

pub returns-in-Some : goal.returns-in-Some
returns-in-Some g c =
    let k : ℕ = c.args.config.now.minimum in
    let os = c.args.originals.now in
    let count = c.in-Some.count in
    let some = rw c.minimum.ensures.value at c.in-Some.ensures in
    let laid : layout k (counted_text os count) ≡ os = some.2 in (
      some.0,
      some.1,
      laid,
      some.3,
      λ root other f.
          let again : layout k other ≡ os =
          fits_layout _ _ k c.args.config.now.extra root c.args.given.now.width _ _ _ other _
          c.prove_rows.ensures.originals c.requires.given.some
          (omega (arith, c.requires.given.total)) c.requires.given.used c.requires.given.within
          c.requires.given.long f c.requires.value in
          same_text k other (counted_text os count) os f.short
          (omega (arith, length-text_in os count some.1, some.0)) again laid,
    )

pub returns-in-None : goal.returns-in-None
returns-in-None g c root text f =
    let k = c.args.config.now.minimum in
    let none = rw c.minimum.ensures.value at c.in-None.ensures in
    none text f.short
    (fits_layout _ _ k c.args.config.now.extra root c.args.given.now.width _ _ _ text _
    c.prove_rows.ensures.originals c.requires.given.some
    (omega (arith, c.requires.given.total)) c.requires.given.used c.requires.given.within
    c.requires.given.long f c.requires.value)
