use Rattle.std.proofs.Common.{◌≡◌, ◌∙◌, ◌≤◌, List, ap, arith, drop, map, subst}
use Rattle.std.proofs.lemmas.Iterator.{YieldsList-from_slice, items_from_drains}
use Rattle.cw_base.specs.declared.hash.Digest32.{Digest32}
use Rattle.cw_coding.specs.Checked.{Checked}
use Rattle.cw_coding.specs.Decoding.{AreDecodable, IsDecoding}
use Rattle.use_coding.specs.Checked.{checked_under, hash}
use Rattle.use_coding.proofs.Left.{all_left}
use Rattle.use_coding.proofs.restored.Goals as goal

-- what is decoded is the text, since what was decoded are chunks of it
pub returns-2 : goal.returns-2
returns-2 g c =
    let config = c.args.config.now in
    let text = c.args.text.now in
    let root = c.in_ok-root.root in
    let pieces = c.in_ok-root.chunks.items in
    let left = map (checked_under root) (drop c.args.lost pieces) in
    let d = c.in_ok-back.ensures.decoded in
    let given : map (λ x. x.now) d.0 ≡ left =
    items_from_drains d.0 (d.1.1.0, d.1.1.1, λ _. (d.1.0, d.1.1.2))
    (YieldsList-from_slice _
    (c.iter.ensures.rest
    ∙ (c.deref-2.ensures.value
    ∙ (c.in_ok-checked.ensures
    ∙ ap (λ ps. map (checked_under root) ps)
    (c.split_at.ensures.back ∙ ap (drop c.args.lost) c.deref.ensures.value))))) in
    let can : AreDecodable config root left =
    subst (λ (xs : List (Checked Digest32)). AreDecodable config root xs) given d.2 in
    let is : IsDecoding hash (λ x. x.0) config root left c.in_ok-back.back.items =
    subst
    (λ (xs : List (Checked Digest32)).
    IsDecoding hash (λ x. x.0) config root xs c.in_ok-back.back.items) given d.3 in
    let some : 1 ≤ config.minimum = omega (arith, c.minimum-needed.ensures.value, c.minimum-needed.ensures.some) in
    (c.encodings_decode.ensures.any_enough config text root pieces left some
    (λ i. omega (arith, c.type_inv.text i)) c.in_ok-root.ensures.encoded
    (all_left config text root pieces c.in_ok-root.ensures.encoded c.args.lost)
    can.fit.indices can.enough).alone
    c.in_ok-back.back.items is
