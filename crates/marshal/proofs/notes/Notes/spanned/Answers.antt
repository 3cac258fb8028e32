use Rattle.std.proofs.Common.{◌≡◌, ◌∙◌, ◌+◌, List, ap, drop, map, subst, sym, take}
use Rattle.std.specs.Map.{lookup}
use Rattle.cw_types.specs.Same.{same_digest}
use Rattle.cw_types.specs.declared.note.Note.{Note}
use Rattle.cw_rules.specs.Accepted.{first_some}
use Rattle.cw_rules.specs.Step.{noted_of}
use Rattle.marshal.specs.Bare.{bare}
use Rattle.marshal.specs.Digests.{HaveDigests}
use Rattle.marshal.specs.Kept.{note_digest}
use Rattle.marshal.proofs.Digesting.{Digests, found_between, found_nowhere, span_is, span_none}
use Rattle.marshal.proofs.notes.Notes.spanned.Goals as goal

pub returns-in-Some : goal.returns-in-Some
returns-in-Some g c =
    let hash = g.H.Hasher.digest_of in
    let notes = c.self.inside.notes.items in
    let first = c.self.inside.index.by_digest.first.entries in
    let again = c.self.inside.index.by_digest.again.entries in
    let d = c.args.digest.now in
    let place = c.in-Some.first in
    let last = c.in-Some.last in
    let have : HaveDigests (map (note_digest hash) notes) first again =
    subst (λ (ds : Digests). HaveDigests ds first again) c.self.invariant.digested
    c.self.invariant.indexed.digested in
    let (is, last_is) =
    span_is (lookup (same_digest d) first) (lookup (same_digest d) again) (place, last)
    (sym c.in-Some.is ∙ c.span.ensures) in
    ap (first_some (noted_of (bare hash) c.args.self.now d))
    (c.between.ensures
    ∙ ap (λ (ns : List Note). drop place (take (last + 1) ns)) c.as_slice-notes.ensures.value)
    ∙ subst
    (λ (ns : List Note).
    first_some (noted_of (bare hash) ns d) (drop place (take (last + 1) ns))
    ≡ first_some (noted_of (bare hash) ns d) ns)
    c.self.view_is (found_between hash notes d c.requires first again have place last is last_is)

pub returns-in-None : goal.returns-in-None
returns-in-None g c =
    let hash = g.H.Hasher.digest_of in
    let notes = c.self.inside.notes.items in
    let first = c.self.inside.index.by_digest.first.entries in
    let again = c.self.inside.index.by_digest.again.entries in
    let d = c.args.digest.now in
    let have : HaveDigests (map (note_digest hash) notes) first again =
    subst (λ (ds : Digests). HaveDigests ds first again) c.self.invariant.digested
    c.self.invariant.indexed.digested in
    let none =
    span_none (lookup (same_digest d) first) (lookup (same_digest d) again)
    (sym c.in-None.is ∙ c.span.ensures) in
    ap (first_some (noted_of (bare hash) c.args.self.now d)) c.until_place.ensures
    ∙ (found_nowhere hash notes d c.requires first again have none
    ∙ ap (λ (ns : List Note). first_some (noted_of (bare hash) ns d) ns) c.self.view_is)
