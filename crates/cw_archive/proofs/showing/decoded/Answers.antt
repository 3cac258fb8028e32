use Rattle.std.proofs.Common.{◌≡◌, ◌≢◌, ◌∙◌, true, IfNone, IfOk, None, Ok, Err, Option, Result, Some, inl, inr, map, subst}
use Rattle.std.proofs.lemmas.Iterator.{YieldsList-from_slice, items_from_drains}
use Rattle.cw_coding.specs.Decoding.{IsDecoding, IsDecodeRefusal}
use Rattle.cw_coding.specs.declared.error.ReedSolomonError.TheVariants.{NoMemory}
use Rattle.cw_rules_coded.specs.Coded.{digest_bytes}
use Rattle.shards.specs.Enough.{checked_of, no_committees}
use Rattle.cw_archive.specs.Showing.{IsOfNoBlock}
use Rattle.cw_archive.proofs.DecodeLemmas.{of_no_text, of_text}
use Rattle.cw_archive.proofs.showing.decoded.Goals as goal

pub returns-in-Ok-clause-some : goal.returns-in-Ok-clause-some
returns-in-Ok-clause-some g c =
    let hash = g.H.Hasher.digest_of in
    let d = c.in-Ok.ensures.decoded in
    let chunks = map (λ x. x.now) c.args.chunks.now in
    let given : map (λ x. x.now) d.0 ≡ map (checked_of hash c.args.commitment.now) chunks =
    items_from_drains d.0 (d.1.1.0, d.1.1.1, λ _. (d.1.0, d.1.1.2))
    (YieldsList-from_slice _
    (c.iter.ensures.rest ∙ (c.deref.ensures.value ∙ c.in_ok-checked.ensures.checked))) in
    of_text hash c.args.commitment.now chunks c.in-Ok.text.items
    (c.coded_laws.ensures.coder hash no_committees 0 (λ b a. true)) c.requires
    c.in_ok-checked.ensures.bytes
    (subst
    (λ xs. IsDecoding hash digest_bytes c.args.commitment.now.config c.args.commitment.now.root
    xs c.in-Ok.text.items)
    given d.3)

none_if : {V E : Type 0} (r : Result (Option V) E) (Q P : Type 0) → IfOk r (λ _. Q) → (Q → P)
    → IfOk r (λ t. IfNone t P)
none_if (Ok None) Q P q f = f q
none_if (Ok (Some t)) Q P q f = tt
none_if (Err e) Q P q f = tt

pub returns-clause-none : goal.returns-clause-none
returns-clause-none g c =
    let hash = g.H.Hasher.digest_of in
    let chunks = map (λ x. x.now) c.args.chunks.now in
    none_if c.no_text.result (c.in-Err.error ≢ NoMemory)
    (IsOfNoBlock hash c.args.commitment.now chunks) c.no_text.ensures.refused
    (λ ne. elim c.in-Err.ensures.refused [
      | inl e ↦ absurd (ne e)
      | inr d ↦
          (let given : map (λ x. x.now) d.0 ≡ map (checked_of hash c.args.commitment.now) chunks =
          items_from_drains d.0 (d.1.1.0, d.1.1.1, λ _. (d.1.0, d.1.1.2))
          (YieldsList-from_slice _
          (c.iter.ensures.rest
          ∙ (c.deref.ensures.value ∙ c.in_ok-checked.ensures.checked))) in
          of_no_text hash c.args.commitment.now chunks c.in-Err.error
          (c.coded_laws.ensures.coder hash no_committees 0 (λ b a. true))
          c.encodings_decode.ensures.any_enough c.requires
          (subst
          (λ xs. IsDecodeRefusal hash digest_bytes c.args.commitment.now.config
          c.args.commitment.now.root xs c.in-Err.error)
          given d.2)
          ne)
    ])
