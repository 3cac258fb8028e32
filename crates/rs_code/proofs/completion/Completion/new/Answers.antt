use Rattle.std.proofs.Common.{◌≡◌, ℕ, ◌+◌, List, length, get_or, sym, ap, ◌∙◌, subst, arith}
use Rattle.rs_code.specs.Codeword.{ArePoints}
use Rattle.rs_code.specs.Completions.{given_originals, given_recoveries, apart, AreSources, AreSpots}
use Rattle.rs_code.proofs.CompletedRows.{recovery_points}
use Rattle.rs_code.proofs.CompletionSteps.{scales_made, distances_made}
use Rattle.rs_code.proofs.Restored.{all_sources}
use Rattle.rs_code.proofs.IndexLaws.{sound_points}
use Rattle.rs_code.proofs.completion.Completion.new.Goals as goal

pub sources_of-requires-clause-points : goal.sources_of-requires-clause-points
sources_of-requires-clause-points c =
    subst (λ (xs : List ℕ). ArePoints (length xs) (λ s. get_or xs s 0))
    (sym c.deref-2.ensures.value)
    (sound_points (c.args.k + c.args.m) c.args.points.items c.requires.sound
    (omega (arith, c.requires.total)))

pub new-requires : goal.new-requires
new-requires c =
    let k : ℕ = c.args.k in
    let points : List ℕ = c.args.points.items in
    let own : c.in_ok-originals.field-0.recoveries.items ≡ given_recoveries k points =
    c.in_ok-originals.ensures.recoveries ∙ ap (given_recoveries k) c.deref.ensures.value in
    subst (λ (xs : List ℕ). ArePoints (length xs) (λ s. get_or xs s 0)) (sym own)
    (recovery_points k c.args.m points c.requires)

pub invariant_of-result : goal.invariant_of-result
invariant_of-result c =
    let k : ℕ = c.args.k in
    let points : List ℕ = c.args.points.items in
    let missing : List ℕ = c.in_ok-places.field-0.missing.items in
    let own : c.in_ok-originals.field-0.originals.items ≡ given_originals k points =
    c.in_ok-originals.ensures.originals ∙ ap (given_originals k) c.deref.ensures.value in
    let others : c.in_ok-originals.field-0.recoveries.items ≡ given_recoveries k points =
    c.in_ok-originals.ensures.recoveries ∙ ap (given_recoveries k) c.deref.ensures.value in (
      c.requires,
      c.in_ok-basis.ensures ∙ others,
      record {
        sources =
            all_sources k c.deref-3.result.now points missing c.in_ok-places.field-0.places.items
            (ap length c.deref-3.ensures.value ∙ c.in_ok-all.ensures.count)
            (λ s h. ap (λ (xs : List ℕ). get_or xs s 0) c.deref-3.ensures.value
            ∙ c.in_ok-all.ensures.each s h ∙ (let own : 0 + s ≡ s = omega arith in own))
            (subst (λ (ps : List ℕ). AreSources (length c.deref-3.result.now)
            (λ i. get_or c.deref-3.result.now i 0) ps missing c.in_ok-places.field-0.places.items)
            c.deref-2.ensures.value c.in_ok-places.ensures.sources);
        spots =
            subst (λ (ps : List ℕ). AreSpots k ps c.in_ok-originals.field-0.spots.items)
            c.deref.ensures.value c.in_ok-originals.ensures.spots;
        recoveries = c.in_ok-as_places.ensures ∙ c.deref-8.ensures.value ∙ others;
        scale_count =
            c.in_ok-inverses_at.ensures.count ∙ ap length (c.deref-5.ensures.value ∙ others);
        scales =
            scales_made k c.args.m points c.deref-4.result.now c.deref-5.result.now _ c.requires
            (c.deref-4.ensures.value ∙ own) (c.deref-5.ensures.value ∙ others)
            c.in_ok-inverses_at.ensures.each;
        distance_count = c.in_ok-distances_at.ensures.count ∙ ap length c.deref-7.ensures.value;
        distances =
            λ j h. distances_made k points c.deref-6.result.now c.deref-7.result.now _
            (c.deref-6.ensures.value ∙ own) c.in_ok-distances_at.ensures.each j
            (omega (arith, h, ap length c.deref-7.ensures.value))
            ∙ ap (λ (ms : List ℕ). apart k points (get_or ms j 0)) c.deref-7.ensures.value;
      },
    )
