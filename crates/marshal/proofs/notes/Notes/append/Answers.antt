use Rattle.std.proofs.Common.{◌≡◌, ◌≤◌, ◌∙◌, ◌++◌, ◌∷◌, [], ap, arith, length, map, rules, sym, unwrap_or}
use Rattle.std.proofs.lemmas.Bool.{false≢true}
use Rattle.std.proofs.lemmas.List.{length-map, map-append}
use Rattle.cw_types.specs.Values.{IsNote}
use Rattle.cw_rules.proofs.Lists.{all_both}
use Rattle.marshal.specs.Indexed.{IsIndexOf}
use Rattle.marshal.specs.Kept.{note_digest}
use Rattle.marshal.specs.Reach.{BoundsHeights, final_height}
use Rattle.marshal.proofs.Reaching.{reaches_on}
use Rattle.marshal.proofs.notes.Notes.append.Goals as goal

pub invariant_of-self-2 : goal.invariant_of-self-2
invariant_of-self-2 g c =
    let notes = c.self.inside.notes.items in
    let digests = c.self.inside.digests.items in
    let note = c.args.note in
    let all : c.push_reserved-2.new.self.items ≡ notes ++ note ∷ [] = search rules in
    let at : c.len-place.result ≡ length notes = search rules in
    let beside : c.len-place.result ≡ length digests =
    at
    ∙ (sym (length-map notes (note_digest g.H.Hasher.digest_of))
    ∙ sym (ap length c.self.invariant.digested)) in
    let indexed : IsIndexOf (notes ++ note ∷ []) (digests ++ c.in_ok-digest.digest ∷ [])
    c.put.new.self =
    c.in_ok-put.ensures.ok notes digests c.self.invariant.indexed at beside in
    let more : c.push_reserved.new.self.items ≡ c.self.inside.reach.items ++ c.reach_on.result ∷ []
    = search rules in
    let height : c.final_height-height.result ≡ unwrap_or (final_height notes note) 0 =
    search rules in
    let own : unwrap_or (final_height notes note) 0 ≤ c.reach_on.result =
    omega (arith, height, c.reach_on.ensures.height) in
    let reaching : BoundsHeights (notes ++ note ∷ []) c.raise.new.reach.items =
    reaches_on notes note c.put.new.self.finals.entries c.self.inside.reach.items
    c.push_reserved.new.self.items c.raise.new.reach.items c.reach_on.result
    c.self.invariant.reaching indexed.finalized more own c.raise.ensures.lifted
    c.raise.ensures.block in
    let put : c.push_reserved-3.new.self.items ≡ digests ++ c.in_ok-digest.digest ∷ [] =
    search rules in
    let digest : c.in_ok-digest.digest ≡ note_digest g.H.Hasher.digest_of note = search rules in
    record {
      forms = rw all (all_both IsNote notes (note ∷ []) c.self.invariant.forms (c.requires, tt));
      digested =
          put
          ∙ (ap (λ ds. ds ++ c.in_ok-digest.digest ∷ []) c.self.invariant.digested
          ∙ (ap (λ d. map (note_digest g.H.Hasher.digest_of) notes ++ d ∷ []) digest
          ∙ (sym (map-append (note_digest g.H.Hasher.digest_of) notes (note ∷ []))
          ∙ ap (map (note_digest g.H.Hasher.digest_of)) (sym all))));
      indexed = rw (all, put) indexed;
      reaching = rw all reaching;
      topped = search rules;
      known = λ yes. absurd (false≢true (sym c.unknown.ensures ∙ yes));
      first_block = c.self.invariant.first_block;
      first_commitment = c.self.invariant.first_commitment;
    }
