use Rattle.std.proofs.Common.{◌≡◌, ◌∙◌, ◌++◌, ◌∷◌, [], List, None, Option, ap, length, map, rules, subst, sym}
use Rattle.std.specs.List.{AllByRecursion}
use Rattle.std.proofs.lemmas.Bool.{false≢true}
use Rattle.std.proofs.lemmas.List.{length-map}
use Rattle.cw_base.specs.declared.hash.Digest32.{Digest32}
use Rattle.cw_types.specs.Values.{IsNote}
use Rattle.cw_types.specs.declared.note.Note.{Note}
use Rattle.marshal.specs.Indexed.{IsIndexOf}
use Rattle.marshal.specs.Kept.{note_digest}
use Rattle.marshal.proofs.Reaching.{reaches_less}
use Rattle.marshal.proofs.Truncating.{all_less, last_beside, maps_less}
use Rattle.marshal.proofs.notes.Notes.pop.Goals as goal

pub invariant_of-self : goal.invariant_of-self
invariant_of-self g c =
    let less = c.pop.new.self.items in
    let note = c.in-Some.note in
    let old = c.self.inside.digests.items in
    let new = c.pop-in-Some.new.self.items in
    let digest = c.unwrap_or-digest.result in
    let index = c.self.inside.index in
    let split : c.self.inside.notes.items ≡ less ++ note ∷ [] = c.in-Some.ensures.items in
    let at : c.len-place.result ≡ length less = search rules in
    let digested : new ≡ map (note_digest g.H.Hasher.digest_of) less =
    maps_less (note_digest g.H.Hasher.digest_of) c.self.inside.notes.items less note _ _ _
    c.pop-in-Some.result old new split c.self.invariant.digested c.pop-in-Some.ensures.items
    c.pop-in-Some.ensures.rest c.pop-in-Some.ensures.cases in
    let beside : old ≡ new ++ digest ∷ [] =
    last_beside (note_digest g.H.Hasher.digest_of) c.self.inside.notes.items less note _ _ _
    c.pop-in-Some.result None old new split c.self.invariant.digested c.pop-in-Some.ensures.items
    c.pop-in-Some.ensures.rest c.pop-in-Some.ensures.cases
    ∙ ap (λ (d : Option Digest32). new ++ d ∷ []) (sym c.unwrap_or-digest.ensures) in
    let seen : c.deref.result.now ≡ less = c.deref.ensures.value in
    let was : IsIndexOf (c.deref.result.now ++ note ∷ []) (new ++ digest ∷ []) index =
    subst (λ (ns : List Note). IsIndexOf (ns ++ note ∷ []) (new ++ digest ∷ []) index) (sym seen)
    (subst (λ (ds : List (Option Digest32)). IsIndexOf (less ++ note ∷ []) ds index) beside
    (subst (λ (ns : List Note). IsIndexOf ns old index) split c.self.invariant.indexed)) in
    let long : length new ≡ length c.deref.result.now =
    ap length digested
    ∙ (length-map less (note_digest g.H.Hasher.digest_of) ∙ sym (ap length seen)) in
    let indexed : IsIndexOf less new c.take.new.self =
    subst (λ (ns : List Note). IsIndexOf ns new c.take.new.self) seen (c.take.ensures new was long)
    in
    record {
      forms =
          all_less IsNote less (note ∷ [])
          (subst (λ (ns : List Note). AllByRecursion IsNote ns) split c.self.invariant.forms);
      digested = digested;
      indexed = indexed;
      reaching =
          reaches_less c.self.inside.notes.items less note c.len-place.result
          c.self.inside.reach.items c.truncate.new.self.items c.self.invariant.reaching split at
          c.truncate.ensures.items;
      topped = search rules;
      known = λ yes. absurd (false≢true (sym c.unknown.ensures ∙ yes));
      first_block = c.self.invariant.first_block;
      first_commitment = c.self.invariant.first_commitment;
    }
