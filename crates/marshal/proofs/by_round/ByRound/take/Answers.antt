use Rattle.std.proofs.Common.{◌≡◌, ◌∙◌, ◌++◌, ◌∷◌, [], None, Option, Some, ap, cond, refl, subst, sym}
use Rattle.std.specs.Map.{lookup}
use Rattle.std.specs.Prelude.{IsSome}
use Rattle.std.specs.List.{filter_map, last_or}
use Rattle.std.specs.Ordering.{is_eq}
use Rattle.cw_types.specs.declared.commitment.Commitment.{Commitment}
use Rattle.cw_types.specs.declared.note.Note.{Note}
use Rattle.cw_types.specs.declared.round.Round.{Round}
use Rattle.note_scans.specs.Verified.{verified_in}
use Rattle.marshal.specs.Rounds.{HasVerified, same_round}
use Rattle.marshal.proofs.Placing.{found_by, set_by}
use Rattle.marshal.proofs.Rounding.{none_verified, round_cmp, rounds_tie, same_round_symm, verified_less, verified_stays, verified_there}
use Rattle.marshal.proofs.by_round.ByRound.take.Goals as goal

pub returns-in-Some : goal.returns-in-Some
returns-in-Some c = λ has.
    let es = c.args.self.now.last.entries in
    let new = c.put_there.new.map.entries in
    let v = c.in-Verified in
    let key : Round = record { epoch = v.epoch; view = v.view } in
    let was : HasVerified es (c.args.notes.now ++ Note.Verified key.epoch key.view v.field-2 ∷ []) =
    subst (λ (n : Note). HasVerified es (c.args.notes.now ++ n ∷ [])) v.is has in
    let there : lookup (λ (k : Round). is_eq (round_cmp key k)) es ≡ Some v.field-2 =
    found_by same_round round_cmp rounds_tie es key
    ∙ verified_there es new c.args.notes.now key v.field-2 was in
    let is_there : IsSome (lookup (λ (k : Round). is_eq (round_cmp c.round_of-round.result k)) es) =
    subst
    (λ (r : Round). IsSome (lookup (λ (k : Round). is_eq (round_cmp r k)) es))
    (sym c.round_of-round.ensures)
    (subst (λ (o : Option Commitment). IsSome o) (sym there) refl) in
    let puts = c.put_there.ensures is_there in
    let sets : (q : Round) → lookup (λ (k : Round). is_eq (round_cmp q k)) new
    ≡ cond (is_eq (round_cmp key q)) (Some c.in-Some.commitment)
    (lookup (λ (k : Round). is_eq (round_cmp q k)) es) =
    λ q. puts q
    ∙ ap
    (λ (r : Round). cond (is_eq (round_cmp r q)) (Some c.in-Some.commitment)
    (lookup (λ (k : Round). is_eq (round_cmp q k)) es))
    c.round_of-round.ensures in
    let left : Some c.in-Some.commitment
    ≡ last_or None (filter_map (verified_in key) c.args.notes.now) =
    sym c.in-Some.is
    ∙ (c.last_verified.ensures
    ∙ ap (λ (r : Round). last_or None (filter_map (verified_in r) c.args.notes.now))
    c.round_of.ensures) in
    verified_less es new c.args.notes.now key v.field-2 (Some c.in-Some.commitment) was left
    (set_by same_round round_cmp rounds_tie same_round_symm key (Some c.in-Some.commitment) es new
    sets)

pub returns-in-None : goal.returns-in-None
returns-in-None c = λ has.
    let es = c.args.self.now.last.entries in
    let new = c.remove.new.self.entries in
    let v = c.in-Verified in
    let key : Round = record { epoch = v.epoch; view = v.view } in
    let was : HasVerified es (c.args.notes.now ++ Note.Verified key.epoch key.view v.field-2 ∷ []) =
    subst (λ (n : Note). HasVerified es (c.args.notes.now ++ n ∷ [])) v.is has in
    let none : Option Commitment = None in
    let sets : (q : Round) → lookup (λ (k : Round). is_eq (round_cmp q k)) new
    ≡ cond (is_eq (round_cmp key q)) none
    (lookup (λ (k : Round). is_eq (round_cmp q k)) es) =
    λ q. c.remove.ensures.updates.0 q
    ∙ ap
    (λ (r : Round). cond (is_eq (round_cmp r q)) none
    (lookup (λ (k : Round). is_eq (round_cmp q k)) es))
    c.round_of-round.ensures in
    let left : none ≡ last_or None (filter_map (verified_in key) c.args.notes.now) =
    sym c.in-None.is
    ∙ (c.last_verified.ensures
    ∙ ap (λ (r : Round). last_or None (filter_map (verified_in r) c.args.notes.now))
    c.round_of.ensures) in
    verified_less es new c.args.notes.now key v.field-2 none was left
    (set_by same_round round_cmp rounds_tie same_round_symm key none es new sets)

pub returns-in_default : goal.returns-in_default
returns-in_default c = λ has.
    verified_stays c.args.self.now.last.entries c.args.notes.now c.args.note.now
    (none_verified c.args.note.now c.in_default.not-Verified) has
