use Rattle.std.proofs.Common.{◌≡◌, ◌∙◌, ◌++◌, ◌∷◌, [], Some, ap, cond, subst, sym}
use Rattle.std.specs.Map.{lookup}
use Rattle.std.specs.Ordering.{is_eq}
use Rattle.cw_types.specs.declared.note.Note.{Note}
use Rattle.cw_types.specs.declared.round.Round.{Round}
use Rattle.marshal.specs.Rounds.{HasVerified, same_round}
use Rattle.marshal.proofs.Placing.{set_by}
use Rattle.marshal.proofs.Rounding.{none_verified, round_cmp, rounds_tie, same_round_symm, verified_put, verified_same}
use Rattle.marshal.proofs.by_round.ByRound.put.Goals as goal

pub returns-in_ok-insert-in-Verified-clause-ok : goal.returns-in_ok-insert-in-Verified-clause-ok
returns-in_ok-insert-in-Verified-clause-ok c = λ notes has.
    let i = c.args.self.now in
    let v = c.in-Verified in
    let key : Round = record { epoch = v.epoch; view = v.view } in
    let new = c.insert.new.self.entries in
    let sets : (q : Round) → lookup (λ (k : Round). is_eq (round_cmp q k)) new
    ≡ cond (is_eq (round_cmp key q)) (Some v.commitment)
    (lookup (λ (k : Round). is_eq (round_cmp q k)) i.last.entries) =
    λ q. c.in_ok-insert-in-Verified.ensures.updates.0 q
    ∙ ap
    (λ (r : Round). cond (is_eq (round_cmp r q)) (Some v.commitment)
    (lookup (λ (k : Round). is_eq (round_cmp q k)) i.last.entries))
    c.round_of.ensures in
    subst (λ (n : Note). HasVerified new (notes ++ n ∷ [])) (sym v.is)
    (verified_put i.last.entries new notes key v.commitment has
    (set_by same_round round_cmp rounds_tie same_round_symm key (Some v.commitment) i.last.entries
    new sets))

pub returns-in_default-clause-ok : goal.returns-in_default-clause-ok
returns-in_default-clause-ok c = λ notes has.
    verified_same c.args.self.now.last.entries notes c.args.note.now
    (none_verified c.args.note.now c.in_default.not-Verified) has
