use Rattle.std.proofs.Common.{◌≡◌, ◌&&◌, ◌||◌, ◌∙◌, ℕ, Option, ap, false, filter, find, length, not, sym, true}
use Rattle.std.specs.Option.{is_some}
use Rattle.cw_types.specs.Epochs.{Epochs, is_enough, members_in}
use Rattle.cw_types.specs.Votes.{vote_epoch}
use Rattle.cw_rules.specs.Notes.{has_cert}
use Rattle.cw_rules.specs.Owed.{knows}
use Rattle.voter.specs.Known.{is_cert_for, known_state}
use Rattle.voter.proofs.FirstCerts.{first_there}
use Rattle.voter.proofs.index.Index.can_certify.Goals as goal

pub returns-then-is_some : goal.returns-then-is_some
returns-then-is_some c = λ t epochs signers said first.
    let v = c.args.vote.now in
    let enough =
    is_enough t.epochs (vote_epoch v)
    (length (filter (knows t.id (known_state t) v) (members_in t.epochs (vote_epoch v)))) in
    let unnoted : has_cert t.notes v ≡ false =
    sym (c.has_cert.ensures.noted t.notes said) ∙ c.if-not-has_cert.true in
    let came : is_some (find (is_cert_for v) t.ballots) ≡ true =
    sym
    (c.is_some.ensures
    ∙ (ap (λ (o : Option ℕ). is_some o) (c.place.ensures t.ballots first)
    ∙ first_there t.ballots v))
    ∙ c.if-is_some.true in
    c.if-is_some.true
    ∙ sym
    (ap (λ b. not b && (is_some (find (is_cert_for v) t.ballots) || enough)) unnoted
    ∙ ap (λ b. b || enough) came)

pub returns-else-is_some : goal.returns-else-is_some
returns-else-is_some c = λ t epochs signers said first.
    let v = c.args.vote.now in
    let count = length (filter (knows t.id (known_state t) v) (members_in t.epochs (vote_epoch v))) in
    let enough = is_enough t.epochs (vote_epoch v) count in
    let unnoted : has_cert t.notes v ≡ false =
    sym (c.has_cert.ensures.noted t.notes said) ∙ c.if-not-has_cert.true in
    let none : is_some (find (is_cert_for v) t.ballots) ≡ false =
    sym
    (c.is_some.ensures
    ∙ (ap (λ (o : Option ℕ). is_some o) (c.place.ensures t.ballots first)
    ∙ first_there t.ballots v))
    ∙ c.if-is_some.false in
    c.is_enough.ensures
    ∙ (ap (λ (x : Epochs). is_enough x c.epoch.result c.count_known.result) (sym epochs)
    ∙ (ap (λ e. is_enough t.epochs e c.count_known.result) c.epoch.ensures
    ∙ (ap (λ n. is_enough t.epochs (vote_epoch v) n) (c.count_known.ensures t epochs signers)
    ∙ sym
    (ap (λ b. not b && (is_some (find (is_cert_for v) t.ballots) || enough)) unnoted
    ∙ ap (λ b. b || enough) none))))
