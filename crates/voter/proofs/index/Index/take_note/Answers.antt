use Rattle.std.proofs.Common.{◌∙◌, ap, option_map, refl, sym}
use Rattle.voter.proofs.InSets.{on_err, on_ok}
use Rattle.voter.proofs.Signing.{note_signed, plain_signed, same_signed}
use Rattle.voter.proofs.index.Index.take_note.Goals as goal

pub returns-in_ok-add-in-Some-clause-ok : goal.returns-in_ok-add-in-Some-clause-ok
returns-in_ok-add-in-Some-clause-ok c = λ x notes ballots are counted.
    note_signed x c.args.id notes ballots c.args.self.now.came.by_vote.entries
    c.args.self.now.known.by_vote.entries are c.args.note.now c.in-Some.vote.now
    c.add.new.self.by_vote.entries
    (sym counted ∙ ap (option_map (λ vote. vote.now)) c.in-Some.is) c.in_ok-add-in-Some.ensures.ok
    (c.add.ensures.some are.some)

pub returns-in_err-add-in-Some-clause-err : goal.returns-in_err-add-in-Some-clause-err
returns-in_err-add-in-Some-clause-err c = λ x notes ballots are.
    on_err c.from_residual-in_err-add-in-Some.result
    (same_signed x c.args.id notes ballots c.args.self.now.came.by_vote.entries
    c.args.self.now.known.by_vote.entries are c.args.self.now.came.by_vote.entries
    c.add.new.self.by_vote.entries (λ v i. refl) c.in_err-add-in-Some.ensures.err
    (c.add.ensures.some are.some))

pub returns-in-None-clause-ok : goal.returns-in-None-clause-ok
returns-in-None-clause-ok c = λ x notes ballots are counted.
    on_ok c.take.result
    (plain_signed x c.args.id notes ballots c.args.self.now.came.by_vote.entries
    c.args.self.now.known.by_vote.entries are c.args.note.now
    (sym counted ∙ ap (option_map (λ vote. vote.now)) c.in-None.is))
