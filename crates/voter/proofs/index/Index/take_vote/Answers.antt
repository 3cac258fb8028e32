use Rattle.std.proofs.Common.{◌∙◌, sym}
use Rattle.voter.proofs.Signing.{member_signed, stranger_signed, undone_signed}
use Rattle.voter.proofs.index.Index.take_vote.Goals as goal

pub returns-then-not-counts-clause-ok : goal.returns-then-not-counts-clause-ok
returns-then-not-counts-clause-ok c = λ x id notes ballots are counts.
    stranger_signed x id notes ballots c.args.self.now.came.by_vote.entries
    c.args.self.now.known.by_vote.entries are c.add.new.self.by_vote.entries c.args.signer
    c.args.vote.now c.in_ok-add.ensures.ok
    (sym counts ∙ c.if-not-counts.true)

pub returns-in-Err-clause-err : goal.returns-in-Err-clause-err
returns-in-Err-clause-err c = λ x id notes ballots are new.
    undone_signed x id notes ballots c.args.self.now.came.by_vote.entries
    c.args.self.now.known.by_vote.entries are c.add.new.self.by_vote.entries
    c.remove.new.self.by_vote.entries c.add-2.new.self.by_vote.entries c.args.signer
    c.args.vote.now c.in_ok-add.ensures.ok c.remove.ensures c.in-Err.ensures.err
    (c.in-Err.ensures.some are.some) new

pub returns-clause-ok : goal.returns-clause-ok
returns-clause-ok c = λ x id notes ballots are counts.
    member_signed x id notes ballots c.args.self.now.came.by_vote.entries
    c.args.self.now.known.by_vote.entries are c.add.new.self.by_vote.entries
    c.add-2.new.self.by_vote.entries c.args.signer c.args.vote.now c.in_ok-add.ensures.ok
    c.in_default.ensures.ok (c.in_default.ensures.some are.some)
    (sym counts ∙ c.if-not-counts.false)
