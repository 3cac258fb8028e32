use Rattle.std.proofs.Common.{ℕ, List, refl, subst}
use Rattle.voter.specs.Lists.{HaveListed, HaveUnlisted}
use Rattle.voter.proofs.FirstCerts.{many_first}
use Rattle.voter.proofs.InSets.{on_err}
use Rattle.voter.proofs.Listed.{many_listed, same_listed, undone_listed}
use Rattle.voter.proofs.cert_places.Certs.take.Goals as goal

pub returns-in_err-add-clause-err : goal.returns-in_err-add-clause-err
returns-in_err-add-clause-err c = λ ballots has none.
    on_err c.from_residual.result
    (same_listed ballots c.args.self.now.lists.by_vote.entries c.add.new.self.by_vote.entries has
    c.in_err-add.ensures.err)

pub returns-in-Err-clause-err : goal.returns-in-Err-clause-err
returns-in-Err-clause-err c = λ ballots has none.
    undone_listed ballots c.args.cert.now c.args.self.now.lists.by_vote.entries
    c.add.new.self.by_vote.entries c.remove.new.self.by_vote.entries has none
    (subst
    (λ (l : List ℕ). HaveListed c.args.self.now.lists.by_vote.entries
    c.add.new.self.by_vote.entries c.args.cert.now.vote l)
    c.as_slice.ensures c.in_ok-add.ensures.ok)
    (subst
    (λ (l : List ℕ). HaveUnlisted c.add.new.self.by_vote.entries
    c.remove.new.self.by_vote.entries c.args.cert.now.vote l)
    c.as_slice-in-Err.ensures c.remove.ensures)

pub returns-clause-first : goal.returns-clause-first
returns-clause-first c = λ ballots has len.
    many_first ballots c.args.cert.now c.args.cert.now.vote c.new.result c.args.place
    c.args.self.now.first.entries c.put_first.new.map.entries has len refl c.new.ensures
    c.in_default.ensures.ok

pub returns-clause-lists : goal.returns-clause-lists
returns-clause-lists c = λ ballots has.
    many_listed ballots c.args.cert.now c.args.self.now.lists.by_vote.entries
    c.add.new.self.by_vote.entries has
    (subst
    (λ (l : List ℕ). HaveListed c.args.self.now.lists.by_vote.entries
    c.add.new.self.by_vote.entries c.args.cert.now.vote l)
    c.as_slice.ensures c.in_ok-add.ensures.ok)
