use Rattle.std.proofs.Common.{rules, subst, sym}
use Rattle.note_scans.specs.Keys.{same_key}
use Rattle.voter.specs.Lineup.{IsLineup}
use Rattle.voter.proofs.Lineups.{lineup_prepared, put_is_there}
use Rattle.voter.proofs.Saying.{first_put}
use Rattle.voter.proofs.lineup.Lineup.prepare.Goals as goal

pub returns-clause-same : goal.returns-clause-same
returns-clause-same g c = λ key same passes named is.
    let places = c.args.self.now.places.entries in
    let count = c.args.self.now.count in
    lineup_prepared same_key key same passes named places c.put_first.new.map.entries count
    c.reserve.new.self.items c.args.name
    (first_put places c.put_first.new.map.entries c.args.name 0 c.in_ok-put_first.ensures.ok)
    (subst (λ w. IsLineup same_key key same passes named places count w)
    (sym c.in_ok-reserve.ensures.items) is)

pub returns-clause-ready : goal.returns-clause-ready
returns-clause-ready g c = record {
  there =
      put_is_there c.args.self.now.places.entries c.put_first.new.map.entries c.args.name 0
      c.in_ok-put_first.ensures.ok;
  few = search rules;
  room = search rules;
}
