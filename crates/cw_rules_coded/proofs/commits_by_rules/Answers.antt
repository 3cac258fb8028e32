use Rattle.std.proofs.Common.{refl}
use Rattle.cw_rules_coded.proofs.Committed.{chunks_by_rules, commit_by_rules}
use Rattle.cw_rules_coded.proofs.commits_by_rules.Goals as goal

pub returns : goal.returns
returns c = record {
  commit = commit_by_rules;
  chunks = chunks_by_rules;
  whole = λ hash epochs backlog accepts b. refl;
}
