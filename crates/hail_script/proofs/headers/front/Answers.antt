use Rattle.std.proofs.Common.{sym}
use Rattle.std.proofs.lemmas.List.{take-map}
use Rattle.hail_script.proofs.headers.front.Goals as goal

pub returns-clause-value : goal.returns-clause-value
returns-clause-value c = sym (take-map (λ line. line.now) c.args.count c.args.lines.now)
