use Rattle.cw_rules.proofs.StepKeeps.{step_keeps}
use Rattle.cw_rules.proofs.KeptNotes.{kept_from_keeps}
use Rattle.cw_rules.proofs.laws.member_laws.Goals as goal

pub returns-clause-step : goal.returns-clause-step
returns-clause-step c = step_keeps

pub returns-clause-kept : goal.returns-clause-kept
returns-clause-kept c = kept_from_keeps
