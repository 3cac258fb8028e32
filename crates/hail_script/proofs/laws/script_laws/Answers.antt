use Rattle.hail_script.proofs.Causes as causes
use Rattle.hail_script.proofs.Fitting as fitting
use Rattle.hail_script.proofs.Travels as travels
use Rattle.hail_script.proofs.laws.script_laws.Goals as goal

pub returns-clause-early : goal.returns-clause-early
returns-clause-early c = causes.early

pub returns-clause-fits : goal.returns-clause-fits
returns-clause-fits c = fitting.fits

pub returns-clause-travels : goal.returns-clause-travels
returns-clause-travels c = travels.travels

pub returns-clause-whole : goal.returns-clause-whole
returns-clause-whole c = travels.whole

pub returns-clause-laned : goal.returns-clause-laned
returns-clause-laned c = fitting.laned_fits

pub returns-clause-lanes : goal.returns-clause-lanes
returns-clause-lanes c = travels.laned_travels
