use Rattle.std.proofs.Common.{[], ◌∷◌, refl}
use Rattle.cw_rules.specs.World.{Ask, Do}
use Rattle.cw_progress.proofs.Further.{reaches_on}
use Rattle.cw_progress.proofs.HandingOne.{ack_taken}
use Rattle.cw_progress.proofs.handing_laws.ack_law.Goals as goal

pub returns-clause-taken : goal.returns-clause-taken
returns-clause-taken c = ack_taken

pub returns-clause-reached : goal.returns-clause-reached
returns-clause-reached c r script w cluster reach i =
    reaches_on r script w (Do i Ask.Ack ∷ []) cluster reach (refl, tt)
