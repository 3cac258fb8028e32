use Rattle.cw_light.proofs.Moments.{believed_then, believed_told}
use Rattle.cw_light.proofs.laws.light_laws.Goals as goal

pub returns : goal.returns
returns c = record {
  told = believed_told;
  written = believed_then;
}
