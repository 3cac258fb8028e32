use Rattle.std.proofs.Common.{◌≡◌, true}
use Rattle.node_disk.proofs.Compose.{goes_on}
use Rattle.node_disk.proofs.laws.law_of_moments.Goals as goal

pub returns-clause-composed : goal.returns-clause-composed
returns-clause-composed c old mid new passes first second =
    goes_on old mid new (λ image. passes image ≡ true) first second

pub returns-clause-left_since : goal.returns-clause-left_since
returns-clause-left_since c old mid new passes first second =
    (goes_on old mid new (λ image. passes image ≡ true) first second).left
