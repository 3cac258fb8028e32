-- Items that are read one behind the other.
use Rattle.std.proofs.Common.{List, ◌++◌, Option, Some, None, Result, Ok, Err}
use Rattle.hail_script.specs.declared.error.RunError.{RunError}

-- some before the others, if all are read
abbrev pub in_front : {X : Type 0} → List X → Option (List X) → Option (List X)
in_front front None = None
in_front front (Some rest) = Some (front ++ rest)

-- the same where the first that isn't is told
abbrev pub behind : {X : Type 0} → List X → Result (List X) RunError → Result (List X) RunError
behind front (Ok rest) = Ok (front ++ rest)
behind front (Err e) = Err e
