use Rattle.std.proofs.Common.{◌≡◌, drop, map}
use Rattle.hail_script.specs.Pieces as pieces
use Rattle.hail_script.proofs.Sequences.{in_front}
use Rattle.hail_script.proofs.pieces.numbers_of.Given as goal

-- what was read stands before the numbers of the fields from here on
abbrev pub invariant-loop-field : goal.invariant-loop-field
invariant-loop-field l =
    in_front l.numbers (pieces.numbers (map (λ field. field.now) (drop l.field-index l.fields)))
    ≡ pieces.numbers (map (λ field. field.now) l.fields)
