-- Where runs start and end.
use Rattle.std.proofs.Common.{◌≡◌, ℕ, ◌+◌, ◌*◌, ◌/◌, ◌%◌, ◌<◌, ◌≤◌, min, sym, arith, div-add-mod', mod-lt, mul-le-mul_right}
use Rattle.cw_base.specs.Runs.{run_start}

-- as many items as the runs before this one have, of so many items each and a rest
below : (items pieces piece each longer : ℕ) → items ≡ each * pieces + longer → longer < pieces
    → piece ≤ pieces → piece * each + min piece longer ≤ items
below items pieces piece each longer e l h =
    let product : piece * each ≤ pieces * each = mul-le-mul_right each h in
    omega (arith, product, e)

pub run_within : (items pieces piece : ℕ) → piece ≤ pieces → 0 < pieces
    → run_start items pieces piece ≤ items
unfolding run_start
run_within items pieces piece h some =
    below items pieces piece (items / pieces) (items % pieces) (sym (div-add-mod' items pieces))
    (mod-lt items some) h

pub run_first : (items pieces : ℕ) → run_start items pieces 0 ≡ 0
unfolding run_start
run_first items pieces = omega arith

pub run_rises : (items pieces piece : ℕ)
    → run_start items pieces piece ≤ run_start items pieces (piece + 1)
unfolding run_start
run_rises items pieces piece = omega arith

pub run_last : (items pieces : ℕ) → 0 < pieces → run_start items pieces pieces ≡ items
unfolding run_start
run_last items pieces some = omega (arith, div-add-mod' items pieces, mod-lt items some)

pub ruleset runs = (run_within, run_first, run_rises)
