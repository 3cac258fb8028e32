-- How a list is cut in order into runs, as even as can be, earlier runs longer by one.
use Rattle.std.specs.Prelude.{ℕ, ◌+◌, ◌*◌, ◌/◌, ◌%◌, min}

-- where a run starts among so many items, the first being 0, and where the run before it ends
unfoldable pub run_start : (items pieces piece : ℕ) → ℕ
run_start items pieces piece = piece * (items / pieces) + min piece (items % pieces)
