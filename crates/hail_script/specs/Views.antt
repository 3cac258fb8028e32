-- How a view is told.
use Rattle.std.specs.Prelude.{ℕ, ◌++◌, ◌==◌, List, codes, if◌then◌else◌}
use Rattle.std.specs.Fmt.{decimal}

-- V, or `E/V` for a view of an epoch E above 0
unfoldable pub view_text : ℕ → ℕ → List ℕ
view_text epoch view =
    if epoch == 0 then decimal view else decimal epoch ++ codes "/" ++ decimal view
