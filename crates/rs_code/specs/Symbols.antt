-- Symbols that are read from a column on.
use Rattle.std.specs.Prelude.{ℕ, ◌+◌}
use Rattle.rs_code.specs.declared.columns.Columns.{Columns}
use Rattle.rs_code.specs.Rows.{symbol}

-- the symbol of row s that stands j columns behind the first
abbrev pub symbol_in : Columns → (s j : ℕ) → ℕ
symbol_in columns s j = symbol columns.rows.now columns.width s (columns.first + j)
