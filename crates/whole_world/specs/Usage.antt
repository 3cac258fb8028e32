-- What the program answers to words.
use Rattle.std.specs.Prelude.{ℕ, List, codes}
use Rattle.hail_report.specs.Text.{line}

-- the answer where there are words
abbrev pub whole_usage_line : List ℕ
whole_usage_line = line (codes "usage: hail_whole")
