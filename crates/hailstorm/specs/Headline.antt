-- What the words ask of the program that runs scripts, and its usage.
use Rattle.std.specs.Prelude.{[], ℕ, ◌∷◌, List, None, Option, Some, bytes_eq, codes, if◌then◌else◌, option_map}
use Rattle.hail_script.specs.Pieces.{number}
use Rattle.hail_report.specs.Text.{line}

-- `storm` and a number
abbrev pub asked_storm : List ℕ → List ℕ → Option (Option ℕ)
asked_storm word field =
    if bytes_eq word (codes "storm") then option_map Some (number field) else None

-- what the words ask for: none, a script that is read; `storm` and a number, the storm of that
-- number
abbrev pub words_ask : List (List ℕ) → Option (Option ℕ)
words_ask [] = Some None
words_ask (word ∷ field ∷ []) = asked_storm word field
words_ask _ = None

-- the answer where the words are neither none nor `storm` and a number
abbrev pub usage_line : List ℕ
usage_line = line (codes "usage: hail_run [storm N]")
