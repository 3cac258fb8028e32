-- A line of a script, as a picture has it.
use Rattle.std.specs.Prelude.{ℕ, ◌++◌, List, [], ◌∷◌, length, take, codes, nat_lt, if◌then◌else◌, Bool, true, false, Option, Some, None}
use Rattle.std.specs.Fmt.{decimal}
use Rattle.hex.specs.Hex.{encode_lower}
use Rattle.cw_rules.specs.World.{Ack, Ask, Cut, Deliver, Do, Fault, Faulty, Finalize_of, Floor, Hint, Line, Notarize_of, Nullify_of, Offer, Propose, Prune, Raw, Restart, Silent, Timeout}

-- the first six bytes, and `..` where there are more; `-` for none
unfoldable pub bytes_text : List ℕ → List ℕ
bytes_text [] = codes "-"
bytes_text (b ∷ more) =
    if nat_lt 6 (length (b ∷ more)) then encode_lower (take 6 (b ∷ more)) ++ codes ".."
    else encode_lower (b ∷ more)

-- what is asked of a member, as scripts have it
unfoldable pub ask_text : ℕ → Ask → List ℕ
ask_text member (Propose payload) =
    codes "propose " ++ decimal member ++ codes " " ++ bytes_text payload
ask_text member (Timeout view) = codes "timeout " ++ decimal member ++ codes " " ++ decimal view
ask_text member (Deliver number) = codes "deliver " ++ decimal number ++ codes " " ++ decimal member
ask_text member Ack = codes "ack " ++ decimal member
ask_text member (Prune height) = codes "prune " ++ decimal member ++ codes " " ++ decimal height
ask_text member (Floor number) = codes "floor " ++ decimal member ++ codes " " ++ decimal number
ask_text member (Hint height) = codes "hint " ++ decimal member ++ codes " " ++ decimal height

-- what a faulty member does
unfoldable pub fault_text : Fault → List ℕ
fault_text Silent = codes "silent"
fault_text (Offer view payload) = codes "offer " ++ decimal view ++ codes " " ++ bytes_text payload
fault_text (Notarize_of number) = codes "notarize " ++ decimal number
fault_text (Finalize_of number) = codes "finalize " ++ decimal number
fault_text (Nullify_of view) = codes "nullify " ++ decimal view
fault_text (Raw bytes) = codes "raw " ++ bytes_text bytes

-- the line as scripts have it
unfoldable pub line_text : Line → List ℕ
line_text (Do member ask) = ask_text member ask
line_text (Cut call cut fill member ask) =
    codes "cut " ++ decimal call ++ codes " " ++ decimal cut ++ codes " " ++ decimal fill
    ++ codes " " ++ ask_text member ask
line_text (Restart member) = codes "restart " ++ decimal member
line_text (Faulty member fault) =
    codes "faulty " ++ decimal member ++ codes " " ++ fault_text fault

-- what a line asks of a member
abbrev pub ask_of_line : Line → Option Ask
ask_of_line (Do member ask) = Some ask
ask_of_line (Cut call cut fill member ask) = Some ask
ask_of_line (Restart member) = None
ask_of_line (Faulty member fault) = None

-- the number of the message that is asked for
abbrev pub number_in : Ask → Option ℕ
number_in (Deliver number) = Some number
number_in (Floor number) = Some number
number_in _ = None

-- a line with a stop
abbrev pub is_cut : Line → Bool
is_cut (Cut call cut fill member ask) = true
is_cut _ = false

-- a line of a faulty member
abbrev pub is_faulty_line : Line → Bool
is_faulty_line (Faulty member fault) = true
is_faulty_line _ = false

-- the colour of the line's text
abbrev pub line_class : Line → List ℕ
line_class (Do member ask) = codes "ink"
line_class (Restart member) = codes "ink"
line_class (Cut call cut fill member ask) = codes "bad"
line_class (Faulty member fault) = codes "bad"
