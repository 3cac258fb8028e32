-- The event lines of a script.
use Rattle.std.specs.Prelude.{[], ℕ, ◌&&◌, ◌∷◌, List, None, Option, Some, bytes_eq, codes, if◌then◌else◌, nat_lt, option_map}
use Rattle.cw_rules.specs.World.{Ack, Ask, Cut, Deliver, Do, Fault, Faulty, Finalize_of, Floor, Hint, Line, Notarize_of, Nullify_of, Offer, Propose, Prune, Raw, Restart, Silent, Timeout}
use Rattle.hail_script.specs.Pieces.{bytes_in, number}

-- a member and what is asked of it, where both are read
abbrev pub asking : Option ℕ → Option Ask → Option (ℕ × Ask)
asking None ask = None
asking (Some member) None = None
asking (Some member) (Some ask) = Some (member, ask)

-- `ack M`
abbrev pub asked_alone : List ℕ → List ℕ → Option (ℕ × Ask)
asked_alone word member =
    if bytes_eq word (codes "ack") then asking (number member) (Some Ack) else None

-- `timeout M V`, `deliver I M`, `prune M H`, `floor M I` or `hint M H`
abbrev pub asked_number : List ℕ → List ℕ → List ℕ → Option (ℕ × Ask)
asked_number word first second =
    if bytes_eq word (codes "timeout")
    then asking (number first) (option_map Timeout (number second))
    else if bytes_eq word (codes "deliver")
    then asking (number second) (option_map Deliver (number first))
    else if bytes_eq word (codes "prune")
    then asking (number first) (option_map Prune (number second))
    else if bytes_eq word (codes "floor")
    then asking (number first) (option_map Floor (number second))
    else if bytes_eq word (codes "hint")
    then asking (number first) (option_map Hint (number second))
    else None

-- `propose M HEX`, or one of these
abbrev pub asked_with : List ℕ → List ℕ → List ℕ → Option (ℕ × Ask)
asked_with word first second =
    if bytes_eq word (codes "propose")
    then asking (number first) (option_map Propose (bytes_in second))
    else asked_number word first second

-- one of the seven lines that ask something of a member
abbrev pub asked_in : List (List ℕ) → Option (ℕ × Ask)
asked_in (word ∷ member ∷ []) = asked_alone word member
asked_in (word ∷ first ∷ second ∷ []) = asked_with word first second
asked_in _ = None

-- a stop at a device call from 1 on, with a cut and a fill below 256
abbrev pub cutting : Option ℕ → Option ℕ → Option ℕ → Option (ℕ × Ask) → Option Line
cutting None cut fill asked = None
cutting (Some call) None fill asked = None
cutting (Some call) (Some cut) None asked = None
cutting (Some call) (Some cut) (Some fill) None = None
cutting (Some call) (Some cut) (Some fill) (Some asked) =
    if nat_lt 0 call && nat_lt fill 256 then Some (Cut call cut fill asked.0 asked.1) else None

-- `A C X E` behind `cut`, E one of the seven
abbrev pub cut_in : List (List ℕ) → Option Line
cut_in (call ∷ cut ∷ fill ∷ asked) =
    cutting (number call) (number cut) (number fill) (asked_in asked)
cut_in _ = None

-- a faulty member, and what it does, where both are read
abbrev pub faulting : Option ℕ → Option Fault → Option Line
faulting None fault = None
faulting (Some member) None = None
faulting (Some member) (Some fault) = Some (Faulty member fault)

-- an offer, where both fields are read
abbrev pub offering : Option ℕ → Option (List ℕ) → Option Fault
offering None payload = None
offering (Some view) None = None
offering (Some view) (Some payload) = Some (Offer view payload)

-- `notarize I`, `finalize I`, `nullify V` or `raw HEX`
abbrev pub fault_with : List ℕ → List ℕ → Option Fault
fault_with word field =
    if bytes_eq word (codes "notarize") then option_map Notarize_of (number field)
    else if bytes_eq word (codes "finalize") then option_map Finalize_of (number field)
    else if bytes_eq word (codes "nullify") then option_map Nullify_of (number field)
    else if bytes_eq word (codes "raw") then option_map Raw (bytes_in field)
    else None

-- `silent`
abbrev pub fault_alone : List ℕ → Option Fault
fault_alone word = if bytes_eq word (codes "silent") then Some Silent else None

-- `offer V HEX`
abbrev pub offer_in : List ℕ → List ℕ → List ℕ → Option Fault
offer_in word view payload =
    if bytes_eq word (codes "offer") then offering (number view) (bytes_in payload) else None

-- what a faulty member does
abbrev pub fault_in : List (List ℕ) → Option Fault
fault_in (word ∷ []) = fault_alone word
fault_in (word ∷ field ∷ []) = fault_with word field
fault_in (word ∷ view ∷ payload ∷ []) = offer_in word view payload
fault_in _ = None

-- `A` and a fault behind `faulty`
abbrev pub faulty_in : List (List ℕ) → Option Line
faulty_in [] = None
faulty_in (member ∷ fault) = faulting (number member) (fault_in fault)

-- `M` behind `restart`
abbrev pub restart_in : List (List ℕ) → Option Line
restart_in (member ∷ []) = option_map Restart (number member)
restart_in _ = None

-- a line that asks something of a member
abbrev pub do_in : List (List ℕ) → Option Line
do_in parts = option_map (λ asked. Do asked.0 asked.1) (asked_in parts)

-- an event line, by its first word
abbrev pub event_in : List (List ℕ) → Option Line
event_in [] = None
event_in (word ∷ rest) =
    if bytes_eq word (codes "cut") then cut_in rest
    else if bytes_eq word (codes "restart") then restart_in rest
    else if bytes_eq word (codes "faulty") then faulty_in rest
    else do_in (word ∷ rest)
