-- A mark for each line at its member's lane, and beside it what came of the line.
use Rattle.std.specs.Prelude.{ℕ, ◌+◌, ◌-◌, ◌==◌, ◌||◌, ◌++◌, List, [], ◌∷◌, codes, Bool, true, false, if◌then◌else◌, Option, Some, None, is_some, length, bytes_eq, slice_get}
use Rattle.std.specs.Fmt.{decimal}
use Rattle.cw_rules.specs.World.{Ack, Ask, Cut, Deliver, Do, Faulty, Floor, Hint, Line, Propose, Prune, Restart, Timeout, line_member}
use Rattle.run_picture.specs.Elements.{in_one_text, lined, mark_of}
use Rattle.run_picture.specs.Frame.{x_of, y_of}
use Rattle.run_picture.specs.Lines.{is_faulty_line, line_text}
use Rattle.run_picture.specs.Steps.{Step, acts, brought, can_be, live_after, stops}
use Rattle.run_picture.specs.Told.{class_of, letters}
use Rattle.run_picture.specs.declared.flights.Flight.{Flight}
use Rattle.run_picture.specs.declared.told.Said.{Said}

-- ---- marks

-- the shape of what is asked for
abbrev pub ask_shape : Ask → List ℕ
ask_shape (Propose payload) = codes "box"
ask_shape (Deliver number) = codes "dot"
ask_shape (Timeout view) = codes "gem"
ask_shape (Floor number) = codes "tri"
ask_shape (Hint height) = codes "tri"
ask_shape Ack = codes "ring"
ask_shape (Prune height) = codes "ring"

abbrev pub line_shape : Line → List ℕ
line_shape (Do member ask) = ask_shape ask
line_shape (Cut call cut fill member ask) = ask_shape ask
line_shape (Restart member) = codes "ring"
line_shape (Faulty member fault) = codes "box"

-- the line asks for a message that isn't there
abbrev pub is_void : List Flight → ℕ → Line → Bool
is_void flights row (Do member ask) = if can_be flights row (Do member ask) then false else true
is_void flights row (Cut call cut fill member ask) =
    if can_be flights row (Cut call cut fill member ask) then false else true
is_void flights row (Restart member) = false
is_void flights row (Faulty member fault) = false

-- a cross where the member stops, a small one where there is no such message
abbrev pub shape_of : List Flight → ℕ → List Bool → Line → List ℕ
shape_of flights row live l =
    if stops flights row live l then codes "cross"
    else if is_void flights row l then codes "void" else line_shape l

-- the colour of what is asked: that of its message
abbrev pub ask_class : Ask → List ℕ
ask_class (Timeout view) = codes "x"
ask_class _ = codes "ink"

-- and of a line
abbrev pub own_class : Line → List ℕ
own_class (Do member ask) = ask_class ask
own_class _ = codes "ink"

abbrev pub told_class : Option Flight → Line → List ℕ
told_class (Some f) l = class_of f.said.says
told_class None l = own_class l

-- the class of a mark: red for a stop and a faulty member, grey where nothing happens
abbrev pub mark_class : List Flight → ℕ → List Bool → Step → List ℕ
mark_class flights row live s =
    if stops flights row live s.line || is_faulty_line s.line then codes "bad"
    else if acts flights row live s.line || is_some s.found
    then told_class (brought flights row s.line) s.line
    else codes "g"

-- what is told of a line
unfoldable pub mark_title : Step → List ℕ
mark_title s = codes "line " ++ decimal s.number ++ codes ", " ++ line_text s.line

-- ---- labels

-- a part of a label, in the colour of its class
unfoldable pub part_text : List ℕ → List ℕ → List ℕ
part_text class text =
    in_one_text (codes "<tspan class='t" ∷ class ∷ codes "'>" ∷ text ∷ codes "</tspan> " ∷ [])

-- heights from one to another
unfoldable pub heights_text : ℕ → ℕ → List ℕ
heights_text first last =
    if first == last then decimal first else decimal first ++ codes "-" ++ decimal last

-- the heights that were handed out
abbrev pub badge_of : Option ℕ → Option ℕ → List ℕ
badge_of (Some first) (Some last) = part_text (codes "badge") (heights_text first last)
badge_of _ _ = []

abbrev pub badge_text : List ℕ → List ℕ
badge_text handed = badge_of (slice_get handed 0) (slice_get handed (length handed - 1))

-- the part that says that the member stops
abbrev pub cut_part : Bool → List ℕ
cut_part false = []
cut_part true = part_text (codes "bad") (codes "cut")

-- the part that says how many notes a restart found
abbrev pub found_part : Option ℕ → List ℕ
found_part None = []
found_part (Some notes) = part_text (codes "ink") (codes "found " ++ decimal notes)

-- a message, but not once more behind one of the same letters
abbrev pub said_text : List ℕ → Said → List ℕ
said_text before said =
    if bytes_eq (letters said.says) before then []
    else part_text (class_of said.says) (letters said.says)

-- what was sent
abbrev pub sent_text : List ℕ → List Said → List ℕ
sent_text before [] = []
sent_text before (said ∷ more) = said_text before said ++ sent_text (letters said.says) more

-- all parts of a label
abbrev pub parts_text : Bool → Step → List ℕ
parts_text is_stop s =
    badge_text s.handed ++ cut_part is_stop ++ found_part s.found ++ sent_text [] s.sent

-- where a label begins, beside x and y, and where it ends
unfoldable pub label_begin : ℕ → ℕ → List ℕ
label_begin x y =
    in_one_text
    (codes "<text x='" ∷ decimal (x + 14) ∷ codes "' y='" ∷ decimal (y + 4)
    ∷ codes "' class='label'>" ∷ [])

unfoldable pub label_end : List ℕ
label_end = lined (codes "</text>" ∷ [])

abbrev pub label_text : ℕ → ℕ → List ℕ → List ℕ
label_text x y parts = label_begin x y ++ parts ++ label_end

-- ---- all lines

abbrev pub mark_at : ℕ → List Flight → ℕ → List Bool → Step → List ℕ
mark_at total flights row live s =
    mark_of (x_of total (line_member s.line)) (y_of row) (shape_of flights row live s.line)
    (mark_class flights row live s) (mark_title s)
    ++ label_text (x_of total (line_member s.line)) (y_of row)
    (parts_text (stops flights row live s.line) s)

-- of lines in rows from one on with these live members
abbrev pub marks_from : ℕ → List Flight → ℕ → List Bool → List Step → List ℕ
marks_from total flights row live [] = []
marks_from total flights row live (s ∷ more) =
    mark_at total flights row live s
    ++ marks_from total flights (row + 1) (live_after flights row live s) more
