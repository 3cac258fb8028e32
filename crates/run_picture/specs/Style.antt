-- What is the same in every picture: colours, shapes, and what they mean.
use Rattle.std.specs.Prelude.{ℕ, ◌+◌, ◌++◌, List, [], ◌∷◌, codes}
use Rattle.run_picture.specs.Elements.{across, arrow_of, lined, mark_of, text_at}
use Rattle.run_picture.specs.Marks.{label_begin, label_end, part_text}

-- sizes and places of texts
unfoldable pub text_styles : List ℕ
text_styles =
    lined (codes "text{font:11px ui-monospace,Menlo,Consolas,'DejaVu Sans Mono',monospace}" ∷ [])
    ++ lined (codes "text{fill:#1d2127}.end{text-anchor:end}.mid{text-anchor:middle}" ∷ [])
    ++ lined (codes ".big,.head{font-weight:bold}.big{font-size:13px}.head{font-size:14px}" ∷ [])
    ++ lined (codes ".full,tspan.c{font-weight:bold}.small{font-size:10px}.tiny{font-size:9px}"
    ∷ [])
    ++ lined (codes ".dim,.tiny{fill:#6a717c}.bad,.tbad{fill:#c2371c}" ∷ [])
    ++ lined (codes ".label tspan{paint-order:stroke;stroke:#fff;stroke-width:3}" ∷ [])
    ++ lined (codes ".label .tbadge{font-weight:bold;fill:#fff;stroke:#1d2127;stroke-width:9}" ∷ [])
    ++ lined (codes "tspan{stroke-linejoin:round}" ∷ [])

-- lines and boxes
unfoldable pub line_styles : List ℕ
line_styles =
    lined (codes "path{fill:none}.page{fill:#fff}.guide{stroke:#d0d5dc;stroke-dasharray:1 3}" ∷ [])
    ++ lined (codes ".lane{stroke:#c3cfe2;stroke-width:6}.gap{stroke:#fff;stroke-width:8}" ∷ [])
    ++ lined (codes ".lane.bad{stroke:#c2371c;stroke-width:2;stroke-dasharray:6 4}" ∷ [])
    ++ lined (codes ".stopped{stroke:#c2371c;stroke-width:2;stroke-dasharray:2 4}" ∷ [])
    ++ lined (codes ".link,.block{stroke:#1d2127}.link{stroke-width:2}.block{fill:#eef2f8}" ∷ [])
    ++ lined (codes ".mark,.arrow{stroke-width:1.4}.arrow.c{stroke-width:2.8}" ∷ [])
    ++ lined (codes ".arrow.z{stroke-dasharray:6 3}.arrow.arrow.stub{marker-end:url(#end)}" ∷ [])
    ++ lined (codes ".mark.ink{stroke:#1d2127;fill:#1d2127}.mark.bad{stroke:#c2371c;fill:#fff}"
    ∷ [])

-- a class of messages has one colour
unfoldable pub colour_text : List ℕ → List ℕ → List ℕ
colour_text class colour =
    lined
    (codes ".arrow." ∷ class ∷ codes ",.mark." ∷ class ∷ codes "{stroke:" ∷ colour ∷ codes "}.mark."
    ∷ class ∷ codes ",.t" ∷ class ∷ codes "{fill:" ∷ colour ∷ codes "}" ∷ [])

-- its arrows have a head
unfoldable pub head_text : List ℕ → List ℕ
head_text class =
    lined (codes ".arrow." ∷ class ∷ codes "{marker-end:url(#m" ∷ class ∷ codes ")}" ∷ [])

abbrev pub class_text : List ℕ → List ℕ → List ℕ
class_text class colour = colour_text class colour ++ head_text class

abbrev pub colours : List ℕ
colours =
    class_text (codes "b") (codes "#2c58f9") ++ class_text (codes "n") (codes "#137a5a")
    ++ class_text (codes "x") (codes "#ed620d") ++ class_text (codes "f") (codes "#914fa5")
    ++ class_text (codes "a") (codes "#766638") ++ class_text (codes "j") (codes "#868b94")
    ++ class_text (codes "g") (codes "#9aa0a8")

-- the head of an arrow
unfoldable pub tip_text : List ℕ → List ℕ
tip_text class =
    lined
    (codes "<marker id='m" ∷ class ∷ codes "' viewBox='0 0 10 10' refX='13' refY='5' "
    ∷ codes "markerWidth='8' markerHeight='8' markerUnits='userSpaceOnUse' orient='auto'>"
    ∷ codes "<path d='M0 1L10 5L0 9z' class='mark " ∷ class ∷ codes "'/></marker>" ∷ [])

abbrev pub tips : List ℕ
tips =
    tip_text (codes "b") ++ tip_text (codes "n") ++ tip_text (codes "x") ++ tip_text (codes "f")
    ++ tip_text (codes "a") ++ tip_text (codes "j") ++ tip_text (codes "g")

-- marks, and the end of a stub
unfoldable pub shapes : List ℕ
shapes =
    lined (codes "<marker id='end' viewBox='0 0 6 6' refX='3' refY='3' markerWidth='6'" ∷ [])
    ++ lined (codes "markerHeight='6' markerUnits='userSpaceOnUse'>" ∷ [])
    ++ lined (codes "<circle cx='3' cy='3' r='2' class='mark g'/></marker>" ∷ [])
    ++ lined (codes "<circle id='dot' r='4'/><circle id='ring' r='4' fill-opacity='0'/>" ∷ [])
    ++ lined (codes "<rect id='box' x='-5' y='-5' width='10' height='10'/>" ∷ [])
    ++ lined (codes "<path id='gem' d='M0 -6L6 0L0 6L-6 0z' style='fill:inherit'/>" ∷ [])
    ++ lined (codes "<path id='tri' d='M-5 4L5 4L0 -5z' style='fill:inherit'/>" ∷ [])
    ++ lined (codes "<path id='cross' d='M-6 -6L6 6M-6 6L6 -6' stroke-width='3'/>" ∷ [])
    ++ lined (codes "<path id='void' d='M-3 -3L3 3M-3 3L3 -3'/>" ∷ [])

-- where styles and shapes begin and end
unfoldable pub begin : List ℕ
begin = lined (codes "<style>" ∷ [])

unfoldable pub middle : List ℕ
middle = lined (codes "</style><defs>" ∷ [])

unfoldable pub defs_end : List ℕ
defs_end = lined (codes "</defs>" ∷ [])

-- all of them
unfoldable pub style : List ℕ
style = begin ++ text_styles ++ line_styles ++ colours ++ middle ++ tips ++ shapes ++ defs_end

-- ---- what lines and marks mean

-- a line of a class, and its meaning
abbrev pub key_text : ℕ → ℕ → List ℕ → List ℕ → List ℕ
key_text x y class name =
    arrow_of (across x y (x + 24)) class [] name ++ text_at (x + 30) (y + 4) (codes "small") name

abbrev pub message_keys : List ℕ
message_keys =
    key_text 14 48 (codes "b") (codes "shard S") ++ key_text 104 48 (codes "b c") (codes "block B")
    ++ key_text 194 48 (codes "n") (codes "notarize N")
    ++ key_text 302 48 (codes "x") (codes "nullify X")
    ++ key_text 404 48 (codes "f") (codes "finalize F")
    ++ key_text 512 48 (codes "n c") (codes "certificate [N]")
    ++ key_text 650 48 (codes "a") (codes "ask")

-- what happens to a message
abbrev pub fate_keys : List ℕ
fate_keys =
    key_text 14 68 (codes "g") (codes "no effect")
    ++ key_text 164 68 (codes "j z") (codes "faulty one")
    ++ key_text 314 68 (codes "j stub") (codes "lost")

-- a height that is handed out
abbrev pub badge_key : List ℕ
badge_key =
    label_begin 450 68 ++ part_text (codes "badge") (codes "3")
    ++ part_text (codes "ink") (codes "handed out") ++ label_end

-- a mark, and its meaning
abbrev pub sign_text : ℕ → List ℕ → List ℕ → List ℕ
sign_text x shape name =
    mark_of x 88 shape (codes "ink") name ++ text_at (x + 10) 92 (codes "small") name

abbrev pub signs : List ℕ
signs =
    sign_text 20 (codes "box") (codes "propose") ++ sign_text 110 (codes "dot") (codes "deliver")
    ++ sign_text 200 (codes "gem") (codes "timeout")
    ++ sign_text 290 (codes "tri") (codes "floor, hint")
    ++ sign_text 404 (codes "ring") (codes "ack, restart")
    ++ sign_text 524 (codes "cross") (codes "stop")
    ++ sign_text 590 (codes "void") (codes "no such message")

unfoldable pub keys : List ℕ
keys = message_keys ++ fate_keys ++ badge_key ++ signs
