-- The elements of a picture, each a line of its text.
use Rattle.std.specs.Prelude.{ℕ, ◌++◌, List, [], ◌∷◌, codes}
use Rattle.std.specs.Fmt.{decimal}

-- parts, one behind the other
abbrev pub in_one_text : List (List ℕ) → List ℕ
in_one_text [] = []
in_one_text (part ∷ []) = part
in_one_text (part ∷ next ∷ more) = part ++ in_one_text (next ∷ more)

-- the same, and the end of a line
abbrev pub lined : List (List ℕ) → List ℕ
lined [] = 10 ∷ []
lined (part ∷ more) = part ++ lined more

-- words at a place
unfoldable pub text_at : ℕ → ℕ → List ℕ → List ℕ → List ℕ
text_at x y class words =
    lined
    (codes "<text x='" ∷ decimal x ∷ codes "' y='" ∷ decimal y ∷ codes "' class='" ∷ class
    ∷ codes "'>" ∷ words ∷ codes "</text>" ∷ [])

-- a line along a way
unfoldable pub line_along : List ℕ → List ℕ → List ℕ
line_along way class =
    lined (codes "<path d='" ∷ way ∷ codes "' class='" ∷ class ∷ codes "'/>" ∷ [])

-- a line along a way for a message, with what it is told of it
unfoldable pub arrow_of : List ℕ → List ℕ → List ℕ → List ℕ → List ℕ
arrow_of way class more title =
    lined
    (codes "<path d='" ∷ way ∷ codes "' class='arrow " ∷ class ∷ more ∷ codes "'><title>" ∷ title
    ∷ codes "</title></path>" ∷ [])

-- a mark of a shape at a place, with what is told of it
unfoldable pub mark_of : ℕ → ℕ → List ℕ → List ℕ → List ℕ → List ℕ
mark_of x y shape class title =
    lined
    (codes "<use href='#" ∷ shape ∷ codes "' x='" ∷ decimal x ∷ codes "' y='" ∷ decimal y
    ∷ codes "' class='mark " ∷ class ∷ codes "'><title>" ∷ title ∷ codes "</title></use>" ∷ [])

-- a box for a block
unfoldable pub box_at : ℕ → ℕ → List ℕ
box_at x y =
    lined
    (codes "<rect x='" ∷ decimal x ∷ codes "' y='" ∷ decimal y
    ∷ codes "' width='56' height='30' rx='4' class='block'/>" ∷ [])

-- ---- ways

-- down to y
unfoldable pub down : ℕ → ℕ → ℕ → List ℕ
down x from y =
    in_one_text (codes "M" ∷ decimal x ∷ codes " " ∷ decimal from ∷ codes "V" ∷ decimal y ∷ [])

-- across to x
unfoldable pub across : ℕ → ℕ → ℕ → List ℕ
across from y x =
    in_one_text (codes "M" ∷ decimal from ∷ codes " " ∷ decimal y ∷ codes "H" ∷ decimal x ∷ [])

-- straight to another place
unfoldable pub straight : ℕ → ℕ → ℕ → ℕ → List ℕ
straight from top x y =
    in_one_text
    (codes "M" ∷ decimal from ∷ codes " " ∷ decimal top ∷ codes "L" ∷ decimal x ∷ codes " "
    ∷ decimal y ∷ [])

-- down in a bow by way of another x
unfoldable pub bow : ℕ → ℕ → ℕ → ℕ → List ℕ
bow x top side y =
    in_one_text
    (codes "M" ∷ decimal x ∷ codes " " ∷ decimal top ∷ codes "C" ∷ decimal side ∷ codes " "
    ∷ decimal top ∷ codes " " ∷ decimal side ∷ codes " " ∷ decimal y ∷ codes " " ∷ decimal x
    ∷ codes " " ∷ decimal y ∷ [])
