-- Where things stand in a picture, in whole units: lanes from left to right, rows from above.
use Rattle.std.specs.Prelude.{ℕ, ◌+◌, ◌*◌, ◌-◌, if◌then◌else◌, nat_lt}

-- how many rows there are at most
abbrev pub most_rows : ℕ
most_rows = 2000

-- how far the lanes of so many members are apart
unfoldable pub wide : ℕ → ℕ
wide total = if nat_lt total 9 then 112 else if nat_lt total 17 then 64 else 24

-- the lane of a member; there are at most 65535
unfoldable pub x_of : ℕ → ℕ → ℕ
x_of total member = 282 + wide total * (if nat_lt member 65535 then member else 65535)

-- a row, from 1
unfoldable pub y_of : ℕ → ℕ
y_of row = 124 + 20 * row

-- half a row above
abbrev pub row_top : ℕ → ℕ
row_top row = y_of row - 10

-- how wide a picture of so many members is
unfoldable pub width : ℕ → ℕ
width total = if nat_lt total 5 then 900 else x_of total total + 90

-- how high a picture of so many rows is
abbrev pub height : ℕ → ℕ
height rows = y_of rows + 110
