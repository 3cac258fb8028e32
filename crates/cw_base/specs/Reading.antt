-- What stands at the front of bytes: a value and the bytes after it, or a refusal and the bytes
-- that it leaves.
use Rattle.std.specs.Int.{Width, w16, w32, w64, byte_len, from_be_bytes}
use Rattle.std.specs.Prelude.{◌≡◌, ℕ, zero, suc, ◌+◌, ◌*◌, ◌-◌, ◌==◌, ◌&&◌, Bool, true, false, not, nat_lt, if◌then◌else◌, List, [], ◌∷◌, length, take, drop, Result, Ok, Err}
use Rattle.cw_base.specs.Counts.{Counts}
use Rattle.cw_base.specs.declared.reader.CodecError.{CodecError}
use Rattle.cw_base.specs.declared.reader.CodecError.TheVariants.{EndOfBuffer, InvalidVarint, Invalid, Extra, NoMemory}

-- a value and the bytes after it, or why there is none and the bytes that are left then
abbrev pub Reading : Type 0 → Type 0
Reading A = Result (A × List ℕ) (CodecError × List ℕ)

-- what is read behind a part that was taken; the first refusal stays
infixl 10 ◌>>=◌
abbrev pub ◌>>=◌ : {A B : Type 0} → Reading A → (A × List ℕ → Reading B) → Reading B
(Ok x) >>= f = f x
(Err e) >>= f = Err e

-- a call answered what is read, as view sees it, and these bytes are left
abbrev pub IsRead : {X Y : Type 0} → (X → Y) → Result X CodecError → List ℕ → Reading Y → Type 0
IsRead view (Ok x) left read = read ≡ Ok (view x, left)
IsRead view (Err e) left read = read ≡ Err (e, left)

-- All parts were read, and these bytes are left behind them. No format refuses for want of memory
-- itself.
abbrev pub IsBehind : {A : Type 0} → Reading A → List ℕ → Type 0
IsBehind (Ok x) left = x.1 ≡ left
IsBehind (Err e) left = e ≡ (NoMemory, left)

-- A call that takes memory says that it found none only where nothing else refuses the bytes, and
-- then it stands behind all parts; each other refusal is that of the bytes.
abbrev pub IsRefused : {Y : Type 0} → CodecError → List ℕ → Reading Y → Type 0
IsRefused NoMemory left read = IsBehind read left
IsRefused e left read = read ≡ Err (e, left)

-- a call that takes memory answered what is read, as view sees it, and these bytes are left
abbrev pub Gives : {X Y : Type 0} → (X → Y) → Result X CodecError → List ℕ → Reading Y → Type 0
Gives view (Ok x) left read = read ≡ Ok (view x, left)
Gives view (Err e) left read = IsRefused e left read

-- a byte
abbrev pub byte_at : List ℕ → Reading ℕ
byte_at [] = Err (EndOfBuffer, [])
byte_at (b ∷ rest) = Ok (b, rest)

-- so many bytes
abbrev pub bytes_at : ℕ → List ℕ → Reading (List ℕ)
bytes_at n bytes =
    if nat_lt (length bytes) n then Err (EndOfBuffer, bytes) else Ok (take n bytes, drop n bytes)

-- a number of so many bytes, the high byte first
abbrev pub number_at : Width → List ℕ → Reading ℕ
number_at w bytes =
    if nat_lt (length bytes) (byte_len w) then Err (EndOfBuffer, bytes)
    else Ok (from_be_bytes w (take (byte_len w) bytes), drop (byte_len w) bytes)

-- numbers of two, four and eight bytes
unfoldable pub be16_at : List ℕ → Reading ℕ
be16_at bytes = number_at w16 bytes

unfoldable pub be32_at : List ℕ → Reading ℕ
be32_at bytes = number_at w32 bytes

unfoldable pub be64_at : List ℕ → Reading ℕ
be64_at bytes = number_at w64 bytes

-- The last byte of a varint has no top bit, and isn't 0 behind another byte.
abbrev pub last_byte : (first : Bool) → ℕ → List ℕ → Result (ℕ × List ℕ) CodecError
last_byte first b rest = if not first && (b == 0) then Err InvalidVarint else Ok (b, rest)

-- a byte with the top bit, and what the bytes behind it spell
abbrev pub low_byte : ℕ → Result (ℕ × List ℕ) CodecError → Result (ℕ × List ℕ) CodecError
low_byte b (Ok high) = Ok (b - 128 + 128 * high.0, high.1)
low_byte b (Err e) = Err e

-- the number that a varint of at most `more + 1` bytes spells, and the bytes after it. The last
-- byte allowed is at most 15
abbrev pub varint_from : (more : ℕ) (first : Bool) → List ℕ → Result (ℕ × List ℕ) CodecError
varint_from more first [] = Err EndOfBuffer
varint_from zero first (b ∷ rest) =
    if nat_lt 15 b then Err InvalidVarint else last_byte first b rest
varint_from (suc more) first (b ∷ rest) =
    if nat_lt b 128 then last_byte first b rest else low_byte b (varint_from more false rest)

-- a refusal leaves all bytes
abbrev pub or_all_left : {A : Type 0} → List ℕ → Result (A × List ℕ) CodecError → Reading A
or_all_left bytes (Ok x) = Ok x
or_all_left bytes (Err e) = Err (e, bytes)

-- a varint of at most five bytes
unfoldable pub varint_at : List ℕ → Reading ℕ
varint_at bytes = or_all_left bytes (varint_from 4 true bytes)

-- the end
abbrev pub end_at : List ℕ → Reading (Unit {0})
end_at [] = Ok (tt, [])
end_at (b ∷ rest) = Err (Extra, b ∷ rest)

-- a number of two bytes that isn't zero; a zero is taken and refused
abbrev pub nonzero_at : List ℕ → Reading ℕ
nonzero_at bytes = do
  n ← be16_at bytes
  if n.0 == 0 then Err (Invalid, n.1) else Ok n

-- the two numbers of a config
unfoldable pub config_at : List ℕ → Reading Counts
config_at bytes = do
  minimum ← nonzero_at bytes
  extra ← nonzero_at minimum.1
  Ok (record { minimum = minimum.0; extra = extra.0 }, extra.1)
