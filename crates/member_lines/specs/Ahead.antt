-- Reading a source line by line.
use Rattle.std.specs.Prelude.{[], Bool, List, None, Option, Some, false, length, not, slice_index, take, true, ℕ, ◌+◌, ◌++◌, ◌^◌, ◌<◌, ◌≤◌, ◌==◌, ◌∷◌, ◌≡◌, ◌≢◌}
use Rattle.std.specs.List.{list_all}
use Rattle.std.specs.Io.KnownBytes.{Consumes, IsAtEnd}
use Rattle.cw_base.specs.Causes.{Rose}
use Rattle.member_lines.specs.declared.input.Next.{Next}
use Rattle.member_lines.specs.declared.input.Next.TheVariants.{End, Endless, Fault, Last, Line, NoMemory}

-- the line that was read last, and what was read behind it
pub record Ahead : Type 0 where
  pub line : List ℕ
  pub ahead : List ℕ

-- no line feed is among these bytes
abbrev pub is_plain : List ℕ → Bool
is_plain text = list_all (λ b. not (b == 10)) text

-- as much of a line as tells whether it is too long
abbrev pub kept_part : List ℕ → List ℕ
kept_part line = take 4194305 line

-- a line ended with a line feed, and no more than a piece stands behind it
pub record IsLine (text : List ℕ) (new : Ahead) : Type 0 where
  pub line : List ℕ
  pub plain : is_plain line ≡ true
  pub text_is : text ≡ line ++ 10 ∷ new.ahead
  pub kept : new.line ≡ kept_part line
  pub short : length new.ahead ≤ 65536

-- what is left is a line without a line feed, and nothing stands behind it
pub record IsLast (text : List ℕ) (rest : Option (List ℕ)) (new : Ahead) : Type 0 where
  pub plain : is_plain text ≡ true
  pub some : text ≢ []
  pub kept : new.line ≡ kept_part text
  pub at_end : IsAtEnd rest
  pub none : new.ahead ≡ []

-- the end of a line didn't come, and all that came is there
pub record IsBegun (text : List ℕ) (new : Ahead) : Type 0 where
  pub front : List ℕ
  pub plain : is_plain front ≡ true
  pub text_is : text ≡ front ++ new.ahead
  pub kept : new.line ≡ kept_part front

-- what came next, of what stood ahead and was read; pieces without an end have a byte each
abbrev pub TellsNext : List ℕ → Option (List ℕ) → ℕ → ℕ → Ahead → Next → Type 0
TellsNext text rest reads later_reads new Line = IsLine text new
TellsNext text rest reads later_reads new Last = IsLast text rest new
TellsNext text rest reads later_reads new End =
    (text ≡ []) × IsAtEnd rest × (new.ahead ≡ [])
TellsNext text rest reads later_reads new Fault =
    (is_plain text ≡ true) × Rose reads later_reads × IsBegun text new
TellsNext text rest reads later_reads new NoMemory = IsBegun text new
TellsNext text rest reads later_reads new Endless =
    (2 ^ 64 ≤ length text + 1) × IsBegun text new

-- what was read of a source for the next line: nothing, where a line stood ahead
pub record ReadsLine (left rest : Option (List ℕ)) (reads later_reads : ℕ) (ahead : List ℕ)
    (new : Ahead) (next : Next) : Type 0 where
  pub read : List ℕ
  pub came : Consumes left rest read
  pub asked : is_plain ahead ≡ false → read ≡ []
  pub later : reads ≤ later_reads
  pub told : TellsNext (ahead ++ read) rest reads later_reads new next

-- ---- the parts of it

-- what stood ahead was put to the line, up to its line feed if it has one
pub record MovesLine (old new : Ahead) : Type 0 where
  pub front : List ℕ
  pub plain : is_plain front ≡ true
  pub ahead_is : old.ahead ≡ front ++ 10 ∷ new.ahead
  pub kept : new.line ≡ kept_part (old.line ++ front)
  pub short : length new.ahead ≤ 65536

-- it has none, and nothing stands ahead
pub record MovesAll (old new : Ahead) : Type 0 where
  pub plain : is_plain old.ahead ≡ true
  pub none : new.ahead ≡ []
  pub kept : new.line ≡ kept_part (old.line ++ old.ahead)

abbrev pub Moves : Ahead → Ahead → Bool → Type 0
Moves old new true = MovesLine old new
Moves old new false = MovesAll old new

-- more was read; or the source is at its end
abbrev pub Fills : Option (List ℕ) → Option (List ℕ) → List ℕ → Bool → Type 0
Fills left rest ahead true = Consumes left rest ahead × (0 < length ahead)
Fills left rest ahead false = Consumes left rest [] × IsAtEnd rest × (ahead ≡ [])

-- the place of the first line feed, if there is one
abbrev pub FindsFeed : List ℕ → Option ℕ → Type 0
FindsFeed bytes (Some at) =
    (at < length bytes) × (is_plain (take at bytes) ≡ true) × (slice_index bytes at ≡ 10)
FindsFeed bytes None = is_plain bytes ≡ true
