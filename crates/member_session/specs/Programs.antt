-- The program of a member: its words, and what its ends say.
use Rattle.std.specs.Prelude.{[], Bool, Err, List, None, Ok, Option, Result, Some, ◌==◌, bytes_eq, codes, false, if◌then◌else◌, length, nat_lt, option_and_then, option_map, take, true, ℕ, ◌+◌, ◌^◌, ◌∷◌, ◌≡◌, ◌≤◌, ◌⊎◌}
use Rattle.std.specs.List.{slice_split}
use Rattle.std.specs.Io.KnownBytes.{Appends, Consumes, IsAtEnd, Keeps}
use Rattle.cw_base.specs.Causes.{Rose}
use Rattle.cw_base.specs.declared.hash.Digest32.{Digest32}
use Rattle.cw_rules.specs.declared.travel.Travel.{Travel}
use Rattle.cw_rules.specs.declared.travel.Travel.TheVariants.{Chunked, Uncut}
use Rattle.hail_script.specs.Pieces.{lines, number}
use Rattle.hail_report.specs.Text.{line}
use Rattle.hail_report.specs.Writing.{WritesFront}
use Rattle.member_session.specs.Serving.{Serving}
use Rattle.member_session.specs.Talk.{Answered, answers, new_session}
use Rattle.member_lines.specs.declared.input.Next.{Next}
use Rattle.member_lines.specs.declared.input.Next.TheVariants as next
use Rattle.member_session.specs.declared.program.End.{End}
use Rattle.member_session.specs.declared.program.End.TheVariants.{Done, Endless, NoMemory, ReadFault, Usage, WriteFault}
use Rattle.member_session.specs.declared.session.Session.{Session}

-- the exit status
abbrev pub end_status : End → ℕ
end_status Done = 0
end_status Usage = 2
end_status ReadFault = 5
end_status WriteFault = 6
end_status NoMemory = 7
end_status Endless = 8

-- ---- the words

-- a member's number
abbrev pub member_in : List ℕ → Option ℕ
member_in word = option_and_then (λ n. if nat_lt n 65536 then Some n else None) (number word)

-- the member of this number, and how its blocks travel
abbrev pub by_way : Travel → List ℕ → Option (ℕ × Travel)
by_way travel word = option_map (λ n. (n, travel)) (member_in word)

-- `M`, whose blocks travel in chunks, or `M whole`
abbrev pub words_in : List (List ℕ) → Option (ℕ × Travel)
words_in (id ∷ []) = by_way Chunked id
words_in (id ∷ word ∷ []) =
    if bytes_eq word (codes "whole") then by_way Uncut id else None
words_in _ = None

-- what is written where the words are others
abbrev pub usage_line : List ℕ
usage_line = line (codes "usage: hail_member M [whole]")

-- that line was written, or the sink failed behind a front of it
abbrev pub EndsUsage : Option (List ℕ) → Option (List ℕ) → ℕ → ℕ → End → Type 0
EndsUsage held written writes later_writes end =
    ((end ≡ Usage) × Appends held written usage_line)
    ⊎ ((end ≡ WriteFault) × Rose writes later_writes × WritesFront held written usage_line)

-- ---- the ends

-- all pieces but the last
abbrev pub all_but_last : List (List ℕ) → List (List ℕ)
all_but_last [] = []
all_but_last (piece ∷ []) = []
all_but_last (piece ∷ second ∷ more) = piece ∷ all_but_last (second ∷ more)

-- the lines that ended with a line feed
abbrev pub whole_lines : List ℕ → List (List ℕ)
whole_lines text = all_but_last (slice_split (λ b. b == 10) text)

-- These lines came: those that ended, or behind the end of the source all.
abbrev pub CameAsLines : List ℕ → Option (List ℕ) → List (List ℕ) → Type 0
CameAsLines given rest came = (came ≡ whole_lines given) ⊎ (IsAtEnd rest × (came ≡ lines given))

-- some first whole lines were answered, and nothing else was told
abbrev pub AnswersSome : (List (List ℕ) → List ℕ) → List ℕ → Option (List ℕ)
    → Option (List ℕ) → Type 0
AnswersSome due given held written =
    (count : ℕ) × Appends held written (due (take count (whole_lines given)))

-- What an end says, of what came of the source, and of the answers that are due to lines. Done:
-- the source is at its end, and each line was answered. Where the source failed, each line that
-- came whole. Where the sink failed, it took a front of the answers to the lines that came; where
-- memory is short, or a count at its end, all of those to some first lines. No count comes to its
-- end before 2^64 - 1 bytes came.
abbrev pub TellsEnd : (List (List ℕ) → List ℕ) → List ℕ → Option (List ℕ) → ℕ → ℕ
    → Option (List ℕ) → Option (List ℕ) → ℕ → ℕ → End → Type 0
TellsEnd due given rest reads later_reads held written writes later_writes Done =
    IsAtEnd rest × Appends held written (due (lines given))
TellsEnd due given rest reads later_reads held written writes later_writes ReadFault =
    Rose reads later_reads × Appends held written (due (whole_lines given))
TellsEnd due given rest reads later_reads held written writes later_writes WriteFault =
    Rose writes later_writes
    × ((came : List (List ℕ)) × CameAsLines given rest came × WritesFront held written (due came))
TellsEnd due given rest reads later_reads held written writes later_writes NoMemory =
    AnswersSome due given held written
TellsEnd due given rest reads later_reads held written writes later_writes Endless =
    (2 ^ 64 ≤ length given + 1) × AnswersSome due given held written
TellsEnd due given rest reads later_reads held written writes later_writes Usage = ⊥

-- What came of the source was answered by the member of this number, whose blocks travel so.
pub record Served (hash : List ℕ → Digest32) (who : ℕ × Travel) (left rest : Option (List ℕ))
    (reads later_reads : ℕ) (held written : Option (List ℕ)) (writes later_writes : ℕ)
    (end : End) : Type 0 where
  pub given : List ℕ
  pub came : Consumes left rest given
  pub told : TellsEnd (answers hash who.1 (new_session who.0)) given rest reads later_reads held
      written writes later_writes end

-- ---- the parts of a program

-- the end where no line comes
abbrev pub end_of : Next → Option End
end_of next.Line = None
end_of next.Last = None
end_of next.End = Some Done
end_of next.Fault = Some ReadFault
end_of next.NoMemory = Some NoMemory
end_of next.Endless = Some Endless

-- the line that came is the last
abbrev pub is_last_line : Next → Bool
is_last_line next.Last = true
is_last_line _ = false

-- a line was answered, and its answer written whole; or a front of it, and the sink failed; or
-- memory is short, and nothing was written
abbrev pub AnswersLine : Answered → Option (List ℕ) → Option (List ℕ) → ℕ → ℕ
    → Result (Session Serving) End → Type 0
AnswersLine a held written writes later_writes (Ok session) =
    (session ≡ a.session) × Appends held written a.text × (writes ≤ later_writes)
AnswersLine a held written writes later_writes (Err end) =
    ((end ≡ WriteFault) × Rose writes later_writes × WritesFront held written a.text)
    ⊎ ((end ≡ NoMemory) × Keeps held written)
