-- A source and a sink over memory, as their callers see them.
use Rattle.std.specs.Prelude.{◌≡◌, ℕ, ◌+◌, ◌-◌, ◌^◌, ◌<◌, min, List, length}

-- what is left to give, the most bytes of one call, the numbers of the calls that fail, the number
-- of calls so far, and how many of them failed
pub record SourceState : Type 0 where
  pub left : List ℕ
  pub piece : ℕ
  pub failing : List ℕ
  pub calls : ℕ
  pub faults : ℕ

-- what was taken, the room left, and the rest as above
pub record SinkState : Type 0 where
  pub held : List ℕ
  pub room : ℕ
  pub piece : ℕ
  pub failing : List ℕ
  pub calls : ℕ
  pub faults : ℕ

-- one more, but for a count at the end of a u64, where it stands still
abbrev pub counted : ℕ → ℕ
counted n = min (n + 1) (2 ^ 64 - 1)

-- a sink without room is offered bytes
abbrev pub IsFull : SinkState → List ℕ → Type 0
IsFull s bytes = (0 < length bytes) × (s.room ≡ 0)
