-- Notes that may be counted.
use Rattle.std.specs.Prelude.{Bool, true}
use Rattle.cw_types.specs.Votes.{is_ordered, well_formed}
use Rattle.cw_types.specs.declared.note.Note.{Note}

-- a vote may be counted that a note holds, and its proposal too
abbrev pub is_countable : Note → Bool
is_countable (Note.Vote v) = well_formed v
is_countable (Note.Cert s) = well_formed s.vote
is_countable (Note.Certified p) = is_ordered p
is_countable _ = true
