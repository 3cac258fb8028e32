-- The heights that notes give up, prune and acknowledge, as three numbers.
use Rattle.std.specs.Prelude.{List, filter_map}
use Rattle.cw_types.specs.declared.note.Note.{Note}
use Rattle.cw_rules.specs.Held.{floor_height, last_ack, pruned_height}
use Rattle.note_scans.specs.Heights.{greatest_of}
use Rattle.marshal.specs.declared.tops.Tops.{Tops}

-- the greatest floor and prune, and what was acknowledged last
abbrev pub tops_of : List Note → Tops
tops_of notes = record {
  floor = greatest_of (filter_map floor_height notes);
  prune = greatest_of (filter_map pruned_height notes);
  acked = last_ack notes;
}
