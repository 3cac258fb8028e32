use Rattle.std.proofs.Common.{◌≡◌, ◌++◌, take}
use Rattle.std.specs.Prelude.{string_bytes}
use Rattle.std.specs.List.{flat_map}
use Rattle.marshal.specs.Stored.{marshal_rules, notes_of}
use Rattle.member_session.specs.Told.{hand_out_line}
use Rattle.member_session.proofs.telling.put_all_handed.Given as goal

abbrev pub invariant-loop-one : goal.invariant-loop-one
invariant-loop-one g l =
    string_bytes l.out
    ≡ string_bytes l.fn.out
    ++ flat_map
    (hand_out_line (marshal_rules g.H.Hasher.digest_of l.marshal) (notes_of l.marshal))
    (take l.one-index l.handed)
