use Rattle.std.proofs.Common.{◌++◌}
use Rattle.cw_base.specs.Ends.{IsEnd}
use Rattle.cw_base.proofs.Ends.{end_of_end}
use Rattle.cw_types.proofs.Parts.{if_some_then, taken_of_end}
use Rattle.cw_types.proofs.payload.read_payload.Goals as goal

pub shared_bytes-requires : goal.shared_bytes-requires
shared_bytes-requires c =
    if_some_then c.args.text (λ text. IsEnd text.now c.args.reader.now)
    (λ text. IsEnd text.now (c.in-Ok.bytes.now ++ c.rest.result.now)) c.requires
    (λ text at. rw c.rest.ensures
    (taken_of_end c.in_ok-count.field-0 text.now c.varint.new.self c.in-Ok.bytes.now c.take.new.self
    (end_of_end at c.varint.ensures.place) c.in-Ok.ensures.value))
