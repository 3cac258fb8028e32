use Rattle.std.proofs.Common.{◌<◌, arith, length}
use Rattle.std.specs.Prelude.{string_bytes}
use Rattle.cw_tree.proofs.Written.{item_more}
use Rattle.marshal.specs.Stored.{marshal_rules, notes_of}
use Rattle.member_session.specs.Told.{hand_out_line}
use Rattle.member_session.proofs.telling.put_all_handed.Goals as goal

pub loop-one-preserved : goal.loop-one-preserved
loop-one-preserved g c =
    let within : c.loop-one.one-index < length c.args.handed.now = omega arith in
    item_more
    (hand_out_line (marshal_rules g.H.Hasher.digest_of c.args.marshal.now)
    (notes_of c.args.marshal.now))
    c.args.handed.now c.loop-one.one-index c.one-item.result (string_bytes c.args.out.now)
    (string_bytes c.loop-one.out) (string_bytes c.put_one_handed.new.out) within c.one-item.is
    c.loop-one.invariant c.in_ok-put_one_handed.ensures
