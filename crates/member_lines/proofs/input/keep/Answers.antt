use Rattle.std.proofs.Common.{arith, length, ◌≡◌}
use Rattle.member_lines.proofs.Reading.{put_part}
use Rattle.member_lines.proofs.input.keep.Goals as goal

pub returns-clause-ok : goal.returns-clause-ok
returns-clause-ok c =
    let line = c.args.line.now in
    let used : c.len.result ≡ length line.items = omega arith in
    put_part c.put_bytes.result line.items c.args.bytes.now c.put_bytes.new.out.items
    c.len.result c.min-most.result used (omega arith) c.min-most.ensures
    c.put_bytes.ensures.ok
