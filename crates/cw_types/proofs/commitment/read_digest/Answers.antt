use Rattle.cw_types.proofs.Taken.{length-taken}
use Rattle.cw_types.proofs.commitment.read_digest.Goals as goal

pub returns-in-None : goal.returns-in-None
returns-in-None c =
    let long =
    length-taken 32 c.args.reader.now c.in_ok-bytes.bytes.now c.take.new.self
    c.in_ok-bytes.ensures.value in
    absurd (let same = c.in-None.ensures.exact.1 long in cc)
