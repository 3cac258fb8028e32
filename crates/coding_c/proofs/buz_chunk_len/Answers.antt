use Rattle.coding_c.proofs.Written.{sizes_hold, encodings_hold}
use Rattle.coding_c.proofs.buz_chunk_len.Goals as goal

pub returns-clause-holds : goal.returns-clause-holds
returns-clause-holds c = λ some.
    let config = c.in-Some.ensures in
    sizes_hold c.encodings_decode.ensures.fits c.args.k c.args.m c.args.size _ config.1
    (rw config.0 at c.max_shard_size.ensures)

pub returns-clause-room : goal.returns-clause-room
returns-clause-room c = λ some.
    let config = c.in-Some.ensures in
    encodings_hold c.encodings_decode.ensures.fits c.args.k c.args.m c.args.size _ config.1
    (rw config.0 at c.max_shard_size.ensures)
