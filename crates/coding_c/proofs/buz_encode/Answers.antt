use Rattle.std.proofs.Common.{◌≤◌, length, ap, arith}
use Rattle.coding_c.proofs.Written.{no_less, room_found}
use Rattle.coding_c.proofs.buz_encode.Goals as goal

pub returns-in-Some-lacking_room-clause-enough : goal.returns-in-Some-lacking_room-clause-enough
returns-in-Some-lacking_room-clause-enough c most needed short is has many e =
    let config = c.in-Some.ensures in
    no_less c.args.k c.args.m (length c.args.text.now) (length c.args.chunks.now)
    (length c.args.sizes.now) c.in-Some-lacking_room.needed config.1
    (rw config.0 at c.in-Some-lacking_room.ensures) most needed short is has many

pub put_front-requires : goal.put_front-requires
put_front-requires c =
    let config = c.in-Some.ensures in
    let fits =
    room_found c.encodings_decode.ensures.fits c.args.k c.args.m c.args.text.now
    c.in-Ok.encoded.root.0 c.in-Ok.encoded.bytes.items c.in-Ok.encoded.sizes.items
    (length c.args.chunks.now) (length c.args.sizes.now) config.1
    (rw config.0 at c.in-Ok.ensures.done) (rw config.0 at c.in-None.ensures) in
    let room = fits.0 in
    record { room = omega (arith, room, ap length c.deref.ensures.value) }

pub put_front-requires-2 : goal.put_front-requires-2
put_front-requires-2 c =
    let config = c.in-Some.ensures in
    let fits =
    room_found c.encodings_decode.ensures.fits c.args.k c.args.m c.args.text.now
    c.in-Ok.encoded.root.0 c.in-Ok.encoded.bytes.items c.in-Ok.encoded.sizes.items
    (length c.args.chunks.now) (length c.args.sizes.now) config.1
    (rw config.0 at c.in-Ok.ensures.done) (rw config.0 at c.in-None.ensures) in
    let places = fits.1 in
    record { room = omega (arith, places, ap length c.deref-2.ensures.value) }
