use Rattle.hail_script.proofs.Sized.{small_members}
use Rattle.hail_script.proofs.parse.narrow_all.Goals as goal

pub narrow-requires : goal.narrow-requires
narrow-requires c =
    rw (c.as_slice.ensures, c.list-item.is)
    (small_members c.args.total c.args.lists.now c.loop-list.list-index c.list-item.result
    c.ranges.total.fits c.requires c.loop-list-test.true)
