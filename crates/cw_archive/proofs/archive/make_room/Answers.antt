use Rattle.std.proofs.Common.{◌∙◌, ◌-◌, ◌≤◌, List, length, ℕ, arith, subst, sym}
use Rattle.cw_archive.specs.Archived.{used_of}
use Rattle.cw_archive.specs.Showing.{HasNewest}
use Rattle.cw_archive.proofs.RoomLemmas.{all_stay, leaves, popped, used_newest}
use Rattle.cw_archive.proofs.archive.make_room.Goals as goal

pub overflow_sub-used : goal.overflow_sub-used
overflow_sub-used c =
    let left =
    leaves c.args.width c.args.limit c.loop-used.used c.loop-used.kept c.loop-used.invariant.0
    c.requires.fits c.loop-used-test.true in
    rw c.shard.ensures
    (popped c.args.width c.args.limit c.loop-used.used c.loop-used.kept c.pop_oldest.new.self
    c.in-Some.oldest left c.in-Some.ensures.value c.in-Some.ensures.rest).0

pub loop-used-preserved : goal.loop-used-preserved
loop-used-preserved c =
    let left =
    leaves c.args.width c.args.limit c.loop-used.used c.loop-used.kept c.loop-used.invariant.0
    c.requires.fits c.loop-used-test.true in
    let p =
    popped c.args.width c.args.limit c.loop-used.used c.loop-used.kept c.pop_oldest.new.self
    c.in-Some.oldest left c.in-Some.ensures.value c.in-Some.ensures.rest in (
      subst
          (λ (s : List ℕ). HasNewest c.args.width (c.loop-used.used - length s)
          c.pop_oldest.new.self)
          (sym c.shard.ensures) p.1,
      p.2 ∙ c.loop-used.invariant.1,
    )

pub returns-clause-kept : goal.returns-clause-kept
returns-clause-kept c =
    let total =
    used_newest c.args.width c.loop-used.used c.loop-used.kept c.loop-used.invariant.0 in
    let fits = c.requires.fits in
    let small = c.loop-used-test.false in
    let within : used_of c.loop-used.kept ≤ c.args.limit = omega arith in
    sym (all_stay c.args.limit c.loop-used.kept within) ∙ c.loop-used.invariant.1
