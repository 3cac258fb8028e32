use Rattle.std.proofs.Common.{map, arith, sym, true}
use Rattle.shards.specs.Enough.{no_committees}
use Rattle.cw_archive.proofs.ShowLemmas.{shows_none}
use Rattle.cw_archive.proofs.showing.shown.Goals as goal

pub returns-in-None : goal.returns-in-None
returns-in-None g c =
    let hash = g.H.Hasher.digest_of in
    let some = c.requires.some in
    sym
    (shows_none hash c.args.commitment.now (map (λ x. x.now) c.args.chunks.now)
    (c.coded_laws.ensures.coder hash no_committees 0 (λ b a. true)) (omega arith)
    c.blocks_read_back.ensures.found c.blocks_are_bounded.ensures.bound
    (rw c.in-None.is at c.in_ok-text.ensures.none))
