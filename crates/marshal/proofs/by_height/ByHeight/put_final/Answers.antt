use Rattle.std.proofs.Common.{sym}
use Rattle.marshal.specs.Bare.{bare}
use Rattle.marshal.proofs.Knowing.{put_entered, put_unheld}
use Rattle.marshal.proofs.by_height.ByHeight.put_final.Goals as goal

pub returns-in-Some-held : goal.returns-in-Some-held
returns-in-Some-held g c =
    put_entered (bare g.H.Hasher.digest_of) c.args.notes.now c.args.self.now c.enter.new.self
    c.args.note.now c.in-Some.proposal c.in-Some-held.found.block.now c.enter.ensures.known
    c.enter.ensures.entered (sym c.in-Some.ensures) (sym c.in-Some-held.ensures.block)

pub returns-in_default-held : goal.returns-in_default-held
returns-in_default-held g c =
    put_unheld (bare g.H.Hasher.digest_of) c.args.notes.now c.args.self.now c.args.note.now
    c.in-Some.proposal (sym c.in-Some.ensures) (sym c.in_default-held.ensures.block)
