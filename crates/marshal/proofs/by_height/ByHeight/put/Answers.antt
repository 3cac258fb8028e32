use Rattle.std.proofs.Common.{filter_map}
use Rattle.cw_rules.specs.Held.{finalization_of}
use Rattle.marshal.specs.Bare.{bare}
use Rattle.marshal.proofs.Knowing.{knows_other}
use Rattle.marshal.proofs.by_height.ByHeight.put.Goals as goal

pub returns-in_default : goal.returns-in_default
returns-in_default g c = λ tells.
    knows_other (bare g.H.Hasher.digest_of) c.args.notes.now c.put_final.new.self
    c.args.note.now c.in_default.not-Block
    (c.put_final.ensures (filter_map finalization_of c.args.notes.now) tells)
