use Rattle.std.proofs.Common.{◌≡◌, Err, List, ℕ, subst, sym}
use Rattle.marshal.specs.Frames.{read_frames}
use Rattle.marshal.proofs.Loading.{refused_so}
use Rattle.marshal.proofs.marshal.Marshal.start.Goals as goal

pub returns-in-Err-clause-foreign : goal.returns-in-Err-clause-foreign
returns-in-Err-clause-foreign g c place is =
    refused_so (g.D.Disk.state c.args.disk).now.seen place (c.in-Err.ensures.foreign place is)

pub returns-in-Err-clause-foreign_again : goal.returns-in-Err-clause-foreign_again
returns-in-Err-clause-foreign_again g c place is =
    subst (λ (l : List ℕ). read_frames l ≡ Err place)
    (sym (c.in-Err.ensures.foreign_same place is))
    (refused_so (g.D.Disk.state c.args.disk).now.seen place (c.in-Err.ensures.foreign place is))
