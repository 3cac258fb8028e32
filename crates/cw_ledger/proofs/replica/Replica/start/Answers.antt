use Rattle.std.proofs.Common.{◌≡◌, ◌∙◌, Err, List, ℕ, inl, refl, subst, sym}
use Rattle.node_disk.specs.Disk.{DiskState}
use Rattle.node_disk.specs.Log.{start_calls}
use Rattle.node_disk.proofs.Compose.{stays}
use Rattle.node_disk.proofs.WriteSync.{front_of_none}
use Rattle.cw_ledger.specs.Frames.{IsBeforeOrPayloads, read_payloads}
use Rattle.cw_ledger.proofs.Adding.{starts_so}
use Rattle.cw_ledger.proofs.Loading.{refused_so}
use Rattle.cw_ledger.proofs.replica.Replica.start.Goals as goal

pub returns-in-Err-clause-any_moment_err : goal.returns-in-Err-clause-any_moment_err
returns-in-Err-clause-any_moment_err g c =
    let disk : DiskState = g.D.Disk.state c.args.disk in
    stays disk disk (IsBeforeOrPayloads disk.now) (record { now = refl; past = refl; calls = refl })
    (λ image is. inl is)

pub returns-in-Err-clause-calls_no_memory : goal.returns-in-Err-clause-calls_no_memory
returns-in-Err-clause-calls_no_memory g c is =
    let disk : DiskState = g.D.Disk.state c.args.disk in
    front_of_none (start_calls disk.now.seen) disk

pub returns-in-Err-clause-continues_err : goal.returns-in-Err-clause-continues_err
returns-in-Err-clause-continues_err g c =
    let laws =
    g.met.D.Disk g.world.𝓛 g.world.𝓜 g.world.𝓡 ((λ s x. x), (λ x. x), (λ x. x), λ x. x) in
    laws.continues_itself c.args.disk

pub returns-in-Err-start-clause-any_moment_err : goal.returns-in-Err-start-clause-any_moment_err
returns-in-Err-start-clause-any_moment_err g c =
    starts_so _ _ c.in-Err-start.ensures.any_moment_err

pub returns-in-Err-start-clause-foreign : goal.returns-in-Err-start-clause-foreign
returns-in-Err-start-clause-foreign g c place is =
    refused_so (g.D.Disk.state c.args.disk).now.seen place (c.in-Err-start.ensures.foreign place is)

pub returns-in-Err-start-clause-foreign_again : goal.returns-in-Err-start-clause-foreign_again
returns-in-Err-start-clause-foreign_again g c place is =
    subst (λ (l : List ℕ). read_payloads l ≡ Err place)
    (sym (c.in-Err-start.ensures.foreign_same place is))
    (refused_so (g.D.Disk.state c.args.disk).now.seen place
    (c.in-Err-start.ensures.foreign place is))
