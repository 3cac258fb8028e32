use Rattle.run_ledger.proofs.Meaning.{are_as_many, is_done}
use Rattle.run_ledger.proofs.program.replicas_told.Goals as goal

pub ledger_text-requires : goal.ledger_text-requires
ledger_text-requires g c =
    are_as_many c.args.report.now c.in_ok-replicas.replicas c.in_ok-replicas.ensures.given
    c.as_slice.result.now c.as_slice-2.result.now c.as_slice.ensures c.as_slice-2.ensures

pub returns : goal.returns
returns g c = λ text is.
    is_done c.args.report.now c.in_ok-replicas.replicas c.in_ok-replicas.ensures.given
    c.as_slice.result.now c.as_slice-2.result.now c.as_slice.ensures c.as_slice-2.ensures
    g.H.Hasher.digest_of text c.in_ok-text.text.items is c.in_ok-replicas.ensures.works
    c.in_ok-text.ensures
