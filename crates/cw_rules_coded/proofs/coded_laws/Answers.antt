use Rattle.cw_types.proofs.FormatLaws.{block_again}
use Rattle.cw_rules_coded.proofs.RealCoder.{real_coder}
use Rattle.cw_rules_coded.proofs.coded_laws.Goals as goal

pub returns : goal.returns
returns c = record {
  coder =
      λ hash epochs backlog accepts. real_coder c.prove_rows.ensures.originals
      c.prove_rows.ensures.any_rows c.prove_rows.ensures.completed hash epochs backlog accepts;
  reads_back = λ hash epochs backlog accepts b fits. block_again b fits;
}
