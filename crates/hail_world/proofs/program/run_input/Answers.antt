use Rattle.hail_report.specs.Text.{report_text}
use Rattle.hail_world.specs.Headline.{IsRunOf}
use Rattle.hail_world.specs.OneChain.{IsOneChain}
use Rattle.hail_world.proofs.Framing.{made_answers, made_read, made_write, source_done}
use Rattle.hail_world.proofs.OneChain.{report_one_chain}
use Rattle.hail_world.proofs.program.run_input.Goals as goal

pub returns-clause-answer : goal.returns-clause-answer
returns-clause-answer g c = made_answers c.made_of_source-made.ensures c.end_made.ensures

pub returns-clause-one_chain : goal.returns-clause-one_chain
returns-clause-one_chain g c =
    source_done g.W.Way.travel g.H.Hasher.digest_of
    (IsRunOf g.W.Way.travel g.H.Hasher.digest_of (report_text g.H.Hasher.digest_of))
    (λ report. IsOneChain g.H.Hasher.digest_of report)
    (λ text report due is. report_one_chain g.W.Way.travel g.H.Hasher.digest_of text report is.0)
    (made_answers c.made_of_source-made.ensures c.end_made.ensures)

pub returns-clause-read_fault : goal.returns-clause-read_fault
returns-clause-read_fault g c = made_read c.made_of_source-made.ensures c.end_made.ensures

pub returns-clause-write_fault : goal.returns-clause-write_fault
returns-clause-write_fault g c = made_write c.end_made.ensures
