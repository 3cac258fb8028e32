use Rattle.std.proofs.Common.{◌∙◌}
use Rattle.std.proofs.lemmas.Option.{same_Some}
use Rattle.cw_rules.specs.declared.travel.Travel.TheVariants as travel
use Rattle.run_archive.specs.Program.{IsDone}
use Rattle.hail_world.specs.OneChain.{IsOneChain}
use Rattle.hail_world.proofs.Framing.{made_answers, made_read, made_write, source_done}
use Rattle.hail_world.proofs.OneChain.{report_one_chain}
use Rattle.run_archive.proofs.program.archive_program.Goals as goal

pub returns-clause-answer : goal.returns-clause-answer
returns-clause-answer g c = λ limit asked.
    rw (same_Some c.in-Some.limit limit (c.in-Some.ensures ∙ asked)) at
    (made_answers c.made_of_source-made.ensures c.end_made.ensures)

pub returns-clause-one_chain : goal.returns-clause-one_chain
returns-clause-one_chain g c =
    source_done travel.Chunked g.H.Hasher.digest_of
    (IsDone g.H.Hasher.digest_of c.in-Some.limit)
    (λ done. IsOneChain g.H.Hasher.digest_of done.0)
    (λ text done due is. report_one_chain travel.Chunked g.H.Hasher.digest_of text done.0 is.report)
    (made_answers c.made_of_source-made.ensures c.end_made.ensures)

pub returns-clause-read_fault : goal.returns-clause-read_fault
returns-clause-read_fault g c = made_read c.made_of_source-made.ensures c.end_made.ensures

pub returns-clause-write_fault : goal.returns-clause-write_fault
returns-clause-write_fault g c = made_write c.end_made.ensures
