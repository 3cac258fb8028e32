use Rattle.std.proofs.Common.{List, refl, subst, sym, ℕ}
use Rattle.hail_report.specs.Reading.{IsWhole}
use Rattle.hail_report.specs.declared.exit.Early.TheVariants as early
use Rattle.hail_report.specs.declared.exit.Exit.TheVariants.{TooLong}
use Rattle.hail_report.proofs.Answering.{answers_done, early_done, early_read, early_write, source_early, source_whole}
use Rattle.hail_world.specs.OneChain.{IsOneChain}
use Rattle.hailstorm.specs.LanesProgram.{TellsLanes}
use Rattle.hailstorm.proofs.LanesChain.{lanes_one_chain}
use Rattle.hailstorm.proofs.LanesMeaning.{never_long}
use Rattle.hailstorm.proofs.lane_program.lanes_program.Goals as goal

pub returns-in-Whole-clause-one_chain : goal.returns-in-Whole-clause-one_chain
returns-in-Whole-clause-one_chain g c =
    let hash = g.H.Hasher.digest_of in
    answers_done (TellsLanes hash c.deref.result.now) _ _ (λ done. IsOneChain hash done.1)
    (λ done due is. lanes_one_chain hash c.deref.result.now done.0 done.1 is.0)
    c.run_whole.result c.run_whole.ensures.answer

pub returns-in-Whole-clause-answer : goal.returns-in-Whole-clause-answer
returns-in-Whole-clause-answer g c = λ none.
    let hash = g.H.Hasher.digest_of in
    let told = c.in-Whole.ensures in
    source_whole (TellsLanes hash) _ _ _ _ c.in-Whole.text.items
    (never_long g.row.H.Denot hash c.in-Whole.text.items)
    (subst (λ (t : List ℕ). IsWhole t (g.I.Source.left c.read_script.new.input)) (sym told.told.0)
    told.told.1)
    told.read told.told.0 told.given
    c.run_whole.result (rw c.deref.ensures.value at c.run_whole.ensures.answer)

pub returns-in-Whole-clause-read_fault : goal.returns-in-Whole-clause-read_fault
returns-in-Whole-clause-read_fault g c = λ is. absurd (c.run_whole.ensures.read_fault is)

pub returns-in-TooLong-clause-answer : goal.returns-in-TooLong-clause-answer
returns-in-TooLong-clause-answer g c = λ none.
    let told = c.in-TooLong.ensures in
    source_early (TellsLanes g.H.Hasher.digest_of) _ _ _ _ _ _ told.read told.given early.TooLong
    (told.told, refl) c.end_early.result c.end_early.ensures

pub returns-in-Fault-clause-answer : goal.returns-in-Fault-clause-answer
returns-in-Fault-clause-answer g c = λ none.
    let told = c.in-Fault.ensures in
    source_early (TellsLanes g.H.Hasher.digest_of) _ _ _ _ 0 0 told.read told.given
    early.ReadFault tt c.end_early-in-Fault.result c.end_early-in-Fault.ensures

pub returns-in-NoMemory-clause-answer : goal.returns-in-NoMemory-clause-answer
returns-in-NoMemory-clause-answer g c = λ none.
    let told = c.in-NoMemory.ensures in
    source_early (TellsLanes g.H.Hasher.digest_of) _ _ _ _ 0 0 told.read told.given early.NoMemory
    tt c.end_early-in-NoMemory.result c.end_early-in-NoMemory.ensures
