use Rattle.std.proofs.Common.{sym, subst}
use Rattle.hail_report.specs.declared.exit.Early.{Early}
use Rattle.hail_world.specs.Programs.{HasNoReport}
use Rattle.hail_world.proofs.Meaning.{cause_early, whole_text}
use Rattle.hail_world.proofs.frame.run_source.Goals as goal

pub returns-in-Ok-clause-run : goal.returns-in-Ok-clause-run
returns-in-Ok-clause-run g c =
    let told = c.in-Whole.ensures in
    let is = whole_text _ _ told.read c.in-Whole.text.items told.told.0 told.given told.told.1 in
    record {
      read = c.in-Whole.text.items;
      given = is.0;
      ran =
          record {
            whole = is.1;
            spells = rw c.deref.ensures.value at c.in-Ok.ensures.spells;
            run = c.in-Ok.ensures.run;
            report = rw c.deref.ensures.value at c.in-Ok.ensures.report;
          };
      early = tt;
    }

pub returns-in-Whole-clause-run : goal.returns-in-Whole-clause-run
returns-in-Whole-clause-run g c =
    let told = c.in-Whole.ensures in
    let is = whole_text _ _ told.read c.in-Whole.text.items told.told.0 told.given told.told.1 in
    record {
      read = c.in-Whole.text.items;
      given = is.0;
      ran = tt;
      early =
          subst
          (λ (e : Early). HasNoReport g.W.Way.travel g.H.Hasher.digest_of c.in-Whole.text.items
          (g.I.Source.left c.read_script.new.input) (g.I.Source.faults c.args.input.now)
          (g.I.Source.faults c.read_script.new.input) e)
          (sym c.early_of.ensures)
          (cause_early g.W.Way.travel g.H.Hasher.digest_of c.in-Whole.text.items _ _ _ is.1
          c.in-Err.error (rw c.deref.ensures.value at c.in-Err.ensures.err));
    }

pub returns-in-TooLong-clause-run : goal.returns-in-TooLong-clause-run
returns-in-TooLong-clause-run g c =
    let told = c.in-TooLong.ensures in
    record { read = told.read; given = told.given; ran = tt; early = told.told }

pub returns-in-Fault-clause-run : goal.returns-in-Fault-clause-run
returns-in-Fault-clause-run g c =
    let told = c.in-Fault.ensures in
    record { read = told.read; given = told.given; ran = tt; early = told.told }

pub returns-clause-run : goal.returns-clause-run
returns-clause-run g c =
    let told = c.in-NoMemory.ensures in
    record { read = told.read; given = told.given; ran = tt; early = tt }
