use Rattle.std.proofs.Common.{◌≡◌, true, false, sym, ◌∙◌, le_of_eq}
use Rattle.node_disk.specs.Record.{Request, Write}
use Rattle.node_disk.specs.Memory.{MemoryState}
use Rattle.node_disk.proofs.Calm.{calm_succeeds}
use Rattle.node_disk.proofs.Called.{called_succeeds, called_fails, write_done, write_failed}
use Rattle.node_disk.proofs.Gone.{HasGone, has_gone, both_ok}
use Rattle.node_disk.proofs.memory.MemoryDiskDisk.write_at.Goals as goal

pub returns : goal.returns
returns c =
    let old : MemoryState = c.args.self.now in
    let new : MemoryState = c.count.new.self in
    let request : Request = Write c.args.place c.args.bytes.now in
    let gone : HasGone request c.count.result old new =
    has_gone request old c.make_write-made.new.self new c.make_write-made.ensures.faults
    c.make_write-made.ensures.tries c.count.ensures.later c.make_write-made.result c.count.result
    c.make_write-made.ensures.called c.make_write-made.ensures.done c.make_write-made.ensures.err
    c.count.ensures.answer c.count.ensures.counts in
    record {
      ok = both_ok c.count.result gone.done (write_done c.args.place c.args.bytes.now old new);
      failed =
          λ is. write_failed c.args.place c.args.bytes.now old new (gone.failed is).0
          (gone.failed is).1 c.requires
          (le_of_eq (sym (gone.fault_counted is)));
      no_memory = gone.same;
      tried = le_of_eq (sym gone.tries);
      faults = gone.faults;
      never_fails =
          λ calm is. let no : false ≡ true =
          sym (calm_succeeds old calm)
          ∙ called_fails request old new (gone.failed is).0 (gone.failed is).1 in
          cc;
      continues = gone.continues;
      recorded = both_ok c.count.result gone.done (λ called done. called);
      failure_recorded = λ is. (gone.failed is).0;
      calm = gone.calm;
      fault_counted = gone.fault_counted;
      no_fault = gone.no_fault;
      try_counted = gone.tries;
      succeeds =
          both_ok c.count.result gone.done (called_succeeds request old new);
      fails = λ is. called_fails request old new (gone.failed is).0 (gone.failed is).1;
    }
