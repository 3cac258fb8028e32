use Rattle.std.proofs.Common.{List, ℕ, sym, ◌∙◌, le_trans}
use Rattle.std.proofs.lemmas.Result.{on_ok_weaker}
use Rattle.node_disk.specs.Disk.{DiskState, HasWritten, HasSynced}
use Rattle.node_disk.specs.Log.{write_then_sync}
use Rattle.node_disk.proofs.Moments.{rose_late, rose_on}
use Rattle.node_disk.proofs.WriteSync.{write_err, then_sync, cut_at_write, cut_at_sync, front_none, front_write, both_told}
use Rattle.node_disk.proofs.record_log.write_and_sync.Goals as goal

pub returns-in-Ok : goal.returns-in-Ok
returns-in-Ok g c =
    let laws =
    g.met.D.Disk g.world.𝓛 g.world.𝓜 g.world.𝓡 ((λ s x. x), (λ x. x), (λ x. x), λ x. x) in
    let place : ℕ = c.args.place in
    let bytes : List ℕ = c.args.bytes.now in
    let old : DiskState = g.D.Disk.state c.args.disk.now in
    let mid : DiskState = g.D.Disk.state c.write_at.new.self in
    let new : DiskState = g.D.Disk.state c.sync.new.self in
    let wrote : HasWritten place bytes old mid = c.in-Ok.ensures.ok in
    record {
      written =
          on_ok_weaker c.sync.result (λ (f : HasSynced mid new). f.seen ∙ wrote.seen)
          c.sync.ensures.ok;
      durable =
          on_ok_weaker c.sync.result
          (λ (f : HasSynced mid new). record {
            synced = f.synced ∙ sym f.seen;
            ranges = f.ranges;
          }) c.sync.ensures.ok;
      any_moment =
          then_sync old mid place bytes c.requires.inside c.requires.durable new wrote
          (laws.seen_is_image c.write_at.new.self) c.sync.result c.sync.ensures.ok
          c.sync.ensures.failed c.sync.ensures.no_memory;
      calls =
          on_ok_weaker c.sync.result
          (λ (f : HasSynced mid new). both_told place bytes old mid new wrote f)
          c.sync.ensures.ok;
      failed = λ e. cut_at_sync place bytes old mid new wrote (c.sync.ensures.failed e);
      no_memory = λ e. front_write place bytes old mid new wrote (c.sync.ensures.no_memory e);
      cause =
          λ e. rose_late old.faults mid.faults new.faults c.write_at.ensures.faults
          (c.sync.ensures.failed e).cause;
      faults = le_trans c.write_at.ensures.faults c.sync.ensures.faults;
      tried =
          rose_on old.tries mid.tries new.tries c.write_at.ensures.tried c.sync.ensures.tried;
      never_fails =
          λ calm e. c.sync.ensures.never_fails
          (laws.stays_calm _ _ c.write_at.ensures.continues calm) e;
      continues = laws.continues_on _ _ _ c.write_at.ensures.continues c.sync.ensures.continues;
    }

pub returns-in-Err : goal.returns-in-Err
returns-in-Err g c =
    let place : ℕ = c.args.place in
    let bytes : List ℕ = c.args.bytes.now in
    let old : DiskState = g.D.Disk.state c.args.disk.now in
    let new : DiskState = g.D.Disk.state c.write_at.new.self in
    record {
      written = tt;
      durable = tt;
      any_moment =
          write_err old new place bytes c.requires.inside c.requires.durable c.write_at.result
          c.in-Err.error c.in-Err.is c.write_at.ensures.failed c.write_at.ensures.no_memory;
      calls = tt;
      failed = λ e. cut_at_write place bytes old new (c.in-Err.ensures.failed e);
      no_memory =
          λ e. front_none (write_then_sync place bytes) old new (c.in-Err.ensures.no_memory e);
      cause = λ e. (c.in-Err.ensures.failed e).cause;
      faults = c.write_at.ensures.faults;
      tried = c.write_at.ensures.tried;
      never_fails = c.in-Err.ensures.never_fails;
      continues = c.write_at.ensures.continues;
    }
