use Rattle.std.proofs.Common.{◌≡◌, List, ℕ, [], ◌∷◌, Vec, IfOk, true, inl, inr, refl, subst, le_trans}
use Rattle.std.specs.declared.alloc.Global.{Global}
use Rattle.node_disk.specs.Disk.{DiskState, HasSynced, IsSame, Synced}
use Rattle.node_disk.specs.declared.disk.DiskError.TheVariants.{Failed, NoMemory}
use Rattle.node_disk.proofs.Moments.{rose_late}
use Rattle.node_disk.proofs.WriteSync.{always, err_was, read_durable, read_seen, read_told, read_any, sync_err, cut_sync, front_none}
use Rattle.node_disk.proofs.record_log.found_bytes.Goals as goal

pub returns-in-Ok : goal.returns-in-Ok
returns-in-Ok g c =
    let laws =
    g.met.D.Disk g.world.𝓛 g.world.𝓜 g.world.𝓡 ((λ s x. x), (λ x. x), (λ x. x), λ x. x) in
    let old : DiskState = g.D.Disk.state c.args.disk.now in
    let mid : DiskState = g.D.Disk.state c.sync.new.self in
    let new : DiskState = g.D.Disk.state c.read_all.new.self in
    let synced : HasSynced old mid = c.in-Ok.ensures.ok in
    let same : IsSame mid new = c.read_all.ensures.same in
    record {
      bytes =
          subst (λ (l : List ℕ). IfOk c.read_all.result (λ (bytes : Vec ℕ Global). bytes.items ≡ l))
          synced.seen
          c.read_all.ensures.bytes;
      seen = always c.read_all.result (read_seen old mid new synced same);
      durable = always c.read_all.result (read_durable old mid new synced same);
      any_moment = read_any old mid new synced same (laws.seen_is_image c.args.disk.now);
      calls = always c.read_all.result (read_told old mid new synced same);
      failed = λ e. inr (read_told old mid new synced same);
      no_memory =
          λ e. record {
            did = Synced true ∷ [];
            rest = [];
            whole = refl;
            told = read_told old mid new synced same;
          };
      cause =
          λ e. rose_late old.faults mid.faults new.faults c.sync.ensures.faults
          (c.read_all.ensures.cause e);
      faults = le_trans c.sync.ensures.faults c.read_all.ensures.faults;
      never_fails =
          λ calm e. c.read_all.ensures.never_fails
          (laws.stays_calm _ _ c.sync.ensures.continues calm) e;
      continues =
          laws.continues_on _ _ _ c.sync.ensures.continues c.read_all.ensures.continues;
    }

pub returns-in-Err : goal.returns-in-Err
returns-in-Err g c =
    let old : DiskState = g.D.Disk.state c.args.disk.now in
    let new : DiskState = g.D.Disk.state c.sync.new.self in
    record {
      bytes = tt;
      seen = tt;
      durable = tt;
      any_moment =
          sync_err old new c.sync.result c.in-Err.error c.in-Err.is c.sync.ensures.failed
          c.sync.ensures.no_memory;
      calls = tt;
      failed =
          λ e. inl
          (cut_sync old new
          (c.sync.ensures.failed (err_was c.sync.result c.in-Err.error Failed c.in-Err.is e)));
      no_memory =
          λ e. front_none (Synced true ∷ []) old new
          (c.sync.ensures.no_memory
          (err_was c.sync.result c.in-Err.error NoMemory c.in-Err.is e));
      cause =
          λ e. (c.sync.ensures.failed
          (err_was c.sync.result c.in-Err.error Failed c.in-Err.is e)).cause;
      faults = c.sync.ensures.faults;
      never_fails =
          λ calm e. c.sync.ensures.never_fails calm
          (err_was c.sync.result c.in-Err.error Failed c.in-Err.is e);
      continues = c.sync.ensures.continues;
    }
