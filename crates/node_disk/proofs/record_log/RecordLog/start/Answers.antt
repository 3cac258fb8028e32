use Rattle.std.proofs.Common.{◌≡◌, ◌<◌, ◌≤◌, length, ℕ, List, [], drop, None, Err, inl, ◌∙◌, refl, ap, sym, subst, arith, rules, le_trans}
use Rattle.node_disk.specs.Images.{IsImage}
use Rattle.node_disk.specs.Disk.{DiskState}
use Rattle.node_disk.specs.Errors.{store_error}
use Rattle.node_disk.specs.Frames.{Finds, IsAtRest, frames_in, read_log}
use Rattle.node_disk.specs.Log.{HasSettled, IsBeforeOrSame}
use Rattle.node_disk.specs.Records.{refused_place}
use Rattle.node_disk.specs.declared.disk.DiskError.{DiskError}
use Rattle.node_disk.specs.declared.disk.DiskError.TheVariants.{Failed, NoMemory}
use Rattle.node_disk.specs.declared.log.StoreError.{StoreError}
use Rattle.node_disk.specs.declared.log.StoreError.TheVariants as store
use Rattle.node_disk.proofs.AtRest.{at_rest_of, finds_at_rest, settled_images}
use Rattle.node_disk.proofs.Compose.{weakens}
use Rattle.node_disk.proofs.FramesIn.{frames_none}
use Rattle.node_disk.proofs.Moments.{rose_late}
use Rattle.node_disk.proofs.Refusing.{refused_of}
use Rattle.node_disk.proofs.Appending.{disk_failed, disk_refused, never_failed, never_foreign}
use Rattle.node_disk.proofs.Starting.{read_short, short_start, told_long, cut_first, front_first, told_gate, cut_gate, front_gate}
use Rattle.node_disk.proofs.record_log.RecordLog.start.Goals as goal

pub returns-in-Err : goal.returns-in-Err
returns-in-Err g c =
    let old : DiskState = g.D.Disk.state c.args.disk in
    let new : DiskState = g.D.Disk.state c.found_bytes.new.disk in
    let failed : c.from.result ≡ store.Disk → c.found_bytes.result ≡ Err Failed =
    disk_failed c.in-Err.error c.from.result c.found_bytes.result c.from.ensures c.in-Err.is in
    let refused : c.from.result ≡ store.NoMemory → c.found_bytes.result ≡ Err NoMemory =
    disk_refused c.in-Err.error c.from.result c.found_bytes.result c.from.ensures c.in-Err.is in
    let foreign : (place : ℕ) → c.from.result ≡ store.Foreign place → ⊥ =
    λ place. never_foreign place c.in-Err.error c.from.result c.from.ensures in
    record {
      ok = tt;
      kept = tt;
      all_records = tt;
      settled = tt;
      seen = tt;
      on_disk = tt;
      foreign = λ place is. absurd (foreign place is);
      foreign_same = λ place is. absurd (foreign place is);
      any_moment = tt;
      any_moment_err =
          weakens old new (IsImage old.now) (IsBeforeOrSame old.now) (λ image is. inl is)
          c.found_bytes.ensures.any_moment;
      calls = tt;
      calls_foreign = λ place is. absurd (foreign place is);
      calls_failed =
          λ is. cut_first old.now.seen old new (c.found_bytes.ensures.failed (failed is));
      calls_no_memory =
          λ is. front_first old.now.seen old new (c.found_bytes.ensures.no_memory (refused is));
      cause = λ is. c.found_bytes.ensures.cause (failed is);
      faults = tt;
      faults_err = c.found_bytes.ensures.faults;
      never_fails = λ calm is. c.found_bytes.ensures.never_fails calm (failed is);
      not_failed = never_failed c.in-Err.error c.from.result c.from.ensures;
      continues = tt;
      continues_err = c.found_bytes.ensures.continues;
    }

pub returns-in-Err-write_and_sync : goal.returns-in-Err-write_and_sync
returns-in-Err-write_and_sync g c =
    let laws =
    g.met.D.Disk g.world.𝓛 g.world.𝓜 g.world.𝓡 ((λ s x. x), (λ x. x), (λ x. x), λ x. x) in
    let old : DiskState = g.D.Disk.state c.args.disk in
    let mid : DiskState = g.D.Disk.state c.found_bytes.new.disk in
    let new : DiskState = g.D.Disk.state c.write_and_sync.new.disk in
    let short : length old.now.seen < 2 = search rules in
    let error : DiskError = c.in-Err-write_and_sync.error in
    let told : StoreError = c.from-in-Err-write_and_sync.result in
    let from : told ≡ store_error error = c.from-in-Err-write_and_sync.ensures in
    let failed : told ≡ store.Disk → c.write_and_sync.result ≡ Err Failed =
    disk_failed error told c.write_and_sync.result from c.in-Err-write_and_sync.is in
    let refused : told ≡ store.NoMemory → c.write_and_sync.result ≡ Err NoMemory =
    disk_refused error told c.write_and_sync.result from c.in-Err-write_and_sync.is in
    let foreign : (place : ℕ) → told ≡ store.Foreign place → ⊥ =
    λ place. never_foreign place error told from in
    record {
      ok = tt;
      kept = tt;
      all_records = tt;
      settled = tt;
      seen = tt;
      on_disk = tt;
      foreign = λ place is. absurd (foreign place is);
      foreign_same = λ place is. absurd (foreign place is);
      any_moment = tt;
      any_moment_err =
          short_start old mid new c.in-Ok.ensures.any_moment c.in-Ok.ensures.seen short
          c.write_and_sync.ensures.any_moment;
      calls = tt;
      calls_foreign = λ place is. absurd (foreign place is);
      calls_failed =
          λ is. inl
          (cut_gate old.now.seen old mid new short c.in-Ok.ensures.calls
          (c.write_and_sync.ensures.failed (failed is)));
      calls_no_memory =
          λ is. front_gate old.now.seen old mid new short c.in-Ok.ensures.calls
          (c.write_and_sync.ensures.no_memory (refused is));
      cause =
          λ is. rose_late old.faults mid.faults new.faults c.found_bytes.ensures.faults
          (c.write_and_sync.ensures.cause (failed is));
      faults = tt;
      faults_err = le_trans c.found_bytes.ensures.faults c.write_and_sync.ensures.faults;
      never_fails =
          λ calm is. c.write_and_sync.ensures.never_fails
          (laws.stays_calm _ _ c.found_bytes.ensures.continues calm) (failed is);
      not_failed = never_failed error told from;
      continues = tt;
      continues_err =
          laws.continues_on _ _ _ c.found_bytes.ensures.continues
          c.write_and_sync.ensures.continues;
    }

pub returns-then-len-lt2 : goal.returns-then-len-lt2
returns-then-len-lt2 g c =
    let laws =
    g.met.D.Disk g.world.𝓛 g.world.𝓜 g.world.𝓡 ((λ s x. x), (λ x. x), (λ x. x), λ x. x) in
    let old : DiskState = g.D.Disk.state c.args.disk in
    let mid : DiskState = g.D.Disk.state c.found_bytes.new.disk in
    let new : DiskState = g.D.Disk.state c.write_and_sync.new.disk in
    let short : length old.now.seen < 2 = search rules in
    let file : IsAtRest [] 0 new.now.seen =
    at_rest_of [] 0 0 (drop 1 mid.now.seen) new.now.seen c.in_default.ensures.written refl
    (omega arith) refl in
    let none : [] ≡ frames_in 0 new.now.seen = sym (frames_none new.now.seen) in
    let settled : HasSettled (frames_in 0 new.now.seen) 0 new.now =
    subst (λ (fs : List (List ℕ)). HasSettled fs 0 new.now) none
    (record { file = file; durable = c.in_default.ensures.durable }) in
    record {
      ok = (
        refl,
        subst (λ (fs : List (List ℕ)). Finds fs old.now.seen) none (read_short old.now.seen short),
      );
      kept =
          subst (λ (fs : List (List ℕ)). g.K.Records.keeps c.args.records.now fs) none c.requires;
      all_records =
          refused_of g.K.Records.is_record [] old.now.seen None (read_short old.now.seen short) refl;
      settled = settled;
      seen = λ many. absurd (omega arith);
      on_disk = settled_images (frames_in 0 new.now.seen) 0 new.now settled;
      foreign = λ place. tt;
      foreign_same = λ place. tt;
      any_moment =
          short_start old mid new c.in-Ok.ensures.any_moment c.in-Ok.ensures.seen short
          c.write_and_sync.ensures.any_moment;
      any_moment_err = tt;
      calls =
          told_gate old.now.seen old mid new short c.in-Ok.ensures.calls c.in_default.ensures.calls;
      calls_foreign = λ place. tt;
      calls_failed = tt;
      calls_no_memory = tt;
      cause = tt;
      faults = le_trans c.found_bytes.ensures.faults c.write_and_sync.ensures.faults;
      faults_err = tt;
      never_fails = λ calm. tt;
      not_failed = tt;
      continues =
          laws.continues_on _ _ _ c.found_bytes.ensures.continues
          c.write_and_sync.ensures.continues;
      continues_err = tt;
    }

pub returns-in-Ok-read_into : goal.returns-in-Ok-read_into
returns-in-Ok-read_into g c =
    let old : DiskState = g.D.Disk.state c.args.disk in
    let new : DiskState = g.D.Disk.state c.found_bytes.new.disk in
    let same : c.deref.result.now ≡ old.now.seen = search rules in
    let whole : c.deref.result.now ≡ new.now.seen = same ∙ sym c.in-Ok.ensures.seen in
    let long : 2 ≤ length old.now.seen = search rules in
    let count : ℕ = c.in-Ok-read_into.count in
    let gate : ℕ = c.in-Ok-read_into.gate in
    let frames : List (List ℕ) = frames_in count new.now.seen in
    let found : IsAtRest frames gate new.now.seen =
    subst (λ (l : List ℕ). IsAtRest (frames_in count l) gate l) whole
    c.in-Ok-read_into.ensures.rests in
    let settled : HasSettled frames gate new.now =
    record { file = found; durable = c.in-Ok.ensures.durable } in
    record {
      ok = (
        refl,
        subst (λ (l : List ℕ). Finds frames l) c.in-Ok.ensures.seen
            (finds_at_rest frames gate new.now.seen found),
      );
      kept =
          subst (λ (l : List ℕ). g.K.Records.keeps c.read_into.new.records (frames_in count l)) whole
          c.in-Ok-read_into.ensures.kept;
      all_records =
          subst (λ (l : List ℕ). refused_place g.K.Records.is_record (read_log l) ≡ None) same
          c.in-Ok-read_into.ensures.all_records;
      settled = settled;
      seen = λ many. c.in-Ok.ensures.seen;
      on_disk = settled_images frames gate new.now settled;
      foreign = λ place. tt;
      foreign_same = λ place. tt;
      any_moment =
          weakens old new (IsImage old.now) (IsBeforeOrSame old.now) (λ image is. inl is)
          c.found_bytes.ensures.any_moment;
      any_moment_err = tt;
      calls = told_long old.now.seen old new long c.in-Ok.ensures.calls;
      calls_foreign = λ place. tt;
      calls_failed = tt;
      calls_no_memory = tt;
      cause = tt;
      faults = c.found_bytes.ensures.faults;
      faults_err = tt;
      never_fails = λ calm. tt;
      not_failed = tt;
      continues = c.found_bytes.ensures.continues;
      continues_err = tt;
    }

pub invariant_of-result : goal.invariant_of-result
invariant_of-result g c =
    let mid : DiskState = g.D.Disk.state c.found_bytes.new.disk in
    let new : DiskState = g.D.Disk.state c.write_and_sync.new.disk in
    let file : IsAtRest [] 0 new.now.seen =
    at_rest_of [] 0 0 (drop 1 mid.now.seen) new.now.seen c.in_default.ensures.written refl
    (omega arith) refl in
    record {
      counted = ap length (frames_none new.now.seen);
      settled =
          λ fine. subst (λ (fs : List (List ℕ)). HasSettled fs 0 new.now)
          (sym (frames_none new.now.seen))
          (record { file = file; durable = c.in_default.ensures.durable });
    }
