use Rattle.std.proofs.Common.{◌≡◌, ℕ, ◌+◌, ◌^◌, ◌<◌, List, [], ◌∷◌, ◌++◌, length, true, false, inl, inr, refl, sym, ◌∙◌, ap, subst, arith, rules, le_of_eq, length-append}
use Rattle.node_disk.specs.Disk.{DiskState, DeviceCall, HasTold, IsCutShort, IsFront}
use Rattle.node_disk.specs.Frames.{body, frames_in, FindsWithOrWithout}
use Rattle.node_disk.specs.Log.{HasSettled, calls_of_append, write_then_sync}
use Rattle.node_disk.specs.declared.log.StoreError.TheVariants as store
use Rattle.node_disk.proofs.AtRest.{settled_images, settled_stays}
use Rattle.node_disk.proofs.Compose.{left_now}
use Rattle.node_disk.proofs.FramesIn.{frames_rest, frames_stay}
use Rattle.node_disk.proofs.WriteSync.{front_of_none}
use Rattle.node_disk.proofs.Appending.{calls_are, with_some, with_none, none_told, settled_as, ok_is_none, err_is, never_both, not_disk, not_failed, not_foreign, disk_failed, disk_refused, never_failed, never_foreign}
use Rattle.node_disk.proofs.record_log.RecordLog.append.Goals as goal

pub returns-then-length-eq0 : goal.returns-then-length-eq0
returns-then-length-eq0 g c =
    let laws =
    g.met.D.Disk g.world.𝓛 g.world.𝓜 g.world.𝓡 ((λ s x. x), (λ x. x), (λ x. x), λ x. x) in
    let frame : List ℕ = c.args.frame.now in
    let count : ℕ = c.args.self.now.count in
    let gate : ℕ = c.args.self.now.gate in
    let old : DiskState = g.D.Disk.state c.args.self.now.disk in
    let frames : List (List ℕ) = frames_in count old.now.seen in
    let good : c.args.self.now.failed ≡ false = cc in
    let none : length frame ≡ 0 = omega arith in
    let short : length frame < 2 ^ 64 = omega arith in
    let before : HasSettled frames gate old.now = c.args.self.now.settled good in
    record {
      ok = (good, with_none frames frame none);
      err = tt;
      empty = λ empty. record { frames = refl; gate = refl; failed = refl; disk = refl };
      empty_ok = λ empty fine. refl;
      settled = c.args.self.now.settled;
      on_disk = settled_images frames gate old.now before;
      any_moment = λ fine. settled_stays frames frame gate old before;
      appended =
          record {
            frames = with_none frames frame none;
            before = before;
            after = before;
            calls = none_told gate frame old none;
            short = short;
            disk = laws.continues_itself c.args.self.now.disk;
          };
      cut_short = λ e. absurd (ok_is_none store.Disk e);
      calls_no_memory = λ e. absurd (ok_is_none store.NoMemory e);
      disk = λ e. absurd (ok_is_none store.Disk e);
      disk_cause = λ e. absurd (ok_is_none store.Disk e);
      never_fails = λ calm e. ok_is_none store.Disk e;
      faults = le_of_eq refl;
      failed = λ bad. absurd (never_both c.args.self.now.failed good bad);
      failed_same = λ bad. record { frames = refl; gate = refl; failed = refl; disk = refl };
      failed_only = λ e. absurd (ok_is_none store.Failed e);
      no_memory = λ e. absurd (ok_is_none store.NoMemory e);
      not_foreign = λ place e. ok_is_none (store.Foreign place) e;
      continues = laws.continues_itself c.args.self.now.disk;
      short = short;
    }

pub returns-in_default : goal.returns-in_default
returns-in_default g c =
    let laws =
    g.met.D.Disk g.world.𝓛 g.world.𝓜 g.world.𝓡 ((λ s x. x), (λ x. x), (λ x. x), λ x. x) in
    let frame : List ℕ = c.args.frame.now in
    let count : ℕ = c.args.self.now.count in
    let gate : ℕ = c.args.self.now.gate in
    let old : DiskState = g.D.Disk.state c.args.self.now.disk in
    let frames : List (List ℕ) = frames_in count old.now.seen in
    let good : c.args.self.now.failed ≡ false = cc in
    let some : 0 < length frame = omega arith in
    record {
      ok = tt;
      err = refl;
      empty = λ none. record { frames = refl; gate = refl; failed = refl; disk = refl };
      empty_ok = λ none. absurd (omega arith);
      settled = λ fine. c.args.self.now.settled fine;
      on_disk = tt;
      any_moment = λ fine. settled_stays frames frame gate old (c.args.self.now.settled fine);
      appended = tt;
      cut_short = λ e. absurd (not_disk e);
      calls_no_memory = λ e. front_of_none (calls_of_append gate frame) old;
      disk = λ e. absurd (not_disk e);
      disk_cause = λ e. absurd (not_disk e);
      never_fails = λ calm e. not_disk e;
      faults = le_of_eq refl;
      failed = λ bad. absurd (never_both c.args.self.now.failed good bad);
      failed_same = λ bad. record { frames = refl; gate = refl; failed = refl; disk = refl };
      failed_only = λ e. absurd (not_failed e);
      no_memory = λ e. inl (record { frames = refl; gate = refl; failed = refl; disk = refl });
      not_foreign = not_foreign;
      continues = laws.continues_itself c.args.self.now.disk;
      short = search rules;
    }

pub returns-in-Err : goal.returns-in-Err
returns-in-Err g c =
    let laws =
    g.met.D.Disk g.world.𝓛 g.world.𝓜 g.world.𝓡 ((λ s x. x), (λ x. x), (λ x. x), λ x. x) in
    let frame : List ℕ = c.args.frame.now in
    let count : ℕ = c.args.self.now.count in
    let gate : ℕ = c.args.self.now.gate in
    let old : DiskState = g.D.Disk.state c.args.self.now.disk in
    let frames : List (List ℕ) = frames_in count old.now.seen in
    let new : DiskState = g.D.Disk.state c.add_frame.new.disk in
    let good : c.args.self.now.failed ≡ false = cc in
    let some : 0 < length frame = omega arith in
    let short : length frame < 2 ^ 64 = search rules in
    let bytes : c.deref.result.now ≡ body frame ++ 0 ∷ [] = search rules in
    let before : HasSettled frames gate old.now = c.args.self.now.settled good in
    let calls : write_then_sync (gate + 1) c.deref.result.now ++ write_then_sync gate (1 ∷ [])
    ≡ calls_of_append gate frame =
    calls_are gate frame c.deref.result.now some bytes in
    let left = c.add_frame.ensures.any_moment frames frame before.file bytes short in
    let same : frames_in count new.now.seen ≡ frames =
    frames_stay frames frame count new.now.seen
    (left_now old new (FindsWithOrWithout frames frame) left new.now.seen
    (laws.seen_is_image c.add_frame.new.disk))
    (sym c.args.self.now.counted) in
    let is = c.in-Err.is in
    record {
      ok = tt;
      err = same;
      empty = λ none. absurd (omega arith);
      empty_ok = λ none. absurd (omega arith);
      settled = λ fine. absurd (let so : true ≡ false = fine in cc);
      on_disk = tt;
      any_moment = λ e. c.add_frame.ensures.any_moment frames frame before.file bytes short;
      appended = tt;
      cut_short =
          λ e. record {
            frames = same;
            before = before;
            calls =
                subst (λ (l : List DeviceCall). IsCutShort l old new) calls
                (c.add_frame.ensures.failed
                (disk_failed c.in-Err.error c.from.result c.add_frame.result c.from.ensures is
                (err_is c.from.result store.Disk e)));
            short = short;
            disk = c.add_frame.ensures.continues;
          };
      calls_no_memory =
          λ e. subst (λ (l : List DeviceCall). IsFront l old new) calls
          (c.add_frame.ensures.no_memory
          (disk_refused c.in-Err.error c.from.result c.add_frame.result c.from.ensures is
          (err_is c.from.result store.NoMemory e)));
      disk = λ e. refl;
      disk_cause =
          λ e. c.add_frame.ensures.cause
          (disk_failed c.in-Err.error c.from.result c.add_frame.result c.from.ensures is
          (err_is c.from.result store.Disk e));
      never_fails =
          λ calm e. c.add_frame.ensures.never_fails calm
          (disk_failed c.in-Err.error c.from.result c.add_frame.result c.from.ensures is
          (err_is c.from.result store.Disk e));
      faults = c.add_frame.ensures.faults;
      failed = λ bad. absurd (never_both c.args.self.now.failed good bad);
      failed_same = λ bad. absurd (never_both c.args.self.now.failed good bad);
      failed_only =
          λ e. absurd
          (never_failed c.in-Err.error c.from.result c.from.ensures
          (err_is c.from.result store.Failed e));
      no_memory = λ e. inr (refl, c.add_frame.ensures.tried);
      not_foreign =
          λ place e. never_foreign place c.in-Err.error c.from.result c.from.ensures
          (err_is c.from.result (store.Foreign place) e);
      continues = c.add_frame.ensures.continues;
      short = short;
    }

pub returns : goal.returns
returns g c =
    let frame : List ℕ = c.args.frame.now in
    let count : ℕ = c.args.self.now.count in
    let gate : ℕ = c.args.self.now.gate in
    let old : DiskState = g.D.Disk.state c.args.self.now.disk in
    let frames : List (List ℕ) = frames_in count old.now.seen in
    let new : DiskState = g.D.Disk.state c.add_frame.new.disk in
    let good : c.args.self.now.failed ≡ false = cc in
    let some : 0 < length frame = omega arith in
    let short : length frame < 2 ^ 64 = search rules in
    let bytes : c.deref.result.now ≡ body frame ++ 0 ∷ [] = search rules in
    let next : c.in-Ok.next ≡ gate + length c.deref.result.now = search rules in
    let more : c.in-Ok.count ≡ count + 1 = search rules in
    let before : HasSettled frames gate old.now = c.args.self.now.settled good in
    let added : HasSettled (frames ++ frame ∷ []) (gate + length c.deref.result.now) new.now =
    c.in-Ok-add_frame.ensures.ok frames frame before.file bytes short in
    let push : frames_in c.in-Ok.count new.now.seen ≡ frames ++ frame ∷ [] =
    frames_rest (frames ++ frame ∷ []) (gate + length c.deref.result.now) c.in-Ok.count
    new.now.seen added.file
    (omega (arith, more, length-append frames (frame ∷ []), c.args.self.now.counted)) in
    let after : HasSettled (frames_in c.in-Ok.count new.now.seen) c.in-Ok.next new.now =
    settled_as (frames ++ frame ∷ []) (frames_in c.in-Ok.count new.now.seen)
    (gate + length c.deref.result.now) c.in-Ok.next new.now added push next in
    record {
      ok = (refl, push ∙ with_some frames frame some);
      err = tt;
      empty = λ none. absurd (omega arith);
      empty_ok = λ none fine. refl;
      settled = λ fine. after;
      on_disk = settled_images (frames_in c.in-Ok.count new.now.seen) c.in-Ok.next new.now after;
      any_moment = λ fine. c.add_frame.ensures.any_moment frames frame before.file bytes short;
      appended =
          record {
            frames = push ∙ with_some frames frame some;
            before = before;
            after = after;
            calls =
                subst (λ (l : List DeviceCall). HasTold l old new)
                (calls_are gate frame c.deref.result.now some bytes)
                c.in-Ok-add_frame.ensures.calls;
            short = short;
            disk = c.add_frame.ensures.continues;
          };
      cut_short = λ e. absurd (ok_is_none store.Disk e);
      calls_no_memory = λ e. absurd (ok_is_none store.NoMemory e);
      disk = λ e. absurd (ok_is_none store.Disk e);
      disk_cause = λ e. absurd (ok_is_none store.Disk e);
      never_fails = λ calm e. ok_is_none store.Disk e;
      faults = c.add_frame.ensures.faults;
      failed = λ bad. absurd (never_both c.args.self.now.failed good bad);
      failed_same = λ bad. absurd (never_both c.args.self.now.failed good bad);
      failed_only = λ e. absurd (ok_is_none store.Failed e);
      no_memory = λ e. absurd (ok_is_none store.NoMemory e);
      not_foreign = λ place e. ok_is_none (store.Foreign place) e;
      continues = c.add_frame.ensures.continues;
      short = short;
    }

pub invariant_of-self : goal.invariant_of-self
invariant_of-self g c =
    let laws =
    g.met.D.Disk g.world.𝓛 g.world.𝓜 g.world.𝓡 ((λ s x. x), (λ x. x), (λ x. x), λ x. x) in
    let frame : List ℕ = c.args.frame.now in
    let count : ℕ = c.args.self.now.count in
    let gate : ℕ = c.args.self.now.gate in
    let old : DiskState = g.D.Disk.state c.args.self.now.disk in
    let frames : List (List ℕ) = frames_in count old.now.seen in
    let new : DiskState = g.D.Disk.state c.add_frame.new.disk in
    let good : c.args.self.now.failed ≡ false = cc in
    let some : 0 < length frame = omega arith in
    let short : length frame < 2 ^ 64 = search rules in
    let bytes : c.deref.result.now ≡ body frame ++ 0 ∷ [] = search rules in
    let before : HasSettled frames gate old.now = c.args.self.now.settled good in
    let left = c.add_frame.ensures.any_moment frames frame before.file bytes short in
    let same : frames_in count new.now.seen ≡ frames =
    frames_stay frames frame count new.now.seen
    (left_now old new (FindsWithOrWithout frames frame) left new.now.seen
    (laws.seen_is_image c.add_frame.new.disk))
    (sym c.args.self.now.counted) in
    record {
      counted = ap length same ∙ c.args.self.now.counted;
      settled =
          λ fine. absurd {A = HasSettled (frames_in count new.now.seen) gate new.now}
          (let so : true ≡ false = fine in cc);
    }

pub invariant_of-self-2 : goal.invariant_of-self-2
invariant_of-self-2 g c =
    let frame : List ℕ = c.args.frame.now in
    let count : ℕ = c.args.self.now.count in
    let gate : ℕ = c.args.self.now.gate in
    let old : DiskState = g.D.Disk.state c.args.self.now.disk in
    let frames : List (List ℕ) = frames_in count old.now.seen in
    let new : DiskState = g.D.Disk.state c.add_frame.new.disk in
    let good : c.args.self.now.failed ≡ false = cc in
    let some : 0 < length frame = omega arith in
    let short : length frame < 2 ^ 64 = search rules in
    let bytes : c.deref.result.now ≡ body frame ++ 0 ∷ [] = search rules in
    let next : c.in-Ok.next ≡ gate + length c.deref.result.now = search rules in
    let more : c.in-Ok.count ≡ count + 1 = search rules in
    let before : HasSettled frames gate old.now = c.args.self.now.settled good in
    let added : HasSettled (frames ++ frame ∷ []) (gate + length c.deref.result.now) new.now =
    c.in-Ok-add_frame.ensures.ok frames frame before.file bytes short in
    let push : frames_in c.in-Ok.count new.now.seen ≡ frames ++ frame ∷ [] =
    frames_rest (frames ++ frame ∷ []) (gate + length c.deref.result.now) c.in-Ok.count
    new.now.seen added.file
    (omega (arith, more, length-append frames (frame ∷ []), c.args.self.now.counted)) in
    let after : HasSettled (frames_in c.in-Ok.count new.now.seen) c.in-Ok.next new.now =
    settled_as (frames ++ frame ∷ []) (frames_in c.in-Ok.count new.now.seen)
    (gate + length c.deref.result.now) c.in-Ok.next new.now added push next in
    record {
      counted =
          omega (
            arith,
            ap length push,
            length-append frames (frame ∷ []),
            c.args.self.now.counted,
            more,
          );
      settled = λ fine. after;
    }
