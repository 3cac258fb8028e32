use Rattle.std.proofs.Common.{◌≡◌, ◌∙◌, ◌<◌, ◌^◌, ◌++◌, ◌∷◌, [], ℕ, List, length, false, refl, ap, subst}
use Rattle.node_disk.specs.Disk.{LeavesOnly}
use Rattle.node_disk.specs.Frames.{FindsWithOrWithout}
use Rattle.node_disk.specs.Log.{with_frame}
use Rattle.node_disk.specs.RecordWords.{has_failed, log_disk, log_frames, log_gate}
use Rattle.cw_ledger.specs.Kept.{amount_in, kept_payloads}
use Rattle.cw_ledger.specs.Ledger.{Ledger, frame_of}
use Rattle.cw_ledger.specs.Transfers.{moved_all, transfers}
use Rattle.cw_ledger.specs.declared.transfer.Transfer.{Transfer}
use Rattle.cw_ledger.proofs.Adding.{any_moment, are_kept, finds_payloads, found_kept, payloads_are, stays_found, written_more}
use Rattle.cw_ledger.proofs.Loading.{as_many}
use Rattle.cw_ledger.proofs.replica.Replica.add.Goals as goal

pub returns-in-Err-clause-any_moment : goal.returns-in-Err-clause-any_moment
returns-in-Err-clause-any_moment g c =
    let frames = log_frames c.self.inside.log in
    let calm : has_failed c.self.inside.log ≡ false =
    ap (λ (s : Ledger g.row.D.Denot). s.failed) c.self.view_is ∙ c.requires in
    rw (← c.self.view_is)
    (stays_found frames (kept_payloads frames) (kept_payloads frames ++ c.args.payload.now ∷ [])
    (log_gate c.self.inside.log) (g.D.Disk.state (log_disk c.self.inside.log))
    c.self.invariant.found (c.self.inside.log.settled calm))

pub returns-in-Err-frame_of-clause-any_moment : goal.returns-in-Err-frame_of-clause-any_moment
returns-in-Err-frame_of-clause-any_moment g c =
    let frames = log_frames c.self.inside.log in
    let calm : has_failed c.self.inside.log ≡ false =
    ap (λ (s : Ledger g.row.D.Denot). s.failed) c.self.view_is ∙ c.requires in
    rw (← c.self.view_is)
    (stays_found frames (kept_payloads frames) (kept_payloads frames ++ c.args.payload.now ∷ [])
    (log_gate c.self.inside.log) (g.D.Disk.state (log_disk c.self.inside.log))
    c.self.invariant.found (c.self.inside.log.settled calm))

pub returns-in-Err-make_room-clause-any_moment : goal.returns-in-Err-make_room-clause-any_moment
returns-in-Err-make_room-clause-any_moment g c =
    let frames = log_frames c.self.inside.log in
    let calm : has_failed c.self.inside.log ≡ false =
    ap (λ (s : Ledger g.row.D.Denot). s.failed) c.self.view_is ∙ c.requires in
    rw (← c.self.view_is)
    (stays_found frames (kept_payloads frames) (kept_payloads frames ++ c.args.payload.now ∷ [])
    (log_gate c.self.inside.log) (g.D.Disk.state (log_disk c.self.inside.log))
    c.self.invariant.found (c.self.inside.log.settled calm))

pub invariant_of-self-in-Ok-append : goal.invariant_of-self-in-Ok-append
invariant_of-self-in-Ok-append g c =
    let frames = log_frames c.self.inside.log in
    let fits : length frames < 2 ^ 64 = rw c.frames-next.ensures at c.frames-next.type_inv in
    let written : c.deref-2.result.now ≡ frame_of (length frames, c.args.payload.now) =
    c.deref-2.ensures.value ∙ c.in-Ok-frame_of.ensures
    ∙ ap (λ (n : ℕ). frame_of (n, c.args.payload.now)) c.frames-next.ensures in
    let more_is : log_frames c.append.new.self
    ≡ with_frame frames (frame_of (length frames, c.args.payload.now)) =
    c.in-Ok-append.ensures.ok.1 ∙ ap (with_frame frames) written in
    let passed : c.deref-in-Ok-append.result.now ≡ transfers c.args.payload.now =
    c.deref-in-Ok-append.ensures.value ∙ c.in-Ok.ensures in
    are_kept frames c.self.inside.balances c.self.invariant c.args.payload.now fits
    (log_frames c.append.new.self) more_is c.make_room.new.self c.pass_all.new.self
    c.make_room.ensures.same
    (λ a. c.pass_all.ensures a
    ∙ ap (λ (ts : List Transfer). moved_all (amount_in c.make_room.new.self) ts a) passed)

pub returns-in-Ok-append-clause-ok : goal.returns-in-Ok-append-clause-ok
returns-in-Ok-append-clause-ok g c =
    let frames = log_frames c.self.inside.log in
    let fits : length frames < 2 ^ 64 = rw c.frames-next.ensures at c.frames-next.type_inv in
    let written : c.deref-2.result.now ≡ frame_of (length frames, c.args.payload.now) =
    c.deref-2.ensures.value ∙ c.in-Ok-frame_of.ensures
    ∙ ap (λ (n : ℕ). frame_of (n, c.args.payload.now)) c.frames-next.ensures in
    let more_is : log_frames c.append.new.self
    ≡ with_frame frames (frame_of (length frames, c.args.payload.now)) =
    c.in-Ok-append.ensures.ok.1 ∙ ap (with_frame frames) written in
    let is =
    payloads_are frames c.self.inside.balances c.self.invariant c.args.payload.now fits
    (log_frames c.append.new.self) more_is in
    rw (← c.self.view_is, is) refl

pub returns-in-Ok-append-clause-settled : goal.returns-in-Ok-append-clause-settled
returns-in-Ok-append-clause-settled g c works =
    let frames = log_frames c.self.inside.log in
    let fits : length frames < 2 ^ 64 = rw c.frames-next.ensures at c.frames-next.type_inv in
    let written : c.deref-2.result.now ≡ frame_of (length frames, c.args.payload.now) =
    c.deref-2.ensures.value ∙ c.in-Ok-frame_of.ensures
    ∙ ap (λ (n : ℕ). frame_of (n, c.args.payload.now)) c.frames-next.ensures in
    let more_is : log_frames c.append.new.self
    ≡ with_frame frames (frame_of (length frames, c.args.payload.now)) =
    c.in-Ok-append.ensures.ok.1 ∙ ap (with_frame frames) written in
    rw (← written_more frames c.self.inside.balances c.self.invariant c.args.payload.now fits
    (log_frames c.append.new.self) more_is)
    (c.append.ensures.settled works)

pub returns-in-Ok-append-clause-on_disk : goal.returns-in-Ok-append-clause-on_disk
returns-in-Ok-append-clause-on_disk g c image is =
    let frames = log_frames c.self.inside.log in
    let fits : length frames < 2 ^ 64 = rw c.frames-next.ensures at c.frames-next.type_inv in
    let written : c.deref-2.result.now ≡ frame_of (length frames, c.args.payload.now) =
    c.deref-2.ensures.value ∙ c.in-Ok-frame_of.ensures
    ∙ ap (λ (n : ℕ). frame_of (n, c.args.payload.now)) c.frames-next.ensures in
    let more_is : log_frames c.append.new.self
    ≡ with_frame frames (frame_of (length frames, c.args.payload.now)) =
    c.in-Ok-append.ensures.ok.1 ∙ ap (with_frame frames) written in
    finds_payloads (log_frames c.append.new.self) (kept_payloads (log_frames c.append.new.self))
    image
    (found_kept frames c.self.inside.balances c.self.invariant c.args.payload.now fits
    (log_frames c.append.new.self) more_is)
    (c.in-Ok-append.ensures.on_disk image is)

pub returns-in-Ok-append-clause-any_moment : goal.returns-in-Ok-append-clause-any_moment
returns-in-Ok-append-clause-any_moment g c =
    let frames = log_frames c.self.inside.log in
    let old = g.D.Disk.state (log_disk c.self.inside.log) in
    let new = g.D.Disk.state (log_disk c.append.new.self) in
    let calm : has_failed c.self.inside.log ≡ false =
    ap (λ (s : Ledger g.row.D.Denot). s.failed) c.self.view_is ∙ c.requires in
    let fits : length frames < 2 ^ 64 = rw c.frames-next.ensures at c.frames-next.type_inv in
    let written : c.deref-2.result.now ≡ frame_of (length frames, c.args.payload.now) =
    c.deref-2.ensures.value ∙ c.in-Ok-frame_of.ensures
    ∙ ap (λ (n : ℕ). frame_of (n, c.args.payload.now)) c.frames-next.ensures in
    rw (← c.self.view_is)
    (any_moment frames c.self.inside.balances c.self.invariant c.args.payload.now fits old new
    (subst (λ (f : List ℕ). LeavesOnly old new (FindsWithOrWithout frames f)) written
    (c.append.ensures.any_moment calm)))

pub returns-in-Ok-append-clause-appended : goal.returns-in-Ok-append-clause-appended
returns-in-Ok-append-clause-appended g c =
    let frames = log_frames c.self.inside.log in
    let fits : length frames < 2 ^ 64 = rw c.frames-next.ensures at c.frames-next.type_inv in
    let written : c.deref-2.result.now ≡ frame_of (length frames, c.args.payload.now) =
    c.deref-2.ensures.value ∙ c.in-Ok-frame_of.ensures
    ∙ ap (λ (n : ℕ). frame_of (n, c.args.payload.now)) c.frames-next.ensures in
    let more_is : log_frames c.append.new.self
    ≡ with_frame frames (frame_of (length frames, c.args.payload.now)) =
    c.in-Ok-append.ensures.ok.1 ∙ ap (with_frame frames) written in
    let both = rw written at c.in-Ok-append.ensures.appended in
    rw (
      ← c.self.view_is,
      as_many frames c.self.inside.balances c.self.invariant,
      ← written_more frames c.self.inside.balances c.self.invariant c.args.payload.now fits
          (log_frames c.append.new.self) more_is,
      ← c.self.invariant.written,
    )
    both

pub returns-clause-any_moment : goal.returns-clause-any_moment
returns-clause-any_moment g c =
    let frames = log_frames c.self.inside.log in
    let old = g.D.Disk.state (log_disk c.self.inside.log) in
    let new = g.D.Disk.state (log_disk c.append.new.self) in
    let calm : has_failed c.self.inside.log ≡ false =
    ap (λ (s : Ledger g.row.D.Denot). s.failed) c.self.view_is ∙ c.requires in
    let fits : length frames < 2 ^ 64 = rw c.frames-next.ensures at c.frames-next.type_inv in
    let written : c.deref-2.result.now ≡ frame_of (length frames, c.args.payload.now) =
    c.deref-2.ensures.value ∙ c.in-Ok-frame_of.ensures
    ∙ ap (λ (n : ℕ). frame_of (n, c.args.payload.now)) c.frames-next.ensures in
    rw (← c.self.view_is)
    (any_moment frames c.self.inside.balances c.self.invariant c.args.payload.now fits old new
    (subst (λ (f : List ℕ). LeavesOnly old new (FindsWithOrWithout frames f)) written
    (c.append.ensures.any_moment calm)))

pub returns-clause-cut_short : goal.returns-clause-cut_short
returns-clause-cut_short g c is =
    let frames = log_frames c.self.inside.log in
    let written : c.deref-2.result.now ≡ frame_of (length frames, c.args.payload.now) =
    c.deref-2.ensures.value ∙ c.in-Ok-frame_of.ensures
    ∙ ap (λ (n : ℕ). frame_of (n, c.args.payload.now)) c.frames-next.ensures in
    let same : log_frames c.append.new.self ≡ frames = c.in-Err-append.ensures.err in
    let cut = rw (written, same) at (c.in-Err-append.ensures.cut_short is) in
    rw (
      ← c.self.view_is,
      same,
      as_many frames c.self.inside.balances c.self.invariant,
      ← c.self.invariant.written,
    )
    cut

pub returns-clause-calls_no_memory : goal.returns-clause-calls_no_memory
returns-clause-calls_no_memory g c is =
    let frames = log_frames c.self.inside.log in
    let written : c.deref-2.result.now ≡ frame_of (length frames, c.args.payload.now) =
    c.deref-2.ensures.value ∙ c.in-Ok-frame_of.ensures
    ∙ ap (λ (n : ℕ). frame_of (n, c.args.payload.now)) c.frames-next.ensures in
    let front = rw written at (c.in-Err-append.ensures.calls_no_memory is) in
    rw (← c.self.view_is, as_many frames c.self.inside.balances c.self.invariant) front
