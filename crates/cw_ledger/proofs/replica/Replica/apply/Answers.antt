use Rattle.std.proofs.Common.{◌≡◌, ◌∙◌, ℕ, List, length, refl, ap, sym, subst, false, arith, rules}
use Rattle.node_disk.specs.Disk.{IsFront, LeavesOnly}
use Rattle.node_disk.specs.Log.{HasAppended, WasCutShort, calls_of_append}
use Rattle.node_disk.specs.RecordWords.{log_frames}
use Rattle.cw_ledger.specs.Frames.{FindsEither}
use Rattle.cw_ledger.specs.Ledger.{Ledger, replica_log, replica_over}
use Rattle.cw_ledger.proofs.Applying.{is_gap, is_known, is_next, same_error}
use Rattle.cw_ledger.specs.declared.replica.Applied.{Applied}
use Rattle.node_disk.specs.declared.log.StoreError.TheVariants as store
use Rattle.cw_ledger.proofs.Loading.{as_many}
use Rattle.cw_ledger.proofs.replica.Replica.apply.Goals as goal

pub returns-then-height-next-clause-answer : goal.returns-then-height-next-clause-answer
returns-then-height-next-clause-answer g c =
    let counted : c.frames-next.result ≡ length c.args.self.now.payloads =
    c.frames-next.ensures
    ∙ sym (as_many (log_frames c.self.inside.log) c.self.inside.balances c.self.invariant)
    ∙ ap (λ (s : Ledger g.row.D.Denot). length s.payloads) c.self.view_is in
    let does =
    is_known c.args.self.now.payloads c.args.block.now c.frames-next.result
    c.height-height.result counted c.height-height.ensures.value c.if-height-next.true in
    does.answers

pub returns-then-height-next-clause-ok : goal.returns-then-height-next-clause-ok
returns-then-height-next-clause-ok g c =
    let counted : c.frames-next.result ≡ length c.args.self.now.payloads =
    c.frames-next.ensures
    ∙ sym (as_many (log_frames c.self.inside.log) c.self.inside.balances c.self.invariant)
    ∙ ap (λ (s : Ledger g.row.D.Denot). length s.payloads) c.self.view_is in
    let does =
    is_known c.args.self.now.payloads c.args.block.now c.frames-next.result
    c.height-height.result counted c.height-height.ensures.value c.if-height-next.true in
    subst
    (λ (ps : List (List ℕ)). c.args.self.now
    ≡ record (replica_over c.args.self.now c.args.self.now) { payloads = ps })
    does.leaves refl

pub returns-then-height-next-clause-appended : goal.returns-then-height-next-clause-appended
returns-then-height-next-clause-appended g c =
    let counted : c.frames-next.result ≡ length c.args.self.now.payloads =
    c.frames-next.ensures
    ∙ sym (as_many (log_frames c.self.inside.log) c.self.inside.balances c.self.invariant)
    ∙ ap (λ (s : Ledger g.row.D.Denot). length s.payloads) c.self.view_is in
    let does =
    is_known c.args.self.now.payloads c.args.block.now c.frames-next.result
    c.height-height.result counted c.height-height.ensures.value c.if-height-next.true in
    let works : c.args.self.now.failed ≡ false = search rules in
    subst
    (λ (frame : List ℕ). HasAppended g.D.Disk.state g.D.Disk.continues frame
    (replica_log c.args.self.now) (replica_log c.args.self.now))
    does.writes (c.rests.ensures.nothing works)

pub returns-then-next-height-clause-answer : goal.returns-then-next-height-clause-answer
returns-then-next-height-clause-answer g c =
    let counted : c.frames-next.result ≡ length c.args.self.now.payloads =
    c.frames-next.ensures
    ∙ sym (as_many (log_frames c.self.inside.log) c.self.inside.balances c.self.invariant)
    ∙ ap (λ (s : Ledger g.row.D.Denot). length s.payloads) c.self.view_is in
    let does =
    is_gap c.args.self.now.payloads c.args.block.now c.frames-next.result c.height-height.result
    counted c.height-height.ensures.value c.if-next-height.true in
    does.answers

pub returns-then-next-height-clause-ok : goal.returns-then-next-height-clause-ok
returns-then-next-height-clause-ok g c =
    let counted : c.frames-next.result ≡ length c.args.self.now.payloads =
    c.frames-next.ensures
    ∙ sym (as_many (log_frames c.self.inside.log) c.self.inside.balances c.self.invariant)
    ∙ ap (λ (s : Ledger g.row.D.Denot). length s.payloads) c.self.view_is in
    let does =
    is_gap c.args.self.now.payloads c.args.block.now c.frames-next.result c.height-height.result
    counted c.height-height.ensures.value c.if-next-height.true in
    subst
    (λ (ps : List (List ℕ)). c.args.self.now
    ≡ record (replica_over c.args.self.now c.args.self.now) { payloads = ps })
    does.leaves refl

pub returns-then-next-height-clause-appended : goal.returns-then-next-height-clause-appended
returns-then-next-height-clause-appended g c =
    let counted : c.frames-next.result ≡ length c.args.self.now.payloads =
    c.frames-next.ensures
    ∙ sym (as_many (log_frames c.self.inside.log) c.self.inside.balances c.self.invariant)
    ∙ ap (λ (s : Ledger g.row.D.Denot). length s.payloads) c.self.view_is in
    let does =
    is_gap c.args.self.now.payloads c.args.block.now c.frames-next.result c.height-height.result
    counted c.height-height.ensures.value c.if-next-height.true in
    let works : c.args.self.now.failed ≡ false = search rules in
    subst
    (λ (frame : List ℕ). HasAppended g.D.Disk.state g.D.Disk.continues frame
    (replica_log c.args.self.now) (replica_log c.args.self.now))
    does.writes (c.rests.ensures.nothing works)

pub returns-in-Ok-clause-answer : goal.returns-in-Ok-clause-answer
returns-in-Ok-clause-answer g c =
    let counted : c.frames-next.result ≡ length c.args.self.now.payloads =
    c.frames-next.ensures
    ∙ sym (as_many (log_frames c.self.inside.log) c.self.inside.balances c.self.invariant)
    ∙ ap (λ (s : Ledger g.row.D.Denot). length s.payloads) c.self.view_is in
    let does =
    is_next c.args.self.now.payloads c.args.block.now c.frames-next.result
    c.height-height.result counted c.height-height.ensures.value c.bytes.result.now
    (c.bytes.ensures.value ∙ c.payload.ensures) (λ lt. omega arith) (λ lt. omega arith) in
    does.answers

pub returns-in-Ok-clause-ok : goal.returns-in-Ok-clause-ok
returns-in-Ok-clause-ok g c =
    let counted : c.frames-next.result ≡ length c.args.self.now.payloads =
    c.frames-next.ensures
    ∙ sym (as_many (log_frames c.self.inside.log) c.self.inside.balances c.self.invariant)
    ∙ ap (λ (s : Ledger g.row.D.Denot). length s.payloads) c.self.view_is in
    let does =
    is_next c.args.self.now.payloads c.args.block.now c.frames-next.result
    c.height-height.result counted c.height-height.ensures.value c.bytes.result.now
    (c.bytes.ensures.value ∙ c.payload.ensures) (λ lt. omega arith) (λ lt. omega arith) in
    subst
    (λ (ps : List (List ℕ)). c.add.new.self
    ≡ record (replica_over c.args.self.now c.add.new.self) { payloads = ps })
    does.leaves c.in-Ok.ensures.ok

pub returns-in-Ok-clause-any_moment : goal.returns-in-Ok-clause-any_moment
returns-in-Ok-clause-any_moment g c works =
    let counted : c.frames-next.result ≡ length c.args.self.now.payloads =
    c.frames-next.ensures
    ∙ sym (as_many (log_frames c.self.inside.log) c.self.inside.balances c.self.invariant)
    ∙ ap (λ (s : Ledger g.row.D.Denot). length s.payloads) c.self.view_is in
    let does =
    is_next c.args.self.now.payloads c.args.block.now c.frames-next.result
    c.height-height.result counted c.height-height.ensures.value c.bytes.result.now
    (c.bytes.ensures.value ∙ c.payload.ensures) (λ lt. omega arith) (λ lt. omega arith) in
    subst
    (λ (ps : List (List ℕ)). LeavesOnly (g.D.Disk.state c.args.self.now.disk)
    (g.D.Disk.state c.add.new.self.disk) (FindsEither c.args.self.now.payloads ps))
    does.leaves c.add.ensures.any_moment

pub returns-in-Ok-clause-appended : goal.returns-in-Ok-clause-appended
returns-in-Ok-clause-appended g c =
    let counted : c.frames-next.result ≡ length c.args.self.now.payloads =
    c.frames-next.ensures
    ∙ sym (as_many (log_frames c.self.inside.log) c.self.inside.balances c.self.invariant)
    ∙ ap (λ (s : Ledger g.row.D.Denot). length s.payloads) c.self.view_is in
    let does =
    is_next c.args.self.now.payloads c.args.block.now c.frames-next.result
    c.height-height.result counted c.height-height.ensures.value c.bytes.result.now
    (c.bytes.ensures.value ∙ c.payload.ensures) (λ lt. omega arith) (λ lt. omega arith) in
    subst
    (λ (frame : List ℕ). HasAppended g.D.Disk.state g.D.Disk.continues frame
    (replica_log c.args.self.now) (replica_log c.add.new.self))
    does.writes c.in-Ok.ensures.appended

pub returns-in-Err-clause-any_moment : goal.returns-in-Err-clause-any_moment
returns-in-Err-clause-any_moment g c works =
    let counted : c.frames-next.result ≡ length c.args.self.now.payloads =
    c.frames-next.ensures
    ∙ sym (as_many (log_frames c.self.inside.log) c.self.inside.balances c.self.invariant)
    ∙ ap (λ (s : Ledger g.row.D.Denot). length s.payloads) c.self.view_is in
    let does =
    is_next c.args.self.now.payloads c.args.block.now c.frames-next.result
    c.height-height.result counted c.height-height.ensures.value c.bytes.result.now
    (c.bytes.ensures.value ∙ c.payload.ensures) (λ lt. omega arith) (λ lt. omega arith) in
    subst
    (λ (ps : List (List ℕ)). LeavesOnly (g.D.Disk.state c.args.self.now.disk)
    (g.D.Disk.state c.add.new.self.disk) (FindsEither c.args.self.now.payloads ps))
    does.leaves c.add.ensures.any_moment

pub returns-in-Err-clause-cut_short : goal.returns-in-Err-clause-cut_short
returns-in-Err-clause-cut_short g c is =
    let counted : c.frames-next.result ≡ length c.args.self.now.payloads =
    c.frames-next.ensures
    ∙ sym (as_many (log_frames c.self.inside.log) c.self.inside.balances c.self.invariant)
    ∙ ap (λ (s : Ledger g.row.D.Denot). length s.payloads) c.self.view_is in
    let does =
    is_next c.args.self.now.payloads c.args.block.now c.frames-next.result
    c.height-height.result counted c.height-height.ensures.value c.bytes.result.now
    (c.bytes.ensures.value ∙ c.payload.ensures) (λ lt. omega arith) (λ lt. omega arith) in
    subst
    (λ (frame : List ℕ). WasCutShort g.D.Disk.state g.D.Disk.continues frame
    (replica_log c.args.self.now) (replica_log c.add.new.self))
    does.writes
    (c.in-Err.ensures.cut_short
    (same_error {X = Applied} {Y = Unit {0}} c.in-Err.error store.Disk is))

pub returns-in-Err-clause-calls_no_memory : goal.returns-in-Err-clause-calls_no_memory
returns-in-Err-clause-calls_no_memory g c is =
    let counted : c.frames-next.result ≡ length c.args.self.now.payloads =
    c.frames-next.ensures
    ∙ sym (as_many (log_frames c.self.inside.log) c.self.inside.balances c.self.invariant)
    ∙ ap (λ (s : Ledger g.row.D.Denot). length s.payloads) c.self.view_is in
    let does =
    is_next c.args.self.now.payloads c.args.block.now c.frames-next.result
    c.height-height.result counted c.height-height.ensures.value c.bytes.result.now
    (c.bytes.ensures.value ∙ c.payload.ensures) (λ lt. omega arith) (λ lt. omega arith) in
    subst
    (λ (frame : List ℕ). IsFront (calls_of_append c.args.self.now.gate frame)
    (g.D.Disk.state c.args.self.now.disk) (g.D.Disk.state c.add.new.self.disk))
    does.writes
    (c.in-Err.ensures.calls_no_memory
    (same_error {X = Applied} {Y = Unit {0}} c.in-Err.error store.NoMemory is))
