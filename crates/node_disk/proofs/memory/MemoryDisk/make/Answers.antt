use Rattle.std.proofs.Common.{◌≡◌, ◌++◌, [], ◌∷◌, length, map, false, refl, sym, ◌∙◌, ap, subst, rules}
use Rattle.node_disk.specs.Record.{has_succeeded, held_after, outcome_at, recorded_of, request_of}
use Rattle.node_disk.specs.Memory.{MemoryState, HasCalled, next_outcome}
use Rattle.node_disk.specs.declared.record.Call.{Call}
use Rattle.node_disk.proofs.Called.{called_by, keeps_now, outcome_was}
use Rattle.node_disk.proofs.memory.MemoryDisk.make.Goals as goal

pub invariant_of-self-2 : goal.invariant_of-self-2
invariant_of-self-2 c =
    let m = c.self.inside in
    let o = c.outcome_of-outcome.result in
    let old : MemoryState =
    record {
      calls = map recorded_of m.calls.items;
      reopened = m.reopened;
      stop = m.stop;
      failing = m.failing.items;
      faults = m.faults;
      tries = m.tries;
    } in
    let new : MemoryState =
    record {
      calls = map recorded_of c.add_call.new.calls.items;
      reopened = false;
      stop = m.stop;
      failing = m.failing.items;
      faults = m.faults;
      tries = m.tries;
    } in
    let call : Call = record { reopened = m.reopened; action = c.args.action; outcome = o } in
    let pushed : c.add_call.new.calls.items ≡ m.calls.items ++ call ∷ [] = search rules in
    let known : o ≡ outcome_at m.stop m.failing.items (length m.calls.items) = search rules in
    let called : HasCalled (request_of c.args.action) old new =
    called_by (request_of c.args.action) m.calls.items c.add_call.new.calls.items call old new
    pushed refl known refl refl refl refl refl refl in
    keeps_now (request_of c.args.action) old new called o c.change.new.bytes.items _ m.calls.items
    known refl
    (c.in_default.ensures.seen (held_after old.calls old.reopened) c.self.invariant.seen
    c.self.invariant.unsynced)
    (c.in_default.ensures.unsynced (held_after old.calls old.reopened)
    c.self.invariant.unsynced)

pub returns-clause-called : goal.returns-clause-called
returns-clause-called c =
    let m = c.self.inside in
    let o = c.outcome_of-outcome.result in
    let old : MemoryState =
    record {
      calls = map recorded_of m.calls.items;
      reopened = m.reopened;
      stop = m.stop;
      failing = m.failing.items;
      faults = m.faults;
      tries = m.tries;
    } in
    let new : MemoryState =
    record {
      calls = map recorded_of c.add_call.new.calls.items;
      reopened = false;
      stop = m.stop;
      failing = m.failing.items;
      faults = m.faults;
      tries = m.tries;
    } in
    let call : Call = record { reopened = m.reopened; action = c.args.action; outcome = o } in
    let pushed : c.add_call.new.calls.items ≡ m.calls.items ++ call ∷ [] = search rules in
    let known : o ≡ outcome_at m.stop m.failing.items (length m.calls.items) = search rules in
    let called : HasCalled (request_of c.args.action) old new =
    called_by (request_of c.args.action) m.calls.items c.add_call.new.calls.items call old new
    pushed refl known refl refl refl refl refl refl in
    subst (λ (s : MemoryState). HasCalled (request_of c.args.action) s new) c.self.view_is called

pub returns-clause-done : goal.returns-clause-done
returns-clause-done c =
    let m = c.self.inside in
    let o = c.outcome_of-outcome.result in
    let old : MemoryState =
    record {
      calls = map recorded_of m.calls.items;
      reopened = m.reopened;
      stop = m.stop;
      failing = m.failing.items;
      faults = m.faults;
      tries = m.tries;
    } in
    let new : MemoryState =
    record {
      calls = map recorded_of c.add_call.new.calls.items;
      reopened = false;
      stop = m.stop;
      failing = m.failing.items;
      faults = m.faults;
      tries = m.tries;
    } in
    let call : Call = record { reopened = m.reopened; action = c.args.action; outcome = o } in
    let pushed : c.add_call.new.calls.items ≡ m.calls.items ++ call ∷ [] = search rules in
    let known : o ≡ outcome_at m.stop m.failing.items (length m.calls.items) = search rules in
    let called : HasCalled (request_of c.args.action) old new =
    called_by (request_of c.args.action) m.calls.items c.add_call.new.calls.items call old new
    pushed refl known refl refl refl refl refl refl in
    c.has_succeeded.ensures
    ∙ sym
    (outcome_was (request_of c.args.action) old new called o m.calls.items (has_succeeded o) known
    refl
    refl)
    ∙ ap (λ (s : MemoryState). has_succeeded (next_outcome s)) c.self.view_is
