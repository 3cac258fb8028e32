-- A node's start and steps, as the world sees them.
use Rattle.std.proofs.Common.{◌≡◌, ℕ, Bool, true, List, Ok, Err, Result, refl, sym, ap, ◌∙◌}
use Rattle.std.specs.Prelude.{IfOk, IsErrOf, OnOk}
use Rattle.cw_base.specs.declared.hash.Digest32.{Digest32}
use Rattle.cw_types.specs.Epochs.{Epochs}
use Rattle.cw_types.specs.declared.application.AcceptAll.{AcceptAll}
use Rattle.cw_types.specs.declared.event.Event.{Event}
use Rattle.cw_types.specs.declared.event.StepOut.{StepOut}
use Rattle.cw_types.specs.declared.note.Note.{Note}
use Rattle.cw_types.specs.declared.vote.Vote.{Vote}
use Rattle.cw_rules.specs.Rules.{Rules}
use Rattle.cw_rules.specs.Step.{Stepped, start, step}
use Rattle.cw_rules.specs.declared.travel.Travel.{Travel}
use Rattle.cw_rules_coded.specs.Coded.{ruled}
use Rattle.marshal.specs.Frames.{FindsNotes}
use Rattle.node.specs.Disks.{HasFound, HasTried}
use Rattle.node.specs.State.{IsNodeOf, IsSameNode, notes_of_step, stepped}
use Rattle.node_disk.specs.Memory.{Continues, MemoryState, memory_state}
use Rattle.node_disk.specs.declared.log.StoreError.{StoreError}
use Rattle.node_disk.specs.declared.log.StoreError.TheVariants as store
use Rattle.hail_world.specs.MemoryNodes.{HasStarted, HasStepped, MemoryNode, WasStopped, Works, out_of, rules_by}

pub started : (travel : Travel) (hash : List ℕ → Digest32) (id : ℕ) (epochs : Epochs) (backlog : ℕ)
    (app : AcceptAll)
    (frames : List (List Note)) (disk : MemoryState) (new : MemoryNode) (out : StepOut)
    → new.travel ≡ travel → IsNodeOf id epochs backlog app new
    → stepped new.member out ≡ start (rules_by hash new) id new.member.frames → Works new
    → HasFound memory_state Continues new.member.frames disk new.log.disk
    → FindsNotes frames (memory_state disk).now.seen
    → HasStarted (ruled travel hash epochs backlog (λ b a. true)) id frames disk new out
started travel hash id epochs backlog app frames disk new out way is starts works found held =
    let same : new.member.frames ≡ frames =
    (let e : Ok new.member.frames ≡ Ok frames = sym found.found ∙ held in cc) in
    let by : rules_by hash new ≡ ruled travel hash epochs backlog (λ b a. true) =
    rw (way, is.committees, is.pending) refl in
    let all : stepped new.member out ≡ start (ruled travel hash epochs backlog (λ b a. true)) id
    frames =
    starts ∙ ap (λ (r : Rules). start r id new.member.frames) by
    ∙ ap (λ (f : List (List Note)). start (ruled travel hash epochs backlog (λ b a. true)) id f)
    same in
    record {
      rules = by;
      number = is.number;
      member = ap (λ (s : Stepped). s.member) all;
      gives = ap out_of all;
      works = works;
      went_on = found.goes_on;
    }

-- the same node goes by the same rules
by_same : (hash : List ℕ → Digest32) (old new : MemoryNode) → IsSameNode old new
    → rules_by hash new ≡ rules_by hash old
by_same hash old new same = rw (same.travel, same.epochs, same.backlog) refl

pub steps : (hash : List ℕ → Digest32) (signed : ℕ → Vote → Bool) (e : Event) (old new : MemoryNode)
    (result : Result StepOut StoreError)
    → IfOk result
    (λ out. stepped new.member out ≡ step (rules_by hash old) old.id signed old.member e)
    → IsSameNode old new → OnOk result (Works new)
    → HasTried memory_state Continues old.member.frames
    (notes_of_step (rules_by hash old) signed old e) result old.log new.log
    → IfOk result (λ out. HasStepped (rules_by hash old) signed e old new out)
steps hash signed e old new (Ok out) did same works tried =
    record {
      rules = by_same hash old new same;
      id = same.id;
      member = ap (λ (s : Stepped). s.member) did;
      gives = ap out_of did;
      works = works;
      appended = tried.appended;
    }
steps hash signed e old new (Err x) did same works tried = tt

pub stops : (hash : List ℕ → Digest32) (signed : ℕ → Vote → Bool) (e : Event) (old new : MemoryNode)
    (result : Result StepOut StoreError)
    → HasTried memory_state Continues old.member.frames
    (notes_of_step (rules_by hash old) signed old e) result old.log new.log
    → IsErrOf result store.Disk → WasStopped (rules_by hash old) signed e old new
stops hash signed e old new result tried is =
    record { cut = tried.cut_short is; readable = tried.cut_readable is }
