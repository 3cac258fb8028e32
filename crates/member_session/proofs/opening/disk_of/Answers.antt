use Rattle.std.proofs.Common.{◌≡◌, ◌∙◌, ap, ℕ}
use Rattle.node_disk.specs.Host.{HostState}
use Rattle.node_disk.specs.Memory.{MemoryState, memory_state}
use Rattle.member_session.proofs.Begun.{put_first}
use Rattle.member_session.proofs.opening.disk_of.Goals as goal

pub returns-in-Ok : goal.returns-in-Ok
returns-in-Ok c = (
  ap (λ (h : HostState MemoryState). h.waiting) c.new-in-Ok.ensures,
  ap (λ (h : HostState MemoryState). (memory_state h.inner).now.seen) c.new-in-Ok.ensures
      ∙ (c.reopen.ensures.seen
      ∙ (c.in-Ok.ensures.ok.seen
      ∙ put_first (memory_state c.new-inner.result).now.seen c.args.file.now c.new-inner.ensures.empty)),
)
