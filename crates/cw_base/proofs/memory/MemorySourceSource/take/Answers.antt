use Rattle.std.proofs.Common.{ℕ, ◌+◌, ◌≤◌, drop, length, arith, sym, ◌∙◌, ap}
use Rattle.std.proofs.lemmas.List.{length-drop, length-append, length-take, drop_all, take_rest, drop-drop}
use Rattle.cw_base.specs.Memory.{SourceState}
use Rattle.cw_base.proofs.Lists.{read_front}
use Rattle.cw_base.proofs.memory.MemorySourceSource.take.Goals as goal

pub returns-clause-bytes : goal.returns-clause-bytes
returns-clause-bytes c =
    let n = c.min-count.result in
    let at = c.self.inside.at in
    let bytes = c.self.inside.bytes.items in
    let whole = take_rest bytes at in
    let d = c.deref-2.ensures.value in
    let count = rw (d, whole) at c.min-count.ensures in
    let front = rw (d, whole) at c.copy_from_slice.ensures.after in
    let within : n ≤ length (drop at bytes) = omega (arith, count) in (
      sym (ap (λ (s : SourceState). s.left) c.self.view_is)
          ∙ read_front (drop at bytes) _ _ _ n front (sym (drop-drop n at bytes)) within,
      λ none room. drop_all (at + n) bytes
          (omega (
            arith,
            c.self.invariant,
            c.copy_from_slice.ensures.len,
            count,
            c.min.ensures,
            length-drop {A = ℕ},
            length-append {A = ℕ},
            length-take {A = ℕ},
          )),
    )
