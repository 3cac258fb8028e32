use Rattle.std.proofs.Common.{◌≡◌, ◌++◌, [], ◌∷◌, ap, rules}
use Rattle.node_disk.specs.declared.record.Pending.{Pending}
use Rattle.node_disk.proofs.Writes.{done_case}
use Rattle.node_disk.proofs.effects.change_by_write.Goals as goal

pub returns-in_ok-put_bytes-in-Done-clause-unsynced : goal.returns-in_ok-put_bytes-in-Done-clause-unsynced
returns-in_ok-put_bytes-in-Done-clause-unsynced c held e =
    let p : Pending = record { place = c.args.place; bytes = c.in_ok-kept-in-Done.kept } in
    let kept : c.in_ok-kept-in-Done.kept.items ≡ c.args.new.now = search rules in
    let pushed : c.push.new.self.items ≡ c.args.pending.now.items ++ p ∷ [] = search rules in
    done_case held c.args.outcome c.args.place c.args.new.now c.args.pending.now.items
    c.push.new.self.items p c.in-Done.is pushed (ap (λ b. (c.args.place, b)) kept) e
