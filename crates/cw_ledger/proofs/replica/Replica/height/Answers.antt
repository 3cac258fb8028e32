use Rattle.std.proofs.Common.{◌≡◌, ℕ, ◌-◌, ◌==◌, Some, None, cond, Bool, true, false, length, ap, sym, ◌∙◌, refl, rules}
use Rattle.std.proofs.lemmas.Bool.{eqb-true}
use Rattle.node_disk.specs.RecordWords.{log_frames}
use Rattle.cw_ledger.specs.Ledger.{Ledger, last_applied}
use Rattle.cw_ledger.proofs.Loading.{as_many}
use Rattle.cw_ledger.proofs.replica.Replica.height.Goals as goal

some_height : (n m : ℕ) → (n ≡ 0 → ⊥) → n ≡ m → Some (n - 1) ≡ last_applied m
some_height n m some same = go (n == 0) refl ∙ ap last_applied same
  where
    go : (b : Bool) → (n == 0) ≡ b → Some (n - 1) ≡ cond b None (Some (n - 1))
    go true is = absurd (some (eqb-true n 0 is))
    go false is = refl

pub returns-in_default : goal.returns-in_default
returns-in_default g c =
    let some : c.frames.result ≡ 0 → ⊥ = search rules in
    some_height c.frames.result (length c.args.self.now.payloads) some
    (c.frames.ensures
    ∙ sym (as_many (log_frames c.self.inside.log) c.self.inside.balances c.self.invariant)
    ∙ ap (λ (s : Ledger g.row.D.Denot). length s.payloads) c.self.view_is)
