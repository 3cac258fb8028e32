-- What was sent, and so can be delivered.
use Rattle.std.specs.Prelude.{ℕ, ◌≡◌, Some, slice_get}
use Rattle.cw_types.specs.declared.event.Out.{Out}
use Rattle.cw_rules.specs.World.{Sent, World}

-- the member sent the message, to whom it goes, under this number
pub record IsSent (w : World) (i : ℕ) (o : Out) : Type 0 where
  pub number : ℕ
  pub sent : Sent
  pub there : slice_get w.pool number ≡ Some sent
  pub from : sent.from ≡ i
  pub to : sent.to ≡ o.to
  pub message : sent.message ≡ o.message
