use Rattle.std.proofs.Common.{◌≡◌, IfOk, Ok, Result, subst}
use Rattle.rs_code.proofs.striped.run_with_room.Goals as goal

-- what is said of an Ok is true of what it holds
held : {B E : Type 0} (r : Result B E) (x : B) (P : B → Type 0) → IfOk r P → r ≡ Ok x → P x
held {B} {E} r x P h e = subst (λ (q : Result B E). IfOk q P) e h

pub join_mut-room-requires-after_bounds : goal.join_mut-room-requires-after_bounds
join_mut-room-requires-after_bounds g c κs within = (
  c.requires.size,
  (
    (
      record { shared = c.type_bounds.sync-R.shared },
      c.requires.rows,
      c.requires.even,
      c.requires.fits,
      c.requires.room,
      c.requires.some_stripes,
    ),
    (
      record { shared = c.type_bounds.sync-R.shared },
      record { shared = c.type_bounds.sync-S.shared },
    ),
  ),
)

pub returns-clause-count : goal.returns-clause-count
returns-clause-count g c =
    let both =
    held c.join_mut-room.result.1 c.in_ok-stripes.stripes _ c.join_mut-room.ensures.1.met.1
    c.in_ok-stripes.was in
    both.0

pub returns-clause-stripes : goal.returns-clause-stripes
returns-clause-stripes g c =
    let both =
    held c.join_mut-room.result.1 c.in_ok-stripes.stripes _ c.join_mut-room.ensures.1.met.1
    c.in_ok-stripes.was in
    both.1

pub returns-clause-room : goal.returns-clause-room
returns-clause-room g c =
    held c.join_mut-room.result.0 c.in_ok-room.room _ c.join_mut-room.ensures.0.met.1
    c.in_ok-room.was
