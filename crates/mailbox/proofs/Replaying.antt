-- Replays grow by one turn.
use Rattle.std.proofs.Common.{◌≡◌, ◌++◌, ◌∷◌, List, [], Some, refl, subst, sym}
use Rattle.std.specs.Prelude.{Option}
use Rattle.std.proofs.Math.Logic.{∥∥₁_map}
use Rattle.mailbox.specs.Replay.{IsReplay, IsReplayToSome, Replays}

Replays-append : {S E R : Type 0} (turns : S → E → R → S → Type 0) (from : S) (xs : List (E × R))
    (mid : S) (e : E) (r : R) (to : S)
    → Replays turns from xs mid → turns mid e r to → Replays turns from (xs ++ (e, r) ∷ []) to
Replays-append {S} turns from [] mid e r to same turned =
    let P : S → Type 0 = λ s. turns s e r to in (to, subst P (sym same) turned, refl)
Replays-append turns from (x ∷ xs) mid e r to replayed turned =
    (replayed.0, replayed.1, Replays-append turns replayed.0 xs mid e r to replayed.2 turned)

-- one more turn
pub IsReplay-append : {S E R : Type 0} (turns : S → E → R → S → Type 0) (named : Option S)
    (xs ys : List (E × R)) (mid : S) (e : E) (r : R) (to : S)
    → IsReplay turns named xs mid → turns mid e r to → ys ≡ xs ++ (e, r) ∷ []
    → IsReplay turns named ys to
IsReplay-append turns named xs ys mid e r to replayed turned added =
    rw added
    (∥∥₁_map replayed
    (λ path. (path.0, path.1, Replays-append turns path.0 xs mid e r to path.2 turned)))

-- a replay to a state is one to some state
pub IsReplay-to_some : {S E R : Type 0} (turns : S → E → R → S → Type 0) (named : Option S)
    (xs : List (E × R)) (to : S) → IsReplay turns named xs to → IsReplayToSome turns named xs
IsReplay-to_some turns named xs to replayed = ∥∥₁_map replayed (λ path. (to, path))
