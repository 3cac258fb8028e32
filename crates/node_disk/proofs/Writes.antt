-- The writes since the last sync.
use Rattle.std.proofs.Common.{◌≡◌, ℕ, List, [], ◌∷◌, ◌++◌, Bool, true, false, map, refl, sym, ◌∙◌, ap, subst}
use Rattle.std.proofs.lemmas.List.{map-append}
use Rattle.node_disk.specs.declared.record.Outcome.{Outcome}
use Rattle.node_disk.specs.declared.record.Outcome.TheVariants.{Done}
use Rattle.node_disk.specs.declared.record.Pending.{Pending}
use Rattle.node_disk.specs.Record.{Written, Held, Write, done_writes, write_of, effect}

pub done_push : (writes : List Written) (place : ℕ) (bytes : List ℕ)
    → done_writes (writes ++ record { place = place; bytes = bytes; done = true } ∷ [])
    ≡ done_writes writes ++ (place, bytes) ∷ []
done_push [] place bytes = refl
done_push (w ∷ writes) place bytes = by_done w.done refl (done_push writes place bytes)
  where
    by_done : (b : Bool) → w.done ≡ b
        → done_writes (writes ++ record { place = place; bytes = bytes; done = true } ∷ [])
        ≡ done_writes writes ++ (place, bytes) ∷ []
        → done_writes (w ∷ (writes ++ record { place = place; bytes = bytes; done = true } ∷ []))
        ≡ done_writes (w ∷ writes) ++ (place, bytes) ∷ []
    by_done true is so = cc
    by_done false is so = cc

pub not_done_push : (writes : List Written) (place : ℕ) (bytes : List ℕ)
    → done_writes (writes ++ record { place = place; bytes = bytes; done = false } ∷ [])
    ≡ done_writes writes
not_done_push [] place bytes = refl
not_done_push (w ∷ writes) place bytes = by_done w.done refl (not_done_push writes place bytes)
  where
    by_done : (b : Bool) → w.done ≡ b
        → done_writes (writes ++ record { place = place; bytes = bytes; done = false } ∷ [])
        ≡ done_writes writes
        → done_writes (w ∷ (writes ++ record { place = place; bytes = bytes; done = false } ∷ []))
        ≡ done_writes (w ∷ writes)
    by_done true is so = cc
    by_done false is so = cc

pub ruleset done_pushes = (done_push, not_done_push)

pub done_case : (held : Held) (outcome : Outcome) (place : ℕ) (new : List ℕ)
    (old now : List Pending) (p : Pending)
    → outcome ≡ Done → now ≡ old ++ p ∷ [] → write_of p ≡ (place, new)
    → map write_of old ≡ done_writes held.writes
    → map write_of now ≡ done_writes (effect held (Write place new) outcome).writes
done_case held outcome place new old now p done pushed same so_far =
    subst (λ (o : Outcome). map write_of now ≡ done_writes (effect held (Write place new) o).writes)
    (sym done)
    (ap (map write_of) pushed ∙ map-append write_of old (p ∷ [])
    ∙ ap (λ (l : List (ℕ × List ℕ)). l ++ write_of p ∷ []) so_far
    ∙ ap (λ (w : ℕ × List ℕ). done_writes held.writes ++ w ∷ []) same
    ∙ sym (done_push held.writes place new))
