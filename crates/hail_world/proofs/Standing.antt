-- What a member came to, note by note, and the highest block, list by list.
use Rattle.std.proofs.Common.{◌≡◌, ℕ, ◌+◌, ◌<◌, Bool, List, [], ◌∷◌, ◌++◌, length, take, drop, get_or, Option, Some, None, refl, sym, ap, ◌∙◌, arith}
use Rattle.std.specs.Prelude.{filter_map, flat_map, if◌then◌else◌, nat_lt}
use Rattle.std.specs.List.{last_or}
use Rattle.std.proofs.lemmas.List.Elements.{filter_map-append}
use Rattle.cw_types.specs.declared.event.Handed.{Handed}
use Rattle.cw_types.specs.declared.note.Note.{Note}
use Rattle.cw_rules.specs.Held.{acked_height, last_ack}
use Rattle.cw_rules.specs.Report.{Entry}
use Rattle.hail_world.specs.Runs.{acked_with, higher}

last_append : {X : Type 0} (o : Option X) (xs ys : List X)
    → last_or o (xs ++ ys) ≡ last_or (last_or o xs) ys
last_append o [] ys = refl
last_append o (x ∷ xs) ys = last_append (Some x) xs ys

one_ack : (last : Option ℕ) (x : Note)
    → last_or last (filter_map acked_height (x ∷ [])) ≡ acked_with last x
one_ack last (Note.Block c b) = refl
one_ack last (Note.Verified e v c) = refl
one_ack last (Note.Certified p) = refl
one_ack last (Note.Vote v) = refl
one_ack last (Note.Cert c) = refl
one_ack last (Note.Ack h) = refl
one_ack last (Note.Floor h) = refl
one_ack last (Note.Prune h) = refl
one_ack last (Note.Epoch e c) = refl

pub acks_more : (notes : List Note) (x : Note)
    → acked_with (last_ack notes) x ≡ last_ack (notes ++ x ∷ [])
acks_more notes x =
    sym (one_ack (last_ack notes) x)
    ∙ sym (last_append None (filter_map acked_height notes) (filter_map acked_height (x ∷ [])))
    ∙ sym (ap (λ (l : List ℕ). last_or None l) (filter_map-append acked_height notes (x ∷ [])))

pub higher_on : (best : Option Handed) (xs ys : List Handed)
    → higher (higher best xs) ys ≡ higher best (xs ++ ys)
higher_on best [] ys = refl
higher_on None (x ∷ xs) ys = higher_on (Some x) xs ys
higher_on (Some b) (x ∷ xs) ys = higher_on (Some (if nat_lt b.height x.height then x else b)) xs ys
