-- Where each member stands, place by place.
use Rattle.std.proofs.Common.{◌≡◌, ℕ, zero, suc, ◌+◌, ◌<◌, ◌≤◌, List, [], ◌∷◌, ◌++◌, length, drop, get_or, Option, Some, None, refl, sym, ap, ◌∙◌, arith, subst, append_assoc, append-nil}
use Rattle.std.specs.Prelude.{filter_map, slice_get}
use Rattle.std.specs.List.{enumerate_from}
use Rattle.std.proofs.lemmas.List.{drop_all}
use Rattle.cw_rules.specs.Report.{Acked, acked_at}
use Rattle.cw_rules.specs.Rules.{Rules}
use Rattle.cw_rules.specs.Step.{Member}
use Rattle.hail_world.specs.declared.place.Place.{Place}
use Rattle.hail_world.specs.Offers.{some_of}
use Rattle.hail_world.specs.Places.{SitAs, WorkBy, SitsAs, WorksBy}
use Rattle.hail_world.specs.MemoryNodes.{MemoryNode}
use Rattle.hail_world.proofs.Playing.{HasMember, member_in, sit_as_many, sound_at}

-- what the places from a number on come to stands behind what the others came to
abbrev pub StandSo : ℕ → List (Place MemoryNode) → List Acked → Type 0
StandSo n places acked =
    (r : Rules) (os : List (Option Member)) → WorkBy r 0 places → SitAs places os
    → acked ++ filter_map acked_at (enumerate_from n (drop n os))
    ≡ filter_map acked_at (enumerate_from 0 os)

first_of_some : (i : ℕ) (o : Option Member) (rest : List (ℕ × Option Member)) (a : Option Acked)
    → acked_at (i, o) ≡ a
    → filter_map acked_at ((i, o) ∷ rest) ≡ some_of a ++ filter_map acked_at rest
first_of_some i o rest None e = rw e refl
first_of_some i o rest (Some a) e = rw e refl

drop_got : (os : List (Option Member)) (i : ℕ) (o : Option Member) → slice_get os i ≡ Some o
    → drop i os ≡ o ∷ drop (i + 1) os
drop_got [] i o e = absurd (let no : None ≡ Some o = e in cc)
drop_got (x ∷ os) zero o e =
    let same : x ≡ o = (let s : Some x ≡ Some o = e in cc) in
    ap (λ (y : Option Member). y ∷ os) same
drop_got (x ∷ os) (suc i) o e =
    let n : suc i + 1 ≡ suc (i + 1) = omega arith in rw n (drop_got os i o e)

pub stand_next : (i : ℕ) (places : List (Place MemoryNode)) (d p : Place MemoryNode)
    (acked more : List Acked)
    (one : Option Acked)
    → StandSo i places acked → i < length places → p ≡ get_or places i d
    → ((r : Rules) (o : Option Member) → WorksBy r i p → SitsAs p o → one ≡ acked_at (i, o))
    → more ≡ acked ++ some_of one → StandSo (i + 1) places more
stand_next i places d p acked more one inv lt is gives adds r os sound members =
    let none : 0 + i ≡ i = omega arith in
    let at = member_in places os i d members lt in
    let there : WorksBy r i p =
    rw is
    (subst (λ (k : ℕ). WorksBy r k (get_or places i d)) none
    (sound_at r 0 places i d sound lt)) in
    let who : SitsAs p at.member = rw is at.is in
    let mine : acked_at (i, at.member) ≡ one = sym (gives r at.member there who) in
    let tail : List Acked = filter_map acked_at (enumerate_from (i + 1) (drop (i + 1) os)) in
    let split : filter_map acked_at (enumerate_from i (drop i os)) ≡ some_of one ++ tail =
    ap (λ (l : List (Option Member)). filter_map acked_at (enumerate_from i l))
    (drop_got os i at.member at.there)
    ∙ first_of_some i at.member (enumerate_from (i + 1) (drop (i + 1) os)) one mine in
    ap (λ (l : List Acked). l ++ tail) adds ∙ append_assoc acked (some_of one) tail
    ∙ ap (λ (l : List Acked). acked ++ l) (sym split) ∙ inv r os sound members

pub stand_all : (i : ℕ) (places : List (Place MemoryNode)) (acked : List Acked)
    → StandSo i places acked
    → length places ≤ i → (r : Rules) (os : List (Option Member)) → WorkBy r 0 places
    → SitAs places os → acked ≡ filter_map acked_at (enumerate_from 0 os)
stand_all i places acked inv past r os sound members =
    let count = sit_as_many places os members in
    let none : drop i os ≡ [] = drop_all i os (omega (arith, count)) in
    sym (append-nil acked)
    ∙ ap (λ (l : List (Option Member)). acked ++ filter_map acked_at (enumerate_from i l))
    (sym none)
    ∙ inv r os sound members
