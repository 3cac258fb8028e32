-- Committees that are sound.
use Rattle.std.proofs.Common.{◌≡◌, ℕ, zero, suc, ◌+◌, ◌<◌, ◌≤◌, ◌^◌, ◌&&◌, Bool, true, false, List, [], ◌∷◌, length, get_or, Some, None, refl, arith, nat_lt, nat_le}
use Rattle.std.specs.List.{list_all}
use Rattle.std.specs.Option.{option_map_or}
use Rattle.std.proofs.lemmas.Bool.Decides.{nat_tests}
use Rattle.std.proofs.lemmas.Bool.{and_from, and_parts}
use Rattle.cw_types.specs.Epochs.{Epochs, is_committee, is_sound, rises_from}
use Rattle.hail_script.specs.Grammar as grammar

-- a weaker test
pub all_weaker : {X : Type 0} (p q : X → Bool) → ((x : X) → p x ≡ true → q x ≡ true) → (xs : List X)
    → list_all p xs ≡ true → list_all q xs ≡ true
all_weaker p q f [] h = refl
all_weaker p q f (x ∷ xs) h =
    and_from (q x) (list_all q xs) (f x (and_parts (p x) (list_all p xs) h).0)
    (all_weaker p q f xs (and_parts (p x) (list_all p xs) h).1)

pub all_at : {X : Type 0} (p : X → Bool) (xs : List X) (i : ℕ) (d : X) → list_all p xs ≡ true
    → i < length xs → p (get_or xs i d) ≡ true
all_at p [] i d h lt = absurd (omega arith)
all_at p (x ∷ xs) zero d h lt = (and_parts (p x) (list_all p xs) h).0
all_at p (x ∷ xs) (suc i) d h lt =
    all_at p xs i d (and_parts (p x) (list_all p xs) h).1 (omega arith)

both_all : {X : Type 0} (p q r : X → Bool) → ((x : X) → p x ≡ true → q x ≡ true → r x ≡ true)
    → (xs : List X) → list_all p xs ≡ true → list_all q xs ≡ true → list_all r xs ≡ true
both_all p q r f [] h k = refl
both_all p q r f (x ∷ xs) h k =
    and_from (r x) (list_all r xs)
    (f x (and_parts (p x) (list_all p xs) h).0 (and_parts (q x) (list_all q xs) k).0)
    (both_all p q r f xs (and_parts (p x) (list_all p xs) h).1
    (and_parts (q x) (list_all q xs) k).1)

long_of : (total : ℕ) (list : List ℕ) → is_committee total list ≡ true
    → nat_le 4 (length list) ≡ true
long_of total list h =
    (and_parts (nat_le 4 (length list)) (rises_from 0 list)
    (and_parts (nat_le 4 (length list) && rises_from 0 list)
    (list_all (λ i. nat_lt i total) list) h).0).0

there_of : (total : ℕ) (list : List ℕ) → is_committee total list ≡ true
    → list_all (λ i. nat_lt i total) list ≡ true
there_of total list h =
    (and_parts (nat_le 4 (length list) && rises_from 0 list) (list_all (λ i. nat_lt i total) list)
    h).1

-- members fit two bytes
pub small_members : (total : ℕ) (lists : List (List ℕ)) (i : ℕ) (d : List ℕ) → total < 2 ^ 16
    → list_all (is_committee total) lists ≡ true → i < length lists
    → list_all (λ i. nat_lt i (2 ^ 16)) (get_or lists i d) ≡ true
small_members total lists i d few h lt =
    all_weaker (λ i. nat_lt i total) (λ i. nat_lt i (2 ^ 16))
    (λ x e. let below : x < total = grind (arith, nat_tests) in grind (arith, nat_tests))
    (get_or lists i d)
    (there_of total (get_or lists i d) (all_at (is_committee total) lists i d h lt))

-- ---- sound committees

sound_lists : (x : Epochs) → is_sound x ≡ true → list_all (is_committee x.total) x.lists ≡ true
sound_lists x h =
    let a = nat_lt 0 (length x.lists) in
    let b = nat_le (length x.lists) 64 in let c = list_all (is_committee x.total) x.lists in
    (and_parts (a && b) c
    (and_parts (a && b && c) (option_map_or (λ span. nat_lt 0 span) x.span true) h).0).1

-- no list has a member past the last
no_stranger : (total at : ℕ) (lists : List (List ℕ)) → list_all (is_committee total) lists ≡ true
    → grammar.first_at (grammar.has_stranger total) at lists ≡ None
no_stranger total at [] h = refl
no_stranger total at (x ∷ xs) h =
    let there : list_all (λ i. nat_lt i total) x ≡ true =
    there_of total x
    (and_parts (is_committee total x) (list_all (is_committee total) xs) h).0 in
    rw there
    (no_stranger total (at + 1) xs
    (and_parts (is_committee total x) (list_all (is_committee total) xs) h).1)

pub sound_known : (x : Epochs) → is_sound x ≡ true
    → grammar.first_at (grammar.has_stranger x.total) 2 x.lists ≡ None
sound_known x h = no_stranger x.total 2 x.lists (sound_lists x h)

pub sound_sized : (x : Epochs) → 4 ≤ x.total → x.total < 2 ^ 16 → is_sound x ≡ true
    → grammar.is_sized x ≡ true
sound_sized x some few h =
    let low : nat_le 4 x.total ≡ true = grind (arith, nat_tests) in
    let high : nat_lt x.total (2 ^ 16) ≡ true = grind (arith, nat_tests) in
    and_from (nat_le 4 x.total) _ low
    (and_from (nat_lt x.total (2 ^ 16)) _ high
    (all_weaker (is_committee x.total) (λ list. nat_le 4 (length list)) (long_of x.total)
    x.lists (sound_lists x h)))

-- the members of each list are there
pub sound_there : (x : Epochs) → is_sound x ≡ true
    → list_all (list_all (λ i. nat_lt i x.total)) x.lists ≡ true
sound_there x h =
    all_weaker (is_committee x.total) (list_all (λ i. nat_lt i x.total)) (there_of x.total) x.lists
    (sound_lists x h)

-- lists that are long enough, rise and have nobody past the last are committees
all_there : (total at : ℕ) (lists : List (List ℕ))
    → grammar.first_at (grammar.has_stranger total) at lists ≡ None
    → list_all (list_all (λ i. nat_lt i total)) lists ≡ true
all_there total at [] h = refl
all_there total at (x ∷ xs) h =
    go (list_all (λ i. nat_lt i total) x) refl (all_there total (at + 1) xs)
  where
    go : (t : Bool) → list_all (λ i. nat_lt i total) x ≡ t
        → (grammar.first_at (grammar.has_stranger total) (at + 1) xs ≡ None
        → list_all (list_all (λ i. nat_lt i total)) xs ≡ true)
        → list_all (list_all (λ i. nat_lt i total)) (x ∷ xs) ≡ true
    go true e more = and_from (list_all (λ i. nat_lt i total) x) _ e (more (rw e at h))
    go false e more = absurd (let no : Some at ≡ None = rw e at h in cc)

pub committees : (total : ℕ) (lists : List (List ℕ))
    → list_all (λ list. nat_le 4 (length list)) lists ≡ true → list_all (rises_from 0) lists ≡ true
    → grammar.first_at (grammar.has_stranger total) 2 lists ≡ None
    → list_all (is_committee total) lists ≡ true
committees total lists long rise none =
    both_all (λ list. nat_le 4 (length list) && rises_from 0 list) (list_all (λ i. nat_lt i total))
    (is_committee total) (λ list p q. and_from _ _ p q) lists
    (both_all (λ list. nat_le 4 (length list)) (rises_from 0)
    (λ list. nat_le 4 (length list) && rises_from 0 list) (λ list p q. and_from _ _ p q) lists
    long rise)
    (all_there total 2 lists none)
