-- The calls of mailboxes, and the history that they stand in.
use Rattle.std.specs.Prelude.{◌≡◌, ◌<◌, ◌+◌, ◌++◌, ◌∷◌, ◌&&◌, ◌||◌, ◌==◌, ℕ, Bool, true, false, not, nat_lt, List, [], if◌then◌else◌, sum_by, count_by, slice_get, length, Some}
use Rattle.std.specs.List.{list_all}
use Rattle.std.specs.Option.{option_map_or}
use Rattle.mailbox.specs.declared.call.Call.{Call}

-- what a mailbox has: so many parts of its session, the calls that it made itself, in order, and
-- those of each mailbox that was joined into it
pub record Mail (C : Type 0) : Type 0 where
  pub parts : ℕ
  pub own : List C
  pub lists : List (List C)

-- all lists of a mailbox, its own last
abbrev pub lists_of : {C : Type 0} → Mail C → List (List C)
lists_of m = m.lists ++ m.own ∷ []

-- how many calls are in lists
abbrev pub calls_in : {C : Type 0} → List (List C) → ℕ
calls_in lists = sum_by (λ list. length list) lists

-- a mailbox with the parts and all lists of another beside its own
abbrev pub mail_joined : {C : Type 0} → Mail C → Mail C → Mail C
mail_joined m other = record {
  parts = m.parts + other.parts;
  own = m.own;
  lists = m.lists ++ lists_of other;
}

-- A mailbox made one more call of its own, at this place: the event turned some state lawfully, and
-- the call has an equal event, and a reply equal to that of the turn. That all turns are those of one
-- state is said where the session is closed.
pub record HasAddedCall {S E R : Type 0} (turns : S → E → R → S → Type 0)
    (same_event : E → E → Bool)
    (same_reply : R → R → Bool) (event : E) (place : ℕ) (old new : Mail (Call S E R)) : Type 0 where
  pub before : S
  pub stored : R
  pub after : S
  pub lawful : turns before event stored after
  pub copy : E
  pub reply : R
  pub equal : same_event event copy ≡ true
  pub answer : same_reply stored reply ≡ true
  pub added : new ≡ record old {
    own = old.own ++ record { place = place; event = copy; reply = reply } ∷ [];
  }

-- the call has the event and the reply of the entry
abbrev pub is_entry : {T E R : Type 0} → (E → E → Bool) → (R → R → Bool) → E × R → Call T E R → Bool
is_entry same_event same_reply x c = same_event x.0 c.event && same_reply x.1 c.reply

-- no call of the list has the place k
abbrev pub none_at : {T E R : Type 0} → ℕ → List (Call T E R) → Bool
none_at k list = list_all (λ c. not (c.place == k)) list

-- no call of the place k stands behind one of a greater place
abbrev pub rises_at : {T E R : Type 0} → ℕ → List (Call T E R) → Bool
rises_at k [] = true
rises_at k (c ∷ cs) = if nat_lt k c.place then none_at k cs else rises_at k cs

-- each call of the place k is the entry there, and none stands behind one of a greater place
abbrev pub holds_in : {T E R : Type 0} → (Call T E R → Bool) → ℕ → List (Call T E R) → Bool
holds_in is_it k list = list_all (λ c. not (c.place == k) || is_it c) list && rises_at k list

-- how many calls of the list have the place k
abbrev pub times_in : {T E R : Type 0} → ℕ → List (Call T E R) → ℕ
times_in k list = count_by (λ c. c.place == k) list

-- how many calls of all lists have the place k
abbrev pub calls_at : {T E R : Type 0} → ℕ → List (List (Call T E R)) → ℕ
calls_at k lists = sum_by (times_in k) lists

-- one call has the place k, is the entry there, and stands behind none of a greater place
abbrev pub holds_at : {T E R : Type 0} → (Call T E R → Bool) → ℕ → List (List (Call T E R)) → Bool
holds_at is_it k lists = (calls_at k lists == 1) && list_all (holds_in is_it k) lists

-- the same of the place k of a history. A place behind its end fails
abbrev pub place_holds : {T E R X : Type 0} → (X → Call T E R → Bool) → List X
    → List (List (Call T E R)) → ℕ → Bool
place_holds same history lists k =
    option_map_or (λ x. holds_at (same x) k lists) (slice_get history k) false

-- k is the least place of the history that fails
pub record IsFirstFault {T E R X : Type 0} (same : X → Call T E R → Bool) (history : List X)
    (lists : List (List (Call T E R))) (k : ℕ) : Type 0 where
  pub within : k < length history
  pub fails : place_holds same history lists k ≡ false
  pub least : (i : ℕ) → i < k → place_holds same history lists i ≡ true

-- P holds of each
abbrev pub Each : {A : Type 0} → (A → Type 0) → List A → Type 0
Each P [] = Unit {0}
Each P (x ∷ xs) = P x × Each P xs

-- the call is the entry at its place
abbrev pub IsEntryAt : {T E R X : Type 0} → (X → Call T E R → Bool) → List X → Call T E R → Type 0
IsEntryAt {X = X} same history c =
    (x : X) × (slice_get history c.place ≡ Some x) × (same x c ≡ true)

-- each place is above those before it
abbrev pub Rises : {T E R : Type 0} → List (Call T E R) → Type 0
Rises [] = Unit {0}
Rises (c ∷ cs) = Each (λ d. c.place < d.place) cs × Rises cs

-- The history is the calls of all lists, each once at its place, and the places of each list rise.
pub record AreCalls {T E R X : Type 0} (same : X → Call T E R → Bool) (history : List X)
    (lists : List (List (Call T E R))) : Type 0 where
  pub once : (k : ℕ) → k < length history → calls_at k lists ≡ 1
  pub entries : Each (Each (IsEntryAt same history)) lists
  pub rising : Each Rises lists
