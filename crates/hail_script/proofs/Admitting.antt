-- Whether a script is run, from what its parts say.
use Rattle.std.proofs.Common.{◌≡◌, ℕ, ◌+◌, ◌<◌, ◌≤◌, ◌^◌, ◌&&◌, Bool, true, false, List, [], ◌∷◌, drop, Option, Some, None, Result, Ok, Err, refl, ap, ◌∙◌, arith, nat_lt, IsTrue}
use Rattle.std.specs.List.{list_all}
use Rattle.std.proofs.lemmas.Bool.{and_parts}
use Rattle.cw_types.specs.Epochs.{is_sound}
use Rattle.cw_rules.specs.World.{Line}
use Rattle.cw_rules.specs.declared.travel.Travel.{Travel}
use Rattle.hail_script.specs.declared.error.RunError.{RunError}
use Rattle.hail_script.specs.declared.error.RunError.TheVariants.{BadCommittee, OversizeBlock, TooManyFaulty, UnknownMember}
use Rattle.hail_script.specs.declared.headers.Header.TheVariants.{Several}
use Rattle.hail_script.specs.Admission as admission
use Rattle.hail_script.specs.Grammar as grammar
use Rattle.hail_script.specs.Headers.{lists_in}
use Rattle.hail_script.specs.Scenario.{Scenario}
use Rattle.hail_script.proofs.Marks.{bears_same}
use Rattle.hail_script.proofs.Sized.{sound_known, sound_sized, sound_there}

-- at most f members of each list are marked, and so faulty
marked_all : (lines : List Line) (total : ℕ) (lists : List (List ℕ))
    → list_all (list_all (λ i. nat_lt i total)) lists ≡ true
    → list_all (admission.marks_bear (grammar.faulty_marks lines total)) lists
    ≡ list_all (grammar.bears lines) lists
marked_all lines total [] h = refl
marked_all lines total (x ∷ xs) h =
    let one = bears_same lines total x (and_parts (list_all (λ i. nat_lt i total) x) _ h).0 in
    let more = marked_all lines total xs (and_parts (list_all (λ i. nat_lt i total) x) _ h).1 in
    ap (λ (b : Bool). b && list_all (admission.marks_bear (grammar.faulty_marks lines total)) xs)
    one
    ∙ ap (λ (b : Bool). grammar.bears lines x && b) more

pub sound_marked : (s : Scenario) → is_sound s.committees ≡ true
    → list_all (admission.marks_bear (grammar.faulty_marks s.lines s.committees.total))
    s.committees.lists
    ≡ list_all (grammar.bears s.lines) s.committees.lists
sound_marked s h =
    marked_all s.lines s.committees.total s.committees.lists (sound_there s.committees h)

-- with sound committees a line is unknown where an event line is
module _ (s : Scenario) (some : 4 ≤ s.committees.total) (few : s.committees.total < 2 ^ 16)
    (sound : is_sound s.committees ≡ true) where
  sized : grammar.is_sized s.committees ≡ true
  sized = sound_sized s.committees some few sound

  unknown_is : (o : Option ℕ)
      → grammar.first_at (grammar.names_stranger s.committees.total)
      (grammar.first_event s.committees) s.lines
      ≡ o
      → grammar.unknown_at s ≡ o
  unknown_is o e = rw (sound_known s.committees sound) e

  pub unknown : (at : ℕ)
      → grammar.first_at (grammar.names_stranger s.committees.total)
      (grammar.first_event s.committees) s.lines
      ≡ Some at
      → grammar.admitted s ≡ Err (UnknownMember at)
  unknown at e = rw (sized, unknown_is (Some at) e) refl

  pub too_many : grammar.first_at (grammar.names_stranger s.committees.total)
      (grammar.first_event s.committees) s.lines
      ≡ None
      → list_all (grammar.bears s.lines) s.committees.lists ≡ false
      → grammar.admitted s ≡ Err TooManyFaulty
  too_many e b = rw (sized, unknown_is None e, b) refl

  pub oversize : (at : ℕ)
      → grammar.first_at (grammar.names_stranger s.committees.total)
      (grammar.first_event s.committees) s.lines
      ≡ None
      → list_all (grammar.bears s.lines) s.committees.lists ≡ true → grammar.oversize_at s ≡ Some at
      → grammar.admitted s ≡ Err (OversizeBlock at)
  oversize at e b o = rw (sized, unknown_is None e, b, o) refl

  pub runs : grammar.first_at (grammar.names_stranger s.committees.total)
      (grammar.first_event s.committees) s.lines
      ≡ None
      → list_all (grammar.bears s.lines) s.committees.lists ≡ true → grammar.oversize_at s ≡ None
      → grammar.admitted s ≡ Ok s
  runs e b o = rw (sized, unknown_is None e, b, o) refl

  pub runnable : grammar.first_at (grammar.names_stranger s.committees.total)
      (grammar.first_event s.committees) s.lines
      ≡ None
      → list_all (grammar.bears s.lines) s.committees.lists ≡ true → grammar.oversize_at s ≡ None
      → IsTrue (list_all grammar.is_later s.lines) → grammar.IsRunnable s
  runnable e b o l =
      record { sized = sized; known = unknown_is None e; few = b; short = o; later = l }

-- what stands behind a header of epochs
pub several_is : (travel : Travel) (members backlog span count : ℕ) (more : List (List ℕ))
    (lists : List (List ℕ)) (result : Result (List Line) RunError)
    → lists_in count more ≡ Ok lists → grammar.events_from (count + 2) (drop count more) ≡ result
    → grammar.behind_header travel (Some (Several members backlog span count)) more
    ≡ grammar.scenario_of travel (record {
      total = members;
      span = Some span;
      lists = lists;
    }) backlog result
several_is travel members backlog span count more lists result l e =
    let same : 2 + count ≡ count + 2 = omega arith in
    rw (l, same, e) refl

-- epochs that are too small, or have a member past the last
pub unsized : (s : Scenario) → grammar.is_sized s.committees ≡ false
    → grammar.admitted s ≡ Err BadCommittee
unsized s e = rw e refl

pub strange : (s : Scenario) (at : ℕ) → grammar.is_sized s.committees ≡ true
    → grammar.first_at (grammar.has_stranger s.committees.total) 2 s.committees.lists ≡ Some at
    → grammar.admitted s ≡ Err (UnknownMember at)
strange s at z e = rw (z, e) refl
