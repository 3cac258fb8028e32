-- What an answer means, from how the program ended.
use Rattle.std.proofs.Common.{◌≡◌, ◌∙◌, ℕ, List, Option, inl, inr, refl, subst, sym}
use Rattle.std.specs.Io.KnownBytes.{Appends}
use Rattle.cw_base.specs.Causes.{Rose}
use Rattle.hail_script.specs.declared.error.RunError.{RunError}
use Rattle.hail_script.specs.declared.error.RunError.TheVariants as error
use Rattle.hail_report.specs.Answers.{Answers, AnswersSource, IsDueFor}
use Rattle.hail_report.specs.Exits.{EndsEarly, Finishes, IfDone, IsShort, early_of}
use Rattle.hail_report.specs.Reading.{HasGiven, IsWhole}
use Rattle.hail_report.specs.Text.{error_line, too_long_line}
use Rattle.hail_report.specs.declared.exit.Early.{Early}
use Rattle.hail_report.specs.declared.exit.Early.TheVariants as early
use Rattle.hail_report.specs.declared.exit.Exit.{Exit}
use Rattle.hail_report.specs.declared.exit.Exit.TheVariants.{Clash, Done, NoMemory, ReadFault, Refused, TooLong, Usage, WriteFault}

-- the line of the cause is due
abbrev pub OwesLine : {X : Type 0} → (Exit X → List ℕ → Type 0) → Early → Type 0
OwesLine IsDue early.TooLong = IsDue TooLong too_long_line
OwesLine IsDue (early.Refused e) = IsDue (Refused e) (error_line e)
OwesLine IsDue (early.Clash earlier later) =
    IsDue (Clash earlier later) (error_line (error.HashClash earlier later))
OwesLine IsDue early.ReadFault = Unit {0}
OwesLine IsDue early.NoMemory = Unit {0}

module _ {X : Type 0} (IsDue : Exit X → List ℕ → Type 0) (held written : Option (List ℕ))
    (w later : ℕ) where
  -- the text of an answer was written, or a front of it
  pub finished : (exit : Exit X) (due : List ℕ) (result : Exit X) → IsDue exit due
      → (Appends held written due → Answers IsDue held written exit)
      → Finishes held written w later due exit result → Answers IsDue held written result
  finished exit due result is whole (inl h) = rw h.0 (whole h.1)
  finished exit due result is whole (inr h) = rw h.0 (exit, due, is, h.2)

  pub was_short : (result : Exit X) → IsShort held written result
      → Answers IsDue held written result
  was_short result h = rw h.0 h.1

  -- the line of a cause was written, or a front of it, or nothing
  pub ended_early : (e : Early) (result : Exit X) → OwesLine IsDue e
      → EndsEarly held written w later e result → Answers IsDue held written result
  ended_early early.TooLong result owes ends =
      finished TooLong too_long_line result owes (λ a. (too_long_line, owes, a)) ends
  ended_early (early.Refused e) result owes (inl ends) =
      finished (Refused e) (error_line e) result owes (λ a. (error_line e, owes, a)) ends
  ended_early (early.Refused e) result owes (inr h) = was_short result h
  ended_early (early.Clash a b) result owes (inl ends) =
      finished (Clash a b) (error_line (error.HashClash a b)) result owes
      (λ t. (error_line (error.HashClash a b), owes, t)) ends
  ended_early (early.Clash a b) result owes (inr h) = was_short result h
  ended_early early.ReadFault result owes ends = rw ends.0 ends.1
  ended_early early.NoMemory result owes ends = was_short result ends

-- what is so whenever a program is done is so of what it hands back
pub answers_done : {X : Type 0} (IsDue : Exit X → List ℕ → Type 0) (held written : Option (List ℕ))
    (P : X → Type 0) → ((x : X) (due : List ℕ) → IsDue (Done x) due → P x) → (result : Exit X)
    → Answers IsDue held written result → IfDone result P
answers_done IsDue held written P gives (Done x) h = gives x h.0 h.1
answers_done IsDue held written P gives Usage h = tt
answers_done IsDue held written P gives TooLong h = tt
answers_done IsDue held written P gives (Refused e) h = tt
answers_done IsDue held written P gives (Clash earlier later) h = tt
answers_done IsDue held written P gives ReadFault h = tt
answers_done IsDue held written P gives WriteFault h = tt
answers_done IsDue held written P gives NoMemory h = tt

-- a program that ended early hands nothing back
module _ {X : Type 0} (P : X → Type 0) (held written : Option (List ℕ)) (w later : ℕ) where
  pub finish_done : (due : List ℕ) (exit result : Exit X) → IfDone exit P
      → Finishes held written w later due exit result → IfDone result P
  finish_done due exit result is (inl h) = rw h.0 is
  finish_done due exit result is (inr h) = rw h.0 tt

  pub short_done : (result : Exit X) → IsShort held written result → IfDone result P
  short_done result h = rw h.0 tt

  pub early_done : (e : Early) (result : Exit X) → EndsEarly held written w later e result
      → IfDone result P
  early_done early.TooLong result ends = finish_done too_long_line TooLong result tt ends
  early_done (early.Refused e) result (inl ends) =
      finish_done (error_line e) (Refused e) result tt ends
  early_done (early.Refused e) result (inr h) = short_done result h
  early_done (early.Clash a b) result (inl ends) =
      finish_done (error_line (error.HashClash a b)) (Clash a b) result tt ends
  early_done (early.Clash a b) result (inr h) = short_done result h
  early_done early.ReadFault result ends = rw ends.0 tt
  early_done early.NoMemory result ends = short_done result ends

-- ---- what was read

module _ {X : Type 0} (Tells : List ℕ → Exit X → List ℕ → Type 0)
    (left rest held written : Option (List ℕ)) where
  -- no text was run
  pub source_early : (w later : ℕ) (read : List ℕ) → HasGiven left rest read → (e : Early)
      → OwesLine (IsDueFor Tells read rest) e → (result : Exit X)
      → EndsEarly held written w later e result
      → AnswersSource Tells left rest held written result
  source_early w later read given e owes result ends = record {
    read = read;
    given = given;
    answers = ended_early (IsDueFor Tells read rest) held written w later e result owes ends;
  }

  module _ (text : List ℕ) (never_long : (due : List ℕ) → Tells text TooLong due → ⊥)
      (whole : IsWhole text rest) where
    due_for : (exit : Exit X) (due : List ℕ) → Tells text exit due
        → IsDueFor Tells text rest exit due
    due_for (Done x) due is = (whole, is)
    due_for Usage due is = (whole, is)
    due_for TooLong due is = absurd (never_long due is)
    due_for (Refused e) due is = (whole, is)
    due_for (Clash a b) due is = (whole, is)
    due_for ReadFault due is = (whole, is)
    due_for WriteFault due is = (whole, is)
    due_for NoMemory due is = (whole, is)

    whole_answers : (result : Exit X) → Answers (Tells text) held written result
        → Answers (IsDueFor Tells text rest) held written result
    whole_answers (Done x) h = (h.0, (whole, h.1), h.2)
    whole_answers Usage h = (h.0, (whole, h.1), h.2)
    whole_answers TooLong h = absurd (never_long h.0 h.1)
    whole_answers (Refused e) h = (h.0, (whole, h.1), h.2)
    whole_answers (Clash a b) h = (h.0, (whole, h.1), h.2)
    whole_answers ReadFault h = h
    whole_answers WriteFault h = (h.0, h.1, due_for h.0 h.1 h.2, h.3)
    whole_answers NoMemory h = h

    -- the answers to a whole text are those to its source
    pub source_whole : (read : List ℕ) → text ≡ read → HasGiven left rest read
        → (result : Exit X) → Answers (Tells text) held written result
        → AnswersSource Tells left rest held written result
    source_whole read is given result h = record {
      read = text;
      given = subst (λ (t : List ℕ). HasGiven left rest t) (sym is) given;
      answers = whole_answers result h;
    }

-- ---- faults

module _ {X : Type 0} (held written : Option (List ℕ)) (w later : ℕ) where
  -- the sink fails only where its count rose
  pub finish_write : (due : List ℕ) (exit result : Exit X) → (exit ≡ WriteFault → ⊥)
      → Finishes held written w later due exit result → result ≡ WriteFault → Rose w later
  finish_write due exit result other (inl h) is = absurd (other (sym h.0 ∙ is))
  finish_write due exit result other (inr h) is = h.1

  pub short_write : (result : Exit X) → IsShort held written result → result ≡ WriteFault → ⊥
  short_write result h is = let wrong = sym h.0 ∙ is in cc

  pub early_write : (e : Early) (result : Exit X) → EndsEarly held written w later e result
      → result ≡ WriteFault → Rose w later
  early_write early.TooLong result ends is =
      finish_write too_long_line TooLong result (λ is. cc) ends is
  early_write (early.Refused e) result (inl ends) is =
      finish_write (error_line e) (Refused e) result (λ is. cc) ends is
  early_write (early.Refused e) result (inr h) is = absurd (short_write result h is)
  early_write (early.Clash a b) result (inl ends) is =
      finish_write (error_line (error.HashClash a b)) (Clash a b) result (λ is. cc) ends is
  early_write (early.Clash a b) result (inr h) is = absurd (short_write result h is)
  early_write early.ReadFault result ends is = let wrong = sym ends.0 ∙ is in cc
  early_write early.NoMemory result ends is = absurd (short_write result ends is)

  -- the source fails only for that cause
  pub finish_read : (due : List ℕ) (exit result : Exit X) → (exit ≡ ReadFault → ⊥)
      → Finishes held written w later due exit result → result ≡ ReadFault → ⊥
  finish_read due exit result other (inl h) is = other (sym h.0 ∙ is)
  finish_read due exit result other (inr h) is = let wrong = sym h.0 ∙ is in cc

  pub short_read : (result : Exit X) → IsShort held written result → result ≡ ReadFault → ⊥
  short_read result h is = let wrong = sym h.0 ∙ is in cc

  pub early_read : (e : Early) (result : Exit X) → EndsEarly held written w later e result
      → result ≡ ReadFault → e ≡ early.ReadFault
  early_read early.TooLong result ends is =
      absurd (finish_read too_long_line TooLong result (λ is. cc) ends is)
  early_read (early.Refused e) result (inl ends) is =
      absurd (finish_read (error_line e) (Refused e) result (λ is. cc) ends is)
  early_read (early.Refused e) result (inr h) is = absurd (short_read result h is)
  early_read (early.Clash a b) result (inl ends) is =
      absurd
      (finish_read (error_line (error.HashClash a b)) (Clash a b) result (λ is. cc) ends is)
  early_read (early.Clash a b) result (inr h) is = absurd (short_read result h is)
  early_read early.ReadFault result ends is = refl
  early_read early.NoMemory result ends is = absurd (short_read result ends is)

-- a run's error is no fault of a source
pub error_read : (x : RunError) → early_of x ≡ early.ReadFault → ⊥
error_read error.NoMemory is = cc
error_read (error.HashClash a b) is = cc
error_read error.BadCommittee is = cc
error_read error.TooManyFaulty is = cc
error_read (error.Syntax l) is = cc
error_read (error.UnknownMember l) is = cc
error_read (error.OversizeBlock l) is = cc
