-- What a line makes of a header.
use Rattle.std.proofs.Common.{subst, sym, ◌≡◌, ◌∙◌, ◌+◌, ◌++◌, [], Bool, Err, IfOk, List, Ok, Result, ap, false, if◌then◌else◌, nat_lt, refl, true, ℕ}
use Rattle.cw_rules.specs.declared.travel.Travel.{Travel}
use Rattle.hail_script.specs.Grammar.{script_by}
use Rattle.hail_script.specs.Scenario.{Scenario}
use Rattle.hail_script.specs.declared.error.RunError.{RunError}
use Rattle.hail_script.specs.declared.error.RunError.TheVariants as error
use Rattle.member_lines.specs.Answers.{no_line, ok_line}
use Rattle.member_lines.specs.declared.refusal.Refusal.TheVariants.{Syntax, UnknownMember}
use Rattle.member_session.specs.Serving.{Serving}
use Rattle.member_session.specs.Talk.{Answered, Answers, done, headed, headed_as, longer, refused, why_headed}
use Rattle.member_session.specs.declared.heading.Heading.{Heading}
use Rattle.member_session.specs.declared.session.Session.{Session}
use Rattle.member_session.specs.declared.session.Session.TheVariants as stage

-- by what the longer text spells
pub headed_by : (travel : Travel) (h : Heading) (line text : List ℕ)
    (read : Result Scenario RunError) (before after : List ℕ) (left : Session Serving)
    → text ≡ longer h line → script_by travel text ≡ read
    → Answers (headed_as h line read) before after left
    → Answers (headed travel h line) before after left
headed_by travel h line text read before after left is spells answers =
    let P : Result Scenario RunError → Type 0 =
    λ r. Answers (headed_as h line r) before after left in
    subst P (sym spells ∙ ap (λ (l : List ℕ). script_by travel l) is) answers

-- where it is Ok, what follows
pub where_ok : {T E : Type 0} (r : Result T E) (P Q : T → Type 0) → ((t : T) → P t → Q t)
    → IfOk r P → IfOk r Q
where_ok (Ok t) P Q more is = more t is
where_ok (Err e) P Q more is = is

-- by a test
by_test : (test is : Bool) (one other : Answered) (before after : List ℕ) (left : Session Serving)
    → test ≡ is → Answers (if is then one else other) before after left
    → Answers (if test then one else other) before after left
by_test test is one other before after left same answers =
    subst (λ (b : Bool). Answers (if b then one else other) before after left) (sym same) answers

module _ (h : Heading) (line : List ℕ) (before after : List ℕ) (left : Session Serving) where
  -- a script of which it is a member
  pub known_answer : (s : Scenario) → nat_lt h.id s.committees.total ≡ true
      → left ≡ stage.Opening (record {
        id = h.id;
        epochs = s.committees;
        backlog = s.backlog;
        file = [];
      })
      → after ≡ before ++ ok_line → Answers (headed_as h line (Ok s)) before after left
  known_answer s is goes tells =
      by_test (nat_lt h.id s.committees.total) true _ _ before after left is
      (record { left = goes; told = tells })

  -- and one of which it is none
  pub unknown_answer : (s : Scenario) → nat_lt h.id s.committees.total ≡ false
      → left ≡ stage.Heading h → after ≡ before ++ no_line UnknownMember
      → Answers (headed_as h line (Ok s)) before after left
  unknown_answer s is goes tells =
      by_test (nat_lt h.id s.committees.total) false _ _ before after left is
      (record { left = goes; told = tells })

  -- a line lacks
  pub lacking_answer : (at : ℕ) → nat_lt (h.count + 1) at ≡ true
      → left
      ≡ stage.Heading (record { id = h.id; text = longer h line; count = h.count + 1 })
      → after ≡ before ++ ok_line → Answers (headed_as h line (Err (error.Syntax at))) before after left
  lacking_answer at is goes tells =
      by_test (nat_lt (h.count + 1) at) true _ _ before after left is
      (record { left = goes; told = tells })

  -- a line is outside the grammar
  pub outside_answer : (at : ℕ) → nat_lt (h.count + 1) at ≡ false
      → left ≡ stage.Heading h → after ≡ before ++ no_line Syntax
      → Answers (headed_as h line (Err (error.Syntax at))) before after left
  outside_answer at is goes tells =
      by_test (nat_lt (h.count + 1) at) false _ _ before after left is
      (record { left = goes; told = tells })

  -- no line makes it one
  pub else_answer : (e : RunError) → ((at : ℕ) → e ≡ error.Syntax at → ⊥)
      → left ≡ stage.Heading h → after ≡ before ++ no_line (why_headed e)
      → Answers (headed_as h line (Err e)) before after left
  else_answer (error.Syntax at) other goes tells = absurd (other at refl)
  else_answer error.BadCommittee other goes tells = record { left = goes; told = tells }
  else_answer (error.UnknownMember at) other goes tells = record { left = goes; told = tells }
  else_answer error.TooManyFaulty other goes tells = record { left = goes; told = tells }
  else_answer (error.OversizeBlock at) other goes tells = record { left = goes; told = tells }
  else_answer (error.HashClash earlier later) other goes tells =
      record { left = goes; told = tells }
  else_answer error.NoMemory other goes tells = record { left = goes; told = tells }
