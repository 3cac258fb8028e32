-- Answering line after line.
use Rattle.std.proofs.Common.{subst, ◌≡◌, ◌≤◌, ◌∙◌, ◌+◌, ◌++◌, ◌∷◌, [], Err, List, None, Ok, Option, Result, Some, ap, append_assoc, arith, false, inl, inr, length, refl, sym, take, true, ℕ}
use Rattle.std.proofs.KnownBytes.{Appends-nil, Appends-trans, Consumes-nil, Consumes-trans, Keeps-refl}
use Rattle.std.proofs.Math.Seq.{take-append_seam}
use Rattle.std.proofs.lemmas.List.{append-nil, length-append, length_push}
use Rattle.std.specs.Io.KnownBytes.{Appends, Consumes, Keeps}
use Rattle.cw_base.specs.Causes.{Rose}
use Rattle.member_lines.proofs.Reading.{rose_late}
use Rattle.cw_base.specs.declared.hash.Digest32.{Digest32}
use Rattle.cw_rules.specs.declared.travel.Travel.{Travel}
use Rattle.hail_script.specs.Pieces.{lines}
use Rattle.hail_report.specs.Writing.{WritesFront}
use Rattle.member_lines.specs.Ahead.{Ahead, ReadsLine, kept_part}
use Rattle.member_session.specs.Programs.{AnswersLine, AnswersSome, CameAsLines, Served, end_of, is_last_line, whole_lines}
use Rattle.member_session.specs.Serving.{Serving}
use Rattle.member_session.specs.Talk.{Answered, answered, answers, new_session, session_after}
use Rattle.member_lines.specs.declared.input.Next.{Next}
use Rattle.member_lines.specs.declared.input.Next.TheVariants as kind
use Rattle.member_session.specs.declared.program.End.{End}
use Rattle.member_session.specs.declared.program.End.TheVariants as end
use Rattle.member_session.specs.declared.session.Session.{Session}
use Rattle.member_session.proofs.Answering.{answered_kept, answers_behind, answers_more, session_more}
use Rattle.member_session.proofs.Lines.{all_plain, ended, ended_long, ended_more, lines_ended, lines_last, plain_more, whole_behind, whole_ended, whole_none}
use Rattle.member_session.proofs.Streams.{appends_kept, fronts_behind}

-- what is told of the lines that were answered
abbrev due_of : (List ℕ → Digest32) → ℕ × Travel → List (List ℕ) → List ℕ
due_of hash who done = answers hash who.1 (new_session who.0) done

-- the session behind them
abbrev left_by : (List ℕ → Digest32) → ℕ × Travel → List (List ℕ) → Session Serving
left_by hash who done = session_after hash who.1 (new_session who.0) done

-- these whole lines came and were answered, and what stands ahead came behind them
pub record HasServed (hash : List ℕ → Digest32) (who : ℕ × Travel) (left held : Option (List ℕ))
    (reads writes : ℕ) (rest written : Option (List ℕ)) (reads_now writes_now count : ℕ)
    (ahead : List ℕ) (session : Session Serving) : Type 0 where
  pub given : List ℕ
  pub came : Consumes left rest given
  pub done : List (List ℕ)
  pub plain : all_plain done ≡ true
  pub parts : given ≡ ended done ++ ahead
  pub many : count ≤ length done
  pub session_is : session ≡ left_by hash who done
  pub wrote : Appends held written (due_of hash who done)
  pub read_since : reads ≤ reads_now
  pub written_since : writes ≤ writes_now

module _ (hash : List ℕ → Digest32) (who : ℕ × Travel) (left held : Option (List ℕ))
    (reads writes : ℕ) where
  abbrev due : List (List ℕ) → List ℕ
  due done = due_of hash who done

  abbrev at_work : List (List ℕ) → Session Serving
  at_work done = left_by hash who done

  -- a front of what is due to some first lines
  front_more : (first more came : List (List ℕ)) → came ≡ first ++ more
      → (after : Option (List ℕ)) → WritesFront held after (due first)
      → WritesFront held after (due came)
  front_more first more came is after wrote = record {
    front = wrote.front;
    rest = wrote.rest ++ answers hash who.1 (at_work first) more;
    parts =
        ap due is ∙ answers_behind hash who.1 (new_session who.0) first more
        ∙ ap (λ (l : List ℕ). l ++ answers hash who.1 (at_work first) more) wrote.parts
        ∙ append_assoc wrote.front wrote.rest (answers hash who.1 (at_work first) more);
    wrote = wrote.wrote;
  }

  pub served_none : (ahead : List ℕ) (session : Session Serving) → ahead ≡ []
      → session ≡ new_session who.0
      → HasServed hash who left held reads writes left held reads writes 0 ahead session
  served_none ahead session empty is = record {
    given = [];
    came = Consumes-nil left;
    done = [];
    plain = refl;
    parts = sym empty;
    many = omega arith;
    session_is = is;
    wrote = Appends-nil held;
    read_since = omega arith;
    written_since = omega arith;
  }

  module _ (rest next written : Option (List ℕ)) (reads_now reads_then writes_now count : ℕ)
      (ahead : List ℕ) (session : Session Serving) (new : Ahead)
      (has :
      HasServed hash who left held reads writes rest written reads_now writes_now count ahead
      session) where
    -- what came with what was read for the next line
    came_with : (read : List ℕ) → Consumes rest next read → Consumes left next (has.given ++ read)
    came_with read came = Consumes-trans left rest next has.given read has.came came

    given_with : (read : List ℕ) → has.given ++ read ≡ ended has.done ++ (ahead ++ read)
    given_with read =
        ap (λ (l : List ℕ). l ++ read) has.parts ∙ append_assoc (ended has.done) ahead read

    lines_with : (read : List ℕ) → lines (has.given ++ read) ≡ has.done ++ lines (ahead ++ read)
    lines_with read =
        ap lines (given_with read) ∙ lines_ended has.done (ahead ++ read) has.plain

    -- the next line, as it is kept, is answered as it is
    same_answer : (line : List ℕ) → new.line ≡ kept_part line
        → answered hash who.1 session new.line ≡ answered hash who.1 (at_work has.done) line
    same_answer line kept =
        ap (λ (l : List ℕ). answered hash who.1 session l) kept
        ∙ answered_kept hash who.1 session line
        ∙ ap (λ (s : Session Serving). answered hash who.1 s line) has.session_is

    wrote_with : (line : List ℕ) (after : Option (List ℕ)) → new.line ≡ kept_part line
        → Appends written after (answered hash who.1 session new.line).text
        → Appends held after (due (has.done ++ line ∷ []))
    wrote_with line after kept wrote =
        let P : List ℕ → Type 0 = λ l. Appends held after l in
        subst P
        (ap (λ (l : List ℕ). due has.done ++ l)
        (ap (λ (a : Answered). a.text) (same_answer line kept))
        ∙ sym (answers_more hash who.1 (new_session who.0) has.done line))
        (Appends-trans held written after (due has.done)
        (answered hash who.1 session new.line).text has.wrote wrote)

    front_with : (line : List ℕ) (after : Option (List ℕ)) → new.line ≡ kept_part line
        → WritesFront written after (answered hash who.1 session new.line).text
        → WritesFront held after (due (has.done ++ line ∷ []))
    front_with line after kept wrote =
        let P : List ℕ → Type 0 = λ l. WritesFront held after l in
        subst P
        (ap (λ (l : List ℕ). due has.done ++ l)
        (ap (λ (a : Answered). a.text) (same_answer line kept))
        ∙ sym (answers_more hash who.1 (new_session who.0) has.done line))
        (fronts_behind held written after (due has.done)
        (answered hash who.1 session new.line).text has.wrote wrote)

    -- a line that ended was answered
    pub served_line : (after : Option (List ℕ)) (writes_then : ℕ) (left_session : Session Serving)
        → ReadsLine rest next reads_now reads_then ahead new kind.Line
        → left_session ≡ (answered hash who.1 session new.line).session
        → Appends written after (answered hash who.1 session new.line).text
        → writes_now ≤ writes_then
        → HasServed hash who left held reads writes next after reads_then writes_then (count + 1)
        new.ahead left_session
    served_line after writes_then left_session r goes wrote later =
        let line = r.told.line in
        record {
          given = has.given ++ r.read;
          came = came_with r.read r.came;
          done = has.done ++ line ∷ [];
          plain = plain_more has.done line has.plain r.told.plain;
          parts =
              given_with r.read
              ∙ ap (λ (l : List ℕ). ended has.done ++ l) r.told.text_is
              ∙ sym (ended_more has.done line new.ahead);
          many = omega (arith, length_push has.done line, has.many);
          session_is =
              goes ∙ ap (λ (a : Answered). a.session) (same_answer line r.told.kept)
              ∙ sym (session_more hash who.1 (new_session who.0) has.done line);
          wrote = wrote_with line after r.told.kept wrote;
          read_since = omega (arith, has.read_since, r.later);
          written_since = omega (arith, has.written_since, later);
        }

    -- ---- the ends

    pub ends_done : ReadsLine rest next reads_now reads_then ahead new kind.End
        → Served hash who left next reads reads_then held written writes writes_now end.Done
    ends_done r = record {
      given = has.given ++ r.read;
      came = came_with r.read r.came;
      told = (
        r.told.1,
        let P : List (List ℕ) → Type 0 = λ l. Appends held written (due l) in
            subst P
            (sym
            (lines_with r.read
            ∙ ap (λ (l : List ℕ). has.done ++ lines l) r.told.0
            ∙ append-nil has.done))
            has.wrote,
      );
    }

    pub ends_last : (after : Option (List ℕ)) (writes_then : ℕ)
        → ReadsLine rest next reads_now reads_then ahead new kind.Last
        → Appends written after (answered hash who.1 session new.line).text
        → Served hash who left next reads reads_then held after writes writes_then end.Done
    ends_last after writes_then r wrote =
        let line = ahead ++ r.read in
        record {
          given = has.given ++ r.read;
          came = came_with r.read r.came;
          told = (
            r.told.at_end,
            let P : List (List ℕ) → Type 0 = λ l. Appends held after (due l) in
                subst P
                (sym
                (lines_with r.read
                ∙ ap (λ (l : List (List ℕ)). has.done ++ l)
                (lines_last line r.told.plain r.told.some)))
                (wrote_with line after r.told.kept wrote),
          );
        }

    pub ends_fault : ReadsLine rest next reads_now reads_then ahead new kind.Fault
        → Served hash who left next reads reads_then held written writes writes_now end.ReadFault
    ends_fault r = record {
      given = has.given ++ r.read;
      came = came_with r.read r.came;
      told = (
        rose_late reads reads_now reads_then has.read_since r.told.1,
        let P : List (List ℕ) → Type 0 = λ l. Appends held written (due l) in
            subst P
            (sym
            (ap whole_lines (given_with r.read)
            ∙ whole_ended has.done (ahead ++ r.read) has.plain
            ∙ ap (λ (l : List (List ℕ)). has.done ++ l) (whole_none (ahead ++ r.read) r.told.0)
            ∙ append-nil has.done))
            has.wrote,
      );
    }

    -- the same end
    told_after : (after : Option (List ℕ)) (writes_then : ℕ) (one e : End) → one ≡ e
        → Served hash who left next reads reads_then held after writes writes_then one
        → Served hash who left next reads reads_then held after writes writes_then e
    told_after after writes_then one e is answered_run =
        let P : End → Type 0 =
        λ x. Served hash who left next reads reads_then held after writes writes_then x in
        subst P is answered_run

    told_as : (one e : End) → Some one ≡ Some e
        → Served hash who left next reads reads_then held written writes writes_now one
        → Served hash who left next reads reads_then held written writes writes_now e
    told_as one e is answered_run =
        let same : one ≡ e = cc in told_after written writes_now one e same answered_run

    whole_with : (read : List ℕ)
        → whole_lines (has.given ++ read) ≡ has.done ++ whole_lines (ahead ++ read)
    whole_with read =
        ap whole_lines (given_with read) ∙ whole_ended has.done (ahead ++ read) has.plain

    -- all lines that were answered are some first whole lines
    all_done : (after : Option (List ℕ)) → Keeps written after → (read : List ℕ)
        → AnswersSome due (has.given ++ read) held after
    all_done after keeps read =
        let P : List (List ℕ) → Type 0 = λ l. Appends held after (due l) in (
          length has.done,
          subst P
              (sym
              (ap (λ (l : List (List ℕ)). take (length has.done) l) (whole_with read)
              ∙ take-append_seam has.done (whole_lines (ahead ++ read))))
              (appends_kept held written after (due has.done) has.wrote keeps),
        )

    ends_short : (after : Option (List ℕ)) (writes_then : ℕ) (read : List ℕ)
        → Consumes rest next read → Keeps written after
        → Served hash who left next reads reads_then held after writes writes_then end.NoMemory
    ends_short after writes_then read came keeps = record {
      given = has.given ++ read;
      came = came_with read came;
      told = all_done after keeps read;
    }

    ends_endless : ReadsLine rest next reads_now reads_then ahead new kind.Endless
        → Served hash who left next reads reads_then held written writes writes_now end.Endless
    ends_endless r = record {
      given = has.given ++ r.read;
      came = came_with r.read r.came;
      told = (
        omega (
          arith,
          r.told,
          ap (length {A = ℕ}) (given_with r.read),
          length-append (ended has.done) (ahead ++ r.read),
        ),
        all_done written (Keeps-refl written) r.read,
      );
    }

    -- the sink took a front of the answer to this line, one of those that came
    ends_cut : (after : Option (List ℕ)) (writes_then : ℕ) (read line : List ℕ)
        (came : List (List ℕ))
        → Consumes rest next read → CameAsLines (has.given ++ read) next came
        → ((more : List (List ℕ)) × (came ≡ (has.done ++ line ∷ []) ++ more))
        → new.line ≡ kept_part line → Rose writes_now writes_then
        → WritesFront written after (answered hash who.1 session new.line).text
        → Served hash who left next reads reads_then held after writes writes_then end.WriteFault
    ends_cut after writes_then read line came goes are is kept failed wrote =
        record {
          given = has.given ++ read;
          came = came_with read goes;
          told = (
            rose_late writes writes_now writes_then has.written_since failed,
            (
              came,
              are,
              front_more (has.done ++ line ∷ []) is.0 came is.1 after
                  (front_with line after kept wrote),
            ),
          );
        }

    ends_cut_line : (after : Option (List ℕ)) (writes_then : ℕ)
        → ReadsLine rest next reads_now reads_then ahead new kind.Line → Rose writes_now writes_then
        → WritesFront written after (answered hash who.1 session new.line).text
        → Served hash who left next reads reads_then held after writes writes_then end.WriteFault
    ends_cut_line after writes_then r failed wrote =
        let line = r.told.line in
        let came = whole_lines (has.given ++ r.read) in
        ends_cut after writes_then r.read line came r.came (inl refl) (
          whole_lines new.ahead,
          whole_with r.read
              ∙ ap (λ (l : List (List ℕ)). has.done ++ l)
              (ap whole_lines r.told.text_is ∙ whole_behind line new.ahead r.told.plain)
              ∙ sym (append_assoc has.done (line ∷ []) (whole_lines new.ahead)),
        )
        r.told.kept failed wrote

    ends_cut_last : (after : Option (List ℕ)) (writes_then : ℕ)
        → ReadsLine rest next reads_now reads_then ahead new kind.Last → Rose writes_now writes_then
        → WritesFront written after (answered hash who.1 session new.line).text
        → Served hash who left next reads reads_then held after writes writes_then end.WriteFault
    ends_cut_last after writes_then r failed wrote =
        let line = ahead ++ r.read in
        ends_cut after writes_then r.read line (lines (has.given ++ r.read)) r.came
        (inr (r.told.at_end, refl)) (
          [],
          lines_with r.read
              ∙ ap (λ (l : List (List ℕ)). has.done ++ l)
              (lines_last line r.told.plain r.told.some)
              ∙ sym (append-nil (has.done ++ line ∷ [])),
        )
        r.told.kept failed wrote

    -- where no line comes
    pub ends_next : (n : Next) (e : End) → end_of n ≡ Some e
        → ReadsLine rest next reads_now reads_then ahead new n
        → Served hash who left next reads reads_then held written writes writes_now e
    ends_next kind.Line e none r = cc
    ends_next kind.Last e none r = cc
    ends_next kind.End e is r = told_as end.Done e is (ends_done r)
    ends_next kind.Fault e is r = told_as end.ReadFault e is (ends_fault r)
    ends_next kind.NoMemory e is r =
        told_as end.NoMemory e is
        (ends_short written writes_now r.read r.came (Keeps-refl written))
    ends_next kind.Endless e is r =
        told_as end.Endless e is (ends_endless r)

    -- the answer to a text that is the line
    answers_line : (text : List ℕ) (after : Option (List ℕ)) (writes_then : ℕ)
        (result : Result (Session Serving) End) → text ≡ new.line
        → AnswersLine (answered hash who.1 session text) written after writes_now writes_then result
        → AnswersLine (answered hash who.1 session new.line) written after writes_now writes_then
        result
    answers_line text after writes_then result is wrote =
        let P : List ℕ → Type 0 =
        λ l. AnswersLine (answered hash who.1 session l) written after writes_now writes_then
        result in
        subst P is wrote

    -- where a line came, and its answer wasn't written whole
    ends_answer : (n : Next) (e : End) (after : Option (List ℕ)) (writes_then : ℕ)
        → end_of n ≡ None → ReadsLine rest next reads_now reads_then ahead new n
        → AnswersLine (answered hash who.1 session new.line) written after writes_now writes_then
        (Err e)
        → Served hash who left next reads reads_then held after writes writes_then e
    ends_answer n e after writes_then comes r (inl fault) =
        told_after after writes_then end.WriteFault e (sym fault.0) (cut n comes r)
      where
        cut : (n : Next) → end_of n ≡ None → ReadsLine rest next reads_now reads_then ahead new n
            → Served hash who left next reads reads_then held after writes writes_then
            end.WriteFault
        cut kind.Line is r = ends_cut_line after writes_then r fault.1 fault.2
        cut kind.Last is r = ends_cut_last after writes_then r fault.1 fault.2
        cut kind.End none r = cc
        cut kind.Fault none r = cc
        cut kind.NoMemory none r = cc
        cut kind.Endless none r = cc
    ends_answer n e after writes_then comes r (inr short) =
        told_after after writes_then end.NoMemory e (sym short.0)
        (ends_short after writes_then r.read r.came short.1)

    -- where the last line came, and was answered
    ends_last_by : (n : Next) (after : Option (List ℕ)) (writes_then : ℕ)
        (left_session : Session Serving)
        → is_last_line n ≡ true → ReadsLine rest next reads_now reads_then ahead new n
        → AnswersLine (answered hash who.1 session new.line) written after writes_now writes_then
        (Ok left_session)
        → Served hash who left next reads reads_then held after writes writes_then end.Done
    ends_last_by kind.Last after writes_then left_session is r wrote =
        ends_last after writes_then r wrote.1
    ends_last_by kind.Line after writes_then left_session none r wrote = cc
    ends_last_by kind.End after writes_then left_session none r wrote = cc
    ends_last_by kind.Fault after writes_then left_session none r wrote = cc
    ends_last_by kind.NoMemory after writes_then left_session none r wrote = cc
    ends_last_by kind.Endless after writes_then left_session none r wrote = cc

    -- where another came, and was answered
    served_by : (n : Next) (after : Option (List ℕ)) (writes_then : ℕ)
        (left_session : Session Serving)
        → end_of n ≡ None → is_last_line n ≡ false
        → ReadsLine rest next reads_now reads_then ahead new n
        → AnswersLine (answered hash who.1 session new.line) written after writes_now writes_then
        (Ok left_session)
        → HasServed hash who left held reads writes next after reads_then writes_then (count + 1)
        new.ahead left_session
    served_by kind.Line after writes_then left_session comes is r wrote =
        served_line after writes_then left_session r wrote.0 wrote.1 wrote.2
    served_by kind.Last after writes_then left_session comes none r wrote = cc
    served_by kind.End after writes_then left_session none is r wrote = cc
    served_by kind.Fault after writes_then left_session none is r wrote = cc
    served_by kind.NoMemory after writes_then left_session none is r wrote = cc
    served_by kind.Endless after writes_then left_session none is r wrote = cc

    -- ---- the same, of the text that was answered

    pub ends_answered : (n : Next) (e : End) (after : Option (List ℕ)) (writes_then : ℕ)
        (text : List ℕ)
        → text ≡ new.line → end_of n ≡ None
        → ReadsLine rest next reads_now reads_then ahead new n
        → AnswersLine (answered hash who.1 session text) written after writes_now writes_then
        (Err e)
        → Served hash who left next reads reads_then held after writes writes_then e
    ends_answered n e after writes_then text is comes r wrote =
        ends_answer n e after writes_then comes r
        (answers_line text after writes_then (Err e) is wrote)

    pub ends_with : (n : Next) (after : Option (List ℕ)) (writes_then : ℕ)
        (left_session : Session Serving) (text : List ℕ)
        → text ≡ new.line → is_last_line n ≡ true
        → ReadsLine rest next reads_now reads_then ahead new n
        → AnswersLine (answered hash who.1 session text) written after writes_now writes_then
        (Ok left_session)
        → Served hash who left next reads reads_then held after writes writes_then end.Done
    ends_with n after writes_then left_session text is last r wrote =
        ends_last_by n after writes_then left_session last r
        (answers_line text after writes_then (Ok left_session) is wrote)

    pub served_with : (n : Next) (after : Option (List ℕ)) (writes_then : ℕ)
        (left_session : Session Serving) (text : List ℕ)
        → text ≡ new.line → end_of n ≡ None → is_last_line n ≡ false
        → ReadsLine rest next reads_now reads_then ahead new n
        → AnswersLine (answered hash who.1 session text) written after writes_now writes_then
        (Ok left_session)
        → HasServed hash who left held reads writes next after reads_then writes_then (count + 1)
        new.ahead left_session
    served_with n after writes_then left_session text is comes last r wrote =
        served_by n after writes_then left_session comes last r
        (answers_line text after writes_then (Ok left_session) is wrote)

  -- where the count of lines is at its end
  pub ends_counted : (rest written : Option (List ℕ)) (reads_now writes_now count : ℕ)
      (ahead : List ℕ) (session : Session Serving)
      → HasServed hash who left held reads writes rest written reads_now writes_now count ahead
      session
      → 18446744073709551615 ≤ count
      → Served hash who left rest reads reads_now held written writes writes_now end.Endless
  ends_counted rest written reads_now writes_now count ahead session has most = record {
    given = has.given;
    came = has.came;
    told = (
      omega (
        arith,
        has.many,
        ended_long has.done,
        ap (length {A = ℕ}) has.parts,
        length-append (ended has.done) ahead,
      ),
      (
        length has.done,
        let P : List (List ℕ) → Type 0 = λ l. Appends held written (due l) in
            subst P
            (sym
            (ap (λ (l : List (List ℕ)). take (length has.done) l)
            (ap whole_lines has.parts ∙ whole_ended has.done ahead has.plain)
            ∙ take-append_seam has.done (whole_lines ahead)))
            has.wrote,
      ),
    );
  }
