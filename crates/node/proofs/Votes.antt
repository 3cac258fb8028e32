-- A member doesn't vote twice, whatever crashes.
use Rattle.std.proofs.Common.{◌≡◌, ℕ, ◌+◌, ◌≤◌, Bool, true, false, ◌&&◌, ◌||◌, ◌==◌, cond, List, [], ◌∷◌, ◌++◌, Option, Some, None, IsTrue, count_by, flat_map, refl, sym, ◌∙◌, ap, subst, inl, inr, ◌⊎◌, arith, append_assoc, append-nil, eqb-true}
use Rattle.std.specs.Prelude.{not}
use Rattle.std.specs.List.{AllByRecursion, list_any}
use Rattle.std.specs.Option.{option_map_or}
use Rattle.std.proofs.lemmas.Bool.{and_parts, or_cases, or_left, or_right, false≢true}
use Rattle.std.proofs.lemmas.List.Folds.{list_any-append}
use Rattle.std.proofs.lemmas.List.Sums.{sum_by-append, sum_by-cons}
use Rattle.cw_types.specs.Votes.{finalized, vote_epoch, vote_view, well_formed}
use Rattle.cw_types.specs.Epochs.{is_member}
use Rattle.cw_types.specs.declared.event.Event.{Event}
use Rattle.cw_types.specs.declared.message.Message.{Message}
use Rattle.cw_types.specs.declared.note.Note.{Note}
use Rattle.cw_types.specs.declared.vote.Cert.{Cert}
use Rattle.cw_types.specs.declared.vote.Proposal.{Proposal}
use Rattle.cw_types.specs.declared.vote.Vote.{Vote}
use Rattle.cw_types.specs.declared.vote.Vote.TheVariants.{Finalize, Notarize, Nullify}
use Rattle.cw_rules.specs.Accepted.{Ballot, Came, Many, Part, Row, Single, State, Whole, accepted, add_wish, is_chunk_of, is_valid, same_ballot, same_part, take_ballot, take_part, wish_for, wished}
use Rattle.cw_rules.specs.Keeps.{AreAlong, IsRising, IsSound, Keeps, KeepsBy, Meaning}
use Rattle.cw_rules.specs.Owed.{closes, has_closed, has_voted, is_of, votes_in}
use Rattle.cw_rules.specs.Rules.{Rules}
use Rattle.cw_rules.specs.Stands.{EachAfter}
use Rattle.cw_rules.specs.Step.{Member, add_frame, member_notes, start, state_of, step, step_notes, taken, taken_came}
use Rattle.cw_rules.proofs.NoteLemmas.{any_weaker}
use Rattle.marshal.proofs.Joins.{joins_one}
use Rattle.node.specs.Lives.{Life, Turn, VotesOnce, after_lives, after_turns, finalizes, notarizes, nullifies, since_start}

-- each vote is backed, and each certificate holds
abbrev pub anything : Meaning
anything = record { backs = λ i v. true; holds = λ v. true }

pub along : (r : Rules) (id : ℕ) → AreAlong r (λ notes. anything) id
along r id =
    record {
      closed = λ notes v signers a b d. refl;
      grows = λ notes more b s. s;
      own = λ notes v h. refl;
    }

-- ---- what came is well formed

-- each vote that came is well formed
abbrev pub IsFormed : Came → Type 0
IsFormed came = AllByRecursion (IsSound anything) came.ballots

formed_push : (bs : List Ballot) (b : Ballot) → AllByRecursion (IsSound anything) bs
    → IsSound anything b → AllByRecursion (IsSound anything) (bs ++ b ∷ [])
formed_push [] b a s = (s, tt)
formed_push (x ∷ xs) b a s = (a.0, formed_push xs b a.1 s)

ballot_formed : (came : Came) (fits : Bool) (b : Ballot) → IsFormed came
    → (fits ≡ true → IsSound anything b) → IsFormed (take_ballot came fits b)
ballot_formed came fits b a f =
    go (fits && not (list_any (same_ballot b) came.ballots))
    (λ t. (and_parts fits (not (list_any (same_ballot b) came.ballots)) t).0)
  where
    go : (taken : Bool) → (taken ≡ true → fits ≡ true)
        → IsFormed (cond taken (record {
          ballots = came.ballots ++ b ∷ [];
          parts = came.parts;
          wishes = came.wishes;
        }) came)
    go true t = formed_push came.ballots b a (f (t refl))
    go false t = a

part_formed : (came : Came) (fits : Bool) (p : Part) → IsFormed came
    → IsFormed (take_part came fits p)
part_formed came fits p a = go (fits && not (list_any (same_part p) came.parts))
  where
    go : (taken : Bool) → IsFormed (cond taken (record {
      ballots = came.ballots;
      parts = came.parts ++ p ∷ [];
      wishes = came.wishes;
    }) came)
    go true = a
    go false = a

accepted_formed : (r : Rules) (signed : ℕ → Vote → Bool) (came : Came) (m : Message) → IsFormed came
    → IsFormed (accepted r signed came m)
accepted_formed r signed came (Message.Vote i v) a =
    ballot_formed came (is_member r.epochs (vote_epoch v) i && well_formed v && signed i v)
    (Single i v) a (λ t.
    let p = and_parts (is_member r.epochs (vote_epoch v) i && well_formed v) (signed i v) t in
    ((and_parts (is_member r.epochs (vote_epoch v) i) (well_formed v) p.0).1, refl))
accepted_formed r signed came (Message.Cert s) a =
    ballot_formed came (is_valid r signed s) (Many s) a (λ t. refl)
accepted_formed r signed came (Message.Shard c x) a =
    part_formed came (is_chunk_of r c x) (Row c x) a
accepted_formed r signed came (Message.Block b) a = part_formed came true (Whole b) a
accepted_formed r signed came _ a = a

wished_formed : (r : Rules) (signed : ℕ → Vote → Bool) (came : Came) (s : Cert) → IsFormed came
    → IsFormed (wished r signed came s)
wished_formed r signed came s a = by_proposal (finalized s.vote)
  where
    by_valid : (p : Proposal) (valid : Bool)
        → IsFormed (cond valid (add_wish (take_ballot came true (Many s)) p.payload) came)
    by_valid p true = ballot_formed came true (Many s) a (λ t. refl)
    by_valid p false = a

    by_proposal : (o : Option Proposal) → IsFormed (option_map_or (wish_for r signed came s) o came)
    by_proposal None = a
    by_proposal (Some p) = by_valid p (is_valid r signed s)

pub taken_formed : (r : Rules) (signed : ℕ → Vote → Bool) (came : Came) (e : Event) → IsFormed came
    → IsFormed (taken_came r signed came e)
taken_formed r signed came (Event.Deliver m) a = accepted_formed r signed came m a
taken_formed r signed came (Event.Floor s) a = wished_formed r signed came s a
taken_formed r signed came _ a = a

-- ---- one note more

is_at : (epoch view : ℕ) (v : Vote) → is_of epoch view v ≡ true
    → (vote_epoch v ≡ epoch) × (vote_view v ≡ view)
is_at epoch view v h =
    let p = and_parts (vote_epoch v == epoch) (vote_view v == view) h in
    (eqb-true (vote_epoch v) epoch p.0, eqb-true (vote_view v) view p.1)

at_last : (p : Note → Bool) (notes : List Note) (note : Note)
    → list_any p (notes ++ note ∷ []) ≡ true → (list_any p notes ≡ true) ⊎ (p note ≡ true)
at_last p notes note h =
    go
    (or_cases (list_any p notes) (list_any p (note ∷ []))
    (sym (list_any-append p notes (note ∷ [])) ∙ h))
  where
    go : (list_any p notes ≡ true) ⊎ ((p note || false) ≡ true)
        → (list_any p notes ≡ true) ⊎ (p note ≡ true)
    go (inl a) = inl a
    go (inr b) = inr (last (or_cases (p note) false b))
      where
        last : (p note ≡ true) ⊎ (false ≡ true) → p note ≡ true
        last (inl c) = c
        last (inr f) = absurd (false≢true f)

counted : (p : Note → Bool) (notes : List Note) (note : Note) (b : Bool) → p note ≡ b
    → count_by p (notes ++ note ∷ []) ≡ count_by p notes + cond b 1 0
counted p notes note b e =
    let all = sum_by-append (λ x. cond (p x) 1 0) notes (note ∷ []) in
    let last = sum_by-cons (λ x. cond (p x) 1 0) note [] in
    let one : ◌≡◌ {A = ℕ} (cond (p note) 1 0) (cond b 1 0) = ap (λ x. cond x 1 0) e in
    omega (arith, all, last, one)

none_counted : (p q : Note → Bool) → ((note : Note) → p note ≡ true → q note ≡ true)
    → (notes : List Note) → list_any q notes ≡ false → count_by p notes ≡ 0
none_counted p q f [] none = refl
none_counted p q f (note ∷ notes) none = go (p note) refl (none_counted p q f notes)
  where
    rest : list_any q notes ≡ false
    rest = by (list_any q notes) refl
      where
        by : (b : Bool) → list_any q notes ≡ b → list_any q notes ≡ false
        by true e = absurd (false≢true (sym none ∙ or_right (q note) (list_any q notes) e))
        by false e = e

    go : (b : Bool) → p note ≡ b → (list_any q notes ≡ false → count_by p notes ≡ 0)
        → count_by p (note ∷ notes) ≡ 0
    go true e later =
        absurd (false≢true (sym none ∙ or_left (q note) (list_any q notes) (f note e)))
    go false e later =
        let one : ◌≡◌ {A = ℕ} (cond (p note) 1 0) 0 = ap (λ x. cond x 1 0) e in
        omega (arith, sum_by-cons (λ x. cond (p x) 1 0) note notes, one, later rest)

notarize_votes : (epoch view : ℕ) (note : Note) → notarizes epoch view note ≡ true
    → votes_in epoch view note ≡ true
notarize_votes epoch view (Note.Vote (Notarize p)) h = h
notarize_votes epoch view (Note.Vote (Nullify e v)) h = absurd (false≢true h)
notarize_votes epoch view (Note.Vote (Finalize p)) h = absurd (false≢true h)
notarize_votes epoch view _ h = absurd (false≢true h)

nullify_closes : (epoch view : ℕ) (note : Note) → nullifies epoch view note ≡ true
    → closes epoch view note ≡ true
nullify_closes epoch view (Note.Vote (Nullify e v)) h = h
nullify_closes epoch view (Note.Vote (Notarize p)) h = absurd (false≢true h)
nullify_closes epoch view (Note.Vote (Finalize p)) h = absurd (false≢true h)
nullify_closes epoch view _ h = absurd (false≢true h)

finalize_closes : (epoch view : ℕ) (note : Note) → finalizes epoch view note ≡ true
    → closes epoch view note ≡ true
finalize_closes epoch view (Note.Vote (Finalize p)) h = h
finalize_closes epoch view (Note.Vote (Notarize p)) h = absurd (false≢true h)
finalize_closes epoch view (Note.Vote (Nullify e v)) h = absurd (false≢true h)
finalize_closes epoch view _ h = absurd (false≢true h)

-- what each kind of vote keeps: none of the view before it, or none that closes it
notarize_first : (r : Rules) (before : List Note) (note : Note) → Keeps r anything before note
    → (epoch view : ℕ) → notarizes epoch view note ≡ true → has_voted before epoch view ≡ false
notarize_first r before (Note.Vote (Notarize p)) k epoch view h =
    let at = is_at epoch view (Notarize p) h in
    subst (λ x. has_voted before epoch x ≡ false) at.1
    (subst (λ x. has_voted before x p.view ≡ false) at.0 k.1)
notarize_first r before (Note.Vote (Nullify e v)) k epoch view h = absurd (false≢true h)
notarize_first r before (Note.Vote (Finalize p)) k epoch view h = absurd (false≢true h)
notarize_first r before _ k epoch view h = absurd (false≢true h)

nullify_first : (r : Rules) (before : List Note) (note : Note) → Keeps r anything before note
    → (epoch view : ℕ) → nullifies epoch view note ≡ true → has_closed before epoch view ≡ false
nullify_first r before (Note.Vote (Nullify e v)) k epoch view h =
    let at = is_at epoch view (Nullify e v) h in
    subst (λ x. has_closed before epoch x ≡ false) at.1
    (subst (λ x. has_closed before x v ≡ false) at.0 k.1)
nullify_first r before (Note.Vote (Notarize p)) k epoch view h = absurd (false≢true h)
nullify_first r before (Note.Vote (Finalize p)) k epoch view h = absurd (false≢true h)
nullify_first r before _ k epoch view h = absurd (false≢true h)

finalize_first : (r : Rules) (before : List Note) (note : Note) → Keeps r anything before note
    → (epoch view : ℕ) → finalizes epoch view note ≡ true → has_closed before epoch view ≡ false
finalize_first r before (Note.Vote (Finalize p)) k epoch view h =
    let at = is_at epoch view (Finalize p) h in
    subst (λ x. has_closed before epoch x ≡ false) at.1
    (subst (λ x. has_closed before x p.view ≡ false) at.0 k.1)
finalize_first r before (Note.Vote (Notarize p)) k epoch view h = absurd (false≢true h)
finalize_first r before (Note.Vote (Nullify e v)) k epoch view h = absurd (false≢true h)
finalize_first r before _ k epoch view h = absurd (false≢true h)

-- no note is both
never_both : (epoch view : ℕ) (note : Note) → nullifies epoch view note ≡ true
    → finalizes epoch view note ≡ true → ⊥
never_both epoch view (Note.Vote (Nullify e v)) a b = false≢true b
never_both epoch view (Note.Vote (Notarize p)) a b = false≢true a
never_both epoch view (Note.Vote (Finalize p)) a b = false≢true a
never_both epoch view _ a b = false≢true a

once_more : (r : Rules) (before : List Note) (note : Note) → Keeps r anything before note
    → VotesOnce before → VotesOnce (before ++ note ∷ [])
once_more r before note k once = record { one_notarize = one; not_both = both }
  where
    one : (epoch view : ℕ) → count_by (notarizes epoch view) (before ++ note ∷ []) ≤ 1
    one epoch view = go (notarizes epoch view note) refl
      where
        go : (b : Bool) → notarizes epoch view note ≡ b
            → count_by (notarizes epoch view) (before ++ note ∷ []) ≤ 1
        go true e =
            let none =
            none_counted (notarizes epoch view) (votes_in epoch view)
            (notarize_votes epoch view) before
            (notarize_first r before note k epoch view e) in
            omega (arith, counted (notarizes epoch view) before note true e, none)
        go false e =
            omega (
              arith,
              counted (notarizes epoch view) before note false e,
              once.one_notarize epoch view,
            )

    both : (epoch view : ℕ) → IsTrue (list_any (nullifies epoch view) (before ++ note ∷ []))
        → IsTrue (list_any (finalizes epoch view) (before ++ note ∷ [])) → ⊥
    both epoch view n f =
        go (at_last (nullifies epoch view) before note n)
        (at_last (finalizes epoch view) before note f)
      where
        go : (list_any (nullifies epoch view) before ≡ true) ⊎ (nullifies epoch view note ≡ true)
            → (list_any (finalizes epoch view) before ≡ true) ⊎ (finalizes epoch view note ≡ true)
            → ⊥
        go (inl a) (inl b) = once.not_both epoch view a b
        go (inl a) (inr b) =
            false≢true
            (sym (finalize_first r before note k epoch view b)
            ∙ any_weaker (nullifies epoch view) (closes epoch view)
            (nullify_closes epoch view) before a)
        go (inr a) (inl b) =
            false≢true
            (sym (nullify_first r before note k epoch view a)
            ∙ any_weaker (finalizes epoch view) (closes epoch view)
            (finalize_closes epoch view) before b)
        go (inr a) (inr b) = never_both epoch view note a b

once_all : (r : Rules) (before notes : List Note)
    → EachAfter (KeepsBy r (λ l. anything)) before notes → VotesOnce before
    → VotesOnce (before ++ notes)
once_all r before [] each once = subst VotesOnce (sym (append-nil before)) once
once_all r before (note ∷ notes) each once =
    subst VotesOnce (append_assoc before (note ∷ []) notes)
    (once_all r (before ++ note ∷ []) notes each.1 (once_more r before note each.0 once))

-- ---- steps, starts and lives

-- the notes of frames with one more
pub frame_added : (frames : List (List Note)) (notes : List Note)
    → flat_map (λ (frame : List Note). frame) (add_frame frames notes)
    ≡ flat_map (λ (frame : List Note). frame) frames ++ notes
frame_added frames [] = sym (append-nil (flat_map (λ (frame : List Note). frame) frames))
frame_added frames (note ∷ notes) = joins_one frames (note ∷ notes)

-- a law on the notes of a step, as that of cw_rules' members
abbrev pub StepLaw : Type 0
StepLaw =
    (r : Rules) (id : ℕ) → IsRising r → (s : State) (e : Event) → IsFormed s.came
    → EachAfter (KeepsBy r (λ l. anything)) s.notes (step_notes r id s e)

module _ (law : StepLaw) (id : ℕ) where
  turn_once : (r : Rules) → IsRising r → (m : Member) (turn : Turn) → IsFormed m.came
      → VotesOnce (member_notes m)
      → VotesOnce (member_notes (step r id turn.signed m turn.event).member)
  turn_once r rising m turn formed once =
      let during = taken r turn.signed (state_of m) turn.event in
      let notes = step_notes r id during turn.event in
      let keeps =
      law r id rising during turn.event (taken_formed r turn.signed m.came turn.event formed) in
      subst VotesOnce (sym (frame_added m.frames notes))
      (once_all r (member_notes m) notes keeps once)

  turns_once : (r : Rules) → IsRising r → (m : Member) (turns : List Turn) → IsFormed m.came
      → VotesOnce (member_notes m)
      → VotesOnce (member_notes (after_turns r id m turns))
  turns_once r rising m [] formed once = once
  turns_once r rising m (turn ∷ turns) formed once =
      turns_once r rising (step r id turn.signed m turn.event).member turns
      (taken_formed r turn.signed m.came turn.event formed)
      (turn_once r rising m turn formed once)

  pub lives_once : (frames : List (List Note)) (lives : List Life)
      → AllByRecursion (λ (life : Life). IsRising life.rules) lives
      → VotesOnce (flat_map (λ (frame : List Note). frame) frames)
      → VotesOnce (flat_map (λ (frame : List Note). frame) (after_lives id frames lives))
  lives_once frames [] rising once = once
  lives_once frames (life ∷ lives) rising once =
      lives_once (since_start life.rules id frames life.turns).frames lives rising.1
      (turns_once life.rules rising.0 (start life.rules id frames).member life.turns tt once)
