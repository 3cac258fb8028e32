-- Who votes to nullify a view is one of its epoch.
use Rattle.std.proofs.Common.{◌≡◌, ℕ, ◌-◌, ◌^◌, Bool, true, false, ◌&&◌, ◌==◌, not, nat_lt, List, [], ◌∷◌, ◌++◌, Some, refl, sym, ◌∙◌, ap, subst, inl, inr, ◌⊎◌, append-nil}
use Rattle.std.proofs.lemmas.Bool.{cases_Bool, cond-false}
use Rattle.cw_types.specs.declared.event.Event.{Event}
use Rattle.cw_types.specs.declared.note.Note.{Note}
use Rattle.cw_types.specs.declared.vote.Vote.TheVariants.{Nullify}
use Rattle.cw_types.specs.Epochs.{is_member}
use Rattle.cw_rules.specs.Accepted.{State}
use Rattle.cw_rules.specs.Notes.{epoch_of, has_vote, view_of}
use Rattle.cw_rules.specs.Owed.{has_closed}
use Rattle.cw_rules.specs.Reached.{IsCluster, Reaches}
use Rattle.cw_rules.specs.Rules.{Rules}
use Rattle.cw_rules.specs.Stands.{EachAfter}
use Rattle.cw_rules.specs.Step.{Member, marks, member_notes, settle, state_of, step_notes, taken, with_notes}
use Rattle.cw_rules.specs.World.{Line, World, member_at, signed}
use Rattle.cw_rules.proofs.Worlds.{member_there}
use Rattle.cw_progress.proofs.Carries.{AnyLine, Writes, any_lines, each_at, reached_all, writes_carry}
use Rattle.cw_progress.proofs.Rests.{Rests, settle_each, step_each}
use Rattle.cw_progress.proofs.Valid.{vote_in}

-- a vote to nullify is of an epoch that its member is one of
abbrev Belongs : Rules → ℕ → List Note → Note → Type 0
Belongs r i before (Note.Vote (Nullify epoch view)) = is_member r.epochs epoch i ≡ true
Belongs r i before _ = Unit {0}

-- what a step writes where no timer runs out, or where the member is one of its epoch
rests : (r : Rules) (i : ℕ) (s : State) (e : Event)
    → ((view : ℕ) → e ≡ Event.Timeout view → is_member r.epochs (epoch_of s.notes) i ≡ true)
    → Rests (Belongs r i) r i s e
rests r i s e by_time = record {
  of_block = λ ns c b. tt;
  of_verified = λ ns epoch view c. tt;
  of_notarize = λ ns p o. tt;
  of_finalize = λ ns p. tt;
  of_certified = λ ns p. tt;
  of_epoch = λ ns epoch c. tt;
  of_nullify = λ view is q. by_time view is;
  of_ack = λ h at. tt;
  of_prune = λ h a is l o. tt;
  of_cert = λ ns v signers o. tt;
  of_floor = λ ns c b at o n h. tt;
}

step_belongs : (r : Rules) (i : ℕ) (s : State) (e : Event)
    → EachAfter (Belongs r i) s.notes (step_notes r i s e)
step_belongs r i s (Event.Timeout view) =
    go (cases_Bool (is_member r.epochs (epoch_of s.notes) i))
  where
    epoch : ℕ
    epoch = epoch_of s.notes

    note : List Note
    note = Note.Vote (Nullify epoch view) ∷ []

    written : List Note → List Note
    written first = first ++ settle r i (marks (with_notes s first)) (with_notes s first)

    go : (is_member r.epochs (epoch_of s.notes) i ≡ true)
        ⊎ (is_member r.epochs (epoch_of s.notes) i ≡ false)
        → EachAfter (Belongs r i) s.notes (step_notes r i s (Event.Timeout view))
    go (inl t) =
        step_each (Belongs r i) r i s (Event.Timeout view)
        (rests r i s (Event.Timeout view) (λ v is. t))
    go (inr f) =
        let a = (view == view_of s.notes epoch) && nat_lt view (2 ^ 64 - 1) in
        let no : (a && is_member r.epochs epoch i && not (has_closed s.notes epoch view)) ≡ false =
        ap (λ b. a && b && not (has_closed s.notes epoch view)) f
        ∙ (ap (λ b. b && not (has_closed s.notes epoch view)) (never a) ∙ refl) in
        subst (λ first. EachAfter (Belongs r i) s.notes (written first))
        (sym (cond-false _ note [] no))
        (subst
        (λ ns. EachAfter (Belongs r i) ns
        (settle r i (marks (with_notes s [])) (with_notes s [])))
        (append-nil s.notes)
        (settle_each (Belongs r i) r i s Event.Ack
        (rests r i s Event.Ack (λ v is. absurd (cc is)))
        (marks (with_notes s [])) (s.notes ++ [])))
      where
        never : (b : Bool) → (b && false) ≡ false
        never true = refl
        never false = refl
step_belongs r i s e =
    step_each (Belongs r i) r i s e (rests r i s e (λ view is. absurd (cc is)))

module _ (r : Rules) (script : List Line) (w : World) (cluster : IsCluster r script)
    (reach : Reaches r script w) where
  -- who has voted to nullify a view is one of its epoch
  pub nullifier_belongs : (i : ℕ) (m : Member) → member_at w i ≡ Some m → (epoch view : ℕ)
      → has_vote (member_notes m) (Nullify epoch view) ≡ true → is_member r.epochs epoch i ≡ true
  nullifier_belongs i m at epoch view h =
      let (front, rest, joined, k) =
      each_at (Belongs r i) [] (member_notes m) (Note.Vote (Nullify epoch view))
      (reached_all r script AnyLine (λ u j n. EachAfter (Belongs r j) [] (member_notes n))
      (writes_carry r script AnyLine (λ u j. Belongs r j) belongs_writes) w cluster
      (any_lines script) reach i m (member_there w i m at))
      (vote_in (Nullify epoch view) (member_notes m) h) in
      k
    where
      same_note : (j : ℕ) (before : List Note) (n : Note) → Belongs r j before n
          → Belongs r j before n
      same_note j before n x = x

      belongs_writes : Writes r script AnyLine (λ u j. Belongs r j)
      belongs_writes = record {
        stays = λ u v j before n e x. same_note j before n x;
        written = λ u j n e t. step_belongs r j (taken r (signed u) (state_of n) e) e;
      }
