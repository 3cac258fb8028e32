-- Ways of one member: its turn, and its start.
use Rattle.std.proofs.Common.{◌≡◌, ℕ, Bool, true, List, [], ◌∷◌, ◌++◌, Some, None, filter_map, slice_get, refl, sym, ◌∙◌, ap, subst, inl, inr, ◌⊎◌, append-nil}
use Rattle.std.proofs.lemmas.Bool.{cases_eq}
use Rattle.std.proofs.lemmas.List.Elements.{filter_map-append}
use Rattle.std.proofs.lemmas.Option.{same_Some}
use Rattle.cw_types.specs.declared.event.Event.{Event}
use Rattle.cw_types.specs.declared.event.Out.{Out}
use Rattle.cw_types.specs.declared.note.Note.{Note}
use Rattle.cw_types.specs.declared.vote.Proposal.{Proposal}
use Rattle.cw_types.specs.declared.vote.Vote.{Vote}
use Rattle.cw_types.specs.declared.vote.Vote.TheVariants.{Notarize, Nullify}
use Rattle.cw_rules.specs.Accepted.{Ballot, Single, State}
use Rattle.cw_rules.specs.Held.{greatest_prune, pruned_height}
use Rattle.cw_rules.specs.Notes.{epoch_of, greatest, has_cert, has_vote}
use Rattle.cw_rules.specs.Reached.{IsCluster, ReachesClear}
use Rattle.cw_rules.specs.Rules.{Rules}
use Rattle.cw_rules.specs.Stands.{EachAfter}
use Rattle.cw_rules.specs.Step.{Member, Stepped, member_notes, state_of, step, step_notes, taken}
use Rattle.cw_rules.specs.World.{Ask, Do, Line, Sent, World, event_of, happens, member_at, sent_now, signed, with_done}
use Rattle.cw_rules.proofs.Lists.{get_front}
use Rattle.cw_rules.proofs.Worlds.{frames_join}
use Rattle.cw_progress.specs.Fresh.{IsFresh}
use Rattle.cw_progress.specs.Going.{helps}
use Rattle.cw_progress.specs.Over.{ComesToClash}
use Rattle.cw_progress.specs.Sent.{IsSent}
use Rattle.cw_progress.proofs.Fresh.{OneStarted, again, again_helps, one_started}
use Rattle.cw_progress.proofs.Over.{member_done}
use Rattle.cw_progress.proofs.Paths.{Path, clear_on, path_on}
use Rattle.cw_progress.proofs.Quiet.{AreOf, IsBy, IsFinal, step_certs, step_votes}
use Rattle.cw_progress.proofs.Rests.{IsProposing, step_each}
use Rattle.cw_progress.proofs.Stages.{Later, helps_honest, later_equal, later_same, none_mapped}
use Rattle.cw_progress.proofs.Voting.{other_same, turn_goes}
use Rattle.cw_progress.proofs.Ways.{Goes, HasSome, HasVote, NoVote, Way, way_here}

-- what was sent stays so
pub sent_on : (w u : World) (more : List Sent) → u.pool ≡ w.pool ++ more → (i : ℕ) (o : Out)
    → IsSent w i o → IsSent u i o
sent_on w u more e i o s = record {
  number = s.number;
  sent = s.sent;
  there =
      subst (λ pool. slice_get pool s.number ≡ Some s.sent) (sym e)
      (get_front w.pool more s.number s.sent s.there);
  from = s.from;
  to = s.to;
  message = s.message;
}

module _ (r : Rules) (payload : List ℕ) where
  -- only one member did something
  pub single_way : (New : Vote → Type 0) (w u : World) (j : ℕ) (n z : Member)
      → member_at w j ≡ Some n → member_at u j ≡ Some z → Path r w (helps w payload) u
      → (more : List Sent) → u.pool ≡ w.pool ++ more → Later (member_notes n) (member_notes z)
      → ((k : ℕ) → (j ≡ k → ⊥) → member_at u k ≡ member_at w k)
      → ((v : Vote) → has_cert (member_notes z) v ≡ true
      → (has_cert (member_notes n) v ≡ true) ⊎ New v)
      → ((v : Vote) → has_vote (member_notes z) v ≡ true
      → (has_vote (member_notes n) v ≡ true) ⊎ (IsFinal v ⊎ New v))
      → Way r w payload New u
  single_way New w u j n z at then_at path more pool later others certs votes = record {
    path = path;
    more = more;
    pool = pool;
    kept = λ k x h. by_kept k x h (cases_eq j k);
    back = λ k y h. by_back k y h (cases_eq j k);
    certs = λ k y h v c. by_cert k y h v c (cases_eq j k);
    votes = λ k y h v c. by_vote k y h v c (cases_eq j k);
  }
    where
      by_kept : (k : ℕ) (x : Member) → member_at w k ≡ Some x → (j ≡ k) ⊎ (j ≡ k → ⊥)
          → (y : Member) × (member_at u k ≡ Some y) × Later (member_notes x) (member_notes y)
      by_kept k x h (inl e) =
          let one : n ≡ x = same_Some n x (sym at ∙ (ap (member_at w) e ∙ h)) in (
            z,
            ap (member_at u) (sym e) ∙ then_at,
            subst (λ (q : Member). Later (member_notes q) (member_notes z)) one later,
          )
      by_kept k x h (inr d) = (x, others k d ∙ h, later_same (member_notes x))

      by_back : (k : ℕ) (y : Member) → member_at u k ≡ Some y → (j ≡ k) ⊎ (j ≡ k → ⊥)
          → (x : Member) × (member_at w k ≡ Some x)
      by_back k y h (inl e) = (n, ap (member_at w) (sym e) ∙ at)
      by_back k y h (inr d) = (y, sym (others k d) ∙ h)

      own_cert : (v : Vote) → (has_cert (member_notes n) v ≡ true) ⊎ New v → HasSome w v ⊎ New v
      own_cert v (inl c) = inl (record { number = j; member = n; there = at; noted = c })
      own_cert v (inr f) = inr f

      by_cert : (k : ℕ) (y : Member) → member_at u k ≡ Some y → (v : Vote)
          → has_cert (member_notes y) v ≡ true → (j ≡ k) ⊎ (j ≡ k → ⊥) → HasSome w v ⊎ New v
      by_cert k y h v c (inl e) =
          let one : y ≡ z = same_Some y z (sym h ∙ (ap (member_at u) (sym e) ∙ then_at)) in
          own_cert v
          (certs v (subst (λ (q : Member). has_cert (member_notes q) v ≡ true) one c))
      by_cert k y h v c (inr d) =
          inl (record { number = k; member = y; there = sym (others k d) ∙ h; noted = c })

      own_vote : (v : Vote) → (has_vote (member_notes n) v ≡ true) ⊎ (IsFinal v ⊎ New v)
          → HasVote w v ⊎ (IsFinal v ⊎ New v)
      own_vote v (inl c) = inl (record { number = j; member = n; there = at; voted = c })
      own_vote v (inr f) = inr f

      by_vote : (k : ℕ) (y : Member) → member_at u k ≡ Some y → (v : Vote)
          → has_vote (member_notes y) v ≡ true → (j ≡ k) ⊎ (j ≡ k → ⊥)
          → HasVote w v ⊎ (IsFinal v ⊎ New v)
      by_vote k y h v c (inl e) =
          let one : y ≡ z = same_Some y z (sym h ∙ (ap (member_at u) (sym e) ∙ then_at)) in
          own_vote v
          (votes v (subst (λ (q : Member). has_vote (member_notes q) v ≡ true) one c))
      by_vote k y h v c (inr d) =
          inl (record { number = k; member = y; there = sym (others k d) ∙ h; voted = c })

  -- a step that hides no block leaves its notes, and maybe more
  pub step_later : (id : ℕ) (sign : ℕ → Vote → Bool) (n : Member) (e : Event)
      → ((h : ℕ) → e ≡ Event.Prune h → ⊥)
      → Later (member_notes n) (member_notes (step r id sign n e).member)
  step_later id sign n e keeps = record {
    more = notes;
    joined = frames_join n.frames notes;
    prune =
        ap greatest_prune (frames_join n.frames notes)
        ∙ ap greatest
        (filter_map-append pruned_height (member_notes n) notes
        ∙ (ap (λ hs. filter_map pruned_height (member_notes n) ++ hs)
        (none_mapped pruned_height (member_notes n) notes all)
        ∙ append-nil (filter_map pruned_height (member_notes n))));
  }
    where
      during : State
      during = taken r sign (state_of n) e

      notes : List Note
      notes = step_notes r id during e

      all : EachAfter (λ front x. pruned_height x ≡ None) during.notes notes
      all =
          step_each (λ front x. pruned_height x ≡ None) r id during e (record {
            of_block = λ ns c b. refl;
            of_verified = λ ns epoch view c. refl;
            of_notarize = λ ns p o. refl;
            of_finalize = λ ns p. refl;
            of_certified = λ ns p. refl;
            of_epoch = λ ns epoch c. refl;
            of_nullify = λ view is q. refl;
            of_ack = λ h at. refl;
            of_prune = λ h a is l o. absurd (keeps h is);
            of_cert = λ ns v signers h. refl;
            of_floor = λ ns c b at o m h. refl;
          })

  -- a turn of a member to which only such ballots came
  pub turn_way : (P : Ballot → Type 0) (New : Vote → Type 0)
      → ((i : ℕ) (p : Proposal) → P (Single i (Notarize p)) → ⊥)
      → ((v : Vote) → IsBy P v → New v)
      → (script : List Line) (w : World) → IsCluster r script → ReachesClear r script w
      → (j : ℕ) (n : Member) → member_at w j ≡ Some n → n.live ≡ true → (ask : Ask) (e : Event)
      → event_of w j ask ≡ Some e → helps w payload (Do j ask) ≡ true → (IsProposing e → ⊥)
      → ((h : ℕ) → e ≡ Event.Prune h → ⊥)
      → ((view : ℕ) → e ≡ Event.Timeout view
      → New (Nullify (epoch_of (member_notes n)) view))
      → AreOf P (taken r (signed w) (state_of n) e).came
      → Goes r w payload New (λ u. u ≡ with_done w j (step r j (signed w) n e))
      ⊎ ComesToClash r w (helps w payload)
  turn_way P New unproposed new script w cluster clear j n at live ask e is fits plain keeps
      timed are =
      go
      (path_on r w (helps w payload) (helps_honest w payload) w
      (way_here r payload NoVote script w cluster clear).path (Do j ask) fits)
    where
      done : Stepped
      done = step r j (signed w) n e

      u : World
      u = with_done w j done

      goes : happens r w (Do j ask) ≡ u
      goes = turn_goes r w j n ask e at live is

      by_cert : (v : Vote) → (has_cert (member_notes n) v ≡ true) ⊎ IsBy P v
          → (has_cert (member_notes n) v ≡ true) ⊎ New v
      by_cert v (inl h) = inl h
      by_cert v (inr h) = inr (new v h)

      by_vote : (v : Vote)
          → (has_vote (member_notes n) v ≡ true)
          ⊎ (IsFinal v
          ⊎ ((view : ℕ) × (e ≡ Event.Timeout view)
          × (v ≡ Nullify (epoch_of (member_notes n)) view)))
          → (has_vote (member_notes n) v ≡ true) ⊎ (IsFinal v ⊎ New v)
      by_vote v (inl h) = inl h
      by_vote v (inr (inl h)) = inr (inl h)
      by_vote v (inr (inr (view, f, same))) = inr (inr (subst New (sym same) (timed view f)))

      way : Path r w (helps w payload) (happens r w (Do j ask)) → Way r w payload New u
      way path =
          single_way New w u j n done.member at (member_done w j n done at)
          (subst (Path r w (helps w payload)) goes path) (sent_now w j done.sent) refl
          (step_later j (signed w) n e keeps) (other_same w j done)
          (λ v h. by_cert v (step_certs P r script cluster j (signed w) n e are v h))
          (λ v h. by_vote v
          (step_votes P r script cluster j unproposed (signed w) n e plain are v h))

      go : Path r w (helps w payload) (happens r w (Do j ask))
          ⊎ ComesToClash r w (helps w payload)
          → Goes r w payload New (λ v. v ≡ with_done w j (step r j (signed w) n e))
          ⊎ ComesToClash r w (helps w payload)
      go (inr clash) = inr clash
      go (inl path) = inl (record { world = u; way = way path; holds = refl })

  -- where a member's start leads: it has its notes, nothing has come to it, and the others stand as
  -- they stood
  pub record Idles (w : World) (j : ℕ) (n : Member) (u : World) : Type 0 where
    pub fresh : IsFresh u j (member_notes n)
    pub others : (k : ℕ) → (j ≡ k → ⊥) → member_at u k ≡ member_at w k

  pub restart_way : (script : List Line) (w : World) → IsCluster r script
      → ReachesClear r script w → (j : ℕ) (n : Member) → member_at w j ≡ Some n
      → Goes r w payload NoVote (Idles w j n)
  restart_way script w cluster clear j n at = by_start (one_started r w j)
    where
      by_start : OneStarted r w j → Goes r w payload NoVote (Idles w j n)
      by_start k =
          by_clear
          (clear_on r script w k.world (again r (j ∷ [])) cluster clear (refl, (refl, tt)) k.ends)
        where
          f : IsFresh k.world j (member_notes n)
          f = k.it n at

          by_clear : ((longer : List Line) × IsCluster r longer × ReachesClear r longer k.world)
              → Goes r w payload NoVote (Idles w j n)
          by_clear (longer, among, still) = record {
            world = k.world;
            way =
                single_way NoVote w k.world j n f.member at f.there
                (record {
                  lines = again r (j ∷ []);
                  are = again_helps r w payload (j ∷ []);
                  ends = k.ends;
                  script = longer;
                  cluster = among;
                  clear = still;
                })
                k.more k.pool (later_equal (member_notes n) (member_notes f.member) f.same)
                k.others (λ v h. inl (subst (λ ns. has_cert ns v ≡ true) f.same h))
                (λ v h. inl (subst (λ ns. has_vote ns v ≡ true) f.same h));
            holds = record { fresh = f; others = k.others };
          }
