-- Deliveries to one member that gives and to one that takes, one after another.
use Rattle.std.proofs.Common.{◌≡◌, ℕ, zero, suc, ◌<◌, ◌≤◌, Bool, true, false, nat_le, length, slice_get, arith, length-append, List, [], ◌∷◌, ◌++◌, Option, Some, None, filter_map, refl, sym, ◌∙◌, ap, subst, inl, inr, ◌⊎◌, append_assoc, append-nil}
use Rattle.std.specs.List.{AllByRecursion, cons_option}
use Rattle.std.specs.Option.{option_map_or}
use Rattle.std.proofs.lemmas.Bool.{cases_lt, false≢true, le-leb, or_left, or_right}
use Rattle.std.proofs.lemmas.List.Elements.{filter_map-append}
use Rattle.cw_types.specs.declared.commitment.Commitment.{Commitment}
use Rattle.cw_types.specs.declared.event.Event.{Event}
use Rattle.cw_types.specs.declared.event.Out.{Out}
use Rattle.cw_types.specs.declared.message.Message.{Message}
use Rattle.cw_types.specs.declared.note.Note.{Note}
use Rattle.cw_types.specs.declared.vote.Cert.{Cert}
use Rattle.cw_types.specs.declared.vote.Proposal.{Proposal}
use Rattle.cw_types.specs.declared.vote.Vote.{Vote}
use Rattle.cw_types.specs.declared.vote.Vote.TheVariants.{Nullify}
use Rattle.cw_types.specs.Block.{Block}
use Rattle.cw_types.specs.Votes.{finalized}
use Rattle.cw_rules.specs.Accepted.{Ballot, Came, Many, Single, State, Whole}
use Rattle.cw_rules.specs.Held.{floor_height, greatest_floor, greatest_prune, held}
use Rattle.cw_rules.specs.Chains.{Ends, outcome}
use Rattle.cw_rules.specs.Notes.{epoch_of, greatest, has_cert, has_vote, settled}
use Rattle.cw_rules.specs.Reached.{In, IsCluster, Reaches, ReachesClear}
use Rattle.cw_rules.specs.Rules.{Rules}
use Rattle.cw_rules.specs.Sends.{missing, to_all}
use Rattle.cw_rules.specs.Stands.{EachAfter}
use Rattle.cw_rules.specs.Step.{Member, Stepped, member_notes, state_of, step, step_notes, taken, taken_came}
use Rattle.cw_rules.specs.World.{Ask, Cut, Do, Faulty, Line, Restart, Sent, World, happens, is_to, member_at, sent_now, signed, with_done}
use Rattle.cw_rules.proofs.Lists.{in_left}
use Rattle.cw_rules.proofs.Worlds.{frames_join, member_there}
use Rattle.cw_progress.specs.Fresh.{IsFresh}
use Rattle.cw_progress.specs.Going.{helps, is_ballot}
use Rattle.cw_progress.specs.Over.{ComesTo, ComesToClash, is_honest_line}
use Rattle.cw_progress.specs.Sent.{IsSent}
use Rattle.cw_progress.proofs.Finals.{held_on, settled_stays}
use Rattle.cw_progress.proofs.Carries.{extends_done}
use Rattle.cw_progress.proofs.Fresh.{OneStarted, again, one_started}
use Rattle.cw_progress.proofs.Noted.{noted_sent, step_asks}
use Rattle.cw_progress.proofs.Outs.{IsNew, new_done, new_lower, new_stays}
use Rattle.cw_progress.proofs.Over.{cert_step, delivery_happens, delivery_keeps, member_done}
use Rattle.cw_progress.proofs.Paths.{Path, clear_on, clear_reaches, ends_run, outcome_both, path_on}
use Rattle.cw_progress.proofs.Rests.{step_each}
use Rattle.cw_progress.proofs.Taken.{wholes_taken, wishes_taken}
use Rattle.cw_progress.proofs.Quiet.{AreOf, IsBy, IsFinal, IsOf, came_of, step_certs, step_votes}
use Rattle.cw_progress.proofs.Valid.{cert_has, noted_valid}
use Rattle.cw_progress.proofs.Voting.{other_same, other_stands}

-- ---- what a delivery leaves

pub none_mapped : (f : Note → Option ℕ) (before notes : List Note)
    → EachAfter (λ front n. f n ≡ None) before notes → filter_map f notes ≡ []
none_mapped f before [] e = refl
none_mapped f before (n ∷ ns) e =
    ap (λ o. cons_option o (filter_map f ns)) e.0 ∙ none_mapped f (before ++ n ∷ []) ns e.1

-- where no floor is wished for it gives up no height
pub delivery_floors : (r : Rules) (id : ℕ) (s : State) (m : Message)
    → ((c : Commitment) → In c s.came.wishes → ⊥)
    → greatest_floor (s.notes ++ step_notes r id s (Event.Deliver m)) ≡ greatest_floor s.notes
delivery_floors r id s m wishless =
    ap greatest
    (filter_map-append floor_height s.notes (step_notes r id s (Event.Deliver m))
    ∙ (ap (λ hs. filter_map floor_height s.notes ++ hs)
    (none_mapped floor_height s.notes (step_notes r id s (Event.Deliver m)) all)
    ∙ append-nil (filter_map floor_height s.notes)))
  where
    all : EachAfter (λ front n. floor_height n ≡ None) s.notes
        (step_notes r id s (Event.Deliver m))
    all =
        step_each (λ front n. floor_height n ≡ None) r id s (Event.Deliver m) (record {
          of_block = λ ns c b. refl;
          of_verified = λ ns epoch view c. refl;
          of_notarize = λ ns p o. refl;
          of_finalize = λ ns p. refl;
          of_certified = λ ns p. refl;
          of_epoch = λ ns epoch c. refl;
          of_nullify = λ view is e. refl;
          of_ack = λ h at. refl;
          of_prune = λ h a is l o. refl;
          of_cert = λ ns v signers h. refl;
          of_floor = λ ns c b at o n h. absurd (wishless c at);
        })

-- nor does it bring a wish for one
pub delivery_wishes : (r : Rules) (sign : ℕ → Vote → Bool) (came : Came) (m : Message)
    (c : Commitment)
    → In c (taken_came r sign came (Event.Deliver m)).wishes → In c came.wishes
delivery_wishes r sign came m c h = go (wishes_taken r sign came (Event.Deliver m) c h)
  where
    go : In c came.wishes
        ⊎ ((s : Cert) × (p : Proposal) × (Event.Deliver m ≡ Event.Floor s)
        × (finalized s.vote ≡ Some p) × (p.payload ≡ c)
        × In (Many s) (taken_came r sign came (Event.Deliver m)).ballots)
        → In c came.wishes
    go (inl a) = a
    go (inr (s, p, is, f, g, at)) = cc is

-- ---- more notes

-- notes with more behind, none of which lets a block go
pub record Later (xs ys : List Note) : Type 0 where
  pub more : List Note
  pub joined : ys ≡ xs ++ more
  pub prune : greatest_prune ys ≡ greatest_prune xs

pub later_same : (xs : List Note) → Later xs xs
later_same xs = record { more = []; joined = sym (append-nil xs); prune = refl }

pub later_both : (xs ys zs : List Note) → Later xs ys → Later ys zs → Later xs zs
later_both xs ys zs k l = record {
  more = k.more ++ l.more;
  joined =
      l.joined ∙ (ap (λ ns. ns ++ l.more) k.joined ∙ append_assoc xs k.more l.more);
  prune = l.prune ∙ k.prune;
}

pub later_in : (xs ys : List Note) → Later xs ys → (n : Note) → In n xs → In n ys
later_in xs ys k n h = subst (In n) (sym k.joined) (in_left n xs k.more h)

pub later_held : (r : Rules) (xs ys : List Note) → Later xs ys → (c : Commitment) (b : Block)
    → held r xs c ≡ Some b → held r ys c ≡ Some b
later_held r xs ys k c b h =
    subst (λ ns. held r ns c ≡ Some b) (sym k.joined)
    (held_on r xs k.more (ap greatest_prune (sym k.joined) ∙ k.prune) c b h)

pub later_settled : (c0 : Commitment) (xs ys : List Note) → Later xs ys → (epoch view : ℕ)
    (c : Commitment)
    → settled c0 xs epoch view ≡ Some c → settled c0 ys epoch view ≡ Some c
later_settled c0 xs ys k epoch view c h =
    subst (λ ns. settled c0 ns epoch view ≡ Some c) (sym k.joined)
    (settled_stays c0 xs k.more epoch view c h)

pub delivered_later : (r : Rules) (id : ℕ) (sign : ℕ → Vote → Bool) (n : Member) (m : Message)
    → Later (member_notes n) (member_notes (step r id sign n (Event.Deliver m)).member)
delivered_later r id sign n m =
    let during = taken r sign (state_of n) (Event.Deliver m) in
    let notes = step_notes r id during (Event.Deliver m) in
    record {
      more = notes;
      joined = frames_join n.frames notes;
      prune = ap greatest_prune (frames_join n.frames notes) ∙ delivery_keeps r id during m;
    }

-- ---- lines that help

pub helps_honest : (w : World) (payload : List ℕ) (line : Line) → helps w payload line ≡ true
    → is_honest_line line ≡ true
helps_honest w payload (Faulty i fault) h = absurd (false≢true h)
helps_honest w payload (Do i ask) h = refl
helps_honest w payload (Cut a c x i ask) h = refl
helps_honest w payload (Restart i) h = refl

-- what stands in both lists in front
pub get_within : {X : Type 0} (xs ys : List X) (k : ℕ) (x : X) → k < length xs
    → slice_get (xs ++ ys) k ≡ Some x → slice_get xs k ≡ Some x
get_within [] ys k x lt h = absurd (omega (arith, lt))
get_within (z ∷ zs) ys zero x lt h = h
get_within (z ∷ zs) ys (suc k) x lt h = get_within zs ys k x (omega (arith, lt)) h

module _ (w : World) (payload : List ℕ) where
  -- what was sent since then may be delivered
  pub new_helps : (u : World) (k j : ℕ) (o : Out) (x : IsNew (length w.pool) u k o)
      → helps w payload (Do j (Ask.Deliver x.sent.number)) ≡ true
  new_helps u k j o x =
      or_left (nat_le (length w.pool) x.sent.number)
      (option_map_or (λ (s : Sent). is_ballot s.message) (slice_get w.pool x.sent.number) false)
      (le-leb (length w.pool) x.sent.number x.late)

  -- and a certificate from before
  cert_helps : (u : World) (more : List Sent) → u.pool ≡ w.pool ++ more → (k j : ℕ) (t : Cert)
      (x : IsSent u k (to_all (Message.Cert t)))
      → helps w payload (Do j (Ask.Deliver x.number)) ≡ true
  cert_helps u more e k j t x = go (cases_lt x.number (length w.pool))
    where
      test : Option Sent → Bool
      test o = option_map_or (λ (s : Sent). is_ballot s.message) o false

      go : (x.number < length w.pool) ⊎ (length w.pool ≤ x.number)
          → helps w payload (Do j (Ask.Deliver x.number)) ≡ true
      go (inr le) =
          or_left (nat_le (length w.pool) x.number) (test (slice_get w.pool x.number))
          (le-leb (length w.pool) x.number le)
      go (inl lt) =
          or_right (nat_le (length w.pool) x.number) (test (slice_get w.pool x.number))
          (ap test
          (get_within w.pool more x.number x.sent lt
          (subst (λ pool. slice_get pool x.number ≡ Some x.sent) e x.there))
          ∙ ap is_ballot x.message)

-- ---- stages

-- the member noted the block
abbrev pub IsGiven : Member → Block → Type 0
IsGiven m a = (c : Commitment) × In (Note.Block c a) (member_notes m)

-- a certificate of a vote that the notes have one of
abbrev pub IsGivers : List Note → Ballot → Type 0
IsGivers notes (Single i v) = ⊥
IsGivers notes (Many t) = has_cert notes t.vote ≡ true

-- so the notes have one
givers_vote : (notes : List Note) (v : Vote) → IsBy (IsGivers notes) v → has_cert notes v ≡ true
givers_vote notes v (Single i x, is, same) = absurd is
givers_vote notes v (Many t, is, same) = subst (λ x. has_cert notes x ≡ true) same is

-- lines that help lead to this world without a clash. There i, which had these notes and gives, and
-- j, which had those and takes, are live; j has given up no more, wishes for no floor, was given
-- no block but by i, and has asked for what it misses. Both have certificates only of votes that
-- one of them had them of, and no new votes but such as finalize. Nobody else did anything
pub record Stage (r : Rules) (w : World) (payload : List ℕ) (i j : ℕ) (xs ys : List Note)
    (u : World) (m n : Member) : Type 0 where
  pub path : Path r w (helps w payload) u
  pub more : List Sent
  pub pool : u.pool ≡ w.pool ++ more
  pub gives_at : member_at u i ≡ Some m
  pub gives_live : m.live ≡ true
  pub gives_more : Later xs (member_notes m)
  pub takes_at : member_at u j ≡ Some n
  pub takes_live : n.live ≡ true
  pub takes_more : Later ys (member_notes n)
  pub takes_floor : greatest_floor (member_notes n) ≡ greatest_floor ys
  pub takes_wishes : (c : Commitment) → In c n.came.wishes → ⊥
  pub takes_parts : (a : Block) → In (Whole a) n.came.parts → IsGiven m a
  pub takes_asks : (c : Commitment) → In c (missing r (state_of n))
      → IsNew (length w.pool) u j (to_all (Message.Ask j c))
  pub gives_came : AreOf (IsGivers xs) m.came
  pub gives_certs : (v : Vote) → has_cert (member_notes m) v ≡ true → has_cert xs v ≡ true
  pub takes_came : AreOf (IsGivers xs) n.came
  pub takes_certs : (v : Vote) → has_cert (member_notes n) v ≡ true
      → (has_cert ys v ≡ true) ⊎ (has_cert xs v ≡ true)
  pub gives_votes : (v : Vote) → has_vote (member_notes m) v ≡ true
      → (has_vote xs v ≡ true) ⊎ IsFinal v
  pub takes_votes : (v : Vote) → has_vote (member_notes n) v ≡ true
      → (has_vote ys v ≡ true) ⊎ IsFinal v
  pub others : (k : ℕ) → (i ≡ k → ⊥) → (j ≡ k → ⊥) → member_at u k ≡ member_at w k

module _ (r : Rules) (w : World) (payload : List ℕ) (i j : ℕ) (differ : i ≡ j → ⊥)
    (xs ys : List Note) where
  abbrev IsStage : World → Member → Member → Type 0
  IsStage u m n = Stage r w payload i j xs ys u m n

  abbrev IsClashing : Type 0
  IsClashing = ComesToClash r w (helps w payload)

  -- what is sent from there on is new
  pub stage_new : (u : World) (m n : Member) → IsStage u m n → (v : World) (k : ℕ) (o : Out)
      → IsNew (length u.pool) v k o → IsNew (length w.pool) v k o
  stage_new u m n s v k o x =
      new_lower (length w.pool) (length u.pool) v k o
      (let e = ap (λ (ps : List Sent). length ps) s.pool in
      omega (arith, e, length-append w.pool s.more))
      x

  -- a message that is delivered to the taker
  pub taker_turn : (u : World) (m n : Member) → IsStage u m n → (k : ℕ) (o : Out)
      (x : IsSent u k o)
      → is_to j o.to ≡ true → helps w payload (Do j (Ask.Deliver x.number)) ≡ true
      → ((b : Block) → o.message ≡ Message.Block b → IsGiven m b) → IsOf (IsGivers xs) o.message
      → IsStage (with_done u j (step r j (signed u) n (Event.Deliver o.message))) m
      (step r j (signed u) n (Event.Deliver o.message)).member
      ⊎ IsClashing
  taker_turn u m n s k o x to fits brings of =
      go
      (path_on r w (helps w payload) (helps_honest w payload) u s.path
      (Do j (Ask.Deliver x.number)) fits)
    where
      done : Stepped
      done = step r j (signed u) n (Event.Deliver o.message)

      goes : happens r u (Do j (Ask.Deliver x.number)) ≡ with_done u j done
      goes = delivery_happens r u k j n o x s.takes_at s.takes_live to

      came : AreOf (IsGivers xs) done.member.came
      came = came_of (IsGivers xs) r (signed u) n.came o.message s.takes_came of

      by_cert : (v : Vote) → (has_cert (member_notes n) v ≡ true) ⊎ IsBy (IsGivers xs) v
          → (has_cert ys v ≡ true) ⊎ (has_cert xs v ≡ true)
      by_cert v (inl h) = s.takes_certs v h
      by_cert v (inr h) = inr (givers_vote xs v h)

      by_vote : (v : Vote)
          → (has_vote (member_notes n) v ≡ true)
          ⊎ (IsFinal v
          ⊎ ((view : ℕ) × (Event.Deliver o.message ≡ Event.Timeout view)
          × (v ≡ Nullify (epoch_of (member_notes n)) view)))
          → (has_vote ys v ≡ true) ⊎ IsFinal v
      by_vote v (inl h) = s.takes_votes v h
      by_vote v (inr (inl h)) = inr h
      by_vote v (inr (inr (view, is, same))) = cc is

      by_part : (a : Block) → In (Whole a) n.came.parts ⊎ (o.message ≡ Message.Block a)
          → IsGiven m a
      by_part a (inl h) = s.takes_parts a h
      by_part a (inr e) = brings a e

      by_ask : (c : Commitment)
          → In c (missing r (state_of n)) ⊎ In (to_all (Message.Ask j c)) done.sent
          → IsNew (length w.pool) (with_done u j done) j (to_all (Message.Ask j c))
      by_ask c (inl h) =
          new_stays (length w.pool) u (with_done u j done) j (to_all (Message.Ask j c))
          (extends_done u j n done (member_there u j n s.takes_at)) (s.takes_asks c h)
      by_ask c (inr h) =
          stage_new u m n s (with_done u j done) j (to_all (Message.Ask j c))
          (new_done u j done (to_all (Message.Ask j c)) h)

      go : Path r w (helps w payload) (happens r u (Do j (Ask.Deliver x.number))) ⊎ IsClashing
          → IsStage (with_done u j done) m done.member ⊎ IsClashing
      go (inr clash) = inr clash
      go (inl path) =
          inl (record {
            path = subst (Path r w (helps w payload)) goes path;
            more = s.more ++ sent_now u j done.sent;
            pool =
                ap (λ ps. ps ++ sent_now u j done.sent) s.pool
                ∙ append_assoc w.pool s.more (sent_now u j done.sent);
            gives_at = other_stands u j done i m (λ e. differ (sym e)) s.gives_at;
            gives_live = s.gives_live;
            gives_more = s.gives_more;
            takes_at = member_done u j n done s.takes_at;
            takes_live = refl;
            takes_more =
                later_both ys (member_notes n) (member_notes done.member) s.takes_more
                (delivered_later r j (signed u) n o.message);
            takes_floor =
                ap greatest_floor
                (frames_join n.frames
                (step_notes r j (taken r (signed u) (state_of n) (Event.Deliver o.message))
                (Event.Deliver o.message)))
                ∙ (delivery_floors r j
                (taken r (signed u) (state_of n) (Event.Deliver o.message)) o.message
                (λ c h. s.takes_wishes c (delivery_wishes r (signed u) n.came o.message c h))
                ∙ s.takes_floor);
            takes_wishes =
                λ c h. s.takes_wishes c (delivery_wishes r (signed u) n.came o.message c h);
            takes_parts = λ a h. by_part a (wholes_taken r (signed u) n.came o.message a h);
            takes_asks =
                λ c h. by_ask c (step_asks r j (signed u) n (Event.Deliver o.message) c h);
            gives_came = s.gives_came;
            gives_certs = s.gives_certs;
            takes_came = came;
            takes_certs =
                λ v h.
                by_cert v
                (step_certs (IsGivers xs) r s.path.script s.path.cluster j (signed u) n
                (Event.Deliver o.message) came v h);
            gives_votes = s.gives_votes;
            takes_votes =
                λ v h.
                by_vote v
                (step_votes (IsGivers xs) r s.path.script s.path.cluster j (λ l p k. k) (signed u)
                n (Event.Deliver o.message) (λ k. k) came v h);
            others = λ l f g. other_same u j done l g ∙ s.others l f g;
          })

  -- a message that is delivered to the giver
  pub giver_turn : (u : World) (m n : Member) → IsStage u m n → (k : ℕ) (o : Out)
      (x : IsSent u k o)
      → is_to i o.to ≡ true → helps w payload (Do i (Ask.Deliver x.number)) ≡ true
      → IsOf (IsGivers xs) o.message
      → IsStage (with_done u i (step r i (signed u) m (Event.Deliver o.message)))
      (step r i (signed u) m (Event.Deliver o.message)).member n
      ⊎ IsClashing
  giver_turn u m n s k o x to fits of =
      go
      (path_on r w (helps w payload) (helps_honest w payload) u s.path
      (Do i (Ask.Deliver x.number)) fits)
    where
      done : Stepped
      done = step r i (signed u) m (Event.Deliver o.message)

      goes : happens r u (Do i (Ask.Deliver x.number)) ≡ with_done u i done
      goes = delivery_happens r u k i m o x s.gives_at s.gives_live to

      later : Later (member_notes m) (member_notes done.member)
      later = delivered_later r i (signed u) m o.message

      came : AreOf (IsGivers xs) done.member.came
      came = came_of (IsGivers xs) r (signed u) m.came o.message s.gives_came of

      by_cert : (v : Vote) → (has_cert (member_notes m) v ≡ true) ⊎ IsBy (IsGivers xs) v
          → has_cert xs v ≡ true
      by_cert v (inl h) = s.gives_certs v h
      by_cert v (inr h) = givers_vote xs v h

      by_vote : (v : Vote)
          → (has_vote (member_notes m) v ≡ true)
          ⊎ (IsFinal v
          ⊎ ((view : ℕ) × (Event.Deliver o.message ≡ Event.Timeout view)
          × (v ≡ Nullify (epoch_of (member_notes m)) view)))
          → (has_vote xs v ≡ true) ⊎ IsFinal v
      by_vote v (inl h) = s.gives_votes v h
      by_vote v (inr (inl h)) = inr h
      by_vote v (inr (inr (view, is, same))) = cc is

      still : (a : Block) → IsGiven m a → IsGiven done.member a
      still a (c, h) =
          (c, later_in (member_notes m) (member_notes done.member) later (Note.Block c a) h)

      go : Path r w (helps w payload) (happens r u (Do i (Ask.Deliver x.number))) ⊎ IsClashing
          → IsStage (with_done u i done) done.member n ⊎ IsClashing
      go (inr clash) = inr clash
      go (inl path) =
          inl (record {
            path = subst (Path r w (helps w payload)) goes path;
            more = s.more ++ sent_now u i done.sent;
            pool =
                ap (λ ps. ps ++ sent_now u i done.sent) s.pool
                ∙ append_assoc w.pool s.more (sent_now u i done.sent);
            gives_at = member_done u i m done s.gives_at;
            gives_live = refl;
            gives_more =
                later_both xs (member_notes m) (member_notes done.member) s.gives_more later;
            takes_at = other_stands u i done j n differ s.takes_at;
            takes_live = s.takes_live;
            takes_more = s.takes_more;
            takes_floor = s.takes_floor;
            takes_wishes = s.takes_wishes;
            takes_parts = λ a h. still a (s.takes_parts a h);
            takes_asks =
                λ c h.
                new_stays (length w.pool) u (with_done u i done) j (to_all (Message.Ask j c))
                (extends_done u i m done (member_there u i m s.gives_at)) (s.takes_asks c h);
            gives_came = came;
            gives_certs =
                λ v h.
                by_cert v
                (step_certs (IsGivers xs) r s.path.script s.path.cluster i (signed u) m
                (Event.Deliver o.message) came v h);
            takes_came = s.takes_came;
            takes_certs = s.takes_certs;
            gives_votes =
                λ v h.
                by_vote v
                (step_votes (IsGivers xs) r s.path.script s.path.cluster i (λ l p k. k) (signed u)
                m (Event.Deliver o.message) (λ k. k) came v h);
            takes_votes = s.takes_votes;
            others = λ l f g. other_same u i done l f ∙ s.others l f g;
          })

  -- a certificate that the giver noted goes to the taker
  pub cert_goes : (u : World) (m n : Member) → IsStage u m n → (t : Cert)
      → In (Note.Cert t) (member_notes m)
      → (IsStage (with_done u j (step r j (signed u) n (Event.Deliver (Message.Cert t)))) m
      (step r j (signed u) n (Event.Deliver (Message.Cert t))).member
      × (has_cert
      (member_notes (step r j (signed u) n (Event.Deliver (Message.Cert t))).member) t.vote
      ≡ true))
      ⊎ IsClashing
  cert_goes u m n s t h =
      go
      (taker_turn u m n s i (to_all (Message.Cert t)) sent refl
      (cert_helps w payload u s.more s.pool i j t sent) (λ x e. cc e)
      (s.gives_certs t.vote (cert_has t (member_notes m) h)))
    where
      reach : Reaches r s.path.script u
      reach = clear_reaches r s.path.script u s.path.clear

      sent : IsSent u i (to_all (Message.Cert t))
      sent =
          noted_sent r s.path.script u s.path.cluster reach i m s.gives_at s.gives_live
          (Note.Cert t) (Message.Cert t) refl h

      go : IsStage (with_done u j (step r j (signed u) n (Event.Deliver (Message.Cert t)))) m
          (step r j (signed u) n (Event.Deliver (Message.Cert t))).member
          ⊎ IsClashing
          → (IsStage (with_done u j (step r j (signed u) n (Event.Deliver (Message.Cert t)))) m
          (step r j (signed u) n (Event.Deliver (Message.Cert t))).member
          × (has_cert
          (member_notes (step r j (signed u) n (Event.Deliver (Message.Cert t))).member) t.vote
          ≡ true))
          ⊎ IsClashing
      go (inr clash) = inr clash
      go (inl next) =
          inl (
            next,
            cert_step r j (signed u) n t
                (noted_valid r s.path.script u s.path.cluster reach i m s.gives_at s.gives_live t h),
          )

  -- after some lines the taker's notes pass the test
  pub record Arrives (test : List Note → Bool) : Type 0 where
    pub world : World
    pub giver : Member
    pub taker : Member
    pub stage : Stage r w payload i j xs ys world giver taker
    pub passes : test (member_notes taker) ≡ true

  -- so it comes to such notes
  pub taker_comes : (test : List Note → Bool) → Arrives test ⊎ IsClashing
      → ComesTo r w j (helps w payload) test ⊎ IsClashing
  taker_comes test (inr clash) = inr clash
  taker_comes test (inl x) =
      inl (record {
        lines = x.stage.path.lines;
        are = x.stage.path.are;
        after = x.taker;
        there =
            ap (λ v. member_at v j)
            (sym (ends_run r w x.world x.stage.path.lines x.stage.path.ends))
            ∙ x.stage.takes_at;
        live = x.stage.takes_live;
        passes = x.passes;
      })

-- both are started again first
pub record Begins (r : Rules) (w : World) (payload : List ℕ) (i j : ℕ) (m n : Member) : Type 0 where
  pub world : World
  pub giver : Member
  pub taker : Member
  pub stage : Stage r w payload i j (member_notes m) (member_notes n) world giver taker
  pub given_same : member_notes giver ≡ member_notes m
  pub taken_same : member_notes taker ≡ member_notes n

-- the same notes
pub later_equal : (xs ys : List Note) → ys ≡ xs → Later xs ys
later_equal xs ys e =
    record { more = []; joined = e ∙ sym (append-nil xs); prune = ap greatest_prune e }

pub begins : (r : Rules) (script : List Line) (w : World) → IsCluster r script
    → ReachesClear r script w → (payload : List ℕ) (i j : ℕ) → (i ≡ j → ⊥) → (m n : Member)
    → member_at w i ≡ Some m → member_at w j ≡ Some n → Begins r w payload i j m n
begins r script w cluster clear payload i j differ m n at there =
    by_both (one_started r w i) (one_started r (one_started r w i).world j)
  where
    lines : List Line
    lines = again r (i ∷ []) ++ again r (j ∷ [])

    are : AllByRecursion (λ line. helps w payload line ≡ true) lines
    are = (refl, (refl, (refl, (refl, tt))))

    all_honest : AllByRecursion (λ line. is_honest_line line ≡ true) lines
    all_honest = (refl, (refl, (refl, (refl, tt))))

    by_both : (k : OneStarted r w i) → OneStarted r k.world j → Begins r w payload i j m n
    by_both k l =
        by_clear
        (clear_on r script w l.world lines cluster clear all_honest ends)
      where
        ends : outcome r w lines ≡ Ends l.world
        ends =
            outcome_both r w k.world (again r (i ∷ [])) (again r (j ∷ [])) k.ends ∙ l.ends

        f : IsFresh k.world i (member_notes m)
        f = k.it m at

        there_then : member_at k.world j ≡ Some n
        there_then = k.others j differ ∙ there

        g : IsFresh l.world j (member_notes n)
        g = l.it n there_then

        low : length w.pool ≤ length k.world.pool
        low =
            let e = ap (λ (ps : List Sent). length ps) k.pool in
            omega (arith, e, length-append w.pool k.more)

        by_clear : ((longer : List Line) × IsCluster r longer × ReachesClear r longer l.world)
            → Begins r w payload i j m n
        by_clear (longer, among, still) = record {
          world = l.world;
          giver = f.member;
          taker = g.member;
          given_same = f.same;
          taken_same = g.same;
          stage =
              record {
                path =
                    record {
                      lines = lines;
                      are = are;
                      ends = ends;
                      script = longer;
                      cluster = among;
                      clear = still;
                    };
                more = k.more ++ l.more;
                pool =
                    l.pool
                    ∙ (ap (λ ps. ps ++ l.more) k.pool ∙ append_assoc w.pool k.more l.more);
                gives_at = l.others i (λ e. differ (sym e)) ∙ f.there;
                gives_live = f.live;
                gives_more = later_equal (member_notes m) (member_notes f.member) f.same;
                takes_at = g.there;
                takes_live = g.live;
                takes_more = later_equal (member_notes n) (member_notes g.member) g.same;
                takes_floor = ap greatest_floor g.same;
                takes_wishes =
                    λ c h. subst (λ (x : Came). In c x.wishes) g.nothing h;
                takes_parts =
                    λ a h. absurd (subst (λ (x : Came). In (Whole a) x.parts) g.nothing h);
                takes_asks =
                    λ c h.
                    new_lower (length w.pool) (length k.world.pool) l.world j
                    (to_all (Message.Ask j c)) low (l.asks n there_then c h);
                gives_came =
                    λ x h. absurd (subst (λ (z : Came). In x z.ballots) f.nothing h);
                gives_certs = λ v h. subst (λ ns. has_cert ns v ≡ true) f.same h;
                takes_came =
                    λ x h. absurd (subst (λ (z : Came). In x z.ballots) g.nothing h);
                takes_certs = λ v h. inl (subst (λ ns. has_cert ns v ≡ true) g.same h);
                gives_votes = λ v h. inl (subst (λ ns. has_vote ns v ≡ true) f.same h);
                takes_votes = λ v h. inl (subst (λ ns. has_vote ns v ≡ true) g.same h);
                others = λ z e d. l.others z d ∙ k.others z e;
              };
        }
