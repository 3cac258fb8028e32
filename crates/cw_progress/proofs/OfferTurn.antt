-- A way with one turn more, and what twins show at the end of a way.
use Rattle.std.proofs.Common.{◌≡◌, ℕ, ◌<◌, ◌≤◌, Bool, true, false, cond, nat_le, List, ◌++◌, Option, Some, None, length, option_and_then, option_map, slice_get, sym, ◌∙◌, ap, subst, inl, inr, ◌⊎◌, append_assoc}
use Rattle.std.specs.Option.{option_map_or}
use Rattle.std.proofs.lemmas.Bool.{cases_eq, cases_lt, cond-true, le-leb, or_left, or_right}
use Rattle.std.proofs.lemmas.Option.{same_Some}
use Rattle.cw_types.specs.declared.event.Event.{Event}
use Rattle.cw_types.specs.declared.event.Out.{Out}
use Rattle.cw_types.specs.declared.vote.Vote.{Vote}
use Rattle.cw_rules.specs.Rules.{Rules}
use Rattle.cw_rules.specs.Step.{Member, Stepped, member_notes, step}
use Rattle.cw_rules.specs.World.{Ask, Do, Sent, World, event_of, happens, is_to, member_at, sent_now, signed, with_done}
use Rattle.cw_rules.proofs.Lists.{all_both, get_front}
use Rattle.cw_progress.specs.Going.{helps, is_ballot, twins_in}
use Rattle.cw_progress.specs.Offered.{ComesToTwins}
use Rattle.cw_progress.specs.Over.{ComesToClash}
use Rattle.cw_progress.specs.Sent.{IsSent}
use Rattle.cw_progress.proofs.Outs.{IsNew}
use Rattle.cw_progress.proofs.Over.{member_done}
use Rattle.cw_progress.proofs.Paths.{Path, outcome_both, path_on}
use Rattle.cw_progress.proofs.Stages.{Later, get_within, helps_honest, later_both}
use Rattle.cw_progress.proofs.Turns.{step_later}
use Rattle.cw_progress.proofs.Voting.{other_same, turn_goes}
use Rattle.cw_progress.proofs.Ways.{Goes, Way, all_so, helps_before, way_on}

-- ---- one turn more

-- any certificate and any vote may be new
abbrev pub AnyVote : Vote → Type 0
AnyVote v = Unit {0}

module _ (r : Rules) (payload : List ℕ) where
  -- a turn of a live member, which hides no block
  pub turn_on : (w u : World) → Way r w payload AnyVote u → (j : ℕ) (n : Member)
      → member_at u j ≡ Some n → n.live ≡ true → (ask : Ask) (e : Event)
      → event_of u j ask ≡ Some e → helps w payload (Do j ask) ≡ true
      → ((h : ℕ) → e ≡ Event.Prune h → ⊥)
      → Way r w payload AnyVote (with_done u j (step r j (signed u) n e))
      ⊎ ComesToClash r w (helps w payload)
  turn_on w u a j n at live ask e is fits keeps =
      go
      (path_on r w (helps w payload) (helps_honest w payload) u a.path (Do j ask) fits)
    where
      done : Stepped
      done = step r j (signed u) n e

      v : World
      v = with_done u j done

      goes : happens r u (Do j ask) ≡ v
      goes = turn_goes r u j n ask e at live is

      by_kept : (k : ℕ) (x y : Member) → member_at u k ≡ Some y
          → Later (member_notes x) (member_notes y) → (j ≡ k) ⊎ (j ≡ k → ⊥)
          → (z : Member) × (member_at v k ≡ Some z) × Later (member_notes x) (member_notes z)
      by_kept k x y there later (inl same) =
          let one : y ≡ n = same_Some y n (sym there ∙ (ap (member_at u) (sym same) ∙ at)) in (
            done.member,
            ap (member_at v) (sym same) ∙ member_done u j n done at,
            later_both (member_notes x) (member_notes n) (member_notes done.member)
                (subst (λ (q : Member). Later (member_notes x) (member_notes q)) one later)
                (step_later r payload j (signed u) n e keeps),
          )
      by_kept k x y there later (inr d) = (y, other_same u j done k d ∙ there, later)

      by_back : (k : ℕ) (y : Member) → member_at v k ≡ Some y → (j ≡ k) ⊎ (j ≡ k → ⊥)
          → (x : Member) × (member_at w k ≡ Some x)
      by_back k y h (inl same) = a.back k n (ap (member_at u) (sym same) ∙ at)
      by_back k y h (inr d) = a.back k y (sym (other_same u j done k d) ∙ h)

      go : Path r w (helps w payload) (happens r u (Do j ask))
          ⊎ ComesToClash r w (helps w payload)
          → Way r w payload AnyVote v ⊎ ComesToClash r w (helps w payload)
      go (inr clash) = inr clash
      go (inl path) =
          inl (record {
            path = subst (Path r w (helps w payload)) goes path;
            more = a.more ++ sent_now u j done.sent;
            pool =
                ap (λ ps. ps ++ sent_now u j done.sent) a.pool
                ∙ append_assoc w.pool a.more (sent_now u j done.sent);
            kept =
                λ k x h.
                let (y, there, later) = a.kept k x h in by_kept k x y there later (cases_eq j k);
            back = λ k y h. by_back k y h (cases_eq j k);
            certs = λ k y h x c. inr tt;
            votes = λ k y h x c. inr (inr tt);
          })

-- ---- deliveries

-- a vote or a certificate that was sent may be delivered
pub ballot_helps : (w u : World) (payload : List ℕ) (more : List Sent) → u.pool ≡ w.pool ++ more
    → (k j : ℕ) (o : Out) (x : IsSent u k o) → is_ballot o.message ≡ true
    → helps w payload (Do j (Ask.Deliver x.number)) ≡ true
ballot_helps w u payload more e k j o x ballot = go (cases_lt x.number (length w.pool))
  where
    test : Option Sent → Bool
    test s = option_map_or (λ (y : Sent). is_ballot y.message) s false

    go : (x.number < length w.pool) ⊎ (length w.pool ≤ x.number)
        → helps w payload (Do j (Ask.Deliver x.number)) ≡ true
    go (inr le) =
        or_left (nat_le (length w.pool) x.number) (test (slice_get w.pool x.number))
        (le-leb (length w.pool) x.number le)
    go (inl lt) =
        or_right (nat_le (length w.pool) x.number) (test (slice_get w.pool x.number))
        (ap test
        (get_within w.pool more x.number x.sent lt
        (subst (λ pool. slice_get pool x.number ≡ Some x.sent) e x.there))
        ∙ (ap is_ballot x.message ∙ ballot))

-- what it brings
pub delivers : (u : World) (k j : ℕ) (o : Out) (x : IsSent u k o) → is_to j o.to ≡ true
    → event_of u j (Ask.Deliver x.number) ≡ Some (Event.Deliver o.message)
delivers u k j o x to =
    ap (option_map Event.Deliver)
    (ap (option_and_then (λ (s : Sent). cond (is_to j s.to) (Some s.message) None)) x.there
    ∙ (ap (λ t. cond (is_to j t) (Some x.sent.message) None) x.to
    ∙ (cond-true (is_to j o.to) (Some x.sent.message) None to
    ∙ ap (λ m. Some m) x.message)))

-- what is new stays so
pub new_on : (low : ℕ) (w u : World) (more : List Sent) → u.pool ≡ w.pool ++ more → (i : ℕ) (o : Out)
    → IsNew low w i o → IsNew low u i o
new_on low w u more e i o s = record {
  sent =
      record {
        number = s.sent.number;
        sent = s.sent.sent;
        there =
            subst (λ pool. slice_get pool s.sent.number ≡ Some s.sent.sent) (sym e)
            (get_front w.pool more s.sent.number s.sent.sent s.sent.there);
        from = s.sent.from;
        to = s.sent.to;
        message = s.sent.message;
      };
  late = s.late;
}

-- ---- twins

-- lead to such a world, or show twins
abbrev pub Shows : Rules → List ℕ → World → (World → Type 0) → Type 0
Shows r payload w P = Goes r w payload AnyVote P ⊎ ComesToTwins r w payload

pub clash_twins : (r : Rules) (w : World) (payload : List ℕ) → ComesToClash r w (helps w payload)
    → ComesToTwins r w payload
clash_twins r w payload c =
    record { lines = c.lines; are = c.are; shows = ap (twins_in r payload) c.ends }

twins_on : (r : Rules) (w u : World) (payload : List ℕ) → Way r w payload AnyVote u
    → ComesToTwins r u payload → ComesToTwins r w payload
twins_on r w u payload a t = record {
  lines = a.path.lines ++ t.lines;
  are =
      all_both (λ line. helps w payload line ≡ true) a.path.lines t.lines a.path.are
      (all_so (λ line. helps u payload line ≡ true) (λ line. helps w payload line ≡ true)
      (helps_before w u payload a.more a.pool) t.lines t.are);
  shows =
      ap (twins_in r payload) (outcome_both r w u a.path.lines t.lines a.path.ends) ∙ t.shows;
}

pub shows_then : (r : Rules) (payload : List ℕ) (w : World) (P Q : World → Type 0)
    → Shows r payload w P
    → ((u : World) → Way r w payload AnyVote u → P u → Shows r payload u Q) → Shows r payload w Q
shows_then r payload w P Q (inr twins) f = inr twins
shows_then r payload w P Q (inl x) f = next (f x.world x.way x.holds)
  where
    next : Shows r payload x.world Q → Shows r payload w Q
    next (inl y) =
        inl (record {
          world = y.world;
          way = way_on r payload AnyVote w x.world y.world x.way y.way;
          holds = y.holds;
        })
    next (inr twins) = inr (twins_on r w x.world payload x.way twins)
