-- A live member hands out what is final, by its own acknowledgements.
use Rattle.std.proofs.Common.{◌≡◌, ℕ, zero, suc, ◌+◌, ◌<◌, ◌≤◌, Bool, true, false, ◌&&◌, ◌==◌, nat_lt, nat_le, List, [], ◌∷◌, Option, Some, None, drop, filter_map, length, option_and_then, take, refl, sym, ◌∙◌, ap, subst, inl, inr, ◌⊎◌, arith, eq-eqb}
use Rattle.std.specs.Prelude.{IsSome, if◌then◌else◌}
use Rattle.std.specs.List.{list_all}
use Rattle.std.specs.Option.{option_map_or, option_or}
use Rattle.std.proofs.lemmas.Bool.{and_from, and_parts, cases_Bool, cases_lt, cond-true, false≢true, le-leb, leb-true}
use Rattle.cw_types.specs.declared.commitment.Commitment.{Commitment}
use Rattle.cw_types.specs.declared.event.Event.{Event}
use Rattle.cw_types.specs.declared.event.Handed.{Handed}
use Rattle.cw_types.specs.declared.note.Note.{Note}
use Rattle.cw_types.specs.declared.vote.Vote.{Vote}
use Rattle.cw_types.specs.Block.{Block}
use Rattle.cw_rules.specs.Accepted.{State, first_some}
use Rattle.cw_rules.specs.Chains.{Ends, blocks_of, noted_block, outcome}
use Rattle.cw_rules.specs.Direct.{least}
use Rattle.cw_rules.specs.Held.{at_height, floor_height, greatest_floor, greatest_prune, held, next, next_of, pending}
use Rattle.cw_rules.specs.Owed.{block_owed, cert_owed, certified_owed, epoch_owed, finalize_owed, floor_owed, named_commitments, named_proposals, named_votes, notarize_owed, owed, when}
use Rattle.cw_rules.specs.Reached.{In, IsCluster, Reaches}
use Rattle.cw_rules.specs.Rules.{Rules}
use Rattle.cw_rules.specs.Step.{Member, Stepped, deliveries, member_notes, most_delivered, start, state_of, step, nothing_came, step_notes, taken, with_handed, with_notes}
use Rattle.cw_rules.specs.World.{Ask, Do, Line, World, done_by, happens, line_member, member_at, signed, turned, with_done}
use Rattle.cw_rules.proofs.Clashes.{blocks_at}
use Rattle.cw_rules.proofs.Deliveries.{all_delivered}
use Rattle.cw_rules.proofs.Lists.{in_left, in_right}
use Rattle.cw_rules.proofs.Settles.{step_ends}
use Rattle.cw_rules.proofs.Worlds.{frames_join, get-set_same, member_there}
use Rattle.cw_progress.specs.Going.{handed_of}
use Rattle.cw_progress.specs.Handing.{CanHandUpTo, HandsUpTo, IsAckTaken, IsHandedIn}
use Rattle.cw_progress.proofs.Carries.{AnyLine, Carries, any_lines, reached_all}
use Rattle.cw_progress.proofs.Fresh.{quiet_ends}
use Rattle.cw_progress.proofs.Further.{reaches_on}
use Rattle.cw_progress.proofs.HandingNotes.{IsCalm, blocks_same, floor_same, prune_same, reached_stays}
use Rattle.cw_progress.proofs.HandingTurns.{AckTurn, ack_turn, least_some, least_there, rising}
use Rattle.cw_progress.proofs.Over.{member_done}
use Rattle.cw_progress.proofs.Paths.{outcome_both}
use Rattle.cw_progress.proofs.Rests.{or_none}
use Rattle.cw_progress.proofs.Voting.{other_same, turn_goes}

-- ---- what holds of each live member

-- nothing is owed that hides a block or gives up a height, and as many blocks are pending as may
-- be, or the next height isn't reached
pub record IsHandedUp (r : Rules) (s : State) : Type 0 where
  pub calm : IsCalm r s
  pub full : (r.backlog ≤ length (pending s)) ⊎ (at_height r s.notes (next s) ≡ None)

none_too : {X Y : Type 0} (f g : X → Option Y) → ((x : X) → f x ≡ None → g x ≡ None)
    → (xs : List X) → first_some f xs ≡ None → first_some g xs ≡ None
none_too f g too [] h = refl
none_too f g too (x ∷ xs) h =
    let p = or_none (f x) (first_some f xs) h in
    ap (λ o. option_or o (first_some g xs)) (too x p.0) ∙ none_too f g too xs p.1

module _ (r : Rules) where
  -- no floor is owed once more is handed out
  floor_off : (s : State) (given : List ℕ) → next s ≤ next_of s.notes given → (c : Commitment)
      → floor_owed r s c ≡ None
      → floor_owed r (record { notes = s.notes; came = s.came; given = given }) c ≡ None
  floor_off s given le c h = go (held r s.notes c) h
    where
      low : Block → Bool
      low b = list_all (λ x. nat_lt x b.height) (filter_map floor_height s.notes)

      by : (b : Block)
          → ((nat_le (next_of s.notes given) b.height && low b) ≡ true)
          ⊎ ((nat_le (next_of s.notes given) b.height && low b) ≡ false)
          → when (nat_le (next s) b.height && low b) (Note.Floor b.height) ≡ None
          → when (nat_le (next_of s.notes given) b.height && low b) (Note.Floor b.height) ≡ None
      by b (inr f) g = ap (λ t. when t (Note.Floor b.height)) f
      by b (inl t) g =
          let p = and_parts (nat_le (next_of s.notes given) b.height) (low b) t in
          let before : (nat_le (next s) b.height && low b) ≡ true =
          and_from (nat_le (next s) b.height) (low b)
          (le-leb (next s) b.height
          (omega (arith, le, leb-true (next_of s.notes given) b.height p.0)))
          p.1 in
          let x : when true (Note.Floor b.height) ≡ None =
          ap (λ t. when t (Note.Floor b.height)) (sym before) ∙ g in
          cc x

      go : (o : Option Block)
          → option_and_then
          (λ b. when (nat_le (next s) b.height && low b) (Note.Floor b.height)) o
          ≡ None
          → option_and_then
          (λ b. when (nat_le (next_of s.notes given) b.height && low b) (Note.Floor b.height)) o
          ≡ None
      go None g = refl
      go (Some b) g = by b (cases_Bool (nat_le (next_of s.notes given) b.height && low b)) g

  -- after a settling and the hand-outs behind it
  settled_up : (id : ℕ) (s : State) → owed r id s ≡ None
      → IsHandedUp r (with_handed s (deliveries r s))
  settled_up id s none = record {
    calm =
        record {
          blocks = a.0;
          floors =
              none_too (floor_owed r s) (floor_owed r (with_handed s (deliveries r s)))
              (floor_off s (with_handed s (deliveries r s)).given
              (rising r (most_delivered r s) s))
              s.came.wishes d.0;
        };
    full = all_delivered r s;
  }
    where
      by_votes : Option Note
      by_votes =
          option_or (epoch_owed r s)
          (option_or (first_some (notarize_owed r id s) (named_proposals s))
          (first_some (finalize_owed r id s) (named_proposals s)))

      by_floors : Option Note
      by_floors = option_or (first_some (floor_owed r s) s.came.wishes) by_votes

      by_proposals : Option Note
      by_proposals = option_or (first_some (certified_owed r s) (named_proposals s)) by_floors

      by_certs : Option Note
      by_certs = option_or (first_some (cert_owed r id s) (named_votes s)) by_proposals

      a : (first_some (block_owed r s) (named_commitments r s) ≡ None) × (by_certs ≡ None)
      a = or_none (first_some (block_owed r s) (named_commitments r s)) by_certs none

      b : (first_some (cert_owed r id s) (named_votes s) ≡ None) × (by_proposals ≡ None)
      b = or_none (first_some (cert_owed r id s) (named_votes s)) by_proposals a.1

      c : (first_some (certified_owed r s) (named_proposals s) ≡ None) × (by_floors ≡ None)
      c = or_none (first_some (certified_owed r s) (named_proposals s)) by_floors b.1

      d : (first_some (floor_owed r s) s.came.wishes ≡ None) × (by_votes ≡ None)
      d = or_none (first_some (floor_owed r s) s.came.wishes) by_votes c.1

  step_up : (id : ℕ) (sign : ℕ → Vote → Bool) (m : Member) (e : Event)
      → IsHandedUp r (state_of (step r id sign m e).member)
  step_up id sign m e =
      subst
      (λ ns. IsHandedUp r (record {
        notes = ns;
        came = during.came;
        given = (step r id sign m e).member.given;
      })) (sym (frames_join m.frames notes))
      (settled_up id (with_notes during notes) (step_ends r id during e))
    where
      during : State
      during = taken r sign (state_of m) e

      notes : List Note
      notes = step_notes r id during e

  start_up : (i : ℕ) (frames : List (List Note))
      → IsHandedUp r (state_of (start r i frames).member)
  start_up i frames = record {
    calm = record { blocks = refl; floors = refl };
    full = all_delivered r (record { notes = all; came = nothing_came; given = [] });
  }
    where
      all : List Note
      all = member_notes (start r i frames).member

  module _ (script : List Line) where
    up_carries : Carries r script AnyLine
        (λ w i m. m.live ≡ true → IsHandedUp r (state_of m))
    up_carries = record {
      stays = λ w v i m e p. p;
      first = λ i live. start_up i [];
      stepped = λ w i m e t p live. step_up i (signed w) m e;
      halts = λ w i m p live. absurd (false≢true live);
      kept = λ w i m e t p live. absurd (false≢true live);
      started = λ w i m c at off p live. start_up i m.frames;
    }

    pub handed_up : (w : World) → IsCluster r script → Reaches r script w → (i : ℕ) (m : Member)
        → member_at w i ≡ Some m → m.live ≡ true → IsHandedUp r (state_of m)
    handed_up w cluster reach i m at live =
        reached_all r script AnyLine (λ w i m. m.live ≡ true → IsHandedUp r (state_of m))
        up_carries w cluster (any_lines script) reach i m (member_there w i m at) live

  -- ---- an acknowledgement

  abbrev acked : World → ℕ → Member → Stepped
  acked w i m = step r i (signed w) m Event.Ack

  -- what the line leaves
  record AckGoes (w : World) (i : ℕ) (m : Member) (a : ℕ) : Type 0 where
    turn : AckTurn r m (acked w i m) a
    there : member_at (happens r w (Do i Ask.Ack)) i ≡ Some (acked w i m).member
    ends : outcome r w (Do i Ask.Ack ∷ []) ≡ Ends (happens r w (Do i Ask.Ack))
    others : (j : ℕ) → (i ≡ j → ⊥)
        → member_at (happens r w (Do i Ask.Ack)) j ≡ member_at w j
    gives : (if line_member (Do i Ask.Ack) == i
        then option_map_or (λ (d : Stepped). d.handed) (done_by r w (Do i Ask.Ack)) [] else [])
        ≡ (acked w i m).handed

  ack_goes : (w : World) (i : ℕ) (m : Member) → member_at w i ≡ Some m → m.live ≡ true
      → IsCalm r (state_of m) → (a : ℕ) → least (pending (state_of m)) ≡ Some a
      → AckGoes w i m a
  ack_goes w i m at live calm a is = record {
    turn = t;
    there = ap (λ v. member_at v i) goes ∙ member_done w i m done at;
    ends = quiet_ends r w (with_done w i done) (Do i Ask.Ack) goes same ∙ ap Ends (sym goes);
    others = λ j ne. ap (λ v. member_at v j) goes ∙ other_same w i done j ne;
    gives =
        cond-true (i == i)
        (option_map_or (λ (d : Stepped). d.handed) (done_by r w (Do i Ask.Ack)) []) []
        (eq-eqb i i refl)
        ∙ ap (λ o. option_map_or (λ (d : Stepped). d.handed) o []) is_done;
  }
    where
      done : Stepped
      done = step r i (signed w) m Event.Ack

      t : AckTurn r m done a
      t = ack_turn r i (signed w) m calm a is

      goes : happens r w (Do i Ask.Ack) ≡ with_done w i done
      goes = turn_goes r w i m Ask.Ack Event.Ack at live refl

      is_done : done_by r w (Do i Ask.Ack) ≡ Some done
      is_done =
          ap (option_and_then (turned r w i (Do i Ask.Ack))) at
          ∙ cond-true m.live (Some done) None live

      same : blocks_of (take 1 (drop i (with_done w i done).members))
          ≡ blocks_of (take 1 (drop i w.members))
      same =
          blocks_at (with_done w i done).members i done.member
          (get-set_same w.members i (Some done.member) (Some m) (member_there w i m at))
          ∙ (ap (filter_map noted_block) t.joined
          ∙ (blocks_same (member_notes m) (Note.Ack a ∷ t.more) t.mild
          ∙ sym (blocks_at w.members i m (member_there w i m at))))

  pub ack_taken : (script : List Line) (w : World) → IsCluster r script → Reaches r script w
      → (i : ℕ) (m : Member) → member_at w i ≡ Some m → m.live ≡ true → (h : ℕ)
      → In h (pending (state_of m)) → IsAckTaken r w i m
  ack_taken script w cluster reach i m at live h pends =
      go (least_there (pending (state_of m)) h pends)
    where
      go : ((a : ℕ) × (least (pending (state_of m)) ≡ Some a)) → IsAckTaken r w i m
      go (a, is) = record {
        height = a;
        is_least = is;
        after = (acked w i m).member;
        there = g.there;
        live = refl;
        acked = g.turn.acked;
        floor =
            ap greatest_floor g.turn.joined
            ∙ floor_same (member_notes m) (Note.Ack a ∷ g.turn.more) g.turn.mild;
        prune =
            ap greatest_prune g.turn.joined
            ∙ prune_same (member_notes m) (Note.Ack a ∷ g.turn.more) g.turn.mild;
        full = (step_up i (signed w) m Event.Ack).full;
        ends = g.ends;
        others = g.others;
      }
        where
          g : AckGoes w i m a
          g =
              ack_goes w i m at live (handed_up script w cluster reach i m at live).calm a is

  -- ---- one after another

  module _ (pos : 0 < r.backlog) (i top : ℕ) where
    -- the member in a world that a script reaches
    record Standing (u : World) (n : Member) : Type 0 where
      script : List Line
      cluster : IsCluster r script
      reach : Reaches r script u
      at : member_at u i ≡ Some n
      can : CanHandUpTo r n top

    abbrev Goal : World → Member → Type 0
    Goal u n = HandsUpTo r u i n top

    -- it is further, or no less far with fewer pending
    abbrev IsOn : Member → Member → Type 0
    IsOn n z =
        (next (state_of n) < next (state_of z))
        ⊎ ((next (state_of n) ≤ next (state_of z))
        × (length (pending (state_of z)) < length (pending (state_of n))))

    at_end : (u : World) (n : Member) → top < next (state_of n) → Goal u n
    at_end u n high = record {
      acks = [];
      are = tt;
      ends = refl;
      each = λ h low le. absurd (omega (arith, high, low, le));
      others = λ j ne. refl;
    }

    by_ack : (u : World) (n : Member) → Standing u n → next (state_of n) ≤ top
        → ((v : World) (z : Member) → Standing v z → IsOn n z → Goal v z) → Goal u n
    by_ack u n s low later = go (least_some (pending (state_of n)) (enough up.full))
      where
        up : IsHandedUp r (state_of n)
        up = handed_up s.script u s.cluster s.reach i n s.at s.can.live

        enough : (r.backlog ≤ length (pending (state_of n)))
            ⊎ (at_height r (member_notes n) (next (state_of n)) ≡ None)
            → 0 < length (pending (state_of n))
        enough (inl le) = omega (arith, pos, le)
        enough (inr none) =
            absurd
            (false≢true
            (subst (λ (o : Option Commitment). IsSome o) none
            (s.can.reached (next (state_of n)) (omega arith) low)))

        v : World
        v = happens r u (Do i Ask.Ack)

        z : Member
        z = (acked u i n).member

        go : ((a : ℕ) × (least (pending (state_of n)) ≡ Some a)) → Goal u n
        go (a, is) = record {
          acks = Do i Ask.Ack ∷ rest.acks;
          are = (refl, rest.are);
          ends = outcome_both r u v (Do i Ask.Ack ∷ []) rest.acks g.ends ∙ rest.ends;
          each = λ h lo hi. by_height h lo hi (cases_lt h (next (state_of z)));
          others = λ j ne. rest.others j ne ∙ g.others j ne;
        }
          where
            g : AckGoes u i n a
            g = ack_goes u i n s.at s.can.live up.calm a is

            can : CanHandUpTo r z top
            can = record {
              live = refl;
              not_given_up =
                  subst (λ x. x ≤ top)
                  (sym
                  (ap greatest_floor g.turn.joined
                  ∙ floor_same (member_notes n) (Note.Ack a ∷ g.turn.more) g.turn.mild))
                  s.can.not_given_up;
              reached =
                  λ h lo hi.
                  subst (λ ns. IsSome (at_height r ns h)) (sym g.turn.joined)
                  (reached_stays r (member_notes n) (Note.Ack a ∷ g.turn.more) g.turn.mild h
                  (s.can.reached h (omega (arith, g.turn.rises, lo)) hi));
            }

            standing : Standing v z
            standing =
                let (longer, among, reaching) =
                reaches_on r s.script u (Do i Ask.Ack ∷ []) s.cluster s.reach (refl, tt) in
                record {
                  script = longer;
                  cluster = among;
                  reach = reaching;
                  at = g.there;
                  can = can;
                }

            on : (next (state_of n) < next (state_of z))
                ⊎ (length (pending (state_of z)) < length (pending (state_of n)))
                → IsOn n z
            on (inl lt) = inl lt
            on (inr less) = inr (g.turn.rises, less)

            rest : Goal v z
            rest = later v z standing (on g.turn.less)

            front : List Handed
            front =
                if line_member (Do i Ask.Ack) == i
                then option_map_or (λ (d : Stepped). d.handed) (done_by r u (Do i Ask.Ack)) []
                else []

            by_height : (h : ℕ) → next (state_of n) ≤ h → h ≤ top
                → (h < next (state_of z)) ⊎ (next (state_of z) ≤ h)
                → IsHandedIn r u i (Do i Ask.Ack ∷ rest.acks) h
            by_height h lo hi (inl lt) =
                let (x, there, e) = g.turn.passes h lo lt in (
                  x,
                  in_left x front (handed_of r v i rest.acks) (subst (In x) (sym g.gives) there),
                  e,
                )
            by_height h lo hi (inr le) =
                let (x, there, e) = rest.each h le hi in
                (x, in_right x front (handed_of r v i rest.acks) there, e)

    by_pending : (k : ℕ)
        → ((v : World) (z : Member) → Standing v z → top < next (state_of z) + k → Goal v z)
        → (size : ℕ) (u : World) (n : Member) → Standing u n → top < next (state_of n) + (k + 1)
        → length (pending (state_of n)) < size → Goal u n
    by_pending k later zero u n s room small = absurd (omega (arith, small))
    by_pending k later (suc size) u n s room small =
        go (cases_lt top (next (state_of n))) (λ v z. by_pending k later size v z)
      where
        by_on : (v : World) (z : Member) → Standing v z
            → ((v : World) (z : Member) → Standing v z → top < next (state_of z) + (k + 1)
            → length (pending (state_of z)) < size → Goal v z)
            → IsOn n z → Goal v z
        by_on v z t same (inl lt) = later v z t (omega (arith, room, lt))
        by_on v z t same (inr (le, less)) =
            same v z t (omega (arith, room, le)) (omega (arith, small, less))

        go : (top < next (state_of n)) ⊎ (next (state_of n) ≤ top)
            → ((v : World) (z : Member) → Standing v z → top < next (state_of z) + (k + 1)
            → length (pending (state_of z)) < size → Goal v z)
            → Goal u n
        go (inl high) same = at_end u n high
        go (inr low) same = by_ack u n s low (λ v z t on. by_on v z t same on)

    by_gap : (k : ℕ) (u : World) (n : Member) → Standing u n → top < next (state_of n) + k
        → Goal u n
    by_gap zero u n s room = at_end u n (omega (arith, room))
    by_gap (suc k) u n s room =
        by_pending k (λ v z. by_gap k v z) (length (pending (state_of n)) + 1) u n s
        (omega (arith, room)) (omega arith)

    pub hands_up : (script : List Line) (w : World) → IsCluster r script → Reaches r script w
        → (m : Member) → member_at w i ≡ Some m → CanHandUpTo r m top → HandsUpTo r w i m top
    hands_up script w cluster reach m at can =
        by_gap (top + 1) w m (record {
          script = script;
          cluster = cluster;
          reach = reach;
          at = at;
          can = can;
        }) (omega arith)
