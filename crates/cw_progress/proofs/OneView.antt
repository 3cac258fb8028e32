-- In one epoch without end all honest members come to one view.
use Rattle.std.proofs.Common.{◌≡◌, ℕ, ◌+◌, ◌<◌, ◌≤◌, true, List, [], ◌∷◌, ◌++◌, Option, Some, None, filter_map, length, slice_get, refl, sym, ◌∙◌, ap, subst, inl, inr, ◌⊎◌, arith, nat_le}
use Rattle.std.specs.List.{AllByRecursion, range_with_len}
use Rattle.std.proofs.lemmas.Bool.{cases_eq, cases_lt, leb-true}
use Rattle.std.proofs.lemmas.Option.{same_Some}
use Rattle.cw_types.specs.declared.event.Event.{Event}
use Rattle.cw_types.specs.declared.message.Message.{Message}
use Rattle.cw_types.specs.declared.note.Note.{Note}
use Rattle.cw_types.specs.declared.vote.Cert.{Cert}
use Rattle.cw_types.specs.declared.vote.Proposal.{Proposal}
use Rattle.cw_types.specs.declared.vote.Vote.TheVariants.{Finalize}
use Rattle.cw_types.specs.Block.{Block}
use Rattle.cw_types.specs.Votes.{finalized}
use Rattle.cw_rules.specs.Chains.{Ends, all_notes, outcome}
use Rattle.cw_rules.specs.Held.{finalization_of, held}
use Rattle.cw_rules.specs.Keeps.{IsCertifiedIn}
use Rattle.cw_rules.specs.Notes.{epoch_of, has_cert, view_of}
use Rattle.cw_rules.specs.Reached.{In, IsCluster, ReachesClear, members_of}
use Rattle.cw_rules.specs.Rules.{Rules, genesis}
use Rattle.cw_rules.specs.Stands.{Stands}
use Rattle.cw_rules.specs.Step.{Member, member_notes, step}
use Rattle.cw_rules.specs.World.{Line, World, member_at, run, signed, with_done}
use Rattle.cw_rules.proofs.Blocks.{Noter, noter, notes_in}
use Rattle.cw_rules.proofs.Certified.{finalized_in}
use Rattle.cw_rules.proofs.Lists.{all_both}
use Rattle.cw_rules.proofs.Worlds.{member_there}
use Rattle.cw_progress.specs.Fresh.{IsFresh}
use Rattle.cw_progress.specs.Going.{helps}
use Rattle.cw_progress.specs.Over.{ComesToClash}
use Rattle.cw_progress.specs.Views.{ComeToOneView, IsInView}
use Rattle.cw_progress.proofs.Certifies.{keeps, lawful, noted_is}
use Rattle.cw_progress.proofs.Chains.{Told, final_lands, view_lands}
use Rattle.cw_progress.proofs.Ends.{cert_note, certified_in_notes, member_is, member_with}
use Rattle.cw_progress.proofs.Fresh.{all_fresh, in_range}
use Rattle.cw_progress.proofs.Latest.{Has, HasTop, Known, Ready, Unknown, cert_stands, epoch_first, final_first, finalizing_note, gave_up_low, knows_none, none_higher, one_on, ready_on, top_base, top_later, view_later}
use Rattle.cw_progress.proofs.Outs.{mapped_from, mapped_in}
use Rattle.cw_progress.proofs.Over.{get_below}
use Rattle.cw_progress.proofs.Paths.{clear_reaches, outcome_both}
use Rattle.cw_progress.proofs.Rising.{certified_held}
use Rattle.cw_progress.proofs.Stages.{Arrives, Begins, Later, Stage, begins, cert_goes, later_held}
use Rattle.cw_progress.proofs.Valid.{cert_has}
use Rattle.cw_progress.proofs.Ways.{Goes, HasSome, NoVote, Way, all_so, goes_then, helps_before, stage_way, way_here, way_on}

-- ---- the foremost

-- the honest member among these numbers whose view is the greatest
pub record BestAmong (w : World) (xs : List ℕ) : Type 0 where
  pub number : ℕ
  pub member : Member
  pub there : member_at w number ≡ Some member
  pub best : (j : ℕ) → In j xs → (n : Member) → member_at w j ≡ Some n
      → view_of (member_notes n) 0 ≤ view_of (member_notes member) 0

abbrev pub NoneAmong : World → List ℕ → Type 0
NoneAmong w xs = (j : ℕ) → In j xs → (n : Member) → member_at w j ≡ Some n → ⊥

pub best_among : (w : World) (xs : List ℕ) → NoneAmong w xs ⊎ BestAmong w xs
best_among w [] = inl (λ j h n at. absurd h)
best_among w (x ∷ xs) = go (member_at w x) refl (best_among w xs)
  where
    nobody : member_at w x ≡ None → (j : ℕ) → j ≡ x → (n : Member) → member_at w j ≡ Some n → ⊥
    nobody e j same n at =
        let y : ◌≡◌ {A = Option Member} None (Some n) = sym e ∙ (ap (member_at w) (sym same) ∙ at)
        in cc y

    it : (m : Member) → member_at w x ≡ Some m → (j : ℕ) → j ≡ x → (n : Member)
        → member_at w j ≡ Some n → m ≡ n
    it m e j same n at = same_Some m n (sym e ∙ (ap (member_at w) (sym same) ∙ at))

    go : (o : Option Member) → member_at w x ≡ o → NoneAmong w xs ⊎ BestAmong w xs
        → NoneAmong w (x ∷ xs) ⊎ BestAmong w (x ∷ xs)
    go None e (inl none) = inl none_here
      where
        none_here : (j : ℕ) → In j (x ∷ xs) → (n : Member) → member_at w j ≡ Some n → ⊥
        none_here j (inl same) n at = nobody e j same n at
        none_here j (inr h) n at = none j h n at
    go None e (inr b) =
        inr (record { number = b.number; member = b.member; there = b.there; best = best_here })
      where
        best_here : (j : ℕ) → In j (x ∷ xs) → (n : Member) → member_at w j ≡ Some n
            → view_of (member_notes n) 0 ≤ view_of (member_notes b.member) 0
        best_here j (inl same) n at = absurd (nobody e j same n at)
        best_here j (inr h) n at = b.best j h n at
    go (Some m) e (inl none) =
        inr (record { number = x; member = m; there = e; best = best_here })
      where
        best_here : (j : ℕ) → In j (x ∷ xs) → (n : Member) → member_at w j ≡ Some n
            → view_of (member_notes n) 0 ≤ view_of (member_notes m) 0
        best_here j (inl same) n at =
            let one = ap (λ (z : Member). view_of (member_notes z) 0) (it m e j same n at) in
            omega (arith, one)
        best_here j (inr h) n at = absurd (none j h n at)
    go (Some m) e (inr b) =
        by_order (cases_lt (view_of (member_notes b.member) 0) (view_of (member_notes m) 0))
      where
        here_best : view_of (member_notes b.member) 0 < view_of (member_notes m) 0 → (j : ℕ)
            → In j (x ∷ xs) → (n : Member) → member_at w j ≡ Some n
            → view_of (member_notes n) 0 ≤ view_of (member_notes m) 0
        here_best lt j (inl same) n at =
            let one = ap (λ (z : Member). view_of (member_notes z) 0) (it m e j same n at) in
            omega (arith, one)
        here_best lt j (inr h) n at = omega (arith, lt, b.best j h n at)

        other_best : view_of (member_notes m) 0 ≤ view_of (member_notes b.member) 0 → (j : ℕ)
            → In j (x ∷ xs) → (n : Member) → member_at w j ≡ Some n
            → view_of (member_notes n) 0 ≤ view_of (member_notes b.member) 0
        other_best le j (inl same) n at =
            let one = ap (λ (z : Member). view_of (member_notes z) 0) (it m e j same n at) in
            omega (arith, one, le)
        other_best le j (inr h) n at = b.best j h n at

        by_order : (view_of (member_notes b.member) 0 < view_of (member_notes m) 0)
            ⊎ (view_of (member_notes m) 0 ≤ view_of (member_notes b.member) 0)
            → NoneAmong w (x ∷ xs) ⊎ BestAmong w (x ∷ xs)
        by_order (inl lt) =
            inr (record { number = x; member = m; there = e; best = here_best lt })
        by_order (inr le) =
            inr (record {
              number = b.number;
              member = b.member;
              there = b.there;
              best = other_best le;
            })

-- the numbers of a world
abbrev pub numbers : World → List ℕ
numbers w = range_with_len 0 (length w.members)

pub numbered : (w : World) (j : ℕ) (n : Member) → member_at w j ≡ Some n → In j (numbers w)
numbered w j n at =
    in_range 0 (length w.members) j (omega arith)
    (omega (arith, get_below w.members j (Some n) (member_there w j n at)))

-- the last of some proposals
last_of : (xs : List Proposal)
    → ((q : Proposal) → In q xs → ⊥)
    ⊎ ((p : Proposal) × In p xs × ((q : Proposal) → In q xs → q.view ≤ p.view))
last_of [] = inl (λ q h. absurd h)
last_of (x ∷ xs) = inr (go (last_of xs))
  where
    alone : ((q : Proposal) → In q xs → ⊥) → (q : Proposal) → In q (x ∷ xs) → q.view ≤ x.view
    alone none q (inl same) =
        let one = ap (λ (y : Proposal). y.view) same in omega (arith, one)
    alone none q (inr h) = absurd (none q h)

    first : (p : Proposal) → p.view < x.view → ((q : Proposal) → In q xs → q.view ≤ p.view)
        → (q : Proposal) → In q (x ∷ xs) → q.view ≤ x.view
    first p lt all q (inl same) =
        let one = ap (λ (y : Proposal). y.view) same in omega (arith, one)
    first p lt all q (inr h) = omega (arith, lt, all q h)

    other : (p : Proposal) → x.view ≤ p.view → ((q : Proposal) → In q xs → q.view ≤ p.view)
        → (q : Proposal) → In q (x ∷ xs) → q.view ≤ p.view
    other p le all q (inl same) =
        let one = ap (λ (y : Proposal). y.view) same in omega (arith, one, le)
    other p le all q (inr h) = all q h

    go : ((q : Proposal) → In q xs → ⊥)
        ⊎ ((p : Proposal) × In p xs × ((q : Proposal) → In q xs → q.view ≤ p.view))
        → (p : Proposal) × In p (x ∷ xs) × ((q : Proposal) → In q (x ∷ xs) → q.view ≤ p.view)
    go (inl none) = (x, inl refl, alone none)
    go (inr (p, h, all)) = by_order (cases_lt p.view x.view)
      where
        by_order : (p.view < x.view) ⊎ (x.view ≤ p.view)
            → (p : Proposal) × In p (x ∷ xs) × ((q : Proposal) → In q (x ∷ xs) → q.view ≤ p.view)
        by_order (inl lt) = (x, inl refl, first p lt all)
        by_order (inr le) = (p, inr h, other p le all)

-- ---- the last finalization

-- the proposals that somebody knows to be finalized
abbrev finals : World → List Proposal
finals w = filter_map finalization_of (all_notes w)

some_final : (w : World) (p : Proposal) → HasSome w (Finalize p) → In p (finals w)
some_final w p s =
    let (t, inside, same) = cert_note (Finalize p) (member_notes s.member) s.noted in
    mapped_in finalization_of (all_notes w) (Note.Cert t) p
    (notes_in (Note.Cert t) w.members s.number s.member
    (member_there w s.number s.member s.there) inside)
    (ap finalized same)

final_some : (w : World) (p : Proposal) → In p (finals w) → HasSome w (Finalize p)
final_some w p h =
    let (n, inside, e) = mapped_from finalization_of (all_notes w) p h in
    let (s, is, votes) = finalizing_note n p e in
    by_noter s votes
    (noter (Note.Cert s) w.members (subst (λ x. In x (all_notes w)) is inside))
  where
    by_noter : (s : Cert) → s.vote ≡ Finalize p → Noter (Note.Cert s) w.members
        → HasSome w (Finalize p)
    by_noter s votes k = record {
      number = k.place;
      member = k.member;
      there = member_is w k.place k.member k.at;
      noted =
          subst (λ v. has_cert (member_notes k.member) v ≡ true) votes
          (cert_has s (member_notes k.member) k.noted);
    }

module _ (r : Rules) (none : r.epochs.span ≡ None) (payload : List ℕ) where
  abbrev pub Leads : World → (World → Type 0) → Type 0
  Leads w P = Goes r w payload NoVote P ⊎ ComesToClash r w (helps w payload)

  abbrev pub IsReady : World → Type 0
  IsReady u = (view : ℕ) × (a : Block) × Ready r u view a

  abbrev pub AreUp : ℕ → List ℕ → World → Type 0
  AreUp low xs u =
      (j : ℕ) → In j xs → (n : Member) → member_at u j ≡ Some n
      → low ≤ view_of (member_notes n) 0

  module _ (script : List Line) (w : World) (cluster : IsCluster r script)
      (clear : ReachesClear r script w) where
    pub stays : (P : World → Type 0) → P w → Leads w P
    stays P h =
        inl (record {
          world = w;
          way = way_here r payload NoVote script w cluster clear;
          holds = h;
        })

    -- whoever certified what was finalized last comes to know it
    certifier_told : (p : Proposal) → ((q : Proposal) → HasSome w (Finalize q) → q.view ≤ p.view)
        → (i : ℕ) (m : Member) → member_at w i ≡ Some m
        → has_cert (member_notes m) (Finalize p) ≡ true → (j : ℕ) (n : Member)
        → member_at w j ≡ Some n → (a : Block) → held r (member_notes n) p.payload ≡ Some a
        → Leads w IsReady
    certifier_told p last i m at cert j n there a holds = go (cases_eq i j)
      where
        by_old : (q : Proposal) → HasSome w (Finalize q) ⊎ ⊥ → q.view ≤ p.view
        by_old q (inl s) = last q s
        by_old q (inr h) = absurd h

        known : (t : Cert) → In (Note.Cert t) (member_notes m) → t.vote ≡ Finalize p
            → (i ≡ j → ⊥) → Begins r w payload i j m n → Leads w IsReady
        known t inside votes differ s =
            by_stage
            (cert_goes r w payload i j differ (member_notes m) (member_notes n) s.world s.giver
            s.taker s.stage t (subst (In (Note.Cert t)) (sym s.given_same) inside))
          where
            after : Member
            after = (step r j (signed s.world) s.taker (Event.Deliver (Message.Cert t))).member

            next_world : World
            next_world =
                with_done s.world j
                (step r j (signed s.world) s.taker (Event.Deliver (Message.Cert t)))

            by_stage : (Stage r w payload i j (member_notes m) (member_notes n) next_world
                s.giver after
                × (has_cert (member_notes after) t.vote ≡ true))
                ⊎ ComesToClash r w (helps w payload)
                → Leads w IsReady
            by_stage (inr clash) = inr clash
            by_stage (inl (x, h)) =
                let way = stage_way r payload NoVote w i j m n at there next_world s.giver after x in
                inl (record {
                  world = next_world;
                  way = way;
                  holds = (
                    p.view,
                    a,
                    record {
                      last =
                          λ q k.
                          by_old q (way.certs k.number k.member k.there (Finalize q) k.noted);
                      number = j;
                      member = after;
                      there = x.takes_at;
                      top =
                          Known p
                          (subst (λ v. has_cert (member_notes after) v ≡ true) votes h) refl
                          (later_held r (member_notes n) (member_notes after) x.takes_more
                          p.payload a holds);
                    },
                  );
                })

        go : (i ≡ j) ⊎ (i ≡ j → ⊥) → Leads w IsReady
        go (inl same) =
            let one : m ≡ n = same_Some m n (sym at ∙ (ap (member_at w) same ∙ there)) in
            stays IsReady (
              p.view,
              a,
              record {
                last = last;
                number = j;
                member = n;
                there = there;
                top =
                    Known p
                    (subst (λ (x : Member). has_cert (member_notes x) (Finalize p) ≡ true) one
                    cert)
                    refl holds;
              },
            )
        go (inr differ) =
            let (t, inside, votes) = cert_note (Finalize p) (member_notes m) cert in
            known t inside votes differ
            (begins r script w cluster clear payload i j differ m n at there)

    -- some honest member comes to know the last finalization, and holds its block
    pub told_last : (i : ℕ) (m : Member) → member_at w i ≡ Some m → Leads w IsReady
    told_last i m at = go (last_of (finals w))
      where
        by_certified : (p : Proposal)
            → ((q : Proposal) → HasSome w (Finalize q) → q.view ≤ p.view)
            → HasSome w (Finalize p) → IsCertifiedIn (members_of w) p → Leads w IsReady
        by_certified p last s c =
            by_member (member_with w c.place c.notes c.at)
          where
            stands : Stands r.epochs (members_of w) (Finalize p)
            stands =
                cert_stands r none script w cluster clear s.number s.member s.there (Finalize p)
                s.noted

            by_member : ((n : Member) × (slice_get w.members c.place ≡ Some (Some n))
                × (member_notes n ≡ c.notes))
                → Leads w IsReady
            by_member (n, place, same) =
                let there = member_is w c.place n place in
                let (b, noted, kept) =
                certified_held r script w cluster (clear_reaches r script w clear) c.place n there
                p
                (subst (In (Note.Certified p)) (sym same)
                (certified_in_notes p c.notes c.certified)) in
                certifier_told p last s.number s.member s.there s.noted c.place n there b
                (kept
                (none_higher r none script w cluster clear p.view b
                (Has p stands refl
                (noted_is r script w cluster clear c.place n there p.payload b noted))
                last c.place n there))

        go : ((q : Proposal) → In q (finals w) → ⊥)
            ⊎ ((p : Proposal) × In p (finals w)
            × ((q : Proposal) → In q (finals w) → q.view ≤ p.view))
            → Leads w IsReady
        go (inl nothing) =
            stays IsReady (
              0,
              genesis r,
              record {
                last = λ p s. absurd (nothing p (some_final w p s));
                number = i;
                member = m;
                there = at;
                top = Unknown refl refl;
              },
            )
        go (inr (p, h, all)) =
            let s = final_some w p h in
            by_certified p (λ q k. all q (some_final w q k)) s
            (finalized_in r cluster.spans (members_of w) (lawful r script w cluster clear)
            (keeps r script w cluster clear) p
            (cert_stands r none script w cluster clear s.number s.member s.there (Finalize p)
            s.noted))

    module _ (view : ℕ) (a : Block) (ready : Ready r w view a) where
      -- it goes over to each
      pub top_to : (j : ℕ) (n : Member) → member_at w j ≡ Some n
          → Leads w (λ u. (z : Member) × (member_at u j ≡ Some z)
          × HasTop r view a (member_notes z))
      top_to j n there = by_top ready.top
        where
          IsTold : World → Type 0
          IsTold u =
              (z : Member) × (member_at u j ≡ Some z) × HasTop r view a (member_notes z)

          by_top : HasTop r view a (member_notes ready.member) → Leads w IsTold
          by_top (Unknown z e) = stays IsTold (n, there, Unknown z e)
          by_top (Known p cert is holds) = go (cases_eq ready.number j)
            where
              go : (ready.number ≡ j) ⊎ (ready.number ≡ j → ⊥) → Leads w IsTold
              go (inl same) =
                  stays IsTold (
                    ready.member,
                    ap (member_at w) (sym same) ∙ ready.there,
                    Known p cert is holds,
                  )
              go (inr differ) =
                  land
                  (final_lands r script w cluster clear payload ready.number j ready.member n
                  ready.there there 0 view a
                  (top_base r none script w cluster clear view a ready ready.number ready.member
                  ready.there (Known p cert is holds) (member_notes n))
                  (knows_none r none script w cluster clear view a ready ready.number
                  ready.member ready.there)
                  (gave_up_low r none script w cluster clear view a ready j n there) differ p cert
                  (final_first r none script w cluster clear p
                  (cert_stands r none script w cluster clear ready.number ready.member
                  ready.there (Finalize p) cert))
                  is holds)
                where
                  land : Told r script w cluster clear payload ready.number j ready.member n
                      ready.there there 0 view a
                      (top_base r none script w cluster clear view a ready ready.number
                      ready.member ready.there (Known p cert is holds) (member_notes n))
                      (knows_none r none script w cluster clear view a ready ready.number
                      ready.member ready.there)
                      (gave_up_low r none script w cluster clear view a ready j n there) p
                      ⊎ ComesToClash r w (helps w payload)
                      → Leads w IsTold
                  land (inr clash) = inr clash
                  land (inl x) =
                      inl (record {
                        world = x.world;
                        way =
                            stage_way r payload NoVote w ready.number j ready.member n ready.there there
                            x.world x.giver x.taker x.stage;
                        holds = (
                          x.taker,
                          x.stage.takes_at,
                          Known p x.told is x.holds,
                        );
                      })

      -- whoever has it brings another to no lower view
      pub view_to : (i : ℕ) (m : Member) → member_at w i ≡ Some m
          → HasTop r view a (member_notes m) → (j : ℕ) (n : Member) → member_at w j ≡ Some n
          → Leads w (λ u. (z : Member) × (member_at u j ≡ Some z)
          × (view_of (member_notes m) 0 ≤ view_of (member_notes z) 0))
      view_to i m at top j n there = go (cases_eq i j)
        where
          IsUp : World → Type 0
          IsUp u =
              (z : Member) × (member_at u j ≡ Some z)
              × (view_of (member_notes m) 0 ≤ view_of (member_notes z) 0)

          go : (i ≡ j) ⊎ (i ≡ j → ⊥) → Leads w IsUp
          go (inl same) = stays IsUp (m, ap (member_at w) (sym same) ∙ at, omega arith)
          go (inr differ) =
              land
              (view_lands r script w cluster clear payload i j m n at there 0 view a
              (top_base r none script w cluster clear view a ready i m at top (member_notes n))
              (knows_none r none script w cluster clear view a ready i m at)
              (gave_up_low r none script w cluster clear view a ready j n there) differ)
            where
              land : Arrives r w payload i j differ (member_notes m) (member_notes n)
                  (λ notes. nat_le (view_of (member_notes m) 0) (view_of notes 0))
                  ⊎ ComesToClash r w (helps w payload)
                  → Leads w IsUp
              land (inr clash) = inr clash
              land (inl x) =
                  inl (record {
                    world = x.world;
                    way =
                        stage_way r payload NoVote w i j m n at there x.world x.giver x.taker x.stage;
                    holds = (
                      x.taker,
                      x.stage.takes_at,
                      leb-true (view_of (member_notes m) 0) (view_of (member_notes x.taker) 0)
                          x.passes,
                    );
                  })

  -- ---- all of them

  -- the member brings all of these to no lower view, wherever that is so
  abbrev AllUp : ℕ → Block → ℕ → List ℕ → Type 0
  AllUp view a low xs =
      (script : List Line) (u : World) → IsCluster r script → ReachesClear r script u
      → Ready r u view a → (i : ℕ) (m : Member) → member_at u i ≡ Some m
      → HasTop r view a (member_notes m) → low ≤ view_of (member_notes m) 0
      → Leads u (AreUp low xs)

  all_up : (view : ℕ) (a : Block) (low : ℕ) (xs : List ℕ) → AllUp view a low xs
  all_up view a low [] script u cluster clear ready i m at top le =
      stays script u cluster clear (AreUp low []) (λ j h n there. absurd h)
  all_up view a low (x ∷ xs) script u cluster clear ready i m at top le =
      by_there (member_at u x) refl (all_up view a low xs)
    where
      IsUp : World → Type 0
      IsUp v =
          (z : Member) × (member_at v x ≡ Some z)
          × (view_of (member_notes m) 0 ≤ view_of (member_notes z) 0)

      -- where nobody honest has the first number
      skip : member_at u x ≡ None → (v : World) → Way r u payload NoVote v → AreUp low xs v → (j : ℕ)
          → In j (x ∷ xs) → (n : Member) → member_at v j ≡ Some n
          → low ≤ view_of (member_notes n) 0
      skip e v way up j (inl same) n there =
          let (z, h) = way.back j n there in
          let y : ◌≡◌ {A = Option Member} None (Some z) =
          sym e ∙ (ap (member_at u) (sym same) ∙ h) in
          absurd (cc y)
      skip e v way up j (inr h) n there = up j h n there

      by_skip : member_at u x ≡ None → Leads u (AreUp low xs) → Leads u (AreUp low (x ∷ xs))
      by_skip e (inr clash) = inr clash
      by_skip e (inl g) =
          inl (record {
            world = g.world;
            way = g.way;
            holds = skip e g.world g.way g.holds;
          })

      -- who is up stays so
      both : (v t : World) → IsUp v → Way r v payload NoVote t → AreUp low xs t → (j : ℕ)
          → In j (x ∷ xs) → (n : Member) → member_at t j ≡ Some n
          → low ≤ view_of (member_notes n) 0
      both v t (z, there, high) way up j (inl same) n h =
          let (y, still, later) = way.kept x z there in
          let one : y ≡ n = same_Some y n (sym still ∙ (ap (member_at t) (sym same) ∙ h)) in
          let two = ap (λ (q : Member). view_of (member_notes q) 0) one in
          omega (
            arith,
            le,
            high,
            two,
            view_later (member_notes z) (member_notes y) later 0,
          )
      both v t f way up j (inr h) n there = up j h n there

      rest : AllUp view a low xs → (v : World) → Way r u payload NoVote v → IsUp v
          → Leads v (AreUp low (x ∷ xs))
      rest later v way f = by_rest (by_giver (way.kept i m at))
        where
          by_giver : ((y : Member) × (member_at v i ≡ Some y)
              × Later (member_notes m) (member_notes y))
              → Leads v (AreUp low xs)
          by_giver (y, there, more) =
              later way.path.script v way.path.cluster way.path.clear
              (ready_on r u payload NoVote (λ p h. h) v view a way ready) i y there
              (top_later r view a (member_notes m) (member_notes y) more top)
              (omega (arith, le, view_later (member_notes m) (member_notes y) more 0))

          by_rest : Leads v (AreUp low xs) → Leads v (AreUp low (x ∷ xs))
          by_rest (inr clash) = inr clash
          by_rest (inl g) =
              inl (record {
                world = g.world;
                way = g.way;
                holds = both v g.world f g.way g.holds;
              })

      by_there : (o : Option Member) → member_at u x ≡ o → AllUp view a low xs
          → Leads u (AreUp low (x ∷ xs))
      by_there None e later =
          by_skip e (later script u cluster clear ready i m at top le)
      by_there (Some n) e later =
          goes_then r payload NoVote u IsUp (AreUp low (x ∷ xs))
          (view_to script u cluster clear view a ready i m at top x n e) (rest later)

  -- all come as far as this member is
  pub all_to : (script : List Line) (w : World) → IsCluster r script → ReachesClear r script w
      → (view : ℕ) (a : Block) → Ready r w view a → (i : ℕ) (m : Member)
      → member_at w i ≡ Some m → Leads w (AreUp (view_of (member_notes m) 0) (numbers w))
  all_to script w cluster clear view a ready i m at =
      goes_then r payload NoVote w IsTold (AreUp (view_of (member_notes m) 0) (numbers w))
      (top_to script w cluster clear view a ready i m at) next
    where
      IsTold : World → Type 0
      IsTold u =
          (z : Member) × (member_at u i ≡ Some z) × HasTop r view a (member_notes z)

      next : (u : World) → Way r w payload NoVote u → IsTold u
          → Leads u (AreUp (view_of (member_notes m) 0) (numbers w))
      next u way (z, there, top) = by_kept (way.kept i m at)
        where
          by_kept : ((y : Member) × (member_at u i ≡ Some y)
              × Later (member_notes m) (member_notes y))
              → Leads u (AreUp (view_of (member_notes m) 0) (numbers w))
          by_kept (y, still, later) =
              let one : y ≡ z = same_Some y z (sym still ∙ there) in
              all_up view a (view_of (member_notes m) 0) (numbers w) way.path.script u
              way.path.cluster way.path.clear (ready_on r w payload NoVote (λ p h. h) u view a way ready) i z there
              top
              (subst
              (λ (q : Member). view_of (member_notes m) 0 ≤ view_of (member_notes q) 0) one
              (view_later (member_notes m) (member_notes y) later 0))

  -- ---- one view

  abbrev pub AreIn : ℕ → World → Type 0
  AreIn view u =
      (j : ℕ) (n : Member) → member_at u j ≡ Some n → view_of (member_notes n) 0 ≡ view

  abbrev pub AreInOne : World → Type 0
  AreInOne u = (view : ℕ) × AreIn view u

  -- who is among these numbers is among those of a world before
  pub up_there : (low : ℕ) (u v : World) → Way r u payload NoVote v → AreUp low (numbers u) v → (j : ℕ)
      (n : Member) → member_at v j ≡ Some n → low ≤ view_of (member_notes n) 0
  up_there low u v way up j n there =
      let (z, h) = way.back j n there in up j (numbered u j z h) n there

  module _ (script : List Line) (w : World) (cluster : IsCluster r script)
      (clear : ReachesClear r script w) (view : ℕ) (a : Block) (ready : Ready r w view a)
      (low : ℕ) (pos : 0 < low)
      (under : (i : ℕ) (m : Member) → member_at w i ≡ Some m → view_of (member_notes m) 0 ≤ low)
    where
      no_further : (u : World) → Way r w payload NoVote u → (i : ℕ) (m : Member) → member_at u i ≡ Some m
          → view_of (member_notes m) 0 ≤ low + 1
      no_further = one_on r none script w cluster clear low pos under payload NoVote (λ q h. absurd h)
          (λ v h x e. absurd h)

      -- from where all have come to the greatest view
      from_low : (u : World) → Way r w payload NoVote u → AreUp low (numbers w) u → Leads u AreInOne
      from_low u way up = by_best (best_among u (numbers u))
        where
          here : AreInOne u → Leads u AreInOne
          here = stays way.path.script u way.path.cluster way.path.clear AreInOne

          -- nobody has come further
          level : (c : BestAmong u (numbers u)) → view_of (member_notes c.member) 0 ≤ low → (j : ℕ)
              (n : Member) → member_at u j ≡ Some n → view_of (member_notes n) 0 ≡ low
          level c le j n there =
              omega (
                arith,
                le,
                c.best j (numbered u j n there) n there,
                up_there low w u way up j n there,
              )

          -- somebody has, so all do
          further : (c : BestAmong u (numbers u)) → low < view_of (member_notes c.member) 0
              → Leads u (AreUp (view_of (member_notes c.member) 0) (numbers u))
              → Leads u AreInOne
          further c lt (inr clash) = inr clash
          further c lt (inl g) =
              inl (record {
                world = g.world;
                way = g.way;
                holds = (
                  low + 1,
                  λ j n there.
                      omega (
                        arith,
                        lt,
                        no_further g.world (way_on r payload NoVote w u g.world way g.way) j n there,
                        up_there (view_of (member_notes c.member) 0) u g.world g.way g.holds j n
                            there,
                      ),
                );
              })

          by_order : (c : BestAmong u (numbers u))
              → (low < view_of (member_notes c.member) 0)
              ⊎ (view_of (member_notes c.member) 0 ≤ low)
              → Leads u AreInOne
          by_order c (inr le) = here (low, level c le)
          by_order c (inl lt) =
              further c lt
              (all_to way.path.script u way.path.cluster way.path.clear view a
              (ready_on r w payload NoVote (λ p h. h) u view a way ready) c.number c.member c.there)

          by_best : NoneAmong u (numbers u) ⊎ BestAmong u (numbers u) → Leads u AreInOne
          by_best (inl nobody) =
              here (0, λ j n there. absurd (nobody j (numbered u j n there) n there))
          by_best (inr c) = by_order c (cases_lt low (view_of (member_notes c.member) 0))

  pub come_together : (script : List Line) (w : World) → IsCluster r script
      → ReachesClear r script w → (view : ℕ) (a : Block) → Ready r w view a
      → BestAmong w (numbers w) → Leads w AreInOne
  come_together script w cluster clear view a ready b =
      goes_then r payload NoVote w (AreUp (view_of (member_notes b.member) 0) (numbers w)) AreInOne
      (all_to script w cluster clear view a ready b.number b.member b.there)
      (from_low script w cluster clear view a ready (view_of (member_notes b.member) 0)
      (omega arith) (λ i m at. b.best i (numbered w i m at) m at))

  pub one_way : (script : List Line) (w : World) → IsCluster r script → ReachesClear r script w
      → Leads w AreInOne
  one_way script w cluster clear = by_best (best_among w (numbers w))
    where
      next : (u : World) → Way r w payload NoVote u → IsReady u → Leads u AreInOne
      next u way (view, a, ready) = go (best_among u (numbers u))
        where
          go : NoneAmong u (numbers u) ⊎ BestAmong u (numbers u) → Leads u AreInOne
          go (inl nobody) =
              stays way.path.script u way.path.cluster way.path.clear AreInOne
              (0, λ j n there. absurd (nobody j (numbered u j n there) n there))
          go (inr b) =
              come_together way.path.script u way.path.cluster way.path.clear view a ready b

      by_best : NoneAmong w (numbers w) ⊎ BestAmong w (numbers w) → Leads w AreInOne
      by_best (inl nobody) =
          stays script w cluster clear AreInOne
          (0, λ j n there. absurd (nobody j (numbered w j n there) n there))
      by_best (inr b) =
          goes_then r payload NoVote w IsReady AreInOne
          (told_last script w cluster clear b.number b.member b.there) next

-- all honest members come to one view, live
pub one_view : (r : Rules) (script : List Line) (w : World) → r.epochs.span ≡ None
    → IsCluster r script → ReachesClear r script w → (payload : List ℕ)
    → ComeToOneView r w (helps w payload) ⊎ ComesToClash r w (helps w payload)
one_view r script w none cluster clear payload =
    go (one_way r none payload script w cluster clear)
  where
    go : Goes r w payload NoVote (AreInOne r none payload) ⊎ ComesToClash r w (helps w payload)
        → ComeToOneView r w (helps w payload) ⊎ ComesToClash r w (helps w payload)
    go (inr clash) = inr clash
    go (inl g) = by_fresh (all_fresh r g.world payload)
      where
        by_fresh : ((lines : List Line)
            × AllByRecursion (λ line. helps g.world payload line ≡ true) lines
            × (outcome r g.world lines ≡ Ends (run r g.world lines))
            × ((i : ℕ) (m : Member) → member_at g.world i ≡ Some m
            → IsFresh (run r g.world lines) i (member_notes m)))
            → ComeToOneView r w (helps w payload) ⊎ ComesToClash r w (helps w payload)
        by_fresh (lines, are, ends, fresh) =
            inl (record {
              lines = g.way.path.lines ++ lines;
              are =
                  all_both (λ line. helps w payload line ≡ true) g.way.path.lines lines
                  g.way.path.are
                  (all_so (λ line. helps g.world payload line ≡ true)
                  (λ line. helps w payload line ≡ true)
                  (helps_before w g.world payload g.way.more g.way.pool) lines are);
              after = run r g.world lines;
              ends =
                  outcome_both r w g.world g.way.path.lines lines g.way.path.ends ∙ ends;
              view = g.holds.0;
              each = λ i m at. by_kept m i (g.way.kept i m at);
            })
          where
            by_kept : (before : Member) (i : ℕ)
                → ((y : Member) × (member_at g.world i ≡ Some y)
                × Later (member_notes before) (member_notes y))
                → IsInView (run r g.world lines) i g.holds.0
            by_kept before i (y, there, later) =
                let f = fresh i y there in
                record {
                  member = f.member;
                  there = f.there;
                  live = f.live;
                  epoch_is =
                      ap epoch_of f.same
                      ∙ epoch_first r none g.way.path.script g.world g.way.path.cluster
                      g.way.path.clear i y there;
                  view_is = ap (λ ns. view_of ns 0) f.same ∙ g.holds.1 i y there;
                }
