-- In one epoch without end: what somebody knows goes over to each, one after another.
use Rattle.std.proofs.Common.{◌≡◌, ℕ, ◌<◌, true, List, [], ◌∷◌, Option, Some, None, refl, sym, ◌∙◌, ap, subst, inl, inr, ◌⊎◌}
use Rattle.std.proofs.lemmas.Bool.{cases_eq}
use Rattle.std.proofs.lemmas.Option.{same_Some}
use Rattle.cw_types.specs.declared.event.Event.{Event}
use Rattle.cw_types.specs.declared.message.Message.{Message}
use Rattle.cw_types.specs.declared.note.Note.{Note}
use Rattle.cw_types.specs.declared.vote.Cert.{Cert}
use Rattle.cw_types.specs.declared.vote.Proposal.{Proposal}
use Rattle.cw_types.specs.declared.vote.Vote.{Vote}
use Rattle.cw_types.specs.Block.{Block}
use Rattle.cw_rules.specs.Notes.{has_cert, has_certified, is_cert}
use Rattle.cw_rules.specs.Reached.{In, IsCluster, ReachesClear}
use Rattle.cw_rules.specs.Rules.{Rules}
use Rattle.cw_rules.specs.Step.{Member, member_notes, step}
use Rattle.cw_rules.specs.World.{Line, World, member_at, signed, with_done}
use Rattle.cw_rules.proofs.NoteLemmas.{any_front}
use Rattle.cw_progress.specs.Going.{helps}
use Rattle.cw_progress.specs.Over.{ComesToClash}
use Rattle.cw_progress.proofs.Chains.{chain_lands}
use Rattle.cw_progress.proofs.Ends.{cert_note, has_noted}
use Rattle.cw_progress.proofs.Latest.{HasTop, Ready, gave_up_low, knows_none, ready_on, top_base}
use Rattle.cw_progress.proofs.OneView.{Leads, numbered, numbers, stays, top_to}
use Rattle.cw_progress.proofs.Stages.{Arrives, Begins, Later, Stage, begins, cert_goes, later_in}
use Rattle.cw_progress.proofs.Ways.{HasSome, NoVote, Way, goes_then, stage_way}

-- what somebody has a certificate of stays so
pub some_on : (r : Rules) (payload : List ℕ) (New : Vote → Type 0) (w u : World)
    → Way r w payload New u → (v : Vote) → HasSome w v → HasSome u v
some_on r payload New w u way v s =
    let (y, there, later) = way.kept s.number s.member s.there in
    record {
      number = s.number;
      member = y;
      there = there;
      noted =
          subst (λ ns. has_cert ns v ≡ true) (sym later.joined)
          (any_front (is_cert v) (member_notes s.member) later.more s.noted);
    }

module _ (r : Rules) (none : r.epochs.span ≡ None) (payload : List ℕ) where
  -- the member's notes are such
  abbrev pub HasAt : (List Note → Type 0) → ℕ → World → Type 0
  HasAt T j u = (z : Member) × (member_at u j ≡ Some z) × T (member_notes z)

  -- those of each of these numbers are
  abbrev pub AllHave : (List Note → Type 0) → List ℕ → World → Type 0
  AllHave T xs u =
      (j : ℕ) → In j xs → (n : Member) → member_at u j ≡ Some n → T (member_notes n)

  -- more notes are such too
  abbrev pub IsLasting : (List Note → Type 0) → Type 0
  IsLasting T = (xs ys : List Note) → Later xs ys → T xs → T ys

  pub at_on : (T : List Note → Type 0) → IsLasting T → (New : Vote → Type 0) (j : ℕ) (w u : World)
      → Way r w payload New u → HasAt T j w → HasAt T j u
  at_on T lasting New j w u way (z, there, t) = by_kept (way.kept j z there)
    where
      by_kept : ((y : Member) × (member_at u j ≡ Some y)
          × Later (member_notes z) (member_notes y))
          → HasAt T j u
      by_kept (y, still, later) =
          (y, still, lasting (member_notes z) (member_notes y) later t)

  all_on : (T : List Note → Type 0) → IsLasting T → (xs : List ℕ) (w u : World)
      → Way r w payload NoVote u → AllHave T xs w → AllHave T xs u
  all_on T lasting xs w u way all j inside n at =
      let (x, there) = way.back j n at in
      by_at (at_on T lasting NoVote j w u way (x, there, all j inside x there))
    where
      by_at : HasAt T j u → T (member_notes n)
      by_at (y, still, t) =
          subst (λ (z : Member). T (member_notes z)) (same_Some y n (sym still ∙ at)) t

  -- where each can be brought to such notes all can
  module _ (C : World → Type 0)
      (keeps : (w u : World) → Way r w payload NoVote u → C w → C u) (T : List Note → Type 0)
      (lasting : IsLasting T)
      (one : (script : List Line) (w : World) → IsCluster r script → ReachesClear r script w
      → C w → (j : ℕ) (n : Member) → member_at w j ≡ Some n
      → Leads r none payload w (HasAt T j)) where
    some_have : (xs : List ℕ) (script : List Line) (w : World) → IsCluster r script
        → ReachesClear r script w → C w → Leads r none payload w (AllHave T xs)
    some_have [] script w cluster clear c =
        stays r none payload script w cluster clear (AllHave T []) (λ j inside n at. absurd inside)
    some_have (x ∷ xs) script w cluster clear c =
        goes_then r payload NoVote w (AllHave T xs) (AllHave T (x ∷ xs))
        (some_have xs script w cluster clear c) next
      where
        both : (u : World) → AllHave T xs u → HasAt T x u → AllHave T (x ∷ xs) u
        both u all (z, there, t) j (inl same) n at =
            subst (λ (y : Member). T (member_notes y))
            (same_Some z n (sym there ∙ (ap (member_at u) (sym same) ∙ at))) t
        both u all h j (inr inside) n at = all j inside n at

        skip : (u : World) → AllHave T xs u → member_at u x ≡ None → AllHave T (x ∷ xs) u
        skip u all e j (inl same) n at =
            let y : ◌≡◌ {A = Option Member} None (Some n) =
            sym e ∙ (ap (member_at u) (sym same) ∙ at) in
            absurd (cc y)
        skip u all e j (inr inside) n at = all j inside n at

        land : (u : World) → AllHave T xs u → Leads r none payload u (HasAt T x)
            → Leads r none payload u (AllHave T (x ∷ xs))
        land u all (inr clash) = inr clash
        land u all (inl g) =
            inl (record {
              world = g.world;
              way = g.way;
              holds = both g.world (all_on T lasting xs u g.world g.way all) g.holds;
            })

        next : (u : World) → Way r w payload NoVote u → AllHave T xs u
            → Leads r none payload u (AllHave T (x ∷ xs))
        next u way all = by_there (member_at u x) refl
          where
            by_there : (o : Option Member) → member_at u x ≡ o
                → Leads r none payload u (AllHave T (x ∷ xs))
            by_there None e =
                stays r none payload way.path.script u way.path.cluster way.path.clear
                (AllHave T (x ∷ xs)) (skip u all e)
            by_there (Some n) e =
                land u all
                (one way.path.script u way.path.cluster way.path.clear (keeps w u way c) x n e)

    -- so each honest member
    pub all_have : (script : List Line) (w : World) → IsCluster r script → ReachesClear r script w
        → C w
        → Leads r none payload w
        (λ u. (j : ℕ) (n : Member) → member_at u j ≡ Some n → T (member_notes n))
    all_have script w cluster clear c = go (some_have (numbers w) script w cluster clear c)
      where
        go : Leads r none payload w (AllHave T (numbers w))
            → Leads r none payload w
            (λ u. (j : ℕ) (n : Member) → member_at u j ≡ Some n → T (member_notes n))
        go (inr clash) = inr clash
        go (inl g) =
            inl (record {
              world = g.world;
              way = g.way;
              holds =
                  λ j n at.
                  let (x, there) = g.way.back j n at in g.holds j (numbered w j x there) n at;
            })

  module _ (script : List Line) (w : World) (cluster : IsCluster r script)
      (clear : ReachesClear r script w) where
    -- a certificate of the vote goes over
    pub cert_to : (v : Vote) → HasSome w v → (j : ℕ) (n : Member) → member_at w j ≡ Some n
        → Leads r none payload w (HasAt (λ ns. has_cert ns v ≡ true) j)
    cert_to v s j n there = go (cases_eq s.number j)
      where
        T : List Note → Type 0
        T ns = has_cert ns v ≡ true

        by_note : (differ : s.number ≡ j → ⊥) → (t : Cert)
            → In (Note.Cert t) (member_notes s.member) → t.vote ≡ v
            → Begins r w payload s.number j s.member n → Leads r none payload w (HasAt T j)
        by_note differ t inside votes b =
            by_stage
            (cert_goes r w payload s.number j differ (member_notes s.member) (member_notes n)
            b.world b.giver b.taker b.stage t (subst (In (Note.Cert t)) (sym b.given_same) inside))
          where
            after : Member
            after = (step r j (signed b.world) b.taker (Event.Deliver (Message.Cert t))).member

            next_world : World
            next_world =
                with_done b.world j
                (step r j (signed b.world) b.taker (Event.Deliver (Message.Cert t)))

            by_stage : (Stage r w payload s.number j (member_notes s.member) (member_notes n)
                next_world b.giver after
                × (has_cert (member_notes after) t.vote ≡ true))
                ⊎ ComesToClash r w (helps w payload)
                → Leads r none payload w (HasAt T j)
            by_stage (inr clash) = inr clash
            by_stage (inl (x, h)) =
                inl (record {
                  world = next_world;
                  way =
                      stage_way r payload NoVote w s.number j s.member n s.there there next_world
                      b.giver after x;
                  holds = (
                    after,
                    x.takes_at,
                    subst (λ z. has_cert (member_notes after) z ≡ true) votes h,
                  );
                })

        go : (s.number ≡ j) ⊎ (s.number ≡ j → ⊥) → Leads r none payload w (HasAt T j)
        go (inl same) =
            stays r none payload script w cluster clear (HasAt T j) (
              s.member,
              ap (member_at w) (sym same) ∙ s.there,
              s.noted,
            )
        go (inr differ) =
            let (t, inside, votes) = cert_note v (member_notes s.member) s.noted in
            by_note differ t inside votes
            (begins r script w cluster clear payload s.number j differ s.member n s.there there)

    -- whoever has the last finalization brings what it certified above it
    chain_to : (view : ℕ) (a : Block) → Ready r w view a → (i : ℕ) (m : Member)
        → member_at w i ≡ Some m → HasTop r view a (member_notes m) → (q : Proposal)
        → In (Note.Certified q) (member_notes m) → q.epoch ≡ 0 → view < q.view
        → (j : ℕ) (n : Member) → member_at w j ≡ Some n
        → Leads r none payload w (HasAt (λ ns. has_certified ns q ≡ true) j)
    chain_to view a ready i m at top q said of above j n there = go (cases_eq i j)
      where
        T : List Note → Type 0
        T ns = has_certified ns q ≡ true

        go : (i ≡ j) ⊎ (i ≡ j → ⊥) → Leads r none payload w (HasAt T j)
        go (inl same) =
            stays r none payload script w cluster clear (HasAt T j) (
              m,
              ap (member_at w) (sym same) ∙ at,
              has_noted q (member_notes m) said,
            )
        go (inr differ) =
            land
            (chain_lands r script w cluster clear payload i j m n at there 0 view a
            (top_base r none script w cluster clear view a ready i m at top (member_notes n))
            (knows_none r none script w cluster clear view a ready i m at)
            (gave_up_low r none script w cluster clear view a ready j n there) differ q said of
            above)
          where
            land : Arrives r w payload i j differ (member_notes m) (member_notes n)
                (λ notes. has_certified notes q)
                ⊎ ComesToClash r w (helps w payload)
                → Leads r none payload w (HasAt T j)
            land (inr clash) = inr clash
            land (inl x) =
                inl (record {
                  world = x.world;
                  way =
                      stage_way r payload NoVote w i j m n at there x.world x.giver x.taker x.stage;
                  holds = (x.taker, x.stage.takes_at, x.passes);
                })

  -- so does whoever certified it
  pub certified_to : (script : List Line) (w : World) → IsCluster r script
      → ReachesClear r script w → (view : ℕ) (a : Block) → Ready r w view a → (i : ℕ) (m : Member)
      → member_at w i ≡ Some m → (q : Proposal) → In (Note.Certified q) (member_notes m)
      → q.epoch ≡ 0 → view < q.view → (j : ℕ) (n : Member) → member_at w j ≡ Some n
      → Leads r none payload w (HasAt (λ ns. has_certified ns q ≡ true) j)
  certified_to script w cluster clear view a ready i m at q said of above j n there =
      goes_then r payload NoVote w (HasAt (HasTop r view a) i)
      (HasAt (λ ns. has_certified ns q ≡ true) j)
      (top_to r none payload script w cluster clear view a ready i m at) next
    where
      next : (u : World) → Way r w payload NoVote u → HasAt (HasTop r view a) i u
          → Leads r none payload u (HasAt (λ ns. has_certified ns q ≡ true) j)
      next u way (z, still, top) = by_both (way.kept i m at) (way.kept j n there)
        where
          by_both : ((y : Member) × (member_at u i ≡ Some y)
              × Later (member_notes m) (member_notes y))
              → ((y : Member) × (member_at u j ≡ Some y)
              × Later (member_notes n) (member_notes y))
              → Leads r none payload u (HasAt (λ ns. has_certified ns q ≡ true) j)
          by_both (y, at_y, later) (x, at_x, more) =
              chain_to way.path.script u way.path.cluster way.path.clear view a
              (ready_on r w payload NoVote (λ p h. h) u view a way ready) i z still top q
              (subst (λ (k : Member). In (Note.Certified q) (member_notes k))
              (same_Some y z (sym at_y ∙ still))
              (later_in (member_notes m) (member_notes y) later (Note.Certified q) said))
              of above j x at_x

  -- ---- each honest member

  abbrev pub Every : (List Note → Type 0) → World → Type 0
  Every T u = (j : ℕ) (n : Member) → member_at u j ≡ Some n → T (member_notes n)

  pub every_on : (T : List Note → Type 0) → IsLasting T → (New : Vote → Type 0) (w u : World)
      → Way r w payload New u → Every T w → Every T u
  every_on T lasting New w u way all j n at =
      let (x, there) = way.back j n at in
      by_at (at_on T lasting New j w u way (x, there, all j x there))
    where
      by_at : HasAt T j u → T (member_notes n)
      by_at (y, still, t) =
          subst (λ (z : Member). T (member_notes z)) (same_Some y n (sym still ∙ at)) t
