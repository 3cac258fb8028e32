-- In one epoch without end all honest members come to any view above theirs, and none has voted in it.
use Rattle.std.proofs.Common.{◌≡◌, ℕ, zero, suc, ◌+◌, ◌-◌, ◌<◌, ◌≤◌, ◌^◌, true, false, ◌==◌, nat_lt, List, [], ◌∷◌, ◌++◌, Some, None, filter_map, refl, sym, ◌∙◌, ap, subst, inl, inr, ◌⊎◌, arith, eqb-true}
use Rattle.std.proofs.lemmas.Bool.{and_parts, cases_Bool, cases_eq, cases_lt, false≢true, ltb-true}
use Rattle.std.proofs.lemmas.List.Elements.{filter_map-append}
use Rattle.cw_types.specs.declared.note.Note.{Note}
use Rattle.cw_types.specs.declared.vote.Proposal.{Proposal}
use Rattle.cw_types.specs.declared.vote.Vote.{Vote}
use Rattle.cw_types.specs.declared.vote.Vote.TheVariants.{Finalize, Notarize, Nullify}
use Rattle.cw_types.specs.Block.{Block}
use Rattle.cw_types.specs.Votes.{is_view, vote_epoch, vote_view}
use Rattle.cw_types.proofs.Same.{same_vote_self}
use Rattle.cw_rules.specs.Fits.{block_fits}
use Rattle.cw_rules.specs.Keeps.{Keeps, meaning}
use Rattle.cw_rules.specs.Notes.{ended, ended_by, greatest, has_vote, is_vote, nullified, view_of}
use Rattle.cw_rules.specs.Owed.{all_nullified, has_voted, votes_in}
use Rattle.cw_rules.specs.Reached.{In, IsCluster, ReachesClear, members_of}
use Rattle.cw_rules.specs.Rules.{Rules}
use Rattle.cw_rules.specs.Stands.{IsSettled}
use Rattle.cw_rules.specs.Step.{Member, member_notes}
use Rattle.cw_rules.specs.World.{Line, World, member_at}
use Rattle.cw_rules.proofs.Chain.{finalized_certified}
use Rattle.cw_rules.proofs.Lists.{in_left, range_all}
use Rattle.cw_rules.proofs.NoteLemmas.{Settles, found_after, settler_found, vote_note}
use Rattle.cw_progress.specs.Ended.{IsOfView}
use Rattle.cw_progress.specs.Going.{helps}
use Rattle.cw_progress.specs.Over.{ComesToClash}
use Rattle.cw_progress.specs.Views.{ComeToView, IsNewTo}
use Rattle.cw_progress.proofs.Carries.{each_at}
use Rattle.cw_progress.proofs.Certifies.{keeps, lawful, notes_at}
use Rattle.cw_progress.proofs.Ends.{cert_note, certified_in_notes, ends_here, nullify_in_view}
use Rattle.cw_progress.proofs.Latest.{Ready, epoch_first, one_on, ready_on}
use Rattle.cw_progress.proofs.OneView.{AreIn, AreInOne, BestAmong, IsReady, NoneAmong, best_among, come_together, numbered, numbers, told_last}
use Rattle.cw_progress.proofs.Outs.{mapped_in}
use Rattle.cw_progress.proofs.Paths.{clear_reaches}
use Rattle.cw_progress.proofs.Quiet.{IsFinal}
use Rattle.cw_progress.proofs.Quorum.{any_in, in_any}
use Rattle.cw_progress.proofs.Rounds.{AreIdleIn, Brings, IsNullBelow, all_idle, all_later}
use Rattle.cw_progress.proofs.Stages.{Later}
use Rattle.cw_progress.proofs.Tops.{greatest_low, in_greatest}
use Rattle.cw_progress.proofs.Ways.{HasVote, NoVote, Way, goes_then, goes_weaker, way_on}

-- ---- own votes

-- a front of the notes has no later view
view_front : (xs ys : List Note) (epoch : ℕ) → view_of xs epoch ≤ view_of (xs ++ ys) epoch
view_front xs ys epoch =
    let a = filter_map (ended epoch) xs in
    let b = filter_map (ended epoch) ys in
    let one = ap greatest (filter_map-append (ended epoch) xs ys) in
    omega (
      arith,
      one,
      greatest_low a (greatest (a ++ b)) (λ x h. in_greatest (a ++ b) x (in_left x a b h)),
    )

module _ (r : Rules) (script : List Line) (w : World) (cluster : IsCluster r script)
    (clear : ReachesClear r script w) (i : ℕ) (m : Member) (at : member_at w i ≡ Some m) where
  -- a vote to nullify is of no later view than its voter's
  nullify_low : (epoch view : ℕ) → has_vote (member_notes m) (Nullify epoch view) ≡ true
      → view ≤ view_of (member_notes m) epoch
  nullify_low epoch view h =
      let (n, inside, e) = any_in (is_vote (Nullify epoch view)) (member_notes m) h in
      let is = vote_note (Nullify epoch view) n e in
      let (front, rest, joined, seen) =
      each_at IsOfView [] (member_notes m) (Note.Vote (Nullify epoch view))
      (nullify_in_view r script w cluster (clear_reaches r script w clear) i m at)
      (subst (λ x. In x (member_notes m)) is inside) in
      let more = Note.Vote (Nullify epoch view) ∷ rest in
      let one = ap (λ ns. view_of ns epoch) joined in
      omega (arith, seen.1, one, view_front front more epoch)

  -- nor is one to notarize
  pub notarize_low : (p : Proposal) → has_vote (member_notes m) (Notarize p) ≡ true
      → p.view ≤ view_of (member_notes m) p.epoch
  notarize_low p h =
      let f =
      found_after (Keeps r (meaning r.epochs (members_of w))) (is_vote (Notarize p)) []
      (member_notes m)
      (keeps r script w cluster clear i (member_notes m) (notes_at r script w cluster clear i m at))
      h in
      let k =
      subst (Keeps r (meaning r.epochs (members_of w)) f.before)
      (vote_note (Notarize p) f.note f.passes) f.holds in
      let formed = and_parts (is_view p.view) (nat_lt p.parent p.view) k.0 in
      go p.view refl f.before f.rest f.joined (ltb-true p.parent p.view formed.1) k.2 k.3
    where
      within : (u : ℕ) (before rest : List Note) → member_notes m ≡ before ++ rest → (n : Note)
          → In n before → ended p.epoch n ≡ Some u → u < view_of (member_notes m) p.epoch
      within u before rest joined n inside e =
          omega (
            arith,
            in_greatest (filter_map (ended p.epoch) (member_notes m)) u
                (mapped_in (ended p.epoch) (member_notes m) n u
                (subst (In n) (sym joined) (in_left n before rest inside)) e),
          )

      by_settler : (u : ℕ) (before rest : List Note) → member_notes m ≡ before ++ rest
          → p.parent ≡ u → ((q : Proposal) × Settles before p.epoch p.parent q)
          → u < view_of (member_notes m) p.epoch
      by_settler u before rest joined same (q, (of, view, inl c)) =
          within u before rest joined (Note.Certified q) (certified_in_notes q before c)
          (ends_here p.epoch q.epoch q.view u of (view ∙ same))
      by_settler u before rest joined same (q, (of, view, inr c)) =
          let (s, inside, e) = cert_note (Finalize q) before c in
          within u before rest joined (Note.Cert s) inside
          (ap (ended_by p.epoch) e ∙ ends_here p.epoch q.epoch q.view u of (view ∙ same))

      by_settled : (u : ℕ) (before rest : List Note) → member_notes m ≡ before ++ rest
          → p.parent ≡ u → IsSettled before p.epoch p.parent
          → u < view_of (member_notes m) p.epoch
      by_settled u before rest joined same (inl z) = omega (arith, same, z.0)
      by_settled u before rest joined same (inr z) =
          by_settler u before rest joined same (settler_found before p.epoch p.parent z.1)

      by_null : (u : ℕ) → p.view ≡ suc u → (before rest : List Note)
          → member_notes m ≡ before ++ rest → p.parent < p.view → (p.parent ≡ u → ⊥)
          → all_nullified before p.epoch p.parent p.view ≡ true
          → u < view_of (member_notes m) p.epoch
      by_null u is before rest joined low other nulls =
          let cert : nullified before p.epoch u ≡ true =
          range_all (nullified before p.epoch) (p.parent + 1) (p.view - p.parent - 1) nulls u
          low_one (omega (arith, low, is)) in
          let (s, inside, e) = cert_note (Nullify p.epoch u) before cert in
          within u before rest joined (Note.Cert s) inside
          (ap (ended_by p.epoch) e ∙ ends_here p.epoch p.epoch u u refl refl)
        where
          low_one : p.parent + 1 ≤ u
          low_one = by_order (cases_lt p.parent u)
            where
              by_order : (p.parent < u) ⊎ (u ≤ p.parent) → p.parent + 1 ≤ u
              by_order (inl lt) = omega (arith, lt)
              by_order (inr le) = absurd (other (omega (arith, le, low, is)))

      by_parent : (u : ℕ) → p.view ≡ suc u → (before rest : List Note)
          → member_notes m ≡ before ++ rest → p.parent < p.view
          → IsSettled before p.epoch p.parent
          → all_nullified before p.epoch p.parent p.view ≡ true
          → (p.parent ≡ u) ⊎ (p.parent ≡ u → ⊥) → u < view_of (member_notes m) p.epoch
      by_parent u is before rest joined low settled nulls (inl same) =
          by_settled u before rest joined same settled
      by_parent u is before rest joined low settled nulls (inr other) =
          by_null u is before rest joined low other nulls

      go : (v : ℕ) → p.view ≡ v → (before rest : List Note) → member_notes m ≡ before ++ rest
          → p.parent < p.view → IsSettled before p.epoch p.parent
          → all_nullified before p.epoch p.parent p.view ≡ true
          → p.view ≤ view_of (member_notes m) p.epoch
      go zero is before rest joined low settled nulls = omega (arith, is)
      go (suc u) is before rest joined low settled nulls =
          omega (
            arith,
            is,
            by_parent u is before rest joined low settled nulls (cases_eq p.parent u),
          )

module _ (r : Rules) (none : r.epochs.span ≡ None) (payload : List ℕ) (script : List Line)
    (w : World) (cluster : IsCluster r script) (clear : ReachesClear r script w) (top : ℕ)
    (each : (i : ℕ) (m : Member) → member_at w i ≡ Some m → view_of (member_notes m) 0 ≤ top)
  where
    -- ---- nobody has voted there

    module _ (u : World) (way : Way r w payload (IsNullBelow (top + 1)) u)
        (here : AreIn r none payload (top + 1) u) (j : ℕ) (n : Member)
        (at : member_at u j ≡ Some n) where
      no_vote : (v : Vote) → In (Note.Vote v) (member_notes n) → vote_epoch v ≡ 0
          → vote_view v ≡ top + 1
          → HasVote w v ⊎ (IsFinal v ⊎ IsNullBelow (top + 1) v) → ⊥
      no_vote (Notarize p) inside of in_view (inl s) =
          let low =
          notarize_low r script w cluster clear s.number s.member s.there p s.voted in
          let same = ap (view_of (member_notes s.member)) of in
          omega (arith, in_view, low, same, each s.number s.member s.there)
      no_vote (Notarize p) inside of in_view (inr (inl f)) = f
      no_vote (Notarize p) inside of in_view (inr (inr (x, lt, e))) = cc e
      no_vote (Nullify epoch view) inside of in_view (inl s) =
          let low =
          nullify_low r script w cluster clear s.number s.member s.there epoch view s.voted in
          let same = ap (view_of (member_notes s.member)) of in
          omega (arith, in_view, low, same, each s.number s.member s.there)
      no_vote (Nullify epoch view) inside of in_view (inr (inl f)) = f
      no_vote (Nullify epoch view) inside of in_view (inr (inr (x, lt, e))) =
          let same : view ≡ x = ap vote_view e in omega (arith, in_view, same, lt)
      no_vote (Finalize p) inside of in_view source =
          let voted : has_vote (member_notes n) (Finalize p) ≡ true =
          in_any (is_vote (Finalize p)) (member_notes n) (Note.Vote (Finalize p)) inside
          (same_vote_self (Finalize p)) in
          let certified =
          certified_in_notes p (member_notes n)
          (finalized_certified r.epochs (block_fits r) (members_of u) (member_notes n)
          ((lawful r way.path.script u way.path.cluster way.path.clear).honest j (member_notes n)
          (notes_at r way.path.script u way.path.cluster way.path.clear j n at))
          p voted) in
          let high =
          in_greatest (filter_map (ended 0) (member_notes n)) (top + 1)
          (mapped_in (ended 0) (member_notes n) (Note.Certified p) (top + 1) certified
          (ends_here 0 p.epoch p.view (top + 1) of in_view)) in
          omega (arith, high, here j n at)

      no_note : (x : Note) → In x (member_notes n) → votes_in 0 (top + 1) x ≡ true → ⊥
      no_note (Note.Vote v) inside e =
          let a = and_parts (vote_epoch v == 0) (vote_view v == (top + 1)) e in
          no_vote v inside (eqb-true (vote_epoch v) 0 a.0)
          (eqb-true (vote_view v) (top + 1) a.1)
          (way.votes j n at v
          (in_any (is_vote v) (member_notes n) (Note.Vote v) inside (same_vote_self v)))
      no_note (Note.Verified y view c) inside e = false≢true e
      no_note (Note.Block c b) inside e = false≢true e
      no_note (Note.Cert s) inside e = false≢true e
      no_note (Note.Certified q) inside e = false≢true e
      no_note (Note.Ack y) inside e = false≢true e
      no_note (Note.Floor y) inside e = false≢true e
      no_note (Note.Prune y) inside e = false≢true e
      no_note (Note.Epoch y c) inside e = false≢true e

      unvoted : has_voted (member_notes n) 0 (top + 1) ≡ false
      unvoted = go (cases_Bool (has_voted (member_notes n) 0 (top + 1)))
        where
          go : (has_voted (member_notes n) 0 (top + 1) ≡ true)
              ⊎ (has_voted (member_notes n) 0 (top + 1) ≡ false)
              → has_voted (member_notes n) 0 (top + 1) ≡ false
          go (inr f) = f
          go (inl t) =
              let (x, inside, e) = any_in (votes_in 0 (top + 1)) (member_notes n) t in
              absurd (no_note x inside e)

    -- ---- all together

    -- all are in one view, at most one on, and some member has the last finalization
    record IsTogether (u : World) : Type 0 where
      view : ℕ
      here : AreIn r none payload view u
      bound : (k : ℕ) (n : Member) → member_at u k ≡ Some n → view_of (member_notes n) 0 ≤ top + 1
      final_view : ℕ
      block : Block
      ready : Ready r u final_view block

    abbrev IsThere : World → Type 0
    IsThere u = AreIn r none payload (top + 1) u

    module _ (b : BestAmong w (numbers w)) where
      pos : 0 < top
      pos = let e = each b.number b.member b.there in omega (arith, e)

      together : Brings r none payload NoVote w IsTogether
      together =
          goes_then r payload NoVote w (IsReady r none payload) IsTogether
          (told_last r none payload script w cluster clear b.number b.member b.there) next
        where
          next : (u : World) → Way r w payload NoVote u → IsReady r none payload u
              → Brings r none payload NoVote u IsTogether
          next u way (fin, a, ready) = by_best (best_among u (numbers u))
            where
              land : Brings r none payload NoVote u (AreInOne r none payload)
                  → Brings r none payload NoVote u IsTogether
              land (inr clash) = inr clash
              land (inl g) =
                  inl (record {
                    world = g.world;
                    way = g.way;
                    holds =
                        record {
                          view = g.holds.0;
                          here = g.holds.1;
                          bound =
                              one_on r none script w cluster clear top pos each payload NoVote
                              (λ q h. absurd h) (λ v h x e. absurd h) g.world
                              (way_on r payload NoVote w u g.world way g.way);
                          final_view = fin;
                          block = a;
                          ready =
                              ready_on r u payload NoVote (λ p h. h) g.world fin a g.way ready;
                        };
                  })

              by_kept : ((y : Member) × (member_at u b.number ≡ Some y)
                  × Later (member_notes b.member) (member_notes y))
                  → NoneAmong u (numbers u)
                  → Brings r none payload NoVote u IsTogether
              by_kept (y, there, later) nobody =
                  absurd (nobody b.number (numbered u b.number y there) y there)

              by_best : NoneAmong u (numbers u) ⊎ BestAmong u (numbers u)
                  → Brings r none payload NoVote u IsTogether
              by_best (inl nobody) = by_kept (way.kept b.number b.member b.there) nobody
              by_best (inr c) =
                  land
                  (come_together r none payload way.path.script u way.path.cluster way.path.clear
                  fin a ready c)

      module _ (room : top + 1 < 2 ^ 64 - 1) where
        come_there : Brings r none payload (IsNullBelow (top + 1)) w IsThere
        come_there =
            goes_then r payload (IsNullBelow (top + 1)) w IsTogether IsThere
            (goes_weaker r payload NoVote (IsNullBelow (top + 1)) (λ v h. absurd h) w IsTogether
            together)
            next
          where
            next : (u : World) → Way r w payload (IsNullBelow (top + 1)) u → IsTogether u
                → Brings r none payload (IsNullBelow (top + 1)) u IsThere
            next u way k = by_kept (way.kept b.number b.member b.there)
              where
                by_bound : (y : Member) → view_of (member_notes y) 0 ≡ k.view
                    → view_of (member_notes y) 0 ≤ top + 1
                    → Brings r none payload (IsNullBelow (top + 1)) u IsThere
                by_bound y e low =
                    land
                    (all_later r none payload (top + 1) (top + 1 - k.view) room way.path.script u
                    way.path.cluster way.path.clear k.final_view k.block k.ready k.view
                    (omega (arith, e)) k.here (omega (arith, e, low)))
                  where
                    land : Brings r none payload (IsNullBelow (top + 1)) u
                        (AreIn r none payload (k.view + (top + 1 - k.view)))
                        → Brings r none payload (IsNullBelow (top + 1)) u IsThere
                    land (inr clash) = inr clash
                    land (inl g) =
                        inl (record {
                          world = g.world;
                          way = g.way;
                          holds =
                              λ z n at. let f = g.holds z n at in omega (arith, f, e, low);
                        })

                by_kept : ((y : Member) × (member_at u b.number ≡ Some y)
                    × Later (member_notes b.member) (member_notes y))
                    → Brings r none payload (IsNullBelow (top + 1)) u IsThere
                by_kept (y, there, later) =
                    by_bound y (k.here b.number y there) (k.bound b.number y there)

        idle_there : Brings r none payload (IsNullBelow (top + 1)) w
            (AreIdleIn r none payload (top + 1) (numbers w))
        idle_there =
            goes_then r payload (IsNullBelow (top + 1)) w IsThere
            (AreIdleIn r none payload (top + 1) (numbers w)) come_there
            (λ u way here.
            goes_weaker r payload NoVote (IsNullBelow (top + 1)) (λ v h. absurd h) u
            (AreIdleIn r none payload (top + 1) (numbers w))
            (all_idle r none payload (top + 1) (numbers w) way.path.script u way.path.cluster
            way.path.clear here))

        new_above : ComeToView r w (helps w payload) (top + 1) ⊎ ComesToClash r w (helps w payload)
        new_above = go idle_there
          where
            go : Brings r none payload (IsNullBelow (top + 1)) w
                (AreIdleIn r none payload (top + 1) (numbers w))
                → ComeToView r w (helps w payload) (top + 1)
                ⊎ ComesToClash r w (helps w payload)
            go (inr clash) = inr clash
            go (inl g) =
                inl (record {
                  lines = g.way.path.lines;
                  are = g.way.path.are;
                  after = g.world;
                  ends = g.way.path.ends;
                  each = λ i m at. by_kept i m at (g.way.kept i m at);
                })
              where
                by_kept : (i : ℕ) (m : Member) → member_at w i ≡ Some m
                    → ((y : Member) × (member_at g.world i ≡ Some y)
                    × Later (member_notes m) (member_notes y))
                    → IsNewTo g.world i (top + 1)
                by_kept i m at (y, there, later) =
                    record {
                      in_view =
                          record {
                            member = y;
                            there = there;
                            live = (g.holds.0 i (numbered w i m at) y there).0;
                            epoch_is =
                                epoch_first r none g.way.path.script g.world g.way.path.cluster
                                g.way.path.clear i y there;
                            view_is = g.holds.1 i y there;
                          };
                      unvoted = unvoted g.world g.way g.holds.1 i y there;
                    }

-- all honest members come to a view above theirs, live, and none has voted in it
pub new_view : (r : Rules) (script : List Line) (w : World) → r.epochs.span ≡ None
    → IsCluster r script → ReachesClear r script w → (payload : List ℕ) (view : ℕ)
    → view < 2 ^ 64 - 1
    → ((i : ℕ) (m : Member) → member_at w i ≡ Some m → view_of (member_notes m) 0 < view)
    → ComeToView r w (helps w payload) view ⊎ ComesToClash r w (helps w payload)
new_view r script w none cluster clear payload view room above =
    go (best_among w (numbers w))
  where
    go : NoneAmong w (numbers w) ⊎ BestAmong w (numbers w)
        → ComeToView r w (helps w payload) view ⊎ ComesToClash r w (helps w payload)
    go (inl nobody) =
        inl (record {
          lines = [];
          are = tt;
          after = w;
          ends = refl;
          each = λ i m at. absurd (nobody i (numbered w i m at) m at);
        })
    go (inr b) =
        let e = above b.number b.member b.there in
        let same : view - 1 + 1 ≡ view = omega (arith, e) in
        subst (λ v. ComeToView r w (helps w payload) v ⊎ ComesToClash r w (helps w payload)) same
        (new_above r none payload script w cluster clear (view - 1)
        (λ i m at. let f = above i m at in omega (arith, f)) b (omega (arith, room, e)))
