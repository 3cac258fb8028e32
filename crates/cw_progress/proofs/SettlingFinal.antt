-- In one epoch without end, what all honest members certified comes to be known as final by all of them.
use Rattle.std.proofs.Common.{◌≡◌, ℕ, ◌≤◌, true, List, [], ◌∷◌, ◌++◌, Option, Some, None, filter_map, refl, sym, ◌∙◌, ap, subst, inl, inr, ◌⊎◌, arith}
use Rattle.std.specs.List.{AllByRecursion}
use Rattle.std.proofs.lemmas.Option.{same_Some}
use Rattle.cw_types.specs.declared.message.Message.{Message}
use Rattle.cw_types.specs.declared.note.Note.{Note}
use Rattle.cw_types.specs.declared.vote.Proposal.{Proposal}
use Rattle.cw_types.specs.declared.vote.Vote.TheVariants.{Finalize}
use Rattle.cw_types.specs.Block.{Block}
use Rattle.cw_types.specs.Epochs.{is_member}
use Rattle.cw_types.specs.Votes.{vote_view, well_formed}
use Rattle.cw_rules.specs.Chains.{Ends, outcome}
use Rattle.cw_rules.specs.Held.{held}
use Rattle.cw_rules.specs.Notes.{ended, ended_by, has_cert, has_certified, has_vote, view_of}
use Rattle.cw_rules.specs.Reached.{In, IsCluster, ReachesClear, members_of}
use Rattle.cw_rules.specs.Rules.{Rules}
use Rattle.cw_rules.specs.Stands.{Stands}
use Rattle.cw_rules.specs.Step.{Member, member_notes}
use Rattle.cw_rules.specs.World.{Line, World, member_at, run}
use Rattle.cw_rules.proofs.Lists.{all_both}
use Rattle.cw_progress.specs.Fresh.{IsFresh}
use Rattle.cw_progress.specs.Going.{helps}
use Rattle.cw_progress.specs.Over.{ComesToClash}
use Rattle.cw_progress.specs.Settling.{ComeToFinal, HasCertified, KnowsFinal}
use Rattle.cw_progress.proofs.Certifies.{keeps, lawful}
use Rattle.cw_progress.proofs.Ends.{certified_in_notes, ends_here, ends_tell}
use Rattle.cw_progress.proofs.Fresh.{all_fresh}
use Rattle.cw_progress.proofs.Latest.{final_first}
use Rattle.cw_progress.proofs.Noted.{noted_sent}
use Rattle.cw_progress.proofs.OneView.{numbered, numbers}
use Rattle.cw_progress.proofs.Outs.{mapped_in}
use Rattle.cw_progress.proofs.Paths.{clear_reaches, outcome_both}
use Rattle.cw_progress.proofs.Rounds.{here_way}
use Rattle.cw_progress.proofs.Settling.{all_stands}
use Rattle.cw_progress.proofs.SettlingCertified.{cert_later}
use Rattle.cw_progress.proofs.SettlingViews.{EndsLow, near_fresh}
use Rattle.cw_progress.proofs.SettlingVotes.{AreSent, HasIt, IsThat, Leads, one_told, sent_later}
use Rattle.cw_progress.proofs.Stages.{Later, later_held}
use Rattle.cw_progress.proofs.Tops.{in_greatest}
use Rattle.cw_progress.proofs.Valid.{stands_formed, vote_in}
use Rattle.cw_progress.proofs.Ways.{HasSome, Way, all_so, goes_then, helps_before}

-- ---- all are told

module _ (r : Rules) (none : r.epochs.span ≡ None) (payload : List ℕ) (p : Proposal)
    (first : p.epoch ≡ 0) (formed : well_formed (Finalize p) ≡ true) where
  abbrev To : World → (World → Type 0) → Type 0
  To w P = Leads r none payload (Finalize p) first formed w P

  abbrev Sent : World → Type 0
  Sent w = AreSent r none payload (Finalize p) first formed w

  abbrev IsTold : ℕ → World → Type 0
  IsTold j u = HasIt r none payload (Finalize p) first formed j u

  abbrev AreTold : List ℕ → World → Type 0
  AreTold xs u =
      (j : ℕ) → In j xs → (n : Member) → member_at u j ≡ Some n
      → has_cert (member_notes n) (Finalize p) ≡ true

  abbrev AllTold : List ℕ → Type 0
  AllTold xs =
      (script : List Line) (w : World) → IsCluster r script → ReachesClear r script w → Sent w
      → To w (AreTold xs)

  all_told : (xs : List ℕ) → AllTold xs
  all_told [] script w cluster clear sent =
      here_way r none payload (IsThat (Finalize p)) script w cluster clear (AreTold [])
      (λ j h n there. absurd h)
  all_told (x ∷ xs) script w cluster clear sent =
      goes_then r payload (IsThat (Finalize p)) w (AreTold xs) (AreTold (x ∷ xs))
      (all_told xs script w cluster clear sent) next
    where
      next : (u : World) → Way r w payload (IsThat (Finalize p)) u → AreTold xs u
          → To u (AreTold (x ∷ xs))
      next u way h = by_there (member_at u x) refl
        where
          own : (v : World) → IsTold x v → (n : Member) → member_at v x ≡ Some n
              → has_cert (member_notes n) (Finalize p) ≡ true
          own v (z, there, cert) n at =
              subst (λ (q : Member). has_cert (member_notes q) (Finalize p) ≡ true)
              (same_Some z n (sym there ∙ at)) cert

          both : (v : World) → Way r u payload (IsThat (Finalize p)) v → IsTold x v
              → AreTold (x ∷ xs) v
          both v more told j (inl same) n there =
              own v told n (ap (member_at v) (sym same) ∙ there)
          both v more told j (inr inside) n there = by_back (more.back j n there)
            where
              by_back : ((z : Member) × (member_at u j ≡ Some z))
                  → has_cert (member_notes n) (Finalize p) ≡ true
              by_back (z, before) =
                  let (y, still, later) = more.kept j z before in
                  subst (λ (q : Member). has_cert (member_notes q) (Finalize p) ≡ true)
                  (same_Some y n (sym still ∙ there))
                  (cert_later (Finalize p) (member_notes z) (member_notes y) later
                  (h j inside z before))

          land : To u (IsTold x) → To u (AreTold (x ∷ xs))
          land (inr clash) = inr clash
          land (inl g) =
              inl (record {
                world = g.world;
                way = g.way;
                holds = both g.world g.way g.holds;
              })

          by_there : (o : Option Member) → member_at u x ≡ o → To u (AreTold (x ∷ xs))
          by_there None e =
              here_way r none payload (IsThat (Finalize p)) way.path.script u way.path.cluster
              way.path.clear (AreTold (x ∷ xs)) absent
            where
              absent : AreTold (x ∷ xs) u
              absent j (inl same) n there =
                  let y : ◌≡◌ {A = Option Member} None (Some n) =
                  sym e ∙ (ap (member_at u) (sym same) ∙ there) in
                  absurd (cc y)
              absent j (inr inside) n there = h j inside n there
          by_there (Some n) e =
              land
              (one_told r none payload (Finalize p) first formed way.path.script u
              way.path.cluster way.path.clear
              (sent_later r none payload (Finalize p) first formed w u way sent) x n e)

-- ---- from where all have certified it

module _ (r : Rules) (script : List Line) (w : World) (none : r.epochs.span ≡ None)
    (cluster : IsCluster r script) (clear : ReachesClear r script w) (payload : List ℕ)
    (p : Proposal) (b : Block)
    (each : (i : ℕ) (m : Member) → member_at w i ≡ Some m → HasCertified r w p b i) where
  voted : (i : ℕ) (m : Member) → member_at w i ≡ Some m → is_member r.epochs p.epoch i ≡ true
      → has_vote (member_notes m) (Finalize p) ≡ true
  voted i m at is =
      let k = each i m at in
      subst (λ (q : Member). has_vote (member_notes q) (Finalize p) ≡ true)
      (same_Some k.member m (sym k.there ∙ at)) (k.voted is)

  live : (i : ℕ) (m : Member) → member_at w i ≡ Some m → m.live ≡ true
  live i m at =
      let k = each i m at in
      subst (λ (q : Member). q.live ≡ true) (same_Some k.member m (sym k.there ∙ at)) k.live

  holds : (i : ℕ) (m : Member) → member_at w i ≡ Some m
      → held r (member_notes m) p.payload ≡ Some b
  holds i m at =
      let k = each i m at in
      subst (λ (q : Member). held r (member_notes q) p.payload ≡ Some b)
      (same_Some k.member m (sym k.there ∙ at)) k.holds

  stands : Stands r.epochs (members_of w) (Finalize p)
  stands = all_stands r script w cluster clear (Finalize p) voted

  first : p.epoch ≡ 0
  first = final_first r none script w cluster clear p stands

  formed : well_formed (Finalize p) ≡ true
  formed =
      stands_formed r (members_of w) (lawful r script w cluster clear)
      (keeps r script w cluster clear) (Finalize p) stands

  sent : AreSent r none payload (Finalize p) first formed w
  sent i m at is =
      noted_sent r script w cluster (clear_reaches r script w clear) i m at (live i m at)
      (Note.Vote (Finalize p)) (Message.Vote i (Finalize p)) refl
      (vote_in (Finalize p) (member_notes m)
      (voted i m at (subst (λ e. is_member r.epochs e i ≡ true) (sym first) is)))

  -- nobody knows of a later finalization, nor comes to one
  latest : (q : Proposal) → q.epoch ≡ p.epoch
      → HasSome w (Finalize q) ⊎ IsThat (Finalize p) (Finalize q) → q.view ≤ p.view
  latest q of (inr e) = let one = ap vote_view e in omega (arith, one)
  latest q of (inl s) =
      let k = each s.number s.member s.there in
      omega (
        arith,
        k.latest q
            (subst (λ (x : Member). has_cert (member_notes x) (Finalize q) ≡ true)
            (same_Some s.member k.member (sym s.there ∙ k.there)) s.noted)
            of,
      )

  -- the votes and certificates that are new end the view of the proposal alone
  low : (top i : ℕ) (m : Member) → member_at w i ≡ Some m
      → ((k : ℕ) (x : Member) → member_at w k ≡ Some x → view_of (member_notes x) 0 ≤ top)
      → EndsLow (IsThat (Finalize p)) top
  low top i m at all = record {
    proposals = λ q e. cc e;
    ends =
        λ v e x f.
        let k = each i m at in
        let same : k.member ≡ m = same_Some k.member m (sym k.there ∙ at) in
        let certified =
        certified_in_notes p (member_notes m)
        (subst (λ (q : Member). has_certified (member_notes q) p ≡ true) same k.certified) in
        let ended_here =
        in_greatest (filter_map (ended 0) (member_notes m)) p.view
        (mapped_in (ended 0) (member_notes m) (Note.Certified p) p.view certified
        (ends_here 0 p.epoch p.view p.view first refl)) in
        let of = ends_tell 0 p.epoch p.view x (sym (ap (ended_by 0) e) ∙ f) in
        let is = of.1 in
        let le = all i m at in
        omega (arith, ended_here, is, le);
  }

  abbrev IsFinalFor : Type 0
  IsFinalFor =
      ComeToFinal r w (helps w payload) p b ⊎ ComesToClash r w (helps w payload)

  come_final : IsFinalFor
  come_final =
      go (all_told r none payload p first formed (numbers w) script w cluster clear sent)
    where
      go : To r none payload p first formed w (AreTold r none payload p first formed (numbers w))
          → IsFinalFor
      go (inr clash) = inr clash
      go (inl g) = by_fresh (all_fresh r g.world payload)
        where
          by_fresh : ((lines : List Line)
              × AllByRecursion (λ line. helps g.world payload line ≡ true) lines
              × (outcome r g.world lines ≡ Ends (run r g.world lines))
              × ((i : ℕ) (y : Member) → member_at g.world i ≡ Some y
              → IsFresh (run r g.world lines) i (member_notes y)))
              → IsFinalFor
          by_fresh (lines, are, ends, fresh) =
              inl (record {
                lines = g.way.path.lines ++ lines;
                are =
                    all_both (λ line. helps w payload line ≡ true) g.way.path.lines lines
                    g.way.path.are
                    (all_so (λ line. helps g.world payload line ≡ true)
                    (λ line. helps w payload line ≡ true)
                    (helps_before w g.world payload g.way.more g.way.pool) lines are);
                after = run r g.world lines;
                ends = outcome_both r w g.world g.way.path.lines lines g.way.path.ends ∙ ends;
                each = λ i m at. by_kept i m at (g.way.kept i m at);
                near =
                    near_fresh r none payload script w cluster clear (IsThat (Finalize p)) low
                    g.world g.way lines are fresh;
              })
            where
              by_kept : (i : ℕ) (m : Member) → member_at w i ≡ Some m
                  → ((y : Member) × (member_at g.world i ≡ Some y)
                  × Later (member_notes m) (member_notes y))
                  → KnowsFinal r (run r g.world lines) p b i
              by_kept i m at (y, there, later) =
                  let f = fresh i y there in
                  record {
                    member = f.member;
                    there = f.there;
                    live = f.live;
                    finalized =
                        subst (λ ns. has_cert ns (Finalize p) ≡ true) (sym f.same)
                        (g.holds i (numbered w i m at) y there);
                    holds =
                        subst (λ ns. held r ns p.payload ≡ Some b) (sym f.same)
                        (later_held r (member_notes m) (member_notes y) later p.payload b
                        (holds i m at));
                    latest =
                        λ q h of.
                        latest q of
                        (g.way.certs i y there (Finalize q)
                        (subst (λ ns. has_cert ns (Finalize q) ≡ true) f.same h));
                  }

-- all honest members come to know that what they certified is final
pub finalize : (r : Rules) (script : List Line) (w : World) → r.epochs.span ≡ None
    → IsCluster r script → ReachesClear r script w → (payload : List ℕ) (p : Proposal) (b : Block)
    → ((i : ℕ) (m : Member) → member_at w i ≡ Some m → HasCertified r w p b i)
    → ComeToFinal r w (helps w payload) p b ⊎ ComesToClash r w (helps w payload)
finalize r script w none cluster clear payload p b each =
    come_final r script w none cluster clear payload p b each
