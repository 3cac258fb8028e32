-- Lines that help, one after another, and which certificates and votes are new by them.
use Rattle.std.proofs.Common.{◌≡◌, ℕ, ◌<◌, ◌≤◌, Bool, true, false, nat_le, List, [], ◌∷◌, ◌++◌, Option, Some, None, length, slice_get, refl, sym, ◌∙◌, ap, subst, inl, inr, ◌⊎◌, arith, append_assoc, append-nil, length-append}
use Rattle.std.specs.List.{AllByRecursion}
use Rattle.std.specs.Option.{option_map_or}
use Rattle.std.proofs.lemmas.Bool.{cases_eq, cases_lt, false≢true, le-leb, leb-true, or_cases, or_left, or_right}
use Rattle.std.proofs.lemmas.Option.{same_Some}
use Rattle.cw_types.specs.declared.vote.Vote.{Vote}
use Rattle.cw_rules.specs.Notes.{has_cert, has_vote}
use Rattle.cw_rules.specs.Reached.{IsCluster, ReachesClear}
use Rattle.cw_rules.specs.Rules.{Rules}
use Rattle.cw_rules.specs.Step.{Member, member_notes}
use Rattle.cw_rules.specs.World.{Ask, Cut, Do, Line, Sent, World, member_at}
use Rattle.cw_rules.proofs.Lists.{all_both}
use Rattle.cw_progress.specs.Going.{helps, is_ballot}
use Rattle.cw_progress.specs.Over.{ComesToClash}
use Rattle.cw_progress.proofs.Paths.{Path, outcome_both}
use Rattle.cw_progress.proofs.Quiet.{IsFinal}
use Rattle.cw_progress.proofs.Stages.{Later, Stage, get_within, later_both, later_same}

-- what helps later helps before
pub helps_before : (w u : World) (payload : List ℕ) (more : List Sent) → u.pool ≡ w.pool ++ more
    → (line : Line) → helps u payload line ≡ true → helps w payload line ≡ true
helps_before w u payload more e (Do i (Ask.Deliver number)) h =
    by_place (cases_lt number (length w.pool))
  where
    test : Option Sent → Bool
    test o = option_map_or (λ (s : Sent). is_ballot s.message) o false

    old : number < length w.pool → (o : Option Sent) → slice_get u.pool number ≡ o
        → test o ≡ true → test (slice_get w.pool number) ≡ true
    old lt None f t = absurd (false≢true t)
    old lt (Some s) f t =
        ap test
        (get_within w.pool more number s lt
        (subst (λ pool. slice_get pool number ≡ Some s) e f))
        ∙ t

    by_old : number < length w.pool
        → (nat_le (length u.pool) number ≡ true) ⊎ (test (slice_get u.pool number) ≡ true)
        → test (slice_get w.pool number) ≡ true
    by_old lt (inl t) =
        let f = ap (λ (ps : List Sent). length ps) e in
        absurd
        (omega (
          arith,
          leb-true (length u.pool) number t,
          lt,
          f,
          length-append w.pool more,
        ))
    by_old lt (inr t) = old lt (slice_get u.pool number) refl t

    by_place : (number < length w.pool) ⊎ (length w.pool ≤ number)
        → helps w payload (Do i (Ask.Deliver number)) ≡ true
    by_place (inr le) =
        or_left (nat_le (length w.pool) number) (test (slice_get w.pool number))
        (le-leb (length w.pool) number le)
    by_place (inl lt) =
        or_right (nat_le (length w.pool) number) (test (slice_get w.pool number))
        (by_old lt
        (or_cases (nat_le (length u.pool) number) (test (slice_get u.pool number)) h))
helps_before w u payload more e (Cut call cut fill i (Ask.Propose own)) h = h
helps_before w u payload more e (Cut call cut fill i (Ask.Timeout view)) h = h
helps_before w u payload more e (Cut call cut fill i (Ask.Deliver number)) h = h
helps_before w u payload more e (Cut call cut fill i Ask.Ack) h = h
helps_before w u payload more e (Cut call cut fill i (Ask.Prune height)) h = h
helps_before w u payload more e (Cut call cut fill i (Ask.Floor number)) h = h
helps_before w u payload more e (Cut call cut fill i (Ask.Hint height)) h = h
helps_before w u payload more e _ h = h

pub all_so : {X : Type 0} (P Q : X → Type 0) → ((x : X) → P x → Q x) → (xs : List X)
    → AllByRecursion P xs → AllByRecursion Q xs
all_so P Q f [] a = tt
all_so P Q f (x ∷ xs) a = (f x a.0, all_so P Q f xs a.1)

-- some honest member noted a certificate of the vote
pub record HasSome (w : World) (v : Vote) : Type 0 where
  pub number : ℕ
  pub member : Member
  pub there : member_at w number ≡ Some member
  pub noted : has_cert (member_notes member) v ≡ true

-- some honest member voted so
pub record HasVote (w : World) (v : Vote) : Type 0 where
  pub number : ℕ
  pub member : Member
  pub there : member_at w number ≡ Some member
  pub voted : has_vote (member_notes member) v ≡ true

-- no vote at all
abbrev pub NoVote : Vote → Type 0
NoVote v = ⊥

-- lines that help lead from w to u without a clash. Each honest member has what it noted and maybe
-- more, certificates only of votes that some honest member had one of, and votes only that some
-- honest member had or that finalize; but for certificates and votes that are new so
pub record Way (r : Rules) (w : World) (payload : List ℕ) (New : Vote → Type 0)
    (u : World) : Type 0 where
  pub path : Path r w (helps w payload) u
  pub more : List Sent
  pub pool : u.pool ≡ w.pool ++ more
  pub kept : (k : ℕ) (x : Member) → member_at w k ≡ Some x
      → (y : Member) × (member_at u k ≡ Some y) × Later (member_notes x) (member_notes y)
  pub back : (k : ℕ) (y : Member) → member_at u k ≡ Some y
      → (x : Member) × (member_at w k ≡ Some x)
  pub certs : (k : ℕ) (y : Member) → member_at u k ≡ Some y → (v : Vote)
      → has_cert (member_notes y) v ≡ true → HasSome w v ⊎ New v
  pub votes : (k : ℕ) (y : Member) → member_at u k ≡ Some y → (v : Vote)
      → has_vote (member_notes y) v ≡ true → HasVote w v ⊎ (IsFinal v ⊎ New v)

-- where such a way leads
pub record Goes (r : Rules) (w : World) (payload : List ℕ) (New : Vote → Type 0)
    (P : World → Type 0) : Type 0 where
  pub world : World
  pub way : Way r w payload New world
  pub holds : P world

module _ (r : Rules) (payload : List ℕ) (New : Vote → Type 0) where
  pub way_here : (script : List Line) (w : World) → IsCluster r script → ReachesClear r script w
      → Way r w payload New w
  way_here script w cluster clear = record {
    path =
        record {
          lines = [];
          are = tt;
          ends = refl;
          script = script;
          cluster = cluster;
          clear = clear;
        };
    more = [];
    pool = sym (append-nil w.pool);
    kept = λ k x at. (x, at, later_same (member_notes x));
    back = λ k y at. (y, at);
    certs =
        λ k y at v h. inl (record { number = k; member = y; there = at; noted = h });
    votes =
        λ k y at v h. inl (record { number = k; member = y; there = at; voted = h });
  }

  pub way_on : (w u v : World) → Way r w payload New u → Way r u payload New v
      → Way r w payload New v
  way_on w u v a b = record {
    path =
        record {
          lines = a.path.lines ++ b.path.lines;
          are =
              all_both (λ line. helps w payload line ≡ true) a.path.lines b.path.lines
              a.path.are
              (all_so (λ line. helps u payload line ≡ true) (λ line. helps w payload line ≡ true)
              (helps_before w u payload a.more a.pool) b.path.lines b.path.are);
          ends =
              outcome_both r w u a.path.lines b.path.lines a.path.ends ∙ b.path.ends;
          script = b.path.script;
          cluster = b.path.cluster;
          clear = b.path.clear;
        };
    more = a.more ++ b.more;
    pool =
        b.pool ∙ (ap (λ ps. ps ++ b.more) a.pool ∙ append_assoc w.pool a.more b.more);
    kept =
        λ k x at.
        let (y, there, l) = a.kept k x at in
        let (z, still, m) = b.kept k y there in
        (z, still, later_both (member_notes x) (member_notes y) (member_notes z) l m);
    back = λ k z at. let (y, there) = b.back k z at in a.back k y there;
    certs = λ k z at v h. by_cert v (b.certs k z at v h);
    votes = λ k z at v h. by_vote v (b.votes k z at v h);
  }
    where
      by_cert : (v : Vote) → HasSome u v ⊎ New v → HasSome w v ⊎ New v
      by_cert v (inl s) = a.certs s.number s.member s.there v s.noted
      by_cert v (inr n) = inr n

      by_vote : (v : Vote) → HasVote u v ⊎ (IsFinal v ⊎ New v)
          → HasVote w v ⊎ (IsFinal v ⊎ New v)
      by_vote v (inl s) = a.votes s.number s.member s.there v s.voted
      by_vote v (inr n) = inr n

  pub clash_on : (w u : World) → Way r w payload New u → ComesToClash r u (helps u payload)
      → ComesToClash r w (helps w payload)
  clash_on w u a c = record {
    lines = a.path.lines ++ c.lines;
    are =
        all_both (λ line. helps w payload line ≡ true) a.path.lines c.lines a.path.are
        (all_so (λ line. helps u payload line ≡ true) (λ line. helps w payload line ≡ true)
        (helps_before w u payload a.more a.pool) c.lines c.are);
    earlier = c.earlier;
    later = c.later;
    ends = outcome_both r w u a.path.lines c.lines a.path.ends ∙ c.ends;
  }

  -- and then
  pub goes_then : (w : World) (P Q : World → Type 0)
      → Goes r w payload New P ⊎ ComesToClash r w (helps w payload)
      → ((u : World) → Way r w payload New u → P u
      → Goes r u payload New Q ⊎ ComesToClash r u (helps u payload))
      → Goes r w payload New Q ⊎ ComesToClash r w (helps w payload)
  goes_then w P Q (inr clash) f = inr clash
  goes_then w P Q (inl x) f = next (f x.world x.way x.holds)
    where
      next : Goes r x.world payload New Q ⊎ ComesToClash r x.world (helps x.world payload)
          → Goes r w payload New Q ⊎ ComesToClash r w (helps w payload)
      next (inl y) =
          inl (record {
            world = y.world;
            way = way_on w x.world y.world x.way y.way;
            holds = y.holds;
          })
      next (inr clash) = inr (clash_on w x.world x.way clash)

  -- a stage is led to so
  pub stage_way : (w : World) (i j : ℕ) (m n : Member) → member_at w i ≡ Some m
      → member_at w j ≡ Some n → (u : World) (x y : Member)
      → Stage r w payload i j (member_notes m) (member_notes n) u x y → Way r w payload New u
  stage_way w i j m n at there u x y s = record {
    path = s.path;
    more = s.more;
    pool = s.pool;
    kept = λ k z h. by_kept k z h (cases_eq i k) (cases_eq j k);
    back = λ k z h. by_back k z h (cases_eq i k) (cases_eq j k);
    certs = λ k z h v c. inl (by_cert k z h v c (cases_eq i k) (cases_eq j k));
    votes = λ k z h v c. by_vote k z h v c (cases_eq i k) (cases_eq j k);
  }
    where
      by_kept : (k : ℕ) (z : Member) → member_at w k ≡ Some z → (i ≡ k) ⊎ (i ≡ k → ⊥)
          → (j ≡ k) ⊎ (j ≡ k → ⊥)
          → (a : Member) × (member_at u k ≡ Some a) × Later (member_notes z) (member_notes a)
      by_kept k z h (inl e) f =
          let one : m ≡ z = same_Some m z (sym at ∙ (ap (member_at w) e ∙ h)) in (
            x,
            ap (member_at u) (sym e) ∙ s.gives_at,
            subst (λ (q : Member). Later (member_notes q) (member_notes x)) one s.gives_more,
          )
      by_kept k z h (inr d) (inl e) =
          let one : n ≡ z = same_Some n z (sym there ∙ (ap (member_at w) e ∙ h)) in (
            y,
            ap (member_at u) (sym e) ∙ s.takes_at,
            subst (λ (q : Member). Later (member_notes q) (member_notes y)) one s.takes_more,
          )
      by_kept k z h (inr d) (inr g) = (z, s.others k d g ∙ h, later_same (member_notes z))

      by_back : (k : ℕ) (z : Member) → member_at u k ≡ Some z → (i ≡ k) ⊎ (i ≡ k → ⊥)
          → (j ≡ k) ⊎ (j ≡ k → ⊥) → (a : Member) × (member_at w k ≡ Some a)
      by_back k z h (inl e) f = (m, ap (member_at w) (sym e) ∙ at)
      by_back k z h (inr d) (inl e) = (n, ap (member_at w) (sym e) ∙ there)
      by_back k z h (inr d) (inr g) = (z, sym (s.others k d g) ∙ h)

      from_giver : (v : Vote) → has_cert (member_notes m) v ≡ true → HasSome w v
      from_giver v c = record { number = i; member = m; there = at; noted = c }

      from_taker : (v : Vote)
          → (has_cert (member_notes n) v ≡ true) ⊎ (has_cert (member_notes m) v ≡ true)
          → HasSome w v
      from_taker v (inl c) = record { number = j; member = n; there = there; noted = c }
      from_taker v (inr c) = from_giver v c

      by_cert : (k : ℕ) (z : Member) → member_at u k ≡ Some z → (v : Vote)
          → has_cert (member_notes z) v ≡ true → (i ≡ k) ⊎ (i ≡ k → ⊥)
          → (j ≡ k) ⊎ (j ≡ k → ⊥) → HasSome w v
      by_cert k z h v c (inl e) f =
          let one : z ≡ x = same_Some z x (sym h ∙ (ap (member_at u) (sym e) ∙ s.gives_at)) in
          from_giver v
          (s.gives_certs v
          (subst (λ (q : Member). has_cert (member_notes q) v ≡ true) one c))
      by_cert k z h v c (inr d) (inl e) =
          let one : z ≡ y = same_Some z y (sym h ∙ (ap (member_at u) (sym e) ∙ s.takes_at)) in
          from_taker v
          (s.takes_certs v
          (subst (λ (q : Member). has_cert (member_notes q) v ≡ true) one c))
      by_cert k z h v c (inr d) (inr g) =
          record { number = k; member = z; there = sym (s.others k d g) ∙ h; noted = c }

      old_vote : (k : ℕ) (z : Member) → member_at w k ≡ Some z → (v : Vote)
          → (has_vote (member_notes z) v ≡ true) ⊎ IsFinal v
          → HasVote w v ⊎ (IsFinal v ⊎ New v)
      old_vote k z h v (inl c) = inl (record { number = k; member = z; there = h; voted = c })
      old_vote k z h v (inr f) = inr (inl f)

      by_vote : (k : ℕ) (z : Member) → member_at u k ≡ Some z → (v : Vote)
          → has_vote (member_notes z) v ≡ true → (i ≡ k) ⊎ (i ≡ k → ⊥)
          → (j ≡ k) ⊎ (j ≡ k → ⊥) → HasVote w v ⊎ (IsFinal v ⊎ New v)
      by_vote k z h v c (inl e) f =
          let one : z ≡ x = same_Some z x (sym h ∙ (ap (member_at u) (sym e) ∙ s.gives_at)) in
          old_vote i m at v
          (s.gives_votes v
          (subst (λ (q : Member). has_vote (member_notes q) v ≡ true) one c))
      by_vote k z h v c (inr d) (inl e) =
          let one : z ≡ y = same_Some z y (sym h ∙ (ap (member_at u) (sym e) ∙ s.takes_at)) in
          old_vote j n there v
          (s.takes_votes v
          (subst (λ (q : Member). has_vote (member_notes q) v ≡ true) one c))
      by_vote k z h v c (inr d) (inr g) = old_vote k z (sym (s.others k d g) ∙ h) v (inl c)

-- a way is one with more that may be new
pub way_weaker : (r : Rules) (payload : List ℕ) (New More : Vote → Type 0)
    → ((v : Vote) → New v → More v) → (w u : World) → Way r w payload New u
    → Way r w payload More u
way_weaker r payload New More f w u a = record {
  path = a.path;
  more = a.more;
  pool = a.pool;
  kept = a.kept;
  back = a.back;
  certs = λ k y at v h. by_cert v (a.certs k y at v h);
  votes = λ k y at v h. by_vote v (a.votes k y at v h);
}
  where
    by_cert : (v : Vote) → HasSome w v ⊎ New v → HasSome w v ⊎ More v
    by_cert v (inl s) = inl s
    by_cert v (inr n) = inr (f v n)

    by_vote : (v : Vote) → HasVote w v ⊎ (IsFinal v ⊎ New v)
        → HasVote w v ⊎ (IsFinal v ⊎ More v)
    by_vote v (inl s) = inl s
    by_vote v (inr (inl n)) = inr (inl n)
    by_vote v (inr (inr n)) = inr (inr (f v n))

pub goes_weaker : (r : Rules) (payload : List ℕ) (New More : Vote → Type 0)
    → ((v : Vote) → New v → More v) → (w : World) (P : World → Type 0)
    → Goes r w payload New P ⊎ ComesToClash r w (helps w payload)
    → Goes r w payload More P ⊎ ComesToClash r w (helps w payload)
goes_weaker r payload New More f w P (inr clash) = inr clash
goes_weaker r payload New More f w P (inl g) =
    inl (record {
      world = g.world;
      way = way_weaker r payload New More f w g.world g.way;
      holds = g.holds;
    })
