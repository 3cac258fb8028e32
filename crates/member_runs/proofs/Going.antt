-- What lines of a script make of a world in which one member moves.
use Rattle.std.proofs.Common.{◌≡◌, ℕ, zero, suc, ◌+◌, Bool, true, ◌&&◌, ◌==◌, List, [], ◌∷◌, ◌++◌, Option, Some, is_none, length, map, option_and_then, slice_get, slice_set, refl, sym, ◌∙◌, ap, subst, inl, inr, ◌⊎◌, append_assoc, eq-eqb}
use Rattle.std.specs.List.{AllByRecursion, list_any}
use Rattle.std.specs.Option.{option_map_or}
use Rattle.std.proofs.lemmas.Bool.{or_left, or_right}
use Rattle.std.proofs.lemmas.List.Folds.{list_any-append}
use Rattle.cw_types.specs.Reading.{message_of}
use Rattle.cw_types.specs.declared.event.Handed.{Handed}
use Rattle.cw_types.specs.declared.event.Out.{Out}
use Rattle.cw_types.specs.declared.vote.Vote.{Vote}
use Rattle.cw_rules.specs.Reached.{In}
use Rattle.cw_rules.specs.Rules.{Rules}
use Rattle.cw_rules.specs.Sends.{to_all}
use Rattle.cw_rules.specs.Step.{Member, Stepped}
use Rattle.cw_rules.specs.World.{Faulty, Line, Raw, World, done_by, happens, is_sent_vote, is_vote_of, line_member, run, sent_from, sent_now, turned, with_done, with_sends}
use Rattle.cw_rules.proofs.Lists.{in_left, in_right, in_cases}
use Rattle.cw_rules.proofs.Runs.{handed_by}
use Rattle.cw_rules.proofs.Worlds.{get-set_same}

-- a line by which only the member of this number says anything forged
abbrev pub IsQuiet : ℕ → Line → Type 0
IsQuiet outsider (Faulty a fault) = a ≡ outsider
IsQuiet outsider _ = Unit {0}

-- these lines make of a world one in which only this member is another, and more was sent
pub record Goes (r : Rules) (w : World) (lines : List Line) (i : ℕ) (m : Member)
    (sent : List Out) (handed : List Handed) : Type 0 where
  pub quiet : AllByRecursion (IsQuiet r.epochs.total) lines
  pub at : slice_get (run r w lines).members i ≡ Some (Some m)
  pub others : (j : ℕ) (o : Option Member) → (i ≡ j → ⊥) → slice_get w.members j ≡ Some o
      → slice_get (run r w lines).members j ≡ Some o
  pub flags : map is_none (run r w lines).members ≡ map is_none w.members
  pub pool : (j : ℕ) (v : Vote) → list_any (is_sent_vote j v) w.pool ≡ true
      → list_any (is_sent_vote j v) (run r w lines).pool ≡ true
  pub goes_out : (v : Vote) (o : Out) → In o sent → is_vote_of i v o.message ≡ true
      → list_any (is_sent_vote i v) (run r w lines).pool ≡ true
  pub hands : (x : Handed) → In x handed → In x (handed_by r w lines)

-- ---- lines, one behind the other

pub run_both : (r : Rules) (w : World) (first second : List Line)
    → run r w (first ++ second) ≡ run r (run r w first) second
run_both r w [] second = refl
run_both r w (line ∷ first) second = run_both r (happens r w line) first second

pub handed_both : (r : Rules) (w : World) (first second : List Line)
    → handed_by r w (first ++ second) ≡ handed_by r w first ++ handed_by r (run r w first) second
handed_both r w [] second = refl
handed_both r w (line ∷ first) second =
    ap
    (λ (l : List Handed). option_map_or (λ (done : Stepped). done.handed) (done_by r w line) []
    ++ l)
    (handed_both r (happens r w line) first second)
    ∙ sym
    (append_assoc (option_map_or (λ (done : Stepped). done.handed) (done_by r w line) [])
    (handed_by r (happens r w line) first) (handed_by r (run r (happens r w line) first) second))

pub all_quiet : (outsider : ℕ) (first second : List Line)
    → AllByRecursion (IsQuiet outsider) first → AllByRecursion (IsQuiet outsider) second
    → AllByRecursion (IsQuiet outsider) (first ++ second)
all_quiet outsider [] second one two = two
all_quiet outsider (line ∷ first) second one two =
    (one.0, all_quiet outsider first second one.1 two)

-- no lines
pub goes_nowhere : (r : Rules) (w : World) (i : ℕ) (m : Member)
    → slice_get w.members i ≡ Some (Some m) → Goes r w [] i m [] []
goes_nowhere r w i m at = record {
  quiet = tt;
  at = at;
  others = λ j o other there. there;
  flags = refl;
  pool = λ j v h. h;
  goes_out = λ v o there h. absurd there;
  hands = λ x there. absurd there;
}

pub goes_on : (r : Rules) (w : World) (first second : List Line) (i : ℕ) (m n : Member)
    (sent more : List Out) (handed further : List Handed)
    → Goes r w first i m sent handed → Goes r (run r w first) second i n more further
    → Goes r w (first ++ second) i n (sent ++ more) (handed ++ further)
goes_on r w first second i m n sent more handed further one two =
    let both : run r w (first ++ second) ≡ run r (run r w first) second =
    run_both r w first second in
    record {
      quiet = all_quiet r.epochs.total first second one.quiet two.quiet;
      at = ap (λ (v : World). slice_get v.members i) both ∙ two.at;
      others =
          λ j o other there. ap (λ (v : World). slice_get v.members j) both
          ∙ two.others j o other (one.others j o other there);
      flags = ap (λ (v : World). map is_none v.members) both ∙ two.flags ∙ one.flags;
      pool =
          λ j v h. ap (λ (x : World). list_any (is_sent_vote j v) x.pool) both
          ∙ two.pool j v (one.pool j v h);
      goes_out =
          λ v o there h. ap (λ (x : World). list_any (is_sent_vote i v) x.pool) both
          ∙ by_part v o (in_cases o sent more there) h;
      hands =
          λ x there. subst (λ (l : List Handed). In x l) (sym (handed_both r w first second))
          (by_hand x (in_cases x handed further there));
    }
  where
    by_part : (v : Vote) (o : Out) → In o sent ⊎ In o more → is_vote_of i v o.message ≡ true
        → list_any (is_sent_vote i v) (run r (run r w first) second).pool ≡ true
    by_part v o (inl there) h = two.pool i v (one.goes_out v o there h)
    by_part v o (inr there) h = two.goes_out v o there h

    by_hand : (x : Handed) → In x handed ⊎ In x further
        → In x (handed_by r w first ++ handed_by r (run r w first) second)
    by_hand x (inl there) =
        in_left x (handed_by r w first) (handed_by r (run r w first) second) (one.hands x there)
    by_hand x (inr there) =
        in_right x (handed_by r w first) (handed_by r (run r w first) second) (two.hands x there)

-- ---- one line

-- what is sent now is sent
pub sent_there : (n i : ℕ) (v : Vote) (o : Out) (outs : List Out) → In o outs
    → is_vote_of i v o.message ≡ true → list_any (is_sent_vote i v) (sent_from n i outs) ≡ true
sent_there n i v o [] there h = absurd there
sent_there n i v o (x ∷ outs) (inl is) h =
    or_left ((i == i) && is_vote_of i v x.message)
    (list_any (is_sent_vote i v) (sent_from (n + 1) i outs))
    (rw (eq-eqb i i refl) (subst (λ (y : Out). is_vote_of i v y.message ≡ true) is h))
sent_there n i v o (x ∷ outs) (inr later) h =
    or_right ((i == i) && is_vote_of i v x.message)
    (list_any (is_sent_vote i v) (sent_from (n + 1) i outs))
    (sent_there (n + 1) i v o outs later h)

pub get-set_other : {X : Type 0} (xs : List X) (i j : ℕ) (x y : X) → (i ≡ j → ⊥)
    → slice_get xs j ≡ Some y → slice_get (slice_set xs i x) j ≡ Some y
get-set_other [] i j x y other there = there
get-set_other (z ∷ zs) zero zero x y other there = absurd (other refl)
get-set_other (z ∷ zs) zero (suc j) x y other there = there
get-set_other (z ∷ zs) (suc i) zero x y other there = there
get-set_other (z ∷ zs) (suc i) (suc j) x y other there =
    get-set_other zs i j x y (λ e. other (ap suc e)) there

flags-set : (xs : List (Option Member)) (i : ℕ) (m n : Member) → slice_get xs i ≡ Some (Some m)
    → map is_none (slice_set xs i (Some n)) ≡ map is_none xs
flags-set [] i m n at = refl
flags-set (x ∷ xs) zero m n at =
    let e : x ≡ Some m = cc in ap (λ (b : Bool). b ∷ map is_none xs) (sym (ap is_none e))
flags-set (x ∷ xs) (suc i) m n at = ap (λ l. is_none x ∷ l) (flags-set xs i m n at)

-- a line by which this member steps
pub goes_by : (r : Rules) (w : World) (line : Line) (i : ℕ) (m : Member) (d : Stepped)
    → IsQuiet r.epochs.total line → slice_get w.members i ≡ Some (Some m)
    → done_by r w line ≡ Some d → happens r w line ≡ with_done w i d
    → Goes r w (line ∷ []) i d.member d.sent d.handed
goes_by r w line i m d quiet at done is = record {
  quiet = (quiet, tt);
  at =
      ap (λ (x : World). slice_get x.members i) is
      ∙ get-set_same w.members i (Some d.member) (Some m) at;
  others =
      λ j o other there. ap (λ (x : World). slice_get x.members j) is
      ∙ get-set_other w.members i j (Some d.member) o other there;
  flags =
      ap (λ (x : World). map is_none x.members) is ∙ flags-set w.members i m d.member at;
  pool =
      λ j v h. ap (λ (x : World). list_any (is_sent_vote j v) x.pool) is
      ∙ list_any-append (is_sent_vote j v) w.pool (sent_now w i d.sent)
      ∙ or_left (list_any (is_sent_vote j v) w.pool)
      (list_any (is_sent_vote j v) (sent_now w i d.sent)) h;
  goes_out =
      λ v o there h. ap (λ (x : World). list_any (is_sent_vote i v) x.pool) is
      ∙ list_any-append (is_sent_vote i v) w.pool (sent_now w i d.sent)
      ∙ or_right (list_any (is_sent_vote i v) w.pool)
      (list_any (is_sent_vote i v) (sent_now w i d.sent))
      (sent_there (length w.pool) i v o d.sent there h);
  hands =
      λ x there. in_left x (option_map_or (λ (s : Stepped). s.handed) (done_by r w line) []) []
      (subst
      (λ (o : Option Stepped). In x (option_map_or (λ (s : Stepped). s.handed) o []))
      (sym done) there);
}

-- what an honest member's line does
pub done_at : (r : Rules) (w : World) (line : Line) (m : Member)
    → slice_get w.members (line_member line) ≡ Some (Some m)
    → done_by r w line ≡ turned r w (line_member line) line m
done_at r w line m at =
    ap
    (λ (o : Option (Option Member)). option_and_then (turned r w (line_member line) line)
    (option_and_then (λ (x : Option Member). x) o))
    at

-- ---- bytes from outside

-- the line by which these bytes are sent to all, as from nobody
abbrev pub brings : Rules → List ℕ → Line
brings r bytes = Faulty r.epochs.total (Raw bytes)

abbrev pub brought : Rules → World → List ℕ → World
brought r w bytes = with_sends w r.epochs.total (to_all (message_of bytes) ∷ [])

pub goes_brought : (r : Rules) (w : World) (bytes : List ℕ) (i : ℕ) (m : Member)
    → slice_get w.members i ≡ Some (Some m) → Goes r w (brings r bytes ∷ []) i m [] []
goes_brought r w bytes i m at = record {
  quiet = (refl, tt);
  at = at;
  others = λ j o other there. there;
  flags = refl;
  pool =
      λ j v h. list_any-append (is_sent_vote j v) w.pool
      (sent_now w r.epochs.total (to_all (message_of bytes) ∷ []))
      ∙ or_left (list_any (is_sent_vote j v) w.pool)
      (list_any (is_sent_vote j v)
      (sent_now w r.epochs.total (to_all (message_of bytes) ∷ []))) h;
  goes_out = λ v o there h. absurd there;
  hands = λ x there. absurd there;
}

-- less of what is sent and handed out
pub goes_less : (r : Rules) (w : World) (lines : List Line) (i : ℕ) (m : Member)
    (front sent : List Out) (first handed : List Handed)
    → Goes r w lines i m (front ++ sent) (first ++ handed) → Goes r w lines i m sent handed
goes_less r w lines i m front sent first handed goes = record {
  quiet = goes.quiet;
  at = goes.at;
  others = goes.others;
  flags = goes.flags;
  pool = goes.pool;
  goes_out = λ v o there h. goes.goes_out v o (in_right o front sent there) h;
  hands = λ x there. goes.hands x (in_right x first handed there);
}
