-- What is known of a cluster between two turns.
use Rattle.std.proofs.Common.{◌≡◌, ℕ, ◌<◌, ◌+◌, ◌-◌, ◌++◌, ◌∷◌, arith, get_or, length-append, List, [], length, map, Option, Some, None, Result, Ok, Err, refl, sym, ap, subst, ◌∙◌, ◌⊎◌, inl, inr}
use Rattle.std.specs.Prelude.{IfSome, flat_map, slice_get, slice_index}
use Rattle.std.specs.Option.{option_map_or}
use Rattle.cw_base.specs.declared.hash.Digest32.{Digest32}
use Rattle.cw_rules.specs.Chains.{Clashes, Ends, outcome}
use Rattle.cw_rules.specs.Reached.{IsClash, Reaches}
use Rattle.cw_rules.specs.Report.{Entry, entry_of}
use Rattle.cw_rules.specs.Rules.{Rules}
use Rattle.cw_rules.specs.World.{Line, World, opening}
use Rattle.hail_script.specs.declared.error.RunError.{RunError}
use Rattle.hail_script.specs.declared.error.RunError.TheVariants as error
use Rattle.hail_script.specs.Lanes.{Laned, laned_of, lanes, rows}
use Rattle.hail_script.specs.Scenario.{Scenario}
use Rattle.hail_world.specs.Clusters.{Cluster, steps_in, world_in}
use Rattle.hailstorm.specs.Lanes.{IsLanesCause, lane_at, left, without_next}
use Rattle.hail_world.specs.Places.{script_rules}
use Rattle.hail_world.specs.Played.{lines_of}
use Rattle.hail_world.specs.Runs.{IsStopped, opened}
use Rattle.hailstorm.specs.Turns.{HasAdvanced, IsBetween, IsOver, IsTurnBy, IsTurnOf, IsTurning, Turning, between, told_order}
use Rattle.hail_world.proofs.Turned.{entries_more}
use Rattle.hailstorm.proofs.Laned.{TellsApart, count_rows, is_over, lanes_clashed, lines_then, next_row, turns_then}
use Rattle.hailstorm.proofs.Merging.{fewer_left, left_more}

pub rows_many : (x : Laned) (es : List Line) → es ≡ x.script.lines → length (rows x) ≡ length es
rows_many x es is = count_rows x ∙ ap (λ (l : List Line). length l) (sym is)

module _ (hash : List ℕ → Digest32) (x : Laned) (order : List ℕ) (stopped : Option RunError)
    (cluster : Cluster) (cursors : List (ℕ × ℕ))
    (h : IsTurning hash x order stopped cluster cursors) where
  -- no clash was met yet
  pub between_of : stopped ≡ None → IsBetween x order cluster cursors
  between_of none = subst (λ (o : Option RunError). IsTurning hash x order o cluster cursors) none h

  -- why no further line is played
  pub over_of : (e : RunError) → stopped ≡ Some e → IsOver hash x order e
  over_of e is = subst (λ (o : Option RunError). IsTurning hash x order o cluster cursors) is h

  -- a lane without a cursor before its end has no line left
  pub nothing_next : (seen : List (ℕ × ℕ)) (count k : ℕ) → stopped ≡ None → seen ≡ cursors
      → length (rows x) ≡ count
      → ((all : List (ℕ × Line)) → length all ≡ count → lane_at (map (between all) seen) k ≡ [])
      → lane_at (left (lanes x) order) k ≡ []
  nothing_next seen count k none same many nothing =
      ap (λ (l : List (List (ℕ × Line))). lane_at l k)
      ((between_of none).rest ∙ ap (λ (l : List (ℕ × ℕ)). map (between (rows x)) l) (sym same))
      ∙ nothing (rows x) many

  -- no lane has a line left
  pub none_next : (seen : List (ℕ × ℕ)) (count : ℕ) → stopped ≡ None → seen ≡ cursors
      → length (rows x) ≡ count
      → ((all : List (ℕ × Line)) → length all ≡ count
      → flat_map (λ lane. lane) (map (between all) seen) ≡ [])
      → flat_map (λ lane. lane) (left (lanes x) order) ≡ []
  none_next seen count none same many nothing =
      ap (λ (l : List (List (ℕ × Line))). flat_map (λ lane. lane) l)
      ((between_of none).rest ∙ ap (λ (l : List (ℕ × ℕ)). map (between (rows x)) l) (sym same))
      ∙ nothing (rows x) many

  -- the first lane that has
  pub some_next : (seen : List (ℕ × ℕ)) (count : ℕ) (o : Option ℕ) → stopped ≡ None → seen ≡ cursors
      → length (rows x) ≡ count
      → IfSome o
      (λ k. (all : List (ℕ × Line)) → length all ≡ count
      → 0 < length (lane_at (map (between all) seen) k))
      → IfSome o (λ k. (stopped ≡ None) × (0 < length (lane_at (left (lanes x) order) k)))
  some_next seen count None none same many some = tt
  some_next seen count (Some k) none same many some =
      let rest : left (lanes x) order ≡ map (between (rows x)) seen =
      (between_of none).rest ∙ ap (λ (l : List (ℕ × ℕ)). map (between (rows x)) l) (sym same) in (
        none,
        subst (λ (l : List (List (ℕ × Line))). 0 < length (lane_at l k)) (sym rest)
            (some (rows x) many),
      )

-- the last of a list
pub last_at : {X : Type 0} (front : List X) (e d : X) (xs : List X) → xs ≡ front ++ e ∷ []
    → get_or xs (length xs - 1) d ≡ e
last_at {X} front e d xs is =
    let many = length-append front (e ∷ []) in
    let one : length (front ++ e ∷ []) - 1 ≡ length front = omega (arith, many) in
    ap (λ (l : List X). get_or l (length l - 1) d) is
    ∙ ap (λ (n : ℕ). get_or (front ++ e ∷ []) n d) one ∙ at front
  where
    at : (ys : List X) → get_or (ys ++ e ∷ []) (length ys) d ≡ e
    at [] = refl
    at (y ∷ ys) = at ys

-- the entries behind a turn
pub steps_more : (hash : List ℕ → Digest32) (old new : Cluster) (number : ℕ) (line : Line)
    (steps : List Entry)
    → new ≡ record old { rows = old.rows ++ (number, line) ∷ [] } → steps ≡ steps_in hash new
    → steps
    ≡ steps_in hash old
    ++ entry_of (script_rules hash old.script) (world_in hash old) number line ∷ []
steps_more hash old new number line steps is all =
    all ∙ ap (λ (k : Cluster). steps_in hash k) is
    ∙ entries_more (script_rules hash old.script) (opened hash old.script) old.rows number line

-- the same, whatever its parts are called
pub between_seen : (x : Laned) (script : Scenario) (numbers sizes order order' : List ℕ)
    (cluster : Cluster) (cursors cursors' : List (ℕ × ℕ))
    → script ≡ x.script → numbers ≡ x.numbers → sizes ≡ x.sizes → order' ≡ order
    → cursors' ≡ cursors → IsBetween x order cluster cursors
    → IsBetween (record { script = script; numbers = numbers; sizes = sizes }) order' cluster
    cursors'
between_seen x script numbers sizes order order' cluster cursors cursors' s n z o c h =
    rw (s, n, z, o, c) h

-- a turn of a lane that has a line left
module _ (hash : List ℕ → Digest32) (x : Laned) (order : List ℕ) (cluster : Cluster)
    (cursors : List (ℕ × ℕ)) (h : IsBetween x order cluster cursors) (k from end : ℕ) (line : Line)
    (at : slice_get cursors k ≡ Some (from, end)) (lt : from < end)
    (there : slice_get x.script.lines from ≡ Some line) where
  pub advanced : (entry : Entry)
      → entry
      ≡ entry_of (script_rules hash cluster.script) (world_in hash cluster)
      (slice_index x.numbers from) line
      → HasAdvanced hash x order k entry
  advanced entry gives = record {
    row = (slice_index x.numbers from, line);
    next = next_row x order cursors k from end line h.rest at lt there;
    gives =
        gives
        ∙ ap
        (λ (c : Cluster). entry_of (script_rules hash c.script) (world_in hash c)
        (slice_index x.numbers from) line)
        h.played;
  }

  pub over_by : (e : RunError)
      → outcome (script_rules hash cluster.script) (opened hash cluster.script)
      (lines_of cluster.rows)
      ≡ Ends (world_in hash cluster)
      → IsStopped (script_rules hash cluster.script) (opened hash cluster.script)
      (lines_of cluster.rows ++ line ∷ []) e
      → IsOver hash x (order ++ k ∷ []) e
  over_by e ends stops =
      is_over hash x order k line e
      (lines_then x order cursors k from end line h.rest at lt there)
      (subst
      (λ (c : Cluster). outcome (script_rules hash c.script) (opened hash c.script)
      (lines_of c.rows)
      ≡ Ends (world_in hash c))
      h.played ends)
      (turns_then x order cursors k from end line h.rest at lt there h.turns)
      (subst
      (λ (c : Cluster). IsStopped (script_rules hash c.script) (opened hash c.script)
      (lines_of c.rows ++ line ∷ []) e)
      h.played stops)

-- what is told of why no further line is played
pub over_told : (hash : List ℕ → Digest32) (x : Laned) (order : List ℕ) (e told : RunError)
    → (told ≡ e) ⊎ (told ≡ error.NoMemory) → IsOver hash x order e → IsOver hash x order told
over_told hash x order e told (inl is) h = rw is h
over_told hash x order e told (inr is) h = rw is tt

-- the reply of a turn that was played
pub replied : (hash : List ℕ → Digest32) (old seen new : Turning) (k : ℕ) (entry : Entry)
    → old ≡ seen → new.laned ≡ old.laned → old.stopped ≡ None
    → HasAdvanced hash old.laned old.order k entry → new.order ≡ old.order ++ k ∷ []
    → new.stopped ≡ None → IsTurnOf hash seen k (Ok (Some entry)) new
replied hash old seen new k entry is same none turn order goes =
    subst (λ (t : Turning). IsTurnOf hash t k (Ok (Some entry)) new) is (
      same,
      subst (λ (o : Option RunError). IsTurnBy hash old k (Ok (Some entry)) new o) (sym none)
          (turn, order, goes),
    )

-- the reply of one that wasn't
pub refused : (hash : List ℕ → Digest32) (old seen new : Turning) (k : ℕ) (e : RunError)
    → old ≡ seen → new.laned ≡ old.laned → old.stopped ≡ None → new.stopped ≡ Some e
    → IsOver hash new.laned new.order e → IsTurnOf hash seen k (Err e) new
refused hash old seen new k e is same none stops over =
    subst (λ (t : Turning). IsTurnOf hash t k (Err e) new) is (
      same,
      subst (λ (o : Option RunError). IsTurnBy hash old k (Err e) new o) (sym none) (stops, over),
    )

-- a turn that finds no line
pub turns_none : (hash : List ℕ → Digest32) (t : Turning) (k : ℕ) → t.stopped ≡ None
    → lane_at (left (lanes t.laned) t.order) k ≡ [] → IsTurnBy hash t k (Ok None) t t.stopped
turns_none hash t k none nothing =
    subst (λ (o : Option RunError). IsTurnBy hash t k (Ok None) t o) (sym none) (refl, nothing)

-- why there is no report
pub over_cause : (hash : List ℕ → Digest32) (text : List ℕ) (x : Laned) (order : List ℕ)
    (e : RunError)
    → laned_of text ≡ Ok x → IsOver hash x order e
    → ((r : Rules) (script : List Line) (earlier later : List ℕ)
    → outcome r (opening r script) script ≡ Clashes earlier later
    → (w : World) × Reaches r script w × IsClash r w earlier later)
    → TellsApart (script_rules hash x.script) x.script.lines
    → IsLanesCause hash text (told_order order e) e
over_cause hash text x order error.NoMemory spells h law apart = refl
over_cause hash text x order (error.HashClash earlier later) spells h law apart =
    lanes_clashed hash text x order earlier later spells h law apart
over_cause hash text x order error.BadCommittee spells h law apart = absurd h
over_cause hash text x order error.TooManyFaulty spells h law apart = absurd h
over_cause hash text x order (error.Syntax line) spells h law apart = absurd h
over_cause hash text x order (error.UnknownMember line) spells h law apart = absurd h
over_cause hash text x order (error.OversizeBlock line) spells h law apart = absurd h

-- ---- how many turns may come

-- how many lines all lanes have left
abbrev pub lines_left : Turning → ℕ
lines_left t = length (flat_map (λ lane. lane) (left (lanes t.laned) t.order))

-- how many turns may come yet, one of them the last that is told
abbrev pub turns_left : Turning → ℕ
turns_left t = option_map_or (λ e. 0) t.stopped (1 + lines_left t)

turns_going : (t : Turning) → t.stopped ≡ None → turns_left t ≡ 1 + lines_left t
turns_going t none = ap (λ (o : Option RunError). option_map_or (λ e. 0) o (1 + lines_left t)) none

turns_over : (t : Turning) (e : RunError) → t.stopped ≡ Some e → turns_left t ≡ 0
turns_over t e is = ap (λ (o : Option RunError). option_map_or (λ e. 0) o (1 + lines_left t)) is

-- fewer behind each turn
pub fewer_turns : (hash : List ℕ → Digest32) (old new : Turning) (k : ℕ)
    (reply : Result (Option Entry) RunError)
    → IsTurnOf hash old k reply new → old.stopped ≡ None
    → 0 < length (lane_at (left (lanes old.laned) old.order) k)
    → turns_left new < turns_left old
fewer_turns hash old new k reply turn none some =
    go reply (subst (λ (o : Option RunError). IsTurnBy hash old k reply new o) none turn.1)
  where
    before : turns_left old ≡ 1 + lines_left old
    before = turns_going old none

    go : (reply : Result (Option Entry) RunError) → IsTurnBy hash old k reply new None
        → turns_left new < turns_left old
    go (Ok (Some entry)) h =
        let now : turns_left new ≡ 1 + lines_left new = turns_going new h.2 in
        let rest : left (lanes new.laned) new.order
        ≡ without_next (left (lanes old.laned) old.order) k =
        ap (λ (x : Laned). left (lanes x) new.order) turn.0
        ∙ ap (λ (o : List ℕ). left (lanes old.laned) o) h.1
        ∙ left_more (lanes old.laned) old.order k
        in
        let many : lines_left new
        ≡ length (flat_map (λ lane. lane) (without_next (left (lanes old.laned) old.order) k)) =
        ap (λ (l : List (List (ℕ × Line))). length (flat_map (λ lane. lane) l)) rest in
        let fewer = fewer_left (left (lanes old.laned) old.order) k some in
        omega (arith, before, now, many, fewer)
    go (Ok None) h =
        let zero_left : length (lane_at (left (lanes old.laned) old.order) k) ≡ 0 =
        ap (λ (l : List (ℕ × Line)). length l) h.1 in
        absurd (omega (arith, zero_left, some))
    go (Err e) h = let now : turns_left new ≡ 0 = turns_over new e h.0 in omega (arith, before, now)
