use Rattle.std.proofs.Common.{◌≡◌, ◌<◌, ◌+◌, ◌++◌, ◌∷◌, ℕ, [], length, refl, ap, subst, sym, ◌∙◌, arith, List}
use Rattle.cw_rules.specs.Chains.{Clashes, clash_at}
use Rattle.cw_rules.specs.World.{happens, run}
use Rattle.hail_world.specs.Played.{lines_of}
use Rattle.hail_world.specs.Places.{script_rules}
use Rattle.hail_world.proofs.Nothing.{none_when}
use Rattle.hail_world.proofs.Growing.{grown}
use Rattle.hail_world.proofs.Known.{clear, found}
use Rattle.hail_world.proofs.Turned.{played_clash, played_next, reached_begun}
use Rattle.hail_world.proofs.line_turn.turn_line.Goals as goal

pub find_clash-requires-clause-there : goal.find_clash-requires-clause-there
find_clash-requires-clause-there g c =
    let named = c.from-id.ensures ∙ c.member.ensures in
    omega (arith, named, c.args.setting.now.known, c.requires.count, c.play.auto.places)

pub returns-clause-played : goal.returns-clause-played
returns-clause-played g c = λ w rows begun h.
    let s = c.args.setting.now in
    let r = script_rules g.H.Hasher.digest_of s.script.now in
    let line = s.line.now in
    let now = run r w (lines_of rows) in
    let named = c.from-id.ensures ∙ c.member.ensures in
    let lt : c.from-id.result < length c.args.places.now =
    omega (arith, named, s.known, c.requires.count) in
    let turn = c.in_ok-entry.ensures.turn now h.members h.sent h.flags in
    let grew =
    grown r now line c.args.places.now c.from-id.result c.notes_before-old.result h.members lt named
    c.notes_before-old.ensures in
    let under =
    c.cluster_laws.ensures.named r ((lines_of rows ++ line ∷ []) ++ begun.rest)
    (happens r now line) begun.cluster (reached_begun r w rows line begun) in
    let clash =
    c.in_ok-earlier.ensures.clash r now (happens r now line) refl turn.members grew under h.knows in
    let none =
    clear r c.in_ok-earlier.field-0 (clash_at r now (happens r now line) c.from-id.result)
    clash c.in_default.not-Some in
    let same = ap (λ (k : ℕ). clash_at r now (happens r now line) k) (sym named) ∙ none in
    let knows =
    c.in_ok-earlier.ensures.knows r now (happens r now line) refl turn.members grew under h.knows
    (none_when c.in_ok-earlier.field-0 c.in_default.not-Some) in
    played_next r w rows s.number line s.pool.now c.args.places.now c.play.new.places
    c.args.known.now c.find_clash.new.known s.faulty.now c.in_ok-entry.entry h turn same knows

pub returns-clause-gives : goal.returns-clause-gives
returns-clause-gives g c = λ w rows h.
    let now =
    run (script_rules g.H.Hasher.digest_of c.args.setting.now.script.now) w (lines_of rows) in
    (c.in_ok-entry.ensures.turn now h.members h.sent h.flags).gives

pub returns-in-Some-clause-err : goal.returns-in-Some-clause-err
returns-in-Some-clause-err g c = λ w rows begun h.
    let s = c.args.setting.now in
    let r = script_rules g.H.Hasher.digest_of s.script.now in
    let line = s.line.now in
    let now = run r w (lines_of rows) in
    let named = c.from-id.ensures ∙ c.member.ensures in
    let lt : c.from-id.result < length c.args.places.now =
    omega (arith, named, s.known, c.requires.count) in
    let turn = c.in_ok-entry.ensures.turn now h.members h.sent h.flags in
    let grew =
    grown r now line c.args.places.now c.from-id.result c.notes_before-old.result h.members lt named
    c.notes_before-old.ensures in
    let under =
    c.cluster_laws.ensures.named r ((lines_of rows ++ line ∷ []) ++ begun.rest)
    (happens r now line) begun.cluster (reached_begun r w rows line begun) in
    let clash =
    c.in_ok-earlier.ensures.clash r now (happens r now line) refl turn.members grew under h.knows in
    let shows =
    found r (clash_at r now (happens r now line) c.from-id.result) c.in-Some.earlier
    c.in-Some.later (sym c.in-Some.is ∙ clash) in
    let same =
    ap (λ (k : ℕ). clash_at r now (happens r now line) k) (sym named) ∙ shows.is in
    played_clash r w rows line s.pool.now c.args.places.now c.args.known.now s.faulty.now shows.both
    h same
    ∙ ap (λ (x : List ℕ). Clashes x (r.block_bytes shows.both.1)) shows.first
    ∙ ap (λ (x : List ℕ). Clashes c.in-Some.earlier x) shows.second
