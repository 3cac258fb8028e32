use Rattle.std.proofs.Common.{◌≡◌, ◌++◌, ◌∷◌, [], List, Some, false, length, take, drop, refl, ap, subst, sym, ◌∙◌}
use Rattle.std.specs.Prelude.{slice_get}
use Rattle.std.proofs.lemmas.Option.{slice_get_read}
use Rattle.cw_rules.specs.World.{Line}
use Rattle.hail_world.specs.declared.place.Place.{Place}
use Rattle.hail_world.specs.Clusters.{ClusterStands, lines_of_turns}
use Rattle.hail_world.specs.Places.{script_rules}
use Rattle.hail_world.specs.Runs.{opened}
use Rattle.hail_world.specs.MemoryNodes.{MemoryNode}
use Rattle.hail_world.proofs.Clusters.{begins, below_inside, line_lent, same_played, seen_more, seen_stopped, turned, whole_inside}
use Rattle.hail_world.proofs.Known.{known_at}
use Rattle.hail_world.proofs.Running.{whole_front}
use Rattle.hail_world.proofs.cluster.Cluster.turn.Goals as goal

pub invariant_of-setting : goal.invariant_of-setting
invariant_of-setting g c =
    let i = c.self.inside in
    let at =
    line_lent c.lines.result.now i.script.lines c.args.at c.index-lines-at.result
    c.lines.ensures.value
    (below_inside g.H.Hasher.digest_of i.script i.turns.items i.over c.args.self.now
    c.self.view_is c.args.at c.requires.there)
    c.index-lines-at.is in
    record {
      known = known_at i.script c.args.at c.index-lines-at.result c.lines.ensures.runnable at;
    }

pub turn_line-requires-clause-count : goal.turn_line-requires-clause-count
turn_line-requires-clause-count g c κs within =
    let i = c.self.inside in
    let hash = g.H.Hasher.digest_of in
    let u =
    c.self.invariant.2
    (whole_inside hash i.script i.turns.items i.over c.args.self.now c.self.view_is
    c.requires.whole) in
    ap (λ (l : List (Place MemoryNode)). length l) c.deref_mut.ensures.value ∙ u.count

pub returns-in-Err-clause-err : goal.returns-in-Err-clause-err
returns-in-Err-clause-err g c = λ line there.
    let i = c.self.inside in
    let hash = g.H.Hasher.digest_of in
    let s = i.script in
    let r = script_rules hash s in
    let rows = lines_of_turns s.lines i.turns.items in
    let mine : Line = c.index-lines-at.result in
    let below =
    below_inside hash s i.turns.items i.over c.args.self.now c.self.view_is c.args.at
    c.requires.there in
    let u =
    c.self.invariant.2
    (whole_inside hash s i.turns.items i.over c.args.self.now c.self.view_is c.requires.whole) in
    let at =
    line_lent c.lines.result.now s.lines c.args.at mine c.lines.ensures.value below
    c.index-lines-at.is in
    let begin =
    begins r s.lines i.turns.items c.args.at mine at (c.is_cluster.ensures r refl) in
    let played =
    same_played r (opened hash s) rows i.pool i.places.items c.deref_mut.result.now i.known
    i.faulty.items c.deref.result.now c.deref_mut.ensures.value c.deref.ensures.value u.played in
    seen_stopped hash s i.turns.items i.over c.args.self.now c.self.view_is c.args.at mine line
    c.in-Err.error at (c.in-Err.ensures.err (opened hash s) rows begin played) there

pub returns-clause-ok : goal.returns-clause-ok
returns-clause-ok g c = λ line there.
    let i = c.self.inside in
    seen_more g.H.Hasher.digest_of i.script i.turns.items i.over c.args.self.now c.self.view_is
    c.put_turn.new.turns.items c.args.number c.args.at line c.requires.whole there
    c.in_ok-put_turn.ensures.turn

pub invariant_of-self-2 : goal.invariant_of-self-2
invariant_of-self-2 g c =
    let i = c.self.inside in
    let hash = g.H.Hasher.digest_of in
    let s = i.script in
    let r = script_rules hash s in
    let rows = lines_of_turns s.lines i.turns.items in
    let line : Line = c.index-lines-at.result in
    let below =
    below_inside hash s i.turns.items i.over c.args.self.now c.self.view_is c.args.at
    c.requires.there in
    let u =
    c.self.invariant.2
    (whole_inside hash s i.turns.items i.over c.args.self.now c.self.view_is c.requires.whole) in
    let at =
    line_lent c.lines.result.now s.lines c.args.at line c.lines.ensures.value below
    c.index-lines-at.is in
    let begin = begins r s.lines i.turns.items c.args.at line at (c.is_cluster.ensures r refl) in
    let played =
    same_played r (opened hash s) rows i.pool i.places.items c.deref_mut.result.now i.known
    i.faulty.items c.deref.result.now c.deref_mut.ensures.value c.deref.ensures.value u.played in
    let places : List (Place MemoryNode) = c.turn_line.new.places in
    let count : length places ≡ s.committees.total =
    c.turn_line.auto.places
    ∙ ap (λ (l : List (Place MemoryNode)). length l) c.deref_mut.ensures.value
    ∙ u.count in
    let back : take i.places.len (places ++ drop (length places) i.places.items) ≡ places =
    whole_front places (drop (length places) i.places.items) i.places.len
    (c.turn_line.auto.places ∙ c.deref_mut.ensures.len) in
    let plays =
    same_played r (opened hash s) (rows ++ (c.args.number, line) ∷ [])
    (i.pool ++ c.in-Ok.entry ∷ []) places places c.turn_line.new.known c.deref.result.now
    i.faulty.items refl (sym c.deref.ensures.value)
    (c.in-Ok.ensures.played (opened hash s) rows begin played) in
    subst
    (λ (l : List (Place MemoryNode)). ClusterStands hash g.W.Way.travel s i.opening
    (lines_of_turns s.lines c.put_turn.new.turns.items) false c.put_turn.new.pool l
    c.turn_line.new.known
    i.faulty.items)
    (sym back)
    (turned hash g.W.Way.travel s i.opening i.turns.items c.put_turn.new.turns.items i.pool
    c.put_turn.new.pool places c.turn_line.new.known i.faulty.items c.args.number c.args.at line
    c.in-Ok.entry c.self.invariant.0 c.self.invariant.1 at plays c.in-Ok.ensures.sound count
    c.in_ok-put_turn.ensures.turn c.in_ok-put_turn.ensures.entry)
