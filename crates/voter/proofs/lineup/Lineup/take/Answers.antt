use Rattle.std.proofs.Common.{◌≡◌, ◌∙◌, ◌+◌, ◌-◌, ◌<◌, Bool, Some, ap, arith, if◌then◌else◌, refl, sym}
use Rattle.std.specs.Map.{lookup}
use Rattle.note_scans.specs.Keys.{same_key}
use Rattle.note_scans.specs.declared.key.VoteKey.{VoteKey}
use Rattle.voter.specs.Lineup.{place_of, set_in}
use Rattle.voter.proofs.Lineups.{key_put, key_there, lineup_again, lineup_first, no_place, place_at_one_less}
use Rattle.voter.proofs.lineup.Lineup.take.Goals as goal

pub returns-then-above-eq0 : goal.returns-then-above-eq0
returns-then-above-eq0 g c = λ key same laws was now agree named_so waits named is.
    let places = c.args.self.now.places.entries in
    let old = c.args.self.now.waiting.items in
    let count = c.args.self.now.count in
    let at = c.above-above.result in
    let none : at ≡ 0 = grind (arith, c.if-above-eq0.true) in
    lineup_first same_key key same laws was now c.args.item agree named places count old is
    c.put_there.new.map.entries (count + 1) c.set_at.new.waiting.items
    (ap (λ (k : VoteKey). place_of (lookup (same_key k) places)) named_so
    ∙ (c.above-above.ensures ∙ no_place at none))
    refl
    (λ q. key_put places c.put_there.new.map.entries c.args.name.now (count + 1)
    (c.put_there.ensures (key_there places c.args.name.now c.requires.there)) q
    ∙ ap (λ (k : VoteKey). if same_key k q then Some (count + 1) else lookup (same_key q) places)
    (sym named_so))
    (c.set_at.ensures ∙ ap (λ (b : Bool). set_in count c.args.item b old) waits)

pub returns-else-above-eq0 : goal.returns-else-above-eq0
returns-else-above-eq0 g c = λ key same laws was now agree named_so waits named is.
    let places = c.args.self.now.places.entries in
    let old = c.args.self.now.waiting.items in
    let at = c.above-above.result in
    let over : 0 < at = grind (arith, c.if-above-eq0.false) in
    lineup_again same_key key same laws was now c.args.item agree named places
    c.args.self.now.count old is (at - 1) c.set_at-else-above-eq0.new.waiting.items
    (ap (λ (k : VoteKey). place_of (lookup (same_key k) places)) named_so
    ∙ (c.above-above.ensures ∙ place_at_one_less at over))
    (c.set_at-else-above-eq0.ensures
    ∙ ap (λ (b : Bool). set_in (at - 1) c.args.item b old) waits)
