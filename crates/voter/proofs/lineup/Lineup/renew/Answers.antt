use Rattle.std.proofs.Common.{◌≡◌, ◌∙◌, ◌-◌, ◌<◌, Bool, ap, arith}
use Rattle.std.specs.Map.{lookup}
use Rattle.note_scans.specs.Keys.{same_key}
use Rattle.note_scans.specs.declared.key.VoteKey.{VoteKey}
use Rattle.voter.specs.Lineup.{place_of, set_in}
use Rattle.voter.proofs.Lineups.{lineup_absent, lineup_renewed, no_place, place_at_one_less}
use Rattle.voter.proofs.lineup.Lineup.renew.Goals as goal

pub returns-then-above-gt0 : goal.returns-then-above-gt0
returns-then-above-gt0 g c = λ key same laws was now agree named_so waits named is.
    let places = c.args.self.now.places.entries in
    let old = c.args.self.now.waiting.items in
    let at = c.above-above.result in
    let over : 0 < at = grind (arith, c.if-above-gt0.true) in
    lineup_renewed same_key key same laws was now c.args.item agree named places
    c.args.self.now.count old is (at - 1) c.set_at.new.waiting.items
    (ap (λ (k : VoteKey). place_of (lookup (same_key k) places)) named_so
    ∙ (c.above-above.ensures ∙ place_at_one_less at over))
    (c.set_at.ensures ∙ ap (λ (b : Bool). set_in (at - 1) c.args.item b old) waits)

pub returns-else-above-gt0 : goal.returns-else-above-gt0
returns-else-above-gt0 g c = λ key same laws was now agree named_so waits named is.
    let places = c.args.self.now.places.entries in
    let at = c.above-above.result in
    let none : at ≡ 0 = grind (arith, c.if-above-gt0.false) in
    lineup_absent same_key key same laws was now c.args.item agree named places
    c.args.self.now.count c.args.self.now.waiting.items is
    (ap (λ (k : VoteKey). place_of (lookup (same_key k) places)) named_so
    ∙ (c.above-above.ensures ∙ no_place at none))
