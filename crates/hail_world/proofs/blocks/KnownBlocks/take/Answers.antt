use Rattle.std.proofs.Common.{◌≡◌, ◌∙◌, ℕ, List, Option, None, Some, sym, subst}
use Rattle.cw_rules.specs.Reached.{IsNamed}
use Rattle.hail_world.proofs.Colliding.{takes_block}
use Rattle.hail_world.proofs.blocks.KnownBlocks.take.Goals as goal

pub returns-in-Some-clause-ok : goal.returns-in-Some-clause-ok
returns-in-Some-clause-ok c = λ r blocks bytes named h.
    let both : Option (List ℕ × List ℕ) = Some c.in-Some.both in
    rw c.in-Block.is
    (takes_block r blocks c.in-Block.commitment c.in-Block.block c.args.self.now c.args.self.now
    both bytes (subst (IsNamed r) c.in-Block.is named) h
    (sym c.in-Some.is ∙ c.in_ok-both.ensures)
    (λ none. absurd (let no : both ≡ None = none in cc)))

pub returns-in_ok-put_first-in-None-clause-ok : goal.returns-in_ok-put_first-in-None-clause-ok
returns-in_ok-put_first-in-None-clause-ok c = λ r blocks bytes named h.
    rw c.in-Block.is
    (takes_block r blocks c.in-Block.commitment c.in-Block.block c.args.self.now
    c.put_first.new.self None bytes (subst (IsNamed r) c.in-Block.is named) h
    (sym c.in-None.is ∙ c.in_ok-both.ensures)
    (λ none. c.in_ok-put_first-in-None.ensures.ok))
