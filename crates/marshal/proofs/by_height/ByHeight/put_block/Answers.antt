use Rattle.std.proofs.Common.{◌≡◌, ◌∙◌, ℕ, false, subst, sym, true}
use Rattle.marshal.specs.Bare.{bare}
use Rattle.marshal.specs.Heights.{is_awaited}
use Rattle.marshal.proofs.Knowing.{knows_awaited, knows_block, knows_unawaited}
use Rattle.marshal.proofs.by_height.ByHeight.put_block.Goals as goal

pub returns-then-not-becomes_held : goal.returns-then-not-becomes_held
returns-then-not-becomes_held g c =
    knows_block (bare g.H.Hasher.digest_of) c.args.notes.now c.args.commitment.now
    c.args.block.now c.args.self.now
    (sym c.becomes_held.ensures ∙ c.if-not-becomes_held.true)

pub returns-then-is_awaited : goal.returns-then-is_awaited
returns-then-is_awaited g c =
    knows_awaited (bare g.H.Hasher.digest_of) c.args.notes.now c.args.commitment.now
    c.args.block.now c.args.self.now c.enter.new.self
    (sym c.becomes_held.ensures ∙ c.if-not-becomes_held.false)
    (subst
    (λ (n : ℕ). is_awaited (bare g.H.Hasher.digest_of) c.args.notes.now
    c.args.self.now.at.entries c.args.commitment.now n ≡ true)
    c.height.ensures.value (sym c.is_awaited.ensures ∙ c.if-is_awaited.true))
    c.enter.ensures.known c.enter.ensures.entered

pub returns-else-is_awaited : goal.returns-else-is_awaited
returns-else-is_awaited g c =
    knows_unawaited (bare g.H.Hasher.digest_of) c.args.notes.now c.args.commitment.now
    c.args.block.now c.args.self.now
    (sym c.becomes_held.ensures ∙ c.if-not-becomes_held.false)
    (subst
    (λ (n : ℕ). is_awaited (bare g.H.Hasher.digest_of) c.args.notes.now
    c.args.self.now.at.entries c.args.commitment.now n ≡ false)
    c.height.ensures.value (sym c.is_awaited.ensures ∙ c.if-is_awaited.false))
