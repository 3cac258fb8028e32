use Rattle.std.proofs.Common.{◌≡◌, ◌∙◌, ◌++◌, ◌-◌, ◌+◌, List, ap, arith, drop, length, sym, take, ℕ}
use Rattle.std.proofs.lemmas.List.{length-drop, length-take}
use Rattle.member_lines.specs.Ahead.{Ahead, kept_part}
use Rattle.member_lines.proofs.Reading.{behind, kept_fits, moves_line}
use Rattle.member_lines.proofs.input.Input.move_ahead.Goals as goal

pub invariant_of-self-in-Some : goal.invariant_of-self-in-Some
invariant_of-self-in-Some c =
    let s = c.self.inside in
    let most = length-take (s.to - s.from) (drop s.from c.deref.result.now) in (
      omega (arith, c.in-Some.ensures.0, most),
      c.self.invariant.1,
      c.self.invariant.2,
      kept_fits _ _ c.in_ok-keep-in-Some.ensures.ok,
    )

pub invariant_of-self-in-None : goal.invariant_of-self-in-None
invariant_of-self-in-None c = (
  omega arith,
  c.self.invariant.1,
  c.self.invariant.2,
  kept_fits _ _ c.in_ok-keep-in-None.ensures.ok,
)

pub returns-in_ok-keep-in-Some-clause-ok : goal.returns-in_ok-keep-in-Some-clause-ok
returns-in_ok-keep-in-Some-clause-ok c =
    let s = c.self.inside in
    let room = c.deref.result.now in
    let at = c.in-Some.at in
    let same : room ≡ s.room.items = c.deref.ensures.value in
    let pending = take (s.to - s.from) (drop s.from room) in
    let onto : Ahead → List ℕ = λ a. kept_part (a.line ++ take at pending) in
    let after : List ℕ → List ℕ =
    λ l. take (s.to - (s.from + (at + 1))) (drop (s.from + (at + 1)) l) in
    moves_line _ _ pending at
    (ap (λ (a : Ahead). a.ahead) (sym c.self.view_is)
    ∙ ap (λ (l : List ℕ). take (s.to - s.from) (drop s.from l)) (sym same))
    c.in-Some.ensures (c.in_ok-keep-in-Some.ensures.ok ∙ ap onto c.self.view_is)
    (ap after (sym same) ∙ behind room s.from s.to at c.in-Some.ensures.0)
    (omega (
      arith,
      length-take (s.to - s.from) (drop s.from room),
      length-drop s.from room,
      ap (length {A = ℕ}) same,
      c.self.invariant.2,
    ))
