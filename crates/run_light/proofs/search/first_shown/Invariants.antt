use Rattle.std.proofs.Common.{◌≡◌, ℕ, Bool, drop}
use Rattle.cw_types.specs.Block.{Block}
use Rattle.cw_rules.specs.Accepted.{first_some}
use Rattle.cw_rules_coded.specs.Coded.{coded}
use Rattle.run_light.specs.Finding.{first_shown, shown_by_note}
use Rattle.run_light.proofs.search.first_shown.Given as goal

-- the notes from here on decide
abbrev pub invariant-loop-note : goal.invariant-loop-note
invariant-loop-note g l =
    (backlog : ℕ) (accepts : Block → Block → Bool)
    → first_some
    (shown_by_note (coded g.H.Hasher.digest_of l.committees backlog accepts)
    (g.V.Verifier.signs l.verifier) l.height l.notes)
    (drop l.note-index l.notes)
    ≡ first_shown (coded g.H.Hasher.digest_of l.fn.committees backlog accepts)
    (g.V.Verifier.signs l.fn.verifier) l.fn.height l.fn.notes
