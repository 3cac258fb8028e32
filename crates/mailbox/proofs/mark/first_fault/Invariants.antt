use Rattle.std.proofs.Common.{◌≡◌, ℕ, get_or, length, drop, map, slice_get, Some}
use Rattle.mailbox.specs.Calls.{is_entry}
use Rattle.mailbox.specs.Marks.{marked_by_all}
use Rattle.mailbox.specs.declared.mark.Mark.TheVariants.{Empty}
use Rattle.mailbox.proofs.mark.first_fault.Given as goal

-- the marks so far lead to where empty ones do
abbrev pub invariant-loop-list : goal.invariant-loop-list
invariant-loop-list g l =
    (length l.marks ≡ length l.history)
    × ((k : ℕ) (x : g.row.T-Event.Denot × g.row.T-Reply.Denot) → slice_get l.history k ≡ Some x
    → marked_by_all (is_entry {T = g.row.T.Denot} g.T.Event.PartialEq.eq g.T.Reply.PartialEq.eq x) k
    (get_or l.marks k Empty) (map (λ v. v.items) (drop l.list-index l.lists))
    ≡ marked_by_all (is_entry {T = g.row.T.Denot} g.T.Event.PartialEq.eq g.T.Reply.PartialEq.eq x) k
    Empty (map (λ v. v.items) l.lists))
