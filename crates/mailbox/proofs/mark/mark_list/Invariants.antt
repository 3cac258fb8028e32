use Rattle.std.proofs.Common.{◌≡◌, ◌<◌, ℕ, true, get_or, length, drop, slice_get, Some}
use Rattle.mailbox.specs.Calls.{is_entry}
use Rattle.mailbox.specs.Marks.{marked_by}
use Rattle.mailbox.specs.declared.mark.Mark.TheVariants.{Empty}
use Rattle.mailbox.proofs.mark.mark_list.Given as goal

-- the marks so far lead to where the first ones did
abbrev pub invariant-loop-call : goal.invariant-loop-call
invariant-loop-call g l =
    (length l.marks ≡ length l.history)
    × ((k : ℕ) (x : g.row.T-Event.Denot × g.row.T-Reply.Denot) → slice_get l.history k ≡ Some x
    → marked_by (is_entry {T = g.row.T.Denot} g.T.Event.PartialEq.eq g.T.Reply.PartialEq.eq x) k
    (get_or l.marks k Empty) l.top (drop l.call-index l.list)
    ≡ marked_by (is_entry {T = g.row.T.Denot} g.T.Event.PartialEq.eq g.T.Reply.PartialEq.eq x) k
    (get_or l.initial.marks k Empty) 0 l.list)
