-- The worked runs: their rules and their scripts. Blocks travel whole, and the hash computes: a
-- digest is the text itself.
use Rattle.std.specs.Prelude.{ℕ, ◌++◌, ◌∷◌, List, None, Some, [], true}
use Rattle.cw_base.specs.declared.hash.Digest32.{Digest32}
use Rattle.cw_types.specs.Block.{Block}
use Rattle.cw_types.specs.Epochs.{Epochs, single}
use Rattle.cw_types.specs.declared.block.Context.{Context}
use Rattle.cw_rules.specs.Rules.{Rules}
use Rattle.cw_rules.specs.declared.travel.Travel.TheVariants.{Uncut}
use Rattle.cw_rules.specs.World.{Ack, Cut, Deliver, Do, Faulty, Finalize_of, Floor, Line, Notarize_of, Propose, Restart, Timeout}

abbrev pub text_hash : List ℕ → Digest32
text_hash xs = record { 0 = xs }

abbrev pub context_text : Context → List ℕ
context_text c = c.epoch ∷ c.view ∷ c.leader ∷ c.parent_view ∷ c.parent.block.0

abbrev pub block_text : Block → List ℕ
block_text b = b.height ∷ context_text b.context ++ b.payload

-- a cluster of these committees, with at most three blocks pending
abbrev pub text_rules : Epochs → Rules
text_rules epochs = record {
  travel = Uncut;
  epochs = epochs;
  backlog = 3;
  hash = text_hash;
  block_bytes = block_text;
  context_bytes = context_text;
  code = λ text k m. [];
  root = λ digests. text_hash [];
  path = λ digests i. [];
  leads_to = λ root chunk. true;
  text_of = λ x chunks. None;
  read_block = λ text. None;
  accepts = λ b a. true;
}

-- ---- a view that can't end in a block

-- four members in one epoch without end
abbrev pub endless_rules : Rules
endless_rules = text_rules (single 4)

-- member 1 proposes, and members 0 and 1 vote for its block. Member 3 votes to end the view, and
-- member 2 noted such a vote and was stopped before it sent it
abbrev pub split_view : List Line
split_view =
    Do 1 (Propose (61 ∷ [])) ∷ Do 0 (Deliver 0) ∷ Do 0 (Deliver 1) ∷ Do 3 (Timeout 1)
    ∷ Cut 3 0 1 2 (Timeout 1) ∷ []

-- member 2 starts and sends its vote, members 0 and 1 vote to end the view too, and the next view's
-- leader, member 2, proposes a block that all finalize
abbrev pub split_view_lines : List Line
split_view_lines =
    Restart 2 ∷ Do 0 (Timeout 1) ∷ Do 1 (Timeout 1) ∷ Do 2 (Deliver 5) ∷ Do 2 (Deliver 6)
    ∷ Do 0 (Deliver 7) ∷ Do 1 (Deliver 7) ∷ Do 3 (Deliver 7) ∷ Do 2 (Propose (62 ∷ []))
    ∷ Do 0 (Deliver 11) ∷ Do 0 (Deliver 12) ∷ Do 1 (Deliver 11) ∷ Do 1 (Deliver 12)
    ∷ Do 3 (Deliver 11) ∷ Do 3 (Deliver 12) ∷ Do 2 (Deliver 13) ∷ Do 2 (Deliver 14)
    ∷ Do 0 (Deliver 16) ∷ Do 1 (Deliver 16) ∷ Do 3 (Deliver 16) ∷ Do 2 (Deliver 19)
    ∷ Do 2 (Deliver 21) ∷ Do 0 (Deliver 24) ∷ Do 1 (Deliver 24) ∷ Do 3 (Deliver 24) ∷ []

-- ---- what one member certified

-- members 0 to 2 vote for the block of member 1, which certifies it
abbrev pub one_certified : List Line
one_certified =
    Do 1 (Propose (61 ∷ [])) ∷ Do 0 (Deliver 0) ∷ Do 0 (Deliver 1) ∷ Do 2 (Deliver 0)
    ∷ Do 2 (Deliver 1) ∷ Do 1 (Deliver 2) ∷ Do 1 (Deliver 3) ∷ []

-- the certificate goes to member 3, its question to member 1, and the answer back
abbrev pub one_certified_lines : List Line
one_certified_lines = Do 3 (Deliver 4) ∷ Do 1 (Deliver 7) ∷ Do 3 (Deliver 8) ∷ []

-- the certificate goes to members 0 and 2 too, which hold the block
abbrev pub one_view_lines : List Line
one_view_lines = one_certified_lines ++ Do 0 (Deliver 4) ∷ Do 2 (Deliver 4) ∷ []

-- ---- an offer

-- member 1, which leads the first view, proposes, and its block and its vote go to each other
abbrev pub one_offer_lines : List Line
one_offer_lines =
    Do 1 (Propose (61 ∷ [])) ∷ Do 0 (Deliver 0) ∷ Do 0 (Deliver 1) ∷ Do 2 (Deliver 0)
    ∷ Do 2 (Deliver 1) ∷ Do 3 (Deliver 0) ∷ Do 3 (Deliver 1) ∷ []

-- ---- a floor within an epoch that its member hasn't entered

-- four members in epochs of two heights
abbrev pub two_heights_rules : Rules
two_heights_rules =
    text_rules (record { total = 4; span = Some 2; lists = (0 ∷ 1 ∷ 2 ∷ 3 ∷ []) ∷ [] })

-- members 1 and 2, with the votes of member 0, which is faulty, finalize the first epoch and a
-- block of the second
abbrev pub two_epochs_without_one : List Line
two_epochs_without_one =
    Do 1 (Propose (61 ∷ [])) ∷ Do 2 (Deliver 0) ∷ Do 2 (Deliver 1) ∷ Faulty 0 (Notarize_of 1)
    ∷ Do 1 (Deliver 2) ∷ Do 1 (Deliver 3) ∷ Do 2 (Deliver 4) ∷ Do 2 (Propose (62 ∷ []))
    ∷ Do 1 (Deliver 8) ∷ Do 1 (Deliver 9) ∷ Faulty 0 (Notarize_of 9) ∷ Do 2 (Deliver 10)
    ∷ Do 2 (Deliver 11) ∷ Do 1 (Deliver 12) ∷ Faulty 0 (Finalize_of 9) ∷ Do 2 (Deliver 15)
    ∷ Do 2 (Deliver 16) ∷ Do 1 (Deliver 17) ∷ Do 1 (Propose (63 ∷ [])) ∷ Do 2 (Deliver 19)
    ∷ Do 2 (Deliver 20) ∷ Faulty 0 (Notarize_of 20) ∷ Do 1 (Deliver 21) ∷ Do 1 (Deliver 22)
    ∷ Do 2 (Deliver 23) ∷ Faulty 0 (Finalize_of 20) ∷ Do 1 (Deliver 26) ∷ Do 1 (Deliver 27)
    ∷ Do 2 (Deliver 28) ∷ []

-- member 3, which had nothing so far, gives up the heights below that block
abbrev pub floor_within : List Line
floor_within =
    two_epochs_without_one ++ Do 3 (Floor 28) ∷ Do 1 (Deliver 31) ∷ Do 3 (Deliver 32) ∷ []

-- it gives up the heights below the last block of the first epoch instead
abbrev pub floor_at_the_end : List Line
floor_at_the_end =
    two_epochs_without_one ++ Do 3 (Floor 17) ∷ Do 1 (Deliver 31) ∷ Do 3 (Deliver 32) ∷ []

-- ---- acknowledgements between hand-outs

-- the same four members, with at most one block pending
abbrev pub one_pending_rules : Rules
one_pending_rules = record endless_rules { backlog = 1 }

-- each member acknowledges what it handed out first, which is genesis
abbrev pub all_acknowledge : List Line
all_acknowledge = Do 0 Ack ∷ Do 1 Ack ∷ Do 2 Ack ∷ Do 3 Ack ∷ []
