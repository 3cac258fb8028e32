-- Which block is one for a proposal.
use Rattle.std.specs.Prelude.{◌&&◌, ◌+◌, ◌==◌, ◌||◌, Bool, List, false, nat_lt}
use Rattle.std.specs.Option.{option_map_or}
use Rattle.cw_types.specs.Block.{Block}
use Rattle.cw_types.specs.Epochs.{is_last, is_within, leader}
use Rattle.cw_types.specs.Same.{same_block, same_commitment, same_context, same_digest}
use Rattle.cw_types.specs.declared.block.Context.{Context}
use Rattle.cw_types.specs.declared.commitment.Commitment.{Commitment}
use Rattle.cw_types.specs.declared.note.Note.{Note}
use Rattle.cw_types.specs.declared.vote.Proposal.{Proposal}
use Rattle.cw_rules.specs.Held.{held}
use Rattle.cw_rules.specs.Notes.{settled}
use Rattle.cw_rules.specs.Rules.{Rules, digest, genesis_commitment}

-- the context of a proposal over the payload settled for its parent view
abbrev pub context_for : Rules → Proposal → Commitment → Context
context_for r p c =
    record {
      epoch = p.epoch;
      view = p.view;
      leader = leader r.epochs p.epoch p.view;
      parent_view = p.parent;
      parent = c;
    }

-- b is a new block for p over a, which is held under c
abbrev pub builds_on : Rules → Proposal → Block → Commitment → Block → Bool
builds_on r p b c a =
    same_context b.context (context_for r p c) && same_digest b.parent (digest r a)
    && (b.height == a.height + 1) && is_within r.epochs p.epoch b.height && r.accepts b a

-- p proposes a again, the last block of its epoch
abbrev pub repeats : Rules → Proposal → Block → Commitment → Block → Bool
repeats r p b c a =
    same_commitment p.payload c && same_block b a && nat_lt 0 p.parent
    && is_last r.epochs p.epoch b.height

-- b is a block for p over a, which is held under c
abbrev pub fits_over : Rules → Proposal → Block → Commitment → Block → Bool
fits_over r p b c a = builds_on r p b c a || repeats r p b c a

-- b is a block for p over the held block that is settled for p's parent view
abbrev pub fits : Rules → List Note → Proposal → Block → Bool
fits r notes p b =
    option_map_or (λ c. option_map_or (fits_over r p b c) (held r notes c) false)
    (settled (genesis_commitment r) notes p.epoch p.parent) false

-- the held block of the proposal's payload is one for it
abbrev pub block_fits : Rules → List Note → Proposal → Bool
block_fits r notes p = option_map_or (fits r notes p) (held r notes p.payload) false
