-- The worked runs: their clusters and their scripts.
use Rattle.std.specs.Prelude.{ℕ, false, List, [], ◌∷◌, ◌++◌, map, drop, Option, Some, sum}
use Rattle.cw_base.specs.declared.hash.Digest32.{Digest32}
use Rattle.cw_types.specs.declared.event.Event.{Event}
use Rattle.cw_types.specs.declared.event.TicketOut.{TicketOut}
use Rattle.cw_types.specs.Block.{Block}
use Rattle.cw_types.specs.Epochs.{Epochs, single}
use Rattle.cw_rules.specs.Rules.{Rules, among, commit, digest, genesis, genesis_commitment}
use Rattle.cw_rules.specs.declared.travel.Travel.TheVariants.{Uncut}
use Rattle.cw_rules.specs.Report.{Entry, report_of}
use Rattle.cw_rules.specs.Step.{Member, start, step}
use Rattle.cw_rules.specs.World.{world_of, Line, Do, Cut, Restart, Faulty, Propose, Timeout, Deliver, Offer}
use Rattle.cw_rules_runs.specs.Toy.{hashed_by, toy_in}

-- the block over genesis in view 1, which member 1 leads
abbrev pub block_over_genesis : Rules → List ℕ → Block
block_over_genesis r payload = record {
  context =
      record { epoch = 0; view = 1; leader = 1; parent_view = 0; parent = genesis_commitment r };
  parent = digest r (genesis r);
  height = 1;
  payload = payload;
}

abbrev pub first_block : Block
first_block = block_over_genesis (toy_in (single 4) 3 []) (61 ∷ [])

-- four members in one epoch without end
abbrev pub four : Rules
four = toy_in (single 4) 3 (first_block ∷ [])

-- view 1 ends without a block, and member 2 proposes in view 2
abbrev pub timeouts : List Line
timeouts =
    Do 0 (Timeout 1) ∷ Do 1 (Timeout 1) ∷ Do 2 (Timeout 1) ∷ Do 2 (Deliver 0) ∷ Do 2 (Deliver 1)
    ∷ Do 2 (Propose (61 ∷ [])) ∷ Do 0 (Deliver 3) ∷ Do 0 (Deliver 4) ∷ Do 0 (Deliver 8) ∷ []

-- a block goes from member 1 until it is certified at member 2
abbrev pub certified : List Line
certified =
    Do 1 (Propose (61 ∷ [])) ∷ Do 0 (Deliver 0) ∷ Do 0 (Deliver 1) ∷ Do 0 (Deliver 4)
    ∷ Do 2 (Deliver 2) ∷ Do 2 (Deliver 4) ∷ Do 0 (Deliver 8)
    ∷ Do 1 (Deliver 9) ∷ Do 2 (Deliver 9) ∷ Do 2 (Deliver 5) ∷ []

-- and until it is finalized there
abbrev pub finalized_run : List Line
finalized_run = certified ++ Do 2 (Deliver 10) ∷ Do 2 (Deliver 12) ∷ []

-- the same with its last line cut, with that many bytes of the last write, and a restart
abbrev pub cut_run : ℕ → List Line
cut_run bytes = certified ++ Do 2 (Deliver 10) ∷ Cut 3 bytes 0 2 (Deliver 12) ∷ Restart 2 ∷ []

-- member 1 is faulty and offers two blocks in one view
abbrev pub two_offers : List Line
two_offers =
    Faulty 1 (Offer 1 (61 ∷ [])) ∷ Faulty 1 (Offer 1 (62 ∷ [])) ∷ Do 0 (Deliver 0)
    ∷ Do 0 (Deliver 4) ∷ Do 2 (Deliver 7) ∷ Do 2 (Deliver 9)
    ∷ Do 3 (Deliver 3) ∷ Do 3 (Deliver 4) ∷ Do 0 (Deliver 15) ∷ Do 0 (Deliver 13) ∷ []

-- a hash that adds up
abbrev pub sum_hash : List ℕ → Digest32
sum_hash xs = record { 0 = sum xs ∷ [] }

abbrev pub sum_rules : List Block → Rules
sum_rules blocks = hashed_by sum_hash (single 4) 3 blocks

-- two blocks of one digest
abbrev pub ascending : Block
ascending = block_over_genesis (sum_rules []) (1 ∷ 2 ∷ [])

abbrev pub descending : Block
descending = block_over_genesis (sum_rules []) (2 ∷ 1 ∷ [])

abbrev pub adding : Rules
adding = sum_rules (ascending ∷ descending ∷ [])

-- member 1 offers both, and two members come to note one each
abbrev pub colliding : List Line
colliding =
    Faulty 1 (Offer 1 (1 ∷ 2 ∷ [])) ∷ Faulty 1 (Offer 1 (2 ∷ 1 ∷ [])) ∷ Do 0 (Deliver 0)
    ∷ Do 0 (Deliver 1) ∷ Do 2 (Deliver 7) ∷ Do 2 (Deliver 6) ∷ []

-- four members in epochs of one height each
abbrev pub short_epochs : Rules
short_epochs =
    toy_in (record { total = 4; span = Some 1; lists = (0 ∷ 1 ∷ 2 ∷ 3 ∷ []) ∷ [] }) 3
    (first_block ∷ [])

-- the block is certified at member 2, which proposes in the next view
abbrev pub proposed_next : List Line
proposed_next = certified ++ Do 2 (Propose (62 ∷ [])) ∷ []

-- it is proposed again, and finalized so
abbrev pub proposed_again : List Line
proposed_again =
    proposed_next
    ++ Do 0 (Deliver 16) ∷ Do 1 (Deliver 16) ∷ Do 2 (Deliver 17) ∷ Do 2 (Deliver 18) ∷ []

-- two committees of four, for epochs of one height each
abbrev pub two_epochs : Epochs
two_epochs =
    record { total = 5; span = Some 1; lists = (0 ∷ 1 ∷ 2 ∷ 3 ∷ []) ∷ (1 ∷ 2 ∷ 3 ∷ 4 ∷ []) ∷ [] }

-- the block is finalized, and member 2 proposes in the next epoch
abbrev pub next_epoch : List Line
next_epoch = finalized_run ++ Do 2 (Propose (63 ∷ [])) ∷ []

-- the block of the second epoch, over the first
abbrev pub second_block : Block
second_block = let r = toy_in two_epochs 3 [] in record {
  context =
      record { epoch = 1; view = 1; leader = 2; parent_view = 0; parent = commit r first_block };
  parent = digest r first_block;
  height = 2;
  payload = 63 ∷ [];
}

abbrev pub two_committees : Rules
two_committees = toy_in two_epochs 3 (first_block ∷ second_block ∷ [])

-- a block is finalized in each of two epochs, and a third begins; member 4 asks for what it missed,
-- is cut and restarts
abbrev pub three_epochs : List Line
three_epochs =
    finalized_run ++ Do 2 (Propose (63 ∷ [])) ∷ Do 1 (Deliver 16)
    ∷ Do 1 (Deliver 17) ∷ Do 1 (Deliver 21) ∷ Do 4 (Deliver 16) ∷ Do 2 (Deliver 26)
    ∷ Do 4 (Deliver 27) ∷ Do 4 (Deliver 20) ∷ Do 4 (Deliver 21) ∷ Do 4 (Deliver 18)
    ∷ Do 1 (Deliver 18) ∷ Do 2 (Deliver 24) ∷ Do 2 (Deliver 29) ∷ Do 1 (Deliver 30)
    ∷ Do 4 (Deliver 30) ∷ Do 2 (Deliver 33) ∷ Do 2 (Deliver 35) ∷ Do 2 (Propose (64
    ∷ [])) ∷ Cut 3 0 1 4 (Deliver 36) ∷ Restart 4 ∷ []

-- the tickets that a member of number 0 answers, event by event
abbrev pub tickets_of : Rules → Member → List Event → List (List TicketOut)
tickets_of r m [] = []
tickets_of r m (e ∷ es) =
    let done = step r 0 (λ i v. false) m e in done.tickets ∷ tickets_of r done.member es

-- a member that was just started
abbrev pub fresh : Member
fresh = (start four 0 []).member

-- the line, how many notes a restart found, the numbers of the messages and the heights handed out
abbrev pub in_brief : Entry → ℕ × Option ℕ × List ℕ × List ℕ
in_brief e = (e.line, e.found, map (λ s. s.number) e.sent, map (λ h. h.height) e.handed)

-- the last entries of a script's report, from that one on
abbrev pub steps_from : ℕ → Rules → List Line → List (ℕ × Option ℕ × List ℕ × List ℕ)
steps_from skipped r script =
    map in_brief (drop skipped (report_of r script (world_of r script)).steps)

-- the heights of the links of a script's chain
abbrev pub chain_heights : Rules → List Line → List ℕ
chain_heights r script = map (λ b. b.height) (report_of r script (world_of r script)).chain

-- ---- blocks that travel whole

-- four members in one epoch without end, among whom blocks travel whole
abbrev pub whole_four : Rules
whole_four = among four Uncut (single 4) 3 four.accepts

-- a block goes from member 1 to members 0 and 2, which vote for it
abbrev pub whole_voted : List Line
whole_voted =
    Do 1 (Propose (104 ∷ 105 ∷ [])) ∷ Do 0 (Deliver 0) ∷ Do 0 (Deliver 1) ∷ Do 2 (Deliver 0)
    ∷ Do 2 (Deliver 1) ∷ Do 0 (Deliver 3) ∷ []

-- members 0, 1 and 2 vote to finalize it, and member 2 has the vote of member 0
abbrev pub whole_certified : List Line
whole_certified = whole_voted ++ Do 1 (Deliver 4) ∷ Do 2 (Deliver 4) ∷ Do 2 (Deliver 5) ∷ []

-- and that of member 1
abbrev pub whole_finalized : List Line
whole_finalized = whole_certified ++ Do 2 (Deliver 7) ∷ []

-- the same with that last line cut before anything is on the disk, and a restart
abbrev pub whole_cut : List Line
whole_cut = whole_certified ++ Cut 3 0 0 2 (Deliver 7) ∷ Restart 2 ∷ []

-- member 1 is faulty and offers a block to all. Member 0 has its proposal and then the block,
-- member 2 the block alone
abbrev pub whole_offer : List Line
whole_offer =
    Faulty 1 (Offer 1 (61 ∷ [])) ∷ Do 0 (Deliver 1) ∷ Do 0 (Deliver 0) ∷ Do 2 (Deliver 0) ∷ []
