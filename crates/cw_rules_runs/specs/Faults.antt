-- Random scripts with faulty members: an independent program computed what they send and leave.
use Rattle.std.specs.Prelude.{List, [], ◌∷◌, Some}
use Rattle.cw_types.specs.Block.{Block}
use Rattle.cw_rules.specs.Rules.{Rules, commit, digest, genesis, genesis_commitment}
use Rattle.cw_rules.specs.World.{Line, Do, Cut, Restart, Faulty, Propose, Timeout, Deliver, Ack, Prune, Floor, Hint, Silent, Offer, Notarize_of, Finalize_of, Nullify_of}
use Rattle.cw_rules_runs.specs.Toy.{toy_block, toy_in}

-- ---- members outside the committee follow

-- six members, committees of four, six and four for epochs of one height each, at most 1000 blocks
-- pending
abbrev pub outsiders_cluster : List Block → Rules
outsiders_cluster =
    toy_in (record {
      total = 6;
      span = Some 1;
      lists = (1 ∷ 2 ∷ 4 ∷ 5 ∷ []) ∷ (0 ∷ 1 ∷ 2 ∷ 3 ∷ 4 ∷ 5 ∷ []) ∷ (0 ∷ 3 ∷ 4 ∷ 5 ∷ []) ∷ [];
    }) 1000

-- the block of height 1, of view 1 in epoch 0
abbrev pub outsiders_block_0 : Block
outsiders_block_0 =
    let r = outsiders_cluster [] in
    toy_block 0 1 2 0 (genesis_commitment r) (digest r (genesis r)) 1 (101 ∷ [])

-- a faulty member's block of height 1, of view 1 in epoch 0
abbrev pub outsiders_block_1 : Block
outsiders_block_1 =
    let r = outsiders_cluster [] in
    toy_block 0 1 2 0 (genesis_commitment r) (digest r (genesis r)) 1 (103 ∷ [])

-- the rules over that cluster, which read these blocks
abbrev pub outsiders_rules : Rules
outsiders_rules = outsiders_cluster (outsiders_block_0 ∷ outsiders_block_1 ∷ [])

-- the two members outside the first committee note its certificates and its block; then the honest
-- members vote to nullify the first view of the next epoch, whose committee is of all six, and
-- nobody votes for a late offer
abbrev pub outsiders_script : List Line
outsiders_script =
    Faulty 1 Silent ∷ Do 3 Ack ∷ Do 2 (Propose (101 ∷ [])) ∷ Do 0 (Deliver 1) ∷ Do 5 (Deliver 1)
    ∷ Do 4 (Deliver 1) ∷ Do 2 Ack ∷ Do 3 (Deliver 1) ∷ Do 5 (Deliver 4) ∷ Do 4 (Deliver 1)
    ∷ Do 2 (Deliver 1) ∷ Do 2 (Deliver 3) ∷ Do 5 (Deliver 3) ∷ Do 2 (Deliver 6) ∷ Do 5 (Deliver 6)
    ∷ Do 0 (Deliver 6) ∷ Do 3 (Deliver 4) ∷ Do 0 (Deliver 4) ∷ Do 0 Ack ∷ Do 4 (Deliver 6)
    ∷ Do 4 Ack ∷ Do 4 (Deliver 2) ∷ Do 2 (Prune 0) ∷ Do 3 (Deliver 7) ∷ Do 4 (Deliver 4)
    ∷ Do 4 (Propose (102 ∷ [])) ∷ Do 4 (Deliver 12) ∷ Do 2 (Deliver 9) ∷ Do 4 (Deliver 11)
    ∷ Do 0 (Deliver 10) ∷ Do 2 (Hint 1) ∷ Do 0 (Deliver 12) ∷ Do 3 (Deliver 11) ∷ Do 2 Ack
    ∷ Do 5 (Deliver 13) ∷ Do 0 (Deliver 7) ∷ Do 2 (Deliver 11) ∷ Do 2 (Floor 3) ∷ Do 2 (Deliver 19)
    ∷ Do 5 (Deliver 11) ∷ Do 0 (Timeout 2) ∷ Do 0 (Deliver 9) ∷ Do 0 (Deliver 14)
    ∷ Do 5 (Deliver 10) ∷ Do 2 (Deliver 17) ∷ Do 5 (Deliver 12) ∷ Do 3 (Deliver 9)
    ∷ Do 3 (Deliver 12) ∷ Do 3 (Deliver 6) ∷ Do 4 (Hint 9) ∷ Do 5 (Deliver 19) ∷ Do 0 (Deliver 13)
    ∷ Do 3 (Deliver 14) ∷ Do 0 (Deliver 20) ∷ Do 0 (Deliver 23) ∷ Do 2 (Deliver 12)
    ∷ Do 5 (Deliver 14) ∷ Do 2 (Deliver 20) ∷ Do 0 (Deliver 25) ∷ Do 4 (Deliver 16)
    ∷ Do 2 (Deliver 25) ∷ Do 5 (Deliver 18) ∷ Do 4 (Deliver 14) ∷ Do 5 (Deliver 23)
    ∷ Do 2 (Deliver 23) ∷ Do 3 (Deliver 17) ∷ Do 4 (Deliver 23) ∷ Do 4 (Deliver 27)
    ∷ Do 3 (Deliver 19) ∷ Do 4 (Deliver 26) ∷ Do 4 (Deliver 25) ∷ Do 3 (Deliver 24)
    ∷ Do 3 (Deliver 23) ∷ Do 2 (Deliver 25) ∷ Do 5 (Deliver 25) ∷ Do 2 (Deliver 8)
    ∷ Do 0 (Timeout 1) ∷ Do 2 (Timeout 1) ∷ Do 3 (Timeout 1) ∷ Do 4 (Timeout 1) ∷ Do 5 (Timeout 1)
    ∷ Do 5 (Deliver 35) ∷ Do 3 (Deliver 32) ∷ Faulty 1 (Offer 1 (103 ∷ [])) ∷ Do 2 (Deliver 36)
    ∷ Do 2 (Deliver 34) ∷ []

-- ---- three blocks fill an epoch

-- four members, two committees of four for epochs of three heights each, at most one block pending
abbrev pub full_epoch_cluster : List Block → Rules
full_epoch_cluster =
    toy_in (record {
      total = 4;
      span = Some 3;
      lists = (0 ∷ 1 ∷ 2 ∷ 3 ∷ []) ∷ (0 ∷ 1 ∷ 2 ∷ 3 ∷ []) ∷ [];
    }) 1

-- the block of height 1, of view 2 in epoch 0
abbrev pub full_epoch_block_0 : Block
full_epoch_block_0 =
    let r = full_epoch_cluster [] in
    toy_block 0 2 2 0 (genesis_commitment r) (digest r (genesis r)) 1 (101 ∷ [])

-- the block of height 2, of view 3 in epoch 0
abbrev pub full_epoch_block_1 : Block
full_epoch_block_1 =
    let r = full_epoch_cluster [] in
    toy_block 0 3 3 2 (commit r full_epoch_block_0) (digest r full_epoch_block_0) 2 (102 ∷ [])

-- the block of height 3, of view 4 in epoch 0
abbrev pub full_epoch_block_2 : Block
full_epoch_block_2 =
    let r = full_epoch_cluster [] in
    toy_block 0 4 0 3 (commit r full_epoch_block_1) (digest r full_epoch_block_1) 3 (103 ∷ [])

-- the rules over that cluster, which read these blocks
abbrev pub full_epoch_rules : Rules
full_epoch_rules =
    full_epoch_cluster (full_epoch_block_0 ∷ full_epoch_block_1 ∷ full_epoch_block_2 ∷ [])

-- the silent leader's view is nullified, and the next three leaders' blocks fill the epoch; member
-- 3 is stopped and restarts, and acknowledgements and floors make room for the next block
abbrev pub full_epoch_script : List Line
full_epoch_script =
    Faulty 1 Silent ∷ Do 2 (Deliver 0) ∷ Do 0 (Timeout 1) ∷ Do 2 (Timeout 1) ∷ Do 3 (Timeout 1)
    ∷ Do 2 (Deliver 0) ∷ Do 3 (Deliver 1) ∷ Do 2 (Deliver 2) ∷ Do 0 (Deliver 2) ∷ Do 0 (Deliver 0)
    ∷ Do 3 (Deliver 0) ∷ Do 0 (Deliver 1) ∷ Do 2 (Propose (101 ∷ [])) ∷ Do 0 (Deliver 10)
    ∷ Do 2 (Deliver 10) ∷ Do 0 (Deliver 6) ∷ Do 2 (Deliver 11)
    ∷ Cut 1 18446744073709551615 1 3 (Deliver 11) ∷ Do 0 (Deliver 11) ∷ Restart 3 ∷ Do 0 (Deliver 8)
    ∷ Do 3 (Deliver 9) ∷ Do 2 (Deliver 8) ∷ Do 3 (Deliver 15) ∷ Do 3 (Deliver 10) ∷ Do 3 (Floor 7)
    ∷ Do 2 (Deliver 16) ∷ Do 3 (Deliver 18) ∷ Do 2 (Deliver 18) ∷ Do 3 (Deliver 17) ∷ Do 0 Ack
    ∷ Do 0 (Deliver 19) ∷ Do 2 (Deliver 22) ∷ Do 0 (Deliver 18) ∷ Do 2 (Deliver 20)
    ∷ Do 3 (Deliver 23) ∷ Do 0 (Deliver 23) ∷ Do 3 (Propose (102 ∷ [])) ∷ Do 3 (Deliver 29)
    ∷ Do 2 (Deliver 30) ∷ Do 0 (Deliver 29) ∷ Do 2 (Deliver 28) ∷ Do 2 (Deliver 31)
    ∷ Do 3 (Deliver 30) ∷ Do 3 (Deliver 32) ∷ Do 0 (Deliver 30) ∷ Do 2 (Deliver 32)
    ∷ Do 0 (Deliver 26) ∷ Do 3 (Deliver 34) ∷ Do 2 (Deliver 37) ∷ Do 3 (Deliver 37)
    ∷ Do 2 (Floor 25) ∷ Do 0 (Deliver 16) ∷ Do 2 (Deliver 34) ∷ Do 0 (Deliver 38)
    ∷ Do 0 (Propose (103 ∷ [])) ∷ Do 0 (Deliver 39) ∷ Do 0 Ack ∷ Do 2 (Deliver 42)
    ∷ Do 3 (Deliver 39) ∷ Do 0 (Deliver 42) ∷ Do 3 (Deliver 40) ∷ Do 3 (Deliver 42)
    ∷ Do 3 (Deliver 46) ∷ Do 0 (Deliver 37) ∷ Do 3 (Deliver 41) ∷ Do 3 (Floor 49)
    ∷ Do 0 (Deliver 46) ∷ Do 2 (Deliver 49) ∷ Do 3 (Deliver 50) ∷ Do 2 (Deliver 46) ∷ Do 2 Ack
    ∷ Do 3 (Deliver 45) ∷ Do 3 (Deliver 51) ∷ Do 0 (Deliver 51) ∷ Do 2 (Deliver 51)
    ∷ Do 2 (Deliver 44) ∷ Do 3 (Deliver 55) ∷ Do 0 (Deliver 53) ∷ Do 3 (Deliver 54)
    ∷ Do 3 (Deliver 60) ∷ Do 3 (Deliver 58) ∷ Do 0 (Deliver 55) ∷ Do 0 (Deliver 61)
    ∷ Do 2 (Deliver 62) ∷ Do 0 (Timeout 1) ∷ Do 2 (Timeout 1) ∷ Do 3 (Timeout 1) ∷ []

-- ---- two blocks in each of two epochs

-- four members, three committees of four for epochs of two heights each, at most three blocks
-- pending
abbrev pub two_by_two_cluster : List Block → Rules
two_by_two_cluster =
    toy_in (record {
      total = 4;
      span = Some 2;
      lists = (0 ∷ 1 ∷ 2 ∷ 3 ∷ []) ∷ (0 ∷ 1 ∷ 2 ∷ 3 ∷ []) ∷ (0 ∷ 1 ∷ 2 ∷ 3 ∷ []) ∷ [];
    }) 3

-- the block of height 1, of view 1 in epoch 0
abbrev pub two_by_two_block_0 : Block
two_by_two_block_0 =
    let r = two_by_two_cluster [] in
    toy_block 0 1 1 0 (genesis_commitment r) (digest r (genesis r)) 1 (101 ∷ [])

-- the block of height 2, of view 2 in epoch 0
abbrev pub two_by_two_block_1 : Block
two_by_two_block_1 =
    let r = two_by_two_cluster [] in
    toy_block 0 2 2 1 (commit r two_by_two_block_0) (digest r two_by_two_block_0) 2 (102 ∷ [])

-- the block of height 3, of view 1 in epoch 1
abbrev pub two_by_two_block_2 : Block
two_by_two_block_2 =
    let r = two_by_two_cluster [] in
    toy_block 1 1 1 0 (commit r two_by_two_block_1) (digest r two_by_two_block_1) 3 (103 ∷ [])

-- the block of height 4, of view 2 in epoch 1
abbrev pub two_by_two_block_3 : Block
two_by_two_block_3 =
    let r = two_by_two_cluster [] in
    toy_block 1 2 2 1 (commit r two_by_two_block_2) (digest r two_by_two_block_2) 4 (104 ∷ [])

-- the rules over that cluster, which read these blocks
abbrev pub two_by_two_rules : Rules
two_by_two_rules =
    two_by_two_cluster
    (two_by_two_block_0 ∷ two_by_two_block_1 ∷ two_by_two_block_2 ∷ two_by_two_block_3 ∷ [])

-- two blocks are finalized in the first epoch and two proposed in the second, with a faulty member
-- whose one vote is to finalize; member 1 is stopped and restarts
abbrev pub two_by_two_script : List Line
two_by_two_script =
    Faulty 3 Silent ∷ Do 1 (Propose (101 ∷ [])) ∷ Do 2 (Deliver 1) ∷ Do 1 (Deliver 1)
    ∷ Do 2 (Deliver 2) ∷ Do 2 (Floor 5) ∷ Do 0 (Deliver 0) ∷ Do 2 (Deliver 7) ∷ Do 0 (Deliver 4)
    ∷ Do 2 (Deliver 4) ∷ Do 2 (Deliver 9) ∷ Do 2 (Deliver 8) ∷ Do 1 (Deliver 11) ∷ Do 1 (Deliver 9)
    ∷ Do 0 (Floor 5) ∷ Do 2 (Deliver 11) ∷ Do 0 (Deliver 9) ∷ Do 2 (Deliver 13) ∷ Do 0 (Deliver 1)
    ∷ Do 2 (Propose (102 ∷ [])) ∷ Do 1 (Deliver 20) ∷ Do 1 (Deliver 8) ∷ Do 0 (Deliver 18)
    ∷ Do 1 (Deliver 17) ∷ Do 2 (Deliver 18) ∷ Do 1 (Deliver 12) ∷ Do 0 (Deliver 15)
    ∷ Do 2 (Deliver 24) ∷ Do 0 (Deliver 22) ∷ Do 2 (Deliver 22) ∷ Do 2 (Deliver 15)
    ∷ Do 1 (Deliver 18) ∷ Do 0 (Deliver 13) ∷ Do 1 (Deliver 23) ∷ Cut 2 37 154 1 (Deliver 15)
    ∷ Do 0 (Deliver 16) ∷ Do 0 (Deliver 11) ∷ Do 2 (Deliver 20) ∷ Do 2 (Deliver 23)
    ∷ Do 0 (Deliver 20) ∷ Do 0 (Deliver 28) ∷ Do 0 (Deliver 23) ∷ Do 2 (Deliver 32) ∷ Do 2 (Prune 0)
    ∷ Do 0 (Floor 29) ∷ Do 2 (Deliver 31) ∷ Do 2 (Deliver 34) ∷ Do 0 (Deliver 27)
    ∷ Do 0 (Deliver 34) ∷ Do 0 (Deliver 24) ∷ Do 0 (Deliver 32) ∷ Do 0 (Deliver 30) ∷ Restart 1
    ∷ Do 1 (Deliver 26) ∷ Do 1 (Deliver 30) ∷ Do 0 (Prune 0) ∷ Faulty 3 (Finalize_of 22)
    ∷ Do 1 (Deliver 31) ∷ Do 2 (Deliver 27) ∷ Do 2 (Deliver 15) ∷ Do 2 (Deliver 38)
    ∷ Do 0 (Deliver 38) ∷ Do 1 (Deliver 39) ∷ Do 0 (Deliver 41) ∷ Do 1 (Deliver 28)
    ∷ Do 1 (Propose (103 ∷ [])) ∷ Do 0 (Deliver 43) ∷ Do 0 (Deliver 42) ∷ Do 0 (Deliver 46)
    ∷ Do 0 (Deliver 48) ∷ Do 2 (Deliver 48) ∷ Do 1 Ack ∷ Do 2 (Deliver 43) ∷ Do 0 (Floor 41)
    ∷ Do 2 (Deliver 46) ∷ Do 1 (Deliver 43) ∷ Do 2 (Deliver 47) ∷ Do 1 (Deliver 48)
    ∷ Do 2 (Deliver 44) ∷ Do 2 (Deliver 52) ∷ Do 0 (Deliver 51) ∷ Do 2 (Propose (104 ∷ []))
    ∷ Do 2 (Deliver 58) ∷ Do 0 (Deliver 56) ∷ Do 1 (Deliver 62) ∷ Do 1 (Deliver 54) ∷ []

-- ---- the last block is finalized in two views

-- four members, two committees of four for epochs of two heights each, at most one block pending
abbrev pub finalized_twice_cluster : List Block → Rules
finalized_twice_cluster =
    toy_in (record {
      total = 4;
      span = Some 2;
      lists = (0 ∷ 1 ∷ 2 ∷ 3 ∷ []) ∷ (0 ∷ 1 ∷ 2 ∷ 3 ∷ []) ∷ [];
    }) 1

-- the block of height 1, of view 1 in epoch 0
abbrev pub finalized_twice_block_0 : Block
finalized_twice_block_0 =
    let r = finalized_twice_cluster [] in
    toy_block 0 1 1 0 (genesis_commitment r) (digest r (genesis r)) 1 (101 ∷ [])

-- the block of height 2, of view 2 in epoch 0
abbrev pub finalized_twice_block_1 : Block
finalized_twice_block_1 =
    let r = finalized_twice_cluster [] in
    toy_block 0 2 2 1 (commit r finalized_twice_block_0) (digest r finalized_twice_block_0) 2
    (102 ∷ [])

-- the block of height 3, of view 1 in epoch 1
abbrev pub finalized_twice_block_2 : Block
finalized_twice_block_2 =
    let r = finalized_twice_cluster [] in
    toy_block 1 1 1 0 (commit r finalized_twice_block_1) (digest r finalized_twice_block_1) 3
    (105 ∷ [])

-- the rules over that cluster, which read these blocks
abbrev pub finalized_twice_rules : Rules
finalized_twice_rules =
    finalized_twice_cluster
    (finalized_twice_block_0 ∷ finalized_twice_block_1 ∷ finalized_twice_block_2 ∷ [])

-- the second block ends its epoch; it is finalized, proposed again and finalized again, and the
-- next epoch begins over it
abbrev pub finalized_twice_script : List Line
finalized_twice_script =
    Faulty 0 Silent ∷ Do 1 (Propose (101 ∷ [])) ∷ Do 3 (Deliver 3) ∷ Do 2 Ack ∷ Do 3 (Deliver 4)
    ∷ Do 2 (Deliver 6) ∷ Do 1 (Deliver 6) ∷ Do 1 (Deliver 4) ∷ Do 1 (Deliver 1) ∷ Do 2 (Deliver 1)
    ∷ Do 2 (Deliver 4) ∷ Do 3 (Deliver 6) ∷ Do 3 Ack ∷ Do 2 (Deliver 2) ∷ Do 2 (Deliver 8)
    ∷ Do 3 (Deliver 1) ∷ Do 2 (Deliver 10) ∷ Do 1 Ack ∷ Do 3 (Deliver 8) ∷ Do 2 (Propose (102 ∷ []))
    ∷ Do 3 (Propose (103 ∷ [])) ∷ Do 1 (Deliver 9) ∷ Do 1 (Deliver 10) ∷ Do 1 (Deliver 16)
    ∷ Do 1 (Deliver 15) ∷ Do 2 (Deliver 18) ∷ Do 3 (Deliver 10) ∷ Do 3 (Deliver 13)
    ∷ Do 2 (Deliver 13) ∷ Do 2 Ack ∷ Do 3 (Deliver 17) ∷ Do 3 (Deliver 18) ∷ Do 1 (Deliver 18)
    ∷ Do 3 (Deliver 6) ∷ Do 2 (Deliver 16) ∷ Do 2 (Deliver 20) ∷ Do 1 (Deliver 23)
    ∷ Do 2 (Deliver 28) ∷ Faulty 0 (Finalize_of 20) ∷ Do 3 (Deliver 16) ∷ Do 2 (Deliver 24)
    ∷ Do 1 (Deliver 26) ∷ Do 3 (Deliver 20) ∷ Do 3 (Deliver 23) ∷ Do 2 (Deliver 27)
    ∷ Do 3 (Deliver 33) ∷ Do 3 (Deliver 24) ∷ Do 3 (Propose (104 ∷ [])) ∷ Do 1 (Deliver 28)
    ∷ Do 1 (Deliver 36) ∷ Do 2 (Deliver 33) ∷ Do 2 (Deliver 32) ∷ Do 1 (Hint 5) ∷ Do 2 (Floor 31)
    ∷ Do 3 (Deliver 32) ∷ Do 2 (Deliver 36) ∷ Do 2 Ack ∷ Do 1 (Deliver 38) ∷ Do 2 (Deliver 35)
    ∷ Do 3 (Deliver 37) ∷ Cut 6 2 0 2 (Prune 0) ∷ Do 3 (Deliver 28) ∷ Do 1 (Deliver 35)
    ∷ Do 1 (Deliver 40) ∷ Do 3 (Deliver 36) ∷ Do 3 (Deliver 41) ∷ Do 1 (Deliver 37)
    ∷ Do 1 (Deliver 39) ∷ Restart 2 ∷ Do 2 (Deliver 37) ∷ Do 3 (Deliver 39) ∷ Do 3 (Deliver 47)
    ∷ Do 1 (Deliver 44) ∷ Do 1 (Deliver 47) ∷ Do 3 (Deliver 44) ∷ Do 1 (Propose (105 ∷ []))
    ∷ Do 2 (Deliver 49) ∷ Do 3 (Deliver 52) ∷ Do 1 (Deliver 49) ∷ Do 2 (Deliver 46)
    ∷ Do 3 (Deliver 49) ∷ Do 3 (Deliver 51) ∷ Do 2 (Deliver 50) ∷ Do 1 (Deliver 55)
    ∷ Do 1 (Deliver 52) ∷ Do 2 (Deliver 52) ∷ Do 2 (Deliver 47) ∷ []

-- ---- a faulty member in each of two committees

-- five members, two committees of four for epochs of one height each, at most three blocks pending
abbrev pub two_faulty_cluster : List Block → Rules
two_faulty_cluster =
    toy_in (record {
      total = 5;
      span = Some 1;
      lists = (0 ∷ 1 ∷ 3 ∷ 4 ∷ []) ∷ (0 ∷ 1 ∷ 2 ∷ 3 ∷ []) ∷ [];
    }) 3

-- the block of height 1, of view 1 in epoch 0
abbrev pub two_faulty_block_0 : Block
two_faulty_block_0 =
    let r = two_faulty_cluster [] in
    toy_block 0 1 1 0 (genesis_commitment r) (digest r (genesis r)) 1 (101 ∷ [])

-- a faulty member's block of height 1, of view 1 in epoch 0
abbrev pub two_faulty_block_1 : Block
two_faulty_block_1 =
    let r = two_faulty_cluster [] in
    toy_block 0 1 1 0 (genesis_commitment r) (digest r (genesis r)) 1 (106 ∷ [])

-- a faulty member's block of height 1, of view 1 in epoch 0
abbrev pub two_faulty_block_2 : Block
two_faulty_block_2 =
    let r = two_faulty_cluster [] in
    toy_block 0 1 1 0 (genesis_commitment r) (digest r (genesis r)) 1 (105 ∷ [])

-- the block of height 2, of view 1 in epoch 1
abbrev pub two_faulty_block_3 : Block
two_faulty_block_3 =
    let r = two_faulty_cluster [] in
    toy_block 1 1 1 0 (commit r two_faulty_block_0) (digest r two_faulty_block_0) 2 (103 ∷ [])

-- the block of height 3, of view 1 in epoch 2
abbrev pub two_faulty_block_4 : Block
two_faulty_block_4 =
    let r = two_faulty_cluster [] in
    toy_block 2 1 1 0 (commit r two_faulty_block_3) (digest r two_faulty_block_3) 3 (104 ∷ [])

-- the rules over that cluster, which read these blocks
abbrev pub two_faulty_rules : Rules
two_faulty_rules =
    two_faulty_cluster
    (two_faulty_block_0 ∷ two_faulty_block_1 ∷ two_faulty_block_2 ∷ two_faulty_block_3
    ∷ two_faulty_block_4 ∷ [])

-- members 2 and 4 are faulty, one in each committee, with votes of their own and late offers that
-- nobody votes for; members 3 and 0 are stopped and restart, and a third epoch begins
abbrev pub two_faulty_script : List Line
two_faulty_script =
    Faulty 2 Silent ∷ Faulty 4 Silent ∷ Do 1 (Propose (101 ∷ [])) ∷ Do 3 (Deliver 1)
    ∷ Faulty 2 (Finalize_of 4) ∷ Do 0 (Deliver 1) ∷ Do 1 (Deliver 5) ∷ Do 0 (Deliver 5)
    ∷ Do 3 (Deliver 2) ∷ Do 3 (Deliver 4) ∷ Do 0 (Deliver 0) ∷ Do 1 (Deliver 4) ∷ Do 3 (Deliver 7)
    ∷ Do 1 (Deliver 7) ∷ Do 1 (Deliver 1) ∷ Do 3 (Deliver 5) ∷ Do 0 (Deliver 4) ∷ Do 1 (Deliver 10)
    ∷ Do 0 (Deliver 12) ∷ Do 0 (Deliver 7) ∷ Do 3 (Deliver 13) ∷ Do 0 (Deliver 16)
    ∷ Faulty 4 (Nullify_of 1) ∷ Do 1 (Deliver 12) ∷ Faulty 4 (Finalize_of 12) ∷ Do 0 (Deliver 19)
    ∷ Do 3 (Propose (102 ∷ [])) ∷ Do 1 (Deliver 18) ∷ Do 1 (Deliver 14) ∷ Do 1 (Deliver 16)
    ∷ Do 1 (Propose (103 ∷ [])) ∷ Do 0 Ack ∷ Do 3 (Deliver 16) ∷ Do 0 (Deliver 22)
    ∷ Do 3 (Deliver 17) ∷ Do 0 (Deliver 20) ∷ Do 0 (Deliver 26) ∷ Do 0 (Deliver 29)
    ∷ Do 3 (Deliver 18) ∷ Do 3 (Deliver 20) ∷ Do 3 (Deliver 25) ∷ Do 1 (Deliver 23)
    ∷ Do 1 (Deliver 29) ∷ Do 3 (Deliver 26) ∷ Do 1 Ack ∷ Do 1 (Deliver 20) ∷ Do 1 (Deliver 26)
    ∷ Do 1 (Deliver 32) ∷ Do 1 (Deliver 34) ∷ Do 0 (Deliver 18) ∷ Do 0 (Deliver 34)
    ∷ Do 1 (Deliver 31) ∷ Do 0 (Deliver 23) ∷ Do 1 Ack ∷ Do 3 (Deliver 33) ∷ Do 0 (Deliver 33)
    ∷ Do 0 Ack ∷ Do 3 (Deliver 29) ∷ Do 1 (Deliver 38) ∷ Do 3 (Deliver 27) ∷ Do 1 (Deliver 39)
    ∷ Do 3 (Deliver 39) ∷ Do 1 (Propose (104 ∷ [])) ∷ Do 0 (Deliver 39) ∷ Do 3 (Deliver 34)
    ∷ Do 1 (Deliver 40) ∷ Do 1 (Floor 17) ∷ Do 1 (Deliver 45) ∷ Do 3 (Deliver 42)
    ∷ Do 1 (Deliver 42) ∷ Cut 2 2 255 3 (Deliver 45) ∷ Do 0 (Deliver 42) ∷ Cut 3 114 48 0 (Prune 1)
    ∷ Do 1 (Timeout 1) ∷ Do 1 (Deliver 48) ∷ Restart 3 ∷ Do 3 (Deliver 38) ∷ Do 3 (Deliver 49)
    ∷ Restart 0 ∷ Do 0 (Deliver 41) ∷ Do 3 (Deliver 48) ∷ Faulty 4 Silent
    ∷ Faulty 4 (Offer 1 (105 ∷ [])) ∷ Faulty 4 (Offer 1 (106 ∷ [])) ∷ Do 0 (Deliver 45)
    ∷ Do 3 (Hint 4) ∷ Do 3 (Deliver 44) ∷ []

-- ---- a silent leader is passed over in each epoch

-- four members, one committee of four for epochs of one height each, at most 8 blocks pending
abbrev pub silent_leader_cluster : List Block → Rules
silent_leader_cluster =
    toy_in (record { total = 4; span = Some 1; lists = (0 ∷ 1 ∷ 2 ∷ 3 ∷ []) ∷ [] }) 8

-- a faulty member's block of height 1, of view 2 in epoch 0
abbrev pub silent_leader_block_0 : Block
silent_leader_block_0 =
    let r = silent_leader_cluster [] in
    toy_block 0 2 2 0 (genesis_commitment r) (digest r (genesis r)) 1 (104 ∷ [])

-- the block of height 1, of view 2 in epoch 0
abbrev pub silent_leader_block_1 : Block
silent_leader_block_1 =
    let r = silent_leader_cluster [] in
    toy_block 0 2 2 0 (genesis_commitment r) (digest r (genesis r)) 1 (101 ∷ [])

-- the block of height 2, of view 2 in epoch 1
abbrev pub silent_leader_block_2 : Block
silent_leader_block_2 =
    let r = silent_leader_cluster [] in
    toy_block 1 2 2 0 (commit r silent_leader_block_1) (digest r silent_leader_block_1) 2 (103 ∷ [])

-- the rules over that cluster, which read these blocks
abbrev pub silent_leader_rules : Rules
silent_leader_rules =
    silent_leader_cluster
    (silent_leader_block_0 ∷ silent_leader_block_1 ∷ silent_leader_block_2 ∷ [])

-- the silent leader's view is nullified in each of two epochs, and member 2 proposes in the next
-- view; nobody votes for a late offer in the first epoch
abbrev pub silent_leader_script : List Line
silent_leader_script =
    Faulty 1 Silent ∷ Do 0 (Timeout 1) ∷ Do 2 (Timeout 1) ∷ Do 3 (Timeout 1) ∷ Do 0 (Deliver 1)
    ∷ Do 0 (Deliver 2) ∷ Do 3 (Deliver 1) ∷ Do 2 (Deliver 0) ∷ Faulty 1 (Notarize_of 0)
    ∷ Do 0 (Deliver 0) ∷ Do 2 (Deliver 3) ∷ Do 2 (Propose (101 ∷ [])) ∷ Do 3 (Deliver 8)
    ∷ Do 2 (Deliver 10) ∷ Do 3 (Deliver 0) ∷ Do 0 (Deliver 5) ∷ Do 2 (Deliver 4) ∷ Do 2 (Deliver 9)
    ∷ Do 2 (Deliver 7) ∷ Do 0 (Deliver 13) ∷ Do 3 (Deliver 7) ∷ Do 3 (Deliver 9) ∷ Do 0 (Deliver 9)
    ∷ Do 0 (Deliver 15) ∷ Do 3 (Deliver 14) ∷ Do 0 (Deliver 14) ∷ Do 2 (Deliver 14)
    ∷ Do 0 (Deliver 17) ∷ Do 3 (Deliver 15) ∷ Do 2 (Deliver 16) ∷ Do 3 (Propose (102 ∷ []))
    ∷ Do 0 (Deliver 19) ∷ Do 2 Ack ∷ Do 2 (Deliver 17) ∷ Do 0 (Deliver 22) ∷ Do 3 (Deliver 23)
    ∷ Do 2 (Deliver 15) ∷ Do 2 Ack ∷ Do 3 (Deliver 8) ∷ Do 3 (Deliver 19) ∷ Do 2 (Deliver 19)
    ∷ Do 2 (Deliver 22) ∷ Do 0 (Deliver 23) ∷ Do 0 (Deliver 21) ∷ Do 2 (Deliver 23)
    ∷ Do 2 (Deliver 25) ∷ Do 3 (Deliver 21) ∷ Do 3 (Deliver 17) ∷ Do 3 (Deliver 22)
    ∷ Do 3 (Deliver 24) ∷ Do 0 (Timeout 1) ∷ Do 2 (Timeout 1) ∷ Do 3 (Timeout 1) ∷ Do 2 (Deliver 28)
    ∷ Do 3 (Deliver 28) ∷ Do 0 (Deliver 27) ∷ Do 0 (Floor 26) ∷ Do 2 (Deliver 29)
    ∷ Do 3 (Deliver 27) ∷ Do 2 (Deliver 30) ∷ Do 2 (Deliver 27) ∷ Do 0 (Deliver 28) ∷ Do 0 (Prune 0)
    ∷ Do 0 (Deliver 31) ∷ Do 2 (Propose (103 ∷ [])) ∷ Do 2 (Deliver 35) ∷ Do 0 (Deliver 35)
    ∷ Do 2 (Deliver 37) ∷ Do 0 (Deliver 32) ∷ Do 0 (Deliver 35) ∷ Do 0 (Deliver 33)
    ∷ Do 0 (Deliver 37) ∷ Do 0 (Deliver 40) ∷ Cut 4 0 0 0 (Deliver 44) ∷ Do 2 (Deliver 40)
    ∷ Do 3 (Deliver 40) ∷ Do 3 (Deliver 39) ∷ Faulty 1 (Offer 2 (104 ∷ [])) ∷ Do 2 (Deliver 45)
    ∷ Do 2 (Deliver 43) ∷ Do 3 (Deliver 37) ∷ Do 0 (Deliver 42) ∷ Do 3 Ack ∷ Do 2 (Deliver 42)
    ∷ Do 3 (Deliver 42) ∷ Do 0 (Deliver 46) ∷ Do 3 (Deliver 35) ∷ Do 0 (Deliver 45) ∷ []

-- ---- a member of a later committee follows

-- six members, committees of four, four and five for epochs of three heights each, at most one
-- block pending
abbrev pub later_member_cluster : List Block → Rules
later_member_cluster =
    toy_in (record {
      total = 6;
      span = Some 3;
      lists = (0 ∷ 1 ∷ 3 ∷ 4 ∷ []) ∷ (1 ∷ 2 ∷ 3 ∷ 5 ∷ []) ∷ (1 ∷ 2 ∷ 3 ∷ 4 ∷ 5 ∷ []) ∷ [];
    }) 1

-- the block of height 1, of view 2 in epoch 0
abbrev pub later_member_block_0 : Block
later_member_block_0 =
    let r = later_member_cluster [] in
    toy_block 0 2 3 0 (genesis_commitment r) (digest r (genesis r)) 1 (101 ∷ [])

-- the block of height 2, of view 3 in epoch 0
abbrev pub later_member_block_1 : Block
later_member_block_1 =
    let r = later_member_cluster [] in
    toy_block 0 3 4 2 (commit r later_member_block_0) (digest r later_member_block_0) 2 (102 ∷ [])

-- the rules over that cluster, which read these blocks
abbrev pub later_member_rules : Rules
later_member_rules = later_member_cluster (later_member_block_0 ∷ later_member_block_1 ∷ [])

-- the first view is nullified without member 5, which is of a later committee; it asks for the
-- block of the next view and is answered; a cut of what is no finalization stops nobody
abbrev pub later_member_script : List Line
later_member_script =
    Faulty 2 Silent ∷ Do 0 (Timeout 1) ∷ Do 1 (Timeout 1) ∷ Do 3 (Timeout 1) ∷ Do 4 (Timeout 1)
    ∷ Do 5 (Timeout 1) ∷ Do 5 (Deliver 3) ∷ Do 0 (Deliver 1) ∷ Do 1 (Deliver 1) ∷ Do 4 (Deliver 0)
    ∷ Do 1 (Deliver 2) ∷ Do 5 (Deliver 0) ∷ Do 5 (Deliver 2) ∷ Do 4 (Deliver 1) ∷ Do 1 Ack
    ∷ Do 1 (Deliver 3) ∷ Do 3 (Deliver 0) ∷ Do 1 (Deliver 0) ∷ Do 0 (Deliver 3) ∷ Do 3 (Deliver 2)
    ∷ Do 3 (Deliver 4) ∷ Do 3 (Propose (101 ∷ [])) ∷ Do 1 (Deliver 11) ∷ Do 0 (Deliver 11)
    ∷ Do 0 (Timeout 18446744073709551614) ∷ Do 3 (Deliver 11) ∷ Do 1 (Deliver 13)
    ∷ Do 0 (Deliver 13) ∷ Do 0 (Deliver 9) ∷ Do 1 (Deliver 10) ∷ Do 0 (Deliver 17) ∷ Do 0 Ack
    ∷ Do 5 (Deliver 13) ∷ Do 5 (Deliver 11) ∷ Do 1 (Deliver 19) ∷ Cut 3 60 1 1 (Floor 11) ∷ Do 0 Ack
    ∷ Do 5 (Deliver 14) ∷ Do 0 (Deliver 20) ∷ Do 5 (Deliver 19) ∷ Do 5 (Deliver 16)
    ∷ Do 4 (Deliver 16) ∷ Do 3 (Deliver 17) ∷ Do 5 (Deliver 22) ∷ Do 4 (Deliver 17)
    ∷ Do 1 (Deliver 15) ∷ Do 5 (Deliver 20) ∷ Do 4 (Deliver 20) ∷ Do 3 (Deliver 19) ∷ Do 4 (Floor 4)
    ∷ Do 0 (Deliver 22) ∷ Do 5 (Deliver 26) ∷ Do 4 (Deliver 13) ∷ Do 1 Ack ∷ Do 3 (Deliver 22)
    ∷ Do 0 (Deliver 26) ∷ Do 0 (Deliver 28) ∷ Do 0 (Deliver 24) ∷ Do 4 (Deliver 12)
    ∷ Do 4 (Propose (102 ∷ [])) ∷ Do 0 (Deliver 38) ∷ Do 1 (Deliver 35) ∷ Do 0 (Deliver 39)
    ∷ Do 3 (Deliver 27) ∷ Do 3 (Deliver 28) ∷ Do 3 (Deliver 20) ∷ Do 5 (Deliver 31)
    ∷ Do 0 (Deliver 34) ∷ Do 4 (Deliver 40) ∷ Do 5 (Deliver 37) ∷ Do 3 Ack ∷ Do 5 (Deliver 41)
    ∷ Do 1 (Deliver 20) ∷ Do 5 (Deliver 39) ∷ Do 0 (Deliver 41) ∷ Do 5 (Deliver 38)
    ∷ Do 1 (Deliver 22) ∷ Do 3 (Deliver 36) ∷ Do 1 (Deliver 16) ∷ Do 4 (Deliver 37)
    ∷ Do 3 (Deliver 37) ∷ Do 1 (Deliver 42) ∷ Do 1 (Deliver 26) ∷ Do 1 (Deliver 38)
    ∷ Do 5 (Deliver 47) ∷ Do 4 (Deliver 48) ∷ []
