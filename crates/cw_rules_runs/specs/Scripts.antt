-- Random scripts without faulty members: an independent program computed what they send and leave.
use Rattle.std.specs.Prelude.{List, [], ◌∷◌, Some}
use Rattle.cw_types.specs.Block.{Block}
use Rattle.cw_rules.specs.Rules.{Rules, commit, digest, genesis, genesis_commitment}
use Rattle.cw_rules.specs.World.{Line, Do, Cut, Restart, Propose, Timeout, Deliver, Ack, Prune, Floor, Hint}
use Rattle.cw_rules_runs.specs.Toy.{toy_block, toy_in}

-- ---- a restart sends the last vote again

-- four members, four committees of four for epochs of one height each, at most two blocks pending
abbrev pub vote_again_cluster : List Block → Rules
vote_again_cluster =
    toy_in (record {
      total = 4;
      span = Some 1;
      lists =
          (0 ∷ 1 ∷ 2 ∷ 3 ∷ []) ∷ (0 ∷ 1 ∷ 2 ∷ 3 ∷ []) ∷ (0 ∷ 1 ∷ 2 ∷ 3 ∷ []) ∷ (0 ∷ 1 ∷ 2 ∷ 3 ∷ [])
          ∷ [];
    }) 2

-- the block of height 1, of view 2 in epoch 0
abbrev pub vote_again_block_0 : Block
vote_again_block_0 =
    let r = vote_again_cluster [] in
    toy_block 0 2 2 0 (genesis_commitment r) (digest r (genesis r)) 1 (101 ∷ [])

-- the block of height 2, of view 1 in epoch 1
abbrev pub vote_again_block_1 : Block
vote_again_block_1 =
    let r = vote_again_cluster [] in
    toy_block 1 1 1 0 (commit r vote_again_block_0) (digest r vote_again_block_0) 2 (103 ∷ [])

-- the rules over that cluster, which read these blocks
abbrev pub vote_again_rules : Rules
vote_again_rules = vote_again_cluster (vote_again_block_0 ∷ vote_again_block_1 ∷ [])

-- member 2 is stopped, restarts and sends its vote to nullify again; member 0 asks for the first
-- block and is answered; then the second epoch begins
abbrev pub vote_again_script : List Line
vote_again_script =
    Do 0 (Timeout 1) ∷ Do 1 (Timeout 1) ∷ Do 2 (Timeout 1) ∷ Do 3 (Timeout 1) ∷ Do 2 (Deliver 1)
    ∷ Do 1 (Deliver 0) ∷ Do 1 (Deliver 3) ∷ Cut 3 0 0 2 (Deliver 2) ∷ Do 3 (Deliver 0)
    ∷ Do 3 (Deliver 4) ∷ Do 0 (Prune 1) ∷ Do 0 (Deliver 0) ∷ Do 0 (Deliver 3) ∷ Do 0 (Deliver 4)
    ∷ Do 3 (Deliver 5) ∷ Restart 2 ∷ Do 2 (Deliver 5) ∷ Do 2 (Propose (101 ∷ []))
    ∷ Do 2 (Deliver 13) ∷ Do 1 (Deliver 13) ∷ Do 2 (Deliver 11) ∷ Do 1 (Deliver 14) ∷ Do 1 Ack
    ∷ Do 2 (Deliver 10) ∷ Do 3 (Deliver 13) ∷ Do 0 (Floor 4) ∷ Do 0 (Deliver 13) ∷ Do 3 (Deliver 14)
    ∷ Do 3 (Deliver 12) ∷ Do 0 (Deliver 9) ∷ Do 1 (Deliver 15) ∷ Do 0 (Deliver 15)
    ∷ Do 2 (Deliver 20) ∷ Do 1 (Deliver 10) ∷ Do 0 (Deliver 21) ∷ Do 2 (Deliver 15)
    ∷ Do 3 (Deliver 22) ∷ Do 0 (Deliver 20) ∷ Do 1 (Deliver 0) ∷ Do 3 (Propose (102 ∷ []))
    ∷ Do 3 (Deliver 27) ∷ Do 2 (Deliver 23) ∷ Do 1 (Deliver 20) ∷ Do 0 (Deliver 16)
    ∷ Do 0 (Deliver 24) ∷ Do 0 (Deliver 26) ∷ Do 0 (Deliver 28) ∷ Do 1 (Deliver 14)
    ∷ Do 3 (Deliver 26) ∷ Do 2 (Deliver 24) ∷ Do 2 (Deliver 28) ∷ Do 3 Ack ∷ Do 1 (Deliver 26)
    ∷ Do 0 (Deliver 32) ∷ Do 3 (Deliver 24) ∷ Do 2 (Deliver 30) ∷ Do 0 (Deliver 30)
    ∷ Do 1 (Deliver 24) ∷ Do 1 (Deliver 31) ∷ Do 1 (Deliver 34) ∷ Do 1 (Propose (103 ∷ []))
    ∷ Do 1 (Deliver 30) ∷ Do 2 (Deliver 40) ∷ Do 3 (Deliver 30) ∷ Do 1 (Deliver 39)
    ∷ Do 1 (Deliver 42) ∷ Do 0 (Deliver 42) ∷ Do 0 (Deliver 43) ∷ Do 3 (Deliver 44)
    ∷ Do 3 (Deliver 31) ∷ Do 2 (Deliver 44) ∷ Do 3 (Deliver 43) ∷ Do 0 (Deliver 39)
    ∷ Do 0 (Deliver 38) ∷ Do 1 (Deliver 45) ∷ Do 0 (Deliver 45) ∷ Do 3 (Deliver 42)
    ∷ Do 2 (Deliver 45) ∷ Do 2 (Deliver 42) ∷ Do 3 (Deliver 41) ∷ Do 2 (Propose (104 ∷ []))
    ∷ Do 2 (Deliver 49) ∷ Do 3 (Deliver 49) ∷ Do 0 (Floor 37) ∷ Do 3 (Deliver 48) ∷ []

-- ---- a block is proposed again in each epoch

-- four members, two committees of four for epochs of one height each, at most two blocks pending
abbrev pub again_twice_cluster : List Block → Rules
again_twice_cluster =
    toy_in (record {
      total = 4;
      span = Some 1;
      lists = (0 ∷ 1 ∷ 2 ∷ 3 ∷ []) ∷ (0 ∷ 1 ∷ 2 ∷ 3 ∷ []) ∷ [];
    }) 2

-- the block of height 1, of view 1 in epoch 0
abbrev pub again_twice_block_0 : Block
again_twice_block_0 =
    let r = again_twice_cluster [] in
    toy_block 0 1 1 0 (genesis_commitment r) (digest r (genesis r)) 1 (101 ∷ [])

-- the block of height 2, of view 1 in epoch 1
abbrev pub again_twice_block_1 : Block
again_twice_block_1 =
    let r = again_twice_cluster [] in
    toy_block 1 1 1 0 (commit r again_twice_block_0) (digest r again_twice_block_0) 2 (103 ∷ [])

-- the rules over that cluster, which read these blocks
abbrev pub again_twice_rules : Rules
again_twice_rules = again_twice_cluster (again_twice_block_0 ∷ again_twice_block_1 ∷ [])

-- in each of two epochs of one height the block is finalized and proposed again in the next view
abbrev pub again_twice_script : List Line
again_twice_script =
    Do 1 (Propose (101 ∷ [])) ∷ Do 3 (Deliver 3) ∷ Do 3 (Deliver 1) ∷ Do 2 (Deliver 1)
    ∷ Do 3 (Deliver 4) ∷ Do 0 (Deliver 5) ∷ Do 3 (Deliver 6) ∷ Do 0 (Deliver 6) ∷ Do 0 (Deliver 1)
    ∷ Do 2 (Deliver 2) ∷ Do 2 (Deliver 4) ∷ Do 1 (Deliver 6) ∷ Do 2 (Deliver 6) ∷ Do 0 (Deliver 8)
    ∷ Do 0 (Deliver 0) ∷ Do 3 (Deliver 4) ∷ Do 0 (Deliver 9) ∷ Do 2 (Propose (102 ∷ []))
    ∷ Do 1 (Deliver 8) ∷ Do 1 (Deliver 1) ∷ Do 0 (Deliver 14) ∷ Do 0 (Deliver 10)
    ∷ Do 1 (Deliver 13) ∷ Do 3 (Deliver 12) ∷ Do 0 (Deliver 0) ∷ Do 0 (Deliver 13)
    ∷ Do 0 (Deliver 20) ∷ Do 3 (Deliver 10) ∷ Do 2 (Deliver 16) ∷ Do 3 (Deliver 13)
    ∷ Do 0 (Deliver 18) ∷ Do 3 (Deliver 16) ∷ Do 3 (Deliver 14) ∷ Do 1 (Deliver 21)
    ∷ Do 1 (Propose (103 ∷ [])) ∷ Do 2 (Deliver 14) ∷ Do 0 (Deliver 25) ∷ Do 2 Ack
    ∷ Do 3 (Deliver 18) ∷ Do 3 Ack ∷ Do 2 (Deliver 13) ∷ Do 1 (Deliver 18) ∷ Do 2 (Deliver 18)
    ∷ Do 3 (Deliver 19) ∷ Do 3 (Floor 29) ∷ Do 2 (Deliver 25) ∷ Do 2 (Deliver 28)
    ∷ Do 1 (Deliver 25) ∷ Do 2 (Deliver 26) ∷ Do 0 (Deliver 19) ∷ Do 3 (Deliver 25)
    ∷ Do 3 (Deliver 27) ∷ Do 0 (Deliver 28) ∷ Do 1 (Deliver 14) ∷ Do 3 (Deliver 12)
    ∷ Do 1 (Deliver 28) ∷ Do 2 (Deliver 31) ∷ Do 0 (Deliver 23) ∷ Do 3 (Deliver 31)
    ∷ Do 3 (Deliver 28) ∷ Do 2 (Deliver 35) ∷ Do 2 (Prune 0) ∷ Do 2 (Deliver 36) ∷ Do 2 (Deliver 38)
    ∷ Do 2 (Propose (104 ∷ [])) ∷ Do 3 (Deliver 39) ∷ Do 3 (Deliver 36) ∷ Do 1 (Deliver 31)
    ∷ Do 1 (Deliver 34) ∷ Do 0 (Deliver 32) ∷ Do 2 (Deliver 42) ∷ Do 3 (Deliver 40)
    ∷ Do 0 (Deliver 24) ∷ Do 3 (Deliver 38) ∷ Do 3 Ack ∷ Do 3 (Deliver 43) ∷ Do 2 (Deliver 39)
    ∷ Do 1 (Deliver 39) ∷ Do 0 (Deliver 31) ∷ Do 0 (Prune 1) ∷ Do 3 Ack ∷ Do 0 (Deliver 36)
    ∷ Do 2 (Deliver 37) ∷ Do 3 Ack ∷ Do 0 (Deliver 39) ∷ Do 3 (Deliver 19) ∷ Do 3 (Deliver 47) ∷ []

-- ---- a committee of four is followed by one of six

-- six members, committees of four, six, four and five for epochs of one height each, any number of
-- blocks pending
abbrev pub four_to_six_cluster : List Block → Rules
four_to_six_cluster =
    toy_in (record {
      total = 6;
      span = Some 1;
      lists =
          (1 ∷ 2 ∷ 4 ∷ 5 ∷ []) ∷ (0 ∷ 1 ∷ 2 ∷ 3 ∷ 4 ∷ 5 ∷ []) ∷ (1 ∷ 2 ∷ 4 ∷ 5 ∷ [])
          ∷ (0 ∷ 1 ∷ 2 ∷ 4 ∷ 5 ∷ []) ∷ [];
    }) 18446744073709551615

-- the block of height 1, of view 1 in epoch 0
abbrev pub four_to_six_block_0 : Block
four_to_six_block_0 =
    let r = four_to_six_cluster [] in
    toy_block 0 1 2 0 (genesis_commitment r) (digest r (genesis r)) 1 (101 ∷ [])

-- the block of height 2, of view 1 in epoch 1
abbrev pub four_to_six_block_1 : Block
four_to_six_block_1 =
    let r = four_to_six_cluster [] in
    toy_block 1 1 1 0 (commit r four_to_six_block_0) (digest r four_to_six_block_0) 2 (102 ∷ [])

-- the rules over that cluster, which read these blocks
abbrev pub four_to_six_rules : Rules
four_to_six_rules = four_to_six_cluster (four_to_six_block_0 ∷ four_to_six_block_1 ∷ [])

-- a block is finalized by four members, and the next epoch's leader cuts its block for six
abbrev pub four_to_six_script : List Line
four_to_six_script =
    Do 2 (Propose (101 ∷ [])) ∷ Do 0 Ack ∷ Do 1 (Deliver 0) ∷ Do 4 (Deliver 4) ∷ Do 5 (Deliver 3)
    ∷ Do 5 (Deliver 1) ∷ Do 1 (Deliver 6) ∷ Do 0 (Deliver 6) ∷ Do 2 (Deliver 4) ∷ Do 0 (Deliver 5)
    ∷ Do 4 (Deliver 6) ∷ Do 2 (Deliver 1) ∷ Do 1 (Deliver 4) ∷ Do 5 (Deliver 4) ∷ Do 3 (Deliver 1)
    ∷ Do 5 (Deliver 9) ∷ Do 5 (Deliver 8) ∷ Do 4 (Deliver 2) ∷ Do 5 (Deliver 6) ∷ Do 2 (Deliver 7)
    ∷ Do 3 (Deliver 5) ∷ Do 3 (Deliver 4) ∷ Do 3 (Deliver 10) ∷ Do 2 (Deliver 8) ∷ Do 2 (Deliver 9)
    ∷ Do 4 (Deliver 10) ∷ Do 4 (Deliver 9) ∷ Do 0 (Deliver 11) ∷ Do 5 (Deliver 11)
    ∷ Do 2 (Deliver 11) ∷ Do 5 (Deliver 18) ∷ Do 1 (Deliver 11) ∷ Do 2 (Deliver 16)
    ∷ Do 0 (Deliver 9) ∷ Do 0 (Prune 0) ∷ Do 0 Ack ∷ Do 0 (Deliver 17) ∷ Do 5 (Deliver 16)
    ∷ Do 2 (Deliver 18) ∷ Do 3 (Deliver 11) ∷ Do 2 (Deliver 13) ∷ Do 1 (Deliver 10)
    ∷ Do 3 (Deliver 21) ∷ Do 4 (Deliver 14) ∷ Do 4 (Deliver 20) ∷ Do 2 (Deliver 25)
    ∷ Do 0 (Deliver 16) ∷ Do 0 (Deliver 20) ∷ Do 5 (Deliver 22) ∷ Do 1 (Deliver 21)
    ∷ Do 2 (Deliver 27) ∷ Do 4 (Deliver 21) ∷ Do 1 (Deliver 7) ∷ Do 2 (Deliver 6) ∷ Do 3 (Hint 4)
    ∷ Do 1 (Deliver 16) ∷ Do 3 Ack ∷ Do 5 (Deliver 26) ∷ Do 4 (Deliver 22) ∷ Do 2 Ack
    ∷ Do 1 (Deliver 18) ∷ Do 2 (Deliver 28) ∷ Do 0 (Deliver 19) ∷ Do 1 (Propose (102 ∷ []))
    ∷ Do 4 (Deliver 30) ∷ Do 4 (Deliver 33) ∷ Do 1 (Deliver 30) ∷ Do 1 (Deliver 35)
    ∷ Do 0 (Deliver 29) ∷ Do 0 (Deliver 30) ∷ Do 4 (Deliver 35) ∷ Do 2 (Deliver 35)
    ∷ Do 2 (Deliver 37) ∷ Do 5 (Deliver 34) ∷ Do 3 (Deliver 32) ∷ Do 2 (Deliver 41)
    ∷ Do 3 (Deliver 30) ∷ Do 2 (Deliver 31) ∷ Do 2 (Deliver 42) ∷ Do 3 (Deliver 42)
    ∷ Do 5 (Deliver 35) ∷ Do 0 (Deliver 35) ∷ Do 3 (Deliver 36) ∷ Do 5 (Deliver 36)
    ∷ Do 1 (Deliver 45) ∷ []

-- ---- an acknowledged block is not handed out again

-- four members, two committees of four for epochs of two heights each, at most three blocks pending
abbrev pub acked_cluster : List Block → Rules
acked_cluster =
    toy_in (record {
      total = 4;
      span = Some 2;
      lists = (0 ∷ 1 ∷ 2 ∷ 3 ∷ []) ∷ (0 ∷ 1 ∷ 2 ∷ 3 ∷ []) ∷ [];
    }) 3

-- the block of height 1, of view 1 in epoch 0
abbrev pub acked_block_0 : Block
acked_block_0 =
    let r = acked_cluster [] in
    toy_block 0 1 1 0 (genesis_commitment r) (digest r (genesis r)) 1 (101 ∷ [])

-- the block of height 2, of view 2 in epoch 0
abbrev pub acked_block_1 : Block
acked_block_1 =
    let r = acked_cluster [] in
    toy_block 0 2 2 1 (commit r acked_block_0) (digest r acked_block_0) 2 (102 ∷ [])

-- the block of height 3, of view 1 in epoch 1
abbrev pub acked_block_2 : Block
acked_block_2 =
    let r = acked_cluster [] in
    toy_block 1 1 1 0 (commit r acked_block_1) (digest r acked_block_1) 3 (104 ∷ [])

-- the rules over that cluster, which read these blocks
abbrev pub acked_rules : Rules
acked_rules = acked_cluster (acked_block_0 ∷ acked_block_1 ∷ acked_block_2 ∷ [])

-- two blocks are finalized and the second proposed again; member 2 is cut as it acknowledges
-- genesis, keeps that note, and after its restart is handed the blocks above alone
abbrev pub acked_script : List Line
acked_script =
    Do 1 (Propose (101 ∷ [])) ∷ Do 3 (Deliver 3) ∷ Do 3 (Deliver 1) ∷ Do 0 (Deliver 0)
    ∷ Do 0 (Deliver 1) ∷ Do 1 (Deliver 1) ∷ Do 1 (Deliver 4) ∷ Do 2 (Deliver 5) ∷ Do 2 (Deliver 4)
    ∷ Do 2 (Deliver 2) ∷ Do 1 (Deliver 8) ∷ Do 0 (Deliver 4) ∷ Do 1 (Deliver 10) ∷ Do 2 (Deliver 8)
    ∷ Do 1 (Deliver 3) ∷ Do 2 (Deliver 10) ∷ Do 3 (Deliver 8) ∷ Do 2 (Propose (102 ∷ [])) ∷ Do 1 Ack
    ∷ Do 3 (Deliver 4) ∷ Do 3 (Deliver 22) ∷ Do 2 (Deliver 9) ∷ Do 1 (Deliver 13)
    ∷ Do 2 (Deliver 17) ∷ Do 1 (Deliver 2) ∷ Do 3 (Deliver 17) ∷ Do 1 Ack ∷ Do 1 (Deliver 16)
    ∷ Do 1 (Deliver 12) ∷ Do 0 (Deliver 10) ∷ Do 0 (Deliver 11) ∷ Do 0 (Deliver 12)
    ∷ Do 1 (Deliver 14) ∷ Do 2 (Deliver 12) ∷ Do 2 (Deliver 19) ∷ Do 0 (Deliver 15)
    ∷ Do 1 (Deliver 23) ∷ Do 3 (Deliver 12) ∷ Do 3 (Deliver 18) ∷ Do 2 (Deliver 26)
    ∷ Do 3 (Deliver 19) ∷ Do 0 (Deliver 28) ∷ Do 3 (Deliver 26) ∷ Do 0 (Deliver 14)
    ∷ Do 1 (Deliver 19) ∷ Do 1 (Deliver 22) ∷ Cut 4 227 1 2 Ack ∷ Do 1 (Deliver 25) ∷ Restart 2
    ∷ Do 2 (Deliver 30) ∷ Do 0 (Deliver 24) ∷ Do 0 (Deliver 19) ∷ Do 1 (Deliver 30)
    ∷ Do 1 (Deliver 32) ∷ Do 3 (Deliver 36) ∷ Do 1 (Deliver 36) ∷ Do 3 (Deliver 35)
    ∷ Do 2 (Deliver 35) ∷ Do 1 (Deliver 41) ∷ Do 0 (Deliver 30) ∷ Do 3 (Propose (103 ∷ []))
    ∷ Do 0 (Deliver 44) ∷ Do 0 (Deliver 26) ∷ Do 2 (Deliver 41) ∷ Do 3 (Deliver 23)
    ∷ Do 3 (Deliver 41) ∷ Do 0 (Deliver 39) ∷ Do 2 (Deliver 37) ∷ Do 3 (Deliver 39)
    ∷ Do 0 (Deliver 37) ∷ Do 2 (Deliver 39) ∷ Do 3 (Deliver 46) ∷ Do 2 (Deliver 45)
    ∷ Do 1 (Deliver 39) ∷ Do 1 (Deliver 45) ∷ Do 2 (Deliver 40) ∷ Do 3 Ack ∷ Do 3 (Deliver 44)
    ∷ Do 2 (Deliver 44) ∷ Do 1 (Propose (104 ∷ [])) ∷ Do 1 (Deliver 43) ∷ Do 2 (Deliver 54)
    ∷ Do 2 (Deliver 47) ∷ Do 3 (Deliver 45) ∷ Do 3 (Deliver 53) ∷ Do 3 (Deliver 51)
    ∷ Do 0 (Deliver 51) ∷ []

-- ---- two blocks fill an epoch

-- four members, one committee of four for epochs of two heights each, any number of blocks pending
abbrev pub two_blocks_cluster : List Block → Rules
two_blocks_cluster =
    toy_in (record {
      total = 4;
      span = Some 2;
      lists = (0 ∷ 1 ∷ 2 ∷ 3 ∷ []) ∷ [];
    }) 18446744073709551615

-- the block of height 1, of view 1 in epoch 0
abbrev pub two_blocks_block_0 : Block
two_blocks_block_0 =
    let r = two_blocks_cluster [] in
    toy_block 0 1 1 0 (genesis_commitment r) (digest r (genesis r)) 1 (101 ∷ [])

-- the block of height 2, of view 2 in epoch 0
abbrev pub two_blocks_block_1 : Block
two_blocks_block_1 =
    let r = two_blocks_cluster [] in
    toy_block 0 2 2 1 (commit r two_blocks_block_0) (digest r two_blocks_block_0) 2 (102 ∷ [])

-- the block of height 3, of view 1 in epoch 1
abbrev pub two_blocks_block_2 : Block
two_blocks_block_2 =
    let r = two_blocks_cluster [] in
    toy_block 1 1 1 0 (commit r two_blocks_block_1) (digest r two_blocks_block_1) 3 (103 ∷ [])

-- the rules over that cluster, which read these blocks
abbrev pub two_blocks_rules : Rules
two_blocks_rules =
    two_blocks_cluster (two_blocks_block_0 ∷ two_blocks_block_1 ∷ two_blocks_block_2 ∷ [])

-- two blocks fill the epoch, the second is proposed again, and the next epoch's leader proposes
-- over it; a floor with the greatest number names no message
abbrev pub two_blocks_script : List Line
two_blocks_script =
    Do 1 (Propose (101 ∷ [])) ∷ Do 2 (Deliver 2) ∷ Do 0 (Deliver 5) ∷ Do 3 (Deliver 5)
    ∷ Do 1 (Deliver 1) ∷ Do 2 (Deliver 5) ∷ Do 1 (Deliver 4) ∷ Do 3 (Deliver 3) ∷ Do 0 (Deliver 1)
    ∷ Do 2 (Deliver 1) ∷ Do 3 (Deliver 4) ∷ Do 1 (Deliver 8) ∷ Do 0 (Deliver 4) ∷ Do 3 (Deliver 8)
    ∷ Do 0 (Deliver 8) ∷ Do 0 (Deliver 0) ∷ Do 1 (Deliver 9) ∷ Do 3 (Deliver 14) ∷ Do 1 (Deliver 11)
    ∷ Do 3 (Deliver 11) ∷ Do 3 (Deliver 10) ∷ Do 2 (Deliver 11) ∷ Do 0 (Deliver 11)
    ∷ Do 1 (Deliver 14) ∷ Do 2 (Deliver 4) ∷ Do 2 (Deliver 16) ∷ Do 1 (Deliver 16)
    ∷ Do 2 (Deliver 8) ∷ Do 2 (Deliver 12) ∷ Do 0 (Deliver 16) ∷ Do 0 (Deliver 17)
    ∷ Do 0 (Deliver 23) ∷ Do 2 (Propose (102 ∷ [])) ∷ Do 1 (Deliver 26) ∷ Do 0 (Deliver 26)
    ∷ Do 3 (Floor 18446744073709551615) ∷ Do 2 (Deliver 28) ∷ Do 3 (Deliver 26) ∷ Do 0 (Deliver 28)
    ∷ Do 1 (Deliver 25) ∷ Do 3 Ack ∷ Do 1 (Deliver 28) ∷ Do 0 (Deliver 24) ∷ Do 1 (Deliver 30)
    ∷ Do 3 (Deliver 31) ∷ Do 3 (Deliver 32) ∷ Do 3 (Deliver 30) ∷ Do 2 (Deliver 30)
    ∷ Do 3 (Deliver 28) ∷ Do 2 (Prune 0) ∷ Do 1 (Deliver 31) ∷ Do 2 (Deliver 33) ∷ Do 1 (Deliver 37)
    ∷ Do 0 (Deliver 33) ∷ Do 2 (Deliver 36) ∷ Do 3 (Propose (101 ∷ [])) ∷ Do 2 (Deliver 34)
    ∷ Do 1 (Deliver 32) ∷ Do 2 (Deliver 26) ∷ Do 0 (Deliver 35) ∷ Do 1 (Deliver 38)
    ∷ Do 0 (Deliver 41) ∷ Do 0 (Deliver 38) ∷ Do 1 (Deliver 34) ∷ Do 0 (Deliver 37)
    ∷ Do 0 (Deliver 34) ∷ Do 3 (Deliver 27) ∷ Do 2 (Deliver 31) ∷ Do 0 (Deliver 39)
    ∷ Do 2 (Deliver 37) ∷ Do 3 (Deliver 38) ∷ Do 3 (Deliver 42) ∷ Do 3 (Deliver 41)
    ∷ Do 1 (Propose (103 ∷ [])) ∷ Do 0 Ack ∷ Do 2 (Deliver 44) ∷ Do 1 (Deliver 41)
    ∷ Do 2 (Deliver 41) ∷ Do 0 (Deliver 49) ∷ Do 1 (Deliver 44) ∷ Do 0 (Deliver 45)
    ∷ Do 2 (Deliver 54) ∷ Do 0 (Deliver 53) ∷ Do 1 (Deliver 50) ∷ Do 2 (Deliver 50)
    ∷ Do 2 (Deliver 53) ∷ Do 0 (Deliver 47) ∷ Do 1 (Deliver 55) ∷ []
