-- A replica of the ledger, as every contract sees it.
use Rattle.std.specs.Prelude.{ℕ, ◌++◌, ◌∷◌, ◌==◌, ◌-◌, [], Bool, false, List, length, map, Option, Some, None, if◌then◌else◌, nat_lt}
use Rattle.std.specs.List.{enumerate_from}
use Rattle.cw_base.specs.Bytes.{be64}
use Rattle.cw_types.specs.Block.{Block}
use Rattle.node_disk.specs.Log.{LogState}
use Rattle.cw_ledger.specs.declared.replica.Applied.{Applied}
use Rattle.cw_ledger.specs.declared.replica.Applied.TheVariants.{Done, Known, Gap}

-- What a replica holds: the payloads of the blocks that it applied, of the heights from 0 on; and
-- of its log the place of the last gate, whether an earlier call left the disk in doubt, and the
-- disk.
pub record Ledger (D : Type 0) : Type 0 where
  pub payloads : List (List ℕ)
  pub gate : ℕ
  pub failed : Bool
  pub disk : D

-- the frame of a block: eight bytes of its height, the high byte first, and its payload
abbrev pub frame_of : ℕ × List ℕ → List ℕ
frame_of at = be64 at.0 ++ at.1

-- the frames of payloads, the first of height 0
abbrev pub payload_frames : List (List ℕ) → List (List ℕ)
payload_frames payloads = map frame_of (enumerate_from 0 payloads)

-- the log of a replica: the frames of its payloads, the place of the last gate, whether it failed,
-- and the disk
abbrev pub replica_log : {D : Type 0} → Ledger D → LogState D
replica_log s = record
    { frames = payload_frames s.payloads; gate = s.gate; failed = s.failed; disk = s.disk }

-- a replica that found these payloads, with a log that ends at this gate of this disk
abbrev pub replica_started : {D : Type 0} → List (List ℕ) → ℕ → D → Ledger D
replica_started payloads gate disk =
    record { payloads = payloads; gate = gate; failed = false; disk = disk }

-- the same replica over another log
abbrev pub replica_over : {D : Type 0} → Ledger D → Ledger D → Ledger D
replica_over s log = record s { gate = log.gate; failed = log.failed; disk = log.disk }

-- the height that was applied last, where so many blocks were
abbrev pub last_applied : ℕ → Option ℕ
last_applied count = if count == 0 then None else Some (count - 1)

-- the answer to a block of this height, where the next one is of that: known below it, a gap above
-- it, else done
abbrev pub answer_to : ℕ → ℕ → Applied
answer_to next height =
    if nat_lt height next then Known else (if nat_lt next height then Gap next else Done)

-- the payloads after a block: one more, where its height is the next
abbrev pub applied : List (List ℕ) → Block → List (List ℕ)
applied payloads block =
    if block.height == length payloads then payloads ++ block.payload ∷ [] else payloads

-- the frame that is written for a block: none, unless its height is the next
abbrev pub written_for : List (List ℕ) → Block → List ℕ
written_for payloads block =
    if block.height == length payloads then frame_of (length payloads, block.payload) else []
