use Rattle.std.proofs.Common.{map}
use Rattle.marshal.specs.Frames.{frame_bytes}
use Rattle.member_runs.proofs.Starts.{start_leaves, start_rests}
use Rattle.member_runs.proofs.TurnFiles.{crash_leaves, some_turns, turn_left, turns_leave, turns_rest}
use Rattle.member_runs.proofs.laws.file_laws.Goals as goal

pub returns-clause-one : goal.returns-clause-one
returns-clause-one c r id m t file left settled writable leaves image is =
    turn_left r id m t file left settled writable leaves image is

pub returns-clause-stopped : goal.returns-clause-stopped
returns-clause-stopped c r id m turns file left settled writable leaves image is =
    some_turns r id m turns image writable
    (turns_leave r id m turns file settled writable image (leaves.images image is))

pub returns-clause-settled : goal.returns-clause-settled
returns-clause-settled c r id m turns file settled writable =
    turns_rest r id m turns file settled writable

pub returns-clause-start_stopped : goal.returns-clause-start_stopped
returns-clause-start_stopped c frames file found image left =
    start_leaves frames file found image left

pub returns-clause-started : goal.returns-clause-started
returns-clause-started c frames file bytes found =
    start_rests (map frame_bytes frames) file bytes found

pub returns-clause-crashed : goal.returns-clause-crashed
returns-clause-crashed c file calls image may bytes = crash_leaves file calls image may bytes
