-- What a picture tells of a message: its letters, and the class of its colour.
use Rattle.std.specs.Prelude.{ℕ, ◌++◌, List, codes, Bool, true, false}
use Rattle.std.specs.Fmt.{decimal}
use Rattle.cw_types.specs.declared.message.Message.{Message}
use Rattle.cw_types.specs.declared.message.Message.TheVariants as message
use Rattle.cw_types.specs.declared.vote.Vote.{Vote}
use Rattle.cw_types.specs.declared.vote.Vote.TheVariants.{Notarize, Nullify, Finalize}
use Rattle.cw_rules.specs.World.{Sent}
use Rattle.hail_script.specs.Views.{view_text}
use Rattle.run_picture.specs.declared.told.Said.{Said}
use Rattle.run_picture.specs.declared.told.Says.{Says}
use Rattle.run_picture.specs.declared.told.Says.TheVariants.{Shard, Ballot, Cert, Ask, AskHeight, Whole, Junk}

-- what a message says
abbrev pub says_of : Message → Says
says_of (message.Shard commitment chunk) = Shard
says_of (message.Vote signer vote) = Ballot vote
says_of (message.Cert cert) = Cert cert.vote
says_of (message.Ask from commitment) = Ask
says_of (message.AskHeight from height) = AskHeight height
says_of (message.Block block) = Whole block.height
says_of (message.Junk bytes) = Junk

-- what is told of a message that was sent
abbrev pub said_of : Sent → Said
said_of s = record { to = s.to; says = says_of s.message }

-- `N`, `X` or `F`, and the view
unfoldable pub vote_letters : Vote → List ℕ
vote_letters (Notarize p) = codes "N" ++ view_text p.epoch p.view
vote_letters (Nullify epoch view) = codes "X" ++ view_text epoch view
vote_letters (Finalize p) = codes "F" ++ view_text p.epoch p.view

-- a message in a few letters; those of a certificate stand in brackets
unfoldable pub letters : Says → List ℕ
letters Shard = codes "S"
letters (Ballot vote) = vote_letters vote
letters (Cert vote) = codes "[" ++ vote_letters vote ++ codes "]"
letters Ask = codes "ask"
letters (AskHeight height) = codes "ask" ++ decimal height
letters (Whole height) = codes "B" ++ decimal height
letters Junk = codes "junk"

-- the class of a vote
abbrev pub vote_class : Vote → List ℕ
vote_class (Notarize p) = codes "n"
vote_class (Nullify epoch view) = codes "x"
vote_class (Finalize p) = codes "f"

-- the class of a message; that of a certificate or a whole block is heavy too
abbrev pub class_of : Says → List ℕ
class_of Shard = codes "b"
class_of (Ballot vote) = vote_class vote
class_of (Cert (Notarize p)) = codes "n c"
class_of (Cert (Nullify epoch view)) = codes "x c"
class_of (Cert (Finalize p)) = codes "f c"
class_of Ask = codes "a"
class_of (AskHeight height) = codes "a"
class_of (Whole height) = codes "b c"
class_of Junk = codes "j"

-- a finalization
abbrev pub is_finalization : Says → Bool
is_finalization (Cert (Finalize p)) = true
is_finalization _ = false
