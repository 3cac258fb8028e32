-- What the program asks, and what it writes.
use Rattle.std.specs.Prelude.{[], ℕ, ◌++◌, ◌∷◌, ◌≡◌, Bool, List, None, Option, codes, drop, false, if◌then◌else◌}
use Rattle.std.specs.Fmt.{decimal}
use Rattle.std.specs.List.{flat_map, fold}
use Rattle.std.specs.Option.{option_map_or}
use Rattle.cw_archive.specs.Archived.{Archived, after_put, given_back, used_of}
use Rattle.cw_base.specs.declared.hash.Digest32.{Digest32}
use Rattle.cw_types.specs.Block.{Block}
use Rattle.cw_types.specs.Epochs.{Epochs}
use Rattle.cw_types.specs.Same.{same_block}
use Rattle.cw_types.specs.declared.message.Message.{Message}
use Rattle.cw_types.specs.declared.message.Message.TheVariants.{Shard}
use Rattle.cw_rules.specs.Report.{Entry, Report as Reported}
use Rattle.cw_rules.specs.Rules.{commit}
use Rattle.cw_rules.specs.World.{Sent}
use Rattle.cw_rules.specs.declared.travel.Travel.TheVariants as travel
use Rattle.hail_script.specs.Pieces.{number}
use Rattle.hail_world.specs.Reports.{IsReport, shown_report}
use Rattle.hail_report.specs.Text.{line}
use Rattle.node.specs.declared.way.Chunked.{Chunked}
use Rattle.hail_world.specs.declared.report.Report.{Report}
use Rattle.shards.specs.Kept.{chunk_rules}

-- the limit, where the one word is a number
abbrev pub limit_of : List (List ℕ) → Option ℕ
limit_of (word ∷ []) = number word
limit_of _ = None

-- ---- what the archive holds

-- the archive after a message: the chunk of a shard message is put, and no other message changes
-- anything
abbrev pub after_message : (List ℕ → Digest32) → Archived → Message → Archived
after_message hash a (Shard c x) = after_put hash a c x
after_message hash a _ = a

abbrev pub after_sent : (List ℕ → Digest32) → Archived → Sent → Archived
after_sent hash a s = after_message hash a s.message

abbrev pub after_entry : (List ℕ → Digest32) → Archived → Entry → Archived
after_entry hash a e = fold (after_sent hash) a e.sent

-- the archive of that limit after all messages of a report, in the order in which they were sent
abbrev pub filled : (List ℕ → Digest32) → ℕ → Reported → Archived
filled hash limit r =
    fold (after_entry hash) (record { limit = limit; kept = [] }) (r.opening ++ r.steps)

-- ---- what is written

-- the archive gives the link back for its commitment
abbrev pub is_given_back : (List ℕ → Digest32) → Epochs → Archived → Block → Bool
is_given_back hash epochs a b =
    option_map_or (λ found. same_block found b)
    (given_back hash (commit (chunk_rules hash epochs) b) a.kept) false

-- `archive H yes` or `archive H no`
unfoldable pub answer_line : ℕ → Bool → List ℕ
answer_line height given =
    line (codes "archive " ++ decimal height ++ (if given then codes " yes" else codes " no"))

-- `used U`
unfoldable pub used_line : ℕ → List ℕ
used_line used = line (codes "used " ++ decimal used)

abbrev pub link_line : (List ℕ → Digest32) → Epochs → Archived → Block → List ℕ
link_line hash epochs a b = answer_line b.height (is_given_back hash epochs a b)

-- a line for each link above genesis, and how many bytes the archive holds
abbrev pub archive_text : (List ℕ → Digest32) → Epochs → Archived → List Block → List ℕ
archive_text hash epochs a chain =
    flat_map (link_line hash epochs a) (drop 1 chain) ++ used_line (used_of a.kept)

-- `usage: hail_archive`
abbrev pub usage_line : List ℕ
usage_line = line (codes "usage: hail_archive")

-- What is handed back and written where all goes well: the report of the script's run, the archive
-- that its messages fill, and the lines of what that archive gives back.
pub record IsDone {H : Type 0} (hash : List ℕ → Digest32) (limit : ℕ) (text : List ℕ)
    (done : Report H Chunked × Archived) (due : List ℕ) : Type 0 where
  pub report : IsReport travel.Chunked hash text done.0
  pub archive : done.1 ≡ filled hash limit (shown_report done.0)
  pub lines : due ≡ archive_text hash report.script.committees done.1 done.0.chain
