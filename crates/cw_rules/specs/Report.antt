-- What is reported of a run: an entry for each start and each line, what each member came to, and
-- the one chain.
use Rattle.std.specs.Prelude.{[], ℕ, ◌++◌, ◌+◌, ◌∷◌, Bool, List, None, Option, Some, filter_map, flat_map, if◌then◌else◌, length, nat_lt, option_and_then, option_map}
use Rattle.std.specs.List.{enumerate_from, list_any, range_with_len}
use Rattle.std.specs.Option.{option_map_or}
use Rattle.cw_types.specs.Block.{Block}
use Rattle.cw_types.specs.declared.event.Handed.{Handed}
use Rattle.cw_types.specs.declared.event.Out.{Out}
use Rattle.cw_rules.specs.Chains.{block_under, chain_to}
use Rattle.cw_rules.specs.Held.{last_ack}
use Rattle.cw_rules.specs.Rules.{Rules}
use Rattle.cw_rules.specs.Step.{Member, Stepped, member_notes, start}
use Rattle.cw_rules.specs.World.{Faulty, Line, Restart, Sent, World, done_by, fault_sends, faults, happens, line_member, opening, sent_now}

-- what a line brought about. Its line is 0 in the opening, and it names no member for a faulty line
pub record Entry : Type 0 where
  pub line : ℕ
  pub member : Option ℕ
  -- how many notes a restart found
  pub found : Option ℕ
  pub sent : List Sent
  pub handed : List Handed

-- what an honest member came to: whether it is live, the height that it acknowledged last, and how
-- many notes it has
pub record Acked : Type 0 where
  pub member : ℕ
  pub live : Bool
  pub height : Option ℕ
  pub notes : ℕ

-- what is reported of a run
pub record Report : Type 0 where
  pub opening : List Entry
  pub steps : List Entry
  pub acked : List Acked
  pub chain : List Block

-- the member that an entry of the line names
abbrev pub named_by : Line → Option ℕ
named_by (Faulty i fault) = None
named_by line = Some (line_member line)

-- how many notes a restart found, where it started its member
abbrev pub found_by : World → Line → Stepped → Option ℕ
found_by w (Restart i) done = Some (length (member_notes done.member))
found_by w _ done = None

-- what a line sends
abbrev pub sent_by : Rules → World → Line → List Out
sent_by r w (Faulty i fault) = fault_sends r w i fault
sent_by r w line = option_map_or (λ done. done.sent) (done_by r w line) []

-- the entry of a line: empty where it does nothing
abbrev pub entry_of : Rules → World → ℕ → Line → Entry
entry_of r w number line = record {
  line = number;
  member = named_by line;
  found = option_and_then (found_by w line) (done_by r w line);
  sent = sent_now w (line_member line) (sent_by r w line);
  handed = option_map_or (λ done. done.handed) (done_by r w line) [];
}

-- the line of the first event: a header is line 1, and one line more for each committee that it
-- lists
abbrev pub first_line : Rules → ℕ
first_line r = option_map_or (λ span. 2 + length r.epochs.lists) r.epochs.span 2

-- the entries of lines, one after another
abbrev pub entries_from : Rules → World → ℕ → List Line → List Entry
entries_from r w number [] = []
entries_from r w number (line ∷ lines) =
    entry_of r w number line ∷ entries_from r (happens r w line) (number + 1) lines

-- the entry of a member's first start, on an empty disk, where no line makes it faulty
abbrev pub opening_entry : Rules → List Line → ℕ → Option Entry
opening_entry r script i =
    if list_any (faults i) script then None
    else Some (record {
      line = 0;
      member = Some i;
      found = None;
      sent = [];
      handed = (start r i []).handed;
    })

-- an entry for each honest member, by number
abbrev pub opening_entries : Rules → List Line → List Entry
opening_entries r script = filter_map (opening_entry r script) (range_with_len 0 r.epochs.total)

-- the entries of the opening, and then one for each line
abbrev pub all_entries : Rules → List Line → List Entry
all_entries r script =
    opening_entries r script ++ entries_from r (opening r script) (first_line r) script

-- all that a script hands out
abbrev pub handed_in : Rules → List Line → List Handed
handed_in r script = flat_map (λ e. e.handed) (all_entries r script)

-- the first of the greatest height
abbrev pub highest : List Handed → Option Handed
highest [] = None
highest (x ∷ xs) =
    Some (option_map_or (λ y. if nat_lt x.height y.height then y else x) (highest xs) x)

-- the chain up to the block that is handed out at the greatest height
abbrev pub chain_of : Rules → List Line → World → List Block
chain_of r script w =
    option_map_or (chain_to r w)
    (option_and_then (λ x. block_under r w x.commitment) (highest (handed_in r script))) []

-- what an honest member came to
abbrev pub acked_at : ℕ × Option Member → Option Acked
acked_at at =
    option_map (λ m. record {
      member = at.0;
      live = m.live;
      height = last_ack (member_notes m);
      notes = length (member_notes m);
    }) at.1

-- the report of a script that ends in that world
abbrev pub report_of : Rules → List Line → World → Report
report_of r script w = record {
  opening = opening_entries r script;
  steps = entries_from r (opening r script) (first_line r) script;
  acked = filter_map acked_at (enumerate_from 0 w.members);
  chain = chain_of r script w;
}
