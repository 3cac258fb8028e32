-- The event lines of a text, as the lines of the rules.
use Rattle.std.specs.Prelude.{ℕ}
use Rattle.cw_rules.specs.World as rule
use Rattle.hail_script.specs.declared.raw.RawAsk.{RawAsk}
use Rattle.hail_script.specs.declared.raw.RawAsk.TheVariants as ask
use Rattle.hail_script.specs.declared.raw.RawFault.{RawFault}
use Rattle.hail_script.specs.declared.raw.RawFault.TheVariants as fault
use Rattle.hail_script.specs.declared.raw.RawLine.{RawLine}
use Rattle.hail_script.specs.declared.raw.RawLine.TheVariants as line

abbrev pub raw_ask_of : RawAsk → rule.Ask
raw_ask_of (ask.Propose payload) = rule.Propose payload
raw_ask_of (ask.Timeout view) = rule.Timeout view
raw_ask_of (ask.Deliver number) = rule.Deliver number
raw_ask_of ask.Ack = rule.Ack
raw_ask_of (ask.Prune height) = rule.Prune height
raw_ask_of (ask.Floor number) = rule.Floor number
raw_ask_of (ask.Hint height) = rule.Hint height

abbrev pub raw_fault_of : RawFault → rule.Fault
raw_fault_of fault.Silent = rule.Silent
raw_fault_of (fault.Offer view payload) = rule.Offer view payload
raw_fault_of (fault.Notarize number) = rule.Notarize_of number
raw_fault_of (fault.Finalize number) = rule.Finalize_of number
raw_fault_of (fault.Nullify view) = rule.Nullify_of view
raw_fault_of (fault.Raw bytes) = rule.Raw bytes

abbrev pub raw_line_of : RawLine → rule.Line
raw_line_of (line.Do member ask) = rule.Do member (raw_ask_of ask)
raw_line_of (line.Cut stop member ask) =
    rule.Cut stop.call stop.cut stop.fill member (raw_ask_of ask)
raw_line_of (line.Restart member) = rule.Restart member
raw_line_of (line.Faulty member fault) = rule.Faulty member (raw_fault_of fault)

-- a member, and what is asked of it
abbrev pub raw_asked_of : ℕ × RawAsk → ℕ × rule.Ask
raw_asked_of (member, ask) = (member, raw_ask_of ask)
