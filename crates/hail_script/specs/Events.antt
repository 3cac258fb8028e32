-- The kinds of event lines of the code, as the lines of the rules.
use Rattle.cw_rules.specs.World as rule
use Rattle.hail_script.specs.declared.event.AskKind.{AskKind}
use Rattle.hail_script.specs.declared.event.AskKind.TheVariants as ask
use Rattle.hail_script.specs.declared.event.FaultKind.{FaultKind}
use Rattle.hail_script.specs.declared.event.FaultKind.TheVariants as fault
use Rattle.hail_script.specs.declared.event.LineKind.{LineKind}
use Rattle.hail_script.specs.declared.event.LineKind.TheVariants as line

abbrev pub ask_of : AskKind → rule.Ask
ask_of (ask.Propose payload) = rule.Propose payload
ask_of (ask.Timeout view) = rule.Timeout view
ask_of (ask.Deliver number) = rule.Deliver number
ask_of ask.Ack = rule.Ack
ask_of (ask.Prune height) = rule.Prune height
ask_of (ask.Floor number) = rule.Floor number
ask_of (ask.Hint height) = rule.Hint height

abbrev pub fault_of : FaultKind → rule.Fault
fault_of fault.Silent = rule.Silent
fault_of (fault.Offer view payload) = rule.Offer view payload
fault_of (fault.Notarize number) = rule.Notarize_of number
fault_of (fault.Finalize number) = rule.Finalize_of number
fault_of (fault.Nullify view) = rule.Nullify_of view
fault_of (fault.Raw bytes) = rule.Raw bytes

abbrev pub line_of : LineKind → rule.Line
line_of (line.Do member ask) = rule.Do member ask
line_of (line.Cut stop member ask) = rule.Cut stop.call stop.cut stop.fill member ask
line_of (line.Restart member) = rule.Restart member
line_of (line.Faulty member fault) = rule.Faulty member fault
