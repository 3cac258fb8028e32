use Rattle.std.proofs.Common.{sym, true, ◌∙◌}
use Rattle.cw_rules.specs.declared.travel.Travel.TheVariants.{Uncut}
use Rattle.hail_world.proofs.Offering.{names}
use Rattle.hail_world.proofs.fault.go_out.Goals as goal

pub returns-in-Uncut-clause-name : goal.returns-in-Uncut-clause-name
returns-in-Uncut-clause-name g c =
    let s = c.args.script.now in
    names g.H.Hasher.digest_of s Uncut (sym c.travel.ensures ∙ c.in-Uncut.is) c.args.block
    c.go_whole.result (c.go_whole.ensures.name s.committees s.backlog (λ b a. true))
