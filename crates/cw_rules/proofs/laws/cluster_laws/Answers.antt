use Rattle.cw_rules.specs.Fits.{block_fits}
use Rattle.cw_rules.specs.Reached.{members_of}
use Rattle.cw_rules.proofs.Changes.{reached_named}
use Rattle.cw_rules.proofs.Certified.{ancestors_in}
use Rattle.cw_rules.proofs.Chain.{one_notarized, not_both_stand, finalized_descent}
use Rattle.cw_rules.proofs.Reach.{reached_keep, reached_kept, reached_lawful, valid_stands}
use Rattle.cw_rules.proofs.laws.cluster_laws.Goals as goal

pub returns-clause-lawful : goal.returns-clause-lawful
returns-clause-lawful c = reached_lawful

pub returns-clause-one_notarized : goal.returns-clause-one_notarized
returns-clause-one_notarized c r script w cluster reach =
    one_notarized r.epochs (block_fits r) (members_of w) (reached_lawful r script w cluster reach)

pub returns-clause-not_both : goal.returns-clause-not_both
returns-clause-not_both c r script w cluster reach =
    not_both_stand r.epochs (block_fits r) (members_of w) (reached_lawful r script w cluster reach)

pub returns-clause-descent : goal.returns-clause-descent
returns-clause-descent c r script w cluster reach =
    finalized_descent r.epochs (block_fits r) (members_of w)
    (reached_lawful r script w cluster reach)

pub returns-clause-certified : goal.returns-clause-certified
returns-clause-certified c r script w cluster reach =
    ancestors_in r cluster.spans (members_of w) (reached_lawful r script w cluster reach)
    (reached_keep r script w cluster reach)

pub returns-clause-kept : goal.returns-clause-kept
returns-clause-kept c r script w cluster reach = (reached_kept r script w cluster reach).each

pub returns-clause-named : goal.returns-clause-named
returns-clause-named c = reached_named

pub returns-clause-valid : goal.returns-clause-valid
returns-clause-valid c = valid_stands
