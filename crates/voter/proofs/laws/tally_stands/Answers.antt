use Rattle.voter.proofs.Agreeing.{cert_agrees, certified_agrees, finalize_agrees, notarize_agrees, votable_agrees}
use Rattle.voter.proofs.laws.tally_stands.Goals as goal

pub returns : goal.returns
returns c =
    record {
      certificates = cert_agrees;
      certified = certified_agrees;
      votable = votable_agrees;
      notarized = λ hash t r s cut stands. notarize_agrees hash t r s stands cut;
      finalized = finalize_agrees;
    }
