use Rattle.std.proofs.Common.{◌≡◌, ◌+◌, ◌-◌, ◌++◌, ◌∷◌, []}
use Rattle.cw_base.proofs.Ends.{end_of_end}
use Rattle.cw_types.specs.Reading.{signers_at}
use Rattle.cw_types.proofs.SignersRead.{goes_on, ends, refused_all, with_front}
use Rattle.cw_types.proofs.vote.read_signers.Goals as goal

pub returns-in-Err-clause-value : goal.returns-in-Err-clause-value
returns-in-Err-clause-value c =
    ends c.in-Err.error c.loop-i.signers c.args.count c.loop-i.i c.loop-i.reader c.be16.new.self
    (signers_at c.args.count c.args.reader.now) c.loop-i-test.true c.in-Err.ensures.value
    c.loop-i.invariant.0

pub returns-in-Err-push-clause-value : goal.returns-in-Err-push-clause-value
returns-in-Err-push-clause-value c =
    refused_all c.skip_signers.result c.loop-i.signers c.args.count c.loop-i.i c.loop-i.reader
    c.in-Ok.signer c.be16.new.self
    c.skip_signers.new.reader (signers_at c.args.count c.args.reader.now) c.loop-i-test.true
    c.in-Ok.ensures.value c.loop-i.invariant.0 c.skip_signers.ensures.value

pub loop-i-preserved : goal.loop-i-preserved
loop-i-preserved c =
    let goes : with_front (c.loop-i.signers ++ c.in-Ok.signer ∷ [])
    (signers_at (c.args.count - (c.loop-i.i + 1)) c.be16.new.self)
    ≡ signers_at c.args.count c.args.reader.now =
    goes_on c.loop-i.signers c.args.count c.loop-i.i c.loop-i.reader c.in-Ok.signer c.be16.new.self
    (signers_at c.args.count c.args.reader.now) c.loop-i-test.true c.in-Ok.ensures.value
    c.loop-i.invariant.0 in
    (rw c.in-Ok-push.ensures.ok goes, end_of_end c.loop-i.invariant.1 c.be16.ensures.place)

pub returns-in-Err-clause-place : goal.returns-in-Err-clause-place
returns-in-Err-clause-place c = end_of_end c.loop-i.invariant.1 c.be16.ensures.place

pub returns-in-Err-push-clause-place : goal.returns-in-Err-push-clause-place
returns-in-Err-push-clause-place c =
    end_of_end (end_of_end c.loop-i.invariant.1 c.be16.ensures.place) c.skip_signers.ensures.place
