use Rattle.std.proofs.Common.{ℕ, ap, arith, ◌∙◌, map, ◌≡◌, ◌+◌, ◌-◌, ◌++◌, ◌∷◌, []}
use Rattle.std.proofs.lemmas.List.{map_push}
use Rattle.cw_base.proofs.Ends.{end_of_end, end_itself}
use Rattle.cw_tree.specs.Formats.{digests_at}
use Rattle.cw_tree.proofs.ReadLoop.{begins, goes_on, ends, refused_all, is_done, with_front}
use Rattle.cw_tree.proofs.codec.read_digests.Goals as goal

pub loop-i-init : goal.loop-i-init
loop-i-init g c =
    let all : c.args.count - 0 ≡ c.args.count = omega arith in (
      begins (map g.D.Digest.content c.new-digests.result) _
          (ap (map g.D.Digest.content) c.new-digests.ensures)
          ∙ ap (λ (n : ℕ). digests_at g.D.Digest.SIZE n c.args.reader.now) all,
      end_itself c.args.reader.now,
    )

pub returns-in-Err-clause-place : goal.returns-in-Err-clause-place
returns-in-Err-clause-place g c = end_of_end c.loop-i.invariant.1 c.read_digest.ensures.place

pub returns-in-Err-push-clause-place : goal.returns-in-Err-push-clause-place
returns-in-Err-push-clause-place g c =
    end_of_end c.loop-i.invariant.1
    (end_of_end c.read_digest.ensures.place c.skip_digests.ensures.place)

pub returns-clause-place : goal.returns-clause-place
returns-clause-place g c = c.loop-i.invariant.1

pub returns-clause-value : goal.returns-clause-value
returns-clause-value g c =
    is_done g.D.Digest.SIZE (map g.D.Digest.content c.loop-i.digests) c.args.count c.loop-i.i
    c.loop-i.reader (digests_at g.D.Digest.SIZE c.args.count c.args.reader.now) (omega arith)
    c.loop-i.invariant.0

pub returns-in-Err-clause-value : goal.returns-in-Err-clause-value
returns-in-Err-clause-value g c =
    ends g.D.Digest.SIZE c.in-Err.error (map g.D.Digest.content c.loop-i.digests) c.args.count
    c.loop-i.i c.loop-i.reader c.read_digest.new.reader
    (digests_at g.D.Digest.SIZE c.args.count c.args.reader.now) c.loop-i-test.true
    c.in-Err.ensures.value c.loop-i.invariant.0

pub returns-in-Err-push-clause-value : goal.returns-in-Err-push-clause-value
returns-in-Err-push-clause-value g c =
    let content = g.D.Digest.content in
    refused_all g.D.Digest.SIZE c.skip_digests.result (map content c.loop-i.digests) c.args.count
    c.loop-i.i c.loop-i.reader (content c.in-Ok.digest) c.read_digest.new.reader
    c.skip_digests.new.reader (digests_at g.D.Digest.SIZE c.args.count c.args.reader.now)
    c.loop-i-test.true c.in-Ok.ensures.value c.loop-i.invariant.0 c.skip_digests.ensures.value

pub loop-i-preserved : goal.loop-i-preserved
loop-i-preserved g c =
    let content = g.D.Digest.content in
    let more : map content c.push.new.self
    ≡ map content c.loop-i.digests ++ content c.in-Ok.digest ∷ [] =
    rw c.in-Ok-push.ensures.ok (map_push content c.loop-i.digests c.in-Ok.digest) in
    let goes : with_front (map content c.loop-i.digests ++ content c.in-Ok.digest ∷ [])
    (digests_at g.D.Digest.SIZE (c.args.count - (c.loop-i.i + 1)) c.read_digest.new.reader)
    ≡ digests_at g.D.Digest.SIZE c.args.count c.args.reader.now =
    goes_on g.D.Digest.SIZE (map content c.loop-i.digests) c.args.count c.loop-i.i c.loop-i.reader
    (content c.in-Ok.digest) c.read_digest.new.reader
    (digests_at g.D.Digest.SIZE c.args.count c.args.reader.now) c.loop-i-test.true
    c.in-Ok.ensures.value c.loop-i.invariant.0 in
    (rw more goes, end_of_end c.loop-i.invariant.1 c.read_digest.ensures.place)
