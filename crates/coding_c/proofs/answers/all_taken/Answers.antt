use Rattle.std.proofs.Common.{◌+◌, ◌<◌, map, take, drop, length, inr, arith}
use Rattle.coding_c.proofs.Taken.{taken_next, bytes_split}
use Rattle.coding_c.proofs.answers.all_taken.Goals as goal

pub returns-in-Err-clause-refused : goal.returns-in-Err-clause-refused
returns-in-Err-clause-refused c =
    let within : c.loop-span.span-index < length c.args.chunks.now = omega arith in
    inr (record {
      before = map (λ s. s.bytes.now) (take c.loop-span.span-index c.args.chunks.now);
      bytes = _;
      after = map (λ s. s.bytes.now) (drop (c.loop-span.span-index + 1) c.args.chunks.now);
      are =
          bytes_split (λ s. s.bytes.now) c.args.chunks.now c.loop-span.span-index _ within;
      taken = c.loop-span.all.items;
      each = c.loop-span.invariant;
      cause = c.in-Err.ensures.value;
    })

pub loop-span-preserved : goal.loop-span-preserved
loop-span-preserved c =
    let within : c.loop-span.span-index < length c.args.chunks.now = omega arith in
    taken_next c.args.config.now c.args.root.now (λ s. s.bytes.now) c.args.chunks.now
    c.loop-span.span-index _ c.loop-span.all.items _ c.in-Ok.chunk within c.loop-span.invariant
    c.in-Ok.ensures.value c.in-Ok-push.ensures.items
