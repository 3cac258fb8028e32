use Rattle.std.proofs.Common.{◌≡◌, ◌∙◌, ℕ, List, Some, true, false, map, take, refl, ap, subst, rules}
use Rattle.node_disk.proofs.Refusing.{reads_on, refuses, told_at, one_behind}
use Rattle.node_disk.proofs.records.read_each.Goals as goal

pub loop-index-init : goal.loop-index-init
loop-index-init g c = (record { so = refl }, c.requires)

pub returns-then-not-branch-clause-foreign : goal.returns-then-not-branch-clause-foreign
returns-then-not-branch-clause-foreign g c place is =
    let no : c.in_ok-read.field-0 ≡ false = search rules in
    let same : c.loop-index.place ≡ place = cc in
    let frames : List (List ℕ) = map (λ frame. frame.now) c.args.frames.now in
    let told =
    told_at g.K.Records.is_record frames c.loop-index.index c.frame_in-frame.result.now
    c.in_ok-read.field-0 c.frame_in-frame.ensures
    (c.in_ok-read.ensures.told (take c.loop-index.index frames) c.loop-index.invariant.1) in
    refuses g.K.Records.is_record frames c.loop-index.place c.loop-index.index
    c.frame_in-frame.result.now c.loop-index.invariant.0 c.frame_in-frame.ensures (told ∙ no)
    ∙ ap Some same

pub loop-index-preserved : goal.loop-index-preserved
loop-index-preserved g c =
    let yes : c.in_ok-read.field-0 ≡ true = search rules in
    let frames : List (List ℕ) = map (λ frame. frame.now) c.args.frames.now in
    let told =
    told_at g.K.Records.is_record frames c.loop-index.index c.frame_in-frame.result.now
    c.in_ok-read.field-0 c.frame_in-frame.ensures
    (c.in_ok-read.ensures.told (take c.loop-index.index frames) c.loop-index.invariant.1) in
    let more =
    c.in_ok-read.ensures.kept yes (take c.loop-index.index frames) c.loop-index.invariant.1 in (
      reads_on g.K.Records.is_record frames c.loop-index.place c.loop-index.index c.in_ok-place.place
          c.frame_in-frame.result.now c.loop-index.invariant.0 c.frame_in-frame.ensures (told ∙ yes)
          c.in_ok-place.ensures,
      subst (λ (fs : List (List ℕ)). g.K.Records.keeps c.read.new.self fs)
          (one_behind frames c.loop-index.index c.frame_in-frame.result.now c.frame_in-frame.ensures)
          more,
    )
