use Rattle.std.proofs.Common.{◌≡◌, ◌++◌, ◌∙◌, ap, sym, subst, take}
use Rattle.std.proofs.Math.Seq.{take-length}
use Rattle.cw_base.specs.Bytes.{be16, be64}
use Rattle.cw_types.specs.Encoding.{commitment_bytes, context_bytes}
use Rattle.cw_types.proofs.Joined.{four_joined}
use Rattle.cw_types.proofs.block.Context.to_bytes.Goals as goal

pub returns : goal.returns
unfolding context_bytes be16 be64
returns c =
    let epoch : c.to_be_bytes.result ≡ be64 c.args.self.now.epoch = c.to_be_bytes.ensures in
    let view : c.to_be_bytes-2.result ≡ be64 c.args.self.now.view = c.to_be_bytes-2.ensures in
    let leader : c.to_be_bytes-3.result ≡ be16 c.args.self.now.leader = c.to_be_bytes-3.ensures in
    let parent : c.to_be_bytes-4.result ≡ be64 c.args.self.now.parent_view =
    c.to_be_bytes-4.ensures in
    let whole : c.put_at-5.new.out ≡ take 126 c.put_at-5.new.out =
    sym
    (subst (λ n. take n c.put_at-5.new.out ≡ c.put_at-5.new.out) c.put_at-5.array_long
    (take-length c.put_at-5.new.out)) in
    let before : take 26 c.put_at-4.new.out
    ≡ be64 c.args.self.now.epoch ++ be64 c.args.self.now.view ++ be16 c.args.self.now.leader
    ++ be64 c.args.self.now.parent_view =
    four_joined (take 8 c.put_at.new.out) (take 16 c.put_at-2.new.out) (take 18 c.put_at-3.new.out)
    (take 26 c.put_at-4.new.out)
    (be64 c.args.self.now.epoch) (be64 c.args.self.now.view) (be16 c.args.self.now.leader)
    (be64 c.args.self.now.parent_view)
    (c.put_at.ensures ∙ epoch)
    (c.put_at-2.ensures ∙ ap (λ x. take 8 c.put_at.new.out ++ x) view)
    (c.put_at-3.ensures ∙ ap (λ x. take 16 c.put_at-2.new.out ++ x) leader)
    (c.put_at-4.ensures ∙ ap (λ x. take 18 c.put_at-3.new.out ++ x) parent) in
    whole
    ∙ (c.put_at-5.ensures
    ∙ (ap (λ x. take 26 c.put_at-4.new.out ++ x) c.to_bytes.ensures
    ∙ ap (λ x. x ++ commitment_bytes c.args.self.now.parent) before))
