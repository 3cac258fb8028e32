use Rattle.std.proofs.Common.{◌≡◌, ◌++◌, ◌∙◌, ap, sym, subst, take}
use Rattle.std.proofs.Math.Seq.{take-length}
use Rattle.cw_base.specs.Config.{config_bytes}
use Rattle.cw_types.specs.Encoding.{commitment_bytes}
use Rattle.cw_types.proofs.Joined.{four_joined}
use Rattle.cw_types.proofs.commitment.Commitment.to_bytes.Goals as goal

pub returns : goal.returns
unfolding commitment_bytes
returns c =
    let whole : c.put_at-4.new.out ≡ take 100 c.put_at-4.new.out =
    sym
    (subst (λ n. take n c.put_at-4.new.out ≡ c.put_at-4.new.out) c.put_at-4.array_long
    (take-length c.put_at-4.new.out)) in
    whole
    ∙ four_joined (take 32 c.put_at.new.out) (take 64 c.put_at-2.new.out)
    (take 96 c.put_at-3.new.out) (take 100 c.put_at-4.new.out)
    c.args.self.now.block.0 c.args.self.now.root.0 c.args.self.now.context.0
    (config_bytes c.args.self.now.config)
    c.put_at.ensures c.put_at-2.ensures c.put_at-3.ensures
    (c.put_at-4.ensures ∙ ap (λ x. take 96 c.put_at-3.new.out ++ x) c.write.ensures)
