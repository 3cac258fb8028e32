use Rattle.node_disk.proofs.laws.law_of_reads.Goals as goal

pub returns : goal.returns
returns g c =
    let laws =
    g.met.D.Disk g.world.𝓛 g.world.𝓜 g.world.𝓡 ((λ s x. x), (λ x. x), (λ x. x), λ x. x) in
    laws.seen_is_image
