use Rattle.node_disk.specs.MemoryLaws.{calm_stays}
use Rattle.node_disk.proofs.Calm.{never_cut}
use Rattle.node_disk.specs.Log.{calls_of_append}
use Rattle.node_disk.proofs.laws.law_of_calm.Goals as goal

pub returns-clause-stays : goal.returns-clause-stays
returns-clause-stays g c =
    let laws =
    g.met.D.Disk g.world.𝓛 g.world.𝓜 g.world.𝓡 ((λ s x. x), (λ x. x), (λ x. x), λ x. x) in
    laws.stays_calm

pub returns-clause-memory_stays : goal.returns-clause-memory_stays
returns-clause-memory_stays g c = calm_stays

pub returns-clause-whole : goal.returns-clause-whole
returns-clause-whole g c old new frame calm was =
    never_cut old.disk new.disk (calls_of_append old.gate frame) calm was.disk was.calls
