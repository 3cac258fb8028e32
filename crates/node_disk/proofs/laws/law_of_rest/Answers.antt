use Rattle.node_disk.proofs.AtRest.{finds_at_rest, settled_images, settled_stays}
use Rattle.node_disk.proofs.laws.law_of_rest.Goals as goal

pub returns-clause-seen : goal.returns-clause-seen
returns-clause-seen c frames gate moment settled =
    finds_at_rest frames gate moment.seen settled.file

pub returns-clause-images : goal.returns-clause-images
returns-clause-images c = settled_images

pub returns-clause-stays : goal.returns-clause-stays
returns-clause-stays c = settled_stays
