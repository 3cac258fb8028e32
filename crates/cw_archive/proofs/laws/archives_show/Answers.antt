use Rattle.std.proofs.Common.{true}
use Rattle.shards.specs.Enough.{no_committees}
use Rattle.cw_archive.proofs.IndexLemmas.{least_apart}
use Rattle.cw_archive.proofs.ShowLemmas.{given_shows, shows_given}
use Rattle.cw_archive.proofs.laws.archives_show.Goals as goal

pub returns-clause-apart : goal.returns-clause-apart
returns-clause-apart c = least_apart

pub returns-clause-shown : goal.returns-clause-shown
returns-clause-shown c =
    λ hash d chunks b e. given_shows hash d chunks b
    (c.coded_laws.ensures.coder hash no_committees 0 (λ x y. true)) e

pub returns-clause-only : goal.returns-clause-only
returns-clause-only c =
    λ hash d chunks b some few apart bytes s. shows_given hash d chunks b
    (c.coded_laws.ensures.coder hash no_committees 0 (λ x y. true)) some few apart bytes s
