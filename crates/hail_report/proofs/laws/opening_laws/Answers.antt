use Rattle.std.proofs.Common.{◌≡◌, ℕ, Bool, true, false, List, [], Some, None, refl, sym, ap}
use Rattle.std.specs.Prelude.{cond}
use Rattle.std.specs.List.{list_any}
use Rattle.cw_rules.specs.Report.{Entry, opening_entry}
use Rattle.cw_rules.specs.Rules.{Rules}
use Rattle.cw_rules.specs.Step.{start}
use Rattle.cw_rules.specs.World.{Line, faults, sent_from}
use Rattle.hail_report.proofs.laws.opening_laws.Goals as goal

opens : (r : Rules) (script : List Line) (id : ℕ) (entry : Entry)
    → opening_entry r script id ≡ Some entry → entry.sent ≡ sent_from 0 id (start r id []).sent
opens r script id entry h = go (list_any (faults id) script) h
  where
    go : (t : Bool)
        → cond t None
        (Some (record {
          line = 0;
          member = Some id;
          found = None;
          sent = [];
          handed = (start r id []).handed;
        }))
        ≡ Some entry
        → entry.sent ≡ []
    go true h = cc
    go false h =
        let same : record {
          line = 0;
          member = Some id;
          found = None;
          sent = [];
          handed = (start r id []).handed;
        }
        ≡ entry =
        cc in
        sym (ap (λ (e : Entry). e.sent) same)

pub returns : goal.returns
returns c = record {
  silent = λ r id. refl;
  entry = opens;
}
