use Rattle.std.proofs.Common.{◌≡◌, ◌++◌, ℕ, List, sym, subst}
use Rattle.std.specs.Prelude.{OnOk, string_bytes}
use Rattle.hail_report.proofs.Tops.{top_last}
use Rattle.hail_report.proofs.storm.put_chain.Goals as goal

pub returns-in-Some : goal.returns-in-Some
returns-in-Some g c =
    subst
    (λ (t : List ℕ). OnOk c.put_top.result
    (string_bytes c.put_top.new.out ≡ string_bytes c.args.out.now ++ t))
    (sym
    (top_last g.H.Hasher.digest_of c.args.links.now c.in-Some.top.now
    c.in-Some.ensures.value))
    c.put_top.ensures
