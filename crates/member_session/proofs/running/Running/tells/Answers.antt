use Rattle.std.proofs.Common.{◌≡◌, ◌∙◌, ◌++◌, ap, refl, subst, sym, true}
use Rattle.std.specs.Prelude.{string_bytes}
use Rattle.cw_types.specs.Epochs.{Epochs}
use Rattle.cw_rules.specs.Step.{Member, member_notes}
use Rattle.member_lines.specs.declared.line.Question.{Question}
use Rattle.member_session.specs.Serving.{Serving, serving_rules}
use Rattle.member_session.specs.Talk.{TellsFound, told_to}
use Rattle.member_session.specs.Told.{view_line}
use Rattle.member_session.proofs.Behind.{same_two}
use Rattle.member_session.proofs.running.Running.tells.Goals as goal

pub returns-in_ok-put_place_of-in-View : goal.returns-in_ok-put_place_of-in-View
returns-in_ok-put_place_of-in-View g c =
    let s = c.args.self.now in
    let n = c.self.inside.member in
    subst
    (λ (q : Question). TellsFound
    (told_to (serving_rules g.H.Hasher.digest_of g.W.Way.travel s) s (member_notes s.member) q)
    (string_bytes c.args.out.now) (string_bytes c.put_place_of.new.out) true)
    (sym c.in-View.is)
    (record {
      found = refl;
      told =
          c.in_ok-put_place_of-in-View.ensures
          ∙ same_two
          (λ (x : Epochs) (m : Member). string_bytes c.args.out.now ++ view_line x (member_notes m))
          c.self.inside.committees s.epochs n.member s.member
          (sym c.self.invariant.among ∙ ap (λ (x : Serving). x.epochs) c.self.view_is)
          (ap (λ (x : Serving). x.member) c.self.view_is);
    })
