use Rattle.std.proofs.Common.{◌≡◌, ◌∙◌, ◌++◌, [], ◌∷◌, None, refl, rules, sym}
use Rattle.cw_tree.proofs.Written.{on_err}
use Rattle.cw_rules.proofs.Deliveries.{falls}
use Rattle.marshal.specs.Stored.{marshal_rules, marshal_state}
use Rattle.marshal.proofs.Handing.{begins, cut_back, handed_given, hands_all, hands_on}
use Rattle.marshal.proofs.marshal.Marshal.hand_out.Goals as goal

pub loop-handed-init : goal.loop-handed-init
loop-handed-init g c = (
  refl,
  rw c.new-out.ensures.items
      (begins (marshal_rules g.H.Hasher.digest_of c.args.self.now) (marshal_state c.args.self.now)),
)

pub returns-in_err-give-clause-err : goal.returns-in_err-give-clause-err
returns-in_err-give-clause-err g c =
    on_err c.from_residual.result
    (rw c.in_err-give.ensures.err
    (cut_back g.H.Hasher.digest_of c.args.self.now c.loop-handed.self c.loop-handed.out.items
    c.loop-handed.invariant))

pub loop-handed-smaller : goal.loop-handed-smaller
loop-handed-smaller g c =
    rw c.in_ok-give.ensures.ok
    (falls (marshal_rules g.H.Hasher.digest_of c.loop-handed.self)
    (marshal_state c.loop-handed.self)
    c.in-Some.handed (sym c.in-Some.ensures.value))

pub loop-handed-preserved : goal.loop-handed-preserved
loop-handed-preserved g c =
    let longer : c.push.new.self.items ≡ c.loop-handed.out.items ++ c.in-Some.handed ∷ [] =
    search rules in
    hands_on g.H.Hasher.digest_of c.args.self.now c.loop-handed.self c.give.new.self
    c.loop-handed.out.items c.push.new.self.items c.in-Some.handed c.loop-handed.invariant
    (sym c.in-Some.ensures.value) c.in_ok-give.ensures.ok longer

pub returns-in_err-push-clause-err : goal.returns-in_err-push-clause-err
returns-in_err-push-clause-err g c =
    let longer = c.loop-handed.out.items ++ c.in-Some.handed ∷ [] in
    on_err c.from_residual-in_err-push.result
    (cut_back g.H.Hasher.digest_of c.args.self.now c.give.new.self longer
    (hands_on g.H.Hasher.digest_of c.args.self.now c.loop-handed.self c.give.new.self
    c.loop-handed.out.items longer c.in-Some.handed c.loop-handed.invariant
    (sym c.in-Some.ensures.value) c.in_ok-give.ensures.ok refl))

pub returns-clause-handed : goal.returns-clause-handed
returns-clause-handed g c =
    let none : c.delivery.result ≡ None = search rules in
    hands_all g.H.Hasher.digest_of c.args.self.now c.loop-handed.self c.loop-handed.out.items
    c.loop-handed.invariant (sym c.delivery.ensures.value ∙ none)

pub returns-clause-ok : goal.returns-clause-ok
returns-clause-ok g c =
    handed_given g.H.Hasher.digest_of c.args.self.now c.loop-handed.self c.loop-handed.out.items
    c.loop-handed.invariant
