use Rattle.std.proofs.Common.{◌≡◌, ◌∙◌, ◌+◌, None, Some, [], ◌∷◌, ap, arith, is_some, length, length-append, option_map, rules, sym}
use Rattle.cw_ledger.specs.Frames.{payload_in}
use Rattle.cw_ledger.proofs.Loading.{goes_on}
use Rattle.cw_ledger.proofs.frames.LoadingRecords.read.Goals as goal

pub returns-in_default-clause-told : goal.returns-in_default-clause-told
returns-in_default-clause-told c frames are =
    let none : payload_in c.args.self.now.count c.args.frame.now ≡ None =
    sym c.payload_in.ensures
    ∙ ap (λ o. option_map (λ payload. payload.now) o) c.in_default.is in
    ap is_some (ap (λ n. payload_in n c.args.frame.now) (sym are.1) ∙ none)

pub returns-clause-told : goal.returns-clause-told
returns-clause-told c frames are =
    let found : payload_in c.args.self.now.count c.args.frame.now ≡ Some c.in-Some.payload.now =
    sym c.payload_in.ensures ∙ ap (λ o. option_map (λ payload. payload.now) o) c.in-Some.is in
    ap is_some (ap (λ n. payload_in n c.args.frame.now) (sym are.1) ∙ found)

pub returns-clause-kept : goal.returns-clause-kept
returns-clause-kept c did frames are =
    let found : payload_in c.args.self.now.count c.args.frame.now ≡ Some c.in-Some.payload.now =
    sym c.payload_in.ensures ∙ ap (λ o. option_map (λ payload. payload.now) o) c.in-Some.is in
    let more : c.in-Some-checked_add.count ≡ c.args.self.now.count + 1 = search rules in (
      goes_on frames c.args.self.now.balances c.take_payload.new.balances c.args.frame.now
          c.in-Some.payload.now are.0 c.are_bytes.ensures
          (ap (λ n. payload_in n c.args.frame.now) (sym are.1) ∙ found)
          c.in_ok-take_payload.ensures,
      omega (arith, more, are.1, length-append frames (c.args.frame.now ∷ [])),
    )
