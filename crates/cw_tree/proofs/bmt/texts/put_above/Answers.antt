use Rattle.std.proofs.Common.{◌≡◌, ◌<◌, ◌∙◌, ◌++◌, ◌∷◌, [], List, ℕ, length, drop, ap, sym, arith, Some, append_assoc}
use Rattle.std.proofs.lemmas.List.{drop_all, length-drop}
use Rattle.cw_tree.proofs.WayLaws.{goes_up, goes_off, goes_home, goes_over}
use Rattle.cw_tree.proofs.bmt.texts.put_above.Goals as goal

-- a text that was added, and those behind it
behind_added : (texts after : List (List ℕ)) (added text : List ℕ) → after ≡ texts ++ added ∷ []
    → added ≡ text → (more : List (List ℕ)) → texts ++ text ∷ more ≡ after ++ more
behind_added texts after added text put is more =
    ap (λ t. texts ++ t ∷ more) (sym is) ∙ sym (append_assoc texts (added ∷ []) more)
    ∙ ap (λ ts. ts ++ more) (sym put)

pub up-preserved : goal.up-preserved
up-preserved g c =
    let hash = g.H.Hasher.digest_of in
    record {
      within = c.in-Some.ensures.within;
      on_way =
          goes_up hash g.H.Digest.Digest.content c.args.count c.up.width c.up.at c.up.node _
          (λ above. c.up.texts.items ++ above) _ _ c.hash-node.result _
          (λ above. c.put_text.new.texts.items ++ above) (omega (arith, c.up-test.true))
          c.in-Some.ensures.value
          (c.hash-node.ensures ∙ ap hash (c.deref.ensures.value ∙ c.in_ok-text.ensures))
          (behind_added c.up.texts.items c.put_text.new.texts.items c.in_ok-text.text.items _
          c.in_ok-put_text.ensures c.in_ok-text.ensures)
          c.up.invariant.on_way;
    }

pub returns-in_default : goal.returns-in_default
returns-in_default g c =
    goes_off g.H.Hasher.digest_of g.H.Digest.Digest.content c.args.count c.up.width c.up.at
    c.up.node _ (λ above. c.up.texts.items ++ above) _
    (omega (arith, c.up-test.true)) c.in_default.ensures.value c.up.invariant.on_way

pub returns-then-used-siblings : goal.returns-then-used-siblings
returns-then-used-siblings g c =
    let less : c.up.used < length c.args.siblings.now = omega (arith, c.if-used-siblings.true) in
    goes_over g.H.Hasher.digest_of g.H.Digest.Digest.content c.args.count c.up.width c.up.at
    c.up.node (drop c.up.used c.args.siblings.now) (λ above. c.up.texts.items ++ above) _
    (omega (arith, c.up-test.false))
    (omega (arith, less, length-drop c.up.used c.args.siblings.now)) c.up.invariant.on_way

pub returns : goal.returns
returns g c =
    ap Some
    (c.in_ok-put_text-2.ensures ∙ ap (λ t. c.up.texts.items ++ t ∷ []) c.in_ok-numbered.ensures)
    ∙ goes_home g.H.Hasher.digest_of g.H.Digest.Digest.content c.args.count c.up.width c.up.at
    c.up.node (drop c.up.used c.args.siblings.now) (λ above. c.up.texts.items ++ above) _
    (omega (arith, c.up-test.false))
    (drop_all c.up.used c.args.siblings.now (omega (arith, c.if-used-siblings.false)))
    c.up.invariant.on_way
