use Rattle.std.proofs.Common.{◌≡◌, ℕ, List, true, sym, subst}
use Rattle.cw_types.specs.Epochs.{Epochs, single}
use Rattle.cw_types.specs.declared.vote.Cert.{Cert}
use Rattle.cw_types.specs.declared.vote.Vote.TheVariants.{Nullify}
use Rattle.voter.specs.Standing.{are_signers}
use Rattle.cw_tests.proofs.voter_tests.take_cert.Goals as goal

-- those who may sign in a cluster of four may sign a certificate of that vote and of them
may_sign : (x : Epochs) (c : Cert) (signers : List ℕ) → x ≡ single 4
    → c ≡ record { vote = Nullify 0 1; signers = signers }
    → are_signers (single 4) (Nullify 0 1) signers ≡ true
    → are_signers x c.vote c.signers ≡ true
may_sign x c signers four is signed =
    subst (λ y. are_signers y c.vote c.signers ≡ true) (sym four)
    (subst (λ (k : Cert). are_signers (single 4) k.vote k.signers ≡ true) (sym is) signed)

pub take_cert-requires-clause-signed : goal.take_cert-requires-clause-signed
take_cert-requires-clause-signed c =
    may_sign _ _ _ c.requires.four c.in_ok-cert.ensures c.requires.signed
