-- Where the first certificate of each vote stands.
use Rattle.std.proofs.Common.{◌≡◌, ℕ, ◌||◌, Bool, false, refl, ◌∙◌, ap, List, [], ◌∷◌, is_some}
use Rattle.std.specs.List.{list_any}
use Rattle.std.specs.Map.{lookup}
use Rattle.cw_types.specs.declared.note.Note.{Note}
use Rattle.cw_types.specs.declared.vote.Cert.{Cert}
use Rattle.cw_types.specs.declared.vote.Vote.{Vote}
use Rattle.cw_rules.specs.Notes.{has_cert, is_cert}
use Rattle.marshal.specs.Certs.{HasCerts, is_cert_keyed}
use Rattle.note_scans.specs.Keys.{key_of, same_key}
use Rattle.note_scans.specs.declared.key.VoteKey.{VoteKey}
use Rattle.note_scans.proofs.Keys.{keys_of_same}
use Rattle.marshal.proofs.Placing.{position_has}

any_same : {X : Type 0} (p q : X → Bool) → ((x : X) → p x ≡ q x) → (xs : List X)
    → list_any p xs ≡ list_any q xs
any_same p q e [] = refl
any_same p q e (x ∷ xs) =
    ap (λ b. b || list_any p xs) (e x) ∙ ap (λ b. q x || b) (any_same p q e xs)

keyed_is : (v : Vote) (n : Note) → is_cert_keyed (key_of v) n ≡ is_cert v n
keyed_is v (Note.Block c b) = refl
keyed_is v (Note.Verified e w c) = refl
keyed_is v (Note.Certified p) = refl
keyed_is v (Note.Vote w) = refl
keyed_is v (Note.Cert s) = keys_of_same v s.vote
keyed_is v (Note.Ack h) = refl
keyed_is v (Note.Floor h) = refl
keyed_is v (Note.Prune h) = refl
keyed_is v (Note.Epoch e c) = refl

-- a place is there exactly where a certificate is noted
pub cert_there : (v : Vote) (es : List (VoteKey × ℕ)) (notes : List Note) → HasCerts es notes
    → is_some (lookup (same_key (key_of v)) es) ≡ has_cert notes v
cert_there v es notes has =
    ap is_some (has (key_of v))
    ∙ (position_has (is_cert_keyed (key_of v)) notes
    ∙ any_same (is_cert_keyed (key_of v)) (is_cert v) (keyed_is v) notes)

-- a note that is no certificate
pub none_keyed : (note : Note) → ((s : Cert) → note ≡ Note.Cert s → ⊥) → (q : VoteKey)
    → is_cert_keyed q note ≡ false
none_keyed (Note.Cert s) isnt q = absurd (isnt s refl)
none_keyed (Note.Block c b) isnt q = refl
none_keyed (Note.Verified e w c) isnt q = refl
none_keyed (Note.Certified p) isnt q = refl
none_keyed (Note.Vote w) isnt q = refl
none_keyed (Note.Ack h) isnt q = refl
none_keyed (Note.Floor h) isnt q = refl
none_keyed (Note.Prune h) isnt q = refl
none_keyed (Note.Epoch e c) isnt q = refl
