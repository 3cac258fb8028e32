-- Which certificates can be stored, and the rules by how blocks travel.
use Rattle.std.proofs.Common.{◌≡◌, ◌≤◌, ℕ, Bool, false, IsTrue, List, ap, arith, length, sym}
use Rattle.cw_base.specs.declared.hash.Digest32.{Digest32}
use Rattle.cw_types.specs.Block.{Block}
use Rattle.cw_types.specs.declared.commitment.Commitment.{Commitment}
use Rattle.cw_types.specs.Values.{is_storable}
use Rattle.cw_types.specs.Votes.{well_formed}
use Rattle.cw_types.specs.declared.note.Note.{Note}
use Rattle.cw_types.specs.declared.vote.Cert.{Cert}
use Rattle.cw_rules.specs.Accepted.{is_chunk_of}
use Rattle.cw_rules.specs.Rules.{Chunk}
use Rattle.cw_rules.specs.declared.travel.Travel.TheVariants.{Chunked, Uncut}
use Rattle.cw_rules_coded.specs.Coded.{ruled}
use Rattle.node.specs.Holding.{Holding, cut_rules, rules_of}

-- one that can be counted, of few signers, can be stored
pub cert_storable : (c : Cert) → IsTrue (well_formed c.vote) → length c.signers ≤ 65535
    → IsTrue (is_storable (Note.Cert c))
cert_storable c formed few = grind arith

module _ {D A : Type 0} (hash : List ℕ → Digest32) (accepts : A → Block → Block → Bool)
    (h : Holding D A) where
  -- where blocks are cut the rules are those that cut them
  pub as_cut : h.travel ≡ Chunked → cut_rules hash accepts h ≡ rules_of hash accepts h
  as_cut cut = ap (λ t. ruled t hash h.epochs h.backlog (accepts h.app)) (sym cut)

  -- where they travel whole no chunk is taken
  pub no_chunk : h.travel ≡ Uncut → (c : Commitment) (x : Chunk)
      → is_chunk_of (rules_of hash accepts h) c x ≡ false
  no_chunk uncut c x =
      ap (λ t. is_chunk_of (ruled t hash h.epochs h.backlog (accepts h.app)) c x) uncut
