-- The tests of sameness are true exactly where the values are equal.
use Rattle.std.proofs.Common.{◌≡◌, true, ◌&&◌, ◌==◌, bytes_eq, refl, eqb-true, eq-eqb}
use Rattle.std.proofs.lemmas.Bool.{and_parts, and_from, false≢true}
use Rattle.std.proofs.lemmas.Slice.Eq.{bytes_eq-Decides}
use Rattle.cw_base.specs.declared.hash.Digest32.{Digest32}
use Rattle.cw_base.specs.Config.{same_counts}
use Rattle.cw_base.specs.Counts.{Counts}
use Rattle.cw_types.specs.declared.block.Context.{Context}
use Rattle.cw_types.specs.declared.commitment.Commitment.{Commitment}
use Rattle.cw_types.specs.declared.vote.Proposal.{Proposal}
use Rattle.cw_types.specs.declared.vote.Vote.{Vote}
use Rattle.cw_types.specs.declared.vote.Cert.{Cert}
use Rattle.cw_types.specs.declared.vote.Vote.TheVariants.{Finalize, Notarize, Nullify}
use Rattle.cw_types.specs.Block.{Block}
use Rattle.cw_types.specs.Same.{same_block, same_cert, same_commitment, same_context, same_digest}
use Rattle.cw_types.specs.Same.{same_proposal, same_vote}

pub same_digest-true : (a b : Digest32) → same_digest a b ≡ true → a ≡ b
same_digest-true a b h = let e = (bytes_eq-Decides a.0 b.0).0 h in λ i. record { 0 = e i }

pub same_digest_self : (a : Digest32) → same_digest a a ≡ true
same_digest_self a = (bytes_eq-Decides a.0 a.0).1 refl

pub same_counts-true : (a b : Counts) → same_counts a b ≡ true → a ≡ b
same_counts-true a b h =
    let p = and_parts (a.minimum == b.minimum) (a.extra == b.extra) h in
    let e = eqb-true a.minimum b.minimum p.0 in
    let f = eqb-true a.extra b.extra p.1 in
    λ i. record { minimum = e i; extra = f i }

pub same_counts_self : (a : Counts) → same_counts a a ≡ true
same_counts_self a = and_from _ _ (eq-eqb a.minimum a.minimum refl) (eq-eqb a.extra a.extra refl)

pub same_commitment-true : (a b : Commitment) → same_commitment a b ≡ true → a ≡ b
unfolding same_commitment
same_commitment-true a b h =
    let p =
    and_parts (same_digest a.block b.block)
    (same_digest a.root b.root
    && (same_digest a.context b.context && same_counts a.config b.config))
    h in
    let q =
    and_parts (same_digest a.root b.root)
    (same_digest a.context b.context && same_counts a.config b.config) p.1 in
    let r = and_parts (same_digest a.context b.context) (same_counts a.config b.config) q.1 in
    let e0 = same_digest-true a.block b.block p.0 in
    let e1 = same_digest-true a.root b.root q.0 in
    let e2 = same_digest-true a.context b.context r.0 in
    let e3 = same_counts-true a.config b.config r.1 in
    λ i. record { block = e0 i; root = e1 i; context = e2 i; config = e3 i }

pub same_commitment_self : (a : Commitment) → same_commitment a a ≡ true
unfolding same_commitment
same_commitment_self a =
    and_from _ _ (same_digest_self a.block)
    (and_from _ _ (same_digest_self a.root)
    (and_from _ _ (same_digest_self a.context) (same_counts_self a.config)))

pub same_context-true : (a b : Context) → same_context a b ≡ true → a ≡ b
unfolding same_context
same_context-true a b h =
    let p =
    and_parts (a.epoch == b.epoch)
    ((a.view == b.view)
    && ((a.leader == b.leader)
    && ((a.parent_view == b.parent_view) && same_commitment a.parent b.parent)))
    h in
    let q =
    and_parts (a.view == b.view)
    ((a.leader == b.leader)
    && ((a.parent_view == b.parent_view) && same_commitment a.parent b.parent))
    p.1 in
    let r =
    and_parts (a.leader == b.leader)
    ((a.parent_view == b.parent_view) && same_commitment a.parent b.parent) q.1 in
    let s = and_parts (a.parent_view == b.parent_view) (same_commitment a.parent b.parent) r.1 in
    let e0 = eqb-true a.epoch b.epoch p.0 in
    let e1 = eqb-true a.view b.view q.0 in
    let e2 = eqb-true a.leader b.leader r.0 in
    let e3 = eqb-true a.parent_view b.parent_view s.0 in
    let e4 = same_commitment-true a.parent b.parent s.1 in
    λ i. record { epoch = e0 i; view = e1 i; leader = e2 i; parent_view = e3 i; parent = e4 i }

pub same_context_self : (a : Context) → same_context a a ≡ true
unfolding same_context
same_context_self a =
    and_from _ _ (eq-eqb a.epoch a.epoch refl)
    (and_from _ _ (eq-eqb a.view a.view refl)
    (and_from _ _ (eq-eqb a.leader a.leader refl)
    (and_from _ _ (eq-eqb a.parent_view a.parent_view refl)
    (same_commitment_self a.parent))))

pub same_proposal-true : (a b : Proposal) → same_proposal a b ≡ true → a ≡ b
unfolding same_proposal
same_proposal-true a b h =
    let p =
    and_parts (a.epoch == b.epoch)
    ((a.view == b.view) && ((a.parent == b.parent) && same_commitment a.payload b.payload))
    h in
    let q =
    and_parts (a.view == b.view) ((a.parent == b.parent) && same_commitment a.payload b.payload)
    p.1 in
    let r = and_parts (a.parent == b.parent) (same_commitment a.payload b.payload) q.1 in
    let e0 = eqb-true a.epoch b.epoch p.0 in
    let e1 = eqb-true a.view b.view q.0 in
    let e2 = eqb-true a.parent b.parent r.0 in
    let e3 = same_commitment-true a.payload b.payload r.1 in
    λ i. record { epoch = e0 i; view = e1 i; parent = e2 i; payload = e3 i }

pub same_proposal_self : (a : Proposal) → same_proposal a a ≡ true
unfolding same_proposal
same_proposal_self a =
    and_from _ _ (eq-eqb a.epoch a.epoch refl)
    (and_from _ _ (eq-eqb a.view a.view refl)
    (and_from _ _ (eq-eqb a.parent a.parent refl) (same_commitment_self a.payload)))

pub same_vote-true : (a b : Vote) → same_vote a b ≡ true → a ≡ b
unfolding same_vote
same_vote-true (Notarize p) (Notarize q) h = let e = same_proposal-true p q h in λ i. Notarize (e i)
same_vote-true (Nullify d v) (Nullify e w) h =
    let p = and_parts (d == e) (v == w) h in
    let s = eqb-true d e p.0 in let t = eqb-true v w p.1 in λ i. Nullify (s i) (t i)
same_vote-true (Finalize p) (Finalize q) h = let e = same_proposal-true p q h in λ i. Finalize (e i)
same_vote-true _ _ h = absurd (false≢true h)

pub same_vote_self : (a : Vote) → same_vote a a ≡ true
unfolding same_vote
same_vote_self (Notarize p) = same_proposal_self p
same_vote_self (Nullify e v) = and_from _ _ (eq-eqb e e refl) (eq-eqb v v refl)
same_vote_self (Finalize p) = same_proposal_self p

pub same_cert-true : (a b : Cert) → same_cert a b ≡ true → a ≡ b
unfolding same_cert
same_cert-true a b h =
    let p = and_parts (same_vote a.vote b.vote) (bytes_eq a.signers b.signers) h in
    let e0 = same_vote-true a.vote b.vote p.0 in
    let e1 = (bytes_eq-Decides a.signers b.signers).0 p.1 in
    λ i. record { vote = e0 i; signers = e1 i }

pub same_block-true : (a b : Block) → same_block a b ≡ true → a ≡ b
unfolding same_block
same_block-true a b h =
    let p =
    and_parts (same_context a.context b.context)
    (same_digest a.parent b.parent
    && ((a.height == b.height) && bytes_eq a.payload b.payload))
    h in
    let q =
    and_parts (same_digest a.parent b.parent)
    ((a.height == b.height) && bytes_eq a.payload b.payload) p.1 in
    let r = and_parts (a.height == b.height) (bytes_eq a.payload b.payload) q.1 in
    let e0 = same_context-true a.context b.context p.0 in
    let e1 = same_digest-true a.parent b.parent q.0 in
    let e2 = eqb-true a.height b.height r.0 in
    let e3 = (bytes_eq-Decides a.payload b.payload).0 r.1 in
    λ i. record { context = e0 i; parent = e1 i; height = e2 i; payload = e3 i }

pub same_block_self : (a : Block) → same_block a a ≡ true
unfolding same_block
same_block_self a =
    and_from _ _ (same_context_self a.context)
    (and_from _ _ (same_digest_self a.parent)
    (and_from _ _ (eq-eqb a.height a.height refl)
    ((bytes_eq-Decides a.payload a.payload).1 refl)))
