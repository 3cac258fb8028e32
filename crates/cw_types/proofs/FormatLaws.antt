-- Each value reads back as it was written, and what is read is in its format.
use Rattle.std.proofs.Common.{◌≡◌, ℕ, ◌-◌, ◌^◌, ◌<◌, ◌≤◌, Bool, true, false, cond, nat_lt, List, []}
use Rattle.std.proofs.Common.{◌∷◌, ◌++◌, length, Option, None, Some, Result, Ok, Err, IfOk, IfSome}
use Rattle.std.proofs.Common.{refl, sym, ap, subst, ◌∙◌}
use Rattle.std.proofs.Common.{append_assoc, arith}
use Rattle.std.proofs.lemmas.List.{append-nil}
use Rattle.std.proofs.lemmas.Bool.{ltb-true, ltb-false, lt-ltb, le-ltb}
use Rattle.cw_base.specs.declared.hash.Digest32.{Digest32}
use Rattle.cw_base.specs.declared.reader.CodecError.TheVariants.{TooLong}
use Rattle.cw_base.specs.Bytes.{be16, be64, varint}
use Rattle.cw_base.specs.Config.{config_bytes}
use Rattle.cw_base.specs.Counts.{Counts}
use Rattle.cw_base.specs.Reading.{Reading, ◌>>=◌, bytes_at, be64_at, varint_at}
use Rattle.cw_base.specs.ReadsBack.{ReadsBack, IsBytes, IsConfig}
use Rattle.cw_base.proofs.ReadingLaws.{IsBytes-rest, bind_ok, guard_then, read_is, bytes_read_back}
use Rattle.cw_base.proofs.ReadingLaws.{be16_reads_back, be64_reads_back, varint_reads_back}
use Rattle.cw_base.proofs.ReadingLaws.{config_reads_back}
use Rattle.cw_types.specs.Block.{Block}
use Rattle.cw_types.specs.Encoding.{commitment_bytes, context_bytes, block_bytes, proposal_bytes}
use Rattle.cw_types.specs.Reading.{valid_if, as_read, digest_at, commitment_at, context_at}
use Rattle.cw_types.specs.Reading.{height_at, payload_at, block_at, block_in, to_the_end}
use Rattle.cw_types.specs.Reading.{proposal_at, later_epoch_at}
use Rattle.cw_types.specs.Values.{IsBlock, IsCommitment, IsContext, IsDigest, IsBlockHeight}
use Rattle.cw_types.specs.Values.{IsLaterEpoch, IsPayload, IsPrefixFree, IsProposal}
use Rattle.cw_types.specs.declared.commitment.Commitment.{Commitment}
use Rattle.cw_types.specs.declared.block.Context.{Context}
use Rattle.cw_types.specs.declared.vote.Proposal.{Proposal}

-- what reads back is told by its bytes
pub prefix_free : {A : Type 0} (f : A → List ℕ) (P : A → Type 0) (r : List ℕ → Reading A)
    → ReadsBack f P r → IsPrefixFree f P
prefix_free f P r h x y after behind one other same =
    read_is (x, after) (y, behind) (sym (h.again x after one) ∙ ap r same ∙ h.again y behind other)

-- ---- how formats are put together

-- a format in other words
pub alike : {A : Type 0} (f g : A → List ℕ) (P Q : A → Type 0) (r : List ℕ → Reading A)
    → ((x : A) → P x → f x ≡ g x) → ((x : A) → P x → Q x) → ((x : A) → Q x → P x) → ReadsBack f P r
    → ReadsBack g Q r
alike f g P Q r same to from h = record {
  found =
      λ bytes rest x fits e. let y =
      h.found bytes rest x fits e in (y.0 ∙ ap (λ front. front ++ rest) (same x y.1), to x y.1);
  again =
      λ x rest q. ap (λ front. r (front ++ rest)) (sym (same x (from x q)))
      ∙ h.again x rest (from x q);
}

-- a part, and what is read behind it
pub behind : {A D : Type 0} (f : A → List ℕ) (P : A → Type 0) (r : List ℕ → Reading A)
    (part : D → A) (tail : D → List ℕ) (S : A → D → Type 0) (k : A × List ℕ → Reading D)
    → ((a : A) (d : D) → S a d → part d ≡ a) → ReadsBack f P r
    → ((a : A) → P a → ReadsBack tail (S a) (λ bytes. k (a, bytes)))
    → ReadsBack (λ d. f (part d) ++ tail d) (λ d. P (part d) × S (part d) d)
    (λ bytes. r bytes >>= k)
behind {A = A} {D = D} f P r part tail S k is front rest_of =
    record { found = found; again = again }
  where
    found : (bytes rest : List ℕ) (d : D) → IsBytes bytes → r bytes >>= k ≡ Ok (d, rest)
        → (bytes ≡ f (part d) ++ tail d ++ rest) × (P (part d) × S (part d) d)
    found bytes rest d fits e =
        let a = bind_ok (r bytes) k (d, rest) e in
        let first = front.found bytes a.0.1 a.0.0 fits a.1 in
        let second =
        (rest_of a.0.0 first.1).found a.0.1 rest d
        (IsBytes-rest bytes (f a.0.0) a.0.1 first.0 fits) a.2 in
        let parts : bytes ≡ f a.0.0 ++ tail d ++ rest =
        first.0 ∙ ap (λ (ys : List ℕ). f a.0.0 ++ ys) second.0
        ∙ sym (append_assoc (f a.0.0) (tail d) rest) in
        subst (λ (x : A). (bytes ≡ f x ++ tail d ++ rest) × (P x × S x d))
        (sym (is a.0.0 d second.1)) (parts, (first.1, second.1))

    again : (d : D) (rest : List ℕ) → P (part d) × S (part d) d
        → r (f (part d) ++ tail d ++ rest) >>= k ≡ Ok (d, rest)
    again d rest fits =
        ap (λ bytes. r bytes >>= k) (append_assoc (f (part d)) (tail d) rest)
        ∙ ap (λ read. read >>= k) (front.again (part d) (tail d ++ rest) fits.0)
        ∙ (rest_of (part d) fits.0).again d rest fits.1

-- the end of a value
pub made : {D : Type 0} (d : D) → ReadsBack (λ x. []) (λ x. x ≡ d) (λ bytes. Ok (d, bytes))
made d = record {
  found = λ bytes rest x fits e. let is = read_is (d, bytes) (x, rest) e in (is.1, sym is.0);
  again = λ x rest is. ap (λ y. let z : Reading _ = Ok (y, rest) in z) (sym is);
}

-- ---- commitments and contexts

abbrev digest_of : List ℕ → Digest32
digest_of content = record { 0 = content }

-- what was read, seen as another value
pub as_ok : {A B : Type 0} (make : A → B) (read : Reading A) (y : B × List ℕ)
    → as_read make read ≡ Ok y → (x : A × List ℕ) × (read ≡ Ok x) × (make x.0 ≡ y.0) × (x.1 ≡ y.1)
as_ok make (Ok x) y e = let is = read_is (make x.0, x.1) y e in (x, refl, is.0, is.1)
as_ok make (Err d) y e = absurd cc

pub digest_reads_back : ReadsBack (λ d. d.0) IsDigest digest_at
unfolding digest_at
digest_reads_back = record { found = found; again = again }
  where
    found : (bytes rest : List ℕ) (d : Digest32) → IsBytes bytes
        → as_read digest_of (bytes_at 32 bytes) ≡ Ok (d, rest) → (bytes ≡ d.0 ++ rest) × IsDigest d
    found bytes rest d fits e =
        let a = as_ok digest_of (bytes_at 32 bytes) (d, rest) e in
        let first = (bytes_read_back 32).found bytes a.0.1 a.0.0 fits a.1 in
        let is : a.0.0 ≡ d.0 = ap (λ (x : Digest32). x.0) a.2 in
        let left : a.0.1 ≡ rest = a.3 in (
          first.0 ∙ ap (λ xs. xs ++ a.0.1) is ∙ ap (λ xs. d.0 ++ xs) left,
          subst (λ (xs : List ℕ). length xs ≡ 32) is first.1,
        )

    again : (d : Digest32) (rest : List ℕ) → IsDigest d
        → as_read digest_of (bytes_at 32 (d.0 ++ rest)) ≡ Ok (d, rest)
    again d rest fits = ap (as_read digest_of) ((bytes_read_back 32).again d.0 rest fits)

abbrev commitment_of : Digest32 → Digest32 → Digest32 → Counts → Commitment
commitment_of block root context config =
    record { block = block; root = root; context = context; config = config }

pub commitment_reads_back : ReadsBack commitment_bytes IsCommitment commitment_at
unfolding commitment_bytes commitment_at
commitment_reads_back = alike _ _ _ _ commitment_at regrouped to from (
    behind _ _ _ (λ c. c.block) _ at_block _
    (λ a d (root, (context, (config, is))). ap (λ x. x.block) is) digest_reads_back λ block
    first.
    behind _ _ _ (λ c. c.root) _ (at_root block) _
    (λ a d (context, (config, is)). ap (λ x. x.root) is) digest_reads_back λ root second.
    behind _ _ _ (λ c. c.context) _ (at_context block root) _
    (λ a d (config, is). ap (λ x. x.context) is) digest_reads_back λ context third.
    behind _ _ _ (λ c. c.config) _ (λ config c. c ≡ commitment_of block root context config) _
    (λ a d s. ap (λ x. x.config) s) config_reads_back λ config fourth.
    made (commitment_of block root context config))
  where
    at_context : Digest32 → Digest32 → Digest32 → Commitment → Type 0
    at_context block root context c =
        IsConfig c.config × (c ≡ commitment_of block root context c.config)

    at_root : Digest32 → Digest32 → Commitment → Type 0
    at_root block root c = IsDigest c.context × at_context block root c.context c

    at_block : Digest32 → Commitment → Type 0
    at_block block c = IsDigest c.root × at_root block c.root c

    regrouped : (c : Commitment) → IsDigest c.block × at_block c.block c
        → c.block.0 ++ (c.root.0 ++ (c.context.0 ++ (config_bytes c.config ++ [])))
        ≡ c.block.0 ++ c.root.0 ++ c.context.0 ++ config_bytes c.config
    regrouped c h = simp (append_assoc, append-nil)

    to : (c : Commitment) → IsDigest c.block × at_block c.block c → IsCommitment c
    to c (block, (root, (context, (config, is)))) =
        record { block = block; root = root; context = context; config = config }

    from : (c : Commitment) → IsCommitment c → IsDigest c.block × at_block c.block c
    from c fits = (fits.block, (fits.root, (fits.context, (fits.config, refl))))

abbrev context_of : ℕ → ℕ → ℕ → ℕ → Commitment → Context
context_of epoch view leader parent_view parent =
    record {
      epoch = epoch;
      view = view;
      leader = leader;
      parent_view = parent_view;
      parent = parent;
    }

pub context_reads_back : ReadsBack context_bytes IsContext context_at
unfolding context_bytes context_at
context_reads_back = alike _ _ _ _ context_at regrouped to from (
    behind _ _ _ (λ c. c.epoch) _ at_epoch _
    (λ a d (view, (leader, (parent_view, (parent, is)))). ap (λ x. x.epoch) is) be64_reads_back
    λ epoch first.
    behind _ _ _ (λ c. c.view) _ (at_view epoch) _
    (λ a d (leader, (parent_view, (parent, is))). ap (λ x. x.view) is) be64_reads_back λ view
    second.
    behind _ _ _ (λ c. c.leader) _ (at_leader epoch view) _
    (λ a d (parent_view, (parent, is)). ap (λ x. x.leader) is) be16_reads_back λ leader third.
    behind _ _ _ (λ c. c.parent_view) _ (at_parent_view epoch view leader) _
    (λ a d (parent, is). ap (λ x. x.parent_view) is) be64_reads_back λ parent_view fourth.
    behind _ _ _ (λ c. c.parent) _ (λ parent c. c ≡ context_of epoch view leader parent_view parent)
    _ (λ a d is. ap (λ x. x.parent) is) commitment_reads_back λ parent fifth.
    made (context_of epoch view leader parent_view parent))
  where
    at_parent_view : ℕ → ℕ → ℕ → ℕ → Context → Type 0
    at_parent_view epoch view leader parent_view c =
        IsCommitment c.parent × (c ≡ context_of epoch view leader parent_view c.parent)

    at_leader : ℕ → ℕ → ℕ → Context → Type 0
    at_leader epoch view leader c =
        (c.parent_view < 2 ^ 64) × at_parent_view epoch view leader c.parent_view c

    at_view : ℕ → ℕ → Context → Type 0
    at_view epoch view c = (c.leader < 2 ^ 16) × at_leader epoch view c.leader c

    at_epoch : ℕ → Context → Type 0
    at_epoch epoch c = (c.view < 2 ^ 64) × at_view epoch c.view c

    regrouped : (c : Context) → (c.epoch < 2 ^ 64) × at_epoch c.epoch c →
        be64 c.epoch
        ++ (be64 c.view
        ++ (be16 c.leader ++ (be64 c.parent_view ++ (commitment_bytes c.parent ++ []))))
        ≡ be64 c.epoch ++ be64 c.view ++ be16 c.leader ++ be64 c.parent_view
        ++ commitment_bytes c.parent
    regrouped c h = simp (append_assoc, append-nil)

    to : (c : Context) → (c.epoch < 2 ^ 64) × at_epoch c.epoch c → IsContext c
    to c (epoch, (view, (leader, (parent_view, (parent, is))))) =
        record {
          epoch = epoch;
          view = view;
          leader = leader;
          parent_view = parent_view;
          parent = parent;
        }

    from : (c : Context) → IsContext c → (c.epoch < 2 ^ 64) × at_epoch c.epoch c
    from c fits = (fits.epoch, (fits.view, (fits.leader, (fits.parent_view, (fits.parent, refl)))))

-- ---- blocks

-- what was read, where it passes a test
valid_ok : {A : Type 0} (passes : Bool) (x y : A × List ℕ) → valid_if passes x ≡ Ok y
    → (passes ≡ true) × (x ≡ y)
valid_ok true x y e = (refl, cc)
valid_ok false x y e = absurd cc

-- a format of the values that pass a test
pub tested : {A : Type 0} (f : A → List ℕ) (P : A → Type 0) (r : List ℕ → Reading A)
    (test : A → Bool)
    → ReadsBack f P r
    → ReadsBack f (λ x. P x × (test x ≡ true)) (λ bytes. r bytes >>= λ x. valid_if (test x.0) x)
tested {A = A} f P r test h = record { found = found; again = again }
  where
    found : (bytes rest : List ℕ) (x : A) → IsBytes bytes
        → r bytes >>= (λ x. valid_if (test x.0) x) ≡ Ok (x, rest)
        → (bytes ≡ f x ++ rest) × (P x × (test x ≡ true))
    found bytes rest x fits e =
        let a = bind_ok (r bytes) (λ x. valid_if (test x.0) x) (x, rest) e in
        let v = valid_ok (test a.0.0) a.0 (x, rest) a.2 in
        let value : a.0.0 ≡ x = ap (λ (p : A × List ℕ). p.0) v.1 in
        let first =
        h.found bytes rest x fits
        (a.1 ∙ ap (λ (p : A × List ℕ). let z : Reading A = Ok p in z) v.1) in
        (first.0, (first.1, ap test (sym value) ∙ v.0))

    again : (x : A) (rest : List ℕ) → P x × (test x ≡ true)
        → r (f x ++ rest) >>= (λ x. valid_if (test x.0) x) ≡ Ok (x, rest)
    again x rest fits = rw (h.again x rest fits.0, fits.1) refl

pub height_reads_back : ReadsBack be64 IsBlockHeight height_at
unfolding height_at
height_reads_back =
    alike _ _ _ _ height_at (λ n h. refl) (λ n h. ltb-true n (2 ^ 64 - 1) h.1)
    (λ n h. (omega arith, lt-ltb n (2 ^ 64 - 1) h))
    (tested be64 (λ n. n < 2 ^ 64) be64_at (λ n. nat_lt n (2 ^ 64 - 1)) be64_reads_back)

abbrev payload_bytes : List ℕ → List ℕ
payload_bytes payload = varint (length payload) ++ payload

abbrev bounded : ℕ × List ℕ → Reading (List ℕ)
bounded count = cond (nat_lt 1048576 count.0) (Err (TooLong, count.1)) (bytes_at count.0 count.1)

payload_reads_back : ReadsBack payload_bytes IsPayload payload_at
unfolding payload_at
payload_reads_back = record { found = found; again = again }
  where
    found : (bytes rest payload : List ℕ) → IsBytes bytes
        → varint_at bytes >>= bounded ≡ Ok (payload, rest)
        → (bytes ≡ varint (length payload) ++ payload ++ rest) × IsPayload payload
    found bytes rest payload fits e =
        let a = bind_ok (varint_at bytes) bounded (payload, rest) e in
        let count = a.0 in
        let g =
        guard_then (nat_lt 1048576 count.0) (TooLong, count.1) (bytes_at count.0 count.1)
        (payload, rest) a.2 in
        let first = varint_reads_back.found bytes count.1 count.0 fits a.1 in
        let second =
        (bytes_read_back count.0).found count.1 rest payload
        (IsBytes-rest bytes (varint count.0) count.1 first.0 fits) g.1 in
        let within : count.0 ≤ 1048576 = ltb-false 1048576 count.0 g.0 in
        let is : length payload ≡ count.0 = second.1 in (
          first.0 ∙ ap (λ n. varint n ++ count.1) (sym is)
              ∙ ap (λ ys. varint (length payload) ++ ys) second.0
              ∙ sym (append_assoc (varint (length payload)) payload rest),
          omega arith,
        )

    again : (payload rest : List ℕ) → IsPayload payload
        → varint_at (varint (length payload) ++ payload ++ rest) >>= bounded ≡ Ok (payload, rest)
    again payload rest fits =
        let short : length payload < 2 ^ 32 = omega arith in
        let within : nat_lt 1048576 (length payload) ≡ false =
        le-ltb 1048576 (length payload) fits in
        ap (λ bytes. varint_at bytes >>= bounded)
        (append_assoc (varint (length payload)) payload rest)
        ∙ rw (varint_reads_back.again (length payload) (payload ++ rest) short, within)
        ((bytes_read_back (length payload)).again payload rest refl)

abbrev the_block : Context → Digest32 → ℕ → List ℕ → Block
the_block context parent height payload =
    record { context = context; parent = parent; height = height; payload = payload }

pub block_reads_back : ReadsBack block_bytes IsBlock block_at
unfolding block_bytes block_at
block_reads_back = alike _ _ _ _ block_at regrouped to from (
    behind _ _ _ (λ b. b.context) _ at_context _
    (λ a d (parent, (height, (payload, is))). ap (λ x. x.context) is) context_reads_back
    λ context first.
    behind _ _ _ (λ b. b.parent) _ (at_parent context) _
    (λ a d (height, (payload, is)). ap (λ x. x.parent) is) digest_reads_back λ parent second.
    behind _ _ _ (λ b. b.height) _ (at_height context parent) _
    (λ a d (payload, is). ap (λ x. x.height) is) height_reads_back λ height third.
    behind _ _ _ (λ b. b.payload) _ (λ payload b. b ≡ the_block context parent height payload) _
    (λ a d is. ap (λ x. x.payload) is) payload_reads_back λ payload fourth.
    made (the_block context parent height payload))
  where
    at_height : Context → Digest32 → ℕ → Block → Type 0
    at_height context parent height b =
        IsPayload b.payload × (b ≡ the_block context parent height b.payload)

    at_parent : Context → Digest32 → Block → Type 0
    at_parent context parent b = IsBlockHeight b.height × at_height context parent b.height b

    at_context : Context → Block → Type 0
    at_context context b = IsDigest b.parent × at_parent context b.parent b

    regrouped : (b : Block) → IsContext b.context × at_context b.context b →
        context_bytes b.context
        ++ (b.parent.0 ++ (be64 b.height ++ (payload_bytes b.payload ++ [])))
        ≡ context_bytes b.context ++ b.parent.0 ++ be64 b.height ++ varint (length b.payload)
        ++ b.payload
    regrouped b h = simp (append_assoc, append-nil)

    to : (b : Block) → IsContext b.context × at_context b.context b → IsBlock b
    to b (context, (parent, (height, (payload, is)))) =
        record { context = context; parent = parent; height = height; payload = payload }

    from : (b : Block) → IsBlock b → IsContext b.context × at_context b.context b
    from b fits = (fits.context, (fits.parent, (fits.height, (fits.payload, refl))))

-- a reading to the end leaves nothing
pub ends : {A : Type 0} (read : Reading A) (x : A) → to_the_end read ≡ Some x → read ≡ Ok (x, [])
ends (Ok (y, [])) x e = let same : y ≡ x = cc in ap (λ z. let r : Reading _ = Ok (z, []) in r) same
ends (Ok (y, b ∷ rest)) x e = absurd cc
ends (Err d) x e = absurd cc

-- a text that is a block's is that block's bytes
pub block_found : (text : List ℕ) (b : Block) → IsBytes text → block_in text ≡ Some b
    → (block_bytes b ≡ text) × IsBlock b
unfolding block_in
block_found text b fits e =
    let h = block_reads_back.found text [] b fits (ends (block_at text) b e) in
    (sym (append-nil (block_bytes b)) ∙ sym h.0, h.1)

-- what is read of a whole text as a block has that text for its bytes
pub read_bytes : {E : Type 0} (text : List ℕ) (r : Result (Option Block) E) → IsBytes text
    → IfOk r (λ o. o ≡ block_in text) → IfOk r (λ o. IfSome o (λ b. block_bytes b ≡ text))
read_bytes text (Ok None) bytes h = tt
read_bytes text (Ok (Some b)) bytes h = (block_found text b bytes (sym h)).0
read_bytes text (Err e) bytes h = tt

-- the text of a block is that block's
pub block_again : (b : Block) → IsBlock b → block_in (block_bytes b) ≡ Some b
unfolding block_in
block_again b fits =
    ap (λ text. to_the_end (block_at text)) (sym (append-nil (block_bytes b)))
    ∙ ap to_the_end (block_reads_back.again b [] fits)

-- ---- proposals

abbrev the_proposal : ℕ → ℕ → ℕ → Commitment → Proposal
the_proposal epoch view parent payload =
    record { epoch = epoch; view = view; parent = parent; payload = payload }

pub proposal_reads_back : (epoch : ℕ)
    → ReadsBack proposal_bytes (IsProposal epoch) (proposal_at epoch)
unfolding proposal_bytes proposal_at
proposal_reads_back epoch = alike _ _ _ _ (proposal_at epoch) regrouped to from (
    behind _ _ _ (λ p. p.view) _ at_view _ (λ a d (parent, (payload, is)). ap (λ x. x.view) is)
    be64_reads_back λ view first.
    behind _ _ _ (λ p. p.parent) _ (at_parent view) _ (λ a d (payload, is). ap (λ x. x.parent) is)
    be64_reads_back λ parent second.
    behind _ _ _ (λ p. p.payload) _ (λ payload p. p ≡ the_proposal epoch view parent payload) _
    (λ a d is. ap (λ x. x.payload) is) commitment_reads_back λ payload third.
    made (the_proposal epoch view parent payload))
  where
    at_parent : ℕ → ℕ → Proposal → Type 0
    at_parent view parent p =
        IsCommitment p.payload × (p ≡ the_proposal epoch view parent p.payload)

    at_view : ℕ → Proposal → Type 0
    at_view view p = (p.parent < 2 ^ 64) × at_parent view p.parent p

    regrouped : (p : Proposal) → (p.view < 2 ^ 64) × at_view p.view p
        → be64 p.view ++ (be64 p.parent ++ (commitment_bytes p.payload ++ []))
        ≡ be64 p.view ++ be64 p.parent ++ commitment_bytes p.payload
    regrouped p h = simp (append_assoc, append-nil)

    to : (p : Proposal) → (p.view < 2 ^ 64) × at_view p.view p → IsProposal epoch p
    to p (view, (parent, (payload, is))) =
        record { epoch = ap (λ x. x.epoch) is; view = view; parent = parent; payload = payload }

    from : (p : Proposal) → IsProposal epoch p → (p.view < 2 ^ 64) × at_view p.view p
    from p fits = (
      fits.view,
      (
        fits.parent,
        (fits.payload, ap (λ x. the_proposal x p.view p.parent p.payload) fits.epoch),
      ),
    )

pub later_epoch_reads_back : ReadsBack be64 IsLaterEpoch later_epoch_at
unfolding later_epoch_at
later_epoch_reads_back =
    alike _ _ _ _ later_epoch_at (λ n h. refl) (λ n h. (ltb-true 0 n h.1, h.0))
    (λ n h. (h.1, lt-ltb 0 n h.0))
    (tested be64 (λ n. n < 2 ^ 64) be64_at (λ n. nat_lt 0 n) be64_reads_back)
