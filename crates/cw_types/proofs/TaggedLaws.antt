-- Votes and certificates read back as they were written, and what is read is in its format; and how
-- values behind tags do, which notes and messages use too.
use Rattle.std.proofs.Common.{◌≡◌, ℕ, zero, suc, ◌%◌, ◌^◌, ◌<◌, eqb, Bool, true, false, cond, List}
use Rattle.std.proofs.Common.{[], ◌∷◌, ◌++◌, length, Ok, Err, refl, sym, ap, subst, ◌∙◌}
use Rattle.std.proofs.Common.{append_assoc, arith, ◌⊎◌, inl, inr}
use Rattle.std.specs.List.{flat_map}
use Rattle.std.proofs.lemmas.List.{append-nil}
use Rattle.std.proofs.lemmas.Bool.{eqb-true}
use Rattle.std.proofs.Math.Dec.{eqb-suc-zero}
use Rattle.cw_base.specs.Bytes.{be16, be64}
use Rattle.cw_base.specs.Reading.{Reading, ◌>>=◌, byte_at, be16_at, be64_at}
use Rattle.cw_base.specs.ReadsBack.{ReadsBack, IsBytes}
use Rattle.cw_base.proofs.ReadingLaws.{IsBytes-rest, bind_ok, read_is, byte_reads_back}
use Rattle.cw_base.proofs.ReadingLaws.{be16_reads_back, be64_reads_back}
use Rattle.cw_types.specs.Encoding.{proposal_bytes, tag_bytes, vote_bytes, cert_bytes}
use Rattle.cw_types.specs.Reading.{as_read, later_at, later_epoch_at, proposal_at, vote_behind}
use Rattle.cw_types.specs.Reading.{vote_at, signers_at, signed_at, cert_at}
use Rattle.cw_types.specs.Values.{AreMembers, AreSigners, IsCert, IsProposal, IsVote}
use Rattle.cw_types.proofs.FormatLaws.{alike, behind, made, as_ok, proposal_reads_back}
use Rattle.cw_types.proofs.FormatLaws.{later_epoch_reads_back}
use Rattle.cw_types.specs.declared.vote.Proposal.{Proposal}
use Rattle.cw_types.specs.declared.vote.Vote.{Vote}
use Rattle.cw_types.specs.declared.vote.Vote.TheVariants.{Notarize, Nullify, Finalize}
use Rattle.cw_types.specs.declared.vote.Cert.{Cert}

-- ---- tags

-- a choice by a number
pub pick : {A : Type 0} (n k : ℕ) (r s : Reading A) (y : A × List ℕ) → cond (eqb n k) r s ≡ Ok y
    → ((n ≡ k) × (r ≡ Ok y)) ⊎ (s ≡ Ok y)
pick n k r s y = go (eqb n k) refl
  where
    go : (b : Bool) → eqb n k ≡ b → cond b r s ≡ Ok y → ((n ≡ k) × (r ≡ Ok y)) ⊎ (s ≡ Ok y)
    go true is e = inl (eqb-true n k is, e)
    go false is e = inr e

-- what is read behind its tag
pub tag_found : {D : Type 0} (format : D → List ℕ) (Q : D → Type 0)
    → (choice : ℕ → List ℕ → Reading D)
    → ((n : ℕ) (bytes rest : List ℕ) (d : D) → IsBytes bytes → choice n bytes ≡ Ok (d, rest)
    → (n ∷ bytes ≡ format d ++ rest) × Q d)
    → (bytes rest : List ℕ) (d : D) → IsBytes bytes
    → byte_at bytes >>= (λ t. choice t.0 t.1) ≡ Ok (d, rest) → (bytes ≡ format d ++ rest) × Q d
tag_found format Q choice chosen bytes rest d fits e =
    let a = bind_ok (byte_at bytes) (λ t. choice t.0 t.1) (d, rest) e in
    let tag = byte_reads_back.found bytes a.0.1 a.0.0 fits a.1 in
    let left = IsBytes-rest bytes (a.0.0 ∷ []) a.0.1 tag.0 fits in
    let more = chosen a.0.0 a.0.1 rest d left a.2 in
    (tag.0 ∙ more.0, more.1)

positive : (n : ℕ) → 0 < n → eqb n 0 ≡ false
positive zero h = absurd (omega arith)
positive (suc n) h = eqb-suc-zero n

-- the tag of a value of epoch 0, or another tag and the epoch
abbrev pub front_of : (first later epoch : ℕ) → List ℕ
front_of first later epoch = cond (eqb epoch 0) (first ∷ []) (later ∷ be64 epoch)

-- a value that one part of an epoch makes, behind its tag
pub record IsKind {B D : Type 0} (body : B → List ℕ) (P : ℕ → B → Type 0)
    (r : ℕ → List ℕ → Reading B) (make : ℕ → B → D) (format : D → List ℕ) (Q : D → Type 0)
    (first later : ℕ) : Type 0 where
  pub part : (e : ℕ) → ReadsBack body (P e) (r e)
  pub form : (e : ℕ) (x : B) → P e x → format (make e x) ≡ front_of first later e ++ body x
  pub fits : (e : ℕ) (x : B) → e < 2 ^ 64 → P e x → Q (make e x)

pub kind_first : {B D : Type 0} (body : B → List ℕ) (P : ℕ → B → Type 0)
    (r : ℕ → List ℕ → Reading B) (make : ℕ → B → D) (format : D → List ℕ) (Q : D → Type 0)
    (first later : ℕ)
    → IsKind body P r make format Q first later
    → (n : ℕ) (bytes rest : List ℕ) (d : D) → IsBytes bytes → n ≡ first
    → as_read (make 0) (r 0 bytes) ≡ Ok (d, rest) → (n ∷ bytes ≡ format d ++ rest) × Q d
kind_first body P r make format Q first later kind n bytes rest d fits tag e =
    let a = as_ok (make 0) (r 0 bytes) (d, rest) e in
    let x = a.0.0 in
    let found = (kind.part 0).found bytes a.0.1 x fits a.1 in
    let parts : n ∷ bytes ≡ format (make 0 x) ++ rest =
    rw (kind.form 0 x found.1)
    (ap (λ t. t ∷ bytes) tag
    ∙ ap (λ xs. first ∷ xs) (found.0 ∙ ap (λ xs. body x ++ xs) a.3)) in
    subst (λ y. (n ∷ bytes ≡ format y ++ rest) × Q y) a.2
    (parts, kind.fits 0 x (omega arith) found.1)

pub kind_later : {B D : Type 0} (body : B → List ℕ) (P : ℕ → B → Type 0)
    (r : ℕ → List ℕ → Reading B) (make : ℕ → B → D) (format : D → List ℕ) (Q : D → Type 0)
    (first later : ℕ)
    → IsKind body P r make format Q first later
    → (n : ℕ) (bytes rest : List ℕ) (d : D) → IsBytes bytes → n ≡ later
    → later_at (λ e left. as_read (make e) (r e left)) bytes ≡ Ok (d, rest)
    → (n ∷ bytes ≡ format d ++ rest) × Q d
kind_later body P r make format Q first later kind n bytes rest d fits tag e =
    let b = bind_ok (later_epoch_at bytes) (λ x. as_read (make x.0) (r x.0 x.1)) (d, rest) e in
    let epoch = b.0.0 in
    let a = as_ok (make epoch) (r epoch b.0.1) (d, rest) b.2 in
    let x = a.0.0 in
    let number = later_epoch_reads_back.found bytes b.0.1 epoch fits b.1 in
    let found =
    (kind.part epoch).found b.0.1 a.0.1 x (IsBytes-rest bytes (be64 epoch) b.0.1 number.0 fits)
    a.1 in
    let some : eqb epoch 0 ≡ false = positive epoch number.1.0 in
    let behind_it : b.0.1 ≡ body x ++ rest = found.0 ∙ ap (λ xs. body x ++ xs) a.3 in
    let parts : n ∷ bytes ≡ format (make epoch x) ++ rest =
    rw (kind.form epoch x found.1, some)
    (ap (λ t. t ∷ bytes) tag
    ∙ ap (λ xs. later ∷ xs)
    (number.0 ∙ ap (λ xs. be64 epoch ++ xs) behind_it
    ∙ sym (append_assoc (be64 epoch) (body x) rest))) in
    subst (λ y. (n ∷ bytes ≡ format y ++ rest) × Q y) a.2
    (parts, kind.fits epoch x number.1.1 found.1)

pub kind_again : {B D : Type 0} (body : B → List ℕ) (P : ℕ → B → Type 0)
    (r : ℕ → List ℕ → Reading B) (make : ℕ → B → D) (format : D → List ℕ) (Q : D → Type 0)
    (first later : ℕ)
    → IsKind body P r make format Q first later
    → (choice : ℕ → List ℕ → Reading D)
    → ((left : List ℕ) → choice first left ≡ as_read (make 0) (r 0 left))
    → ((left : List ℕ) → choice later left ≡ later_at (λ e left. as_read (make e) (r e left)) left)
    → (e : ℕ) (x : B) (rest : List ℕ) → e < 2 ^ 64 → P e x
    → byte_at (format (make e x) ++ rest) >>= (λ t. choice t.0 t.1) ≡ Ok (make e x, rest)
kind_again {D = D} body P r make format Q first later kind choice at_first at_later e x rest small
    fits =
    ap (λ bytes. byte_at (bytes ++ rest) >>= (λ t. choice t.0 t.1)) (kind.form e x fits)
    ∙ go e fits small (eqb e 0) refl
  where
    go : (e : ℕ) → P e x → e < 2 ^ 64 → (b : Bool) → eqb e 0 ≡ b
        → byte_at (cond b (first ∷ []) (later ∷ be64 e) ++ body x ++ rest) >>= (λ t. choice t.0 t.1)
        ≡ Ok (make e x, rest)
    go zero fits small b is =
        rw (sym is)
        (at_first (body x ++ rest) ∙ ap (as_read (make 0)) ((kind.part 0).again x rest fits))
    go (suc n) fits small b is =
        let some : eqb (suc n) 0 ≡ false = positive (suc n) (omega arith) in
        let no : b ≡ false = sym is ∙ some in
        rw no (
        at_later (be64 (suc n) ++ body x ++ rest)
        ∙ ap (λ left. later_at (λ e left. as_read (make e) (r e left)) left)
        (append_assoc (be64 (suc n)) (body x) rest)
        ∙ ap (λ read. read >>= λ y. as_read (make y.0) (r y.0 y.1))
        (later_epoch_reads_back.again (suc n) (body x ++ rest) (omega arith, small))
        ∙ ap (as_read (make (suc n))) ((kind.part (suc n)).again x rest fits))

-- a value that one part makes, behind its tag
pub record IsForm {B D : Type 0} (body : B → List ℕ) (P : B → Type 0) (r : List ℕ → Reading B)
    (make : B → D) (format : D → List ℕ) (Q : D → Type 0) (tag : ℕ) : Type 0 where
  pub part : ReadsBack body P r
  pub form : (x : B) → P x → format (make x) ≡ tag ∷ body x
  pub fits : (x : B) → P x → Q (make x)

pub form_found : {B D : Type 0} (body : B → List ℕ) (P : B → Type 0) (r : List ℕ → Reading B)
    (make : B → D) (format : D → List ℕ) (Q : D → Type 0) (tag : ℕ)
    → IsForm body P r make format Q tag
    → (n : ℕ) (bytes rest : List ℕ) (d : D) → IsBytes bytes → n ≡ tag
    → as_read make (r bytes) ≡ Ok (d, rest) → (n ∷ bytes ≡ format d ++ rest) × Q d
form_found body P r make format Q tag form n bytes rest d fits is e =
    let a = as_ok make (r bytes) (d, rest) e in
    let x = a.0.0 in
    let found = form.part.found bytes a.0.1 x fits a.1 in
    let parts : n ∷ bytes ≡ format (make x) ++ rest =
    rw (form.form x found.1)
    (ap (λ t. t ∷ bytes) is
    ∙ ap (λ xs. tag ∷ xs) (found.0 ∙ ap (λ xs. body x ++ xs) a.3)) in
    subst (λ y. (n ∷ bytes ≡ format y ++ rest) × Q y) a.2 (parts, form.fits x found.1)

pub form_again : {B D : Type 0} (body : B → List ℕ) (P : B → Type 0) (r : List ℕ → Reading B)
    (make : B → D) (format : D → List ℕ) (Q : D → Type 0) (tag : ℕ)
    → IsForm body P r make format Q tag
    → (choice : ℕ → List ℕ → Reading D)
    → ((left : List ℕ) → choice tag left ≡ as_read make (r left))
    → (x : B) (rest : List ℕ) → P x
    → byte_at (format (make x) ++ rest) >>= (λ t. choice t.0 t.1) ≡ Ok (make x, rest)
form_again body P r make format Q tag form choice at_tag x rest fits =
    ap (λ bytes. byte_at (bytes ++ rest) >>= (λ t. choice t.0 t.1)) (form.form x fits)
    ∙ at_tag (body x ++ rest) ∙ ap (as_read make) (form.part.again x rest fits)

-- two parts, one behind the other
abbrev pub pair_at : {A B : Type 0} → (List ℕ → Reading A) → (A → List ℕ → Reading B) → List ℕ
    → Reading (A × B)
pair_at r s bytes = r bytes >>= λ a. as_read (λ b. (a.0, b)) (s a.0 a.1)

pub pair_reads_back : {A B : Type 0} (f : A → List ℕ) (P : A → Type 0) (r : List ℕ → Reading A)
    (g : B → List ℕ) (Q : A → B → Type 0) (s : A → List ℕ → Reading B)
    → ReadsBack f P r → ((a : A) → P a → ReadsBack g (Q a) (s a))
    → ReadsBack (λ p. f p.0 ++ g p.1) (λ p. P p.0 × Q p.0 p.1) (pair_at r s)
pair_reads_back {A = A} {B = B} f P r g Q s first second =
    alike _ _ _ _ (pair_at r s) (λ p h. refl) (λ p h. (h.0, h.1.1)) (λ p h. (h.0, (refl, h.1)))
    (behind f P r (λ p. p.0) (λ p. g p.1) Second (λ a. as_read (λ b. (a.0, b)) (s a.0 a.1))
    (λ a p h. h.0) first behind_it)
  where
    Second : A → A × B → Type 0
    Second a p = (p.0 ≡ a) × Q p.0 p.1

    behind_it : (a : A) → P a
        → ReadsBack (λ (p : A × B). g p.1) (Second a) (λ bytes. as_read (λ b. (a, b)) (s a bytes))
    behind_it a fits = record { found = found; again = again }
      where
        found : (bytes rest : List ℕ) (p : A × B) → IsBytes bytes
            → as_read (λ b. (a, b)) (s a bytes) ≡ Ok (p, rest)
            → (bytes ≡ g p.1 ++ rest) × Second a p
        found bytes rest p are e =
            let x = as_ok (λ (b : B). let q : A × B = (a, b) in q) (s a bytes) (p, rest) e in
            let h = (second a fits).found bytes x.0.1 x.0.0 are x.1 in
            let q : A × B = (a, x.0.0) in
            subst (λ (y : A × B). (bytes ≡ g y.1 ++ rest) × Second a y) x.2
            (h.0 ∙ ap (λ xs. g x.0.0 ++ xs) x.3, (refl, h.1))

        again : (p : A × B) (rest : List ℕ) → Second a p
            → as_read (λ b. (a, b)) (s a (g p.1 ++ rest)) ≡ Ok (p, rest)
        again p rest h =
            let fit : Q a p.1 = subst (λ (x : A). Q x p.1) h.0 h.1 in
            ap (as_read (λ (b : B). let q : A × B = (a, b) in q))
            ((second a fits).again p.1 rest fit)
            ∙ ap (λ (x : A). let y : Reading (A × B) = Ok ((x, p.1), rest) in y) (sym h.0)

-- a value of two parts, read part by part
pub paired : {A B D : Type 0} (read : Reading A) (s : A → List ℕ → Reading B) (make : A → B → D) →
    read >>= (λ a. as_read (make a.0) (s a.0 a.1))
    ≡ as_read (λ (p : A × B). make p.0 p.1) (read >>= λ a. as_read (λ b. (a.0, b)) (s a.0 a.1))
paired {A = A} {B = B} {D = D} (Err e) s make = refl
paired {A = A} {B = B} {D = D} (Ok a) s make = go (s a.0 a.1)
  where
    go : (x : Reading B)
        → as_read (make a.0) x ≡ as_read (λ (p : A × B). make p.0 p.1) (as_read (λ b. (a.0, b)) x)
    go (Ok b) = refl
    go (Err e) = refl

-- readings that agree also do behind an epoch
pub later_alike : {A : Type 0} (f g : ℕ → List ℕ → Reading A)
    → ((e : ℕ) (left : List ℕ) → f e left ≡ g e left) → (bytes : List ℕ)
    → later_at f bytes ≡ later_at g bytes
later_alike {A = A} f g same bytes = go (later_epoch_at bytes)
  where
    go : (x : Reading ℕ) → x >>= (λ e. f e.0 e.1) ≡ x >>= (λ e. g e.0 e.1)
    go (Ok e) = same e.0 e.1
    go (Err d) = refl

-- ---- votes

abbrev IsView : ℕ → ℕ → Type 0
IsView epoch view = view < 2 ^ 64

-- a proposal of its own epoch
pub own_epoch : (e : ℕ) (p : Proposal) → IsProposal e p → IsProposal p.epoch p
own_epoch e p h = record { epoch = refl; view = h.view; parent = h.parent; payload = h.payload }

notarizes : IsKind proposal_bytes IsProposal proposal_at (λ e. Notarize) vote_bytes IsVote 0 3
unfolding vote_bytes tag_bytes
notarizes = record {
  part = proposal_reads_back;
  form = λ e p h. rw h.epoch refl;
  fits = λ e p small h. (subst (λ (x : ℕ). x < 2 ^ 64) (sym h.epoch) small, own_epoch e p h);
}

nullifies : IsKind be64 IsView (λ e. be64_at) Nullify vote_bytes IsVote 1 4
unfolding vote_bytes tag_bytes
nullifies =
    record {
      part = λ e. be64_reads_back;
      form = λ e view h. refl;
      fits = λ e view small h. (small, h);
    }

finalizes : IsKind proposal_bytes IsProposal proposal_at (λ e. Finalize) vote_bytes IsVote 2 5
unfolding vote_bytes tag_bytes
finalizes = record {
  part = proposal_reads_back;
  form = λ e p h. rw h.epoch refl;
  fits = λ e p small h. (subst (λ (x : ℕ). x < 2 ^ 64) (sym h.epoch) small, own_epoch e p h);
}

pub vote_reads_back : ReadsBack vote_bytes IsVote vote_at
unfolding vote_at
vote_reads_back = record { found = tag_found vote_bytes IsVote vote_behind chosen; again = again }
  where
    chosen : (n : ℕ) (bytes rest : List ℕ) (v : Vote) → IsBytes bytes
        → vote_behind n bytes ≡ Ok (v, rest) → (n ∷ bytes ≡ vote_bytes v ++ rest) × IsVote v
    chosen n bytes rest v fits e =
        elim (pick n 0 _ _ _ e) [
          | inl h ↦ kind_first _ _ _ _ _ _ _ _ notarizes n bytes rest v fits h.0 h.1
          | inr e ↦ elim (pick n 1 _ _ _ e) [
            | inl h ↦ kind_first _ _ _ _ _ _ _ _ nullifies n bytes rest v fits h.0 h.1
            | inr e ↦ elim (pick n 2 _ _ _ e) [
              | inl h ↦ kind_first _ _ _ _ _ _ _ _ finalizes n bytes rest v fits h.0 h.1
              | inr e ↦ elim (pick n 3 _ _ _ e) [
                | inl h ↦ kind_later _ _ _ _ _ _ _ _ notarizes n bytes rest v fits h.0 h.1
                | inr e ↦ elim (pick n 4 _ _ _ e) [
                  | inl h ↦ kind_later _ _ _ _ _ _ _ _ nullifies n bytes rest v fits h.0 h.1
                  | inr e ↦ elim (pick n 5 _ _ _ e) [
                    | inl h ↦ kind_later _ _ _ _ _ _ _ _ finalizes n bytes rest v fits h.0 h.1
                    | inr e ↦ absurd cc
                  ]
                ]
              ]
            ]
          ]
        ]

    again : (v : Vote) (rest : List ℕ) → IsVote v
        → byte_at (vote_bytes v ++ rest) >>= (λ t. vote_behind t.0 t.1) ≡ Ok (v, rest)
    again (Notarize p) rest fits =
        kind_again _ _ _ _ _ _ _ _ notarizes vote_behind (λ left. refl) (λ left. refl) p.epoch p
        rest fits.0 fits.1
    again (Nullify epoch view) rest fits =
        kind_again _ _ _ _ _ _ _ _ nullifies vote_behind (λ left. refl) (λ left. refl) epoch view
        rest fits.0 fits.1
    again (Finalize p) rest fits =
        kind_again _ _ _ _ _ _ _ _ finalizes vote_behind (λ left. refl) (λ left. refl) p.epoch p
        rest fits.0 fits.1

-- ---- certificates

record AreRead (n : ℕ) (bytes rest xs : List ℕ) : Type 0 where
  parts : bytes ≡ flat_map be16 xs ++ rest
  count : length xs ≡ n
  members : AreMembers xs

abbrev first_of : ℕ → List ℕ × List ℕ → Reading (List ℕ)
first_of x others = Ok (x ∷ others.0, others.1)

abbrev others_of : ℕ → ℕ × List ℕ → Reading (List ℕ)
others_of n first = signers_at n first.1 >>= first_of first.0

signers_found : (n : ℕ) (bytes rest xs : List ℕ) → IsBytes bytes
    → signers_at n bytes ≡ Ok (xs, rest) → AreRead n bytes rest xs
signers_found zero bytes rest xs fits e =
    let is = read_is ([], bytes) (xs, rest) e in
    subst (λ ys. AreRead zero bytes rest ys) is.0 (record {
      parts = is.1;
      count = refl;
      members = tt;
    })
signers_found (suc n) bytes rest xs fits e =
    let a = bind_ok (be16_at bytes) (others_of n) (xs, rest) e in
    let x = a.0 in
    let b = bind_ok (signers_at n x.1) (first_of x.0) (xs, rest) a.2 in
    let first = be16_reads_back.found bytes x.1 x.0 fits a.1 in
    let more =
    signers_found n x.1 b.0.1 b.0.0 (IsBytes-rest bytes (be16 x.0) x.1 first.0 fits) b.1 in
    let is = read_is (x.0 ∷ b.0.0, b.0.1) (xs, rest) b.2 in
    let parts : bytes ≡ (be16 x.0 ++ flat_map be16 b.0.0) ++ b.0.1 =
    first.0 ∙ ap (λ ys. be16 x.0 ++ ys) more.parts
    ∙ sym (append_assoc (be16 x.0) (flat_map be16 b.0.0) b.0.1) in
    let whole : AreRead (suc n) bytes rest (x.0 ∷ b.0.0) =
    record {
      parts = rw is.1 at parts;
      count = ap suc more.count;
      members = (first.1, more.members);
    } in
    subst (λ ys. AreRead (suc n) bytes rest ys) is.0 whole

signers_again : (n : ℕ) (xs rest : List ℕ) → length xs ≡ n → AreMembers xs
    → signers_at n (flat_map be16 xs ++ rest) ≡ Ok (xs, rest)
signers_again zero [] rest count fits = refl
signers_again zero (x ∷ xs) rest count fits = absurd cc
signers_again (suc n) [] rest count fits = absurd cc
signers_again (suc n) (x ∷ xs) rest count fits =
    let less : length xs ≡ n = omega arith in
    let more : be16_at (be16 x ++ (flat_map be16 xs ++ rest)) ≡ Ok (x, flat_map be16 xs ++ rest) =
    be16_reads_back.again x (flat_map be16 xs ++ rest) fits.0 in
    ap (signers_at (suc n)) (append_assoc (be16 x) (flat_map be16 xs) rest)
    ∙ rw (more, signers_again n xs rest less fits.1) refl

abbrev Counted : ℕ → List ℕ → Type 0
Counted n xs = (length xs ≡ n) × AreMembers xs

signers_read_back : (n : ℕ) → ReadsBack (flat_map be16) (Counted n) (signers_at n)
signers_read_back n = record {
  found =
      λ bytes rest xs fits e. let h =
      signers_found n bytes rest xs fits e in (h.parts, (h.count, h.members));
  again = λ xs rest fits. signers_again n xs rest fits.0 fits.1;
}

abbrev cert_of : Vote → List ℕ → Cert
cert_of vote signers = record { vote = vote; signers = signers }

-- a certificate behind its vote: the number of signers, and each signer
abbrev pub signed_bytes : Cert → List ℕ
signed_bytes c = be16 (length c.signers % 2 ^ 16) ++ flat_map be16 c.signers

-- a certificate of this vote that reads
abbrev pub Signed : Vote → Cert → Type 0
Signed vote c = AreSigners c.signers × (c ≡ cert_of vote c.signers)

pub signed_reads_back : (vote : Vote) → ReadsBack signed_bytes (Signed vote) (signed_at vote)
unfolding signed_at
signed_reads_back vote = alike _ _ _ _ (signed_at vote) regrouped to from (
    behind _ _ _ (λ c. length c.signers) _ at_count _ (λ n c ((count, members), is). count)
    be16_reads_back λ n first.
    behind _ _ _ (λ c. c.signers) _ (λ signers c. c ≡ cert_of vote signers) _
    (λ a c is. ap (λ x. x.signers) is) (signers_read_back n) λ signers second.
    made (cert_of vote signers))
  where
    at_count : ℕ → Cert → Type 0
    at_count n c = Counted n c.signers × (c ≡ cert_of vote c.signers)

    regrouped : (c : Cert) → (length c.signers < 2 ^ 16) × at_count (length c.signers) c
        → be16 (length c.signers) ++ (flat_map be16 c.signers ++ []) ≡ signed_bytes c
    regrouped c h =
        let small = h.0 in
        let low : length c.signers % 2 ^ 16 ≡ length c.signers = omega arith in
        rw low (ap (λ xs. be16 (length c.signers) ++ xs) (append-nil (flat_map be16 c.signers)))

    to : (c : Cert) → (length c.signers < 2 ^ 16) × at_count (length c.signers) c → Signed vote c
    to c (small, ((count, members), is)) = ((small, members), is)

    from : (c : Cert) → Signed vote c → (length c.signers < 2 ^ 16) × at_count (length c.signers) c
    from c ((small, members), is) = (small, ((refl, members), is))

pub cert_reads_back : ReadsBack cert_bytes IsCert cert_at
unfolding cert_bytes cert_at
cert_reads_back = alike _ _ _ _ cert_at regrouped to from (
    behind _ _ _ (λ c. c.vote) signed_bytes Signed _ (λ vote c (signers, is). ap (λ x. x.vote) is)
    vote_reads_back λ vote first. signed_reads_back vote)
  where
    regrouped : (c : Cert) → IsVote c.vote × Signed c.vote c
        → vote_bytes c.vote ++ signed_bytes c
        ≡ vote_bytes c.vote ++ be16 (length c.signers % 2 ^ 16) ++ flat_map be16 c.signers
    regrouped c h =
        sym
        (append_assoc (vote_bytes c.vote) (be16 (length c.signers % 2 ^ 16))
        (flat_map be16 c.signers))

    to : (c : Cert) → IsVote c.vote × Signed c.vote c → IsCert c
    to c (vote, (signers, is)) = record { vote = vote; signers = signers }

    from : (c : Cert) → IsCert c → IsVote c.vote × Signed c.vote c
    from c fits = (fits.vote, (fits.signers, refl))
