-- What is told at a moment of a run is told at its end.
use Rattle.std.proofs.Common.{◌≡◌, ℕ, zero, suc, Bool, true, false, ◌&&◌, ◌||◌, nat_le, cond, List, [], ◌∷◌, ◌++◌, Option, Some, None, slice_get, refl, sym, ◌∙◌, ap, subst, inl, inr, ◌⊎◌, append-nil, length, map, is_none}
use Rattle.std.specs.List.{AllByRecursion, list_all, list_any}
use Rattle.std.specs.Option.{option_map_or}
use Rattle.std.proofs.lemmas.Bool.{and_from, and_parts, cond-true, false≢true, or_cases, or_left, or_right}
use Rattle.cw_base.specs.declared.hash.Digest32.{Digest32}
use Rattle.cw_types.specs.declared.commitment.Commitment.{Commitment}
use Rattle.cw_types.specs.declared.note.Note.{Note}
use Rattle.cw_types.specs.declared.vote.Cert.{Cert}
use Rattle.cw_types.specs.declared.vote.Proposal.{Proposal}
use Rattle.cw_types.specs.declared.vote.Vote.{Vote}
use Rattle.cw_types.specs.Block.{Block}
use Rattle.cw_types.specs.Epochs.{is_member, rises_from, size}
use Rattle.cw_types.specs.Values.{IsBlock}
use Rattle.cw_types.specs.Numbers.{quorum}
use Rattle.cw_types.specs.Votes.{finalized, vote_epoch, well_formed}
use Rattle.cw_rules.specs.Accepted.{is_valid}
use Rattle.cw_rules.specs.Chains.{Clashes, Ends, all_notes, clash_at, outcome}
use Rattle.cw_rules.specs.Reached.{In, IsCluster, Reaches}
use Rattle.cw_rules.specs.Report.{report_of}
use Rattle.cw_rules.specs.Rules.{Rules, digest}
use Rattle.cw_rules.specs.Step.{Member, Stepped}
use Rattle.cw_rules.specs.Telling.{FitsLine, TellsBlocks}
use Rattle.cw_rules.specs.World.{Cut, Do, Faulty, Line, Restart, Sent, World, done_by, fault_sends, happens, is_faulty, is_sent_vote, line_member, opening, run, sent_now, signed, with_done}
use Rattle.cw_rules.proofs.Changes.{flags_kept}
use Rattle.cw_rules.proofs.Written.{known_written}
use Rattle.cw_rules_coded.proofs.Told.{told_apart}
use Rattle.cw_light.specs.Believing.{AreWritten, IsBelieved, IsLinkAt}
use Rattle.cw_light.specs.Checking.{broken_at, light_answer, path_answer}
use Rattle.cw_light.specs.declared.check.Answer.{Answer}
use Rattle.cw_light.specs.declared.check.Answer.TheVariants.{BadSigners, Broken, EmptyPath, NotFinal, Yes}
use Rattle.cw_light.proofs.Believed.{AreTwo, Told, believed, told}

-- ---- what was signed stays signed

flag : (ms : List (Option Member)) (i : ℕ)
    → option_map_or is_none (slice_get ms i) false
    ≡ option_map_or (λ (b : Bool). b) (slice_get (map is_none ms) i) false
flag [] i = refl
flag (o ∷ ms) zero = refl
flag (o ∷ ms) (suc i) = flag ms i

done_adds : (w : World) (i : ℕ) (o : Option Stepped)
    → (more : List Sent) × ((option_map_or (with_done w i) o w).pool ≡ w.pool ++ more)
done_adds w i None = ([], sym (append-nil w.pool))
done_adds w i (Some done) = (sent_now w i done.sent, refl)

line_adds : (r : Rules) (w : World) (line : Line)
    → (more : List Sent) × ((happens r w line).pool ≡ w.pool ++ more)
line_adds r w (Do i ask) = done_adds w i (done_by r w (Do i ask))
line_adds r w (Cut a c x i ask) = done_adds w i (done_by r w (Cut a c x i ask))
line_adds r w (Restart i) = done_adds w i (done_by r w (Restart i))
line_adds r w (Faulty a fault) = (sent_now w a (fault_sends r w a fault), refl)

any_more : (p : Sent → Bool) (xs ys : List Sent) → list_any p xs ≡ true
    → list_any p (xs ++ ys) ≡ true
any_more p [] ys h = absurd (false≢true h)
any_more p (x ∷ xs) ys h = go (or_cases (p x) (list_any p xs) h) (any_more p xs ys)
  where
    go : (p x ≡ true) ⊎ (list_any p xs ≡ true)
        → (list_any p xs ≡ true → list_any p (xs ++ ys) ≡ true)
        → (p x || list_any p (xs ++ ys)) ≡ true
    go (inl t) later = or_left (p x) (list_any p (xs ++ ys)) t
    go (inr t) later = or_right (p x) (list_any p (xs ++ ys)) (later t)

line_signed : (r : Rules) (w : World) (line : Line) (i : ℕ) (v : Vote) → signed w i v ≡ true
    → signed (happens r w line) i v ≡ true
line_signed r w line i v h = go (or_cases (is_faulty w i) (list_any (is_sent_vote i v) w.pool) h)
  where
    same : is_faulty (happens r w line) i ≡ is_faulty w i
    same =
        flag (happens r w line).members i
        ∙ (ap (λ (bs : List Bool). option_map_or (λ (b : Bool). b) (slice_get bs i) false)
        (flags_kept r w line)
        ∙ sym (flag w.members i))

    sent : list_any (is_sent_vote i v) w.pool ≡ true
        → list_any (is_sent_vote i v) (happens r w line).pool ≡ true
    sent t =
        let (more, e) = line_adds r w line in
        ap (list_any (is_sent_vote i v)) e ∙ any_more (is_sent_vote i v) w.pool more t

    go : (is_faulty w i ≡ true) ⊎ (list_any (is_sent_vote i v) w.pool ≡ true)
        → signed (happens r w line) i v ≡ true
    go (inl f) =
        or_left (is_faulty (happens r w line) i)
        (list_any (is_sent_vote i v) (happens r w line).pool) (same ∙ f)
    go (inr s) =
        or_right (is_faulty (happens r w line) i)
        (list_any (is_sent_vote i v) (happens r w line).pool) (sent s)

run_signed : (r : Rules) (w : World) (lines : List Line) (i : ℕ) (v : Vote) → signed w i v ≡ true
    → signed (run r w lines) i v ≡ true
run_signed r w [] i v h = h
run_signed r w (line ∷ lines) i v h =
    run_signed r (happens r w line) lines i v (line_signed r w line i v h)

-- ---- the end of a run

run_append : (r : Rules) (w : World) (xs ys : List Line)
    → run r w (xs ++ ys) ≡ run r (run r w xs) ys
run_append r w [] ys = refl
run_append r w (x ∷ xs) ys = run_append r (happens r w x) xs ys

-- a script that ends without a clash ends in the world that its lines leave
pub ends_run : (r : Rules) (w : World) (lines : List Line) (end : World)
    → outcome r w lines ≡ Ends end → end ≡ run r w lines
ends_run r w [] end h = let e : w ≡ end = cc in sym e
ends_run r w (line ∷ lines) end h =
    go (clash_at r w (happens r w line) (line_member line)) h
    (ends_run r (happens r w line) lines end)
  where
    go : (o : Option (Block × Block))
        → option_map_or (λ both. Clashes (r.block_bytes both.0) (r.block_bytes both.1)) o
        (outcome r (happens r w line) lines)
        ≡ Ends end
        → (outcome r (happens r w line) lines ≡ Ends end → end ≡ run r (happens r w line) lines)
        → end ≡ run r w (line ∷ lines)
    go None h later = later h
    go (Some both) h later = cc

-- what was signed on the way is signed at the end
signed_end : (r : Rules) (script : List Line) (now end : World) → Reaches r script now
    → outcome r (opening r script) script ≡ Ends end → (i : ℕ) (v : Vote) → signed now i v ≡ true
    → signed end i v ≡ true
signed_end r script now end (before, rest, joined, is) ends i v h =
    let last : end ≡ run r now rest =
    ends_run r (opening r script) script end ends
    ∙ (ap (run r (opening r script)) joined
    ∙ (run_append r (opening r script) before rest
    ∙ ap (λ (w : World). run r w rest) (sym is))) in
    subst (λ (w : World). signed w i v ≡ true) (sym last) (run_signed r now rest i v h)

-- ---- what is told

-- a certificate that is valid by some signatures is valid by more
valid_more : (r : Rules) (before after : ℕ → Vote → Bool)
    → ((i : ℕ) (v : Vote) → before i v ≡ true → after i v ≡ true) → (s : Cert)
    → is_valid r before s ≡ true → is_valid r after s ≡ true
valid_more r before after more s h =
    let front = well_formed s.vote && rises_from 0 s.signers in
    let enough = nat_le (quorum (size r.epochs (vote_epoch s.vote))) (length s.signers) in
    let a1 =
    and_parts
    (front
    && list_all (λ i. is_member r.epochs (vote_epoch s.vote) i && before i s.vote)
    s.signers)
    enough h in
    let a2 =
    and_parts front
    (list_all (λ i. is_member r.epochs (vote_epoch s.vote) i && before i s.vote) s.signers)
    a1.0 in
    and_from
    (front
    && list_all (λ i. is_member r.epochs (vote_epoch s.vote) i && after i s.vote) s.signers)
    enough
    (and_from front
    (list_all (λ i. is_member r.epochs (vote_epoch s.vote) i && after i s.vote) s.signers) a2.0
    (all s.signers a2.1))
    a1.1
  where
    all : (xs : List ℕ)
        → list_all (λ i. is_member r.epochs (vote_epoch s.vote) i && before i s.vote) xs ≡ true
        → list_all (λ i. is_member r.epochs (vote_epoch s.vote) i && after i s.vote) xs ≡ true
    all [] h = refl
    all (x ∷ xs) h =
        let p =
        and_parts (is_member r.epochs (vote_epoch s.vote) x && before x s.vote)
        (list_all (λ i. is_member r.epochs (vote_epoch s.vote) i && before i s.vote) xs)
        h in
        let q = and_parts (is_member r.epochs (vote_epoch s.vote) x) (before x s.vote) p.0 in
        and_from (is_member r.epochs (vote_epoch s.vote) x && after x s.vote)
        (list_all (λ i. is_member r.epochs (vote_epoch s.vote) i && after i s.vote) xs)
        (and_from (is_member r.epochs (vote_epoch s.vote) x) (after x s.vote) q.0
        (more x s.vote q.1))
        (all xs p.1)

-- so yes by some signatures is yes by more
yes_more : (r : Rules) (before after : ℕ → Vote → Bool)
    → ((i : ℕ) (v : Vote) → before i v ≡ true → after i v ≡ true)
    → (s : Cert) (path : List Block) (height : ℕ) (d : Digest32)
    → light_answer r before s path ≡ Yes height d → light_answer r after s path ≡ Yes height d
yes_more r before after more s path height d h = go (told r before s path height d h)
  where
    by_valid : Proposal → Answer
    by_valid p = cond (is_valid r after s) (path_answer r p.payload path) BadSigners

    go : Told r before s path height d → light_answer r after s path ≡ Yes height d
    go t =
        let by_last : Block → Answer =
        λ last. option_map_or Broken (broken_at r t.proposal.payload path)
        (Yes last.height (digest r last)) in
        let formed : well_formed s.vote ≡ true =
        (and_parts (well_formed s.vote) (rises_from 0 s.signers)
        (and_parts (well_formed s.vote && rises_from 0 s.signers)
        (list_all (λ i. is_member r.epochs (vote_epoch s.vote) i && before i s.vote)
        s.signers)
        (and_parts
        (well_formed s.vote && rises_from 0 s.signers
        && list_all
        (λ i. is_member r.epochs (vote_epoch s.vote) i && before i s.vote)
        s.signers)
        (nat_le (quorum (size r.epochs (vote_epoch s.vote))) (length s.signers))
        t.valid).0).0).0 in
        ap (λ o. option_map_or by_valid o NotFinal)
        (cond-true (well_formed s.vote) (finalized s.vote) None formed
        ∙ ap finalized t.is_final)
        ∙ (cond-true (is_valid r after s) (path_answer r t.proposal.payload path) BadSigners
        (valid_more r before after more s t.valid)
        ∙ (ap (λ o. option_map_or by_last o EmptyPath) t.last
        ∙ (ap (λ o. option_map_or Broken o (Yes t.block.height (digest r t.block))) t.whole
        ∙ (λ i. Yes (t.height_is i) (t.digest_is i)))))

-- what a yes means, by what was signed at some moment of the run, where blocks that are told apart
-- have different bytes
believed_by : (r : Rules) (script : List Line) (now end : World) → IsCluster r script
    → Reaches r script now → outcome r (opening r script) script ≡ Ends end
    → (s : Cert) (path : List Block) (height : ℕ) (d : Digest32)
    → ((a b : Block) (c : Commitment) → In a path → In (Note.Block c b) (all_notes end)
    → r.block_bytes a ≡ r.block_bytes b → a ≡ b)
    → light_answer r (signed now) s path ≡ Yes height d
    → IsBelieved r end (report_of r script end).chain path height d
believed_by r script now end c reaches ends s path height d apart h =
    go
    (believed r script end c ends s path height d
    (yes_more r (signed now) (signed end) (signed_end r script now end reaches ends) s path
    height d h))
  where
    go : IsLinkAt r (report_of r script end).chain path height d ⊎ AreTwo r end path
        → IsBelieved r end (report_of r script end).chain path height d
    go (inl link) = inl link
    go (inr two) = inr (record {
      shown = two.shown;
      in_path = two.in_path;
      noted = two.noted;
      under = two.under;
      is_noted = two.is_noted;
      different =
          λ same. two.different
          (apart two.shown two.noted two.under two.in_path two.is_noted same);
      one_digest = two.one_digest;
    })

-- where each noted block can be written
pub believed_then : (r : Rules) (script : List Line) (now end : World) → IsCluster r script
    → Reaches r script now → outcome r (opening r script) script ≡ Ends end
    → (s : Cert) (path : List Block) (height : ℕ) (d : Digest32) → AreWritten r end path
    → light_answer r (signed now) s path ≡ Yes height d
    → IsBelieved r end (report_of r script end).chain path height d
believed_then r script now end c reaches ends s path height d fit h =
    believed_by r script now end c reaches ends s path height d
    (λ a b under shown noted same. told_apart a b (fit.shown a shown) (fit.noted under b noted)
    (sym (ap (λ f. f a) fit.encoded) ∙ (same ∙ ap (λ f. f b) fit.encoded)))
    h

-- where what the script brings in can be
pub believed_told : (r : Rules) (script : List Line) (now end : World) → TellsBlocks r
    → IsCluster r script → AllByRecursion FitsLine script
    → Reaches r script now → outcome r (opening r script) script ≡ Ends end
    → (s : Cert) (path : List Block) (height : ℕ) (d : Digest32)
    → ((b : Block) → In b path → IsBlock b) → light_answer r (signed now) s path ≡ Yes height d
    → IsBelieved r end (report_of r script end).chain path height d
believed_told r script now end tells c fits reaches ends s path height d written h =
    believed_by r script now end c reaches ends s path height d
    (λ a b under shown noted same. tells.blocks a b (written a shown)
    (known_written r script tells c fits end b last (inr (under, noted))) same)
    h
  where
    last : Reaches r script end
    last = (script, [], sym (append-nil script), ends_run r (opening r script) script end ends)
