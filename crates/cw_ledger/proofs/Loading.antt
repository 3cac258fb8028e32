-- The frames of a log are read one behind the other.
use Rattle.std.proofs.Common.{◌≡◌, ℕ, suc, ◌+◌, List, [], ◌∷◌, ◌++◌, length, map, Option, None, Some, Result, Ok, Err, if◌then◌else◌, is_some, refl, sym, ap, ◌∙◌, arith}
use Rattle.std.specs.List.{enumerate_from}
use Rattle.std.proofs.lemmas.Option.{same_Some}
use Rattle.cw_base.specs.ReadsBack.{IsBytes}
use Rattle.node_disk.proofs.Lists.{same_Ok}
use Rattle.node_disk.specs.Frames.{read_log}
use Rattle.node_disk.specs.Records.{first_refused, refused_place}
use Rattle.cw_ledger.specs.Frames.{first_payload, payload_in, payloads_from, payloads_of, read_payloads, with_payload}
use Rattle.cw_ledger.specs.Kept.{KeepBalances, amount_in, kept_payloads, payloads_or_none}
use Rattle.cw_ledger.specs.Ledger.{frame_of, payload_frames}
use Rattle.cw_ledger.specs.Loading.{is_payload}
use Rattle.cw_ledger.specs.Transfers.{balances, first_balance, moved_all, transfers}
use Rattle.cw_ledger.proofs.Moving.{balances_more, moved_all_same, nothing_moved}
use Rattle.cw_ledger.proofs.Reading.{frame_is}

-- ---- lists

numbered_more : (n : ℕ) (xs : List (List ℕ)) (x : List ℕ)
    → map frame_of (enumerate_from n (xs ++ x ∷ []))
    ≡ map frame_of (enumerate_from n xs) ++ frame_of (n + length xs, x) ∷ []
numbered_more n [] x = ap (λ k. frame_of (k, x) ∷ []) (let e : n ≡ n + 0 = omega arith in e)
numbered_more n (y ∷ ys) x =
    ap (λ l. frame_of (n, y) ∷ l)
    (numbered_more (n + 1) ys x
    ∙ ap (λ k. map frame_of (enumerate_from (n + 1) ys) ++ frame_of (k, x) ∷ [])
    (let e : n + 1 + length ys ≡ n + suc (length ys) = omega arith in e))

-- one payload more is one frame more
pub frames_more : (payloads : List (List ℕ)) (payload : List ℕ)
    → payload_frames (payloads ++ payload ∷ [])
    ≡ payload_frames payloads ++ frame_of (length payloads, payload) ∷ []
frames_more payloads payload =
    numbered_more 0 payloads payload
    ∙ ap (λ k. payload_frames payloads ++ frame_of (k, payload) ∷ [])
    (let e : 0 + length payloads ≡ length payloads = omega arith in e)

length_numbered : (n : ℕ) (xs : List (List ℕ))
    → length (map frame_of (enumerate_from n xs)) ≡ length xs
length_numbered n [] = refl
length_numbered n (x ∷ xs) = ap suc (length_numbered (n + 1) xs)

-- there are as many frames as payloads
pub as_many : (frames : List (List ℕ)) (entries : List (ℕ × ℕ)) → KeepBalances frames entries
    → length (kept_payloads frames) ≡ length frames
as_many frames entries are = sym (ap length are.written ∙ length_numbered 0 (kept_payloads frames))

-- ---- one frame more

pub one_more : (place height : ℕ) (frames payloads : List (List ℕ)) (frame payload : List ℕ)
    → payloads_from place height frames ≡ Ok payloads
    → payload_in (height + length frames) frame ≡ Some payload
    → payloads_from place height (frames ++ frame ∷ []) ≡ Ok (payloads ++ payload ∷ [])
one_more place height [] payloads frame payload e new =
    ap (λ n. first_payload place (payload_in n frame) (Ok []))
    (let z : height ≡ height + 0 = omega arith in z)
    ∙ ap (λ o. first_payload place o (Ok [])) new
    ∙ ap (λ ps. Ok (ps ++ payload ∷ [])) (same_Ok [] payloads e)
one_more place height (f ∷ fs) payloads frame payload e new =
    go (λ ps is. one_more (place + 9 + length f) (height + 1) fs ps frame payload is next)
    (payload_in height f) (payloads_from (place + 9 + length f) (height + 1) fs) refl refl e
  where
    next : payload_in (height + 1 + length fs) frame ≡ Some payload
    next =
        ap (λ n. payload_in n frame)
        (let z : height + 1 + length fs ≡ height + suc (length fs) = omega arith in z)
        ∙ new

    go : ((ps : List (List ℕ)) → payloads_from (place + 9 + length f) (height + 1) fs ≡ Ok ps
        → payloads_from (place + 9 + length f) (height + 1) (fs ++ frame ∷ [])
        ≡ Ok (ps ++ payload ∷ []))
        → (o : Option (List ℕ)) (r : Result (List (List ℕ)) ℕ) → payload_in height f ≡ o
        → payloads_from (place + 9 + length f) (height + 1) fs ≡ r
        → first_payload place o r ≡ Ok payloads
        → payloads_from place height ((f ∷ fs) ++ frame ∷ []) ≡ Ok (payloads ++ payload ∷ [])
    go later None r first rest h = absurd cc
    go later (Some p) (Err q) first rest h = absurd cc
    go later (Some p) (Ok ps) first rest h =
        ap
        (λ o. first_payload place o
        (payloads_from (place + 9 + length f) (height + 1) (fs ++ frame ∷ [])))
        first
        ∙ ap (with_payload p) (later ps rest)
        ∙ ap (λ l. Ok (l ++ payload ∷ [])) (same_Ok (p ∷ ps) payloads h)

-- ---- frames that are read

-- no frame was read
pub begins : (entries : List (ℕ × ℕ))
    → ((account : ℕ) → amount_in entries account ≡ first_balance account) → KeepBalances [] entries
begins entries first = record {
  found = refl;
  written = refl;
  balanced = λ account. first account ∙ sym (nothing_moved account);
}

-- a frame more was read
pub goes_on : (frames : List (List ℕ)) (entries more : List (ℕ × ℕ)) (frame payload : List ℕ)
    → KeepBalances frames entries → IsBytes frame → payload_in (length frames) frame ≡ Some payload
    → ((account : ℕ)
    → amount_in more account ≡ moved_all (amount_in entries) (transfers payload) account)
    → KeepBalances (frames ++ frame ∷ []) more
goes_on frames entries more frame payload are bytes is passed = record {
  found = found ∙ ap Ok (sym payloads_are);
  written =
      ap (λ fs. fs ++ frame ∷ []) are.written
      ∙ ap (λ f. payload_frames payloads ++ f ∷ [])
      (frame_is (length frames) frame payload bytes is
      ∙ ap (λ n. frame_of (n, payload)) (sym (as_many frames entries are)))
      ∙ sym (frames_more payloads payload) ∙ ap payload_frames (sym payloads_are);
  balanced =
      λ account. passed account
      ∙ moved_all_same (amount_in entries) (balances payloads) (transfers payload) are.balanced
      account
      ∙ sym (balances_more payloads payload account)
      ∙ ap (λ ps. balances ps account) (sym payloads_are);
}
  where
    payloads : List (List ℕ)
    payloads = kept_payloads frames

    found : payloads_from 0 0 (frames ++ frame ∷ []) ≡ Ok (kept_payloads frames ++ payload ∷ [])
    found =
        one_more 0 0 frames (kept_payloads frames) frame payload are.found
        (ap (λ n. payload_in n frame)
        (let z : 0 + length frames ≡ length frames = omega arith in z)
        ∙ is)

    payloads_are : kept_payloads (frames ++ frame ∷ []) ≡ kept_payloads frames ++ payload ∷ []
    payloads_are = ap payloads_or_none found

-- ---- frames that are refused

refused_first : (at place : ℕ) (o : Option (List ℕ)) (later : Option ℕ)
    (more : Result (List (List ℕ)) ℕ)
    → (later ≡ Some place → more ≡ Err place)
    → (if is_some o then later else Some at) ≡ Some place → first_payload at o more ≡ Err place
refused_first at place None later more on so = ap (λ n. Err n) (same_Some at place so)
refused_first at place (Some p) later more on so = ap (with_payload p) (on so)

refused_from : (at height : ℕ) (frames : List (List ℕ)) (place : ℕ)
    → first_refused is_payload at height frames ≡ Some place
    → payloads_from at height frames ≡ Err place
refused_from at height [] place refused = absurd cc
refused_from at height (f ∷ frames) place refused =
    refused_first at place (payload_in height f)
    (first_refused is_payload (at + 9 + length f) (height + 1) frames)
    (payloads_from (at + 9 + length f) (height + 1) frames)
    (λ so. refused_from (at + 9 + length f) (height + 1) frames place so) refused

pub refused_so : (bytes : List ℕ) (place : ℕ)
    → refused_place is_payload (read_log bytes) ≡ Some place → read_payloads bytes ≡ Err place
refused_so bytes place refused = go (read_log bytes) refused
  where
    go : (r : Result (List (List ℕ)) ℕ) → refused_place is_payload r ≡ Some place
        → payloads_of r ≡ Err place
    go (Ok frames) so = refused_from 0 0 frames place so
    go (Err p) so = ap (λ n. Err n) (same_Some p place so)
