-- What a crash leaves of a file at rest while frames are added to it, whose appends share their two
-- syncs.
use Rattle.std.proofs.Common.{◌≡◌, ◌≢◌, ◌⊎◌, inl, inr, ⊎_elim, ℕ, zero, suc, ◌+◌, ◌^◌, ◌<◌, ◌≤◌, List, [], ◌∷◌, ◌++◌, length, take, drop, get_or, true, refl, sym, ◌∙◌, ap, subst, arith, append_assoc, length-append, length-take, take-append-drop}
use Rattle.std.proofs.lemmas.List.{take_at, drop_at, drop_more, append-nil, get_or-take, get_or_at, ext_get_or}
use Rattle.std.proofs.lemmas.Bool.{cases_eq}
use Rattle.node_disk.specs.Images.{Moment, IsImage, Untouched}
use Rattle.node_disk.specs.Disk.{DiskState, Wrote, Synced, put_at, LeavesOnly}
use Rattle.node_disk.specs.Frames.{body, blocks, all_short, IsAtRest, Finds, FindsWithOrWithout}
use Rattle.node_disk.specs.Log.{HasSettled, with_frame, calls_of_append}
use Rattle.node_disk.specs.Made.{moment_behind, last_moment, HasMade, gate_behind, frame_writes, gate_writes, calls_of_group, FindsSome}
use Rattle.node_disk.specs.HostLaws.{last_append}
use Rattle.node_disk.proofs.Moments.{durable_image}
use Rattle.node_disk.proofs.Compose.{weakens}
use Rattle.node_disk.proofs.WriteSync.{length_put_at}
use Rattle.node_disk.proofs.Walks.{short_first, short_rest, short_push}
use Rattle.node_disk.proofs.AtRest.{settled_images, finds_closed, finds_at_rest, same_front, blocks-push, at_rest_of, shape}
use Rattle.node_disk.proofs.Making.{Leaves, leaves_append, only_made}

-- what stands behind the first gate of frames that were written: each with a closed gate behind it
abbrev staged : List (List ℕ) → List ℕ
staged [] = []
staged (frame ∷ frames) = body frame ++ 0 ∷ staged frames

-- the gates that are to be opened
abbrev gate_ranges : ℕ → List (List ℕ) → List (ℕ × ℕ)
gate_ranges gate [] = []
gate_ranges gate (frame ∷ frames) = (gate, 1) ∷ gate_ranges (gate_behind gate frame) frames

untouched_first : (xs ys : List (ℕ × ℕ)) (k : ℕ) → Untouched (xs ++ ys) k → Untouched xs k
untouched_first [] ys k out = tt
untouched_first (x ∷ xs) ys k out = (out.0, untouched_first xs ys k out.1)

untouched_push : (xs : List (ℕ × ℕ)) (place count k : ℕ) → Untouched xs k
    → (place ≤ k → place + count ≤ k) → Untouched (xs ++ (place, count) ∷ []) k
untouched_push [] place count k out one = (one, tt)
untouched_push (x ∷ xs) place count k out one =
    (out.0, untouched_push xs place count k out.1 one)

-- ---- bytes that are put into a list

put_middle : (front old rest new : List ℕ) (place : ℕ) → length front ≡ place
    → length new ≡ length old
    → put_at (front ++ (old ++ rest)) place new ≡ front ++ (new ++ rest)
put_middle front old rest new place at size =
    let long : length (front ++ old) ≡ place + length new =
    omega (arith, length-append front old) in
    ap (λ (l : List ℕ). l ++ new ++ drop (place + length new) (front ++ (old ++ rest)))
    (take_at front (old ++ rest) place at)
    ∙ ap (λ (l : List ℕ). front ++ new ++ l)
    (ap (λ (l : List ℕ). drop (place + length new) l) (sym (append_assoc front old rest))
    ∙ drop_at (front ++ old) rest (place + length new) long)
    ∙ append_assoc front new rest

-- ---- the first writes

module _ (frames : List (List ℕ)) (first_gate : ℕ) (old : List ℕ)
    (is : IsAtRest frames first_gate old) where
  -- each range lies behind the gate
  found_front : (m : Moment) → m.synced ≡ old
      → ((k : ℕ) → k < first_gate + 1 → Untouched m.ranges k)
      → (image : List ℕ) → IsImage m image → Finds frames image
  found_front m synced out image left =
      let long : length old ≤ length image =
      subst (λ (l : List ℕ). length l ≤ length image) synced left.no_shorter in
      let each : (k : ℕ) → k < first_gate + 1 → get_or image k 0 ≡ get_or old k 0 =
      λ k lt. left.same k
      (subst (λ (l : List ℕ). k < length l) (sym synced) (omega (arith, is.inside, lt)))
      (out k lt)
      ∙ ap (λ (l : List ℕ). get_or l k 0) synced in
      finds_at_rest frames first_gate image
      (same_front frames first_gate old image is
      (ext_get_or 0 (take (first_gate + 1) image) (take (first_gate + 1) old)
      (omega (
        arith,
        length-take (first_gate + 1) image,
        length-take (first_gate + 1) old,
        is.inside,
        long,
      ))
      (λ k lt. let below : k < first_gate + 1 =
      omega (arith, length-take (first_gate + 1) image) in
      get_or-take (first_gate + 1) image k 0 below ∙ each k below
      ∙ sym (get_or-take (first_gate + 1) old k 0 below)))
      (omega (arith, is.inside, long)))

  frames_leave : (more : List (List ℕ)) (gate : ℕ) → first_gate ≤ gate → (m : Moment)
      → m.synced ≡ old → ((k : ℕ) → k < first_gate + 1 → Untouched m.ranges k)
      → (image : List ℕ) → Leaves m (frame_writes gate more) image → Finds frames image
  frames_leave [] gate behind m synced out image (inl had) = absurd had
  frames_leave [] gate behind m synced out image (inr left) =
      found_front m synced out image left
  frames_leave (frame ∷ more) gate behind m synced out image (inl (inl left)) =
      found_front m synced out image left
  frames_leave (frame ∷ more) gate behind m synced out image (inl (inr had)) =
      frames_leave more (gate_behind gate frame) (omega (arith, behind))
      (moment_behind m (Wrote (gate + 1) (body frame ++ 0 ∷ []) true)) synced
      (λ k lt. untouched_push m.ranges (gate + 1) (length (body frame ++ 0 ∷ [])) k (out k lt)
      (λ le. absurd (omega (arith, behind, lt, le))))
      image (inl had)
  frames_leave (frame ∷ more) gate behind m synced out image (inr left) =
      frames_leave more (gate_behind gate frame) (omega (arith, behind))
      (moment_behind m (Wrote (gate + 1) (body frame ++ 0 ∷ []) true)) synced
      (λ k lt. untouched_push m.ranges (gate + 1) (length (body frame ++ 0 ∷ [])) k (out k lt)
      (λ le. absurd (omega (arith, behind, lt, le))))
      image (inr left)

-- what they write, and some bytes behind
abbrev IsStaged : List ℕ → List (List ℕ) → List ℕ → Type 0
IsStaged front more bytes = (rest : List ℕ) × (bytes ≡ front ++ (staged more ++ rest))

frames_stand : (more : List (List ℕ)) (gate : ℕ) (m : Moment) (front rest : List ℕ)
    → m.seen ≡ front ++ rest → length front ≡ gate + 1
    → IsStaged front more (last_moment m (frame_writes gate more)).seen
frames_stand [] gate m front rest seen long = (rest, seen)
frames_stand (frame ∷ more) gate m front rest seen long =
    let text : List ℕ = body frame ++ 0 ∷ [] in
    let next : Moment = moment_behind m (Wrote (gate + 1) text true) in
    let behind : List ℕ = drop (gate + 1 + length text) (front ++ rest) in
    let there : next.seen ≡ (front ++ text) ++ behind =
    ap (λ (l : List ℕ). put_at l (gate + 1) text) seen
    ∙ ap (λ (l : List ℕ). l ++ text ++ behind) (take_at front rest (gate + 1) long) in
    let further : length (front ++ text) ≡ gate_behind gate frame + 1 =
    omega (arith, length-append front text, length-append (body frame) (0 ∷ []), long) in
    let stands : IsStaged (front ++ text) more
    (last_moment next (frame_writes (gate_behind gate frame) more)).seen =
    frames_stand more (gate_behind gate frame) next (front ++ text) behind there further in (
      stands.0,
      stands.1 ∙ append_assoc front text (staged more ++ stands.0)
          ∙ ap (λ (l : List ℕ). front ++ l)
          (append_assoc (body frame) (0 ∷ []) (staged more ++ stands.0)
          ∙ sym (append_assoc (body frame) (0 ∷ staged more) stands.0)),
    )

frames_synced : (more : List (List ℕ)) (gate : ℕ) (m : Moment)
    → (last_moment m (frame_writes gate more)).synced ≡ m.synced
frames_synced [] gate m = refl
frames_synced (frame ∷ more) gate m =
    frames_synced more (gate_behind gate frame)
    (moment_behind m (Wrote (gate + 1) (body frame ++ 0 ∷ []) true))

-- ---- the second writes

-- a file with this byte in the gate's place, behind which frames are staged
abbrev gated : List (List ℕ) → ℕ → List (List ℕ) → List ℕ → List ℕ
gated frames gate more rest = blocks frames ++ gate ∷ (staged more ++ rest)

-- once the gate is open its frame is one of the others
next_frame : (frames : List (List ℕ)) (frame : List ℕ) (more : List (List ℕ)) (rest : List ℕ)
    → gated frames 1 (frame ∷ more) rest ≡ gated (frames ++ frame ∷ []) 0 more rest
next_frame frames frame more rest =
    ap (λ (l : List ℕ). blocks frames ++ 1 ∷ l)
    (append_assoc (body frame) (0 ∷ staged more) rest)
    ∙ sym (append_assoc (blocks frames) (1 ∷ body frame) (0 ∷ (staged more ++ rest)))
    ∙ ap (λ (l : List ℕ). l ++ 0 ∷ (staged more ++ rest)) (sym (blocks-push frames frame))

next_place : (frames : List (List ℕ)) (frame : List ℕ) (gate : ℕ) → gate ≡ length (blocks frames)
    → gate_behind gate frame ≡ length (blocks (frames ++ frame ∷ []))
next_place frames frame gate place =
    omega (
      arith,
      place,
      ap length (blocks-push frames frame),
      length-append (blocks frames) (1 ∷ body frame),
    )

-- other gates stand behind
gates_behind : (gate : ℕ) (more : List (List ℕ)) (k : ℕ) → k < gate
    → Untouched (gate_ranges gate more) k
gates_behind gate [] k lt = tt
gates_behind gate (frame ∷ more) k lt =
    (λ le. absurd (omega (arith, lt, le)), gates_behind (gate_behind gate frame) more k (omega (arith, lt)))

same_beside : (front rest : List ℕ) (x y k : ℕ) → k ≢ length front
    → get_or (front ++ x ∷ rest) k 0 ≡ get_or (front ++ y ∷ rest) k 0
same_beside [] rest x y zero other = absurd (other refl)
same_beside [] rest x y (suc k) other = refl
same_beside (f ∷ front) rest x y zero other = refl
same_beside (f ∷ front) rest x y (suc k) other =
    same_beside front rest x y k (λ e. other (ap suc e))

above : (k gate : ℕ) → gate ≤ k → k ≢ gate → gate + 1 ≤ k
above k gate le other = omega (arith, le, other)

-- bytes of the same length that are the same but at these gates
pub record IsGated (gate : ℕ) (more : List (List ℕ)) (bytes image : List ℕ) : Type 0 where
  pub long : length image ≡ length bytes
  pub same : (k : ℕ) → k < length bytes → Untouched (gate_ranges gate more) k
      → get_or image k 0 ≡ get_or bytes k 0

-- at the first of the gates
module _ (frames : List (List ℕ)) (frame : List ℕ) (more : List (List ℕ)) (gate x : ℕ)
    (rest image : List ℕ) (place : gate ≡ length (blocks frames))
    (is : IsGated gate (frame ∷ more) (gated frames x (frame ∷ more) rest) image) where
  inside : gate < length image
  inside =
      omega (
        arith,
        is.long,
        length-append (blocks frames) (x ∷ (staged (frame ∷ more) ++ rest)),
        place,
      )

  front_is : take gate image ≡ blocks frames
  front_is =
      ext_get_or 0 (take gate image) (take gate (gated frames x (frame ∷ more) rest))
      (omega (
        arith,
        length-take gate image,
        length-take gate (gated frames x (frame ∷ more) rest),
        is.long,
      ))
      (λ k lt. let below : k < gate = omega (arith, length-take gate image) in
      get_or-take gate image k 0 below
      ∙ is.same k (omega (arith, is.long, inside, below))
      (gates_behind gate (frame ∷ more) k below)
      ∙ sym (get_or-take gate (gated frames x (frame ∷ more) rest) k 0 below))
      ∙ take_at (blocks frames) (x ∷ (staged (frame ∷ more) ++ rest)) gate (sym place)

  parts : image ≡ blocks frames ++ get_or image gate 0 ∷ drop (gate + 1) image
  parts =
      sym (take-append-drop gate image) ∙ ap (λ (l : List ℕ). l ++ drop gate image) front_is
      ∙ ap (λ (l : List ℕ). blocks frames ++ l) (drop_more image gate 0 inside)

  -- a gate that isn't open ends the log
  closed_found : all_short frames ≡ true → get_or image gate 0 ≢ 1
      → FindsSome frames (frame ∷ more) image
  closed_found short closed = record {
    first = [];
    rest = frame ∷ more;
    whole = refl;
    found =
        subst (λ (fs : List (List ℕ)). Finds fs image) (sym (append-nil frames))
        (subst (λ (l : List ℕ). Finds frames l) (sym parts)
        (finds_closed frames (get_or image gate 0) (drop (gate + 1) image) short closed));
  }

  -- where it is open only the others may differ
  opening : get_or image gate 0 ≡ 1
      → IsGated (gate_behind gate frame) more (gated (frames ++ frame ∷ []) 0 more rest) image
  opening opened =
      subst (λ (l : List ℕ). IsGated (gate_behind gate frame) more l image)
      (next_frame frames frame more rest)
      (record {
        long =
            omega (
              arith,
              is.long,
              length-append (blocks frames) (x ∷ (staged (frame ∷ more) ++ rest)),
              length-append (blocks frames) (1 ∷ (staged (frame ∷ more) ++ rest)),
            );
        same =
            λ k lt out. elim (cases_eq k gate) [
              | inl here ↦ subst
                  (λ (n : ℕ). get_or image n 0 ≡ get_or (gated frames 1 (frame ∷ more) rest) n 0)
                  (sym here)
                  (opened
                  ∙ sym
                  (get_or_at (blocks frames) 1 (staged (frame ∷ more) ++ rest) 0 gate
                  (sym place)))
              | inr other ↦ is.same k
                  (omega (
                    arith,
                    lt,
                    length-append (blocks frames) (x ∷ (staged (frame ∷ more) ++ rest)),
                    length-append (blocks frames) (1 ∷ (staged (frame ∷ more) ++ rest)),
                  ))
                  ((λ le. above k gate le other), out)
                  ∙ same_beside (blocks frames) (staged (frame ∷ more) ++ rest) x 1 k
                  (λ e. other (e ∙ sym place))
            ];
      })

  opened_found : FindsSome (frames ++ frame ∷ []) more image → FindsSome frames (frame ∷ more) image
  opened_found some = record {
    first = frame ∷ some.first;
    rest = some.rest;
    whole = ap (λ (fs : List (List ℕ)). frame ∷ fs) some.whole;
    found =
        subst (λ (fs : List (List ℕ)). Finds fs image)
        (append_assoc frames (frame ∷ []) some.first) some.found;
  }

gates_found : (more frames : List (List ℕ)) (gate x : ℕ) (rest image : List ℕ)
    → gate ≡ length (blocks frames) → x ≢ 1 → all_short frames ≡ true → all_short more ≡ true
    → IsGated gate more (gated frames x more rest) image → FindsSome frames more image
gates_found [] frames gate x rest image place shut short shorts is =
    let whole : image ≡ gated frames x [] rest =
    ext_get_or 0 image (gated frames x [] rest) is.long
    (λ k lt. is.same k (omega (arith, is.long, lt)) tt) in
    record {
      first = [];
      rest = [];
      whole = refl;
      found =
          subst (λ (fs : List (List ℕ)). Finds fs image) (sym (append-nil frames))
          (subst (λ (l : List ℕ). Finds frames l) (sym whole)
          (finds_closed frames x rest short shut));
    }
gates_found (frame ∷ more) frames gate x rest image place shut short shorts is =
    elim (cases_eq (get_or image gate 0) 1) [
      | inl opened ↦ opened_found frames frame more gate x rest image place is
          (gates_found more (frames ++ frame ∷ []) (gate_behind gate frame) 0 rest image
          (next_place frames frame gate place) (omega arith)
          (short_push frames frame short (short_first frame more shorts))
          (short_rest frame more shorts)
          (opening frames frame more gate x rest image place is opened))
      | inr closed ↦ closed_found frames frame more gate x rest image place is short closed
    ]

untouched_assoc : (xs ys zs : List (ℕ × ℕ)) (k : ℕ) → Untouched (xs ++ (ys ++ zs)) k
    → Untouched ((xs ++ ys) ++ zs) k
untouched_assoc xs ys zs k out =
    subst (λ (l : List (ℕ × ℕ)). Untouched l k) (sym (append_assoc xs ys zs)) out

-- a gate is opened in its place
still_long : (m : Moment) (gate : ℕ) → gate < length m.seen
    → length (put_at m.seen gate (1 ∷ [])) ≡ length m.seen
still_long m gate inside =
    omega (arith, inside, length_put_at m.seen gate (1 ∷ []) (omega (arith, inside)))

-- while the gates are opened only they may differ
module _ (first_gate : ℕ) (all : List (List ℕ)) (bytes : List ℕ) where
  only_gates : (m : Moment) → m.synced ≡ bytes → length m.seen ≡ length bytes
      → ((k : ℕ) → Untouched (gate_ranges first_gate all) k → Untouched m.ranges k)
      → (image : List ℕ) → IsImage m image → IsGated first_gate all bytes image
  only_gates m synced long covered image left =
      let no_shorter : length bytes ≤ length image =
      subst (λ (l : List ℕ). length l ≤ length image) synced left.no_shorter in
      record {
        long = omega (arith, no_shorter, left.no_longer, long);
        same =
            λ k lt out.
            left.same k (subst (λ (l : List ℕ). k < length l) (sym synced) lt) (covered k out)
            ∙ ap (λ (l : List ℕ). get_or l k 0) synced;
      }

  gates_leave : (more : List (List ℕ)) (gate : ℕ) (m : Moment) → m.synced ≡ bytes
      → length m.seen ≡ length bytes → gate + length (staged more) < length bytes
      → ((k : ℕ) → Untouched (gate_ranges first_gate all) k
      → Untouched (m.ranges ++ gate_ranges gate more) k)
      → (image : List ℕ) → Leaves m (gate_writes gate more) image
      → IsGated first_gate all bytes image
  gates_leave [] gate m synced long inside covered image (inl had) = absurd had
  gates_leave [] gate m synced long inside covered image (inr left) =
      only_gates m synced long (λ k out. untouched_first m.ranges [] k (covered k out)) image left
  gates_leave (frame ∷ more) gate m synced long inside covered image (inl (inl left)) =
      only_gates m synced long
      (λ k out. untouched_first m.ranges (gate_ranges gate (frame ∷ more)) k (covered k out))
      image left
  gates_leave (frame ∷ more) gate m synced long inside covered image (inl (inr had)) =
      gates_leave more (gate_behind gate frame) (moment_behind m (Wrote gate (1 ∷ []) true)) synced
      (still_long m gate (omega (arith, inside, long)) ∙ long)
      (omega (arith, inside, length-append (body frame) (0 ∷ staged more)))
      (λ k out. untouched_assoc m.ranges ((gate, 1) ∷ [])
      (gate_ranges (gate_behind gate frame) more) k (covered k out))
      image (inl had)
  gates_leave (frame ∷ more) gate m synced long inside covered image (inr left) =
      gates_leave more (gate_behind gate frame) (moment_behind m (Wrote gate (1 ∷ []) true)) synced
      (still_long m gate (omega (arith, inside, long)) ∙ long)
      (omega (arith, inside, length-append (body frame) (0 ∷ staged more)))
      (λ k out. untouched_assoc m.ranges ((gate, 1) ∷ [])
      (gate_ranges (gate_behind gate frame) more) k (covered k out))
      image (inr left)

-- with all of them open the file is at rest
gates_stand : (more frames : List (List ℕ)) (gate x : ℕ) (rest : List ℕ) (m : Moment)
    → m.seen ≡ gated frames x more rest → gate ≡ length (blocks frames) → x ≢ 1
    → all_short frames ≡ true → all_short more ≡ true
    → IsAtRest (frames ++ more) (length (blocks (frames ++ more)))
    (last_moment m (gate_writes gate more)).seen
gates_stand [] frames gate x rest m seen place shut short shorts =
    subst (λ (fs : List (List ℕ)). IsAtRest fs (length (blocks fs)) m.seen)
    (sym (append-nil frames))
    (at_rest_of frames (length (blocks frames)) x rest m.seen seen refl shut short)
gates_stand (frame ∷ more) frames gate x rest m seen place shut short shorts =
    let next : Moment = moment_behind m (Wrote gate (1 ∷ []) true) in
    let opens : next.seen ≡ gated frames 1 (frame ∷ more) rest =
    ap (λ (l : List ℕ). put_at l gate (1 ∷ [])) seen
    ∙ put_middle (blocks frames) (x ∷ []) (staged (frame ∷ more) ++ rest) (1 ∷ []) gate (sym place)
    refl in
    subst
    (λ (fs : List (List ℕ)). IsAtRest fs (length (blocks fs))
    (last_moment m (gate_writes gate (frame ∷ more))).seen)
    (append_assoc frames (frame ∷ []) more)
    (gates_stand more (frames ++ frame ∷ []) (gate_behind gate frame) 0 rest next
    (opens ∙ next_frame frames frame more rest) (next_place frames frame gate place) (omega arith)
    (short_push frames frame short (short_first frame more shorts)) (short_rest frame more shorts))

-- ---- the whole group

module _ (frames more : List (List ℕ)) (gate : ℕ) (old : Moment)
    (settled : HasSettled frames gate old) (shorts : all_short more ≡ true) where
  is : IsAtRest frames gate old.seen
  is = settled.file

  abbrev written : Moment
  written = last_moment old (frame_writes gate more)

  abbrev synced : Moment
  synced = moment_behind written (Synced true)

  abbrev opened : Moment
  opened = last_moment synced (gate_writes gate more)

  abbrev front : List ℕ
  front = blocks frames ++ get_or old.seen gate 0 ∷ []

  stands : IsStaged front more written.seen
  stands =
      frames_stand more gate old front (drop (gate + 1) old.seen)
      (shape frames gate old.seen is
      ∙ sym (append_assoc (blocks frames) (get_or old.seen gate 0 ∷ []) (drop (gate + 1) old.seen)))
      (omega (arith, length-append (blocks frames) (get_or old.seen gate 0 ∷ []), is.place))

  stands_gated : written.seen ≡ gated frames (get_or old.seen gate 0) more stands.0
  stands_gated =
      stands.1
      ∙ append_assoc (blocks frames) (get_or old.seen gate 0 ∷ []) (staged more ++ stands.0)

  old_synced : old.synced ≡ old.seen
  old_synced = settled.durable.synced

  before_sync : (image : List ℕ) → Leaves old (frame_writes gate more) image
      → FindsSome frames more image
  before_sync image left = record {
    first = [];
    rest = more;
    whole = refl;
    found =
        subst (λ (fs : List (List ℕ)). Finds fs image) (sym (append-nil frames))
        (frames_leave frames gate old.seen is more gate (omega arith) old old_synced
        (λ k lt. subst (λ (rs : List (ℕ × ℕ)). Untouched rs k) (sym settled.durable.ranges) tt)
        image left);
  }

  behind_sync : (image : List ℕ) → Leaves synced (gate_writes gate more) image
      → FindsSome frames more image
  behind_sync image left =
      gates_found more frames gate (get_or old.seen gate 0) stands.0 image is.place is.closed is.short
      shorts
      (subst (λ (l : List ℕ). IsGated gate more l image) stands_gated
      (gates_leave gate more written.seen more gate synced refl refl
      (omega (
        arith,
        ap length stands_gated,
        is.place,
        length-append (blocks frames) (get_or old.seen gate 0 ∷ (staged more ++ stands.0)),
        length-append (staged more) stands.0,
      ))
      (λ k out. out) image left))

  rests : IsAtRest (frames ++ more) (length (blocks (frames ++ more))) opened.seen
  rests =
      gates_stand more frames gate (get_or old.seen gate 0) stands.0 synced stands_gated is.place
      is.closed is.short shorts

  last_is : last_moment old (calls_of_group gate more) ≡ moment_behind opened (Synced true)
  last_is =
      last_append old (frame_writes gate more)
      (Synced true ∷ (gate_writes gate more ++ Synced true ∷ []))
      ∙ last_append synced (gate_writes gate more) (Synced true ∷ [])

  pub group_settled : HasSettled (frames ++ more) (length (blocks (frames ++ more)))
      (last_moment old (calls_of_group gate more))
  group_settled =
      subst (λ (m : Moment). HasSettled (frames ++ more) (length (blocks (frames ++ more))) m)
      (sym last_is)
      (record { file = rests; durable = record { synced = refl; ranges = refl } })

  at_end : (image : List ℕ) → IsImage (moment_behind opened (Synced true)) image
      → FindsSome frames more image
  at_end image left = record {
    first = more;
    rest = [];
    whole = sym (append-nil more);
    found =
        subst (λ (l : List ℕ). Finds (frames ++ more) l)
        (sym
        (durable_image (moment_behind opened (Synced true)) image
        (record { synced = refl; ranges = refl }) left))
        (finds_at_rest (frames ++ more) (length (blocks (frames ++ more))) opened.seen rests);
  }

  sync_leaves : (image : List ℕ) → Leaves opened (Synced true ∷ []) image
      → FindsSome frames more image
  sync_leaves image (inl (inl left)) = behind_sync image (inr left)
  sync_leaves image (inl (inr had)) = absurd had
  sync_leaves image (inr left) = at_end image left

  gates_and_sync : (image : List ℕ)
      → Leaves synced (gate_writes gate more ++ Synced true ∷ []) image
      → FindsSome frames more image
  gates_and_sync image left =
      ⊎_elim (behind_sync image) (sync_leaves image)
      (leaves_append synced (gate_writes gate more) (Synced true ∷ []) image left)

  from_sync : (image : List ℕ)
      → Leaves written (Synced true ∷ (gate_writes gate more ++ Synced true ∷ [])) image
      → FindsSome frames more image
  from_sync image (inl (inl left)) = before_sync image (inr left)
  from_sync image (inl (inr had)) = gates_and_sync image (inl had)
  from_sync image (inr left) = gates_and_sync image (inr left)

  pub group_leaves : (image : List ℕ) → Leaves old (calls_of_group gate more) image
      → FindsSome frames more image
  group_leaves image left =
      ⊎_elim (before_sync image) (from_sync image)
      (leaves_append old (frame_writes gate more)
      (Synced true ∷ (gate_writes gate more ++ Synced true ∷ [])) image left)

pub group_only : (frames more : List (List ℕ)) (gate : ℕ) (old new : DiskState)
    → HasSettled frames gate old.now → all_short more ≡ true
    → HasMade (calls_of_group gate more) old new → LeavesOnly old new (FindsSome frames more)
group_only frames more gate old new settled shorts made =
    only_made (calls_of_group gate more) old new (FindsSome frames more) made
    (group_leaves frames more gate old.now settled shorts)

pub group_rests : (frames more : List (List ℕ)) (gate : ℕ) (old new : DiskState)
    → HasSettled frames gate old.now → all_short more ≡ true
    → HasMade (calls_of_group gate more) old new
    → HasSettled (frames ++ more) (length (blocks (frames ++ more))) new.now
group_rests frames more gate old new settled shorts made =
    subst (λ (m : Moment). HasSettled (frames ++ more) (length (blocks (frames ++ more))) m)
    (sym made.now) (group_settled frames more gate old.now settled shorts)

-- ---- one append is a group of one

one_short : (frame : List ℕ) → length frame < 2 ^ 64 → all_short (frame ∷ []) ≡ true
one_short frame short = short_push [] frame refl short

some_of_one : (first rest : List (List ℕ)) (frame : List ℕ) → frame ∷ [] ≡ first ++ rest
    → (first ≡ []) ⊎ (first ≡ frame ∷ [])
some_of_one [] rest frame whole = inl refl
some_of_one (f ∷ []) rest frame whole = inr (cc)
some_of_one (f ∷ g ∷ first) rest frame whole = absurd (cc)

with_or_without : (frames : List (List ℕ)) (frame bytes : List ℕ)
    → FindsSome frames (frame ∷ []) bytes → FindsWithOrWithout frames frame bytes
with_or_without frames frame bytes some =
    ⊎_elim
    (λ none. inl
    (subst (λ (fs : List (List ℕ)). Finds fs bytes)
    (ap (λ (fs : List (List ℕ)). frames ++ fs) none ∙ append-nil frames) some.found))
    (λ one. inr
    (subst (λ (fs : List (List ℕ)). Finds fs bytes)
    (ap (λ (fs : List (List ℕ)). frames ++ fs) one) some.found))
    (some_of_one some.first some.rest frame some.whole)

none_leave : (frames : List (List ℕ)) (gate : ℕ) (m : Moment) → HasSettled frames gate m
    → (image : List ℕ) → Leaves m [] image → Finds frames image
none_leave frames gate m settled image (inl had) = absurd had
none_leave frames gate m settled image (inr is) = settled_images frames gate m settled image is

pub append_only : (frames : List (List ℕ)) (frame : List ℕ) (gate : ℕ) (old new : DiskState)
    → HasSettled frames gate old.now → length frame < 2 ^ 64
    → HasMade (calls_of_append gate frame) old new
    → LeavesOnly old new (FindsWithOrWithout frames frame)
append_only frames [] gate old new settled short made =
    only_made [] old new (FindsWithOrWithout frames []) made
    (λ image left. inl (none_leave frames gate old.now settled image left))
append_only frames (byte ∷ bytes) gate old new settled short made =
    weakens old new (FindsSome frames ((byte ∷ bytes) ∷ [])) (FindsWithOrWithout frames (byte ∷ bytes))
    (with_or_without frames (byte ∷ bytes))
    (group_only frames ((byte ∷ bytes) ∷ []) gate old new settled (one_short (byte ∷ bytes) short)
    made)

pub append_rests : (frames : List (List ℕ)) (frame : List ℕ) (gate : ℕ) (old new : DiskState)
    → HasSettled frames gate old.now → length frame < 2 ^ 64
    → HasMade (calls_of_append gate frame) old new
    → HasSettled (with_frame frames frame) (length (blocks (with_frame frames frame))) new.now
append_rests frames [] gate old new settled short made =
    subst (λ (m : Moment). HasSettled frames (length (blocks frames)) m) (sym made.now)
    (subst (λ (n : ℕ). HasSettled frames n old.now) settled.file.place settled)
append_rests frames (byte ∷ bytes) gate old new settled short made =
    group_rests frames ((byte ∷ bytes) ∷ []) gate old new settled (one_short (byte ∷ bytes) short)
    made
