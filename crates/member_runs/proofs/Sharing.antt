-- Calls with shared syncs are those of a group of frames.
use Rattle.std.proofs.Common.{◌≡◌, ℕ, ◌+◌, Bool, true, false, ◌==◌, if◌then◌else◌, List, [], ◌∷◌, ◌++◌, length, map, Ok, Err, Option, Some, None, Result, refl, sym, ◌∙◌, ap, subst, arith, inl, inr, append_assoc, append-nil, length-append}
use Rattle.std.specs.List.{AllByRecursion}
use Rattle.std.proofs.lemmas.List.{map-append}
use Rattle.cw_types.specs.Encoding.{commitment_bytes, epoch_tag_bytes, note_bytes, proposal_bytes}
use Rattle.cw_base.specs.Bytes.{be64}
use Rattle.cw_types.specs.declared.note.Note.{Note}
use Rattle.cw_rules.specs.Step.{add_frame}
use Rattle.marshal.specs.Frames.{FindsNotes, ReadBack, first_frame, frame_before, frame_bytes, frames_from, note_frames, notes_in}
use Rattle.node_disk.specs.Disk.{DeviceCall, Wrote}
use Rattle.node_disk.specs.Frames.{Finds, all_short, blocks, body}
use Rattle.node_disk.specs.Images.{Moment}
use Rattle.node_disk.specs.Log.{HasSettled, calls_of_append}
use Rattle.node_disk.specs.Made.{FindsSome, calls_of_group, frame_writes, gate_behind, gate_writes, last_moment}
use Rattle.node_disk.proofs.AtRest.{blocks-push, settled_images}
use Rattle.node_disk.proofs.Walks.{short_rest}
use Rattle.node_disk.proofs.Group.{group_leaves, group_settled}
use Rattle.member_session.specs.Told.{gate_of}
use Rattle.member_runs.specs.Files.{AreWritable, MayCrashTo, first_writes, some_frames, second_writes, shared, with_syncs}

-- the calls of appends of these notes, one behind the other
abbrev pub each_calls : List (List Note) → List (List Note) → List (List DeviceCall)
each_calls frames [] = []
each_calls frames (notes ∷ more) =
    calls_of_append (gate_of frames) (frame_bytes notes)
    ∷ each_calls (add_frame frames notes) more

abbrev pub HasByte : List ℕ → Type 0
HasByte text = (byte : ℕ) × (bytes : List ℕ) × (text ≡ byte ∷ bytes)

longer : (text more : List ℕ) → HasByte text → HasByte (text ++ more)
longer text more has = (has.0, has.1 ++ more, ap (λ (l : List ℕ). l ++ more) has.2)

tagged : (first other epoch : ℕ) → HasByte (epoch_tag_bytes first other epoch)
unfolding epoch_tag_bytes
tagged first other epoch = go (epoch == 0)
  where
    go : (b : Bool) → HasByte (if b then first ∷ [] else other ∷ be64 epoch)
    go true = (first, [], refl)
    go false = (other, be64 epoch, refl)

note_has : (note : Note) → HasByte (note_bytes note)
unfolding note_bytes
note_has (Note.Block c b) = (_, _, refl)
note_has (Note.Verified epoch view c) =
    longer (epoch_tag_bytes 1 10 epoch ++ be64 view) (commitment_bytes c)
    (longer (epoch_tag_bytes 1 10 epoch) (be64 view) (tagged 1 10 epoch))
note_has (Note.Certified p) =
    longer (epoch_tag_bytes 2 9 p.epoch) (proposal_bytes p) (tagged 2 9 p.epoch)
note_has (Note.Vote v) = (_, _, refl)
note_has (Note.Cert c) = (_, _, refl)
note_has (Note.Ack height) = (_, _, refl)
note_has (Note.Floor height) = (_, _, refl)
note_has (Note.Prune height) = (_, _, refl)
note_has (Note.Epoch epoch c) = (_, _, refl)

-- notes have bytes
pub has_bytes : (note : Note) (notes : List Note) → HasByte (frame_bytes (note ∷ notes))
has_bytes note notes = longer (note_bytes note) (frame_bytes notes) (note_has note)

next_gate : (frames : List (List Note)) (frame : List Note)
    → gate_behind (gate_of frames) (frame_bytes frame) ≡ gate_of (frames ++ frame ∷ [])
next_gate frames frame =
    let more : length (blocks (map frame_bytes (frames ++ frame ∷ [])))
    ≡ length (blocks (map frame_bytes frames) ++ (1 ∷ body (frame_bytes frame))) =
    ap (λ (l : List (List ℕ)). length (blocks l)) (map-append frame_bytes frames (frame ∷ []))
    ∙ ap length (blocks-push (map frame_bytes frames) (frame_bytes frame)) in
    omega (
      arith,
      more,
      length-append (blocks (map frame_bytes frames)) (1 ∷ body (frame_bytes frame)),
    )

first_is : (gate : ℕ) (frame : List ℕ) (byte : ℕ) (bytes : List ℕ) (rest : List (List DeviceCall))
    → frame ≡ byte ∷ bytes
    → (first_writes (calls_of_append gate frame ∷ rest)
    ≡ Wrote (gate + 1) (body frame ++ 0 ∷ []) true ∷ first_writes rest)
    × (second_writes (calls_of_append gate frame ∷ rest)
    ≡ Wrote gate (1 ∷ []) true ∷ second_writes rest)
first_is gate frame byte bytes rest is = (
  ap (λ (f : List ℕ). first_writes (calls_of_append gate f ∷ rest)) is
      ∙ ap (λ (f : List ℕ). Wrote (gate + 1) (body f ++ 0 ∷ []) true ∷ first_writes rest) (sym is),
  ap (λ (f : List ℕ). second_writes (calls_of_append gate f ∷ rest)) is,
)

firsts : (frames news : List (List Note))
    → first_writes (each_calls frames news)
    ≡ frame_writes (gate_of frames) (map frame_bytes (some_frames news))
firsts frames [] = refl
firsts frames ([] ∷ more) = firsts frames more
firsts frames ((note ∷ notes) ∷ more) =
    let some = has_bytes note notes in
    (first_is (gate_of frames) (frame_bytes (note ∷ notes)) some.0 some.1
    (each_calls (frames ++ (note ∷ notes) ∷ []) more) some.2).0
    ∙ ap
    (λ (l : List DeviceCall). Wrote (gate_of frames + 1) (body (frame_bytes (note ∷ notes)) ++ 0 ∷ [])
    true ∷ l)
    (firsts (frames ++ (note ∷ notes) ∷ []) more
    ∙ ap (λ (g : ℕ). frame_writes g (map frame_bytes (some_frames more)))
    (sym (next_gate frames (note ∷ notes))))

seconds : (frames news : List (List Note))
    → second_writes (each_calls frames news)
    ≡ gate_writes (gate_of frames) (map frame_bytes (some_frames news))
seconds frames [] = refl
seconds frames ([] ∷ more) = seconds frames more
seconds frames ((note ∷ notes) ∷ more) =
    let some = has_bytes note notes in
    (first_is (gate_of frames) (frame_bytes (note ∷ notes)) some.0 some.1
    (each_calls (frames ++ (note ∷ notes) ∷ []) more) some.2).1
    ∙ ap (λ (l : List DeviceCall). Wrote (gate_of frames) (1 ∷ []) true ∷ l)
    (seconds (frames ++ (note ∷ notes) ∷ []) more
    ∙ ap (λ (g : ℕ). gate_writes g (map frame_bytes (some_frames more)))
    (sym (next_gate frames (note ∷ notes))))

-- the calls of a group, or none where it is empty
abbrev group_or_none : ℕ → List (List ℕ) → List DeviceCall
group_or_none gate [] = []
group_or_none gate (frame ∷ frames) = calls_of_group gate (frame ∷ frames)

with_is : (gate : ℕ) (frames : List (List ℕ))
    → with_syncs (frame_writes gate frames) (gate_writes gate frames) ≡ group_or_none gate frames
with_is gate [] = refl
with_is gate (frame ∷ frames) = refl

pub shared_is : (frames news : List (List Note))
    → shared (each_calls frames news)
    ≡ group_or_none (gate_of frames) (map frame_bytes (some_frames news))
shared_is frames news =
    ap (λ (l : List DeviceCall). with_syncs l (second_writes (each_calls frames news)))
    (firsts frames news)
    ∙ ap
    (λ (l : List DeviceCall). with_syncs
    (frame_writes (gate_of frames) (map frame_bytes (some_frames news))) l)
    (seconds frames news)
    ∙ with_is (gate_of frames) (map frame_bytes (some_frames news))

-- ---- what they leave

leaves_group : (frames more : List (List ℕ)) (gate : ℕ) (file : Moment)
    → HasSettled frames gate file → all_short more ≡ true → (image : List ℕ)
    → MayCrashTo file (group_or_none gate more) image → FindsSome frames more image
leaves_group frames [] gate file settled short image (inl had) = absurd had
leaves_group frames [] gate file settled short image (inr is) =
    record {
      first = [];
      rest = [];
      whole = refl;
      found =
          subst (λ (l : List (List ℕ)). Finds l image) (sym (append-nil frames))
          (settled_images frames gate file settled image is);
    }
leaves_group frames (m ∷ more) gate file settled short image left =
    group_leaves frames (m ∷ more) gate file settled short image left

rests_group : (frames more : List (List ℕ)) (gate : ℕ) (file : Moment)
    → HasSettled frames gate file → all_short more ≡ true
    → HasSettled (frames ++ more) (length (blocks (frames ++ more)))
    (last_moment file (group_or_none gate more))
rests_group frames [] gate file settled short =
    subst (λ (l : List (List ℕ)). HasSettled l (length (blocks l)) file)
    (sym (append-nil frames))
    (subst (λ (g : ℕ). HasSettled frames g file) settled.file.place settled)
rests_group frames (m ∷ more) gate file settled short =
    group_settled frames (m ∷ more) gate file settled short

-- ---- frames of notes in frames of bytes

abbrev Reads : List Note → Type 0
Reads notes = notes_in (frame_bytes notes) ≡ Some notes

first_ok : (place : ℕ) (o : Option (List Note)) (more : Result (List (List Note)) ℕ)
    (notes : List Note) (frames : List (List Note))
    → first_frame place o more ≡ Ok (notes ∷ frames) → (o ≡ Some notes) × (more ≡ Ok frames)
first_ok place None more notes frames is = absurd (cc)
first_ok place (Some n) (Ok more) notes frames is = (cc, cc)
first_ok place (Some n) (Err at) notes frames is = absurd (cc)

pub reads_each : (place : ℕ) (frames : List (List Note))
    → frames_from place (map frame_bytes frames) ≡ Ok frames → AllByRecursion Reads frames
reads_each place [] is = tt
reads_each place (f ∷ frames) is =
    let both =
    first_ok place (notes_in (frame_bytes f))
    (frames_from (place + 9 + length (frame_bytes f)) (map frame_bytes frames)) f frames is in
    (both.0, reads_each (place + 9 + length (frame_bytes f)) frames both.1)

pub each_reads : (place : ℕ) (frames : List (List Note)) → AllByRecursion Reads frames
    → frames_from place (map frame_bytes frames) ≡ Ok frames
each_reads place [] all = refl
each_reads place (f ∷ frames) all =
    let later = place + 9 + length (frame_bytes f) in
    ap
    (λ (o : Option (List Note)). first_frame place o (frames_from later (map frame_bytes frames)))
    all.0
    ∙ ap (λ (r : Result (List (List Note)) ℕ). frame_before f r) (each_reads later frames all.1)

front_all : {X : Type 0} (P : X → Type 0) (xs ys : List X) → AllByRecursion P (xs ++ ys)
    → AllByRecursion P xs
front_all P [] ys all = tt
front_all P (x ∷ xs) ys all = (all.0, front_all P xs ys all.1)

pub front_reads : (first rest : List (List Note)) → ReadBack (first ++ rest) → ReadBack first
front_reads first rest all =
    each_reads 0 first (front_all Reads first rest (reads_each 0 (first ++ rest) all))

-- a front of frames of bytes is one of frames of notes
split : (news : List (List Note)) (first rest : List (List ℕ))
    → map frame_bytes (some_frames news) ≡ first ++ rest
    → (front : List (List Note)) × (behind : List (List Note)) × (news ≡ front ++ behind)
    × (map frame_bytes (some_frames front) ≡ first) × (map frame_bytes (some_frames behind) ≡ rest)
split news [] rest is = ([], news, refl, refl, is)
split [] (f ∷ first) rest is = absurd (cc)
split ([] ∷ news) (f ∷ first) rest is =
    let later = split news (f ∷ first) rest is in
    ([] ∷ later.0, later.1, ap (λ (l : List (List Note)). [] ∷ l) later.2, later.3, later.4)
split ((n ∷ ns) ∷ news) (f ∷ first) rest is =
    let same : frame_bytes (n ∷ ns) ≡ f = cc in
    let others : map frame_bytes (some_frames news) ≡ first ++ rest = cc in
    let later = split news first rest others in (
      (n ∷ ns) ∷ later.0,
      later.1,
      ap (λ (l : List (List Note)). (n ∷ ns) ∷ l) later.2,
      ap (λ (l : List (List ℕ)). frame_bytes (n ∷ ns) ∷ l) later.3
          ∙ ap (λ (x : List ℕ). x ∷ first) same,
      later.4,
    )

pub noted_both : (first rest : List (List Note)) → some_frames (first ++ rest) ≡ some_frames first ++ some_frames rest
noted_both [] rest = refl
noted_both ([] ∷ first) rest = noted_both first rest
noted_both ((n ∷ ns) ∷ first) rest =
    ap (λ (l : List (List Note)). (n ∷ ns) ∷ l) (noted_both first rest)

-- a start on the image finds the frames, and those of the first of these notes
pub record HasFront (frames news : List (List Note)) (image : List ℕ) : Type 0 where
  pub first : List (List Note)
  pub rest : List (List Note)
  pub whole : news ≡ first ++ rest
  pub bytes : Finds (map frame_bytes (frames ++ some_frames first)) image
  pub found : FindsNotes (frames ++ some_frames first) image

-- a crash leaves a front of the notes
pub finds_front : (frames news : List (List Note)) (image : List ℕ)
    → ReadBack (frames ++ some_frames news)
    → FindsSome (map frame_bytes frames) (map frame_bytes (some_frames news)) image
    → HasFront frames news image
finds_front frames news image back some =
    let parts = split news some.first some.rest some.whole in
    let first = parts.0 in
    let whole : frames ++ some_frames news ≡ (frames ++ some_frames first) ++ some_frames parts.1 =
    ap (λ (l : List (List Note)). frames ++ some_frames l) parts.2
    ∙ ap (λ (l : List (List Note)). frames ++ l) (noted_both first parts.1)
    ∙ sym (append_assoc frames (some_frames first) (some_frames parts.1)) in
    let same : map frame_bytes frames ++ some.first ≡ map frame_bytes (frames ++ some_frames first) =
    ap (λ (l : List (List ℕ)). map frame_bytes frames ++ l) (sym parts.3)
    ∙ sym (map-append frame_bytes frames (some_frames first)) in
    let finds : Finds (map frame_bytes (frames ++ some_frames first)) image =
    some.found ∙ ap (λ (l : List (List ℕ)). Ok l) same in
    record {
      first = first;
      rest = parts.1;
      whole = parts.2;
      bytes = finds;
      found =
          ap note_frames finds
          ∙ front_reads (frames ++ some_frames first) (some_frames parts.1)
          (subst (λ (l : List (List Note)). ReadBack l) whole back);
    }

short_behind : (xs ys : List (List ℕ)) → all_short (xs ++ ys) ≡ true → all_short ys ≡ true
short_behind [] ys short = short
short_behind (x ∷ xs) ys short = short_behind xs ys (short_rest x (xs ++ ys) short)

pub short_news : (frames news : List (List Note)) → all_short (map frame_bytes (frames ++ news)) ≡ true
    → all_short (map frame_bytes news) ≡ true
short_news frames news short =
    short_behind (map frame_bytes frames) (map frame_bytes news)
    (sym (ap all_short (map-append frame_bytes frames news)) ∙ short)

pub shared_leaves : (frames news : List (List Note)) (file : Moment)
    → HasSettled (map frame_bytes frames) (gate_of frames) file
    → AreWritable (frames ++ some_frames news) → (image : List ℕ)
    → MayCrashTo file (shared (each_calls frames news)) image
    → FindsSome (map frame_bytes frames) (map frame_bytes (some_frames news)) image
shared_leaves frames news file settled writable image left =
    leaves_group (map frame_bytes frames) (map frame_bytes (some_frames news)) (gate_of frames) file
    settled (short_news frames (some_frames news) writable.short) image
    (subst (λ (l : List DeviceCall). MayCrashTo file l image) (shared_is frames news) left)

pub shared_rests : (frames news : List (List Note)) (file : Moment)
    → HasSettled (map frame_bytes frames) (gate_of frames) file
    → AreWritable (frames ++ some_frames news)
    → HasSettled (map frame_bytes (frames ++ some_frames news)) (gate_of (frames ++ some_frames news))
    (last_moment file (shared (each_calls frames news)))
shared_rests frames news file settled writable =
    subst (λ (l : List DeviceCall). HasSettled (map frame_bytes (frames ++ some_frames news))
    (gate_of (frames ++ some_frames news)) (last_moment file l))
    (sym (shared_is frames news))
    (subst
    (λ (l : List (List ℕ)). HasSettled l (length (blocks l))
    (last_moment file (group_or_none (gate_of frames) (map frame_bytes (some_frames news)))))
    (sym (map-append frame_bytes frames (some_frames news)))
    (rests_group (map frame_bytes frames) (map frame_bytes (some_frames news)) (gate_of frames) file settled
    (short_news frames (some_frames news) writable.short)))
