-- An append of a frame that isn't empty, and what a store's error says of its disk.
use Rattle.std.proofs.Common.{◌≡◌, ℕ, ◌+◌, ◌<◌, List, [], ◌∷◌, ◌++◌, length, Result, Ok, Err, Vec, Bool, true, false, refl, sym, ◌∙◌, ap, subst, arith}
use Rattle.std.specs.Prelude.{IsErrOf}
use Rattle.std.specs.declared.alloc.Global.{Global}
use Rattle.std.proofs.lemmas.List.{map-append}
use Rattle.node_disk.specs.Images.{Moment}
use Rattle.node_disk.specs.Disk.{DiskState, HasTold}
use Rattle.node_disk.specs.Frames.{body}
use Rattle.node_disk.specs.Log.{HasSettled, all_items, write_then_sync, with_frame, append_calls, calls_of_append}
use Rattle.node_disk.specs.Errors.{store_error}
use Rattle.node_disk.specs.declared.disk.DiskError.{DiskError}
use Rattle.node_disk.specs.declared.disk.DiskError.TheVariants.{Failed, NoMemory}
use Rattle.node_disk.specs.declared.log.StoreError.{StoreError}
use Rattle.node_disk.specs.declared.log.StoreError.TheVariants as store
use Rattle.node_disk.proofs.Moments.{told_none}
use Rattle.node_disk.proofs.Starting.{disk_only, memory_only}

some_calls : (gate : ℕ) (frame : List ℕ) → 0 < length frame
    → append_calls gate frame ≡ calls_of_append gate frame
some_calls gate [] some = absurd (omega arith)
some_calls gate (byte ∷ bytes) some = refl

-- the device calls that were made are those of an append
pub calls_are : (gate : ℕ) (frame bytes : List ℕ) → 0 < length frame → bytes ≡ body frame ++ 0 ∷ []
    → write_then_sync (gate + 1) bytes ++ write_then_sync gate (1 ∷ []) ≡ calls_of_append gate frame
calls_are gate frame bytes some is =
    ap (λ (l : List ℕ). write_then_sync (gate + 1) l ++ write_then_sync gate (1 ∷ [])) is
    ∙ some_calls gate frame some

pub with_some : (frames : List (List ℕ)) (frame : List ℕ) → 0 < length frame
    → frames ++ frame ∷ [] ≡ with_frame frames frame
with_some frames [] some = absurd (omega arith)
with_some frames (byte ∷ bytes) some = refl

pub with_long : (frames : List (List ℕ)) (frame : List ℕ) → (length frame ≡ 0 → ⊥)
    → frames ++ frame ∷ [] ≡ with_frame frames frame
with_long frames [] some = absurd (some refl)
with_long frames (byte ∷ bytes) some = refl

-- an empty frame isn't added
pub with_none : (frames : List (List ℕ)) (frame : List ℕ) → length frame ≡ 0
    → frames ≡ with_frame frames frame
with_none frames [] none = refl
with_none frames (byte ∷ bytes) none = absurd (omega arith)

pub none_told : (gate : ℕ) (frame : List ℕ) (disk : DiskState) → length frame ≡ 0
    → HasTold (calls_of_append gate frame) disk disk
none_told gate [] disk none = sym (told_none disk.calls)
none_told gate (byte ∷ bytes) disk none = absurd (omega arith)

pub pushed_items : (old mid new : List (Vec ℕ Global)) (kept : Vec ℕ Global) (frame : List ℕ)
    → mid ≡ old → new ≡ mid ++ kept ∷ [] → kept.items ≡ frame
    → all_items new ≡ all_items old ++ frame ∷ []
pushed_items old mid new kept frame same pushed is =
    ap all_items pushed ∙ ap (λ (l : List (Vec ℕ Global)). all_items (l ++ kept ∷ [])) same
    ∙ map-append (λ (v : Vec ℕ Global). v.items) old (kept ∷ [])
    ∙ ap (λ (l : List ℕ). all_items old ++ l ∷ []) is

pub settled_as : (frames now : List (List ℕ)) (gate place : ℕ) (moment : Moment)
    → HasSettled frames gate moment → now ≡ frames → place ≡ gate → HasSettled now place moment
settled_as frames now gate place moment settled same there =
    subst (λ (fs : List (List ℕ)). HasSettled fs place moment) (sym same)
    (subst (λ (n : ℕ). HasSettled frames n moment) (sym there) settled)

pub ok_is_none : (s : StoreError) → IsErrOf {T = Unit {0}} (Ok tt) s → ⊥
ok_is_none s is = cc

pub err_is : (s t : StoreError) → IsErrOf {T = Unit {0}} (Err s) t → s ≡ t
err_is s t is = cc

-- want of memory is no other error
pub not_disk : IsErrOf {T = Unit {0}} (Err store.NoMemory) store.Disk → ⊥
not_disk is = cc

pub not_failed : IsErrOf {T = Unit {0}} (Err store.NoMemory) store.Failed → ⊥
not_failed is = cc

pub not_foreign : (place : ℕ) → IsErrOf {T = Unit {0}} (Err store.NoMemory) (store.Foreign place)
    → ⊥
not_foreign place is = cc

pub never_both : (b : Bool) → b ≡ false → b ≡ true → ⊥
never_both b is was = cc

-- the disk answered so
pub disk_failed : {T : Type 0} (e : DiskError) (s : StoreError) (r : Result T DiskError)
    → s ≡ store_error e → r ≡ Err e → s ≡ store.Disk → r ≡ Err Failed
disk_failed e s r from is so = is ∙ ap (λ d. Err d) (disk_only e (sym from ∙ so))

pub disk_refused : {T : Type 0} (e : DiskError) (s : StoreError) (r : Result T DiskError)
    → s ≡ store_error e → r ≡ Err e → s ≡ store.NoMemory → r ≡ Err NoMemory
disk_refused e s r from is so = is ∙ ap (λ d. Err d) (memory_only e (sym from ∙ so))

pub never_failed : (e : DiskError) (s : StoreError) → s ≡ store_error e → s ≡ store.Failed → ⊥
never_failed Failed s from so = let no : store.Disk ≡ store.Failed = sym from ∙ so in cc
never_failed NoMemory s from so = let no : store.NoMemory ≡ store.Failed = sym from ∙ so in cc

pub never_foreign : (place : ℕ) (e : DiskError) (s : StoreError) → s ≡ store_error e
    → s ≡ store.Foreign place → ⊥
never_foreign place Failed s from so =
    let no : store.Disk ≡ store.Foreign place = sym from ∙ so in
    cc
never_foreign place NoMemory s from so =
    let no : store.NoMemory ≡ store.Foreign place = sym from ∙ so in
    cc
