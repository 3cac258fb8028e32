-- Device calls behind others, and that a disk for a host goes on as the disk below does. These
-- proofs stand in specs/, since the code gives them as the laws of a disk.
use Rattle.std.proofs.Common.{◌≡◌, List, [], ◌∷◌, ◌++◌, true, false, refl, sym, ◌∙◌, ap, append_assoc}
use Rattle.std.proofs.lemmas.List.{append-nil}
use Rattle.node_disk.specs.Images.{Moment}
use Rattle.node_disk.specs.Disk.{DiskState, DeviceCall, Wrote, Synced}
use Rattle.node_disk.specs.Made.{all_done, moment_behind, last_moment, moments_before, HasMade}
use Rattle.node_disk.specs.Host.{HostState, HostContinues}

pub done_front : (first second : List DeviceCall) → all_done (first ++ second) ≡ true
    → all_done first ≡ true
done_front [] second is = refl
done_front (Wrote place bytes true ∷ first) second is = done_front first second is
done_front (Wrote place bytes false ∷ first) second is = is
done_front (Synced true ∷ first) second is = done_front first second is
done_front (Synced false ∷ first) second is = is

pub done_behind : (first second : List DeviceCall) → all_done (first ++ second) ≡ true
    → all_done second ≡ true
done_behind [] second is = is
done_behind (Wrote place bytes true ∷ first) second is = done_behind first second is
done_behind (Wrote place bytes false ∷ first) second is =
    absurd (let no : false ≡ true = is in cc)
done_behind (Synced true ∷ first) second is = done_behind first second is
done_behind (Synced false ∷ first) second is = absurd (let no : false ≡ true = is in cc)

pub last_append : (moment : Moment) (first second : List DeviceCall)
    → last_moment moment (first ++ second) ≡ last_moment (last_moment moment first) second
last_append moment [] second = refl
last_append moment (call ∷ first) second = last_append (moment_behind moment call) first second

pub before_append : (moment : Moment) (first second : List DeviceCall)
    → moments_before moment (first ++ second)
    ≡ moments_before moment first ++ moments_before (last_moment moment first) second
before_append moment [] second = refl
before_append moment (call ∷ first) second =
    ap (λ (l : List Moment). moment ∷ l) (before_append (moment_behind moment call) first second)

pub made_none : (old new : DiskState) → new.now ≡ old.now → new.past ≡ old.past
    → HasMade [] old new
made_none old new now past = record { now = now; past = past ∙ sym (append-nil old.past) }

pub made_both : (first second : List DeviceCall) (a b c : DiskState) → HasMade first a b
    → HasMade second b c → HasMade (first ++ second) a c
made_both first second a b c one two = record {
  now =
      two.now ∙ ap (λ (m : Moment). last_moment m second) one.now
      ∙ sym (last_append a.now first second);
  past =
      two.past
      ∙ ap (λ (m : Moment). b.past ++ moments_before m second) one.now
      ∙ ap (λ (l : List Moment). l ++ moments_before (last_moment a.now first) second) one.past
      ∙ append_assoc a.past (moments_before a.now first)
      (moments_before (last_moment a.now first) second)
      ∙ ap (λ (l : List Moment). a.past ++ l) (sym (before_append a.now first second));
}

pub host_itself : {D : Type 0} (state : D → DiskState) (continues : D → D → Type 0)
    (itself : (d : D) → continues d d) (d : HostState D) → HostContinues state continues d d
host_itself state continues itself d = record {
  inner = itself d.inner;
  calls = [];
  waiting = sym (append-nil d.waiting);
  made = λ done. made_none (state d.inner) (state d.inner) refl refl;
}

pub host_on : {D : Type 0} (state : D → DiskState) (continues : D → D → Type 0)
    (on : (a b c : D) → continues a b → continues b c → continues a c) (a b c : HostState D)
    → HostContinues state continues a b → HostContinues state continues b c
    → HostContinues state continues a c
host_on state continues on a b c first second = record {
  inner = on a.inner b.inner c.inner first.inner second.inner;
  calls = first.calls ++ second.calls;
  waiting =
      second.waiting ∙ ap (λ (l : List DeviceCall). l ++ second.calls) first.waiting
      ∙ append_assoc a.waiting first.calls second.calls;
  made =
      λ done. made_both first.calls second.calls (state a.inner) (state b.inner) (state c.inner)
      (first.made (done_front first.calls second.calls done))
      (second.made (done_behind first.calls second.calls done));
}
