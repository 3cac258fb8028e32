-- A place after its member took an event.
use Rattle.std.proofs.Common.{◌≡◌, ℕ, Bool, true, false, List, Some, None, Option, refl, sym, ap, subst, ◌∙◌}
use Rattle.std.specs.Prelude.{if◌then◌else◌, option_and_then, option_map}
use Rattle.cw_types.specs.declared.event.Event.{Event}
use Rattle.cw_types.specs.declared.event.StepOut.{StepOut}
use Rattle.cw_types.specs.declared.vote.Vote.{Vote}
use Rattle.cw_rules.specs.Rules.{Rules}
use Rattle.cw_rules.specs.Step.{Member, Stepped, cut_step, start, step}
use Rattle.cw_rules.specs.World.{Ask, World, event_of}
use Rattle.hail_world.specs.declared.place.Place.{Place}
use Rattle.hail_world.specs.declared.place.Place.TheVariants as place
use Rattle.hail_world.specs.Places.{SitsAs, WorksBy, Makes, did, did_cut, starts_again}
use Rattle.cw_types.specs.declared.note.Note.{Note}
use Rattle.node_disk.specs.Memory.{MemoryState, memory_state}
use Rattle.marshal.specs.Frames.{FindsNotes}
use Rattle.hail_world.specs.MemoryNodes.{HasStepped, MemoryNode, out_of, rules_by}

-- a step by these rules
stepped : (r : Rules) (i : ℕ) (signed : ℕ → Vote
    → Bool) (x : Member) (e : Event) (s new : MemoryNode)
    (out : StepOut)
    → HasStepped (rules_by r.hash s) signed e s new out → rules_by r.hash s ≡ r → s.id ≡ i
    → s.member ≡ x
    → (new.member ≡ (step r i signed x e).member) × (out ≡ out_of (step r i signed x e))
stepped r i signed x e s new out h rules id who =
    let same : step (rules_by r.hash s) s.id signed s.member e ≡ step r i signed x e =
    ap (λ (q : Rules). step q s.id signed s.member e) rules
    ∙ ap (λ (k : ℕ). step r k signed s.member e) id
    ∙ ap (λ (z : Member). step r i signed z e) who in
    (h.member ∙ ap (λ (d : Stepped). d.member) same, h.gives ∙ ap out_of same)

pub took : (r : Rules) (i : ℕ) (signed : ℕ → Vote → Bool) (w : World) (ask : Ask) (e : Event)
    (m new : MemoryNode) (out : StepOut) (o : Option Member)
    → WorksBy r i (place.Live m) → event_of w i ask ≡ Some e
    → HasStepped (rules_by r.hash m) signed e m new out → SitsAs (place.Live m) o
    → Makes o (option_and_then (did r signed w i ask) o) (place.Live new) (Some out)
took r i signed w ask e m new out None sound asks h who = absurd who
took r i signed w ask e m new out (Some x) sound asks h who =
    let live : x.live ≡ true = ap (λ (y : Member). y.live) (sym who) ∙ sound.2.live in
    let done = stepped r i signed x e m new out h sound.0 sound.1 who in
    let made : Makes (Some x) (option_map (step r i signed x) (Some e)) (place.Live new)
    (Some out) =
    (done.0, ap Some done.1) in
    subst
    (λ (b : Bool). Makes (Some x)
    (if b then option_map (step r i signed x) (event_of w i ask) else None) (place.Live new)
    (Some out))
    (sym live)
    (subst
    (λ (v : Option Event). Makes (Some x) (option_map (step r i signed x) v) (place.Live new)
    (Some out))
    (sym asks) made)

-- a step with a stop
pub cut_took : (r : Rules) (i : ℕ) (signed : ℕ → Vote → Bool) (w : World) (a c x : ℕ) (ask : Ask)
    (e : Event) (m : MemoryNode) (p : Place MemoryNode) (out : StepOut) (o : Option Member)
    → WorksBy r i (place.Live m) → event_of w i ask ≡ Some e
    → SitsAs p (Some (cut_step (rules_by r.hash m) m.id signed m.member a c x e).member)
    → out ≡ out_of (cut_step (rules_by r.hash m) m.id signed m.member a c x e)
    → SitsAs (place.Live m) o
    → Makes o (option_and_then (did_cut r signed w i a c x ask) o) p (Some out)
cut_took r i signed w a c x ask e m p out None sound asks there gives who = absurd who
cut_took r i signed w a c x ask e m p out (Some y) sound asks there gives who =
    let live : y.live ≡ true = ap (λ (z : Member). z.live) (sym who) ∙ sound.2.live in
    let same : cut_step (rules_by r.hash m) m.id signed m.member a c x e
    ≡ cut_step r i signed y a c x e =
    ap (λ (q : Rules). cut_step q m.id signed m.member a c x e) sound.0
    ∙ ap (λ (k : ℕ). cut_step r k signed m.member a c x e) sound.1
    ∙ ap (λ (z : Member). cut_step r i signed z a c x e) who in
    let made : Makes (Some y) (option_map (cut_step r i signed y a c x) (Some e)) p (Some out) = (
      subst (λ (d : Stepped). SitsAs p (Some d.member)) same there,
      ap Some (gives ∙ ap out_of same),
    ) in
    subst
    (λ (b : Bool). Makes (Some y)
    (if b then option_map (cut_step r i signed y a c x) (event_of w i ask) else None) p
    (Some out))
    (sym live)
    (subst
    (λ (v : Option Event). Makes (Some y) (option_map (cut_step r i signed y a c x) v) p
    (Some out))
    (sym asks) made)

-- a start where a member was stopped
pub began : (r : Rules) (i : ℕ) (disk : MemoryState) (notes : List Note) (p : Place MemoryNode)
    (out : StepOut) (o : Option Member)
    → ((frames : List (List Note)) → FindsNotes frames (memory_state disk).now.seen
    → SitsAs p (Some (start r i frames).member) × (out ≡ out_of (start r i frames)))
    → SitsAs (place.Stopped disk notes) o
    → Makes o (option_and_then (starts_again r i) o) p (Some out)
began r i disk notes p out None starts who = absurd who
began r i disk notes p out (Some x) starts who =
    let done = starts x.frames who.1 in
    rw who.0 (done.0, ap Some done.1)
