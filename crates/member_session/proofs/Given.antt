-- What is told of a step, part by part.
use Rattle.std.proofs.Common.{◌≡◌, ◌∙◌, ◌++◌, ◌∷◌, [], List, ap, append_assoc, refl, ℕ}
use Rattle.std.specs.List.{flat_map}
use Rattle.cw_base.specs.declared.hash.Digest32.{Digest32}
use Rattle.cw_types.specs.declared.event.Handed.{Handed}
use Rattle.cw_types.specs.declared.event.StepOut.{StepOut}
use Rattle.cw_types.specs.declared.note.Note.{Note}
use Rattle.cw_rules.specs.Step.{member_notes}
use Rattle.cw_rules.specs.declared.travel.Travel.{Travel}
use Rattle.marshal.specs.Stored.{Stored, marshal_rules, notes_of}
use Rattle.node.specs.State.{IsMarshalOf, NodeState, stepped}
use Rattle.node_disk.specs.Host.{HostState}
use Rattle.node_disk.specs.Memory.{MemoryState}
use Rattle.member_lines.specs.Answers.{send_line, ticket_line}
use Rattle.member_session.specs.Serving.{Serving, serving_of, serving_rules}
use Rattle.member_session.specs.Told.{call_line, given_text, hand_out_line}
use Rattle.member_session.proofs.Taking.{notes_told, told_node}

-- what is handed out is told by the store's rules as by the member's: no block that is held asks
-- for more than the hash
module _ (hash : List ℕ → Digest32) (travel : Travel) (m : Stored (HostState MemoryState))
    (s : Serving) (notes : List Note) where
  abbrev by_store : Handed → List ℕ
  by_store = hand_out_line (marshal_rules hash m) notes

  abbrev by_member : Handed → List ℕ
  by_member = hand_out_line (serving_rules hash travel s) notes

  one_same : (h : Handed) → by_store h ≡ by_member h
  one_same h = refl

  pub hands_same : (handed : List Handed) → flat_map by_store handed ≡ flat_map by_member handed
  hands_same [] = refl
  hands_same (h ∷ more) =
      ap (λ (l : List ℕ). l ++ flat_map by_store more) (one_same h)
      ∙ ap (λ (l : List ℕ). by_member h ++ l) (hands_same more)

four_parts : (b c s h t : List ℕ) → (((b ++ c) ++ s) ++ h) ++ t ≡ b ++ (c ++ (s ++ (h ++ t)))
four_parts b c s h t =
    append_assoc ((b ++ c) ++ s) h t ∙ append_assoc (b ++ c) s (h ++ t)
    ∙ append_assoc b c (s ++ (h ++ t))

in_order : (before c s h g t called sent handed after : List ℕ)
    → called ≡ before ++ c → sent ≡ called ++ s → handed ≡ sent ++ h → h ≡ g
    → after ≡ handed ++ t → after ≡ before ++ (c ++ (s ++ (g ++ t)))
in_order before c s h g t called sent handed after calls sends hands same ends =
    ends
    ∙ ap (λ (l : List ℕ). l ++ t)
    (hands
    ∙ ap (λ (l : List ℕ). l ++ h) (sends ∙ ap (λ (l : List ℕ). l ++ s) calls)
    ∙ ap (λ (l : List ℕ). ((before ++ c) ++ s) ++ l) same)
    ∙ four_parts before c s g t

pub parts_told : {A : Type 0} (hash : List ℕ → Digest32)
    (n : NodeState (HostState MemoryState) A) (m : Stored (HostState MemoryState)) (out : StepOut)
    (before called sent handed after : List ℕ)
    → IsMarshalOf (told_node n) m
    → called ≡ before ++ flat_map call_line n.log.disk.waiting
    → sent ≡ called ++ flat_map send_line out.sent
    → handed ≡ sent ++ flat_map (hand_out_line (marshal_rules hash m) (notes_of m)) out.handed
    → after ≡ handed ++ flat_map ticket_line out.tickets
    → after
    ≡ before
    ++ given_text (serving_rules hash n.travel (serving_of n)) n.log.disk.waiting
    (stepped n.member out)
parts_told hash n m out before called sent handed after is calls sends hands ends =
    let same : flat_map (by_store hash n.travel m (serving_of n) (notes_of m)) out.handed
    ≡ flat_map (by_member hash n.travel m (serving_of n) (member_notes n.member)) out.handed =
    ap
    (λ (notes : List Note). flat_map (by_store hash n.travel m (serving_of n) notes) out.handed)
    (notes_told (told_node n) m is)
    ∙ hands_same hash n.travel m (serving_of n) (member_notes n.member) out.handed in
    in_order before (flat_map call_line n.log.disk.waiting) (flat_map send_line out.sent)
    (flat_map (by_store hash n.travel m (serving_of n) (notes_of m)) out.handed)
    (flat_map (by_member hash n.travel m (serving_of n) (member_notes n.member)) out.handed)
    (flat_map ticket_line out.tickets) called sent handed after calls sends hands same ends
