-- What a question is answered from.
use Rattle.std.proofs.Common.{subst, ◌≡◌, ◌∙◌, ◌++◌, [], List, None, Option, Some, ap, false, refl, sym, true, ℕ}
use Rattle.std.specs.Prelude.{option_map}
use Rattle.std.specs.Option.{option_map_or}
use Rattle.std.proofs.lemmas.List.{append-nil}
use Rattle.cw_base.specs.declared.hash.Digest32.{Digest32}
use Rattle.cw_types.specs.Block.{Block}
use Rattle.cw_types.specs.Encoding.{block_bytes}
use Rattle.cw_types.specs.Epochs.{Epochs}
use Rattle.cw_types.specs.declared.commitment.Commitment.{Commitment}
use Rattle.cw_types.specs.declared.message.Message.TheVariants as message
use Rattle.cw_types.specs.declared.note.Note.{Note}
use Rattle.cw_types.specs.declared.vote.Cert.{Cert}
use Rattle.cw_rules.specs.Held.{at_height}
use Rattle.cw_rules.specs.Step.{member_notes}
use Rattle.cw_rules.specs.declared.travel.Travel.{Travel}
use Rattle.marshal.specs.Finding.{finalization, identified, info_of}
use Rattle.marshal.specs.Stored.{Stored, marshal_rules, notes_of}
use Rattle.marshal.specs.declared.identifier.Identifier.{Identifier}
use Rattle.marshal.proofs.Applications.{any_finalization, any_height, any_identified}
use Rattle.node.specs.State.{IsMarshalOf, NodeState}
use Rattle.node_disk.specs.Host.{HostState}
use Rattle.node_disk.specs.Memory.{MemoryState}
use Rattle.member_lines.specs.Answers.{block_line, final_line}
use Rattle.member_session.specs.Serving.{Serving, accepting, serving_of, serving_rules}
use Rattle.member_session.specs.Talk.{TellsFound, block_told}
use Rattle.member_session.proofs.Taking.{notes_told}

-- where nothing is there, nothing was told
pub told_none : {B : Type 0} (found : Option B) (f : B → List ℕ) (before after : List ℕ)
    → found ≡ None → after ≡ before → TellsFound (option_map f found) before after false
told_none {B} found f before after none is =
    subst (λ (o : Option B). TellsFound (option_map f o) before after false) (sym none)
    (record { found = refl; told = is ∙ sym (append-nil before) })

-- and where something is, that was
pub told_some : {B : Type 0} (found : Option B) (f : B → List ℕ) (b : B) (before after : List ℕ)
    → found ≡ Some b → after ≡ before ++ f b → TellsFound (option_map f found) before after true
told_some {B} found f b before after some is =
    subst (λ (o : Option B). TellsFound (option_map f o) before after true) (sym some)
    (record { found = refl; told = is })

-- nothing is there to tell of
pub none_of : {B C : Type 0} (f : B → C) (found : Option B) → None ≡ option_map f found
    → found ≡ None
none_of f None is = refl
none_of f (Some b) is = cc

-- a marshal's answers, from its member's notes
module _ {A : Type 0} (hash : List ℕ → Digest32) (travel : Travel)
    (n : NodeState (HostState MemoryState) A) (m : Stored (HostState MemoryState))
    (s : Serving) where
  of_member : {B : Type 0} (f : Epochs → ℕ → List Note → B) → IsMarshalOf n m → serving_of n ≡ s
      → f m.epochs m.backlog (notes_of m) ≡ f s.epochs s.backlog (member_notes s.member)
  of_member f is serves =
      ap (λ (x : Epochs). f x m.backlog (notes_of m)) is.epochs
      ∙ ap (λ (b : ℕ). f n.epochs b (notes_of m)) is.backlog
      ∙ ap (λ (l : List Note). f n.epochs n.backlog l) (notes_told n m is)
      ∙ ap (λ (x : Serving). f x.epochs x.backlog (member_notes x.member)) serves

  pub height_asked : (height : ℕ) → IsMarshalOf n m → serving_of n ≡ s
      → at_height (marshal_rules hash m) (notes_of m) height
      ≡ at_height (serving_rules hash travel s) (member_notes s.member) height
  height_asked height is serves =
      any_height travel hash m.epochs m.backlog (λ block parent. true) (notes_of m) height
      ∙ of_member (λ x b notes. at_height (accepting hash travel x b) notes height) is serves

  pub block_asked : (id : Identifier) → IsMarshalOf n m → serving_of n ≡ s
      → identified (marshal_rules hash m) (notes_of m) id
      ≡ identified (serving_rules hash travel s) (member_notes s.member) id
  block_asked id is serves =
      any_identified travel hash m.epochs m.backlog (λ block parent. true) (notes_of m) id
      ∙ of_member (λ x b notes. identified (accepting hash travel x b) notes id) is serves

  pub final_asked : (height : ℕ) → IsMarshalOf n m → serving_of n ≡ s
      → finalization (marshal_rules hash m) (notes_of m) height
      ≡ finalization (serving_rules hash travel s) (member_notes s.member) height
  final_asked height is serves =
      any_finalization travel hash m.epochs m.backlog (λ block parent. true) (notes_of m) height
      ∙ of_member (λ x b notes. finalization (accepting hash travel x b) notes height) is serves

-- a block that was told
pub told_of_block : (hash : List ℕ → Digest32) (travel : Travel) (s : Serving)
    (commitment : Option Commitment) (found : Option Block) (b : Block) (d : Digest32)
    (height : ℕ) (payload before after : List ℕ)
    → Some b ≡ found → d ≡ hash (block_bytes b) → height ≡ b.height → payload ≡ b.payload
    → after ≡ before ++ block_line height d commitment payload
    → TellsFound (block_told (serving_rules hash travel s) commitment found) before after true
told_of_block hash travel s commitment found b d height payload before after is_found is_digest
    is_height is_payload is =
    told_some found (λ x. block_line x.height (hash (block_bytes x)) commitment x.payload) b before
    after (sym is_found)
    (is
    ∙ ap (λ (x : Digest32). before ++ block_line height x commitment payload) is_digest
    ∙ ap (λ (h : ℕ). before ++ block_line h (hash (block_bytes b)) commitment payload) is_height
    ∙ ap (λ (l : List ℕ). before ++ block_line b.height (hash (block_bytes b)) commitment l)
    is_payload)

-- the digest that is told is that of the block
pub digest_told : {D : Type 0} (hash : List ℕ → Digest32) (m : Stored D) (found : Option Block)
    (b : Block) (height : ℕ) (d : Digest32)
    → Some (height, d) ≡ option_map (info_of (marshal_rules hash m)) found → Some b ≡ found
    → d ≡ hash (block_bytes b)
digest_told hash m found b height d info is =
    ap (λ (o : Option (ℕ × Digest32)). option_map_or (λ p. p.1) o d)
    (info ∙ ap (λ (o : Option Block). option_map (info_of (marshal_rules hash m)) o) (sym is))
