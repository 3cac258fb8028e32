use Rattle.std.proofs.Common.{◌≡◌, ◌∙◌, ℕ, List, None, Some, Err, length, map, ap, subst, sym, rules}
use Rattle.std.proofs.lemmas.List.{length-map}
use Rattle.node_disk.specs.Frames.{IsAtRest, frames_in}
use Rattle.node_disk.specs.Records.{first_refused}
use Rattle.node_disk.specs.declared.log.StoreError.TheVariants as store
use Rattle.node_disk.proofs.AtRest.{finds_at_rest}
use Rattle.node_disk.proofs.FramesIn.{frames_rest}
use Rattle.node_disk.proofs.Refusing.{refused_of}
use Rattle.node_disk.proofs.records.read_into.Goals as goal

pub returns-in-Ok-read_each : goal.returns-in-Ok-read_each
returns-in-Ok-read_each g c =
    let frames : List (List ℕ) = map (λ frame. frame.now) c.in-Ok.frames.items in
    let bytes : List ℕ = c.args.bytes.now in
    let gate : ℕ = c.in-Ok.gate in
    let is : IsAtRest frames gate bytes = c.in-Ok.ensures.found in
    let counted : c.len.result ≡ length c.in-Ok.frames.items = search rules in
    let size : c.len.result ≡ length frames =
    counted ∙ sym (length-map c.in-Ok.frames.items (λ frame. frame.now)) in
    let same : frames_in c.len.result bytes ≡ frames =
    frames_rest frames gate c.len.result bytes is size in
    let kept : g.K.Records.keeps c.read_each.new.records frames =
    rw c.deref.ensures.value at c.in-Ok-read_each.ensures.kept in
    let all : first_refused g.K.Records.is_record 0 0 frames ≡ None =
    rw c.deref.ensures.value at c.in-Ok-read_each.ensures.all_records in
    record {
      rests = subst (λ (fs : List (List ℕ)). IsAtRest fs gate bytes) (sym same) is;
      counted = ap length same ∙ sym size;
      kept =
          subst (λ (fs : List (List ℕ)). g.K.Records.keeps c.read_each.new.records fs) (sym same)
          kept;
      all_records =
          refused_of g.K.Records.is_record frames bytes None (finds_at_rest frames gate bytes is)
          all;
      foreign = λ place e. absurd cc;
      disk = λ e. absurd cc;
      failed = λ e. absurd cc;
    }

pub returns-in-Ok-clause-foreign : goal.returns-in-Ok-clause-foreign
returns-in-Ok-clause-foreign g c place e =
    let frames : List (List ℕ) = map (λ frame. frame.now) c.in-Ok.frames.items in
    let bytes : List ℕ = c.args.bytes.now in
    let so : c.in-Err-read_each.error ≡ store.Foreign place = cc in
    let refused : first_refused g.K.Records.is_record 0 0 frames ≡ Some place =
    rw c.deref.ensures.value at
    c.read_each.ensures.foreign place (c.in-Err-read_each.is ∙ ap (λ x. Err x) so) in
    refused_of g.K.Records.is_record frames bytes (Some place)
    (finds_at_rest frames c.in-Ok.gate bytes c.in-Ok.ensures.found) refused
