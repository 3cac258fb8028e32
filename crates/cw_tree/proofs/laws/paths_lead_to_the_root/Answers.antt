use Rattle.std.proofs.Common.{sym, subst}
use Rattle.std.proofs.lemmas.Option.{slice_get_within, get_or_from_slice_get}
use Rattle.cw_tree.proofs.TreeRoots.{root_by-path_of, path_of-le}
use Rattle.cw_tree.specs.Sizes.{AreSized}
use Rattle.cw_tree.proofs.Bounds.{sized_path, chunk_bytes-le}
use Rattle.cw_tree.proofs.laws.paths_lead_to_the_root.Goals as goal

pub returns : goal.returns
returns g c =
    let hash = g.H.Hasher.digest_of in
    let content = g.H.Digest.Digest.content in
    let size = g.H.Digest.Digest.SIZE in
    let laws =
    g.met.H.Hasher g.world.𝓛 g.world.𝓜 g.world.𝓡 ((λ s x. x), (λ x. x), (λ x. x), λ x. x) in
    record {
      leads =
          λ ds i d at. root_by-path_of hash content ds i d (slice_get_within ds i d at)
          (sym (get_or_from_slice_get ds i d d at));
      short = λ ds i h within height. path_of-le hash content ds i h within height;
      size =
          λ ds i h p few is. chunk_bytes-le content size h p
          (subst (AreSized content size) (sym is)
          (sized_path hash content size laws.sized i ds))
          few;
    }
