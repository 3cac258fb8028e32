-- The chain, as boxes with a height and the front of a digest.
use Rattle.std.specs.Prelude.{ℕ, ◌+◌, ◌-◌, ◌*◌, ◌==◌, ◌++◌, List, [], ◌∷◌, codes, drop, if◌then◌else◌, length, take}
use Rattle.std.specs.Fmt.{decimal}
use Rattle.hex.specs.Hex.{encode_lower}
use Rattle.cw_base.specs.declared.hash.Digest32.{Digest32}
use Rattle.run_picture.specs.Elements.{across, box_at, line_along, text_at}

-- what joins a box to the one before it; nothing for genesis
abbrev pub join_text : ℕ → ℕ → ℕ → List ℕ
join_text x y height =
    if height == 0 then [] else line_along (across x (y + 15) (x - 14)) (codes "link")

-- a box at x and y
abbrev pub box_text : ℕ → ℕ → ℕ → Digest32 → List ℕ
box_text x y height digest =
    box_at x y ++ text_at (x + 28) (y + 13) (codes "full mid") (decimal height)
    ++ text_at (x + 28) (y + 25) (codes "tiny mid") (encode_lower (take 2 digest.0))

abbrev pub link_text : ℕ → ℕ → ℕ → Digest32 → List ℕ
link_text x y height digest = join_text x y height ++ box_text x y height digest

-- links beside each other, from a place on; the height of the first place is given
abbrev pub links_from : ℕ → ℕ → ℕ → List Digest32 → List ℕ
links_from y first at [] = []
links_from y first at (digest ∷ more) =
    link_text (14 + 70 * at) y (first + at) digest ++ links_from y first (at + 1) more

-- the last twelve links of a chain
abbrev pub links_text : ℕ → List Digest32 → List ℕ
links_text y chain = links_from y (length chain - 12) 0 (drop (length chain - 12) chain)
