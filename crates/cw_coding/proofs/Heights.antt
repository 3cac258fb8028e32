-- The height of a tree, as it is counted up.
use Rattle.std.proofs.Common.{◌≡◌, ℕ, zero, suc, ◌+◌, ◌*◌, ◌^◌, ◌<◌, ◌≤◌, arith, ap, ◌∙◌, inl, inr, subst}
use Rattle.std.proofs.Math.Nat.{pow-suc}
use Rattle.std.proofs.lemmas.Bool.{cases_lt}
use Rattle.cw_tree.specs.Sizes.{IsHeight}

-- so many levels, with room for this many leaves, are too few
pub record Rises (leaves room height : ℕ) : Type 0 where
  pub room_is : room ≡ 2 ^ height
  pub low : height ≤ 16
  pub below : (g : ℕ) → g < height → 2 ^ g < leaves

still_low : (leaves height : ℕ) → leaves ≤ 65535 → height ≤ 16 → 2 ^ height < leaves → height < 16
still_low leaves height few low less =
    elim (cases_lt height 16) [
      | inl lt ↦ lt
      | inr ge ↦
          let top : height ≡ 16 = omega arith in
          let power : 2 ^ height ≡ 65536 = ap (λ (h : ℕ). 2 ^ h) top in
          absurd (omega arith)
    ]

pub rises : (leaves room height : ℕ) → leaves ≤ 65535 → room < leaves → Rises leaves room height
    → Rises leaves (room * 2) (height + 1)
rises leaves room height few less r =
    let is = r.room_is in
    let here : 2 ^ height < leaves = omega arith in
    let low = still_low leaves height few r.low here in
    let next : height + 1 ≡ suc height = omega arith in
    let power : 2 ^ (height + 1) ≡ 2 ^ height * 2 = ap (λ (h : ℕ). 2 ^ h) next ∙ pow-suc 2 height in
    record {
      room_is = omega arith;
      low = omega arith;
      below = λ g l. elim (cases_lt g height) [
        | inl lt ↦ r.below g lt
        | inr ge ↦ let same : height ≡ g =
            omega arith in subst (λ (h : ℕ). 2 ^ h < leaves) same here
      ];
    }

pub risen : (leaves room height : ℕ) → leaves ≤ room → Rises leaves room height
    → IsHeight leaves height
risen leaves room height enough r =
    record {
      enough = let is = r.room_is in omega arith;
      least = λ g h. elim (cases_lt g height) [
        | inl lt ↦ absurd (let low = r.below g lt in omega arith)
        | inr ge ↦ ge
      ];
    }

-- a tree of so few leaves has at most 16 levels above them
pub height_within : (leaves : ℕ) → leaves ≤ 65535 → (h : ℕ) × IsHeight leaves h × (h ≤ 16)
height_within leaves few =
    up 17 1 0 (omega arith) (record {
      room_is = omega arith;
      low = omega arith;
      below = λ g l. absurd (omega arith);
    })
  where
    up : (left room height : ℕ) → height + left ≡ 17 → Rises leaves room height
        → (h : ℕ) × IsHeight leaves h × (h ≤ 16)
    up zero room height sum r = absurd (let low = r.low in omega arith)
    up (suc left) room height sum r =
        elim (cases_lt room leaves) [
          | inl lt ↦ up left (room * 2) (height + 1) (omega arith)
              (rises leaves room height few lt r)
          | inr ge ↦ (height, risen leaves room height ge r, r.low)
        ]
