-- What is put one after the other.
use Rattle.std.proofs.Common.{◌≡◌, ◌∙◌, ℕ, ℤ, List, [], ◌∷◌, ◌++◌, ap, append_assoc, refl}
use Rattle.std.specs.List.{flat_map}
use Rattle.path_blocks.specs.declared.block.Block.{Block}
use Rattle.path_blocks.specs.declared.block.Block.TheVariants.{Tool}
use Rattle.path_blocks.specs.Numbers.{Numbers, levels}
use Rattle.path_blocks.specs.PathPlane.{Face, feed_to, last_end, near_end, path_plane, plane_level, rapid_to, row, row_end, row_start, rows}

-- a row
pub row_put : (old mid new : List Block) (d : Numbers) (face : Face) (z back : ℤ) (i o : ℕ) (p q : ℤ × ℤ) → back ≡ z → p ≡ row_start face i o → q ≡ row_end face i o
    → mid ≡ old ++ feed_to d back p ∷ [] → new ≡ mid ++ feed_to d back q ∷ [] → new ≡ old ++ row d face z (i, o)
row_put old mid new d face z back i o p q ze pe qe m n = rw (n, m, ze, pe, qe) (append_assoc old (feed_to d z (row_start face i o) ∷ []) (feed_to d z (row_end face i o) ∷ []))

-- a level
pub level_put : (old a b new : List Block) (d : Numbers) (face : Face) (z back ret : ℤ) (p q : ℤ × ℤ) → back ≡ z → ret ≡ d.ret → p ≡ near_end face 0 → q ≡ last_end face
    → a ≡ old ++ rapid_to ret p ∷ [] → b ≡ a ++ flat_map (row d face back) (rows face) → new ≡ b ++ rapid_to ret q ∷ [] → new ≡ old ++ plane_level d face z
level_put old a b new d face z back ret p q ze re pe qe x y n =
    let rows_at = y ∙ ap (λ (h : ℤ). a ++ flat_map (row d face h) (rows face)) ze in
    rw (n, rows_at, x, re, pe, qe)
    (append_assoc (old ++ rapid_to d.ret (near_end face 0) ∷ []) (flat_map (row d face z) (rows face)) (rapid_to d.ret (last_end face) ∷ [])
    ∙ append_assoc old (rapid_to d.ret (near_end face 0) ∷ []) (flat_map (row d face z) (rows face) ++ rapid_to d.ret (last_end face) ∷ []))

-- the path
pub path_put : (tool a b new : List Block) (d : Numbers) (face : Face) (spindle sec : ℤ) (p q : ℤ × ℤ) → spindle ≡ d.spindle → sec ≡ d.sec → p ≡ near_end face 0 → q ≡ last_end face
    → tool ≡ Tool d.tool spindle ∷ [] → a ≡ tool ++ rapid_to sec p ∷ [] → b ≡ a ++ flat_map (plane_level d face) (levels d) → new ≡ b ++ rapid_to sec q ∷ [] → new ≡ path_plane d face
unfolding path_plane
path_put tool a b new d face spindle sec p q te se pe qe t x y n = rw (n, y, x, t, te, se, pe, qe) refl
