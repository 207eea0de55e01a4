-- What is put one after the other.
use Rattle.std.proofs.Common.{◌≡◌, ◌∙◌, ap, ℤ, List, [], ◌∷◌, ◌++◌, append_assoc}
use Rattle.std.specs.List.{flat_map}
use Rattle.path_blocks.specs.declared.block.Block.{Block}
use Rattle.path_blocks.specs.declared.block.Block.TheVariants.{Tool, Feed}
use Rattle.path_blocks.specs.Numbers.{Numbers, levels}
use Rattle.path_blocks.specs.PathPocket.{Rectangle, innermost, path_pocket, pocket_level, rapid_over, ring, rings, round}

-- once round a rectangle
pub round_put : (old a b c e new : List Block) (d : Numbers) (r : Rectangle) (z left low right high at f : ℤ)
    → left ≡ r.left → low ≡ r.low → right ≡ r.right → high ≡ r.high → at ≡ z → f ≡ d.feed
    → a ≡ old ++ Feed left low at f ∷ [] → b ≡ a ++ Feed right low at f ∷ [] → c ≡ b ++ Feed right high at f ∷ [] → e ≡ c ++ Feed left high at f ∷ []
    → new ≡ e ++ Feed left low at f ∷ [] → new ≡ old ++ round d z r
round_put old a b c e new d r z left low right high at f le lo ri hi ze fe p q s t u = rw (u, t, s, q, p, le, lo, ri, hi, ze, fe) (simp append_assoc)

-- a level
pub level_put : (old a b new : List Block) (d : Numbers) (r p q : Rectangle) (radial z at ret : ℤ) → at ≡ z → ret ≡ d.ret → p ≡ ring r radial (innermost r radial) → q ≡ r
    → a ≡ old ++ rapid_over ret p ∷ [] → b ≡ a ++ rings d r radial at → new ≡ b ++ rapid_over ret q ∷ [] → new ≡ old ++ pocket_level d r radial z
level_put old a b new d r p q radial z at ret ze re pe qe x y n =
    let rings_at = y ∙ ap (λ (h : ℤ). a ++ rings d r radial h) ze in
    let first = x ∙ ap (λ (h : ℤ). old ++ rapid_over h p ∷ []) re ∙ ap (λ (c : Rectangle). old ++ rapid_over d.ret c ∷ []) pe in
    let last = n ∙ ap (λ (h : ℤ). b ++ rapid_over h q ∷ []) re ∙ ap (λ (c : Rectangle). b ++ rapid_over d.ret c ∷ []) qe in
    last ∙ ap (λ (bs : List Block). bs ++ rapid_over d.ret r ∷ []) (rings_at ∙ ap (λ (bs : List Block). bs ++ rings d r radial z) first)
    ∙ append_assoc (old ++ rapid_over d.ret (ring r radial (innermost r radial)) ∷ []) (rings d r radial z) (rapid_over d.ret r ∷ [])
    ∙ append_assoc old (rapid_over d.ret (ring r radial (innermost r radial)) ∷ []) (rings d r radial z ++ rapid_over d.ret r ∷ [])

-- the path
pub path_put : (tool a b new : List Block) (d : Numbers) (r p q : Rectangle) (radial spindle sec : ℤ) → spindle ≡ d.spindle → sec ≡ d.sec → p ≡ ring r radial (innermost r radial) → q ≡ r
    → tool ≡ Tool d.tool spindle ∷ [] → a ≡ tool ++ rapid_over sec p ∷ [] → b ≡ a ++ flat_map (pocket_level d r radial) (levels d) → new ≡ b ++ rapid_over sec q ∷ [] → new ≡ path_pocket d r radial
unfolding path_pocket
path_put tool a b new d r p q radial spindle sec te se pe qe t x y n =
    let tooled = t ∙ ap (λ (s : ℤ). Tool d.tool s ∷ []) te in
    let first = x ∙ ap (λ (h : ℤ). tool ++ rapid_over h p ∷ []) se ∙ ap (λ (c : Rectangle). tool ++ rapid_over d.sec c ∷ []) pe ∙ ap (λ (bs : List Block). bs ++ rapid_over d.sec (ring r radial (innermost r radial)) ∷ []) tooled in
    let last = n ∙ ap (λ (h : ℤ). b ++ rapid_over h q ∷ []) se ∙ ap (λ (c : Rectangle). b ++ rapid_over d.sec c ∷ []) qe in
    last ∙ ap (λ (bs : List Block). bs ++ rapid_over d.sec r ∷ []) (y ∙ ap (λ (bs : List Block). bs ++ flat_map (pocket_level d r radial) (levels d)) first)
