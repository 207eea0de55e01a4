-- The blocks of a drilled hole.
use Rattle.std.proofs.Common.{◌≡◌, ◌∙◌, sym, ap, refl, arith, ℕ, ◌-◌, ℤ, pos, true, false, List, ◌++◌, Some}
use Rattle.std.specs.Prelude.{slice_get, int_lt, int_le}
use Rattle.std.proofs.lemmas.Int.{ints}
use Rattle.path_blocks.specs.declared.block.Block.{Block}
use Rattle.path_blocks.specs.declared.def.Def.{Def}
use Rattle.path_blocks.specs.declared.def.Shape.{Shape}
use Rattle.path_blocks.specs.declared.def.Shape.TheVariants.{Drill}
use Rattle.path_blocks.specs.Numbers.{Numbers, numbers_of}
use Rattle.path_blocks.specs.Path.{path_of, path_of_shape}
use Rattle.path_blocks.specs.PathDrill.{dwell_blocks, path_drill, up_from}
use Rattle.path_gen.proofs.Pieces.{of_later}

-- a dwell that isn't 0 or below, told in another way
pub waits : (dwell back : ℤ) → back ≡ dwell → int_le back (pos 0) ≡ false → int_lt (pos 0) dwell ≡ true
waits dwell back e h = grind (arith, ints)

-- a block after the dwell
pub after_dwell : (dwell : ℤ) (up : List Block) (i : ℕ) → int_lt (pos 0) dwell ≡ true → (i ≡ 0 → ⊥) → slice_get (dwell_blocks dwell ++ up) i ≡ slice_get up (i - 1)
after_dwell dwell up i waits h = rw waits (of_later _ up i h)

-- the moves up, told in two ways
pub up_told : (d : Numbers) (x y x' y' : ℤ) (i : ℕ) → x' ≡ x → y' ≡ y → slice_get (up_from d x y) i ≡ slice_get (up_from d x' y') i
up_told d x y x' y' i e f = ap (λ (z : ℤ). slice_get (up_from d z y) i) (sym e) ∙ ap (λ (z : ℤ). slice_get (up_from d x' z) i) (sym f)

-- the blocks after the feed to the bottom, told in two ways
pub back_told : (d : Numbers) (x y dwell x' y' dwell' : ℤ) (i : ℕ) → x' ≡ x → y' ≡ y → dwell' ≡ dwell
    → slice_get (dwell_blocks dwell ++ up_from d x y) i ≡ slice_get (dwell_blocks dwell' ++ up_from d x' y') i
back_told d x y dwell x' y' dwell' i e f g =
    ap (λ (z : ℤ). slice_get (dwell_blocks dwell ++ up_from d z y) i) (sym e)
    ∙ ap (λ (z : ℤ). slice_get (dwell_blocks dwell ++ up_from d x' z) i) (sym f)
    ∙ ap (λ (z : ℤ). slice_get (dwell_blocks z ++ up_from d x' y') i) (sym g)

path_is : (d : Numbers) (s : Shape) (x y dwell : ℤ) → s ≡ Drill x y dwell → path_of_shape d s ≡ path_drill d x y dwell
path_is d s x y dwell e = rw e refl

-- a block of a hole's path is one of its definition's
pub hole_told : (d : Def) (x y dwell x' y' dwell' : ℤ) (i j : ℕ) (b : Block) → d.shape ≡ Drill x y dwell → x' ≡ x → y' ≡ y → dwell' ≡ dwell → j ≡ i
    → slice_get (path_drill (numbers_of d) x' y' dwell') j ≡ Some b → slice_get (path_of d) i ≡ Some b
hole_told d x y dwell x' y' dwell' i j b e p q r k got =
    ap (λ (bs : List Block). slice_get bs i) (path_is (numbers_of d) d.shape x y dwell e)
    ∙ ap (λ (z : ℤ). slice_get (path_drill (numbers_of d) z y dwell) i) (sym p)
    ∙ ap (λ (z : ℤ). slice_get (path_drill (numbers_of d) x' z dwell) i) (sym q)
    ∙ ap (λ (z : ℤ). slice_get (path_drill (numbers_of d) x' y' z) i) (sym r)
    ∙ ap (λ (n : ℕ). slice_get (path_drill (numbers_of d) x' y' dwell') n) (sym k)
    ∙ got
