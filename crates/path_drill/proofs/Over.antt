-- A hole's path stays over its place.
use Rattle.std.proofs.Common.{refl, ℤ, pos, ◌≤ℤ◌, Bool, true, false, IsTrue, [], ◌∷◌, ◌++◌, arith}
use Rattle.std.specs.Prelude.{All, int_lt, if◌then◌else◌}
use Rattle.std.proofs.lemmas.Int.{ints}
use Rattle.std.proofs.lemmas.List.Elements.{All-nil, All-cons, All-append}
use Rattle.path_blocks.specs.declared.block.Block.{Block}
use Rattle.path_blocks.specs.declared.block.Block.TheVariants.{Tool, Rapid, Feed, Dwell}
use Rattle.path_blocks.specs.declared.def.Def.{Def}
use Rattle.path_blocks.specs.declared.def.Shape.{Shape}
use Rattle.path_blocks.specs.declared.def.Shape.TheVariants.{Drill, Plane, Pocket}
use Rattle.path_blocks.specs.Kind.{is_drill}
use Rattle.path_blocks.specs.Numbers.{Numbers, numbers_of}
use Rattle.path_blocks.specs.Path.{path_of, path_of_shape}
use Rattle.path_blocks.specs.PathDrill.{down_into, dwell_blocks, path_drill, up_from}
use Rattle.path_drill.specs.OverHole.{MovesOver, StaysOver}

not_below : (z : ℤ) → z ≤ℤ z
not_below z = grind (arith, ints)

down_over : (d : Numbers) (x y : ℤ) → All (MovesOver x y d.bottom) (down_into d x y)
down_over d x y =
    let P : Block → Type 0 = MovesOver x y d.bottom in
    let fed = All-cons P (Feed x y d.bottom d.feed) [] (refl, refl, not_below d.bottom) (All-nil P) in
    let retracted = All-cons P (Rapid x y d.ret) (Feed x y d.bottom d.feed ∷ []) (refl, refl) fed in
    let secured = All-cons P (Rapid x y d.sec) (Rapid x y d.ret ∷ Feed x y d.bottom d.feed ∷ []) (refl, refl) retracted in
    All-cons P (Tool d.tool d.spindle) (Rapid x y d.sec ∷ Rapid x y d.ret ∷ Feed x y d.bottom d.feed ∷ []) tt secured

dwell_over : (b : Bool) (x y bottom ms : ℤ) → All (MovesOver x y bottom) (if b then Dwell ms ∷ [] else [])
dwell_over true x y bottom ms = All-cons (MovesOver x y bottom) (Dwell ms) [] tt (All-nil (MovesOver x y bottom))
dwell_over false x y bottom ms = All-nil (MovesOver x y bottom)

up_over : (d : Numbers) (x y : ℤ) → All (MovesOver x y d.bottom) (up_from d x y)
up_over d x y =
    let P : Block → Type 0 = MovesOver x y d.bottom in
    All-cons P (Rapid x y d.ret) (Rapid x y d.sec ∷ []) (refl, refl) (All-cons P (Rapid x y d.sec) [] (refl, refl) (All-nil P))

path_over : (d : Numbers) (x y dwell : ℤ) → All (MovesOver x y d.bottom) (path_drill d x y dwell)
path_over d x y dwell =
    let P : Block → Type 0 = MovesOver x y d.bottom in
    All-append P (down_into d x y) (dwell_blocks dwell ++ up_from d x y) (down_over d x y)
    (All-append P (dwell_blocks dwell) (up_from d x y) (dwell_over (int_lt (pos 0) dwell) x y d.bottom dwell) (up_over d x y))

shape_over : (d : Numbers) (shape : Shape) → IsTrue (is_drill shape) → All (StaysOver d.bottom shape) (path_of_shape d shape)
shape_over d (Drill x y dwell) kind = path_over d x y dwell
shape_over d (Plane x y ux uy len width step both) kind = absurd cc
shape_over d (Pocket left low right high radial) kind = absurd cc

pub stays_over : (d : Def) → IsTrue (is_drill d.shape) → All (StaysOver d.bottom d.shape) (path_of d)
stays_over d kind = shape_over (numbers_of d) d.shape kind
