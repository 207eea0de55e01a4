-- The first blocks of a path, and one more.
use Rattle.std.proofs.Common.{◌≡◌, ◌∙◌, sym, ap, subst, arith, ℕ, ◌+◌, ◌<◌, ◌≤◌, IsTrue, nat_le, List, [], ◌∷◌, ◌++◌, length, length-append, take, Some}
use Rattle.std.specs.Prelude.{slice_get}
use Rattle.std.proofs.lemmas.List.{length-take, take_more}
use Rattle.std.proofs.lemmas.Option.{slice_get_within, get_or_from_slice_get}
use Rattle.path_blocks.specs.declared.block.Block.{Block}
use Rattle.path_blocks.specs.declared.def.Def.{Def}
use Rattle.path_blocks.specs.Numbers.{numbers_of}
use Rattle.path_blocks.specs.Path.{path_of}
use Rattle.path_blocks.specs.Place.{Place, onward}
use Rattle.path_blocks.proofs.Lengths.{length-path_from}

-- the first of a list are no more than all
firsts_within : {A : Type 0} (xs path : List A) → xs ≡ take (length xs) path → length xs ≤ length path
firsts_within xs path e = omega (arith, ap length e, length-take (length xs) path)

-- one more of the first
firsts_more : {A : Type 0} (xs ys path : List A) (x : A) → xs ≡ take (length xs) path → slice_get path (length xs) ≡ Some x → ys ≡ xs ++ x ∷ [] → ys ≡ take (length xs + 1) path
firsts_more {A} xs ys path x e next more =
    more ∙ ap (λ (zs : List A). zs ++ x ∷ []) e
    ∙ sym (take_more path (length xs) x (slice_get_within path (length xs) x next) ∙ ap (λ (y : A). take (length xs) path ++ y ∷ []) (get_or_from_slice_get path (length xs) x x next))

longer : {A : Type 0} (xs ys : List A) (x : A) → ys ≡ xs ++ x ∷ [] → length ys ≡ length xs + 1
longer xs ys x more = ap length more ∙ length-append xs (x ∷ []) ∙ omega arith

few : (n count : ℕ) → n ≡ count → IsTrue (nat_le count 20000) → n ≤ 20000
few n count e h = grind arith

-- a path has no more than the most blocks
pub length_few : (d : Def) → length (path_of d) ≤ 20000
length_few d = few (length (path_of d)) _ (length-path_from (numbers_of d)) d.few

-- the first blocks of a path are no more than its blocks
pub made_within : (d : Def) (made : List Block) → made ≡ take (length made) (path_of d) → length made ≤ length (path_of d)
made_within d made e = firsts_within made (path_of d) e

-- the first blocks with the next block
pub made_more : (d : Def) (made new : List Block) (b : Block) (p : Place) → ◌≡◌ {A = Place} (record { def = d; given = length made }) p → made ≡ take (length made) (path_of d)
    → slice_get (path_of p.def) p.given ≡ Some b → new ≡ made ++ b ∷ [] → new ≡ take (length new) (path_of d)
made_more d made new b p at e next more =
    let here : slice_get (path_of d) (length made) ≡ Some b = subst (λ (q : Place). slice_get (path_of q.def) q.given ≡ Some b) (sym at) next in
    firsts_more made new (path_of d) b e here more ∙ ap (λ (n : ℕ). take n (path_of d)) (sym (longer made new b more))

-- where that is
pub place_more : (d : Def) (made new : List Block) (b : Block) (p : Place) → ◌≡◌ {A = Place} (record { def = d; given = length made }) p
    → slice_get (path_of p.def) p.given ≡ Some b → new ≡ made ++ b ∷ [] → ◌≡◌ {A = Place} (record { def = d; given = length new }) (onward p 1)
place_more d made new b p at next more =
    let here : slice_get (path_of d) (length made) ≡ Some b = subst (λ (q : Place). slice_get (path_of q.def) q.given ≡ Some b) (sym at) next in
    let inside : length made < length (path_of d) = slice_get_within (path_of d) (length made) b here in
    ap (λ (n : ℕ). record { def = d; given = n }) (longer made new b more ∙ omega (arith, inside))
    ∙ ap (λ (q : Place). onward q 1) at
