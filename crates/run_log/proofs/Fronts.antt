-- A text that is put line by line, and what a sink has taken where a put fails.
use Rattle.std.proofs.Common.{◌≡◌, ℕ, ◌+◌, ◌<◌, get_or, drop, List, [], ◌∷◌, ◌++◌, length, take, Option, Some, None, Result, Ok, Err, refl, sym, ap, subst, ◌∙◌, append_assoc, add-one, drop-cons, arith, length-append}
use Rattle.std.proofs.Math.Seq.{take-append-add, take-suc, take-length}
use Rattle.std.proofs.lemmas.List.{take-append-le, take-append-drop, append-nil}
use Rattle.std.proofs.lemmas.Grind.{flat_map-append}
use Rattle.std.specs.List.{flat_map}
use Rattle.std.specs.Prelude.{OnOk, OnErr}
use Rattle.run_log.specs.Line.{line}
use Rattle.run_log.specs.LinesFrom.{lines_from}
use Rattle.nc_outside.specs.Outside.{Appends, AppendsFront}

pub front_after : (old mid new : Option (List ℕ)) (a b rest : List ℕ) → Appends old mid a → AppendsFront mid new b → AppendsFront old new (a ++ (b ++ rest))
front_after None mid new a b rest first second = (0, omega arith, tt)
front_after (Some before) mid new a b rest first (n, le, then_on) =
    let on = subst (λ (m : Option (List ℕ)). Appends m new (take n b)) first then_on in
    (length a + n, omega (arith, length-append a (b ++ rest), length-append b rest), rw (take-append-add a (b ++ rest) n, take-append-le n b rest le, ← append_assoc) on)

pub front_first : (old new : Option (List ℕ)) (b rest : List ℕ) → AppendsFront old new b → AppendsFront old new (b ++ rest)
front_first old new b rest (n, le, on) = (n, omega (arith, length-append b rest), rw (take-append-le n b rest le) on)

pub appends_after : (old mid new : Option (List ℕ)) (a b : List ℕ) → Appends old mid a → Appends mid new b → Appends old new (a ++ b)
appends_after None mid new a b first second = tt
appends_after (Some before) mid new a b first second = let on = subst (λ (m : Option (List ℕ)). Appends m new b) first second in rw (← append_assoc) on

-- two texts put one after the other
pub put_twice : (old mid new x y z : List ℕ) → mid ≡ old ++ x → new ≡ mid ++ y → x ++ y ≡ z → new ≡ old ++ z
put_twice old mid new x y z first second both = second ∙ ap (λ (m : List ℕ). m ++ y) first ∙ append_assoc old x y ∙ ap (λ (m : List ℕ). old ++ m) both

-- the first i lines were put, and then the next one
pub one_more : {X : Type 0} (f : X → List ℕ) (start : List ℕ) (t : List X) (i : ℕ) (d : X) → i < length t → start ++ flat_map f (take (i + 1) t) ≡ (start ++ flat_map f (take i t)) ++ f (get_or t i d)
one_more f start t i d lt =
    let e = get_or t i d in
    let next : take (i + 1) t ≡ take i t ++ (e ∷ []) = rw add-one (take-suc t i d lt) in
    let lines : flat_map f (take (i + 1) t) ≡ flat_map f (take i t) ++ f e = rw (next, flat_map-append f (take i t) (e ∷ [])) (ap (λ (m : List ℕ). flat_map f (take i t) ++ m) (append-nil (f e))) in
    rw lines (sym (append_assoc start (flat_map f (take i t)) (f e)))

-- behind the first i lines stand the next one and the others
pub lines_split : {X : Type 0} (f : X → List ℕ) (start : List ℕ) (t : List X) (i : ℕ) (d : X) (tail : List ℕ) → i < length t
    → (start ++ flat_map f (take i t)) ++ (f (get_or t i d) ++ (flat_map f (drop (i + 1) t) ++ tail)) ≡ start ++ (flat_map f t ++ tail)
lines_split f start t i d tail lt =
    let e = get_or t i d in
    let rest : drop i t ≡ e ∷ drop (i + 1) t = rw add-one (drop-cons t i d lt) in
    let whole : flat_map f t ≡ flat_map f (take i t) ++ (f e ++ flat_map f (drop (i + 1) t)) =
    ap (flat_map f) (sym (take-append-drop i t)) ∙ flat_map-append f (take i t) (drop i t) ∙ ap (λ m. flat_map f (take i t) ++ flat_map f m) rest in
    rw whole (simp append_assoc)

pub point_and_feed : (old mid new x y z f : List ℕ) → mid ≡ old ++ (32 ∷ x ++ (32 ∷ y ++ 32 ∷ z)) → new ≡ mid ++ 32 ∷ f → new ≡ old ++ (32 ∷ x ++ (32 ∷ y ++ (32 ∷ z ++ 32 ∷ f)))
point_and_feed old mid new x y z f first second = rw (second, first) (simp append_assoc)

-- the words of a feed, and the end of their line
pub feed_line : (old new x y z f : List ℕ) → new ≡ old ++ (70 ∷ (32 ∷ x ++ (32 ∷ y ++ (32 ∷ z ++ 32 ∷ f)))) → new ++ 10 ∷ [] ≡ old ++ line ((70 ∷ []) ∷ x ∷ y ∷ z ∷ f ∷ [])
feed_line old new x y z f made = rw made (simp append_assoc)

-- what holds of an Ok, and what follows from it
pub on_ok : {E : Type 0} {P Q : Type 0} (r : Result (Unit {0}) E) → OnOk r P → (P → Q) → OnOk r Q
on_ok (Ok x) p f = f p
on_ok (Err e) p f = tt

pub on_err : {E : Type 0} {P Q : Type 0} (r : Result (Unit {0}) E) → OnErr r P → (P → Q) → OnErr r Q
on_err (Ok x) p f = tt
on_err (Err e) p f = f p

-- all lines were put
pub all_lines : {X : Type 0} (f : X → List ℕ) (start : List ℕ) (t : List X) (i : ℕ) (tail : List ℕ) → length t ≡ i → (start ++ flat_map f (take i t)) ++ tail ≡ start ++ (flat_map f t ++ tail)
all_lines f start t i tail e = rw (← e, take-length t) (append_assoc start (flat_map f t) tail)

-- ---- lines that are told with what came before

pub lines_both : {E : Type 0} (line : List E → E → List ℕ) (before a b : List E) → lines_from line before (a ++ b) ≡ lines_from line before a ++ lines_from line (before ++ a) b
lines_both line before [] b = rw append-nil refl
lines_both line before (x ∷ a) b =
    rw (lines_both line (before ++ x ∷ []) a b, append_assoc before (x ∷ []) a) (sym (append_assoc (line before x) (lines_from line (before ++ x ∷ []) a) (lines_from line (before ++ x ∷ a) b)))

-- the lines of the first i entries were put, and then the next one
pub told_more : {E : Type 0} (line : List E → E → List ℕ) (start : List ℕ) (t : List E) (i : ℕ) (d : E) → i < length t
    → start ++ lines_from line [] (take (i + 1) t) ≡ (start ++ lines_from line [] (take i t)) ++ line (take i t) (get_or t i d)
told_more line start t i d lt =
    let e = get_or t i d in
    let next : take (i + 1) t ≡ take i t ++ (e ∷ []) = rw add-one (take-suc t i d lt) in
    let lines : lines_from line [] (take (i + 1) t) ≡ lines_from line [] (take i t) ++ line (take i t) e =
    ap (lines_from line []) next ∙ lines_both line [] (take i t) (e ∷ []) ∙ ap (λ (m : List ℕ). lines_from line [] (take i t) ++ m) (append-nil (line (take i t) e)) in
    rw lines (sym (append_assoc start (lines_from line [] (take i t)) (line (take i t) e)))

-- behind the lines of the first i entries stand the next one and the others
pub told_split : {E : Type 0} (line : List E → E → List ℕ) (start : List ℕ) (t : List E) (i : ℕ) (d : E) (tail : List ℕ) → i < length t
    → (start ++ lines_from line [] (take i t)) ++ (line (take i t) (get_or t i d) ++ (lines_from line (take i t ++ get_or t i d ∷ []) (drop (i + 1) t) ++ tail))
    ≡ start ++ (lines_from line [] t ++ tail)
told_split line start t i d tail lt =
    let e = get_or t i d in
    let rest : drop i t ≡ e ∷ drop (i + 1) t = rw add-one (drop-cons t i d lt) in
    let whole : lines_from line [] t ≡ lines_from line [] (take i t) ++ (line (take i t) e ++ lines_from line (take i t ++ e ∷ []) (drop (i + 1) t)) =
    ap (lines_from line []) (sym (take-append-drop i t)) ∙ lines_both line [] (take i t) (drop i t) ∙ ap (λ m. lines_from line [] (take i t) ++ lines_from line (take i t) m) rest in
    rw whole (simp append_assoc)

-- all lines were put
pub all_told : {E : Type 0} (line : List E → E → List ℕ) (start : List ℕ) (t : List E) (i : ℕ) (tail : List ℕ) → length t ≡ i
    → (start ++ lines_from line [] (take i t)) ++ tail ≡ start ++ (lines_from line [] t ++ tail)
all_told line start t i tail e = rw (← e, take-length t) (append_assoc start (lines_from line [] t) tail)
