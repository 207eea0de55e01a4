-- Where a text leaves its format, it does so in one way.
use Rattle.std.proofs.Common.{◌≡◌, ℕ, ◌<◌, inl, inr, true, List, [], ◌∷◌, ◌++◌, length, refl, sym, ap, subst, ◌∙◌, append_assoc, append-nil, arith}
use Rattle.std.proofs.lemmas.List.{append_cancel_left, length-append}
use Rattle.run_log.specs.LinesFrom.{lines_from}
use Rattle.log_read.specs.Format.{Format, allows_all, Front, Nothing, Begun, Ended, front_text, front_entries, IsInPlace, Leaves}
use Rattle.log_read.specs.Apart.{AreApart}
use Rattle.log_read.proofs.WordsRead.{both_pass}

-- entries, and the ending where the last line was read
data Tail (D : Type 0) : Type 0 where
  Open : Tail D
  Closed : D → Tail D

-- the lines of entries behind others, and maybe the last one
abbrev tail_text : {E D : Type 0} → Format E D → List E → List E → Tail D → List ℕ
tail_text f u t Open = lines_from f.line u t
tail_text f u t (Closed d) = lines_from f.line u t ++ f.last (u ++ t) d

-- no line that may come next behind these begins the rest
abbrev Stops : {E D : Type 0} → Format E D → List E → Tail D → List ℕ → Type 0
Stops f u Open rest = (line behind : List ℕ) → IsInPlace f (Begun u) line → rest ≡ line ++ behind → ⊥
Stops f u (Closed d) rest = Unit {0}

-- the text behind the line of the next entry
tail_next : {E D : Type 0} (f : Format E D) (u : List E) (x : E) (t : List E) (a : Tail D) (r : List ℕ)
    → tail_text f u (x ∷ t) a ++ r ≡ f.line u x ++ (tail_text f (u ++ x ∷ []) t a ++ r)
tail_next f u x t Open r = append_assoc (f.line u x) (lines_from f.line (u ++ x ∷ []) t) r
tail_next f u x t (Closed d) r =
    rw (append_assoc u (x ∷ []) t) (append_assoc (f.line u x ++ lines_from f.line (u ++ x ∷ []) t) (f.last (u ++ x ∷ t) d) r
    ∙ append_assoc (f.line u x) (lines_from f.line (u ++ x ∷ []) t) (f.last (u ++ x ∷ t) d ++ r)
    ∙ ap (λ (y : List ℕ). f.line u x ++ y) (sym (append_assoc (lines_from f.line (u ++ x ∷ []) t) (f.last (u ++ x ∷ t) d) r)))

-- what is behind all entries
tail_last : {E D : Type 0} (f : Format E D) (u : List E) (d : D) (r : List ℕ) → tail_text f u [] (Closed d) ++ r ≡ f.last u d ++ r
tail_last f u d r = ap (λ v. f.last v d ++ r) (append-nil u)

abbrev Same : {E D : Type 0} → List E → List E → Tail D → Tail D → List ℕ → List ℕ → Type 0
Same t s a b r q = (t ≡ s) × (a ≡ b) × (r ≡ q)

-- one more entry in front of both
more : {E D : Type 0} (f : Format E D) → AreApart f → (u : List E) (x y : E) (t s : List E) (a b : Tail D) (r q : List ℕ)
    → (f.allows u x ≡ true) × (allows_all f.allows (u ++ x ∷ []) t ≡ true) → (f.allows u y ≡ true) × (allows_all f.allows (u ++ y ∷ []) s ≡ true)
    → Stops f (u ++ x ∷ t) a r → Stops f (u ++ y ∷ s) b q → tail_text f u (x ∷ t) a ++ r ≡ tail_text f u (y ∷ s) b ++ q
    → ((v : List E) → allows_all f.allows v t ≡ true → allows_all f.allows v s ≡ true → Stops f (v ++ t) a r → Stops f (v ++ s) b q → tail_text f v t a ++ r ≡ tail_text f v s b ++ q → Same t s a b r q)
    → Same (x ∷ t) (y ∷ s) a b r q
more f l u x y t s a b r q gt gs sa sb e rec =
    let w = l.one u x y (tail_text f (u ++ x ∷ []) t a ++ r) (tail_text f (u ++ y ∷ []) s b ++ q) gt.0 gs.0 (sym (tail_next f u x t a r) ∙ e ∙ tail_next f u y s b q) in
    let good = subst (λ v. allows_all f.allows (u ++ v ∷ []) s ≡ true) (sym w.0) gs.1 in
    let stop = subst (λ v. Stops f v a r) (sym (append_assoc u (x ∷ []) t)) sa in
    let stop_too = subst (λ v. Stops f v b q) (sym (append_assoc u (x ∷ []) s)) (subst (λ v. Stops f (u ++ v ∷ s) b q) (sym w.0) sb) in
    let text = subst (λ v. tail_text f (u ++ x ∷ []) t a ++ r ≡ tail_text f (u ++ v ∷ []) s b ++ q) (sym w.0) w.1 in
    let p = rec (u ++ x ∷ []) gt.1 good stop stop_too text in
    (ap (λ v. x ∷ v) p.0 ∙ ap (λ v. v ∷ s) w.0, p.1, p.2)

one_tail : {E D : Type 0} (f : Format E D) → AreApart f → (u t s : List E) (a b : Tail D) (r q : List ℕ)
    → allows_all f.allows u t ≡ true → allows_all f.allows u s ≡ true → Stops f (u ++ t) a r → Stops f (u ++ s) b q
    → tail_text f u t a ++ r ≡ tail_text f u s b ++ q → Same t s a b r q
one_tail f l u [] [] Open Open r q gt gs sa sb e = (refl, refl, e)
one_tail f l u [] [] Open (Closed d) r q gt gs sa sb e =
    absurd (subst (λ v. (line behind : List ℕ) → IsInPlace f (Begun v) line → r ≡ line ++ behind → ⊥) (append-nil u) sa (f.last u d) q (inr (d, refl)) (e ∙ tail_last f u d q))
one_tail f l u [] [] (Closed d) Open r q gt gs sa sb e =
    absurd (subst (λ v. (line behind : List ℕ) → IsInPlace f (Begun v) line → q ≡ line ++ behind → ⊥) (append-nil u) sb (f.last u d) r (inr (d, refl)) (sym e ∙ tail_last f u d r))
one_tail f l u [] [] (Closed d) (Closed c) r q gt gs sa sb e =
    let p = l.one_last u d c r q (sym (tail_last f u d r) ∙ e ∙ tail_last f u c q) in
    (refl, ap (λ v. Closed v) p.0, p.1)
one_tail f l u [] (y ∷ s) Open b r q gt gs sa sb e =
    absurd (subst (λ v. (line behind : List ℕ) → IsInPlace f (Begun v) line → r ≡ line ++ behind → ⊥) (append-nil u) sa (f.line u y) (tail_text f (u ++ y ∷ []) s b ++ q)
    (inl (y, (both_pass _ _ gs).0, refl)) (e ∙ tail_next f u y s b q))
one_tail f l u [] (y ∷ s) (Closed d) b r q gt gs sa sb e =
    absurd (l.apart u y (tail_text f (u ++ y ∷ []) s b ++ q) d r (both_pass _ _ gs).0 (sym (tail_next f u y s b q) ∙ sym e ∙ tail_last f u d r))
one_tail f l u (x ∷ t) [] a Open r q gt gs sa sb e =
    absurd (subst (λ v. (line behind : List ℕ) → IsInPlace f (Begun v) line → q ≡ line ++ behind → ⊥) (append-nil u) sb (f.line u x) (tail_text f (u ++ x ∷ []) t a ++ r)
    (inl (x, (both_pass _ _ gt).0, refl)) (sym e ∙ tail_next f u x t a r))
one_tail f l u (x ∷ t) [] a (Closed d) r q gt gs sa sb e =
    absurd (l.apart u x (tail_text f (u ++ x ∷ []) t a ++ r) d q (both_pass _ _ gt).0 (sym (tail_next f u x t a r) ∙ e ∙ tail_last f u d q))
one_tail f l u (x ∷ t) (y ∷ s) a b r q gt gs sa sb e =
    more f l u x y t s a b r q (both_pass _ _ gt) (both_pass _ _ gs) sa sb e (λ v. one_tail f l v t s a b r q)

-- ---- fronts

front_of : {E D : Type 0} → List E → Tail D → Front E D
front_of t Open = Begun t
front_of t (Closed d) = Ended t d

behind_first : {E D : Type 0} (f : Format E D) (t : List E) (a : Tail D) (r : List ℕ) → front_text f (front_of t a) ++ r ≡ f.first ++ (tail_text f [] t a ++ r)
unfolding front_of
behind_first f t Open r = append_assoc f.first (lines_from f.line [] t) r
behind_first f t (Closed d) r = append_assoc f.first (lines_from f.line [] t ++ f.last t d) r

good_of : {E D : Type 0} (f : Format E D) (bytes : List ℕ) (t : List E) (a : Tail D) (r : List ℕ) → Leaves f bytes (front_of t a) r → allows_all f.allows [] t ≡ true
unfolding front_of
good_of f bytes t Open r l = l.good
good_of f bytes t (Closed d) r l = l.good

stop_of : {E D : Type 0} (f : Format E D) (bytes : List ℕ) (t : List E) (a : Tail D) (r : List ℕ) → Leaves f bytes (front_of t a) r → Stops f t a r
unfolding front_of
stop_of f bytes t Open r l = l.stop
stop_of f bytes t (Closed d) r l = tt

same_tail : {E D : Type 0} (f : Format E D) → AreApart f → (bytes : List ℕ) (t s : List E) (a b : Tail D) (r q : List ℕ)
    → Leaves f bytes (front_of t a) r → Leaves f bytes (front_of s b) q → (front_of t a ≡ front_of s b) × (r ≡ q)
same_tail f apart bytes t s a b r q l m =
    let both = sym (behind_first f t a r) ∙ sym l.text ∙ m.text ∙ behind_first f s b q in
    let tails = append_cancel_left f.first (tail_text f [] t a ++ r) (tail_text f [] s b ++ q) both in
    let p = one_tail f apart [] t s a b r q (good_of f bytes t a r l) (good_of f bytes s b q m) (stop_of f bytes t a r l) (stop_of f bytes s b q m) tails in
    (ap (λ v. front_of v a) p.0 ∙ ap (λ v. front_of s v) p.1, p.2)

-- where a text begins with its first line, it leaves not at once
not_at_once : {E D : Type 0} (f : Format E D) (bytes : List ℕ) (t : List E) (a : Tail D) (r q : List ℕ) → Leaves f bytes Nothing r → Leaves f bytes (front_of t a) q → ⊥
not_at_once f bytes t a r q l m = l.stop f.first (tail_text f [] t a ++ q) refl (sym l.text ∙ m.text ∙ behind_first f t a q)

-- a text leaves its format behind the same lines and with the same rest, however that is found
pub one_front : {E D : Type 0} (f : Format E D) → AreApart f → (bytes : List ℕ) (a b : Front E D) (r q : List ℕ) → Leaves f bytes a r → Leaves f bytes b q → (a ≡ b) × (r ≡ q)
unfolding front_of
one_front f apart bytes Nothing Nothing r q l m = (refl, sym l.text ∙ m.text)
one_front f apart bytes Nothing (Begun s) r q l m = absurd (not_at_once f bytes s Open r q l m)
one_front f apart bytes Nothing (Ended s c) r q l m = absurd (not_at_once f bytes s (Closed c) r q l m)
one_front f apart bytes (Begun t) Nothing r q l m = absurd (not_at_once f bytes t Open q r m l)
one_front f apart bytes (Ended t d) Nothing r q l m = absurd (not_at_once f bytes t (Closed d) q r m l)
one_front f apart bytes (Begun t) (Begun s) r q l m = same_tail f apart bytes t s Open Open r q l m
one_front f apart bytes (Begun t) (Ended s c) r q l m = same_tail f apart bytes t s Open (Closed c) r q l m
one_front f apart bytes (Ended t d) (Begun s) r q l m = same_tail f apart bytes t s (Closed d) Open r q l m
one_front f apart bytes (Ended t d) (Ended s c) r q l m = same_tail f apart bytes t s (Closed d) (Closed c) r q l m

-- a line has bytes
long : {E D : Type 0} (f : Format E D) → AreApart f → (a : Front E D) (line : List ℕ) → IsInPlace f a line → 0 < length line
long f apart Nothing line is = subst (λ v. 0 < length v) (sym is) apart.some_first
long f apart (Begun t) line (inl w) = subst (λ v. 0 < length v) (sym w.2) (apart.some t w.0)
long f apart (Begun t) line (inr w) = subst (λ v. 0 < length v) (sym w.1) (apart.some_last t w.0)
long f apart (Ended t d) line is = absurd is

-- no line begins what has no bytes
pub nothing_left : {E D : Type 0} (f : Format E D) → AreApart f → (a : Front E D) (line behind : List ℕ) → IsInPlace f a line → [] ≡ line ++ behind → ⊥
nothing_left f apart a line behind is e = absurd (omega (arith, long f apart a line is, length-append line behind, ap length e))

-- a text all of whose lines are in their places leaves behind them, with no rest
pub leaves_at_end : {E D : Type 0} (f : Format E D) → AreApart f → (bytes : List ℕ) (a : Front E D) → allows_all f.allows [] (front_entries a) ≡ true → bytes ≡ front_text f a → Leaves f bytes a []
leaves_at_end f apart bytes a good text = record { text = text ∙ sym (append-nil (front_text f a)); good = good; stop = nothing_left f apart a }
