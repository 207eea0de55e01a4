-- To open where an executable leads is to open it.
use Rattle.std.specs.Prelude.{◌≡◌, ◌≤◌, ◌+◌, ◌==◌, nat_le, if◌then◌else◌, ℕ, Bool, true, false, List, [], ◌∷◌, ◌++◌}
use Rattle.std.proofs.Common.{refl, sym, ◌∙◌, ap, subst, arith}
use Rattle.std.proofs.lemmas.Bool.Decides.{nat_tests}
use Rattle.exec_tree.specs.Exec.{Exec, Work, Leaf, Plan, Par, NonSeq, Sel, If, While, Execs, None_left, Then, count}
use Rattle.trace_law.specs.Next.{first_of_two, next, next_in_order, next_each}
use Rattle.trace_law.specs.Cells.{Cell, Left, WhereTrue}
use Rattle.trace_law.specs.Frames.{is_shared, one_where, going, Stands, StandsInOrder, StandsEach}
use Rattle.trace_law.specs.Leading.{has_none, leads, leads_first, NoPicks, NoPicksAll}
use Rattle.trace_law.proofs.FrameNextLemmas.{to_where_empty}
use Rattle.trace_law.proofs.ArriveLemmas.{empty_left, empty_right, nil_right, nobody, nobody_back, not_shared}

pub is_none : (l : List ℕ) → has_none l ≡ true → l ≡ []
is_none [] h = refl
is_none (n ∷ l) h = absurd (cc)

pub is_some : (l : List ℕ) → has_none l ≡ false → l ≡ [] → ⊥
is_some [] h e = cc
is_some (n ∷ l) h e = cc

first_empty : (a b : List ℕ) → first_of_two a b ≡ [] → (a ≡ []) × (b ≡ [])
first_empty [] b e = (refl, e)
first_empty (n ∷ a) b e = absurd (cc)

first_is : (a b : List ℕ) → (a ≡ [] → ⊥) → first_of_two a b ≡ a
first_is [] b h = absurd (h refl)
first_is (n ∷ a) b h = refl

one_is : (l : List ℕ) → (l ≡ [] → ⊥) → one_where l ≡ 1
one_is [] h = absurd (h refl)
one_is (n ∷ l) h = refl

never_shared : (es : Execs) → next_each es [] ≡ [] → is_shared es ≡ false
never_shared es h = let g : going es [] ≡ 0 = nobody_back es [] h in ap (nat_le 2) g

-- ---- what has nothing to do stands, whatever its frames

mutual
  pub void_stands : (c : ℕ → Cell) (e : Exec) → NoPicks c e → next e [] ≡ [] → Stands c e []
  void_stands c (Work n) v h = absurd (cc)
  void_stands c (Leaf n k) v h = absurd (cc)
  void_stands c (Plan n es) v h = void_in_order c es v h
  void_stands c (Par n es) v h =
      (subst (λ (b : Bool). WhereTrue b (c n ≡ Left (going es [])) (Unit {0})) (sym (never_shared es h)) tt, void_each c es v h)
  void_stands c (NonSeq n None_left) v h = (v, tt)
  void_stands c (NonSeq n (Then e es)) v h =
      let f : (0 == count (Then e es)) ≡ false = grind (arith, nat_tests) in
      let g : first_of_two [] (if 0 == count (Then e es) then [] else n ∷ []) ≡ n ∷ [] = rw f refl in
      absurd (let z : n ∷ [] ≡ [] = sym g ∙ h in cc)
  void_stands c (Sel n es) v h = absurd (cc)
  void_stands c (If n a b) v h = absurd (cc)
  void_stands c (While n a) v h = absurd (cc)

  pub void_in_order : (c : ℕ → Cell) (es : Execs) → NoPicksAll c es → next_in_order es [] ≡ [] → StandsInOrder c es []
  void_in_order c None_left v h = tt
  void_in_order c (Then e es) v h =
      let z = first_empty (next e []) (next_in_order es []) h in
      (void_stands c e v.0 z.0, to_where_empty (next e []) _ (λ g. void_in_order c es v.1 z.1))

  void_each : (c : ℕ → Cell) (es : Execs) → NoPicksAll c es → next_each es [] ≡ [] → StandsEach c es []
  void_each c None_left v h = tt
  void_each c (Then e es) v h =
      (void_stands c e v.0 (empty_left (next e []) (next_each es []) h), void_each c es v.1 (empty_right (next e []) (next_each es []) h))

-- ---- where opening leads has the same Next

par_next : (n : ℕ) (es : Execs) → (going es [] ≤ 1 → next (leads_first es (Par n es)) [] ≡ next_each es []) → (b : Bool) → is_shared es ≡ b → next (if b then Par n es else leads_first es (Par n es)) [] ≡ next_each es []
par_next n es h true e = refl
par_next n es h false e = h (not_shared (going es []) e)

order_next : (e : Exec) (es : Execs) (itself : Exec) (b : Bool) → has_none (next e []) ≡ b → next (leads e) [] ≡ next e [] → (next itself [] ≡ next_in_order es [] → next (leads_first es itself) [] ≡ next_in_order es []) → next itself [] ≡ first_of_two (next e []) (next_in_order es []) → next (if b then leads_first es itself else leads e) [] ≡ first_of_two (next e []) (next_in_order es [])
order_next e es itself true q r rec h =
    let z : first_of_two (next e []) (next_in_order es []) ≡ next_in_order es [] = ap (λ (l : List ℕ). first_of_two l (next_in_order es [])) (is_none (next e []) q) in
    rec (h ∙ z) ∙ sym z
order_next e es itself false q r rec h = r ∙ sym (first_is (next e []) (next_in_order es []) (is_some (next e []) q))

each_next : (e : Exec) (es : Execs) (itself : Exec) (b : Bool) → has_none (next e []) ≡ b → next (leads e) [] ≡ next e [] → (next itself [] ≡ next_each es [] → going es [] ≤ 1 → next (leads_first es itself) [] ≡ next_each es []) → next itself [] ≡ next e [] ++ next_each es [] → one_where (next e []) + going es [] ≤ 1 → next (if b then leads_first es itself else leads e) [] ≡ next e [] ++ next_each es []
each_next e es itself true q r rec h g =
    let z : next e [] ++ next_each es [] ≡ next_each es [] = ap (λ (l : List ℕ). l ++ next_each es []) (is_none (next e []) q) in
    rec (h ∙ z) (omega (arith, g)) ∙ sym z
each_next e es itself false q r rec h g =
    let i : one_where (next e []) ≡ 1 = one_is (next e []) (is_some (next e []) q) in
    let z : next_each es [] ≡ [] = nobody es [] (omega (arith, g, i)) in
    r ∙ sym (ap (λ (l : List ℕ). next e [] ++ l) z ∙ nil_right (next e []))

mutual
  pub leads_next : (e : Exec) → next (leads e) [] ≡ next e []
  leads_next (Work n) = refl
  leads_next (Leaf n k) = refl
  leads_next (Plan n es) = leads_in_order es (Plan n es) refl
  leads_next (Par n es) = par_next n es (λ g. leads_each es (Par n es) refl g) (is_shared es) refl
  leads_next (NonSeq n es) = refl
  leads_next (Sel n es) = refl
  leads_next (If n a b) = refl
  leads_next (While n a) = refl

  leads_in_order : (es : Execs) (itself : Exec) → next itself [] ≡ next_in_order es [] → next (leads_first es itself) [] ≡ next_in_order es []
  leads_in_order None_left itself h = h
  leads_in_order (Then e es) itself h =
      order_next e es itself (has_none (next e [])) refl (leads_next e) (λ g. leads_in_order es itself g) h

  leads_each : (es : Execs) (itself : Exec) → next itself [] ≡ next_each es [] → going es [] ≤ 1 → next (leads_first es itself) [] ≡ next_each es []
  leads_each None_left itself h g = h
  leads_each (Then e es) itself h g =
      each_next e es itself (has_none (next e [])) refl (leads_next e) (λ i j. leads_each es itself i j) h g

-- ---- and its frames are those of the whole

par_stands : (c : ℕ → Cell) (n : ℕ) (es : Execs) → (going es [] ≤ 1 → Stands c (leads_first es (Par n es)) [] → StandsEach c es []) → (b : Bool) → is_shared es ≡ b → Stands c (if b then Par n es else leads_first es (Par n es)) [] → WhereTrue b (c n ≡ Left (going es [])) (Unit {0}) × StandsEach c es []
par_stands c n es h true e s = (subst (λ (b : Bool). WhereTrue b (c n ≡ Left (going es [])) (Unit {0})) e s.0, s.1)
par_stands c n es h false e s = (tt, h (not_shared (going es []) e) s)

order_stands : (c : ℕ → Cell) (e : Exec) (es : Execs) (itself : Exec) (b : Bool) → has_none (next e []) ≡ b → (Stands c (leads e) [] → Stands c e []) → (next e [] ≡ [] → Stands c e []) → (Stands c (leads_first es itself) [] → StandsInOrder c es []) → Stands c (if b then leads_first es itself else leads e) [] → StandsInOrder c (Then e es) []
order_stands c e es itself true q r void rec s = (void (is_none (next e []) q), to_where_empty (next e []) _ (λ g. rec s))
order_stands c e es itself false q r void rec s = (r s, to_where_empty (next e []) _ (λ g. absurd (is_some (next e []) q g)))

each_stands : (c : ℕ → Cell) (e : Exec) (es : Execs) (itself : Exec) (b : Bool) → has_none (next e []) ≡ b → (Stands c (leads e) [] → Stands c e []) → (next e [] ≡ [] → Stands c e []) → (next_each es [] ≡ [] → StandsEach c es []) → (going es [] ≤ 1 → Stands c (leads_first es itself) [] → StandsEach c es []) → one_where (next e []) + going es [] ≤ 1 → Stands c (if b then leads_first es itself else leads e) [] → StandsEach c (Then e es) []
each_stands c e es itself true q r void none rec g s = (void (is_none (next e []) q), rec (omega (arith, g)) s)
each_stands c e es itself false q r void none rec g s =
    let i : one_where (next e []) ≡ 1 = one_is (next e []) (is_some (next e []) q) in
    (r s, none (nobody es [] (omega (arith, g, i))))

mutual
  pub leads_stands : (c : ℕ → Cell) (e : Exec) → NoPicks c e → Stands c (leads e) [] → Stands c e []
  leads_stands c (Work n) v s = s
  leads_stands c (Leaf n k) v s = s
  leads_stands c (Plan n es) v s = leads_stands_in_order c es (Plan n es) v s
  leads_stands c (Par n es) v s = par_stands c n es (λ g i. leads_stands_each c es (Par n es) v g i) (is_shared es) refl s
  leads_stands c (NonSeq n es) v s = s
  leads_stands c (Sel n es) v s = s
  leads_stands c (If n a b) v s = s
  leads_stands c (While n a) v s = s

  leads_stands_in_order : (c : ℕ → Cell) (es : Execs) (itself : Exec) → NoPicksAll c es → Stands c (leads_first es itself) [] → StandsInOrder c es []
  leads_stands_in_order c None_left itself v s = tt
  leads_stands_in_order c (Then e es) itself v s =
      order_stands c e es itself (has_none (next e [])) refl (λ g. leads_stands c e v.0 g) (λ g. void_stands c e v.0 g)
      (λ g. leads_stands_in_order c es itself v.1 g) s

  leads_stands_each : (c : ℕ → Cell) (es : Execs) (itself : Exec) → NoPicksAll c es → going es [] ≤ 1 → Stands c (leads_first es itself) [] → StandsEach c es []
  leads_stands_each c None_left itself v g s = tt
  leads_stands_each c (Then e es) itself v g s =
      each_stands c e es itself (has_none (next e [])) refl (λ i. leads_stands c e v.0 i) (λ i. void_stands c e v.0 i) (λ i. void_each c es v.1 i)
      (λ i j. leads_stands_each c es itself v.1 i j) g s
