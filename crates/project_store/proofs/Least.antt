-- The least fault of a list is of an entity of the list, and no entity with a fault has a lesser number.
use Rattle.std.proofs.Common.{◌≡◌, ℕ, ◌≤◌, Bool, true, false, cond, nat_lt, List, [], ◌∷◌, refl, ap, ◌∙◌, arith}
use Rattle.std.specs.Prelude.{Option, Some, None, option_map, IfSome}
use Rattle.std.specs.List.{AllByRecursion}
use Rattle.std.proofs.lemmas.Bool.Decides.{nat_tests}
use Rattle.std.proofs.lemmas.List.Elements.{Contains-append_left, Contains-append_right, Contains-push}
use Rattle.entity_types.specs.declared.entity.Entity.{Entity}
use Rattle.project_store.specs.Build.{lesser, least_fault}
use Rattle.project_store.specs.Least.{IsLeast}

never : (b : Bool) (x y : ℕ × ℕ) → cond b (Some x) (Some y) ≡ None → ⊥
never true x y h = absurd (cc)
never false x y h = absurd (cc)

none_of : (test : Entity → Option ℕ) (e : Entity) (es : List Entity) (o : Option ℕ) (r : Option (ℕ × ℕ)) → test e ≡ o → (r ≡ None → AllByRecursion (λ (x : Entity). test x ≡ None) es)
    → lesser (option_map (λ fault. (e.number, fault)) o) r ≡ None → AllByRecursion (λ (x : Entity). test x ≡ None) (e ∷ es)
none_of test e es None r is rest h = (is, rest h)
none_of test e es (Some f) None is rest h = absurd (cc)
none_of test e es (Some f) (Some s) is rest h = absurd (never (nat_lt s.0 e.number) s (e.number, f) h)

pub none_is : (test : Entity → Option ℕ) (all : List Entity) → least_fault test all ≡ None → AllByRecursion (λ (x : Entity). test x ≡ None) all
none_is test [] h = tt
none_is test (e ∷ es) h = none_of test e es (test e) (least_fault test es) refl (none_is test es) h

vacuous : (test : Entity → Option ℕ) (n : ℕ) (es : List Entity) → AllByRecursion (λ (x : Entity). test x ≡ None) es → AllByRecursion (λ (x : Entity). IfSome (test x) (λ _. n ≤ x.number)) es
vacuous test n [] all = tt
vacuous test n (e ∷ es) all = (rw all.0 tt, vacuous test n es all.1)

lower_one : (o : Option ℕ) (n m k : ℕ) → n ≤ m → IfSome o (λ _. m ≤ k) → IfSome o (λ _. n ≤ k)
lower_one None n m k le h = tt
lower_one (Some f) n m k le h = omega (arith, h)

lower : (test : Entity → Option ℕ) (n m : ℕ) (es : List Entity) → n ≤ m → AllByRecursion (λ (x : Entity). IfSome (test x) (λ _. m ≤ x.number)) es
    → AllByRecursion (λ (x : Entity). IfSome (test x) (λ _. n ≤ x.number)) es
lower test n m [] le all = tt
lower test n m (e ∷ es) le all = (lower_one (test e) n m e.number le all.0, lower test n m es le all.1)

behind : (test : Entity → Option ℕ) (e : Entity) (es : List Entity) (n x : ℕ) → IfSome (test e) (λ _. n ≤ e.number) → IsLeast test es n x → IsLeast test (e ∷ es) n x
behind test e es n x first i = record {
  entity = i.entity;
  among = Contains-append_right (e ∷ []) es i.entity i.among;
  numbered = i.numbered;
  faulty = i.faulty;
  least = (first, i.least);
}

in_front : (test : Entity → Option ℕ) (e : Entity) (es : List Entity) (f n x : ℕ) → test e ≡ Some f → e.number ≡ n → f ≡ x
    → AllByRecursion (λ (y : Entity). IfSome (test y) (λ _. n ≤ y.number)) es → IsLeast test (e ∷ es) n x
in_front test e es f n x is same fault rest = record {
  entity = e;
  among = Contains-append_left (e ∷ []) es e (Contains-push [] e);
  numbered = same;
  faulty = is ∙ ap Some fault;
  least = (rw is (omega (arith, same)), rest);
}

of_two : (test : Entity → Option ℕ) (e : Entity) (es : List Entity) (f : ℕ) (s : ℕ × ℕ) (b : Bool) (n x : ℕ) → test e ≡ Some f → IsLeast test es s.0 s.1 → nat_lt s.0 e.number ≡ b
    → cond b (Some s) (Some (e.number, f)) ≡ Some (n, x) → IsLeast test (e ∷ es) n x
of_two test e es f s true n x is i less h =
    let same : s.0 ≡ n = cc in
    let fault : s.1 ≡ x = cc in
    rw (← same, ← fault) (behind test e es s.0 s.1 (rw is (grind (arith, nat_tests))) i)
of_two test e es f s false n x is i less h =
    let pair : (e.number, f) ≡ (n, x) = cc in
    let same : e.number ≡ n = ap (λ (p : ℕ × ℕ). p.0) pair in
    let fault : f ≡ x = ap (λ (p : ℕ × ℕ). p.1) pair in
    let le : n ≤ s.0 = grind (arith, nat_tests) in
    in_front test e es f n x is same fault (lower test n s.0 es le i.least)

chosen : (test : Entity → Option ℕ) (e : Entity) (es : List Entity) (o : Option ℕ) (r : Option (ℕ × ℕ)) → test e ≡ o
    → ((m y : ℕ) → r ≡ Some (m, y) → IsLeast test es m y) → (r ≡ None → AllByRecursion (λ (x : Entity). test x ≡ None) es)
    → (n x : ℕ) → lesser (option_map (λ fault. (e.number, fault)) o) r ≡ Some (n, x) → IsLeast test (e ∷ es) n x
chosen test e es None r is least none n x h = behind test e es n x (rw is tt) (least n x h)
chosen test e es (Some f) None is least none n x h =
    let pair : (e.number, f) ≡ (n, x) = cc in
    in_front test e es f n x is (ap (λ (p : ℕ × ℕ). p.0) pair) (ap (λ (p : ℕ × ℕ). p.1) pair) (vacuous test n es (none refl))
chosen test e es (Some f) (Some s) is least none n x h = of_two test e es f s (nat_lt s.0 e.number) n x is (least s.0 s.1 refl) refl h

pub least_is : (test : Entity → Option ℕ) (all : List Entity) (n x : ℕ) → least_fault test all ≡ Some (n, x) → IsLeast test all n x
least_is test [] n x h = absurd (cc)
least_is test (e ∷ es) n x h = chosen test e es (test e) (least_fault test es) refl (least_is test es) (none_is test es) n x h
