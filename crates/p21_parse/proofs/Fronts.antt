-- The longest front of symbols that begins a text of a language within limits.
use Rattle.std.proofs.Common.{◌≡◌, ℕ, ◌≤◌, nat_lt, Bool, true, false, List, [], ◌∷◌, ◌++◌, length, refl, sym, subst, ◌∙◌, append_assoc, append-nil, inl, inr, ◌⊎◌, arith}
use Rattle.std.specs.List.{AllByRecursion}
use Rattle.p21_parse.specs.Symbol.{Symbol}
use Rattle.p21_parse.specs.Nesting.{is_equals, open_after, open_behind, IsShallow}
use Rattle.p21_parse.specs.Begins.{IsSymbol, Begins}
use Rattle.p21_parse.proofs.Leaves.{above}
use Rattle.p21_parse.proofs.Sound.{not_above}
use Rattle.p21_parse.proofs.Named.{longer_front, real_front, real_back, begins_front}

pub shallow_open : (behind : Bool) (n : ℕ) (ss : List Symbol) → n ≤ 32 → IsShallow behind n ss → open_behind behind n ss ≤ 32
shallow_open behind n [] h s = h
shallow_open behind n (u ∷ ss) h s = shallow_open (is_equals u) (open_after behind n u) ss s.0 s.1

module _ (Whole Within : List Symbol → Type 0) where
  -- The front begins a text within the limits.
  abbrev pub Good : List Symbol → Type 0
  Good front = Begins Whole front × Within front

  -- It is the longest.
  pub record Longest (ss front back : List Symbol) : Type 0 where
    pub parts : ss ≡ front ++ back
    pub good : Good front
    pub ends : (s : Symbol) (more : List Symbol) → back ≡ s ∷ more → Good (front ++ s ∷ []) → ⊥

  -- a symbol with which a limit is broken
  pub broken : (ss front back : List Symbol) (s : Symbol) → AllByRecursion IsSymbol ss → ss ≡ front ++ s ∷ back → Begins Whole (front ++ s ∷ []) → Within front → (Within (front ++ s ∷ []) → ⊥) → Longest ss front (s ∷ back)
  broken ss front back s real e b w no_more = record {
    parts = e;
    good = (begins_front Whole front (s ∷ []) ((real_back front (s ∷ back) (subst (AllByRecursion IsSymbol) e real)).0, tt) b, w);
    ends = λ u more here good. let same : s ≡ u = cc in no_more (subst (λ (u : Symbol). Within (front ++ u ∷ [])) (sym same) good.1);
  }

  module _ (narrow : (a b : List Symbol) → Within (a ++ b) → Within a) where
    -- Of two longest fronts neither is longer.
    not_longer : (ss f b g c : List Symbol) → AllByRecursion IsSymbol ss → Longest ss f b → Longest ss g c → length b ≤ length c → (f ≡ g) × (b ≡ c)
    not_longer ss f b g c real x y le =
        let m = longer_front f b g c (sym x.parts ∙ y.parts) le in
        by_middle m.0 m.1 m.2
      where
        by_middle : (mid : List Symbol) → f ≡ g ++ mid → c ≡ mid ++ b → (f ≡ g) × (b ≡ c)
        by_middle [] e h = (e ∙ append-nil g, sym h)
        by_middle (s ∷ mid) e h =
            let one : f ≡ (g ++ s ∷ []) ++ mid = e ∙ sym (append_assoc g (s ∷ []) mid) in
            let back_real : AllByRecursion IsSymbol c = real_back g c (subst (AllByRecursion IsSymbol) y.parts real) in
            let mid_real : AllByRecursion IsSymbol (s ∷ mid) = real_front (s ∷ mid) b (subst (AllByRecursion IsSymbol) h back_real) in
            absurd (y.ends s (mid ++ b) h
            (begins_front Whole (g ++ s ∷ []) mid mid_real.1 (subst (Begins Whole) one x.good.0), narrow (g ++ s ∷ []) mid (subst Within one x.good.1)))

    pub one_longest : (ss f b g c : List Symbol) → AllByRecursion IsSymbol ss → Longest ss f b → Longest ss g c → (f ≡ g) × (b ≡ c)
    one_longest ss f b g c real x y = by_length (split (length b) (length c))
      where
        split : (n m : ℕ) → (n ≤ m) ⊎ (m ≤ n)
        split n m = by_test (nat_lt n m) refl
          where
            by_test : (b : Bool) → nat_lt n m ≡ b → (n ≤ m) ⊎ (m ≤ n)
            by_test true e = inl (omega (arith, above n m e))
            by_test false e = inr (not_above n m e)

        by_length : (length b ≤ length c) ⊎ (length c ≤ length b) → (f ≡ g) × (b ≡ c)
        by_length (inl le) = not_longer ss f b g c real x y le
        by_length (inr le) = let h = not_longer ss g c f b real y x le in (sym h.0, sym h.1)
