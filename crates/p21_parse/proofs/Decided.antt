-- Each text of tokens is an allowed file or has a refusal.
use Rattle.std.proofs.Common.{◌≡◌, ℕ, ◌-◌, ◌≤◌, ◌<◌, nat_eq, nat_lt, Bool, true, false, List, [], ◌∷◌, ◌++◌, length, map, take, drop, refl, sym, ap, subst, ◌∙◌, append_assoc, append-nil, length-append, length-drop, inl, inr, ◌⊎◌, arith}
use Rattle.std.specs.List.{AllByRecursion, IsDistinct}
use Rattle.std.proofs.lemmas.Bool.{false≢true}
use Rattle.std.proofs.lemmas.List.{length-map, take-append-drop}
use Rattle.std.proofs.Math.Seq.{take-length}
use Rattle.p21_lex.specs.declared.token.Token.{Token}
use Rattle.p21_lex.specs.Reading.{IsToken}
use Rattle.p21_parse.specs.Tree.{ExchangeTree}
use Rattle.p21_parse.specs.Symbol.{Symbol, name, semicolon, symbols}
use Rattle.p21_parse.specs.Spell.{spell_file}
use Rattle.p21_parse.specs.Numbers.{own_number, is_behind}
use Rattle.p21_parse.specs.Machine.{endsec, end_iso, Outcome, done, stuck, deep, run, file_items}
use Rattle.p21_parse.specs.Places.{Refusal, syntax, too_deep, too_many, duplicate, place_of}
use Rattle.p21_parse.specs.Refused.{file_numbers, RefusedAt}
use Rattle.p21_parse.specs.Allowed.{own_number_of, IsAllowed}
use Rattle.p21_parse.proofs.Leaves.{left_of, above}
use Rattle.p21_parse.proofs.Sound.{not_above}
use Rattle.p21_parse.proofs.SoundFile.{file_read}
use Rattle.p21_parse.proofs.Named.{left_within}
use Rattle.p21_parse.proofs.Owned.{numbers_last, file_to_numbers}
use Rattle.p21_parse.proofs.Refusals.{IsNumbered, file_syntax, file_goes_on, file_too_deep, file_too_many, file_duplicate}

last_apart : (x n : ℕ) (xs : List ℕ) → AllByRecursion (λ y. nat_eq x y ≡ false) (xs ++ n ∷ []) → nat_eq x n ≡ false
last_apart x n [] h = h.0
last_apart x n (y ∷ xs) h = last_apart x n xs h.1

with_apart : (x n : ℕ) (xs : List ℕ) → AllByRecursion (λ y. nat_eq x y ≡ false) xs → nat_eq x n ≡ false → AllByRecursion (λ y. nat_eq x y ≡ false) (xs ++ n ∷ [])
with_apart x n [] h e = (e, tt)
with_apart x n (y ∷ xs) h e = (h.0, with_apart x n xs h.1 e)

-- whether one more number is a second one
new_or_not : (xs : List ℕ) (n : ℕ) → IsDistinct nat_eq xs → IsDistinct nat_eq (xs ++ n ∷ []) ⊎ (IsDistinct nat_eq (xs ++ n ∷ []) → ⊥)
unfolding IsDistinct
new_or_not [] n d = inl (tt, tt)
new_or_not (x ∷ xs) n d = by_test (nat_eq x n) refl (new_or_not xs n d.1)
  where
    by_test : (b : Bool) → nat_eq x n ≡ b → IsDistinct nat_eq (xs ++ n ∷ []) ⊎ (IsDistinct nat_eq (xs ++ n ∷ []) → ⊥) → IsDistinct nat_eq (x ∷ (xs ++ n ∷ [])) ⊎ (IsDistinct nat_eq (x ∷ (xs ++ n ∷ [])) → ⊥)
    by_test true e r = inr (λ h. absurd (false≢true (sym (last_apart x n xs h.0) ∙ e)))
    by_test false e (inl h) = inl (with_apart x n xs d.0 e, h)
    by_test false e (inr h) = inr (λ k. h k.1)

-- a name with which the instances are too many, or its number comes twice, and none before it
record Bad (ss : List Symbol) : Type 0 where
  front : List Symbol
  number : ℕ
  back : List Symbol
  parts : ss ≡ front ++ name number ∷ back
  numbered : IsNumbered front
  how : (200000 < length (file_numbers (front ++ name number ∷ []))) ⊎ ((length (file_numbers (front ++ name number ∷ [])) ≤ 200000) × (IsDistinct nat_eq (file_numbers (front ++ name number ∷ [])) → ⊥))

-- what a symbol adds: nothing, or the number of a name
adds : (b : Bool) (s : Symbol) → (own_number b s [] ≡ []) ⊎ ((n : ℕ) × (s ≡ name n) × (own_number b s [] ≡ n ∷ []))
adds true (name n) = inr (n, refl, refl)
adds false s = inl refl
adds true s = inl refl

module _ (front : List Symbol) (w : IsNumbered front) where
  -- one symbol on
  one_on : (s : Symbol) (more : List Symbol) → IsNumbered (front ++ s ∷ []) ⊎ Bad (front ++ s ∷ more)
  one_on s more = by_number (adds (is_behind false front) s)
    where
      by_number : (own_number (is_behind false front) s [] ≡ []) ⊎ ((n : ℕ) × (s ≡ name n) × (own_number (is_behind false front) s [] ≡ n ∷ [])) → IsNumbered (front ++ s ∷ []) ⊎ Bad (front ++ s ∷ more)
      by_number (inl e) =
          let same : file_numbers (front ++ s ∷ []) ≡ file_numbers front = numbers_last false front s ∙ ap (λ (ns : List ℕ). file_numbers front ++ ns) e ∙ append-nil (file_numbers front) in
          inl (record { few = subst (λ (ns : List ℕ). length ns ≤ 200000) (sym same) w.few; distinct = subst (IsDistinct nat_eq) (sym same) w.distinct })
      by_number (inr x) = by_limit (nat_lt 200000 (length (file_numbers (front ++ s ∷ [])))) refl
        where
          numbers : file_numbers (front ++ s ∷ []) ≡ file_numbers front ++ x.0 ∷ []
          numbers = numbers_last false front s ∙ ap (λ (ns : List ℕ). file_numbers front ++ ns) x.2

          bad : ((200000 < length (file_numbers (front ++ s ∷ []))) ⊎ ((length (file_numbers (front ++ s ∷ [])) ≤ 200000) × (IsDistinct nat_eq (file_numbers (front ++ s ∷ [])) → ⊥))) → Bad (front ++ s ∷ more)
          bad how = record {
            front = front;
            number = x.0;
            back = more;
            parts = ap (λ (s : Symbol). front ++ s ∷ more) x.1;
            numbered = w;
            how = subst (λ (s : Symbol). (200000 < length (file_numbers (front ++ s ∷ []))) ⊎ ((length (file_numbers (front ++ s ∷ [])) ≤ 200000) × (IsDistinct nat_eq (file_numbers (front ++ s ∷ [])) → ⊥))) x.1 how;
          }

          by_new : length (file_numbers (front ++ s ∷ [])) ≤ 200000 → IsDistinct nat_eq (file_numbers front ++ x.0 ∷ []) ⊎ (IsDistinct nat_eq (file_numbers front ++ x.0 ∷ []) → ⊥) → IsNumbered (front ++ s ∷ []) ⊎ Bad (front ++ s ∷ more)
          by_new few (inl d) = inl (record { few = few; distinct = subst (IsDistinct nat_eq) (sym numbers) d })
          by_new few (inr h) = inr (bad (inr (few, λ d. h (subst (IsDistinct nat_eq) numbers d))))

          by_limit : (b : Bool) → nat_lt 200000 (length (file_numbers (front ++ s ∷ []))) ≡ b → IsNumbered (front ++ s ∷ []) ⊎ Bad (front ++ s ∷ more)
          by_limit true e = inr (bad (inl (above 200000 (length (file_numbers (front ++ s ∷ []))) e)))
          by_limit false e = by_new (not_above 200000 (length (file_numbers (front ++ s ∷ []))) e) (new_or_not (file_numbers front) x.0 w.distinct)

-- The numbers of symbols keep the limits, or there is a first name that breaks them.
numbered_or : (rest front : List Symbol) → IsNumbered front → IsNumbered (front ++ rest) ⊎ Bad (front ++ rest)
numbered_or [] front w = inl (subst IsNumbered (sym (append-nil front)) w)
numbered_or (s ∷ rest) front w = by_one (one_on front w s rest) (λ n. numbered_or rest (front ++ s ∷ []) n)
  where
    by_one : IsNumbered (front ++ s ∷ []) ⊎ Bad (front ++ s ∷ rest) → (IsNumbered (front ++ s ∷ []) → IsNumbered ((front ++ s ∷ []) ++ rest) ⊎ Bad ((front ++ s ∷ []) ++ rest)) → IsNumbered (front ++ s ∷ rest) ⊎ Bad (front ++ s ∷ rest)
    by_one (inl n) further = subst (λ (ss : List Symbol). IsNumbered ss ⊎ Bad ss) (append_assoc front (s ∷ []) rest) (further n)
    by_one (inr b) further = inr b

nothing_numbered : IsNumbered []
unfolding IsDistinct
nothing_numbered = record { few = omega arith; distinct = tt }

module _ (bytes : List ℕ) (tokens : List Token) (real : AllByRecursion (IsToken bytes) tokens) where
  abbrev here : List Symbol
  here = symbols bytes tokens

  abbrev Decided : Type 0
  Decided = ((x : ExchangeTree) × IsAllowed x × (here ≡ spell_file x)) ⊎ ((r : Refusal) × RefusedAt bytes tokens r)

  allowed : (k : ℕ) → run 32 0 file_items here ≡ done k [] → IsNumbered here → Decided
  allowed k e w =
      let x = file_read 32 k here e in
      let numbers : file_numbers here ≡ map own_number_of x.tree.items
      = ap file_numbers x.spelled ∙ file_to_numbers x.tree.head x.tree.items (endsec ∷ semicolon ∷ end_iso ∷ semicolon ∷ []) ∙ append-nil (map own_number_of x.tree.items) in
      let many : length (file_numbers here) ≡ length x.tree.items = ap length numbers ∙ length-map x.tree.items own_number_of in
      let few = w.few in
      inl (x.tree, record { grammar = x.ok; shallow = x.fits; few = omega arith; distinct = subst (IsDistinct nat_eq) numbers w.distinct }, x.spelled)

  by_outcome : (o : Outcome) → run 32 0 file_items here ≡ o → IsNumbered (take (length here - left_of o) here) → Decided
  by_outcome (stuck left) e w = inr (syntax (place_of bytes tokens left), file_syntax bytes tokens left e w)
  by_outcome (deep left) e w = inr (too_deep (place_of bytes tokens left), file_too_deep bytes tokens left e w)
  by_outcome (done k []) e w = let all : length here - 0 ≡ length here = omega arith in allowed k e (subst IsNumbered (ap (λ (k : ℕ). take k here) all ∙ take-length here) w)
  by_outcome (done k (s ∷ rest)) e w = inr (syntax (place_of bytes tokens (length (s ∷ rest))), file_goes_on bytes tokens (s ∷ rest) k (omega arith) e w)

  -- a bad name before the place where reading ends
  by_name : (k : ℕ) → left_of (run 32 0 file_items here) ≡ length (drop k here) → Bad (take k here) → Decided
  by_name k e b =
      let back : List Symbol = b.back ++ drop k here in
      let parts : here ≡ b.front ++ name b.number ∷ back = sym (take-append-drop k here) ∙ ap (λ (ss : List Symbol). ss ++ drop k here) b.parts ∙ append_assoc b.front (name b.number ∷ b.back) (drop k here) in
      let before : left_of (run 32 0 file_items here) ≤ length back = omega (arith, e, length-append b.back (drop k here)) in
      by_how back parts before b.how
    where
      by_how : (back : List Symbol) → here ≡ b.front ++ name b.number ∷ back → left_of (run 32 0 file_items here) ≤ length back
          → (200000 < length (file_numbers (b.front ++ name b.number ∷ []))) ⊎ ((length (file_numbers (b.front ++ name b.number ∷ [])) ≤ 200000) × (IsDistinct nat_eq (file_numbers (b.front ++ name b.number ∷ [])) → ⊥)) → Decided
      by_how back parts before (inl over) = inr (too_many (place_of bytes tokens (length (name b.number ∷ back))), file_too_many bytes tokens real b.front back b.number parts before b.numbered over)
      by_how back parts before (inr h) = inr (duplicate b.number, file_duplicate bytes tokens real b.front back b.number parts before b.numbered h.0 h.1)

  -- Each text of tokens is an allowed file or has a refusal.
  pub decided : ((x : ExchangeTree) × IsAllowed x × (symbols bytes tokens ≡ spell_file x)) ⊎ ((r : Refusal) × RefusedAt bytes tokens r)
  decided = by_numbers (numbered_or (take k here) [] nothing_numbered)
    where
      k : ℕ
      k = length here - left_of (run 32 0 file_items here)

      left : left_of (run 32 0 file_items here) ≡ length (drop k here)
      left = omega (arith, length-drop k here, left_within here 32 0 file_items)

      by_numbers : IsNumbered (take k here) ⊎ Bad (take k here) → Decided
      by_numbers (inl w) = by_outcome (run 32 0 file_items here) refl w
      by_numbers (inr b) = by_name k left b
