-- How what a reader finds is put together from steps, and where it stops.
use Rattle.std.proofs.Common.{◌≡◌, ℕ, ◌+◌, ◌-◌, ◌<◌, ◌≤◌, true, false, List, [], ◌∷◌, ◌++◌, length, drop, Option, Some, None, refl, sym, ap, subst, ◌∙◌, append_assoc, arith, nat_lt}
use Rattle.std.proofs.lemmas.Bool.Decides.{nat_tests}
use Rattle.std.proofs.lemmas.List.{length-map, length-drop}
use Rattle.p21_parse.specs.declared.parser.Parser.{Parser}
use Rattle.p21_parse.specs.declared.parser.Stop.{Stop}
use Rattle.p21_parse.specs.declared.parser.Stop.TheVariants.{Syntax, TooDeep}
use Rattle.p21_parse.specs.Symbol.{Symbol, symbol_of}
use Rattle.p21_parse.specs.Machine.{Item, stuck, deep, after, open_in, goes_on, run}
use Rattle.p21_parse.specs.Parser.{from, Stops, Has, IsRead, IsRefused}

pub fine : (n : ℕ) → n ≤ 32 → nat_lt 32 n ≡ false
fine n le = grind (arith, nat_tests)

pub left : (s : Parser) (at : ℕ) → length (from s at) ≡ length s.tokens.now - at
left s at = length-map (drop at s.tokens.now) (symbol_of s.bytes.now) ∙ length-drop at s.tokens.now

-- the item does not begin so
abbrev pub Sticks : Item → List Symbol → Type 0
Sticks i [] = Unit {0}
Sticks i (s ∷ ss) = after i s ≡ None

pub sticks : (i : Item) (n : ℕ) (stack : List Item) (ss : List Symbol) → Sticks i ss → run 32 n (i ∷ stack) ss ≡ stuck (length ss)
sticks i n stack [] h = refl
sticks i n stack (s ∷ ss) h = ap (λ (o : Option (List Item)). goes_on 32 o (open_in i n s) (length (s ∷ ss)) (λ items. run 32 (open_in i n s) (items ++ stack) ss)) h

module _ (s : Parser) where
  -- one step of the machine
  pub step : (i : Item) (n k at : ℕ) (m : Symbol) (rest : List Item) → Has s at m → after i m ≡ Some rest → open_in i n m ≡ k → k ≤ 32 → (stack : List Item) → run 32 n (i ∷ stack) (from s at) ≡ run 32 k (rest ++ stack) (from s (at + 1))
  step i n k at m rest has begins opens le stack =
      let begun : run 32 n (i ∷ stack) (from s at) ≡ run 32 n (i ∷ stack) (m ∷ from s (at + 1)) = ap (run 32 n (i ∷ stack)) has.first in
      begun ∙ rw (begins, opens, fine k le) refl

  -- the whole is read: an item whose first symbol stands there, and what it leaves to come
  pub opened : (i : Item) (n k l at next : ℕ) (m : Symbol) (rest : List Item) (f : List Symbol → List Symbol) → Has s at m → after i m ≡ Some rest → open_in i n m ≡ k → k ≤ 32 → IsRead s k l rest (at + 1) next f
      → IsRead s n l (i ∷ []) at next (λ r. m ∷ f r)
  opened i n k l at next m rest f has begins opens le read = record {
    onward = omega (arith, read.onward);
    inside = read.inside;
    spells = has.first ∙ ap (λ (ss : List Symbol). m ∷ ss) read.spells;
    goes = λ stack. step i n k at m rest has begins opens le stack ∙ read.goes stack;
  }

  pub opened_refused : (i : Item) (n k at : ℕ) (m : Symbol) (rest : List Item) (e : Stop) → Has s at m → after i m ≡ Some rest → open_in i n m ≡ k → k ≤ 32 → IsRefused s k rest (at + 1) e → IsRefused s n (i ∷ []) at e
  opened_refused i n k at m rest e has begins opens le refused = λ stack. subst (Stops s e) (sym (step i n k at m rest has begins opens le stack)) (refused stack)

  -- an item of one symbol
  pub took : (i : Item) (n k at : ℕ) (m : Symbol) → Has s at m → after i m ≡ Some [] → open_in i n m ≡ k → k ≤ 32 → IsRead s n k (i ∷ []) at (at + 1) (λ r. m ∷ r)
  took i n k at m has begins opens le = record {
    onward = omega arith;
    inside = omega (arith, has.within);
    spells = has.first;
    goes = λ stack. step i n k at m [] has begins opens le stack;
  }

  -- one thing behind another
  pub both : (n k l at mid next : ℕ) (items others : List Item) (f g : List Symbol → List Symbol) → IsRead s n k items at mid f → IsRead s k l others mid next g → IsRead s n l (items ++ others) at next (λ r. f (g r))
  both n k l at mid next items others f g first second = record {
    onward = omega (arith, first.onward, second.onward);
    inside = second.inside;
    spells = first.spells ∙ ap f second.spells;
    goes = λ stack. ap (λ (is : List Item). run 32 n is (from s at)) (append_assoc items others stack) ∙ first.goes (others ++ stack) ∙ second.goes stack;
  }

  pub second_refused : (n k at mid : ℕ) (items others : List Item) (f : List Symbol → List Symbol) (e : Stop) → IsRead s n k items at mid f → IsRefused s k others mid e → IsRefused s n (items ++ others) at e
  second_refused n k at mid items others f e first refused =
      λ stack. subst (Stops s e) (sym (ap (λ (is : List Item). run 32 n is (from s at)) (append_assoc items others stack) ∙ first.goes (others ++ stack))) (refused stack)

  pub first_refused : (n at : ℕ) (items others : List Item) (e : Stop) → IsRefused s n items at e → IsRefused s n (items ++ others) at e
  first_refused n at items others e refused =
      λ stack. subst (Stops s e) (sym (ap (λ (is : List Item). run 32 n is (from s at)) (append_assoc items others stack))) (refused (others ++ stack))

  -- the machine goes on alike with other items
  pub instead : (n k at next : ℕ) (items others : List Item) (f : List Symbol → List Symbol) → ((stack : List Item) → run 32 n (items ++ stack) (from s at) ≡ run 32 n (others ++ stack) (from s at)) → IsRead s n k others at next f → IsRead s n k items at next f
  instead n k at next items others f alike read = record { onward = read.onward; inside = read.inside; spells = read.spells; goes = λ stack. alike stack ∙ read.goes stack }

  pub instead_refused : (n at : ℕ) (items others : List Item) (e : Stop) → ((stack : List Item) → run 32 n (items ++ stack) (from s at) ≡ run 32 n (others ++ stack) (from s at)) → IsRefused s n others at e → IsRefused s n items at e
  instead_refused n at items others e alike refused = λ stack. subst (Stops s e) (sym (alike stack)) (refused stack)

  pub respelled : (n k at next : ℕ) (items : List Item) (f g : List Symbol → List Symbol) → ((r : List Symbol) → f r ≡ g r) → IsRead s n k items at next f → IsRead s n k items at next g
  respelled n k at next items f g same read = record { onward = read.onward; inside = read.inside; spells = read.spells ∙ same (from s next); goes = read.goes }

  -- the item does not begin with what stands there
  pub stopped : (i : Item) (n at : ℕ) → at ≤ length s.tokens.now → Sticks i (from s at) → IsRefused s n (i ∷ []) at (Syntax at)
  stopped i n at le h = λ stack. (le, sticks i n stack (from s at) h ∙ ap (λ (k : ℕ). stuck k) (left s at))

  -- the parenthesis that stands there is one too many
  pub sunk : (i : Item) (n k at : ℕ) (m : Symbol) (rest : List Item) → Has s at m → after i m ≡ Some rest → open_in i n m ≡ k → 32 < k → IsRefused s n (i ∷ []) at (TooDeep at)
  sunk i n k at m rest has begins opens lt = λ stack.
      let over : nat_lt 32 k ≡ true = grind (arith, nat_tests) in (
        omega (arith, has.within),
        ap (run 32 n (i ∷ stack)) has.first ∙ rw (begins, opens, over) refl ∙ ap (λ (k : ℕ). deep k) (sym (ap length has.first) ∙ left s at),
      )
