-- What is still to come can always come: each stack of items can be ended by symbols of tokens.
use Rattle.std.proofs.Common.{◌≡◌, ℕ, suc, pred, ◌+◌, ◌≤◌, Bool, true, false, ◌&&◌, List, [], ◌∷◌, ◌++◌, length, codes, refl, ap, ◌∙◌, arith}
use Rattle.std.specs.List.{AllByRecursion}
use Rattle.p21_lex.specs.declared.token.TokenKind.TheVariants as kinds
use Rattle.p21_lex.specs.Class.{is_word, Each}
use Rattle.p21_parse.specs.Symbol.{Symbol, value, name, keyword, dashed, opening, closing, comma, semicolon, equals}
use Rattle.p21_parse.specs.Begins.{IsSymbol}
use Rattle.p21_parse.specs.Machine.{Item, fixed, parameter, parameter_list, more_parameters, schema, more_schemas, part, more_parts, behind_name, body, instances, entries, entry_or_end, done, same, on, open_in, goes_on, run, endsec}
use Rattle.p21_parse.proofs.Complete.{step}
use Rattle.p21_parse.proofs.Trace.{Closable, Quiet, Calm, fixed_opening, fixed_closing, fixed_semicolon}

-- From a nesting on an item is read from symbols, and at most one parenthesis more is open behind it.
abbrev Passes : Item → List Symbol → Type 0
Passes i more = (m n : ℕ) (stack : List Item) (tail : List Symbol) → n + 2 ≤ m → (k : ℕ) × (k ≤ suc n) × (run m n (i ∷ stack) (more ++ tail) ≡ run m k stack tail)

-- symbols of tokens from which an item is read
record Ending (i : Item) : Type 0 where
  more : List Symbol
  real : AllByRecursion IsSymbol more
  passes : Passes i more

-- whether each byte may stand in a word
abbrev word_test : List ℕ → Bool
word_test [] = true
word_test (b ∷ bs) = is_word b && word_test bs

pub word_each : (bs : List ℕ) → word_test bs ≡ true → Each is_word bs
word_each [] e = tt
word_each (b ∷ bs) e = let both = and_true (is_word b) (word_test bs) e in (both.0, word_each bs both.1)
  where
    and_true : (a b : Bool) → a && b ≡ true → (a ≡ true) × (b ≡ true)
    and_true true b e = (refl, e)
    and_true false b e = absurd cc

-- a keyword
any : Symbol
any = keyword (65 ∷ [])

any_real : IsSymbol any
unfolding any
any_real = (kinds.Word, 65 ∷ [], (refl, tt), refl)

opening_real : IsSymbol opening
opening_real = fixed_opening.1.1

closing_real : IsSymbol closing
closing_real = fixed_closing.1.1

unset_real : IsSymbol (value kinds.Dollar [])
unset_real = (kinds.Dollar, 36 ∷ [], refl, refl)

text_real : IsSymbol (value kinds.Text [])
text_real = (kinds.Text, 39 ∷ 39 ∷ [], ([], refl, tt), refl)

equals_real : IsSymbol equals
equals_real = (kinds.Equals, 61 ∷ [], refl, refl)

pub endsec_real : IsSymbol endsec
endsec_real = (kinds.Word, codes "ENDSEC", (refl, word_each (codes "NDSEC") refl), refl)

level_above : (x : Symbol) (n : ℕ) → open_in (fixed x) n x ≤ suc n
level_above opening n = omega arith
level_above closing n = let h : pred n ≤ suc n = omega arith in h
level_above (value kind bytes) n = omega arith
level_above (name number) n = omega arith
level_above (keyword word) n = omega arith
level_above (dashed word) n = omega arith
level_above comma n = omega arith
level_above semicolon n = omega arith
level_above equals n = omega arith

fixed_passes : (x : Symbol) → same x x ≡ true → Passes (fixed x) (x ∷ [])
fixed_passes x e m n stack tail h =
    let le = level_above x n in
    (open_in (fixed x) n x, le, ap (λ (b : Bool). goes_on m (on b []) (open_in (fixed x) n x) (length (x ∷ tail)) (λ items. run m (open_in (fixed x) n x) (items ++ stack) tail)) e ∙ step m (open_in (fixed x) n x) (length (x ∷ tail)) (run m (open_in (fixed x) n x) stack tail) (omega (arith, le)))

-- a parenthesis that closes
closes : (i : Item) → ((m n : ℕ) (stack : List Item) (tail : List Symbol) → n + 2 ≤ m → run m n (i ∷ stack) (closing ∷ tail) ≡ run m (pred n) stack tail) → Ending i
closes i e = record { more = closing ∷ []; real = (closing_real, tt); passes = λ m n stack tail h. (pred n, omega arith, e m n stack tail h) }

-- a part
part_passes : (m n : ℕ) (stack : List Item) (tail : List Symbol) → n + 2 ≤ m → run m n (fixed opening ∷ parameter_list ∷ stack) (opening ∷ closing ∷ tail) ≡ run m n stack tail
part_passes m n stack tail h = step m (suc n) _ _ (omega arith) ∙ step m n _ _ (omega arith)

ending : (i : Item) → Closable i → Ending i
unfolding any
ending (fixed x) c = record { more = x ∷ []; real = (c.1, tt); passes = fixed_passes x c.0 }
ending parameter c = record { more = value kinds.Dollar [] ∷ []; real = (unset_real, tt); passes = λ m n stack tail h. (n, omega arith, step m n _ _ (omega arith)) }
ending parameter_list c = closes parameter_list (λ m n stack tail h. step m (pred n) _ _ (omega arith))
ending more_parameters c = closes more_parameters (λ m n stack tail h. step m (pred n) _ _ (omega arith))
ending schema c = record { more = value kinds.Text [] ∷ []; real = (text_real, tt); passes = λ m n stack tail h. (n, omega arith, step m n _ _ (omega arith)) }
ending more_schemas c = closes more_schemas (λ m n stack tail h. step m (pred n) _ _ (omega arith))
ending part c = record {
  more = any ∷ opening ∷ closing ∷ [];
  real = (any_real, (opening_real, (closing_real, tt)));
  passes = λ m n stack tail h. (n, omega arith, step m n _ _ (omega arith) ∙ part_passes m n stack tail h);
}
ending more_parts c = closes more_parts (λ m n stack tail h. step m (pred n) _ _ (omega arith))
ending behind_name c = record {
  more = equals ∷ any ∷ opening ∷ closing ∷ [];
  real = (equals_real, (any_real, (opening_real, (closing_real, tt))));
  passes = λ m n stack tail h. (n, omega arith, step m n _ _ (omega arith) ∙ step m n _ _ (omega arith) ∙ part_passes m n stack tail h);
}
ending body c = record {
  more = any ∷ opening ∷ closing ∷ [];
  real = (any_real, (opening_real, (closing_real, tt)));
  passes = λ m n stack tail h. (n, omega arith, step m n _ _ (omega arith) ∙ part_passes m n stack tail h);
}
ending instances c = record { more = endsec ∷ []; real = (endsec_real, tt); passes = λ m n stack tail h. (n, omega arith, step m n _ _ (omega arith)) }
ending entries c = record {
  more = endsec ∷ semicolon ∷ [];
  real = (endsec_real, (fixed_semicolon.1.1, tt));
  passes = λ m n stack tail h. (n, omega arith, step m n _ _ (omega arith) ∙ step m n _ _ (omega arith));
}
ending entry_or_end c = record { more = semicolon ∷ []; real = (fixed_semicolon.1.1, tt); passes = λ m n stack tail h. (n, omega arith, step m n _ _ (omega arith)) }

pub real_append : (a b : List Symbol) → AllByRecursion IsSymbol a → AllByRecursion IsSymbol b → AllByRecursion IsSymbol (a ++ b)
real_append [] b ha hb = hb
real_append (s ∷ a) b ha hb = (ha.0, real_append a b ha.1 hb)

-- symbols of tokens with which a stack runs to its end
pub record Finish (stack : List Item) : Type 0 where
  pub more : List Symbol
  pub real : AllByRecursion IsSymbol more
  pub runs : (m n : ℕ) → n + length stack + 1 ≤ m → (k : ℕ) × (run m n stack more ≡ done k [])

finish : (stack : List Item) → AllByRecursion Closable stack → Finish stack
finish [] c = record { more = []; real = tt; runs = λ m n h. (n, refl) }
finish (i ∷ stack) c =
    let e = ending i c.0 in
    let f = finish stack c.1 in
    record {
      more = e.more ++ f.more;
      real = real_append e.more f.more e.real f.real;
      runs = λ m n h. let p = e.passes m n stack f.more (omega arith) in let q = f.runs m p.0 (omega (arith, p.1)) in (q.0, p.2 ∙ q.1);
    }

quiet_ends : (stack : List Item) → AllByRecursion Quiet stack → AllByRecursion Closable stack
quiet_ends [] q = tt
quiet_ends (i ∷ stack) q = (q.0.1, quiet_ends stack q.1)

calm_ends : (behind : Bool) (stack : List Item) → Calm behind stack → AllByRecursion Closable stack
calm_ends behind [] c = tt
calm_ends behind (i ∷ stack) c = (c.1, quiet_ends stack c.2)

pub finished : (behind : Bool) (stack : List Item) → Calm behind stack → Finish stack
finished behind stack c = finish stack (calm_ends behind stack c)
