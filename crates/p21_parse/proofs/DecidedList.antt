-- Instances from a token on end within the limits or have a refusal.
use Rattle.std.proofs.Common.{◌≡◌, ℕ, zero, suc, ◌≤◌, ◌<◌, nat_lt, Bool, true, false, cond, List, [], ◌∷◌, ◌++◌, length, drop, Option, Some, None, refl, sym, ap, ◌∙◌, append_assoc, length-append, inl, inr, ◌⊎◌, arith}
use Rattle.std.specs.List.{AllByRecursion}
use Rattle.p21_lex.specs.declared.token.Token.{Token}
use Rattle.p21_lex.specs.Reading.{IsToken}
use Rattle.p21_parse.specs.Tree.{InstanceTree}
use Rattle.p21_parse.specs.Symbol.{Symbol, name, symbols}
use Rattle.p21_parse.specs.Spell.{spell_all, spell_instance}
use Rattle.p21_parse.specs.Grammar.{IsInstance}
use Rattle.p21_parse.specs.Nesting.{greatest, instance_nesting}
use Rattle.p21_parse.specs.Machine.{Item, instances, Outcome, done, stuck, deep, after, open_in, goes_on, run}
use Rattle.p21_parse.specs.Places.{Refusal, syntax, too_deep, too_many, place_of}
use Rattle.p21_parse.specs.Refused.{RefusedFrom}
use Rattle.p21_parse.specs.Allowed.{AreAllowed, IsNoName}
use Rattle.p21_parse.proofs.Complete.{run-instance}
use Rattle.p21_parse.proofs.Sound.{not_above}
use Rattle.p21_parse.proofs.SoundInstances.{behind_first}
use Rattle.p21_parse.proofs.Leaves.{above}
use Rattle.p21_parse.proofs.Inside.{behind_items}
use Rattle.p21_parse.proofs.Refusals.{list_syntax, list_too_deep, list_too_many}

-- an outcome that no further item changes
abbrev IsEnd : Outcome → Type 0
IsEnd (done n rest) = ⊥
IsEnd (stuck left) = Unit {0}
IsEnd (deep left) = Unit {0}

-- Where items do not run to their end, what is below them does not matter.
framed : (ss : List Symbol) (m n : ℕ) (items stack : List Item) (o : Outcome) → IsEnd o → run m n items ss ≡ o → run m n (items ++ stack) ss ≡ o
framed ss m n [] stack (done k rest) h e = absurd h
framed ss m n [] stack (stuck left) h e = absurd (let both : done n ss ≡ stuck left = e in cc)
framed ss m n [] stack (deep left) h e = absurd (let both : done n ss ≡ deep left = e in cc)
framed [] m n (i ∷ items) stack o h e = e
framed (s ∷ ss) m n (i ∷ items) stack o h e = by_step (after i s) (λ next r. framed ss m (open_in i n s) (next ++ items) stack o h r) e
  where
    by_step : (a : Option (List Item)) → ((next : List Item) → run m (open_in i n s) (next ++ items) ss ≡ o → run m (open_in i n s) ((next ++ items) ++ stack) ss ≡ o)
        → goes_on m a (open_in i n s) (length (s ∷ ss)) (λ next. run m (open_in i n s) (next ++ items) ss) ≡ o → goes_on m a (open_in i n s) (length (s ∷ ss)) (λ next. run m (open_in i n s) (next ++ (items ++ stack)) ss) ≡ o
    by_step None further e = e
    by_step (Some next) further e = by_depth (nat_lt m (open_in i n s)) e
      where
        by_depth : (b : Bool) → cond b (deep (length (s ∷ ss))) (run m (open_in i n s) (next ++ items) ss) ≡ o → cond b (deep (length (s ∷ ss))) (run m (open_in i n s) (next ++ (items ++ stack)) ss) ≡ o
        by_depth true e = e
        by_depth false e = ap (λ (stack : List Item). run m (open_in i n s) stack ss) (sym (append_assoc next items stack)) ∙ further next e

-- one instance more
spelled_last : (before : List InstanceTree) (i : InstanceTree) (rest : List Symbol) → spell_all spell_instance before (spell_instance i rest) ≡ spell_all spell_instance (before ++ i ∷ []) rest
spelled_last [] i rest = refl
spelled_last (j ∷ before) i rest = ap (spell_instance j) (spelled_last before i rest)

all_last : (before : List InstanceTree) (i : InstanceTree) → AllByRecursion IsInstance before → IsInstance i → AllByRecursion IsInstance (before ++ i ∷ [])
all_last [] i h k = (k, tt)
all_last (j ∷ before) i h k = (h.0, all_last before i h.1 k)

greatest_last : (before : List InstanceTree) (i : InstanceTree) → greatest instance_nesting before ≤ 32 → instance_nesting i ≤ 32 → greatest instance_nesting (before ++ i ∷ []) ≤ 32
greatest_last [] i h k = omega arith
greatest_last (j ∷ before) i h k = let rest = greatest_last before i (omega arith) k in omega arith

module _ (bytes : List ℕ) (tokens : List Token) (at most : ℕ) (real : AllByRecursion (IsToken bytes) (drop at tokens)) where
  abbrev here : List Symbol
  here = symbols bytes (drop at tokens)

  abbrev Decided : Type 0
  Decided = ((items : List InstanceTree) × (rest : List Symbol) × AreAllowed most items × (here ≡ spell_all spell_instance items rest) × IsNoName rest) ⊎ ((r : Refusal) × RefusedFrom bytes tokens at most r)

  -- What was read so far, and so many symbols at most are left.
  go : (fuel : ℕ) (before : List InstanceTree) (ss : List Symbol) → length ss ≤ fuel → AreAllowed most before → here ≡ spell_all spell_instance before ss → run 32 0 (instances ∷ []) here ≡ run 32 0 (instances ∷ []) ss → Decided
  go fuel before [] h a e g = inl (before, [], a, e, tt)
  go zero before (s ∷ ss) h a e g = absurd (omega arith)
  go (suc fuel) before (name number ∷ ss) h a e g = by_room (nat_lt (length before) most) refl (λ i rest lt ok e g. go fuel (before ++ i ∷ []) rest lt ok e g)
    where
      by_outcome : (o : Outcome) → length before < most → run 32 0 behind_items ss ≡ o
          → ((i : InstanceTree) (rest : List Symbol) → length rest ≤ fuel → AreAllowed most (before ++ i ∷ []) → here ≡ spell_all spell_instance (before ++ i ∷ []) rest → run 32 0 (instances ∷ []) here ≡ run 32 0 (instances ∷ []) rest → Decided) → Decided
      by_outcome (stuck left) lt r further =
          inr (syntax (place_of bytes tokens left), list_syntax bytes tokens at most before number ss e g left (λ stack. framed ss 32 0 behind_items stack (stuck left) tt r) lt)
      by_outcome (deep left) lt r further =
          inr (too_deep (place_of bytes tokens left), list_too_deep bytes tokens at most before number ss e g left (λ stack. framed ss 32 0 behind_items stack (deep left) tt r) lt)
      by_outcome (done k rest) lt r further =
          let x = behind_first 32 k rest [] ss r in
          let i : InstanceTree = record { number = number; complex = x.tree.0; parts = x.tree.1 } in
          let nested : instance_nesting i ≤ 32 = omega (arith, x.fits) in
          let same : name number ∷ ss ≡ spell_instance i x.rest = ap (λ (more : List Symbol). name number ∷ more) x.spelled in
          further i x.rest (omega (arith, x.shorter))
          (record { grammar = all_last before i a.grammar x.ok; shallow = greatest_last before i a.shallow nested; few = omega (arith, length-append before (i ∷ [])) })
          (e ∙ ap (spell_all spell_instance before) same ∙ spelled_last before i x.rest)
          (g ∙ ap (run 32 0 (instances ∷ [])) same ∙ run-instance 32 i [] x.rest x.ok nested)

      by_room : (b : Bool) → nat_lt (length before) most ≡ b
          → ((i : InstanceTree) (rest : List Symbol) → length rest ≤ fuel → AreAllowed most (before ++ i ∷ []) → here ≡ spell_all spell_instance (before ++ i ∷ []) rest → run 32 0 (instances ∷ []) here ≡ run 32 0 (instances ∷ []) rest → Decided) → Decided
      by_room true w further = by_outcome (run 32 0 behind_items ss) (above (length before) most w) refl further
      by_room false w further =
          let few = a.few in
          let full = not_above (length before) most w in
          inr (too_many (place_of bytes tokens (length (name number ∷ ss))), list_too_many bytes tokens at most before number ss e g real (omega arith))
  go (suc fuel) before (s ∷ ss) h a e g = inl (before, s ∷ ss, a, e, tt)

  pub decided_list : ((items : List InstanceTree) × (rest : List Symbol) × AreAllowed most items × (symbols bytes (drop at tokens) ≡ spell_all spell_instance items rest) × IsNoName rest) ⊎ ((r : Refusal) × RefusedFrom bytes tokens at most r)
  decided_list = go (length here) [] here (let le : length here ≤ length here = omega arith in le) (record { grammar = tt; shallow = omega arith; few = omega arith }) refl refl
