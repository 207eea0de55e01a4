-- A log that is followed: what is so far and what is to come are the log, and where it stops is what is found of it.
use Rattle.std.specs.Prelude.{◌≡◌, ◌<◌, ◌≤◌, ◌++◌, ◌∷◌, [], ℕ, true, false, List, length, drop, slice_get, Some, None}
use Rattle.std.proofs.Common.{refl, sym, ◌∙◌, ap, subst, inl, inr, arith}
use Rattle.run_log.specs.declared.entry.Entry.{Entry}
use Rattle.run_log.specs.declared.entry.Ending.{Ending}
use Rattle.run_law.specs.Rules.{Rules}
use Rattle.run_law.specs.Fits.{Fits}
use Rattle.run_law.specs.Legal.{Legal}
use Rattle.log_check.specs.Ending.{EndsOwn}
use Rattle.log_check.specs.Checked.{StopsRight, IsAnswer}
use Rattle.log_check.specs.declared.answer.Answer.TheVariants as answers

none_some : (x : Entry) → None ≡ Some x → ⊥
none_some x e = cc

-- where there is a next entry, it is the first of those to come
pub stops_at : (r : Rules) (list coming : List Entry) (x : Entry) → slice_get coming 0 ≡ Some x → (Fits r list x → ⊥) → StopsRight r list coming false
stops_at r list [] x e not = absurd (none_some x e)
stops_at r list (y ∷ coming) x e misfit = let same : x ≡ y = cc in subst (λ (z : Entry). Fits r list z → ⊥) same misfit

pub stops_end : (r : Rules) (list coming : List Entry) → slice_get coming 0 ≡ None → StopsRight r list coming true
stops_end r list [] e = refl
stops_end r list (y ∷ coming) e = absurd (none_some y (sym e))

append_one : (list : List Entry) (x : Entry) (rest : List Entry) → (list ++ x ∷ []) ++ rest ≡ list ++ x ∷ rest
append_one [] x rest = refl
append_one (y ∷ list) x rest = ap (λ (u : List Entry). y ∷ u) (append_one list x rest)

-- the log stays the same where one entry more is followed
pub parts_stay : (list coming : List Entry) (x : Entry) → slice_get coming 0 ≡ Some x → (list ++ x ∷ []) ++ drop 1 coming ≡ list ++ coming
parts_stay list [] x e = absurd (none_some x e)
parts_stay list (y ∷ coming) x e = let same : x ≡ y = cc in append_one list x coming ∙ ap (λ (z : Entry). list ++ z ∷ coming) same

pub fewer : (coming : List Entry) (x : Entry) → slice_get coming 0 ≡ Some x → length (drop 1 coming) < length coming
fewer [] x e = absurd (none_some x e)
fewer (y ∷ coming) x e = omega arith

append_none : (list : List Entry) → list ++ [] ≡ list
append_none [] = refl
append_none (x ∷ list) = ap (λ (u : List Entry). x ∷ u) (append_none list)

-- a log that was followed to its end
pub all_followed : (r : Rules) (list coming log : List Entry) → StopsRight r list coming true → list ++ coming ≡ log → list ≡ log
all_followed r list coming log e parts = sym (append_none list) ∙ (ap (λ (u : List Entry). list ++ u) (sym e) ∙ parts)

pub legal_so : (r : Rules) (list coming log : List Entry) (ending : Ending) → StopsRight r list coming true → list ++ coming ≡ log → Legal r list → EndsOwn r list ending → IsAnswer r log ending (answers.Legal ending)
legal_so r list coming log ending e parts legal own =
    let same = all_followed r list coming log e parts in
    (refl, record { legal = subst (Legal r) same legal; own = subst (λ (u : List Entry). EndsOwn r u ending) same own })

pub wrong_end : (r : Rules) (list coming log : List Entry) (ending : Ending) (place : ℕ) → StopsRight r list coming true → list ++ coming ≡ log → Legal r list → (EndsOwn r list ending → ⊥) → place ≡ length list → IsAnswer r log ending (answers.Illegal place)
wrong_end r list coming log ending place e parts legal wrong at =
    let same = all_followed r list coming log e parts in
    inr (record { legal = subst (Legal r) same legal; not_own = subst (λ (u : List Entry). EndsOwn r u ending → ⊥) same wrong; at = at ∙ ap length same })

pub misfit_there : (r : Rules) (list coming log : List Entry) (ending : Ending) (place : ℕ) → StopsRight r list coming false → list ++ coming ≡ log → Legal r list → place ≡ length list → IsAnswer r log ending (answers.Illegal place)
misfit_there r list [] log ending place misfit parts legal at = absurd misfit
misfit_there r list (x ∷ coming) log ending place misfit parts legal at =
    inl (record { before = list; entry = x; after = coming; parts = sym parts; at = at; legal = legal; misfit = misfit })

pub within : (list coming log : List Entry) → list ++ coming ≡ log → (n : ℕ) → n ≡ length log → length list ≤ n
within list coming log parts n e = let l = front list coming in let f : length (list ++ coming) ≡ length log = ap length parts in omega (arith, l, f, e)
  where
    front : (xs ys : List Entry) → length xs ≤ length (xs ++ ys)
    front [] ys = omega arith
    front (x ∷ xs) ys = let rec = front xs ys in omega (arith, rec)
