-- Where tokens lie in the text that they read.
use Rattle.std.proofs.Common.{◌≡◌, ℕ, zero, suc, ◌+◌, ◌-◌, ◌<◌, ◌≤◌, List, [], ◌∷◌, ◌++◌, length, take, drop, All, Result, Ok, Err, refl, sym, ap, subst, ◌∙◌, append_assoc, arith}
use Rattle.std.specs.Prelude.{slice_range, slice_index_or, IfOk, AllPairs}
use Rattle.std.specs.List.{concat, AllByRecursion}
use Rattle.std.specs.Global.{Vec}
use Rattle.std.proofs.lemmas.List.{drop_at, take_at, length-append, take-append-drop}
use Rattle.std.proofs.lemmas.List.Elements.{All-from_recursion}
use Rattle.p21_lex.specs.declared.error.LexErr.{LexErr}
use Rattle.p21_lex.specs.declared.token.Token.{Token}
use Rattle.p21_lex.specs.Tokens.{Gives, tokens_behind_place, tokens_of}
use Rattle.p21_lex.specs.Reading.{Reads, IsToken}
use Rattle.p21_lex.proofs.Runs.{take_within}
use Rattle.p21_lex.proofs.Whole.{spelled_some, found, only, found_from, only_from}

-- the bytes from one place to another
part_is : (whole front text rest : List ℕ) (start end : ℕ) → whole ≡ front ++ (text ++ rest) → start ≡ length front → end ≡ start + length text → slice_range whole start end ≡ text
part_is whole front text rest start end parts at_start at_end =
    let behind : drop start whole ≡ text ++ rest = rw parts (drop_at front (text ++ rest) start (sym at_start)) in
    let len : end - start ≡ length text = omega arith in
    rw (behind, len) (take_at text rest (length text) refl)

lies : (ts : List Token) (before : List ℕ) (at : ℕ) (rest : List ℕ) → at ≡ length before → Reads at ts rest → AllByRecursion (IsToken (before ++ rest)) ts
lies [] before at rest here h = tt
lies (t ∷ ts) before at rest here h =
    let gaps = h.0 in
    let text = h.1 in
    let front = before ++ concat gaps in
    let whole : before ++ rest ≡ front ++ (text ++ h.2) = ap (λ (r : List ℕ). before ++ r) h.4 ∙ sym (append_assoc before (concat gaps) (text ++ h.2)) in
    let start : t.start ≡ length front = omega (arith, h.5, here, length-append before (concat gaps)) in
    let end : t.end ≡ t.start + length text = h.6 in
    let size : length (before ++ rest) ≡ length front + (length text + length h.2) = omega (arith, ap length whole, length-append front (text ++ h.2), length-append text h.2) in
    let token : IsToken (before ++ rest) t = record {
      filled = omega (arith, end, spelled_some t.kind text h.7);
      inside = omega (arith, start, end, size);
      spelled = rw (part_is (before ++ rest) front text h.2 t.start t.end whole start end) h.7;
    } in
    let next : before ++ rest ≡ (front ++ text) ++ h.2 = whole ∙ sym (append_assoc front text h.2) in
    let others : AllByRecursion (IsToken ((front ++ text) ++ h.2)) ts = lies ts (front ++ text) t.end h.2 (omega (arith, start, end, length-append front text)) h.9 in
    (token, subst (λ (w : List ℕ). AllByRecursion (IsToken w) ts) (sym next) others)

pub inside : (bytes : List ℕ) (ts : List Token) → Reads 0 ts bytes → All (IsToken bytes) ts
inside bytes ts h = All-from_recursion (IsToken bytes) ts (lies ts [] 0 bytes refl h)

-- each token begins where the one before ends, or later
abbrev IsBefore : Token → Token → Type 0
IsBefore t u = t.end ≤ u.start

later : (ts : List Token) (at : ℕ) (bytes : List ℕ) → Reads at ts bytes → (i : ℕ) (d : Token) → i < length ts → at ≤ (slice_index_or ts i d).start
later [] at bytes h i d lt = absurd (omega arith)
later (t ∷ ts) at bytes h zero d lt = omega (arith, h.5)
later (t ∷ ts) at bytes h (suc i) d lt =
    let next : t.end ≤ (slice_index_or ts i d).start = later ts t.end h.2 h.9 i d (omega arith) in
    omega (arith, next, h.5, h.6)

in_order : (ts : List Token) (at : ℕ) (bytes : List ℕ) → Reads at ts bytes → AllPairs IsBefore ts
in_order [] at bytes h i j d lt within = absurd (omega arith)
in_order (t ∷ ts) at bytes h i zero d lt within = absurd (omega arith)
in_order (t ∷ ts) at bytes h zero (suc j) d lt within = later ts t.end h.2 h.9 j d (omega arith)
in_order (t ∷ ts) at bytes h (suc i) (suc j) d lt within = in_order ts t.end h.2 h.9 i j d (omega arith) (omega arith)

pub ordered : (bytes : List ℕ) (ts : List Token) → Reads 0 ts bytes → AllPairs (λ t u. t.end ≤ u.start) ts
ordered bytes ts h = in_order ts 0 bytes h

-- ---- the same of what a call answered

pub is_found : (bytes : List ℕ) (r : Result (Vec Token) LexErr) → Gives (λ v. v.items) r (tokens_of bytes) → IfOk r (λ v. Reads 0 v.items bytes)
is_found bytes (Ok v) given = found bytes v.items given
is_found bytes (Err e) given = tt

pub is_only : (bytes : List ℕ) (r : Result (Vec Token) LexErr) → Gives (λ v. v.items) r (tokens_of bytes) → (ts : List Token) → Reads 0 ts bytes → Gives (λ v. v.items) r (Ok ts)
is_only bytes r given ts h = subst (λ (said : Result (List Token) LexErr). Gives (λ v. v.items) r said) (only bytes ts h) given

pub is_inside : (bytes : List ℕ) (r : Result (Vec Token) LexErr) → Gives (λ v. v.items) r (tokens_of bytes) → IfOk r (λ v. All (IsToken bytes) v.items)
is_inside bytes (Ok v) given = inside bytes v.items (found bytes v.items given)
is_inside bytes (Err e) given = tt

pub is_ordered : (bytes : List ℕ) (r : Result (Vec Token) LexErr) → Gives (λ v. v.items) r (tokens_of bytes) → IfOk r (λ v. AllPairs (λ t u. t.end ≤ u.start) v.items)
is_ordered bytes (Ok v) given = ordered bytes v.items (found bytes v.items given)
is_ordered bytes (Err e) given = tt

-- ---- the same of what a call answered that began at a place

pub from_found : (at : ℕ) (bytes : List ℕ) (r : Result (Vec Token) LexErr) → Gives (λ v. v.items) r (tokens_behind_place at bytes) → IfOk r (λ v. Reads at v.items bytes)
from_found at bytes (Ok v) given = found_from at bytes v.items given
from_found at bytes (Err e) given = tt

pub from_only : (at : ℕ) (bytes : List ℕ) (r : Result (Vec Token) LexErr) → Gives (λ v. v.items) r (tokens_behind_place at bytes) → (ts : List Token) → Reads at ts bytes → Gives (λ v. v.items) r (Ok ts)
from_only at bytes r given ts h = subst (λ (said : Result (List Token) LexErr). Gives (λ v. v.items) r said) (only_from at bytes ts h) given

pub from_inside : (at : ℕ) (bytes : List ℕ) (r : Result (Vec Token) LexErr) → at ≤ length bytes → Gives (λ v. v.items) r (tokens_behind_place at (drop at bytes)) → IfOk r (λ v. All (IsToken bytes) v.items)
from_inside at bytes (Ok v) le given =
    let here : at ≡ length (take at bytes) = sym (take_within at bytes le) in
    let are = lies v.items (take at bytes) at (drop at bytes) here (found_from at (drop at bytes) v.items given) in
    All-from_recursion (IsToken bytes) v.items (subst (λ (b : List ℕ). AllByRecursion (IsToken b) v.items) (take-append-drop at bytes) are)
from_inside at bytes (Err e) le given = tt
