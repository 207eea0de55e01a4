-- The law of refusals: a text is refused exactly where tokens read it up to a fault.
use Rattle.std.proofs.Common.{◌≡◌, ℕ, zero, suc, ◌+◌, ◌<◌, ◌≤◌, List, [], ◌∷◌, ◌++◌, length, take, drop, Result, Ok, Err, refl, sym, ap, subst, ◌∙◌, ◌⊎◌, inl, inr, append_assoc, arith}
use Rattle.std.specs.Prelude.{IfErr}
use Rattle.std.specs.List.{concat}
use Rattle.std.specs.Global.{Vec}
use Rattle.std.proofs.lemmas.List.{take-append-drop, length-append, length-drop}
use Rattle.p21_lex.specs.declared.error.LexErr.{LexErr}
use Rattle.p21_lex.specs.declared.error.LexErr.TheVariants.{BadByte, BadName, OpenString, OpenComment, NumberTooLong, NoMemory}
use Rattle.p21_lex.specs.declared.token.TokenKind.{TokenKind}
use Rattle.p21_lex.specs.declared.token.Token.{Token}
use Rattle.p21_lex.specs.declared.piece.Piece.{Piece}
use Rattle.p21_lex.specs.declared.piece.Piece.TheVariants.{Gap, Spelling}
use Rattle.p21_lex.specs.Front.{front, piece_len}
use Rattle.p21_lex.specs.Tokens.{Gives, token_at, with_front, piece_tokens, tokens_behind, tokens_in, tokens_behind_place, tokens_of}
use Rattle.p21_lex.specs.Reading.{IsGap}
use Rattle.p21_lex.specs.Refusal.{ReadsUpTo, IsFault, IsRefusedFrom, IsRefused}
use Rattle.p21_lex.proofs.Runs.{take_within}
use Rattle.p21_lex.proofs.Numbers.{Found, TokenFound, refused, refused_not}
use Rattle.p21_lex.proofs.Fronts.{front_found}
use Rattle.p21_lex.proofs.Loop.{unrolled}
use Rattle.p21_lex.proofs.Spelled.{spelled_front}
use Rattle.p21_lex.proofs.Pieces.{front_nothing}
use Rattle.p21_lex.proofs.Refused.{front_fault, fault_refused}
use Rattle.p21_lex.proofs.Whole.{listed, failed, spelled_some, piece_some, only_piece, only_gaps}

failed_is : (d e : LexErr) → failed d ≡ failed e → d ≡ e
failed_is d e h = cc

listed_not : (ts : List Token) (e : LexErr) → listed ts ≡ failed e → ⊥
listed_not ts e h = cc

-- ---- a gap or a token more in front

pub upto_gap : (at : ℕ) (gap rest : List ℕ) (ts : List Token) (place : ℕ) (left : List ℕ) → IsGap gap → ReadsUpTo (at + length gap) ts rest place left → ReadsUpTo at ts (gap ++ rest) place left
upto_gap at gap rest [] place left here h =
    let parts : gap ++ rest ≡ (gap ++ concat h.0) ++ left = ap (λ (r : List ℕ). gap ++ r) h.2 ∙ sym (append_assoc gap (concat h.0) left) in
    (gap ∷ h.0, (here, h.1), parts, omega (arith, h.3, length-append gap (concat h.0)))
upto_gap at gap rest (t ∷ ts) place left here h =
    let parts : gap ++ rest ≡ concat (gap ∷ h.0) ++ (h.1 ++ h.2) = ap (λ (r : List ℕ). gap ++ r) h.4 ∙ sym (append_assoc gap (concat h.0) (h.1 ++ h.2)) in
    let start : t.start ≡ at + length (concat (gap ∷ h.0)) = omega (arith, h.5, length-append gap (concat h.0)) in
    (gap ∷ h.0, h.1, h.2, (here, h.3), parts, start, h.6, h.7, h.8, h.9)

pub upto_token : (at : ℕ) (kind : TokenKind) (bytes : List ℕ) (len : ℕ) (ts : List Token) (place : ℕ) (left : List ℕ) → TokenFound kind bytes len → ReadsUpTo (at + len) ts (drop len bytes) place left
    → ReadsUpTo at (token_at at kind len ∷ ts) bytes place left
upto_token at kind bytes len ts place left found h =
    let parts : bytes ≡ take len bytes ++ drop len bytes = sym (take-append-drop len bytes) in
    let end : at + len ≡ at + length (take len bytes) = ap (λ (n : ℕ). at + n) (sym (take_within len bytes found.within)) in
    let start : at ≡ at + 0 = omega arith in
    ([], take len bytes, drop len bytes, tt, parts, start, end, found.spelled, found.stopped, h)

upto_piece : (at : ℕ) (bytes : List ℕ) (piece : Piece) (e : LexErr) → Found bytes piece → IsRefusedFrom (at + piece_len piece) (drop (piece_len piece) bytes) e → IsRefusedFrom at bytes e
upto_piece at bytes (Gap len) e found h =
    let next : at + len ≡ at + length (take len bytes) = ap (λ (n : ℕ). at + n) (sym (take_within len bytes found.within)) in
    let moved : ReadsUpTo (at + length (take len bytes)) h.0 (drop len bytes) h.1 h.2 = subst (λ (n : ℕ). ReadsUpTo n h.0 (drop len bytes) h.1 h.2) next h.3 in
    (h.0, h.1, h.2, subst (λ (b : List ℕ). ReadsUpTo at h.0 b h.1 h.2) (take-append-drop len bytes) (upto_gap at (take len bytes) (drop len bytes) h.0 h.1 h.2 found.gap moved), h.4)
upto_piece at bytes (Spelling kind len) e found h = (token_at at kind len ∷ h.0, h.1, h.2, upto_token at kind bytes len h.0 h.1 h.2 found h.3, h.4)

-- ---- what is refused has a fault

front_failed : (ts : List Token) (r : Result (List Token) LexErr) (e : LexErr) → with_front ts r ≡ failed e → r ≡ failed e
front_failed ts (Ok us) e h = absurd (listed_not (ts ++ us) e h)
front_failed ts (Err d) e h = h

refused_step : (at b : ℕ) (bs : List ℕ) (e : LexErr) (next : ℕ → Result (List Token) LexErr) (r : Result Piece LexErr) → front at (b ∷ bs) ≡ r → tokens_behind at r next ≡ failed e
    → ((len : ℕ) → 0 < len → next len ≡ failed e → IsRefusedFrom (at + len) (drop len (b ∷ bs)) e) → IsRefusedFrom at (b ∷ bs) e
refused_step at b bs e next (Ok piece) is h more =
    let found = front_found at b bs piece is in
    upto_piece at (b ∷ bs) piece e found (more (piece_len piece) (piece_some (b ∷ bs) piece found) (front_failed (piece_tokens at piece) (next (piece_len piece)) e h))
refused_step at b bs e next (Err d) is h more =
    let start : at ≡ at + 0 = omega arith in
    ([], at, b ∷ bs, ([], tt, refl, start), front_fault at b bs e (is ∙ ap refused (failed_is d e h)))

refused_in : (steps at : ℕ) (bytes : List ℕ) (e : LexErr) → length bytes ≤ steps → tokens_in steps at bytes ≡ failed e → IsRefusedFrom at bytes e
unfolding tokens_in
refused_in zero at bytes e enough h = absurd (listed_not [] e h)
refused_in (suc steps) at [] e enough h = absurd (listed_not [] e h)
refused_in (suc steps) at (b ∷ bs) e enough h =
    refused_step at b bs e (λ len. tokens_in steps (at + len) (drop len (b ∷ bs))) (front at (b ∷ bs)) refl h
    (λ len some next. refused_in steps (at + len) (drop len (b ∷ bs)) e (omega (arith, length-drop len (b ∷ bs))) next)

pub is_refused : (bytes : List ℕ) (e : LexErr) → tokens_of bytes ≡ failed e → IsRefused bytes e
unfolding tokens_of
is_refused bytes e h = refused_in (length bytes) 0 bytes e (omega arith) h

pub is_refused_from : (at : ℕ) (bytes : List ℕ) (e : LexErr) → tokens_behind_place at bytes ≡ failed e → IsRefusedFrom at bytes e
unfolding tokens_behind_place
is_refused_from at bytes e h = refused_in (length bytes) at bytes e (omega arith) h

-- ---- a fault is refused

pub fault_some : (place : ℕ) (rest : List ℕ) (e : LexErr) → IsFault place rest e → 0 < length rest
fault_some place [] e fault = absurd (refused_not e (Gap 0) (sym (fault_refused place [] e fault) ∙ front_nothing place))
fault_some place (b ∷ bs) e fault = omega arith

fault_in : (steps place : ℕ) (rest : List ℕ) (e : LexErr) → IsFault place rest e → length rest ≤ steps → tokens_in steps place rest ≡ failed e
fault_in steps place rest e fault enough =
    let u = unrolled steps place rest (fault_some place rest e fault) enough in
    u.2 ∙ ap (λ (x : Result Piece LexErr). tokens_behind place x (λ n. tokens_in u.0 (place + n) (drop n rest))) (fault_refused place rest e fault)

upto_in : (ts : List Token) (steps at : ℕ) (bytes : List ℕ) (place : ℕ) (left : List ℕ) (e : LexErr) → ReadsUpTo at ts bytes place left → IsFault place left e → length bytes ≤ steps → tokens_in steps at bytes ≡ failed e
upto_in [] steps at bytes place left e h fault enough =
    let there : (s : ℕ) → length left ≤ s → tokens_in s (at + length (concat h.0)) left ≡ failed e = λ s room. rw (← h.3) (fault_in s place left e fault room) in
    rw h.2 (only_gaps h.0 steps at left (failed e) h.1 (subst (λ (b : List ℕ). length b ≤ steps) h.2 enough) there)
upto_in (t ∷ ts) steps at bytes place left e h fault enough =
    let gaps = h.0 in
    let text = h.1 in
    let rest = h.2 in
    let start = at + length (concat gaps) in
    let end : t.end ≡ start + length text = omega (arith, h.5, h.6) in
    let behind : (s : ℕ) → length rest ≤ s → tokens_in s (start + length text) rest ≡ failed e = λ s room. rw (← end) (upto_in ts s t.end rest place left e h.9 fault room) in
    let here : (s : ℕ) → length (text ++ rest) ≤ s → tokens_in s start (text ++ rest) ≡ failed e = λ s room. only_piece s start text rest (Spelling t.kind (length text)) (failed e) (spelled_front t.kind text rest h.7 h.8 start) refl (spelled_some t.kind text h.7) room behind in
    rw h.4 (only_gaps gaps steps at (text ++ rest) (failed e) h.3 (subst (λ (b : List ℕ). length b ≤ steps) h.4 enough) here)

pub refuses : (bytes : List ℕ) (e : LexErr) → IsRefused bytes e → tokens_of bytes ≡ failed e
unfolding tokens_of
refuses bytes e h = upto_in h.0 (length bytes) 0 bytes h.1 h.2 e h.3 h.4 (omega arith)

pub refuses_from : (at : ℕ) (bytes : List ℕ) (e : LexErr) → IsRefusedFrom at bytes e → tokens_behind_place at bytes ≡ failed e
unfolding tokens_behind_place
refuses_from at bytes e h = upto_in h.0 (length bytes) at bytes h.1 h.2 e h.3 h.4 (omega arith)

-- No text is refused for want of memory.
pub no_want : (bytes : List ℕ) → tokens_of bytes ≡ failed NoMemory → ⊥
no_want bytes h = let r = is_refused bytes NoMemory h in r.4

-- ---- the same of what a call answered

pub call_refused : (bytes : List ℕ) (r : Result (Vec Token) LexErr) → Gives (λ v. v.items) r (tokens_of bytes) → IfErr r (λ e. (e ≡ NoMemory) ⊎ IsRefused bytes e)
call_refused bytes (Ok v) given = tt
call_refused bytes (Err NoMemory) given = inl refl
call_refused bytes (Err (BadByte at)) given = inr (is_refused bytes (BadByte at) given)
call_refused bytes (Err (BadName at)) given = inr (is_refused bytes (BadName at) given)
call_refused bytes (Err (OpenString at)) given = inr (is_refused bytes (OpenString at) given)
call_refused bytes (Err (OpenComment at)) given = inr (is_refused bytes (OpenComment at) given)
call_refused bytes (Err (NumberTooLong at)) given = inr (is_refused bytes (NumberTooLong at) given)

pub call_refuses : (bytes : List ℕ) (r : Result (Vec Token) LexErr) → Gives (λ v. v.items) r (tokens_of bytes) → (e : LexErr) → IsRefused bytes e → Gives (λ v. v.items) r (Err e)
call_refuses bytes r given e h = subst (λ (said : Result (List Token) LexErr). Gives (λ v. v.items) r said) (refuses bytes e h) given

pub call_refused_from : (at : ℕ) (bytes : List ℕ) (r : Result (Vec Token) LexErr) → Gives (λ v. v.items) r (tokens_behind_place at bytes) → IfErr r (λ e. (e ≡ NoMemory) ⊎ IsRefusedFrom at bytes e)
call_refused_from at bytes (Ok v) given = tt
call_refused_from at bytes (Err NoMemory) given = inl refl
call_refused_from at bytes (Err (BadByte place)) given = inr (is_refused_from at bytes (BadByte place) given)
call_refused_from at bytes (Err (BadName place)) given = inr (is_refused_from at bytes (BadName place) given)
call_refused_from at bytes (Err (OpenString place)) given = inr (is_refused_from at bytes (OpenString place) given)
call_refused_from at bytes (Err (OpenComment place)) given = inr (is_refused_from at bytes (OpenComment place) given)
call_refused_from at bytes (Err (NumberTooLong place)) given = inr (is_refused_from at bytes (NumberTooLong place) given)

pub call_refuses_from : (at : ℕ) (bytes : List ℕ) (r : Result (Vec Token) LexErr) → Gives (λ v. v.items) r (tokens_behind_place at bytes) → (e : LexErr) → IsRefusedFrom at bytes e → Gives (λ v. v.items) r (Err e)
call_refuses_from at bytes r given e h = subst (λ (said : Result (List Token) LexErr). Gives (λ v. v.items) r said) (refuses_from at bytes e h) given

pub front_refused : (at : ℕ) (bytes : List ℕ) (r : Result Piece LexErr) → r ≡ front at bytes → IfErr r (IsFault at bytes)
front_refused at bytes (Ok piece) is = tt
front_refused at [] (Err e) is = absurd (refused_not e (Gap 0) (is ∙ front_nothing at))
front_refused at (b ∷ bs) (Err e) is = front_fault at b bs e (sym is)

pub front_refuses : (at : ℕ) (bytes : List ℕ) (r : Result Piece LexErr) → r ≡ front at bytes → (e : LexErr) → IsFault at bytes e → r ≡ Err e
front_refuses at bytes r is e fault = is ∙ fault_refused at bytes e fault
