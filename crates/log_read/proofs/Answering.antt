-- A text is read in one way.
use Rattle.std.proofs.Common.{◌≡◌, ℕ, ◌+◌, ◌<◌, ◌≤◌, Bool, true, List, [], ◌∷◌, ◌++◌, length, get_or, Some, Result, Ok, Err, refl, sym, ap, subst, ◌∙◌, append_assoc, append-nil, arith}
use Rattle.std.specs.List.{list_all}
use Rattle.std.proofs.lemmas.Bool.{lt-ltb, ltb-true}
use Rattle.std.proofs.lemmas.List.{append_cancel_left, length-append}
use Rattle.std.proofs.lemmas.Option.{some_pair_parts}
use Rattle.run_log.specs.declared.entry.TheConstants.{MAX_ENTRIES}
use Rattle.run_log.specs.declared.entry.Entry.{Entry}
use Rattle.run_log.specs.declared.entry.Entry.TheVariants as entries
use Rattle.run_log.specs.declared.entry.Ending.{Ending}
use Rattle.run_log.specs.declared.entry.Ending.TheVariants.{Done, Blocked, Limit}
use Rattle.run_log.specs.LogText.{first_line, entry_line, line_after, last_line, text_of}
use Rattle.log_read.specs.declared.error.LogErr.{LogErr}
use Rattle.log_read.specs.declared.error.LogErr.TheVariants.{BadLine, NoEnd, NoMemory}
use Rattle.log_read.specs.declared.rows.LogLine.{LogLine}
use Rattle.log_read.specs.declared.rows.LogLine.TheVariants.{Of}
use Rattle.log_read.specs.Format.{Format, allows_all, Front, Nothing, Begun, Ended, line_count, Leaves, IsOpen}
use Rattle.log_read.specs.Apart.{AreApart}
use Rattle.log_read.specs.Range.{is_in_range}
use Rattle.log_read.specs.LogReads.{log_format, IsTextOf, IsRefused, Reads, Gives}
use Rattle.log_read.specs.Reading.{row_at}
use Rattle.log_read.proofs.WordsRead.{both_pass, pass_both}
use Rattle.log_read.proofs.RowsRead.{row_again, last_text}
use Rattle.log_read.proofs.Places.{one_front, leaves_at_end}

-- ---- the lines of this format are apart

pub entry_some : (x : Entry) → 0 < length (entry_line x)
unfolding entry_line
entry_some (entries.Dispatch n v) = omega arith
entry_some (entries.Block n k b) = omega arith
entry_some (entries.End n) = omega arith
entry_some (entries.Pick n k) = omega arith
entry_some (entries.Test n holds) = omega arith
entry_some (entries.Assign n x) = omega arith
entry_some (entries.Set n) = omega arith
entry_some (entries.Pass n) = omega arith
entry_some (entries.Note n) = omega arith
entry_some (entries.Edit i v) = omega arith

last_some : (d : Ending) (c : ℕ) → 0 < length (last_line d c)
unfolding last_line
last_some d c = omega arith

-- the fifth byte of a last line is the first letter of its ending
letter_of : Ending → ℕ
letter_of Done = 100
letter_of Blocked = 98
letter_of Limit = 108

fifth : (d : Ending) (c : ℕ) (r : List ℕ) → get_or (last_line d c ++ r) 4 0 ≡ letter_of d
unfolding letter_of
fifth Done c r = ap (λ (l : List ℕ). get_or l 4 0) (last_text Done c r)
fifth Blocked c r = ap (λ (l : List ℕ). get_or l 4 0) (last_text Blocked c r)
fifth Limit c r = ap (λ (l : List ℕ). get_or l 4 0) (last_text Limit c r)

by_letter : (d e : Ending) → letter_of d ≡ letter_of e → d ≡ e
unfolding letter_of
by_letter Done Done h = refl
by_letter Done Blocked h = absurd (omega (arith, h))
by_letter Done Limit h = absurd (omega (arith, h))
by_letter Blocked Done h = absurd (omega (arith, h))
by_letter Blocked Blocked h = refl
by_letter Blocked Limit h = absurd (omega (arith, h))
by_letter Limit Done h = absurd (omega (arith, h))
by_letter Limit Blocked h = absurd (omega (arith, h))
by_letter Limit Limit h = refl

one_last : (c : ℕ) (d e : Ending) (r s : List ℕ) → last_line d c ++ r ≡ last_line e c ++ s → (d ≡ e) × (r ≡ s)
one_last c d e r s is =
    let same = by_letter d e (sym (fifth d c r) ∙ ap (λ (l : List ℕ). get_or l 4 0) is ∙ fifth e c s) in
    (same, append_cancel_left (last_line d c) r s (is ∙ ap (λ v. last_line v c ++ s) (sym same)))

-- what one line is read as
pub same_line : (w v : LogLine) (r s : List ℕ) (bs cs : List ℕ) → row_at bs ≡ Some (w, r) → row_at cs ≡ Some (v, s) → bs ≡ cs → (w ≡ v) × (r ≡ s)
same_line w v r s bs cs first second is = some_pair_parts w v r s (sym first ∙ ap row_at is ∙ second)

of_is : (x y : Entry) → Of x ≡ Of y → x ≡ y
of_is x y e = cc

-- the first letter of an entry's line is no last line's
entry_not_last : (x : Entry) (r : List ℕ) (d : Ending) (c : ℕ) (s : List ℕ) → entry_line x ++ r ≡ last_line d c ++ s → ⊥
unfolding entry_line last_line
entry_not_last (entries.Dispatch n v) r d c s e = omega (arith, ap (λ (l : List ℕ). get_or l 0 0) e)
entry_not_last (entries.Block n k b) r d c s e = omega (arith, ap (λ (l : List ℕ). get_or l 0 0) e)
entry_not_last (entries.End n) r d c s e = omega (arith, ap (λ (l : List ℕ). get_or l 0 0) e)
entry_not_last (entries.Pick n k) r d c s e = omega (arith, ap (λ (l : List ℕ). get_or l 0 0) e)
entry_not_last (entries.Test n holds) r d c s e = omega (arith, ap (λ (l : List ℕ). get_or l 0 0) e)
entry_not_last (entries.Assign n x) r d c s e = omega (arith, ap (λ (l : List ℕ). get_or l 0 0) e)
entry_not_last (entries.Set n) r d c s e = omega (arith, ap (λ (l : List ℕ). get_or l 0 0) e)
entry_not_last (entries.Pass n) r d c s e = omega (arith, ap (λ (l : List ℕ). get_or l 0 0) e)
entry_not_last (entries.Note n) r d c s e = omega (arith, ap (λ (l : List ℕ). get_or l 0 0) e)
entry_not_last (entries.Edit i v) r d c s e = omega (arith, ap (λ (l : List ℕ). get_or l 0 0) e)

-- these lines, with any entries that may stand where
abbrev format_of : (List Entry → Entry → Bool) → Format Entry Ending
format_of allows = record { first = first_line; line = line_after; last = λ before ending. last_line ending (length before); allows = allows }

-- are apart where their numbers are in their ranges
apart_where : (allows : List Entry → Entry → Bool) → ((u : List Entry) (x : Entry) → allows u x ≡ true → is_in_range x ≡ true) → AreApart (format_of allows)
apart_where allows ranged = record {
  one = λ u x y r s ax ay e.
      let p = same_line (Of x) (Of y) r s (entry_line x ++ r) (entry_line y ++ s) (row_again x r (ranged u x ax)) (row_again y s (ranged u y ay)) e in
      (of_is x y p.0, p.1);
  one_last = λ u d e r s is. one_last (length u) d e r s is;
  apart = λ u x r d s ax e. entry_not_last x r d (length u) s e;
  some_first = omega arith;
  some = λ u x. entry_some x;
  some_last = λ u d. last_some d (length u);
}

pub log_lines_apart : AreApart log_format
log_lines_apart = apart_where log_format.allows (λ u x e. (both_pass _ _ e).1)

-- ---- one log for one text

ranges_only : List Entry → Entry → Bool
ranges_only before x = is_in_range x

all_good : (u t : List Entry) → list_all is_in_range t ≡ true → allows_all ranges_only u t ≡ true
unfolding ranges_only
all_good u [] all = refl
all_good u (x ∷ t) all = let g = both_pass _ _ all in pass_both _ _ g.0 (all_good (u ++ x ∷ []) t g.1)

ended_is : (t u : List Entry) (d e : Ending) → ◌≡◌ {A = Front Entry Ending} (Ended t d) (Ended u e) → (t ≡ u) × (d ≡ e)
ended_is t u d e h = (cc, cc)

pub one_log : (t u : List Entry) (d e : Ending) → list_all is_in_range t ≡ true → list_all is_in_range u ≡ true → text_of t d ≡ text_of u e → (t ≡ u) × (d ≡ e)
unfolding ranges_only
one_log t u d e rt ru is =
    let f = format_of ranges_only in
    let apart = apart_where ranges_only (λ u x h. h) in
    let first = leaves_at_end f apart (text_of t d) (Ended t d) (all_good [] t rt) refl in
    let second = leaves_at_end f apart (text_of t d) (Ended u e) (all_good [] u ru) is in
    ended_is t u d e (one_front f apart (text_of t d) (Ended t d) (Ended u e) [] [] first second).0

-- ---- the entries of a log

-- each may stand in its place where there are not too many and each is in its ranges
pub good_from : (u t : List Entry) → length u + length t ≤ MAX_ENTRIES → list_all is_in_range t ≡ true → allows_all log_format.allows u t ≡ true
good_from u [] few all = refl
good_from u (x ∷ t) few all =
    let g = both_pass _ _ all in
    pass_both _ _ (pass_both _ _ (lt-ltb (length u) MAX_ENTRIES (omega arith)) g.0) (good_from (u ++ x ∷ []) t (omega (arith, length-append u (x ∷ []))) g.1)

pub from_good : (u t : List Entry) → length u ≤ MAX_ENTRIES → allows_all log_format.allows u t ≡ true → (length u + length t ≤ MAX_ENTRIES) × (list_all is_in_range t ≡ true)
from_good u [] le good = (omega arith, refl)
from_good u (x ∷ t) le good =
    let g = both_pass _ _ good in
    let h = both_pass _ _ g.0 in
    let lt = ltb-true (length u) MAX_ENTRIES h.0 in
    let rest = from_good (u ++ x ∷ []) t (omega (arith, length-append u (x ∷ []), lt)) g.1 in
    (omega (arith, rest.0, length-append u (x ∷ [])), pass_both _ _ h.1 rest.1)

-- one more that may stand behind them
pub good_more : (allows : List Entry → Entry → Bool) (u t : List Entry) (x : Entry) → allows_all allows u t ≡ true → allows (u ++ t) x ≡ true → allows_all allows u (t ++ x ∷ []) ≡ true
good_more allows u [] x good one = pass_both _ _ (subst (λ v. allows v x ≡ true) (append-nil u) one) refl
good_more allows u (y ∷ t) x good one =
    let g = both_pass _ _ good in
    pass_both _ _ g.0 (good_more allows (u ++ y ∷ []) t x g.1 (subst (λ v. allows v x ≡ true) (sym (append_assoc u (y ∷ []) t)) one))

-- ---- answers

-- the answer where a text leaves its format behind these lines with this rest
pub answer_of : Front Entry Ending → List ℕ → Result (List Entry × Ending) LogErr
answer_of Nothing [] = Err NoEnd
answer_of (Begun t) [] = Err NoEnd
answer_of (Ended t d) [] = Ok (t, d)
answer_of front (b ∷ rest) = Err (BadLine (line_count front + 1))

-- where the answer comes from
pub record Comes (bytes : List ℕ) (answer : Result (List Entry × Ending) LogErr) : Type 0 where
  pub front : Front Entry Ending
  pub rest : List ℕ
  pub leaves : Leaves log_format bytes front rest
  pub is : answer_of front rest ≡ answer

open_answer : (a : Front Entry Ending) → IsOpen a → answer_of a [] ≡ Err NoEnd
unfolding answer_of
open_answer Nothing o = refl
open_answer (Begun t) o = refl
open_answer (Ended t d) o = absurd o

bad_answer : (a : Front Entry Ending) (rest : List ℕ) → 0 < length rest → answer_of a rest ≡ Err (BadLine (line_count a + 1))
unfolding answer_of
bad_answer a [] some = absurd (omega arith)
bad_answer Nothing (b ∷ rest) some = refl
bad_answer (Begun t) (b ∷ rest) some = refl
bad_answer (Ended t d) (b ∷ rest) some = refl

pub text_comes : (bytes : List ℕ) (t : List Entry) (d : Ending) → IsTextOf bytes t d → Comes bytes (Ok (t, d))
unfolding answer_of
text_comes bytes t d h = record {
  front = Ended t d;
  rest = [];
  leaves = leaves_at_end log_format log_lines_apart bytes (Ended t d) (good_from [] t (omega (arith, h.few)) h.in_range) h.text;
  is = refl;
}

pub refusal_comes : (bytes : List ℕ) (e : LogErr) → IsRefused bytes e → Comes bytes (Err e)
refusal_comes bytes (BadLine l) h = record { front = h.front; rest = h.rest; leaves = h.leaves; is = bad_answer h.front h.rest h.more ∙ ap (λ (n : ℕ). Err (BadLine n)) (sym h.line) }
refusal_comes bytes NoEnd h = record { front = h.front; rest = []; leaves = leaves_at_end log_format log_lines_apart bytes h.front h.good h.text; is = open_answer h.front h.no_last }
refusal_comes bytes NoMemory h = absurd h

pub same_answer : (bytes : List ℕ) (p q : Result (List Entry × Ending) LogErr) → Comes bytes p → Comes bytes q → p ≡ q
same_answer bytes p q a b =
    let w = one_front log_format log_lines_apart bytes a.front b.front a.rest b.rest a.leaves b.leaves in
    sym a.is ∙ ap (λ v. answer_of v a.rest) w.0 ∙ ap (λ (v : List ℕ). answer_of b.front v) w.1 ∙ b.is

pub gives : (bytes : List ℕ) (p q : Result (List Entry × Ending) LogErr) → Reads bytes p → Comes bytes q → Gives p q
gives bytes (Ok read) q h c = sym (same_answer bytes (Ok read) q (text_comes bytes read.0 read.1 h) c)
gives bytes (Err (BadLine l)) q h c = sym (same_answer bytes (Err (BadLine l)) q (refusal_comes bytes (BadLine l) h) c)
gives bytes (Err NoEnd) q h c = sym (same_answer bytes (Err NoEnd) q (refusal_comes bytes NoEnd h) c)
gives bytes (Err NoMemory) q h c = tt

pub gives_text : (bytes : List ℕ) (p : Result (List Entry × Ending) LogErr) (t : List Entry) (d : Ending) → Reads bytes p → IsTextOf bytes t d → Gives p (Ok (t, d))
gives_text bytes p t d h is = gives bytes p (Ok (t, d)) h (text_comes bytes t d is)

pub gives_refusal : (bytes : List ℕ) (p : Result (List Entry × Ending) LogErr) (e : LogErr) → Reads bytes p → IsRefused bytes e → Gives p (Err e)
gives_refusal bytes p e h is = gives bytes p (Err e) h (refusal_comes bytes e is)
