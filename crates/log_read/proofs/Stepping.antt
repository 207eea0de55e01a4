-- A log is read line by line.
use Rattle.std.proofs.Common.{◌≡◌, ◌≢◌, ℕ, ◌+◌, ◌<◌, ◌≤◌, ◌⊎◌, inl, inr, true, List, [], ◌∷◌, ◌++◌, length, Some, None, Err, refl, sym, ap, ◌∙◌, append_assoc, append-nil, arith}
use Rattle.std.proofs.lemmas.Bool.{lt-ltb, ltb-true}
use Rattle.std.proofs.lemmas.List.{length-append}
use Rattle.std.proofs.lemmas.Option.{none-some}
use Rattle.run_log.specs.declared.entry.TheConstants.{MAX_ENTRIES}
use Rattle.run_log.specs.declared.entry.Entry.{Entry}
use Rattle.run_log.specs.declared.entry.Ending.{Ending}
use Rattle.run_log.specs.LinesFrom.{lines_from}
use Rattle.run_log.specs.LogText.{first_line, entry_line, line_after, last_line}
use Rattle.log_read.specs.declared.error.LogErr.{LogErr}
use Rattle.log_read.specs.declared.error.LogErr.TheVariants.{BadLine, NoEnd, NoMemory}
use Rattle.log_read.specs.declared.rows.LogLine.TheVariants.{Of, Last}
use Rattle.log_read.specs.Format.{Nothing, Begun, Ended, IsInPlace, HasNoEnd, IsBadLine}
use Rattle.log_read.specs.Range.{is_in_range}
use Rattle.log_read.specs.LogReads.{log_format, IsTextOf, IsRefused, Reads}
use Rattle.log_read.specs.Reading.{bytes_at, row_at}
use Rattle.log_read.specs.Steps.{IsReadTo}
use Rattle.log_read.proofs.WordsRead.{both_pass, pass_both, bytes_again}
use Rattle.log_read.proofs.RowsRead.{row_takes, row_again, row_again_last}
use Rattle.log_read.proofs.Answering.{same_line, entry_some, from_good, good_more}

-- ---- lines

lines_more : {E : Type 0} (line : List E → E → List ℕ) (u t : List E) (x : E) → lines_from line u (t ++ x ∷ []) ≡ lines_from line u t ++ line (u ++ t) x
lines_more line u [] x = append-nil (line u x) ∙ ap (λ v. line v x) (sym (append-nil u))
lines_more line u (y ∷ t) x =
    ap (λ (m : List ℕ). line u y ++ m) (lines_more line (u ++ y ∷ []) t x ∙ ap (λ v. lines_from line (u ++ y ∷ []) t ++ line v x) (append_assoc u (y ∷ []) t))
    ∙ sym (append_assoc (line u y) (lines_from line (u ++ y ∷ []) t) (line (u ++ y ∷ t) x))

pub few_read : (bytes : List ℕ) (t : List Entry) (rest : List ℕ) → IsReadTo bytes t rest → length t ≤ MAX_ENTRIES
few_read bytes t rest h = let w = from_good [] t (omega arith) h.good in omega (arith, w.0)

-- one more entry was read
pub read_more : (bytes : List ℕ) (t : List Entry) (x : Entry) (rest behind : List ℕ) → IsReadTo bytes t rest → length t < MAX_ENTRIES → is_in_range x ≡ true → rest ≡ entry_line x ++ behind
    → IsReadTo bytes (t ++ x ∷ []) behind
read_more bytes t x rest behind h few good is = record {
  text =
      h.text
      ∙ ap (λ (m : List ℕ). first_line ++ (lines_from line_after [] t ++ m)) is
      ∙ ap (λ (m : List ℕ). first_line ++ m) (sym (append_assoc (lines_from line_after [] t) (entry_line x) behind) ∙ ap (λ (m : List ℕ). m ++ behind) (sym (lines_more line_after [] t x)));
  good = good_more log_format.allows [] t x h.good (pass_both _ _ (lt-ltb (length t) MAX_ENTRIES few) good);
}

pub shorter : (x : Entry) (rest behind : List ℕ) → rest ≡ entry_line x ++ behind → length behind < length rest
shorter x rest behind is = omega (arith, entry_some x, length-append (entry_line x) behind, ap length is)

-- ---- lines that aren't in their place

-- a line that may come next is read as such
in_place : (t : List Entry) (line behind rest : List ℕ) → length t ≤ MAX_ENTRIES → IsInPlace log_format (Begun t) line → rest ≡ line ++ behind
    → ((x : Entry) × (length t < MAX_ENTRIES) × (row_at rest ≡ Some (Of x, behind))) ⊎ ((d : Ending) × (row_at rest ≡ Some (Last d (length t), behind)))
in_place t line behind rest few (inl w) is =
    let g = both_pass _ _ w.1 in
    inl (w.0, ltb-true (length t) MAX_ENTRIES g.0, ap row_at (is ∙ ap (λ (m : List ℕ). m ++ behind) w.2) ∙ row_again w.0 behind g.1)
in_place t line behind rest few (inr w) is = inr (w.0, ap row_at (is ∙ ap (λ (m : List ℕ). m ++ behind) w.1) ∙ row_again_last w.0 (length t) behind few)

-- the line behind these entries isn't in its place
abbrev HasStop : List Entry → List ℕ → Type 0
HasStop t rest = (line behind : List ℕ) → IsInPlace log_format (Begun t) line → rest ≡ line ++ behind → ⊥

bad_here : (bytes : List ℕ) (t : List Entry) (rest : List ℕ) (count : ℕ) → length t ≡ count → IsReadTo bytes t rest → 0 < length rest → HasStop t rest → IsBadLine log_format bytes (count + 2)
bad_here bytes t rest count same h some stop = record {
  front = Begun t;
  rest = rest;
  leaves = record { text = h.text ∙ sym (append_assoc first_line (lines_from line_after [] t) rest); good = h.good; stop = stop };
  more = some;
  line = omega (arith, same);
}

pub no_row : (count : ℕ) (rest : List ℕ) → 0 < length rest → row_at rest ≡ None → (bytes : List ℕ) (t : List Entry) → length t ≡ count → IsReadTo bytes t rest → IsBadLine log_format bytes (count + 2)
no_row count rest some none bytes t same h =
    bad_here bytes t rest count same h some (λ line behind place is. elim (in_place t line behind rest (few_read bytes t rest h) place is) [
      | inl w ↦ none-some (Of w.0, behind) (sym none ∙ w.2)
      | inr w ↦ none-some (Last w.0 (length t), behind) (sym none ∙ w.1)
    ])

last_not_of : (x : Entry) (d : Ending) (c : ℕ) → Last d c ≡ Of x → ⊥
last_not_of x d c e = cc

same_count : (d e : Ending) (c k : ℕ) → Last d c ≡ Last e k → c ≡ k
same_count d e c k h = cc

pub full : (count : ℕ) (rest : List ℕ) (x : Entry) (r : List ℕ) → 0 < length rest → row_at rest ≡ Some (Of x, r) → MAX_ENTRIES ≤ count → (bytes : List ℕ) (t : List Entry) → length t ≡ count → IsReadTo bytes t rest → IsBadLine log_format bytes (count + 2)
full count rest x r some row le bytes t same h =
    bad_here bytes t rest count same h some (λ line behind place is. elim (in_place t line behind rest (few_read bytes t rest h) place is) [
      | inl w ↦ absurd (omega (arith, w.1, le, same))
      | inr w ↦ last_not_of x w.0 (length t) (same_line (Last w.0 (length t)) (Of x) behind r rest rest w.1 row refl).0
    ])

pub miscounted : (count : ℕ) (rest : List ℕ) (d : Ending) (c : ℕ) (r : List ℕ) → 0 < length rest → row_at rest ≡ Some (Last d c, r) → c ≢ count → (bytes : List ℕ) (t : List Entry) → length t ≡ count → IsReadTo bytes t rest → IsBadLine log_format bytes (count + 2)
miscounted count rest d c r some row other bytes t same h =
    bad_here bytes t rest count same h some (λ line behind place is. elim (in_place t line behind rest (few_read bytes t rest h) place is) [
      | inl w ↦ last_not_of w.0 d c (same_line (Last d c) (Of w.0) r behind rest rest row w.2 refl).0
      | inr w ↦ other (same_count d w.0 c (length t) (same_line (Last d c) (Last w.0 (length t)) r behind rest rest row w.1 refl).0 ∙ same)
    ])

pub trailing : (count : ℕ) (rest : List ℕ) (d : Ending) (c : ℕ) (r : List ℕ) → row_at rest ≡ Some (Last d c, r) → c ≡ count → 0 < length r → (bytes : List ℕ) (t : List Entry) → length t ≡ count → IsReadTo bytes t rest → IsBadLine log_format bytes (count + 3)
trailing count rest d c r row is some bytes t same h =
    let taken = row_takes rest (Last d c) r row in
    let line : last_line d c ≡ last_line d (length t) = ap (last_line d) (is ∙ sym same) in
    record {
      front = Ended t d;
      rest = r;
      leaves = record {
        text =
            h.text
            ∙ ap (λ (m : List ℕ). first_line ++ (lines_from line_after [] t ++ m)) (taken.0 ∙ ap (λ (m : List ℕ). m ++ r) line)
            ∙ ap (λ (m : List ℕ). first_line ++ m) (sym (append_assoc (lines_from line_after [] t) (last_line d (length t)) r))
            ∙ sym (append_assoc first_line (lines_from line_after [] t ++ last_line d (length t)) r);
        good = h.good;
        stop = λ line behind place is. place;
      };
      more = some;
      line = omega (arith, same);
    }

-- ---- ends

pub closes : (count : ℕ) (rest : List ℕ) (d : Ending) (c : ℕ) (r : List ℕ) → row_at rest ≡ Some (Last d c, r) → c ≡ count → length r ≡ 0 → rest ≡ last_line d count
closes count rest d c [] row is none = let taken = row_takes rest (Last d c) [] row in taken.0 ∙ append-nil (last_line d c) ∙ ap (last_line d) is
closes count rest d c (b ∷ r) row is none = absurd (omega arith)

pub goes_on : (rest : List ℕ) (x : Entry) (r : List ℕ) → row_at rest ≡ Some (Of x, r) → (is_in_range x ≡ true) × (rest ≡ entry_line x ++ r)
goes_on rest x r row = let taken = row_takes rest (Of x) r row in (taken.1, taken.0)

pub whole : (bytes : List ℕ) (t : List Entry) (rest : List ℕ) (d : Ending) (count : ℕ) → length t ≡ count → IsReadTo bytes t rest → rest ≡ last_line d count → IsTextOf bytes t d
whole bytes t rest d count same h is =
    let w = from_good [] t (omega arith) h.good in
    record {
      text = h.text ∙ ap (λ (m : List ℕ). first_line ++ (lines_from line_after [] t ++ m)) (is ∙ ap (last_line d) (sym same));
      few = omega (arith, w.0);
      in_range = w.1;
    }

pub no_end : (bytes : List ℕ) (t : List Entry) (rest : List ℕ) → IsReadTo bytes t rest → length rest ≡ 0 → HasNoEnd log_format bytes
no_end bytes t [] h none = record { front = Begun t; no_last = tt; good = h.good; text = h.text ∙ ap (λ (m : List ℕ). first_line ++ m) (append-nil (lines_from line_after [] t)) }
no_end bytes t (b ∷ rest) h none = absurd (omega arith)

pub nothing : (bytes : List ℕ) → length bytes ≡ 0 → HasNoEnd log_format bytes
nothing [] none = record { front = Nothing; no_last = tt; good = refl; text = refl }
nothing (b ∷ bytes) none = absurd (omega arith)

pub no_first : (bytes : List ℕ) → 0 < length bytes → bytes_at first_line bytes ≡ None → IsBadLine log_format bytes 1
no_first bytes some none = record {
  front = Nothing;
  rest = bytes;
  leaves = record {
    text = refl;
    good = refl;
    stop = λ line behind place is. none-some behind (sym none ∙ ap (bytes_at first_line) (is ∙ ap (λ (m : List ℕ). m ++ behind) place) ∙ bytes_again first_line behind);
  };
  more = some;
  line = refl;
}

pub begins : (rest : List ℕ) → IsReadTo (first_line ++ rest) [] rest
begins rest = record { text = refl; good = refl }

pub refusal_reads : (bytes : List ℕ) (e : LogErr) → IsRefused bytes e → Reads bytes (Err e)
refusal_reads bytes (BadLine l) h = h
refusal_reads bytes NoEnd h = h
refusal_reads bytes NoMemory h = tt
