-- Entries are read as they are written, and no others are.
use Rattle.std.proofs.Common.{◌≡◌, ℕ, zero, suc, ◌-◌, ◌^◌, ◌<◌, ◌≤◌, ℤ, Bool, true, false, eqb, List, [], ◌∷◌, ◌++◌, Option, Some, refl, sym, ap, subst, ◌∙◌, append_assoc, arith}
use Rattle.std.specs.Prelude.{decimal}
use Rattle.std.proofs.lemmas.Bool.{leb-true, le-leb, lt-ltb}
use Rattle.std.proofs.lemmas.Option.{some_pair_parts}
use Rattle.std.proofs.lemmas.Fmt.{decimal_digit}
use Rattle.nc_base.specs.declared.numbers.TheConstants.{MAX_NUMBER, MAX_THOUSANDTHS}
use Rattle.nc_base.specs.declared.verdict.Verdict.{Verdict}
use Rattle.nc_base.specs.declared.verdict.Verdict.TheVariants.{Accepted, Refused}
use Rattle.path_blocks.specs.declared.limits.TheConstants.{MAX_BLOCKS}
use Rattle.path_blocks.specs.declared.block.Block.{Block}
use Rattle.path_blocks.specs.declared.block.Block.TheVariants.{Tool, Rapid, Feed, Dwell}
use Rattle.run_log.specs.declared.entry.Entry.{Entry}
use Rattle.run_log.specs.declared.entry.Entry.TheVariants.{Dispatch, Block as Cut, End, Pick, Test, Assign, Set, Pass, Note, Edit}
use Rattle.run_log.specs.Line.{line}
use Rattle.run_log.specs.LogText.{block_words, verdict_words, entry_line}
use Rattle.log_read.specs.Range.{is_from, is_number, is_within, is_block_in_range, is_verdict_in_range, is_in_range}
use Rattle.log_read.specs.declared.limits.TheConstants.{MAX_VERSION, MAX_EDIT, MAX_RULE, MAX_PICK}
use Rattle.log_read.specs.Reading.{◌>>=◌, byte_at, bytes_at, digits_at, ranged_at, field_at, length_at, block_at, one_at, two_at, end_at, set_at, pass_at, note_at, dispatch_at, cut_at, pick_at, test_at, assign_at, refusal_at, verdict_at, edit_at}
use Rattle.log_read.proofs.WordsRead.{bind_some, both_pass, pass_both, in_from, from_in, byte_takes, byte_again, bytes_take, bytes_again, space_stops, end_stops, ranged_takes, ranged_again, field, field_takes, field_again, length_field, length_takes, length_again}
use Rattle.log_read.proofs.BlocksRead.{ended, letter, block_takes, block_again}

-- the text begins with the line of this entry, and its numbers are in their ranges
abbrev pub IsLineOf : List ℕ → Entry → List ℕ → Type 0
IsLineOf bs x r = (bs ≡ entry_line x ++ r) × (is_in_range x ≡ true)

-- ---- how lines are written

pub end_text : (n : ℕ) (r : List ℕ) → entry_line (End n) ++ r ≡ 69 ∷ field n (10 ∷ r)
unfolding entry_line
end_text n r = simp append_assoc

pub set_text : (n : ℕ) (r : List ℕ) → entry_line (Set n) ++ r ≡ 83 ∷ field n (10 ∷ r)
unfolding entry_line
set_text n r = simp append_assoc

pub pass_text : (n : ℕ) (r : List ℕ) → entry_line (Pass n) ++ r ≡ 87 ∷ field n (10 ∷ r)
unfolding entry_line
pass_text n r = simp append_assoc

pub note_text : (n : ℕ) (r : List ℕ) → entry_line (Note n) ++ r ≡ 77 ∷ field n (10 ∷ r)
unfolding entry_line
note_text n r = simp append_assoc

pub dispatch_text : (n v : ℕ) (r : List ℕ) → entry_line (Dispatch n v) ++ r ≡ 68 ∷ field n (field v (10 ∷ r))
unfolding entry_line
dispatch_text n v r = simp append_assoc

pub pick_text : (n k : ℕ) (r : List ℕ) → entry_line (Pick n k) ++ r ≡ 80 ∷ field n (field k (10 ∷ r))
unfolding entry_line
pick_text n k r = simp append_assoc

pub assign_text : (n : ℕ) (x : ℤ) (r : List ℕ) → entry_line (Assign n x) ++ r ≡ 65 ∷ field n (length_field x (10 ∷ r))
unfolding entry_line
assign_text n x r = simp append_assoc

-- the number of a test's answer
abbrev pub answer : Bool → ℕ
answer true = 1
answer false = 0

pub test_text : (n : ℕ) (holds : Bool) (r : List ℕ) → entry_line (Test n holds) ++ r ≡ 84 ∷ field n (field (answer holds) (10 ∷ r))
unfolding entry_line
test_text n true r = rw (decimal_digit 1 (omega arith)) (simp append_assoc)
test_text n false r = rw (decimal_digit 0 (omega arith)) (simp append_assoc)

pub cut_text : (n k : ℕ) (b : Block) (r : List ℕ) → entry_line (Cut n k b) ++ r ≡ 66 ∷ field n (field k (32 ∷ (line (block_words b) ++ r)))
unfolding entry_line
cut_text n k (Tool t s) r = simp append_assoc
cut_text n k (Rapid x y z) r = simp append_assoc
cut_text n k (Feed x y z f) r = simp append_assoc
cut_text n k (Dwell ms) r = simp append_assoc

pub edit_text : (i : ℕ) (v : Verdict) (r : List ℕ) → entry_line (Edit i v) ++ r ≡ 88 ∷ field i (32 ∷ (line (verdict_words v) ++ r))
unfolding entry_line
edit_text i Accepted r = simp append_assoc
edit_text i (Refused rule a b) r = simp append_assoc

refused_text : (rule a b : ℕ) (r : List ℕ) → line (verdict_words (Refused rule a b)) ++ r ≡ 110 ∷ 111 ∷ 32 ∷ 74 ∷ (decimal rule ++ field a (field b (10 ∷ r)))
refused_text rule a b r = simp append_assoc

-- ---- what is read

one_takes : (bs : List ℕ) (n : ℕ) (r : List ℕ) → one_at bs ≡ Some (n, r) → (bs ≡ field n (10 ∷ r)) × (is_number n ≡ true)
unfolding one_at
one_takes bs n r e =
    let m = bind_some (field_at 1 MAX_NUMBER bs) _ (n, r) e in
    let w = ended m.0.0 m.0.1 n r m.2 in
    let t = field_takes 1 MAX_NUMBER bs m.0.0 m.0.1 (omega arith) m.1 in
    subst (λ (k : ℕ). (bs ≡ field k (10 ∷ r)) × (is_number k ≡ true)) w.0 (t.0 ∙ ap (field m.0.0) w.1, in_from 1 MAX_NUMBER m.0.0 t.1 t.2)

-- a line with one number
one_line : (f : ℕ → Entry) (k : ℕ) → ((n : ℕ) (r : List ℕ) → entry_line (f n) ++ r ≡ k ∷ field n (10 ∷ r)) → ((n : ℕ) → is_number n ≡ true → is_in_range (f n) ≡ true)
    → (bs : List ℕ) (x : Entry) (r : List ℕ) → ◌>>=◌ {B = Entry × List ℕ} (one_at bs) (λ n. Some (f n.0, n.1)) ≡ Some (x, r) → IsLineOf (k ∷ bs) x r
one_line f k text ranged bs x r e =
    let m = bind_some (one_at bs) (λ n. Some (f n.0, n.1)) (x, r) e in
    let p = some_pair_parts (f m.0.0) x m.0.1 r m.2 in
    let t = one_takes bs m.0.0 m.0.1 m.1 in
    subst (λ (y : Entry). IsLineOf (k ∷ bs) y r) p.0
    (ap (λ (y : List ℕ). k ∷ y) (t.0 ∙ ap (λ (y : List ℕ). field m.0.0 (10 ∷ y)) p.1) ∙ sym (text m.0.0 r), ranged m.0.0 t.1)

pub end_takes : (bs : List ℕ) (x : Entry) (r : List ℕ) → end_at bs ≡ Some (x, r) → IsLineOf (69 ∷ bs) x r
unfolding end_at
end_takes bs x r e = one_line (λ n. End n) 69 end_text (λ n h. h) bs x r e

pub set_takes : (bs : List ℕ) (x : Entry) (r : List ℕ) → set_at bs ≡ Some (x, r) → IsLineOf (83 ∷ bs) x r
unfolding set_at
set_takes bs x r e = one_line (λ n. Set n) 83 set_text (λ n h. h) bs x r e

pub pass_takes : (bs : List ℕ) (x : Entry) (r : List ℕ) → pass_at bs ≡ Some (x, r) → IsLineOf (87 ∷ bs) x r
unfolding pass_at
pass_takes bs x r e = one_line (λ n. Pass n) 87 pass_text (λ n h. h) bs x r e

pub note_takes : (bs : List ℕ) (x : Entry) (r : List ℕ) → note_at bs ≡ Some (x, r) → IsLineOf (77 ∷ bs) x r
unfolding note_at
note_takes bs x r e = one_line (λ n. Note n) 77 note_text (λ n h. h) bs x r e

two_takes : (most : ℕ) (bs : List ℕ) (n k : ℕ) (r : List ℕ) → most < 2 ^ 64 → two_at most bs ≡ Some ((n, k), r) → (bs ≡ field n (field k r)) × (is_number n ≡ true) × (k ≤ most)
unfolding two_at
two_takes most bs n k r small e =
    let m = bind_some (field_at 1 MAX_NUMBER bs) _ ((n, k), r) e in
    let j = bind_some (field_at 0 most m.0.1) _ ((n, k), r) m.2 in
    let made : ℕ × ℕ = (m.0.0, j.0.0) in
    let p = some_pair_parts made (n, k) j.0.1 r j.2 in
    let t = field_takes 1 MAX_NUMBER bs m.0.0 m.0.1 (omega arith) m.1 in
    let s = field_takes 0 most m.0.1 j.0.0 j.0.1 small j.1 in
    subst (λ (q : ℕ × ℕ). (bs ≡ field q.0 (field q.1 r)) × (is_number q.0 ≡ true) × (q.1 ≤ most)) p.0
    (t.0 ∙ ap (field m.0.0) (s.0 ∙ ap (field j.0.0) p.1), in_from 1 MAX_NUMBER m.0.0 t.1 t.2, s.2)

pub dispatch_takes : (bs : List ℕ) (x : Entry) (r : List ℕ) → dispatch_at bs ≡ Some (x, r) → IsLineOf (68 ∷ bs) x r
unfolding dispatch_at
dispatch_takes bs x r e =
    let m = bind_some (two_at MAX_VERSION bs) _ (x, r) e in
    let w = ended (Dispatch m.0.0.0 m.0.0.1) m.0.1 x r m.2 in
    let t = two_takes MAX_VERSION bs m.0.0.0 m.0.0.1 m.0.1 (omega arith) m.1 in
    subst (λ (y : Entry). IsLineOf (68 ∷ bs) y r) w.0
    (ap (λ (y : List ℕ). 68 ∷ y) (t.0 ∙ ap (λ (y : List ℕ). field m.0.0.0 (field m.0.0.1 y)) w.1) ∙ sym (dispatch_text m.0.0.0 m.0.0.1 r), pass_both _ _ t.1 (le-leb m.0.0.1 MAX_VERSION t.2))

pub pick_takes : (bs : List ℕ) (x : Entry) (r : List ℕ) → pick_at bs ≡ Some (x, r) → IsLineOf (80 ∷ bs) x r
unfolding pick_at
pick_takes bs x r e =
    let m = bind_some (two_at MAX_PICK bs) _ (x, r) e in
    let w = ended (Pick m.0.0.0 m.0.0.1) m.0.1 x r m.2 in
    let t = two_takes MAX_PICK bs m.0.0.0 m.0.0.1 m.0.1 (omega arith) m.1 in
    subst (λ (y : Entry). IsLineOf (80 ∷ bs) y r) w.0
    (ap (λ (y : List ℕ). 80 ∷ y) (t.0 ∙ ap (λ (y : List ℕ). field m.0.0.0 (field m.0.0.1 y)) w.1) ∙ sym (pick_text m.0.0.0 m.0.0.1 r), pass_both _ _ t.1 (le-leb m.0.0.1 MAX_PICK t.2))

pub cut_takes : (bs : List ℕ) (x : Entry) (r : List ℕ) → cut_at bs ≡ Some (x, r) → IsLineOf (66 ∷ bs) x r
unfolding cut_at
cut_takes bs x r e =
    let m = bind_some (two_at (MAX_BLOCKS - 1) bs) _ (x, r) e in
    let s = bind_some (byte_at 32 m.0.1) _ (x, r) m.2 in
    let b = bind_some (block_at s.0) _ (x, r) s.2 in
    let p = some_pair_parts (Cut m.0.0.0 m.0.0.1 b.0.0) x b.0.1 r b.2 in
    let t = two_takes (MAX_BLOCKS - 1) bs m.0.0.0 m.0.0.1 m.0.1 (omega arith) m.1 in
    let tb = block_takes s.0 b.0.0 b.0.1 b.1 in
    let text : bs ≡ field m.0.0.0 (field m.0.0.1 (32 ∷ (line (block_words b.0.0) ++ r))) =
    t.0 ∙ ap (λ (y : List ℕ). field m.0.0.0 (field m.0.0.1 y)) (byte_takes 32 m.0.1 s.0 s.1 ∙ ap (λ (y : List ℕ). 32 ∷ y) (tb.0 ∙ ap (λ (y : List ℕ). line (block_words b.0.0) ++ y) p.1)) in
    subst (λ (y : Entry). IsLineOf (66 ∷ bs) y r) p.0
    (ap (λ (y : List ℕ). 66 ∷ y) text ∙ sym (cut_text m.0.0.0 m.0.0.1 b.0.0 r), pass_both _ _ t.1 (pass_both _ _ (lt-ltb m.0.0.1 MAX_BLOCKS (omega (arith, t.2))) tb.1))

-- the answer that a digit stands for
answer_is : (k : ℕ) → k ≤ 1 → answer (eqb k 1) ≡ k
answer_is zero le = refl
answer_is (suc zero) le = refl
answer_is (suc (suc k)) le = absurd (omega arith)

pub test_takes : (bs : List ℕ) (x : Entry) (r : List ℕ) → test_at bs ≡ Some (x, r) → IsLineOf (84 ∷ bs) x r
unfolding test_at
test_takes bs x r e =
    let m = bind_some (field_at 1 MAX_NUMBER bs) _ (x, r) e in
    let k = bind_some (field_at 0 1 m.0.1) _ (x, r) m.2 in
    let holds = eqb k.0.0 1 in
    let w = ended (Test m.0.0 holds) k.0.1 x r k.2 in
    let t = field_takes 1 MAX_NUMBER bs m.0.0 m.0.1 (omega arith) m.1 in
    let s = field_takes 0 1 m.0.1 k.0.0 k.0.1 (omega arith) k.1 in
    let digit : k.0.0 ≡ answer holds = sym (answer_is k.0.0 s.2) in
    let text : bs ≡ field m.0.0 (field (answer holds) (10 ∷ r)) = t.0 ∙ ap (field m.0.0) (s.0 ∙ ap (field k.0.0) w.1 ∙ ap (λ (j : ℕ). field j (10 ∷ r)) digit) in
    subst (λ (y : Entry). IsLineOf (84 ∷ bs) y r) w.0
    (ap (λ (y : List ℕ). 84 ∷ y) text ∙ sym (test_text m.0.0 holds r), in_from 1 MAX_NUMBER m.0.0 t.1 t.2)

pub assign_takes : (bs : List ℕ) (x : Entry) (r : List ℕ) → assign_at bs ≡ Some (x, r) → IsLineOf (65 ∷ bs) x r
unfolding assign_at
assign_takes bs x r e =
    let m = bind_some (field_at 1 MAX_NUMBER bs) _ (x, r) e in
    let z = bind_some (length_at MAX_THOUSANDTHS m.0.1) _ (x, r) m.2 in
    let w = ended (Assign m.0.0 z.0.0) z.0.1 x r z.2 in
    let t = field_takes 1 MAX_NUMBER bs m.0.0 m.0.1 (omega arith) m.1 in
    let s = length_takes MAX_THOUSANDTHS m.0.1 z.0.0 z.0.1 (omega arith) z.1 in
    subst (λ (y : Entry). IsLineOf (65 ∷ bs) y r) w.0
    (ap (λ (y : List ℕ). 65 ∷ y) (t.0 ∙ ap (field m.0.0) (s.0 ∙ ap (length_field z.0.0) w.1)) ∙ sym (assign_text m.0.0 z.0.0 r), pass_both _ _ (in_from 1 MAX_NUMBER m.0.0 t.1 t.2) s.1)

-- the text begins with the words of this verdict and the end of its line
abbrev IsVerdictLine : List ℕ → Verdict → List ℕ → Type 0
IsVerdictLine bs v r = (bs ≡ line (verdict_words v) ++ r) × (is_verdict_in_range v ≡ true)

refusal_takes : (bs : List ℕ) (v : Verdict) (r : List ℕ) → refusal_at bs ≡ Some (v, r) → IsVerdictLine (110 ∷ 111 ∷ 32 ∷ 74 ∷ bs) v r
unfolding refusal_at
refusal_takes bs v r e =
    let m = bind_some (ranged_at 1 MAX_RULE bs) _ (v, r) e in
    let a = bind_some (field_at 0 MAX_NUMBER m.0.1) _ (v, r) m.2 in
    let b = bind_some (field_at 0 MAX_NUMBER a.0.1) _ (v, r) a.2 in
    let w = ended (Refused m.0.0 a.0.0 b.0.0) b.0.1 v r b.2 in
    let t = ranged_takes 1 MAX_RULE bs m.0.0 m.0.1 (omega arith) m.1 in
    let ta = field_takes 0 MAX_NUMBER m.0.1 a.0.0 a.0.1 (omega arith) a.1 in
    let tb = field_takes 0 MAX_NUMBER a.0.1 b.0.0 b.0.1 (omega arith) b.1 in
    let text : bs ≡ decimal m.0.0 ++ field a.0.0 (field b.0.0 (10 ∷ r)) =
    t.0 ∙ ap (λ (y : List ℕ). decimal m.0.0 ++ y) (ta.0 ∙ ap (field a.0.0) (tb.0 ∙ ap (field b.0.0) w.1)) in
    subst (λ (y : Verdict). IsVerdictLine (110 ∷ 111 ∷ 32 ∷ 74 ∷ bs) y r) w.0 (
      ap (λ (y : List ℕ). 110 ∷ 111 ∷ 32 ∷ 74 ∷ y) text ∙ sym (refused_text m.0.0 a.0.0 b.0.0 r),
      pass_both _ _ (in_from 1 MAX_RULE m.0.0 t.1 t.2) (pass_both _ _ (le-leb a.0.0 MAX_NUMBER ta.2) (le-leb b.0.0 MAX_NUMBER tb.2)),
    )

verdict_takes : (bs : List ℕ) (v : Verdict) (r : List ℕ) → verdict_at bs ≡ Some (v, r) → IsVerdictLine bs v r
unfolding verdict_at
verdict_takes [] v r e = absurd cc
verdict_takes (b ∷ bs) v r e =
    letter b 111 _ _ _ e
    (λ is e.
    let s = bind_some (bytes_at (107 ∷ 10 ∷ []) bs) (λ rest. Some (Accepted, rest)) (v, r) e in
    let p = some_pair_parts Accepted v s.0 r s.2 in
    let text : (b ∷ bs) ≡ 111 ∷ 107 ∷ 10 ∷ r = ap (λ (c : ℕ). c ∷ bs) is ∙ ap (λ (y : List ℕ). 111 ∷ y) (bytes_take (107 ∷ 10 ∷ []) bs s.0 s.1 ∙ ap (λ (y : List ℕ). 107 ∷ 10 ∷ y) p.1) in
    subst (λ (y : Verdict). IsVerdictLine (b ∷ bs) y r) p.0 (text, refl))
    (λ e. letter b 110 _ _ _ e
    (λ is e.
    let s = bind_some (bytes_at (111 ∷ 32 ∷ 74 ∷ []) bs) refusal_at (v, r) e in
    let t = refusal_takes s.0 v r s.2 in
    (ap (λ (c : ℕ). c ∷ bs) is ∙ ap (λ (y : List ℕ). 110 ∷ y) (bytes_take (111 ∷ 32 ∷ 74 ∷ []) bs s.0 s.1) ∙ t.0, t.1))
    (λ e. absurd cc))

pub edit_takes : (bs : List ℕ) (x : Entry) (r : List ℕ) → edit_at bs ≡ Some (x, r) → IsLineOf (88 ∷ bs) x r
unfolding edit_at
edit_takes bs x r e =
    let m = bind_some (field_at 0 MAX_EDIT bs) _ (x, r) e in
    let s = bind_some (byte_at 32 m.0.1) _ (x, r) m.2 in
    let v = bind_some (verdict_at s.0) _ (x, r) s.2 in
    let p = some_pair_parts (Edit m.0.0 v.0.0) x v.0.1 r v.2 in
    let t = field_takes 0 MAX_EDIT bs m.0.0 m.0.1 (omega arith) m.1 in
    let tv = verdict_takes s.0 v.0.0 v.0.1 v.1 in
    let text : bs ≡ field m.0.0 (32 ∷ (line (verdict_words v.0.0) ++ r)) =
    t.0 ∙ ap (field m.0.0) (byte_takes 32 m.0.1 s.0 s.1 ∙ ap (λ (y : List ℕ). 32 ∷ y) (tv.0 ∙ ap (λ (y : List ℕ). line (verdict_words v.0.0) ++ y) p.1)) in
    subst (λ (y : Entry). IsLineOf (88 ∷ bs) y r) p.0
    (ap (λ (y : List ℕ). 88 ∷ y) text ∙ sym (edit_text m.0.0 v.0.0 r), pass_both _ _ (le-leb m.0.0 MAX_EDIT t.2) tv.1)

-- ---- what is written

one_again : (n : ℕ) (r : List ℕ) → is_number n ≡ true → one_at (field n (10 ∷ r)) ≡ Some (n, r)
unfolding one_at
one_again n r e = let b = from_in 1 MAX_NUMBER n e in rw (field_again 1 MAX_NUMBER n (10 ∷ r) b.0 b.1 (omega arith) (end_stops r), byte_again 10 r) refl

two_again : (most n k : ℕ) (s : List ℕ) → is_number n ≡ true → k ≤ most → most < 2 ^ 64 → ((m j : ℕ) → digits_at m j s ≡ Some (j, s)) → two_at most (field n (field k s)) ≡ Some ((n, k), s)
unfolding two_at
two_again most n k s e le small stops =
    let b = from_in 1 MAX_NUMBER n e in
    rw (field_again 1 MAX_NUMBER n (field k s) b.0 b.1 (omega arith) (space_stops _), field_again 0 most k s (omega arith) le small stops) refl

pub end_again : (n : ℕ) (r : List ℕ) → is_number n ≡ true → end_at (field n (10 ∷ r)) ≡ Some (End n, r)
unfolding end_at
end_again n r e = rw (one_again n r e) refl

pub set_again : (n : ℕ) (r : List ℕ) → is_number n ≡ true → set_at (field n (10 ∷ r)) ≡ Some (Set n, r)
unfolding set_at
set_again n r e = rw (one_again n r e) refl

pub pass_again : (n : ℕ) (r : List ℕ) → is_number n ≡ true → pass_at (field n (10 ∷ r)) ≡ Some (Pass n, r)
unfolding pass_at
pass_again n r e = rw (one_again n r e) refl

pub note_again : (n : ℕ) (r : List ℕ) → is_number n ≡ true → note_at (field n (10 ∷ r)) ≡ Some (Note n, r)
unfolding note_at
note_again n r e = rw (one_again n r e) refl

pub dispatch_again : (n v : ℕ) (r : List ℕ) → is_number n ≡ true → v ≤ MAX_VERSION → dispatch_at (field n (field v (10 ∷ r))) ≡ Some (Dispatch n v, r)
unfolding dispatch_at
dispatch_again n v r e le = rw (two_again MAX_VERSION n v (10 ∷ r) e le (omega arith) (end_stops r), byte_again 10 r) refl

pub pick_again : (n k : ℕ) (r : List ℕ) → is_number n ≡ true → k ≤ MAX_PICK → pick_at (field n (field k (10 ∷ r))) ≡ Some (Pick n k, r)
unfolding pick_at
pick_again n k r e le = rw (two_again MAX_PICK n k (10 ∷ r) e le (omega arith) (end_stops r), byte_again 10 r) refl

pub cut_again : (n k : ℕ) (b : Block) (r : List ℕ) → is_number n ≡ true → k < MAX_BLOCKS → is_block_in_range b ≡ true
    → cut_at (field n (field k (32 ∷ (line (block_words b) ++ r)))) ≡ Some (Cut n k b, r)
unfolding cut_at
cut_again n k b r e lt h =
    rw (two_again (MAX_BLOCKS - 1) n k (32 ∷ (line (block_words b) ++ r)) e (omega (arith, lt)) (omega arith) (space_stops _), byte_again 32 (line (block_words b) ++ r), block_again b r h) refl

answer_in : (holds : Bool) → answer holds ≤ 1
answer_in true = omega arith
answer_in false = omega arith

answer_back : (holds : Bool) → eqb (answer holds) 1 ≡ holds
answer_back true = refl
answer_back false = refl

pub test_again : (n : ℕ) (holds : Bool) (r : List ℕ) → is_number n ≡ true → test_at (field n (field (answer holds) (10 ∷ r))) ≡ Some (Test n holds, r)
unfolding test_at
test_again n holds r e =
    let b = from_in 1 MAX_NUMBER n e in
    rw (field_again 1 MAX_NUMBER n (field (answer holds) (10 ∷ r)) b.0 b.1 (omega arith) (space_stops _), field_again 0 1 (answer holds) (10 ∷ r) (omega arith) (answer_in holds) (omega arith) (end_stops r), byte_again 10 r, answer_back holds) refl

pub assign_again : (n : ℕ) (x : ℤ) (r : List ℕ) → is_number n ≡ true → is_within MAX_THOUSANDTHS x ≡ true → assign_at (field n (length_field x (10 ∷ r))) ≡ Some (Assign n x, r)
unfolding assign_at
assign_again n x r e w =
    let b = from_in 1 MAX_NUMBER n e in
    rw (field_again 1 MAX_NUMBER n (length_field x (10 ∷ r)) b.0 b.1 (omega arith) (space_stops _), length_again MAX_THOUSANDTHS x (10 ∷ r) w (omega arith) (end_stops r), byte_again 10 r) refl

refusal_again : (rule a b : ℕ) (r : List ℕ) → is_from 1 MAX_RULE rule ≡ true → a ≤ MAX_NUMBER → b ≤ MAX_NUMBER
    → refusal_at (decimal rule ++ field a (field b (10 ∷ r))) ≡ Some (Refused rule a b, r)
unfolding refusal_at
refusal_again rule a b r e la lb =
    let g = from_in 1 MAX_RULE rule e in
    rw (ranged_again 1 MAX_RULE rule (field a (field b (10 ∷ r))) g.0 g.1 (omega arith) (space_stops _), field_again 0 MAX_NUMBER a (field b (10 ∷ r)) (omega arith) la (omega arith) (space_stops _), field_again 0 MAX_NUMBER b (10 ∷ r) (omega arith) lb (omega arith) (end_stops r), byte_again 10 r) refl

-- an accepted edit, behind the rest of its word
abbrev accepted : Option (List ℕ) → Option (Verdict × List ℕ)
accepted o = ◌>>=◌ {B = Verdict × List ℕ} o (λ rest. Some (Accepted, rest))

verdict_yes : (bs : List ℕ) → verdict_at (111 ∷ bs) ≡ accepted (bytes_at (107 ∷ 10 ∷ []) bs)
unfolding verdict_at
verdict_yes bs = refl

verdict_no : (bs : List ℕ) → verdict_at (110 ∷ bs) ≡ (bytes_at (111 ∷ 32 ∷ 74 ∷ []) bs >>= refusal_at)
unfolding verdict_at
verdict_no bs = refl

verdict_again : (v : Verdict) (r : List ℕ) → is_verdict_in_range v ≡ true → verdict_at (line (verdict_words v) ++ r) ≡ Some (v, r)
verdict_again Accepted r e = verdict_yes (107 ∷ 10 ∷ r) ∙ ap accepted (bytes_again (107 ∷ 10 ∷ []) r)
verdict_again (Refused rule a b) r e =
    let g = both_pass _ _ e in
    let h = both_pass _ _ g.1 in
    let rest = decimal rule ++ field a (field b (10 ∷ r)) in
    ap verdict_at (refused_text rule a b r)
    ∙ verdict_no (111 ∷ 32 ∷ 74 ∷ rest)
    ∙ ap (λ (o : Option (List ℕ)). o >>= refusal_at) (bytes_again (111 ∷ 32 ∷ 74 ∷ []) rest)
    ∙ refusal_again rule a b r g.0 (leb-true a MAX_NUMBER h.0) (leb-true b MAX_NUMBER h.1)

pub edit_again : (i : ℕ) (v : Verdict) (r : List ℕ) → i ≤ MAX_EDIT → is_verdict_in_range v ≡ true → edit_at (field i (32 ∷ (line (verdict_words v) ++ r))) ≡ Some (Edit i v, r)
unfolding edit_at
edit_again i v r le e =
    rw (field_again 0 MAX_EDIT i (32 ∷ (line (verdict_words v) ++ r)) (omega arith) le (omega arith) (space_stops _), byte_again 32 (line (verdict_words v) ++ r), verdict_again v r e) refl
