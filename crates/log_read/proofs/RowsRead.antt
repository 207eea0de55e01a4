-- Lines behind the first one are read as they are written, and no others are.
use Rattle.std.proofs.Common.{◌≡◌, ℕ, ◌≤◌, true, List, [], ◌∷◌, ◌++◌, Option, Some, None, refl, sym, ap, subst, ◌∙◌, append_assoc, arith}
use Rattle.std.specs.Prelude.{codes}
use Rattle.std.proofs.lemmas.Bool.{leb-true, ltb-true}
use Rattle.std.proofs.lemmas.Option.{some_pair_parts}
use Rattle.path_blocks.specs.declared.limits.TheConstants.{MAX_BLOCKS}
use Rattle.run_log.specs.declared.entry.TheConstants.{MAX_ENTRIES}
use Rattle.run_log.specs.declared.entry.Entry.{Entry}
use Rattle.run_log.specs.declared.entry.Entry.TheVariants.{Dispatch, Block as Cut, End, Pick, Test, Assign, Set, Pass, Note, Edit}
use Rattle.run_log.specs.declared.entry.Ending.{Ending}
use Rattle.run_log.specs.declared.entry.Ending.TheVariants.{Done, Blocked, Limit}
use Rattle.run_log.specs.LogText.{entry_line, last_line, ending_word}
use Rattle.log_read.specs.declared.rows.LogLine.{LogLine}
use Rattle.log_read.specs.declared.rows.LogLine.TheVariants.{Of, Last}
use Rattle.log_read.specs.Range.{is_in_range}
use Rattle.log_read.specs.declared.limits.TheConstants.{MAX_VERSION, MAX_EDIT, MAX_PICK}
use Rattle.log_read.specs.Reading.{◌>>=◌, bytes_at, field_at, end_at, set_at, pass_at, note_at, dispatch_at, cut_at, pick_at, test_at, assign_at, edit_at, ending_at, last_at, of_entry, row_at}
use Rattle.log_read.proofs.WordsRead.{bind_some, both_pass, bytes_take, bytes_again, byte_again, end_stops, field, field_takes, field_again}
use Rattle.log_read.proofs.BlocksRead.{ended, letter}
use Rattle.log_read.proofs.EntriesRead.{IsLineOf, end_text, set_text, pass_text, note_text, dispatch_text, pick_text, assign_text, test_text, cut_text, edit_text, end_takes, set_takes, pass_takes, note_takes, dispatch_takes, pick_takes, cut_takes, test_takes, assign_takes, edit_takes, end_again, set_again, pass_again, note_again, dispatch_again, pick_again, cut_again, test_again, assign_again, edit_again}

-- the text begins with this line
abbrev pub IsRow : List ℕ → LogLine → List ℕ → Type 0
IsRow bs (Of x) r = IsLineOf bs x r
IsRow bs (Last d c) r = (bs ≡ last_line d c ++ r) × (c ≤ MAX_ENTRIES)

-- ---- last lines

pub last_text : (d : Ending) (c : ℕ) (r : List ℕ) → last_line d c ++ r ≡ 101 ∷ 110 ∷ 100 ∷ 32 ∷ (ending_word d ++ field c (10 ∷ r))
unfolding last_line
last_text d c r = simp append_assoc

-- the word of an ending behind its letter
word_takes : (b k : ℕ) (ws bs : List ℕ) (d x : Ending) (r : List ℕ) → b ≡ k → ending_word d ≡ k ∷ ws → ◌>>=◌ {B = Ending × List ℕ} (bytes_at ws bs) (λ rest. Some (d, rest)) ≡ Some (x, r) → (b ∷ bs) ≡ ending_word x ++ r
word_takes b k ws bs d x r is word e =
    let s = bind_some (bytes_at ws bs) (λ rest. Some (d, rest)) (x, r) e in
    let p = some_pair_parts d x s.0 r s.2 in
    let text : (b ∷ bs) ≡ ending_word d ++ r =
    ap (λ (c : ℕ). c ∷ bs) is ∙ ap (λ (y : List ℕ). k ∷ y) (bytes_take ws bs s.0 s.1 ∙ ap (λ (y : List ℕ). ws ++ y) p.1) ∙ ap (λ (y : List ℕ). y ++ r) (sym word) in
    subst (λ (y : Ending). (b ∷ bs) ≡ ending_word y ++ r) p.0 text

ending_takes : (bs : List ℕ) (x : Ending) (r : List ℕ) → ending_at bs ≡ Some (x, r) → bs ≡ ending_word x ++ r
unfolding ending_at
ending_takes [] x r e = absurd cc
ending_takes (b ∷ bs) x r e =
    letter b 100 _ _ _ e (λ is e. word_takes b 100 (codes "one") bs Done x r is refl e) (λ e.
    letter b 98 _ _ _ e (λ is e. word_takes b 98 (codes "locked") bs Blocked x r is refl e) (λ e.
    letter b 108 _ _ _ e (λ is e. word_takes b 108 (codes "imit") bs Limit x r is refl e) (λ e. absurd cc)))

ending_again : (d : Ending) (r : List ℕ) → ending_at (ending_word d ++ r) ≡ Some (d, r)
unfolding ending_at
ending_again Done r = rw (bytes_again (codes "one") r) refl
ending_again Blocked r = rw (bytes_again (codes "locked") r) refl
ending_again Limit r = rw (bytes_again (codes "imit") r) refl

last_takes : (bs : List ℕ) (w : LogLine) (r : List ℕ) → last_at bs ≡ Some (w, r) → IsRow (101 ∷ bs) w r
unfolding last_at
last_takes bs w r e =
    let s = bind_some (bytes_at (codes "nd ") bs) _ (w, r) e in
    let d = bind_some (ending_at s.0) _ (w, r) s.2 in
    let c = bind_some (field_at 0 MAX_ENTRIES d.0.1) _ (w, r) d.2 in
    let p = ended (Last d.0.0 c.0.0) c.0.1 w r c.2 in
    let t = field_takes 0 MAX_ENTRIES d.0.1 c.0.0 c.0.1 (omega arith) c.1 in
    let text : bs ≡ 110 ∷ 100 ∷ 32 ∷ (ending_word d.0.0 ++ field c.0.0 (10 ∷ r)) =
    bytes_take (codes "nd ") bs s.0 s.1
    ∙ ap (λ (y : List ℕ). 110 ∷ 100 ∷ 32 ∷ y) (ending_takes s.0 d.0.0 d.0.1 d.1 ∙ ap (λ (y : List ℕ). ending_word d.0.0 ++ y) (t.0 ∙ ap (field c.0.0) p.1)) in
    subst (λ (y : LogLine). IsRow (101 ∷ bs) y r) p.0 (ap (λ (y : List ℕ). 101 ∷ y) text ∙ sym (last_text d.0.0 c.0.0 r), t.2)

-- ---- what is read

-- the line of an entry behind its letter
of_row : (b k : ℕ) (bs : List ℕ) (o : Option (Entry × List ℕ)) (w : LogLine) (r : List ℕ) → b ≡ k → of_entry o ≡ Some (w, r) → ((x : Entry) → o ≡ Some (x, r) → IsLineOf (k ∷ bs) x r) → IsRow (b ∷ bs) w r
of_row b k bs None w r is e f = absurd cc
of_row b k bs (Some x) w r is e f =
    let p = some_pair_parts (Of x.0) w x.1 r e in
    let line = f x.0 (ap (λ (y : List ℕ). Some (x.0, y)) p.1) in
    subst (λ (v : LogLine). IsRow (b ∷ bs) v r) p.0 (subst (λ (c : ℕ). IsLineOf (c ∷ bs) x.0 r) (sym is) line)

pub row_takes : (bs : List ℕ) (w : LogLine) (r : List ℕ) → row_at bs ≡ Some (w, r) → IsRow bs w r
unfolding row_at
row_takes [] w r e = absurd cc
row_takes (b ∷ bs) w r e =
    letter b 66 _ _ _ e (λ is e. of_row b 66 bs (cut_at bs) w r is e (λ x h. cut_takes bs x r h)) (λ e.
    letter b 68 _ _ _ e (λ is e. of_row b 68 bs (dispatch_at bs) w r is e (λ x h. dispatch_takes bs x r h)) (λ e.
    letter b 69 _ _ _ e (λ is e. of_row b 69 bs (end_at bs) w r is e (λ x h. end_takes bs x r h)) (λ e.
    letter b 80 _ _ _ e (λ is e. of_row b 80 bs (pick_at bs) w r is e (λ x h. pick_takes bs x r h)) (λ e.
    letter b 84 _ _ _ e (λ is e. of_row b 84 bs (test_at bs) w r is e (λ x h. test_takes bs x r h)) (λ e.
    letter b 65 _ _ _ e (λ is e. of_row b 65 bs (assign_at bs) w r is e (λ x h. assign_takes bs x r h)) (λ e.
    letter b 83 _ _ _ e (λ is e. of_row b 83 bs (set_at bs) w r is e (λ x h. set_takes bs x r h)) (λ e.
    letter b 87 _ _ _ e (λ is e. of_row b 87 bs (pass_at bs) w r is e (λ x h. pass_takes bs x r h)) (λ e.
    letter b 77 _ _ _ e (λ is e. of_row b 77 bs (note_at bs) w r is e (λ x h. note_takes bs x r h)) (λ e.
    letter b 88 _ _ _ e (λ is e. of_row b 88 bs (edit_at bs) w r is e (λ x h. edit_takes bs x r h)) (λ e.
    letter b 101 _ _ _ e (λ is e. subst (λ (c : ℕ). IsRow (c ∷ bs) w r) (sym is) (last_takes bs w r e)) (λ e. absurd cc)))))))))))

-- ---- what is written

row_cut : (bs : List ℕ) → row_at (66 ∷ bs) ≡ of_entry (cut_at bs)
unfolding row_at
row_cut bs = refl

row_dispatch : (bs : List ℕ) → row_at (68 ∷ bs) ≡ of_entry (dispatch_at bs)
unfolding row_at
row_dispatch bs = refl

row_end : (bs : List ℕ) → row_at (69 ∷ bs) ≡ of_entry (end_at bs)
unfolding row_at
row_end bs = refl

row_pick : (bs : List ℕ) → row_at (80 ∷ bs) ≡ of_entry (pick_at bs)
unfolding row_at
row_pick bs = refl

row_test : (bs : List ℕ) → row_at (84 ∷ bs) ≡ of_entry (test_at bs)
unfolding row_at
row_test bs = refl

row_assign : (bs : List ℕ) → row_at (65 ∷ bs) ≡ of_entry (assign_at bs)
unfolding row_at
row_assign bs = refl

row_set : (bs : List ℕ) → row_at (83 ∷ bs) ≡ of_entry (set_at bs)
unfolding row_at
row_set bs = refl

row_pass : (bs : List ℕ) → row_at (87 ∷ bs) ≡ of_entry (pass_at bs)
unfolding row_at
row_pass bs = refl

row_note : (bs : List ℕ) → row_at (77 ∷ bs) ≡ of_entry (note_at bs)
unfolding row_at
row_note bs = refl

row_edit : (bs : List ℕ) → row_at (88 ∷ bs) ≡ of_entry (edit_at bs)
unfolding row_at
row_edit bs = refl

row_last : (bs : List ℕ) → row_at (101 ∷ bs) ≡ last_at bs
unfolding row_at
row_last bs = refl

pub row_again : (x : Entry) (r : List ℕ) → is_in_range x ≡ true → row_at (entry_line x ++ r) ≡ Some (Of x, r)
row_again (Dispatch n v) r e = let g = both_pass _ _ e in ap row_at (dispatch_text n v r) ∙ row_dispatch _ ∙ ap of_entry (dispatch_again n v r g.0 (leb-true v MAX_VERSION g.1))
row_again (Cut n k b) r e =
    let g = both_pass _ _ e in
    let h = both_pass _ _ g.1 in
    ap row_at (cut_text n k b r) ∙ row_cut _ ∙ ap of_entry (cut_again n k b r g.0 (ltb-true k MAX_BLOCKS h.0) h.1)
row_again (End n) r e = ap row_at (end_text n r) ∙ row_end _ ∙ ap of_entry (end_again n r e)
row_again (Pick n k) r e = let g = both_pass _ _ e in ap row_at (pick_text n k r) ∙ row_pick _ ∙ ap of_entry (pick_again n k r g.0 (leb-true k MAX_PICK g.1))
row_again (Test n holds) r e = ap row_at (test_text n holds r) ∙ row_test _ ∙ ap of_entry (test_again n holds r e)
row_again (Assign n x) r e = let g = both_pass _ _ e in ap row_at (assign_text n x r) ∙ row_assign _ ∙ ap of_entry (assign_again n x r g.0 g.1)
row_again (Set n) r e = ap row_at (set_text n r) ∙ row_set _ ∙ ap of_entry (set_again n r e)
row_again (Pass n) r e = ap row_at (pass_text n r) ∙ row_pass _ ∙ ap of_entry (pass_again n r e)
row_again (Note n) r e = ap row_at (note_text n r) ∙ row_note _ ∙ ap of_entry (note_again n r e)
row_again (Edit i v) r e = let g = both_pass _ _ e in ap row_at (edit_text i v r) ∙ row_edit _ ∙ ap of_entry (edit_again i v r (leb-true i MAX_EDIT g.0) g.1)

last_again : (d : Ending) (c : ℕ) (r : List ℕ) → c ≤ MAX_ENTRIES → last_at (110 ∷ 100 ∷ 32 ∷ (ending_word d ++ field c (10 ∷ r))) ≡ Some (Last d c, r)
unfolding last_at
last_again d c r le =
    rw (bytes_again (codes "nd ") (ending_word d ++ field c (10 ∷ r)), ending_again d (field c (10 ∷ r)), field_again 0 MAX_ENTRIES c (10 ∷ r) (omega arith) le (omega arith) (end_stops r), byte_again 10 r) refl

pub row_again_last : (d : Ending) (c : ℕ) (r : List ℕ) → c ≤ MAX_ENTRIES → row_at (last_line d c ++ r) ≡ Some (Last d c, r)
row_again_last d c r le = ap row_at (last_text d c r) ∙ row_last _ ∙ last_again d c r le
