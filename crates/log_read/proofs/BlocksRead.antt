-- Blocks are read as they are written, and no others are.
use Rattle.std.proofs.Common.{◌≡◌, ℕ, inl, inr, ℤ, true, cond, eqb, List, [], ◌∷◌, ◌++◌, Some, refl, sym, ap, subst, ◌∙◌, append_assoc, arith}
use Rattle.std.proofs.lemmas.Bool.{eqb-true}
use Rattle.std.proofs.lemmas.Option.{some_pair_parts}
use Rattle.nc_base.specs.declared.numbers.TheConstants.{MAX_NUMBER}
use Rattle.path_blocks.specs.declared.limits.TheConstants.{MAX_SIZE}
use Rattle.path_blocks.specs.declared.block.Block.{Block}
use Rattle.path_blocks.specs.declared.block.Block.TheVariants.{Tool, Rapid, Feed, Dwell}
use Rattle.run_log.specs.Line.{line}
use Rattle.run_log.specs.LogText.{block_words}
use Rattle.log_read.specs.Range.{is_from, is_within, is_rate, is_block_in_range}
use Rattle.log_read.specs.declared.limits.TheConstants.{MAX_RATE}
use Rattle.log_read.specs.Reading.{◌>>=◌, byte_at, digits_at, field_at, length_at, rate_at, tool_at, point_at, rapid_at, feed_at, dwell_at, block_at}
use Rattle.log_read.proofs.WordsRead.{bind_some, chosen, both_pass, pass_both, in_from, from_in, byte_takes, byte_again, space_stops, end_stops, field, field_takes, field_again, length_field, length_takes, length_again, rate_takes, rate_again}

-- a value and the end of its line
pub ended : {A : Type 0} (x : A) (bs : List ℕ) (y : A) (s : List ℕ) → ◌>>=◌ {B = A × List ℕ} (byte_at 10 bs) (λ rest. Some (x, rest)) ≡ Some (y, s) → (x ≡ y) × (bs ≡ 10 ∷ s)
ended x bs y s e =
    let t = bind_some (byte_at 10 bs) (λ rest. Some (x, rest)) (y, s) e in
    let p = some_pair_parts x y t.0 s t.2 in
    (p.0, byte_takes 10 bs t.0 t.1 ∙ ap (λ (v : List ℕ). 10 ∷ v) p.1)

-- one of several letters
pub letter : {A P : Type 0} (b k : ℕ) (x y z : A) → cond (eqb b k) x y ≡ z → (b ≡ k → x ≡ z → P) → (y ≡ z → P) → P
letter b k x y z e f g = elim (chosen (eqb b k) x y z e) [ inl h ↦ f (eqb-true b k h.0) h.1 | inr h ↦ g h.1 ]

-- the text is this block up to the end of its line, and its numbers are in their ranges
abbrev pub IsBlockLine : List ℕ → Block → List ℕ → Type 0
IsBlockLine bs b r = (bs ≡ line (block_words b) ++ r) × (is_block_in_range b ≡ true)

abbrev pub point_text : ℤ × ℤ × ℤ → List ℕ → List ℕ
point_text p s = length_field p.0 (length_field p.1 (length_field p.2 s))

tool_text : (t : ℕ) (z : ℤ) (r : List ℕ) → line (block_words (Tool t z)) ++ r ≡ 84 ∷ field t (length_field z (10 ∷ r))
tool_text t z r = simp append_assoc

rapid_text : (x y z : ℤ) (r : List ℕ) → line (block_words (Rapid x y z)) ++ r ≡ 82 ∷ point_text (x, y, z) (10 ∷ r)
rapid_text x y z r = simp append_assoc

feed_text : (x y z f : ℤ) (r : List ℕ) → line (block_words (Feed x y z f)) ++ r ≡ 70 ∷ point_text (x, y, z) (length_field f (10 ∷ r))
feed_text x y z f r = simp append_assoc

dwell_text : (ms : ℤ) (r : List ℕ) → line (block_words (Dwell ms)) ++ r ≡ 87 ∷ length_field ms (10 ∷ r)
dwell_text ms r = simp append_assoc

-- ---- what is read

tool_takes : (bs : List ℕ) (b : Block) (r : List ℕ) → tool_at bs ≡ Some (b, r) → IsBlockLine (84 ∷ bs) b r
unfolding tool_at
tool_takes bs b r e =
    let n = bind_some (field_at 1 MAX_NUMBER bs) _ (b, r) e in
    let s = bind_some (length_at MAX_RATE n.0.1) _ (b, r) n.2 in
    let w = ended (Tool n.0.0 s.0.0) s.0.1 b r s.2 in
    let tn = field_takes 1 MAX_NUMBER bs n.0.0 n.0.1 (omega arith) n.1 in
    let ts = length_takes MAX_RATE n.0.1 s.0.0 s.0.1 (omega arith) s.1 in
    let text : (84 ∷ bs) ≡ 84 ∷ field n.0.0 (length_field s.0.0 (10 ∷ r)) =
    ap (λ (x : List ℕ). 84 ∷ x) (tn.0 ∙ ap (field n.0.0) (ts.0 ∙ ap (length_field s.0.0) w.1)) in
    subst (λ (x : Block). IsBlockLine (84 ∷ bs) x r) w.0
    (text ∙ sym (tool_text n.0.0 s.0.0 r), pass_both _ _ (in_from 1 MAX_NUMBER n.0.0 tn.1 tn.2) ts.1)

pub point_takes : (bs : List ℕ) (p : ℤ × ℤ × ℤ) (r : List ℕ) → point_at bs ≡ Some (p, r)
    → (bs ≡ point_text p r) × (is_within MAX_SIZE p.0 ≡ true) × (is_within MAX_SIZE p.1 ≡ true) × (is_within MAX_SIZE p.2 ≡ true)
unfolding point_at
point_takes bs p r e =
    let x = bind_some (length_at MAX_SIZE bs) _ (p, r) e in
    let y = bind_some (length_at MAX_SIZE x.0.1) _ (p, r) x.2 in
    let z = bind_some (length_at MAX_SIZE y.0.1) _ (p, r) y.2 in
    let made : ℤ × ℤ × ℤ = (x.0.0, y.0.0, z.0.0) in
    let w = some_pair_parts made p z.0.1 r z.2 in
    let tx = length_takes MAX_SIZE bs x.0.0 x.0.1 (omega arith) x.1 in
    let ty = length_takes MAX_SIZE x.0.1 y.0.0 y.0.1 (omega arith) y.1 in
    let tz = length_takes MAX_SIZE y.0.1 z.0.0 z.0.1 (omega arith) z.1 in
    let text : bs ≡ point_text made r =
    tx.0 ∙ ap (length_field x.0.0) (ty.0 ∙ ap (length_field y.0.0) (tz.0 ∙ ap (length_field z.0.0) w.1)) in
    subst (λ (q : ℤ × ℤ × ℤ). (bs ≡ point_text q r) × (is_within MAX_SIZE q.0 ≡ true) × (is_within MAX_SIZE q.1 ≡ true) × (is_within MAX_SIZE q.2 ≡ true)) w.0
    (text, tx.1, ty.1, tz.1)

rapid_takes : (bs : List ℕ) (b : Block) (r : List ℕ) → rapid_at bs ≡ Some (b, r) → IsBlockLine (82 ∷ bs) b r
unfolding rapid_at
rapid_takes bs b r e =
    let p = bind_some (point_at bs) _ (b, r) e in
    let w = ended (Rapid p.0.0.0 p.0.0.1 p.0.0.2) p.0.1 b r p.2 in
    let t = point_takes bs p.0.0 p.0.1 p.1 in
    let text : (82 ∷ bs) ≡ 82 ∷ point_text p.0.0 (10 ∷ r) = ap (λ (x : List ℕ). 82 ∷ x) (t.0 ∙ ap (point_text p.0.0) w.1) in
    subst (λ (x : Block). IsBlockLine (82 ∷ bs) x r) w.0
    (text ∙ sym (rapid_text p.0.0.0 p.0.0.1 p.0.0.2 r), pass_both _ _ t.1 (pass_both _ _ t.2 t.3))

feed_takes : (bs : List ℕ) (b : Block) (r : List ℕ) → feed_at bs ≡ Some (b, r) → IsBlockLine (70 ∷ bs) b r
unfolding feed_at
feed_takes bs b r e =
    let p = bind_some (point_at bs) _ (b, r) e in
    let f = bind_some (rate_at p.0.1) _ (b, r) p.2 in
    let w = ended (Feed p.0.0.0 p.0.0.1 p.0.0.2 f.0.0) f.0.1 b r f.2 in
    let t = point_takes bs p.0.0 p.0.1 p.1 in
    let tf = rate_takes p.0.1 f.0.0 f.0.1 f.1 in
    let text : (70 ∷ bs) ≡ 70 ∷ point_text p.0.0 (length_field f.0.0 (10 ∷ r)) =
    ap (λ (x : List ℕ). 70 ∷ x) (t.0 ∙ ap (point_text p.0.0) (tf.0 ∙ ap (length_field f.0.0) w.1)) in
    subst (λ (x : Block). IsBlockLine (70 ∷ bs) x r) w.0
    (text ∙ sym (feed_text p.0.0.0 p.0.0.1 p.0.0.2 f.0.0 r), pass_both _ _ t.1 (pass_both _ _ t.2 (pass_both _ _ t.3 tf.1)))

dwell_takes : (bs : List ℕ) (b : Block) (r : List ℕ) → dwell_at bs ≡ Some (b, r) → IsBlockLine (87 ∷ bs) b r
unfolding dwell_at
dwell_takes bs b r e =
    let f = bind_some (rate_at bs) _ (b, r) e in
    let w = ended (Dwell f.0.0) f.0.1 b r f.2 in
    let tf = rate_takes bs f.0.0 f.0.1 f.1 in
    let text : (87 ∷ bs) ≡ 87 ∷ length_field f.0.0 (10 ∷ r) = ap (λ (x : List ℕ). 87 ∷ x) (tf.0 ∙ ap (length_field f.0.0) w.1) in
    subst (λ (x : Block). IsBlockLine (87 ∷ bs) x r) w.0 (text ∙ sym (dwell_text f.0.0 r), tf.1)

-- a line behind its letter
at_letter : (b k : ℕ) (bs : List ℕ) (x : Block) (r : List ℕ) → b ≡ k → IsBlockLine (k ∷ bs) x r → IsBlockLine (b ∷ bs) x r
at_letter b k bs x r e h = subst (λ (c : ℕ). IsBlockLine (c ∷ bs) x r) (sym e) h

pub block_takes : (bs : List ℕ) (x : Block) (r : List ℕ) → block_at bs ≡ Some (x, r) → IsBlockLine bs x r
unfolding block_at
block_takes [] x r e = absurd cc
block_takes (b ∷ bs) x r e =
    letter b 84 _ _ _ e (λ is t. at_letter b 84 bs x r is (tool_takes bs x r t)) (λ e.
    letter b 82 _ _ _ e (λ is t. at_letter b 82 bs x r is (rapid_takes bs x r t)) (λ e.
    letter b 70 _ _ _ e (λ is t. at_letter b 70 bs x r is (feed_takes bs x r t)) (λ e.
    letter b 87 _ _ _ e (λ is t. at_letter b 87 bs x r is (dwell_takes bs x r t)) (λ e. absurd cc))))

-- ---- what is written

point_again : (x y z : ℤ) (s : List ℕ) → is_within MAX_SIZE x ≡ true → is_within MAX_SIZE y ≡ true → is_within MAX_SIZE z ≡ true
    → ((most n : ℕ) → digits_at most n s ≡ Some (n, s)) → point_at (point_text (x, y, z) s) ≡ Some ((x, y, z), s)
unfolding point_at
point_again x y z s wx wy wz stops =
    rw (length_again MAX_SIZE x (length_field y (length_field z s)) wx (omega arith) (space_stops _), length_again MAX_SIZE y (length_field z s) wy (omega arith) (space_stops _), length_again MAX_SIZE z s wz (omega arith) stops)
    refl

tool_again : (t : ℕ) (z : ℤ) (r : List ℕ) → is_from 1 MAX_NUMBER t ≡ true → is_within MAX_RATE z ≡ true → tool_at (field t (length_field z (10 ∷ r))) ≡ Some (Tool t z, r)
unfolding tool_at
tool_again t z r n w =
    let b = from_in 1 MAX_NUMBER t n in
    rw (field_again 1 MAX_NUMBER t (length_field z (10 ∷ r)) b.0 b.1 (omega arith) (space_stops _), length_again MAX_RATE z (10 ∷ r) w (omega arith) (end_stops r), byte_again 10 r) refl

rapid_again : (x y z : ℤ) (r : List ℕ) → is_within MAX_SIZE x ≡ true → is_within MAX_SIZE y ≡ true → is_within MAX_SIZE z ≡ true
    → rapid_at (point_text (x, y, z) (10 ∷ r)) ≡ Some (Rapid x y z, r)
unfolding rapid_at
rapid_again x y z r wx wy wz = rw (point_again x y z (10 ∷ r) wx wy wz (end_stops r), byte_again 10 r) refl

feed_again : (x y z f : ℤ) (r : List ℕ) → is_within MAX_SIZE x ≡ true → is_within MAX_SIZE y ≡ true → is_within MAX_SIZE z ≡ true → is_rate f ≡ true
    → feed_at (point_text (x, y, z) (length_field f (10 ∷ r))) ≡ Some (Feed x y z f, r)
unfolding feed_at
feed_again x y z f r wx wy wz wf =
    rw (point_again x y z (length_field f (10 ∷ r)) wx wy wz (space_stops _), rate_again f (10 ∷ r) wf (end_stops r), byte_again 10 r) refl

dwell_again : (f : ℤ) (r : List ℕ) → is_rate f ≡ true → dwell_at (length_field f (10 ∷ r)) ≡ Some (Dwell f, r)
unfolding dwell_at
dwell_again f r wf = rw (rate_again f (10 ∷ r) wf (end_stops r), byte_again 10 r) refl

block_tool : (bs : List ℕ) → block_at (84 ∷ bs) ≡ tool_at bs
unfolding block_at
block_tool bs = refl

block_rapid : (bs : List ℕ) → block_at (82 ∷ bs) ≡ rapid_at bs
unfolding block_at
block_rapid bs = refl

block_feed : (bs : List ℕ) → block_at (70 ∷ bs) ≡ feed_at bs
unfolding block_at
block_feed bs = refl

block_dwell : (bs : List ℕ) → block_at (87 ∷ bs) ≡ dwell_at bs
unfolding block_at
block_dwell bs = refl

pub block_again : (b : Block) (r : List ℕ) → is_block_in_range b ≡ true → block_at (line (block_words b) ++ r) ≡ Some (b, r)
block_again (Tool t z) r e =
    let g = both_pass _ _ e in
    ap block_at (tool_text t z r) ∙ block_tool _ ∙ tool_again t z r g.0 g.1
block_again (Rapid x y z) r e =
    let g = both_pass _ _ e in
    let h = both_pass _ _ g.1 in
    ap block_at (rapid_text x y z r) ∙ block_rapid _ ∙ rapid_again x y z r g.0 h.0 h.1
block_again (Feed x y z f) r e =
    let g = both_pass _ _ e in
    let h = both_pass _ _ g.1 in
    let i = both_pass _ _ h.1 in
    ap block_at (feed_text x y z f r) ∙ block_feed _ ∙ feed_again x y z f r g.0 h.0 i.0 i.1
block_again (Dwell f) r e = ap block_at (dwell_text f r) ∙ block_dwell _ ∙ dwell_again f r e
