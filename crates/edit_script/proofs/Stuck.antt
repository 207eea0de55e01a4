-- Where the symbols of an edit are missing, and where an edit stands.
use Rattle.std.proofs.Common.{◌≡◌, ℕ, ◌+◌, ◌-◌, ◌<◌, ◌≤◌, false, List, [], ◌∷◌, ◌++◌, length, map, drop, refl, sym, ap, subst, ◌∙◌, append_assoc, append-nil, length-append, inl, inr, IsTrue, arith}
use Rattle.std.specs.List.{AllByRecursion}
use Rattle.std.proofs.lemmas.List.{length-map, length-drop}
use Rattle.p21_lex.specs.declared.token.TokenKind.TheVariants.{Int}
use Rattle.p21_parse.specs.Tree.{InstanceTree}
use Rattle.p21_parse.specs.Symbol.{Symbol, value, name, semicolon, symbol_of}
use Rattle.p21_parse.specs.Spell.{spell_all, spell_instance}
use Rattle.p21_parse.specs.Nesting.{IsShallow}
use Rattle.p21_parse.specs.Begins.{Begins}
use Rattle.p21_parse.specs.Parser.{IsNotHead}
use Rattle.p21_parse.specs.Places.{start_of, place_of}
use Rattle.p21_parse.specs.Refused.{list_numbers}
use Rattle.p21_parse.specs.Allowed.{own_number_of, IsNoName}
use Rattle.p21_parse.specs.Following.{AreInstancesFrom}
use Rattle.p21_parse.proofs.Owned.{instances_numbers}
use Rattle.p21_parse.proofs.Appends.{longer_instances}
use Rattle.p21_parse.proofs.Unique.{same_instances}
use Rattle.edit_script.specs.declared.source.Source.{Source}
use Rattle.edit_script.specs.Script.{EditTree, edit_word, at_word, end_word, is_moment, spell_edit, IsEdit, IsScript, AreFew, IsFewScript}
use Rattle.edit_script.specs.Refused.{syntax, too_many, Refuses}
use Rattle.edit_script.specs.Source.{from, Has, IsMomentAt, IsNoMoment, IsHead, HeadStops, IsTail, TailStops, IsEditRead, Tells}
use Rattle.edit_script.proofs.Calm.{shallow_instances}
use Rattle.edit_script.proofs.Headed.{headed, opened, few_headed, ended, at_real, semicolon_real, zero_real, ended_real}

-- ---- where no script goes on

module _ (most : ℕ) (P : List Symbol → Type 0) (first_alone : (s : Symbol) (more m : List Symbol) → P (s ∷ more) → P (s ∷ m)) where
  stuck : (front back : List Symbol) → P back → ((m : List Symbol) → P m → IsScript (front ++ m) → ⊥) → Begins (IsFewScript most) front → IsShallow false 0 front → Refuses most syntax (front ++ back) (length back)
  stuck front back here never few shallow = (
    record {
      front = front;
      back = back;
      parts = refl;
      count = refl;
      begins = (few.0, few.1, (few.2.0, few.2.1, few.2.3));
      within = record { shallow = shallow; few = few };
      ends = λ s more e b. never (s ∷ b.0) (first_alone s more b.0 (subst P e here)) (subst IsScript (append_assoc front (s ∷ []) b.0) b.2);
    },
    never back here,
  )

left : (s : Source) (at : ℕ) → length (from s at) ≡ length s.tokens.now - at
left s at = length-map (drop at s.tokens.now) (symbol_of s.bytes.now) ∙ length-drop at s.tokens.now

refused_there : (s : Source) (most at k : ℕ) (front : List Symbol) → from s at ≡ front ++ from s k → Refuses most syntax (front ++ from s k) (length (from s k)) → Refuses most syntax (from s at) (length s.tokens.now - k)
refused_there s most at k front e r = subst (λ (n : ℕ). Refuses most syntax (from s at) n) (left s k) (subst (λ (ss : List Symbol). Refuses most syntax ss (length (from s k))) (sym e) r)

place_is : (s : Source) (k : ℕ) → k ≤ length s.tokens.now → start_of s.bytes.now (drop k s.tokens.now) ≡ place_of s.bytes.now s.tokens.now (length s.tokens.now - k)
place_is s k le = let back : length s.tokens.now - (length s.tokens.now - k) ≡ k = omega arith in ap (λ (k : ℕ). start_of s.bytes.now (drop k s.tokens.now)) (sym back)

pub told_at : (s : Source) (most at k place : ℕ) → k ≤ length s.tokens.now → place ≡ start_of s.bytes.now (drop k s.tokens.now) → Refuses most syntax (from s at) (length s.tokens.now - k) → Tells s most at syntax place
told_at s most at k place le is r = (length s.tokens.now - k, r, is ∙ place_is s k le)

-- ---- the head

-- an edit of no instances
nothing : EditTree
nothing = record { digits = 48 ∷ []; items = [] }

nothing_is : IsEdit nothing
unfolding nothing
nothing_is = record { moment = refl; items = tt }

nothing_few : (most : ℕ) → 0 < most → AreFew most (nothing ∷ [])
unfolding nothing
nothing_few most some = record { edits = omega arith; items = (omega arith, tt) }

no_edit : (most : ℕ) → Begins (IsFewScript most) []
no_edit most = ([], tt, ([], tt, record { edits = omega arith; items = tt }, refl))

begun_1 : (most : ℕ) → 0 < most → Begins (IsFewScript most) (edit_word ∷ [])
unfolding nothing
begun_1 most some = (at_word ∷ value Int (48 ∷ []) ∷ semicolon ∷ ended, (at_real, (zero_real, (semicolon_real, ended_real))), (nothing ∷ [], (nothing_is, tt), nothing_few most some, refl))

begun_2 : (most : ℕ) → 0 < most → Begins (IsFewScript most) (edit_word ∷ at_word ∷ [])
unfolding nothing
begun_2 most some = (value Int (48 ∷ []) ∷ semicolon ∷ ended, (zero_real, (semicolon_real, ended_real)), (nothing ∷ [], (nothing_is, tt), nothing_few most some, refl))

begun_3 : (most : ℕ) (digits : List ℕ) → IsTrue (is_moment digits) → 0 < most → Begins (IsFewScript most) (edit_word ∷ at_word ∷ value Int digits ∷ [])
begun_3 most digits is some =
    (semicolon ∷ ended, (semicolon_real, ended_real), (record { digits = digits; items = [] } ∷ [], (record { moment = is; items = tt }, tt), record { edits = omega arith; items = (omega arith, tt) }, refl))

another : Symbol → List Symbol → Type 0
another x ss = IsNotHead x ss × (0 < length ss)

pub no_word : (s : Source) (at most : ℕ) → at < length s.tokens.now → IsNotHead edit_word (from s at) → Refuses most syntax (from s at) (length s.tokens.now - at)
unfolding another
no_word s at most lt not =
    let long = left s at in
    refused_there s most at at [] refl (stuck most (another edit_word) (λ x more m p. (p.0, omega arith)) [] (from s at) (not, omega arith) never (no_edit most) tt)
  where
    never : (m : List Symbol) → another edit_word m → IsScript m → ⊥
    never m p w = by w.0 w.2
      where
        by : (xs : List EditTree) → m ≡ spell_all spell_edit xs [] → ⊥
        by [] e = let none = ap length e in absurd (omega (arith, none, p.1))
        by (x ∷ xs) e = subst (IsNotHead edit_word) e p.0 refl

pub head_stops_0 : (s : Source) (at : ℕ) → at < length s.tokens.now → IsNotHead edit_word (from s at) → HeadStops s at at
head_stops_0 s at lt not = record { inside = omega arith; refuses = λ most some. no_word s at most lt not }

pub head_stops_1 : (s : Source) (at : ℕ) → Has s at edit_word → IsNotHead at_word (from s (at + 1)) → HeadStops s at (at + 1)
head_stops_1 s at has not =
    let within = has.within in
    record {
      inside = omega arith;
      refuses = λ most some. refused_there s most at (at + 1) (edit_word ∷ []) has.first (stuck most (IsNotHead at_word) (λ x more m p. p) (edit_word ∷ []) (from s (at + 1)) not never (begun_1 most some) (omega arith, tt));
    }
  where
    never : (m : List Symbol) → IsNotHead at_word m → IsScript (edit_word ∷ m) → ⊥
    never m p w = by w.0 w.2
      where
        by : (xs : List EditTree) → edit_word ∷ m ≡ spell_all spell_edit xs [] → ⊥
        by [] e = absurd cc
        by (x ∷ xs) e = let there : m ≡ at_word ∷ value Int x.digits ∷ semicolon ∷ spell_all spell_instance x.items (end_word ∷ semicolon ∷ spell_all spell_edit xs []) = cc in subst (IsNotHead at_word) there p refl

two : (s : Source) (at : ℕ) → Has s at edit_word → Has s (at + 1) at_word → from s at ≡ edit_word ∷ at_word ∷ from s (at + 2)
two s at first second =
    let on : at + 1 + 1 ≡ at + 2 = omega arith in
    first.first ∙ ap (λ (ss : List Symbol). edit_word ∷ ss) (second.first ∙ ap (λ (k : ℕ). at_word ∷ from s k) on)

pub head_stops_2 : (s : Source) (at : ℕ) → Has s at edit_word → Has s (at + 1) at_word → IsNoMoment (from s (at + 2)) → HeadStops s at (at + 2)
head_stops_2 s at first second not =
    let within = second.within in
    record {
      inside = omega arith;
      refuses = λ most some. refused_there s most at (at + 2) (edit_word ∷ at_word ∷ []) (two s at first second)
          (stuck most IsNoMoment (λ x more m p. p) (edit_word ∷ at_word ∷ []) (from s (at + 2)) not never (begun_2 most some) (omega arith, (omega arith, tt)));
    }
  where
    never : (m : List Symbol) → IsNoMoment m → IsScript (edit_word ∷ at_word ∷ m) → ⊥
    never m p w = by w.0 w.1 w.2
      where
        by : (xs : List EditTree) → AllByRecursion IsEdit xs → edit_word ∷ at_word ∷ m ≡ spell_all spell_edit xs [] → ⊥
        by [] ok e = absurd cc
        by (x ∷ xs) ok e =
            let there : m ≡ value Int x.digits ∷ semicolon ∷ spell_all spell_instance x.items (end_word ∷ semicolon ∷ spell_all spell_edit xs []) = cc in
            subst IsNoMoment there p x.digits refl ok.0.moment

three : (s : Source) (at moment : ℕ) → Has s at edit_word → Has s (at + 1) at_word → (m : IsMomentAt s (at + 2) moment) → from s at ≡ edit_word ∷ at_word ∷ value Int m.digits ∷ from s (at + 3)
three s at moment first second m =
    let on : at + 2 + 1 ≡ at + 3 = omega arith in
    two s at first second ∙ ap (λ (ss : List Symbol). edit_word ∷ at_word ∷ ss) (m.has.first ∙ ap (λ (k : ℕ). value Int m.digits ∷ from s k) on)

pub head_stops_3 : (s : Source) (at moment : ℕ) → Has s at edit_word → Has s (at + 1) at_word → IsMomentAt s (at + 2) moment → IsNotHead semicolon (from s (at + 3)) → HeadStops s at (at + 3)
head_stops_3 s at moment first second third not =
    let within = third.has.within in
    let digits = third.digits in
    record {
      inside = omega arith;
      refuses = λ most some. refused_there s most at (at + 3) (edit_word ∷ at_word ∷ value Int third.digits ∷ []) (three s at moment first second third)
          (stuck most (IsNotHead semicolon) (λ x more m p. p) (edit_word ∷ at_word ∷ value Int third.digits ∷ []) (from s (at + 3)) not never (begun_3 most third.digits third.is some) (omega arith, (omega arith, (omega arith, tt))));
    }
  where
    never : (m : List Symbol) → IsNotHead semicolon m → IsScript (edit_word ∷ at_word ∷ value Int third.digits ∷ m) → ⊥
    never m p w = by w.0 w.2
      where
        by : (xs : List EditTree) → edit_word ∷ at_word ∷ value Int third.digits ∷ m ≡ spell_all spell_edit xs [] → ⊥
        by [] e = absurd cc
        by (x ∷ xs) e = let there : m ≡ semicolon ∷ spell_all spell_instance x.items (end_word ∷ semicolon ∷ spell_all spell_edit xs []) = cc in subst (IsNotHead semicolon) there p refl

pub head_is : (s : Source) (at moment : ℕ) → Has s at edit_word → Has s (at + 1) at_word → IsMomentAt s (at + 2) moment → Has s (at + 3) semicolon → IsHead s at moment
head_is s at moment first second third fourth =
    let within = fourth.within in
    let on : at + 3 + 1 ≡ at + 4 = omega arith in
    record {
      digits = third.digits;
      is = third.is;
      says = third.says;
      inside = omega arith;
      spells = three s at moment first second third ∙ ap (λ (ss : List Symbol). edit_word ∷ at_word ∷ value Int third.digits ∷ ss) (fourth.first ∙ ap (λ (k : ℕ). semicolon ∷ from s k) on);
    }

pub tail_is : (s : Source) (at : ℕ) → Has s at end_word → Has s (at + 1) semicolon → IsTail s at
tail_is s at first second =
    let within = second.within in
    let on : at + 1 + 1 ≡ at + 2 = omega arith in
    record { inside = omega arith; spells = first.first ∙ ap (λ (ss : List Symbol). end_word ∷ ss) (second.first ∙ ap (λ (k : ℕ). semicolon ∷ from s k) on) }

-- ---- the end of an edit

no_name_first : (s : Symbol) (more m : List Symbol) → IsNoName (s ∷ more) → IsNoName (s ∷ m)
no_name_first (name n) more m h = h
no_name_first s more m h = tt

no_end : List Symbol → Type 0
no_end ss = IsNotHead end_word ss × IsNoName ss

module _ (s : Source) (at moment end : ℕ) (items : List InstanceTree) (h : IsHead s at moment) (r : AreInstancesFrom s.bytes.now s.tokens.now (at + 4) 1000 items end) where
  up_to : from s at ≡ headed h.digits (spell_all spell_instance items (from s end))
  up_to = h.spells ∙ ap (headed h.digits) r.spells

  numbers_few : length (list_numbers (spell_all spell_instance items [])) ≤ 1000
  numbers_few =
      let few = r.allowed.few in
      let own = ap length (instances_numbers items []) in
      omega (arith, own, few, length-append (map own_number_of items) [], length-map items own_number_of)

  calm : (rest : List Symbol) → IsShallow false 0 rest → IsShallow false 0 (headed h.digits (spell_all spell_instance items rest))
  calm rest k = (omega arith, (omega arith, (omega arith, (omega arith, shallow_instances items rest r.allowed.shallow k))))

  missing : (most : ℕ) → 0 < most → IsNotHead end_word (from s end) → Refuses most syntax (from s at) (length s.tokens.now - end)
  unfolding no_end
  missing most some not =
      let front : List Symbol = headed h.digits (spell_all spell_instance items []) in
      refused_there s most at end front (up_to ∙ ap (headed h.digits) (longer_instances items [] (from s end)))
      (stuck most no_end (λ x more m p. (p.0, no_name_first x more m p.1)) front (from s end) (not, r.ends) never
      (few_headed h.digits h.is most (spell_all spell_instance items []) some ([], tt, (items, r.allowed.grammar, append-nil (spell_all spell_instance items []))) numbers_few) (calm [] tt))
    where
      never : (m : List Symbol) → no_end m → IsScript (headed h.digits (spell_all spell_instance items [] ++ m)) → ⊥
      never m p w =
          let o = opened h.digits (spell_all spell_instance items [] ++ m) w.0 w.1 w.2 in
          let rest : List Symbol = end_word ∷ semicolon ∷ spell_all spell_edit o.others [] in
          let k = same_instances items o.edit.items m rest p.1 tt (longer_instances items [] m ∙ o.spells) in
          subst (IsNotHead end_word) k.1 p.0 refl

  unended : (most : ℕ) → 0 < most → Has s end end_word → IsNotHead semicolon (from s (end + 1)) → Refuses most syntax (from s at) (length s.tokens.now - (end + 1))
  unended most some has not =
      let front : List Symbol = headed h.digits (spell_all spell_instance items (end_word ∷ [])) in
      refused_there s most at (end + 1) front (up_to ∙ ap (λ (ss : List Symbol). headed h.digits (spell_all spell_instance items ss)) has.first ∙ ap (headed h.digits) (longer_instances items (end_word ∷ []) (from s (end + 1))))
      (stuck most (IsNotHead semicolon) (λ x more m p. p) front (from s (end + 1)) not never few (calm (end_word ∷ []) (omega arith, tt)))
    where
      few : Begins (IsFewScript most) (headed h.digits (spell_all spell_instance items (end_word ∷ [])))
      few =
          let enough = r.allowed.few in (
            semicolon ∷ [],
            (semicolon_real, tt),
            (record { digits = h.digits; items = items } ∷ [], (record { moment = h.is; items = r.allowed.grammar }, tt), record { edits = omega arith; items = (enough, tt) }, ap (headed h.digits) (sym (longer_instances items (end_word ∷ []) (semicolon ∷ [])))),
          )

      never : (m : List Symbol) → IsNotHead semicolon m → IsScript (headed h.digits (spell_all spell_instance items (end_word ∷ []) ++ m)) → ⊥
      never m p w =
          let o = opened h.digits (spell_all spell_instance items (end_word ∷ []) ++ m) w.0 w.1 w.2 in
          let rest : List Symbol = end_word ∷ semicolon ∷ spell_all spell_edit o.others [] in
          let k = same_instances items o.edit.items (end_word ∷ m) rest tt tt (longer_instances items (end_word ∷ []) m ∙ o.spells) in
          let there : m ≡ semicolon ∷ spell_all spell_edit o.others [] = let both = k.1 in cc in
          subst (IsNotHead semicolon) there p refl

  pub end_stops : (k place : ℕ) → TailStops s end k → place ≡ start_of s.bytes.now (drop k s.tokens.now) → (most : ℕ) → 0 < most → Tells s most at syntax place
  end_stops k place (inl x) is most some =
      told_at s most at end place r.inside (is ∙ ap (λ (k : ℕ). start_of s.bytes.now (drop k s.tokens.now)) x.0) (missing most some x.1)
  end_stops k place (inr x) is most some =
      let within = x.1.within in
      told_at s most at (end + 1) place (omega arith) (is ∙ ap (λ (k : ℕ). start_of s.bytes.now (drop k s.tokens.now)) x.0) (unended most some x.1 x.2)

  pub edit_read : IsTail s end → IsEditRead s at (end + 2) (record { digits = h.digits; items = items })
  edit_read t =
      let onward = r.onward in
      record {
        onward = omega arith;
        inside = t.inside;
        spells = up_to ∙ ap (λ (ss : List Symbol). headed h.digits (spell_all spell_instance items ss)) t.spells;
        grammar = record { moment = h.is; items = r.allowed.grammar };
        shallow = r.allowed.shallow;
        few = r.allowed.few;
      }

-- ---- one edit too many

pub too_many_edits : (s : Source) (at place : ℕ) → Has s at edit_word → place ≡ start_of s.bytes.now (drop at s.tokens.now) → Tells s 0 at too_many place
too_many_edits s at place has is =
    let within = has.within in (
      length s.tokens.now - at,
      record {
        front = [];
        symbol = edit_word;
        back = from s (at + 1);
        parts = has.first;
        count = ap length (sym has.first) ∙ left s at;
        begins = (let b = begun_1 1 (omega arith) in (b.0, b.1, (b.2.0, b.2.1, b.2.3)));
        within = record { shallow = tt; few = no_edit 0 };
        counted = inl refl;
        over = λ w. over w.0 w.2.0 w.2.2 w.2.3;
      },
      is ∙ place_is s at (omega arith),
    )
  where
    over : (m : List Symbol) (xs : List EditTree) → AreFew 0 xs → edit_word ∷ m ≡ spell_all spell_edit xs [] → ⊥
    over m [] few e = absurd cc
    over m (x ∷ xs) few e = let none = few.edits in absurd (omega arith)
