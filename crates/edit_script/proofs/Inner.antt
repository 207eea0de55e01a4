-- What refuses the instances behind the head of an edit refuses the edit.
use Rattle.std.proofs.Common.{◌≡◌, ℕ, zero, suc, ◌+◌, ◌<◌, true, List, [], ◌∷◌, ◌++◌, length, map, drop, refl, sym, ap, subst, ◌∙◌, append_assoc, append-nil, length-append, inl, inr, ◌⊎◌, IsTrue, arith}
use Rattle.std.specs.List.{AllByRecursion}
use Rattle.std.proofs.lemmas.List.{length-map}
use Rattle.p21_lex.specs.declared.token.Token.{Token}
use Rattle.p21_lex.specs.Reading.{IsToken}
use Rattle.p21_parse.specs.Symbol.{Symbol, name, opening, semicolon}
use Rattle.p21_parse.specs.Spell.{spell_all, spell_instance}
use Rattle.p21_parse.specs.Grammar.{IsInstance, AreInstances}
use Rattle.p21_parse.specs.Numbers.{numbers_in, is_behind}
use Rattle.p21_parse.specs.Begins.{IsSymbol, Begins, StopsAt, DeepAt, ManyAt}
use Rattle.p21_parse.specs.Places as places
use Rattle.p21_parse.specs.Refused.{list_numbers, IsWithinList, RefusedFrom}
use Rattle.p21_parse.specs.Allowed.{own_number_of}
use Rattle.p21_parse.proofs.Named.{symbols_real, real_front, real_back, begins_front}
use Rattle.p21_parse.proofs.Owned.{instances_numbers, numbers_append}
use Rattle.p21_parse.proofs.Appends.{longer_instances}
use Rattle.edit_script.specs.declared.source.Source.{Source}
use Rattle.edit_script.specs.Source.{from, AreInside, IsHead, Tells}
use Rattle.edit_script.specs.Script.{EditTree, end_word, is_moment, spell_edit, IsScript, HasFew, IsFewScript}
use Rattle.edit_script.specs.Refused.{IsWithin, syntax, too_deep, too_many, Refuses}
use Rattle.edit_script.proofs.Headed.{headed, opened, begins_headed, few_headed, not_past, Inside, AtEnd, meets, opening_real}

module _ (digits : List ℕ) (is : IsTrue (is_moment digits)) (most : ℕ) (some : 0 < most) (inner : List Symbol) (real : AllByRecursion IsSymbol inner) where
  within_headed : (f : List Symbol) → Begins AreInstances f → IsWithinList 1000 f → IsWithin most (headed digits f)
  within_headed f b w = record {
    shallow = (omega arith, (omega arith, (omega arith, (omega arith, w.shallow))));
    few = few_headed digits is most f some b w.few;
  }

  -- Instances go on with a symbol, if a script does behind them.
  module _ (front : List Symbol) (b : Begins AreInstances front) (not_end : AreInstances front → ⊥) where
    instances_go_on : (s : Symbol) (m : List Symbol) → AllByRecursion IsSymbol m → IsScript (headed digits (front ++ s ∷ m)) → Begins AreInstances (front ++ s ∷ [])
    instances_go_on s m m_real w =
        let o = opened digits (front ++ s ∷ m) w.0 w.1 w.2 in
        let rest : List Symbol = semicolon ∷ spell_all spell_edit o.others [] in
        by_meeting o.edit rest (o.grammar.items) (meets front s m o.edit.items rest b o.spells)
      where
        by_meeting : (e : EditTree) (rest : List Symbol) → AllByRecursion IsInstance e.items → Inside front s m e.items rest ⊎ AtEnd front s e.items → Begins AreInstances (front ++ s ∷ [])
        by_meeting e rest ok (inl i) =
            (i.mid, real_front i.mid (end_word ∷ rest) (subst (AllByRecursion IsSymbol) i.left m_real), (e.items, ok, append_assoc front (s ∷ []) i.mid ∙ sym i.whole))
        by_meeting e rest ok (inr a) = absurd (not_end (e.items, ok, a.whole))

    no_script : (back : List Symbol) → inner ≡ front ++ back → ((s : Symbol) (more : List Symbol) → back ≡ s ∷ more → Begins AreInstances (front ++ s ∷ []) → ⊥) → IsScript (headed digits inner) → ⊥
    no_script [] parts ends w =
        let o = opened digits inner w.0 w.1 w.2 in
        not_past front b o.edit.items (semicolon ∷ spell_all spell_edit o.others []) (sym (append-nil front) ∙ sym parts ∙ o.spells ∙ longer_instances o.edit.items [] (end_word ∷ semicolon ∷ spell_all spell_edit o.others []))
    no_script (s ∷ more) parts ends w =
        let back_real = real_back front (s ∷ more) (subst (AllByRecursion IsSymbol) parts real) in
        ends s more refl (instances_go_on s more back_real.1 (subst (λ (r : List Symbol). IsScript (headed digits r)) parts w))

  pub inner_syntax : (left : ℕ) (x : StopsAt AreInstances (IsWithinList 1000) inner left) → (AreInstances x.front → ⊥) → Refuses most syntax (headed digits inner) left
  inner_syntax left x not_end = (
    record {
      front = headed digits x.front;
      back = x.back;
      parts = ap (headed digits) x.parts;
      count = x.count;
      begins = begins_headed digits is x.front x.begins;
      within = within_headed x.front x.begins x.within;
      ends = λ s more e w. x.ends s more e (instances_go_on x.front x.begins not_end s w.0 w.1 (subst (λ (r : List Symbol). IsScript (headed digits r)) (append_assoc x.front (s ∷ []) w.0) w.2));
    },
    no_script x.front x.begins not_end x.back x.parts x.ends,
  )

  pub inner_deep : (left : ℕ) → DeepAt AreInstances (IsWithinList 1000) inner left → Refuses most too_deep (headed digits inner) left
  inner_deep left d = record {
    front = headed digits d.front;
    back = d.back;
    parts = ap (headed digits) d.parts;
    count = d.count;
    begins = begins_headed digits is (d.front ++ opening ∷ []) d.begins;
    within = within_headed d.front (begins_front AreInstances d.front (opening ∷ []) (opening_real, tt) d.begins) d.within;
    over = d.over;
  }

  pub inner_many : (left : ℕ) → ManyAt AreInstances (IsWithinList 1000) list_numbers 1000 inner left → Refuses most too_many (headed digits inner) left
  inner_many left m =
      let name_real = (real_back m.front (name m.number ∷ m.back) (subst (AllByRecursion IsSymbol) m.parts real)).0 in
      let begins_before : Begins AreInstances m.front = begins_front AreInstances m.front (name m.number ∷ []) (name_real, tt) m.begins in
      record {
        front = headed digits m.front;
        symbol = name m.number;
        back = m.back;
        parts = ap (headed digits) m.parts;
        count = m.count;
        begins = begins_headed digits is (m.front ++ name m.number ∷ []) m.begins;
        within = within_headed m.front begins_before m.within;
        counted = inr (m.number, refl);
        over = λ w. too_few m.front m.number begins_before m.over w;
      }
    where
      too_few : (front : List Symbol) (n : ℕ) → Begins AreInstances front → 1000 < length (list_numbers (front ++ name n ∷ [])) → Begins (IsFewScript most) (headed digits (front ++ name n ∷ [])) → ⊥
      too_few front n b over w =
          let k = w.2 in
          let o = opened digits ((front ++ name n ∷ []) ++ w.0) k.0 k.1 k.3 in
          let few : AllByRecursion HasFew (o.edit ∷ o.others) = subst (AllByRecursion HasFew) o.is k.2.items in
          let rest : List Symbol = semicolon ∷ spell_all spell_edit o.others [] in
          by_meeting o.edit rest few.0 (meets front (name n) w.0 o.edit.items rest b (sym (append_assoc front (name n ∷ []) w.0) ∙ o.spells))
        where
          by_meeting : (e : EditTree) (rest : List Symbol) → HasFew e → Inside front (name n) w.0 e.items rest ⊎ AtEnd front (name n) e.items → ⊥
          by_meeting e rest few (inl i) =
              let f : List Symbol = front ++ name n ∷ [] in
              let whole : spell_all spell_instance e.items [] ≡ f ++ i.mid = i.whole ∙ sym (append_assoc front (name n ∷ []) i.mid) in
              let numbers : map own_number_of e.items ++ [] ≡ list_numbers f ++ numbers_in (is_behind true f) i.mid = sym (instances_numbers e.items []) ∙ ap list_numbers whole ∙ numbers_append true f i.mid in
              let long = ap length numbers in
              absurd (omega (arith, long, over, few, length-append (map own_number_of e.items) [], length-map e.items own_number_of, length-append (list_numbers f) (numbers_in (is_behind true f) i.mid)))
          by_meeting e rest few (inr a) = let word : name n ≡ end_word = a.is in absurd cc

-- ---- from the tokens on

all_drop : (bytes : List ℕ) (at : ℕ) (tokens : List Token) → AllByRecursion (IsToken bytes) tokens → AllByRecursion (IsToken bytes) (drop at tokens)
all_drop bytes zero tokens h = h
all_drop bytes (suc at) [] h = tt
all_drop bytes (suc at) (t ∷ tokens) h = all_drop bytes at tokens h.1

module _ (s : Source) (at moment : ℕ) (here : AreInside s) (h : IsHead s at moment) (place most : ℕ) (some : 0 < most) where
  real_inner : AllByRecursion IsSymbol (from s (at + 4))
  real_inner = symbols_real s.bytes.now (drop (at + 4) s.tokens.now) (all_drop s.bytes.now (at + 4) s.tokens.now here)

  pub told_syntax : RefusedFrom s.bytes.now s.tokens.now (at + 4) 1000 (places.syntax place) → Tells s most at syntax place
  told_syntax x = (x.0, subst (λ (ss : List Symbol). Refuses most syntax ss x.0) (sym h.spells) (inner_syntax h.digits h.is most some (from s (at + 4)) real_inner x.0 x.1 x.2), x.3)

  pub told_deep : RefusedFrom s.bytes.now s.tokens.now (at + 4) 1000 (places.too_deep place) → Tells s most at too_deep place
  told_deep x = (x.0, subst (λ (ss : List Symbol). Refuses most too_deep ss x.0) (sym h.spells) (inner_deep h.digits h.is most some (from s (at + 4)) real_inner x.0 x.1), x.2)

  pub told_many : RefusedFrom s.bytes.now s.tokens.now (at + 4) 1000 (places.too_many place) → Tells s most at too_many place
  told_many x = (x.0, subst (λ (ss : List Symbol). Refuses most too_many ss x.0) (sym h.spells) (inner_many h.digits h.is most some (from s (at + 4)) real_inner x.0 x.1), x.2)
