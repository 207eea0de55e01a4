-- Edits of a text one after another, up to its end or to what refuses it.
use Rattle.std.proofs.Common.{◌≡◌, ℕ, suc, ◌-◌, ◌<◌, ◌≤◌, List, [], ◌∷◌, ◌++◌, length, map, drop, Result, Ok, Err, refl, sym, ap, subst, ◌∙◌, length-append, inl, inr, ◌⊎◌, arith}
use Rattle.std.specs.List.{All}
use Rattle.std.proofs.lemmas.List.{length-drop}
use Rattle.std.proofs.lemmas.List.Elements.{recursion_from_All}
use Rattle.p21_lex.specs.declared.token.Token.{Token}
use Rattle.p21_lex.specs.Reading.{IsToken}
use Rattle.p21_lex.specs.Reading as reading
use Rattle.p21_lex.specs.Tokens.{tokens_of}
use Rattle.p21_parse.specs.Symbol.{Symbol, symbols}
use Rattle.p21_parse.specs.Spell.{spell_all}
use Rattle.p21_parse.proofs.Followed.{tokens_few}
use Rattle.p21_parse.proofs.Parting.{greatest_more}
use Rattle.entity_types.specs.declared.edit.Edit.{Edit}
use Rattle.edit_script.specs.declared.error.ScriptErr.{ScriptErr}
use Rattle.edit_script.specs.declared.error.ScriptErr.TheVariants.{Lex, Syntax, TooDeep, TooMany, AtOrder, Repeated, Attribute, NoMemory}
use Rattle.edit_script.specs.declared.source.Source.{Source}
use Rattle.edit_script.specs.declared.gathered.Gathered.{Gathered}
use Rattle.edit_script.specs.Script.{EditTree, moment_of, spell_edit, IsEdit, HasFew, edit_nesting}
use Rattle.edit_script.specs.Refused.{Cause, syntax, too_deep, too_many}
use Rattle.edit_script.specs.Refused as refused
use Rattle.edit_script.specs.Edits.{EditModel, model_of, IsFault, IsFirstFault}
use Rattle.edit_script.specs.Judged.{IsGathered, Finishes}
use Rattle.edit_script.specs.Source.{IsSource, from, IsEditRead, Tells, TellsFrom}
use Rattle.edit_script.specs.Gathering.{IsReadTo, IsReadWhole}
use Rattle.edit_script.specs.Reads.{IsText, HasRefusal, Holds, Refuses, Reads, Gives}
use Rattle.edit_script.proofs.Spelled.{both_edits, all_both}
use Rattle.edit_script.proofs.Lifting.{refused_behind}

pub begun : (s : Source) (g : Gathered) → IsGathered [] g → IsReadTo s 0 g
begun s g gathered = record {
  edits = [];
  inside = omega arith;
  spells = refl;
  allowed = record { grammar = tt; shallow = omega arith; few = record { edits = omega arith; items = tt } };
  gathered = gathered;
}

pub one_more_read : (s : Source) (at next : ℕ) (g h : Gathered) (e : EditTree) (r : IsReadTo s at g) → g.count < 1000 → IsEditRead s at next e → IsGathered (r.edits ++ e ∷ []) h → IsReadTo s next h
one_more_read s at next g h e r lt x gathered =
    let count = r.gathered.count in
    let few = r.allowed.few in
    record {
      edits = r.edits ++ e ∷ [];
      inside = x.inside;
      spells = r.spells ∙ ap (spell_all spell_edit r.edits) x.spells ∙ sym (both_edits r.edits (e ∷ []) (from s next));
      allowed = record {
        grammar = all_both IsEdit r.edits (e ∷ []) r.allowed.grammar (x.grammar, tt);
        shallow = greatest_more edit_nesting r.edits e r.allowed.shallow x.shallow;
        few = record { edits = omega (arith, count, length-append r.edits (e ∷ [])); items = all_both HasFew r.edits (e ∷ []) few.items (x.few, tt) };
      };
      gathered = gathered;
    }

pub all_read : (s : Source) (at : ℕ) (g : Gathered) → length s.tokens.now ≤ at → IsReadTo s at g → IsReadWhole s g
all_read s at g le r = record { edits = r.edits; spells = r.spells ∙ ap (spell_all spell_edit r.edits) nothing_left; allowed = r.allowed; gathered = r.gathered }
  where
    is_nothing : (ts : List Token) → length ts ≤ 0 → symbols s.bytes.now ts ≡ []
    is_nothing [] h = refl
    is_nothing (t ∷ ts) h = absurd (omega arith)

    nothing_left : from s at ≡ []
    nothing_left = is_nothing (drop at s.tokens.now) (omega (arith, length-drop at s.tokens.now))

module _ (s : Source) (at : ℕ) (g : Gathered) (r : IsReadTo s at g) where
  tells_behind : (cause : Cause) (place : ℕ) → Tells s (1000 - length r.edits) at cause place → Tells s 1000 0 cause place
  tells_behind cause place x = (x.0, subst (λ (ss : List Symbol). refused.Refuses 1000 cause ss x.0) (sym r.spells) (refused_behind r.edits 1000 r.allowed cause (from s at) x.0 x.1), x.2)

  told_behind : (e : ScriptErr) → TellsFrom s (1000 - length r.edits) at e → TellsFrom s 1000 0 e
  told_behind (Lex l) x = x
  told_behind (Syntax place) x = tells_behind syntax place x
  told_behind (TooDeep place) x = tells_behind too_deep place x
  told_behind (TooMany place) x = tells_behind too_many place x
  told_behind (AtOrder i) x = x
  told_behind (Repeated i n) x = x
  told_behind (Attribute i n p) x = x
  told_behind NoMemory x = x

  pub full_behind : (e : ScriptErr) → 1000 ≤ g.count → TellsFrom s 0 at e → TellsFrom s 1000 0 e
  full_behind e le x =
      let count = r.gathered.count in
      let none : 0 ≡ 1000 - length r.edits = omega (arith, count) in
      told_behind e (subst (λ (most : ℕ). TellsFrom s most at e) none x)

  pub refused_edit : (e : ScriptErr) → g.count < 1000 → ((most : ℕ) → 0 < most → TellsFrom s most at e) → TellsFrom s 1000 0 e
  refused_edit e lt x = let count = r.gathered.count in told_behind e (x (1000 - length r.edits) (omega (arith, count)))

-- ---- the whole text

pub source_of : (s : Source) → length s.bytes.now ≤ 268435456 → tokens_of s.bytes.now ≡ Ok s.tokens.now → All (IsToken s.bytes.now) s.tokens.now → reading.Reads 0 s.tokens.now s.bytes.now → IsSource s
source_of s short is all reads =
    let inside = recursion_from_All (IsToken s.bytes.now) s.tokens.now all in
    let few = tokens_few s.bytes.now s.tokens.now 0 s.bytes.now inside reads in
    record { short = short; tokens = is; inside = inside; few = omega arith }

-- a fault of an edit
abbrev IsEditFault : ScriptErr → Type 0
IsEditFault (AtOrder i) = Unit {0}
IsEditFault (Repeated i n) = Unit {0}
IsEditFault (Attribute i n p) = Unit {0}
IsEditFault _ = ⊥

fault_of_edit : (index before : ℕ) (e : EditTree) (f : ScriptErr) → IsFault index before e f → IsEditFault f
fault_of_edit index before e (AtOrder i) h = tt
fault_of_edit index before e (Repeated i n) h = tt
fault_of_edit index before e (Attribute i n p) h = tt
fault_of_edit index before e (Lex l) h = h
fault_of_edit index before e (Syntax p) h = h
fault_of_edit index before e (TooDeep p) h = h
fault_of_edit index before e (TooMany p) h = h
fault_of_edit index before e NoMemory h = h

first_of_edit : (index before : ℕ) (es : List EditTree) (f : ScriptErr) → IsFirstFault index before es f → IsEditFault f
first_of_edit index before [] f h = absurd h
first_of_edit index before (e ∷ es) f (inl h) = fault_of_edit index before e f h
first_of_edit index before (e ∷ es) f (inr h) = first_of_edit (suc index) (moment_of e) es f h.2

module _ (s : Source) (ok : IsSource s) (reads : reading.Reads 0 s.tokens.now s.bytes.now) where
  refusal : (cause : Cause) (place : ℕ) → Tells s 1000 0 cause place → HasRefusal s.bytes.now cause place
  refusal cause place x = record { tokens = s.tokens.now; reads = reads; inside = ok.inside; left = x.0; refused = x.1; there = x.2 }

  pub refused_text : (e : ScriptErr) → TellsFrom s 1000 0 e → Reads s.bytes.now (Err e)
  refused_text (Lex l) x = absurd x
  refused_text (Syntax place) x = refusal syntax place x
  refused_text (TooDeep place) x = refusal too_deep place x
  refused_text (TooMany place) x = refusal too_many place x
  refused_text (AtOrder i) x = absurd x
  refused_text (Repeated i n) x = absurd x
  refused_text (Attribute i n p) x = absurd x
  refused_text NoMemory x = tt

  module _ (g : Gathered) (w : IsReadWhole s g) where
    text : IsText s.bytes.now w.edits
    text = record { tokens = s.tokens.now; reads = reads; inside = ok.inside; spells = w.spells; allowed = w.allowed }

    faulty : (f : ScriptErr) → IsEditFault f → IsFirstFault 0 0 w.edits f → Reads s.bytes.now (Err f)
    faulty (AtOrder i) k h = (w.edits, text, h)
    faulty (Repeated i n) k h = (w.edits, text, h)
    faulty (Attribute i n p) k h = (w.edits, text, h)
    faulty (Lex l) k h = absurd k
    faulty (Syntax p) k h = absurd k
    faulty (TooDeep p) k h = absurd k
    faulty (TooMany p) k h = absurd k
    faulty NoMemory k h = absurd k

    pub whole_text : (r : Result (List Edit) ScriptErr) → Finishes w.edits r → Reads s.bytes.now r
    whole_text (Ok script) h = (w.edits, text, h)
    whole_text (Err f) h = faulty f (first_of_edit 0 0 w.edits f h) h

-- ---- both ways

module _ (bytes : List ℕ) (one : (p q : List EditModel) → Holds bytes p → Holds bytes q → p ≡ q) (apart : (p : List EditModel) (e : ScriptErr) → Holds bytes p → Refuses bytes e → ⊥)
    (single : (e f : ScriptErr) → Refuses bytes e → Refuses bytes f → e ≡ f) where
  known : (e : ScriptErr) → Reads bytes (Err e) → (e ≡ NoMemory) ⊎ Refuses bytes e
  known NoMemory x = inl refl
  known (Lex l) x = inr x
  known (Syntax p) x = inr x
  known (TooDeep p) x = inr x
  known (TooMany p) x = inr x
  known (AtOrder i) x = inr x
  known (Repeated i n) x = inr x
  known (Attribute i n p) x = inr x

  said : (e : ScriptErr) (r : Result (List EditModel) ScriptErr) → r ≡ Err e → Gives (Err e) r
  said NoMemory r h = tt
  said (Lex l) r h = h
  said (Syntax p) r h = h
  said (TooDeep p) r h = h
  said (TooMany p) r h = h
  said (AtOrder i) r h = h
  said (Repeated i n) r h = h
  said (Attribute i n p) r h = h

  pub only : (r : Result (List Edit) ScriptErr) → Reads bytes r → (p : List EditModel) → Holds bytes p → Gives r (Ok p)
  only (Ok script) x p h = ap (λ (ms : List EditModel). Ok ms) (one p (map model_of script) h x)
  only (Err e) x p h = by (known e x)
    where
      by : (e ≡ NoMemory) ⊎ Refuses bytes e → Gives (Err e) (Ok p)
      by (inl is) = subst (λ (e : ScriptErr). Gives (Err e) (Ok p)) (sym is) tt
      by (inr f) = absurd (apart p e h f)

  pub refuses : (r : Result (List Edit) ScriptErr) → Reads bytes r → (f : ScriptErr) → Refuses bytes f → Gives r (Err f)
  refuses (Ok script) x f h = absurd (apart (map model_of script) f x h)
  refuses (Err e) x f h = by (known e x)
    where
      by : (e ≡ NoMemory) ⊎ Refuses bytes e → Gives (Err e) (Err f)
      by (inl is) = subst (λ (e : ScriptErr). Gives (Err e) (Err f)) (sym is) tt
      by (inr k) = said e (Err f) (ap (λ (e : ScriptErr). Err e) (single f e h k))
