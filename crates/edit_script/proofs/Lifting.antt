-- What refuses the symbols behind edits refuses all of them.
use Rattle.std.proofs.Common.{ℕ, ◌-◌, false, List, [], ◌∷◌, ◌++◌, length, sym, ap, subst, ◌∙◌}
use Rattle.p21_parse.specs.Symbol.{Symbol, opening}
use Rattle.p21_parse.specs.Spell.{spell_all}
use Rattle.p21_parse.specs.Nesting.{open_behind}
use Rattle.p21_parse.specs.Begins.{Begins}
use Rattle.edit_script.specs.Script.{EditTree, spell_edit, IsScript, IsFewScript, AreAllowed}
use Rattle.edit_script.specs.Refused.{IsWithin, Cause, syntax, too_deep, too_many, Refuses}
use Rattle.edit_script.proofs.Calm.{open_edits, shallow_edits}
use Rattle.edit_script.proofs.Spelled.{longer_edits, script_left, begins_behind, begins_left, few_begins_behind, few_begins_left}

module _ (es : List EditTree) (most : ℕ) (a : AreAllowed most es) where
  abbrev behind : List Symbol → List Symbol
  behind r = spell_all spell_edit es r

  within_behind : (front : List Symbol) → IsWithin (most - length es) front → IsWithin most (behind front)
  within_behind front w = record { shallow = shallow_edits es front a.shallow w.shallow; few = few_begins_behind es a.grammar most a.few front w.few }

  pub refused_behind : (cause : Cause) (ss : List Symbol) (left : ℕ) → Refuses (most - length es) cause ss left → Refuses most cause (behind ss) left
  refused_behind syntax ss left x =
      let s = x.0 in (
        record {
          front = behind s.front;
          back = s.back;
          parts = ap behind s.parts ∙ longer_edits es s.front s.back;
          count = s.count;
          begins = begins_behind es a.grammar s.front s.begins;
          within = within_behind s.front s.within;
          ends = λ t more e b. s.ends t more e (begins_left es a.grammar (s.front ++ t ∷ []) (subst (Begins IsScript) (sym (longer_edits es s.front (t ∷ []))) b));
        },
        λ whole. x.1 (script_left es a.grammar ss whole),
      )
  refused_behind too_deep ss left d = record {
    front = behind d.front;
    back = d.back;
    parts = ap behind d.parts ∙ longer_edits es d.front (opening ∷ d.back);
    count = d.count;
    begins = subst (Begins IsScript) (longer_edits es d.front (opening ∷ [])) (begins_behind es a.grammar (d.front ++ opening ∷ []) d.begins);
    within = within_behind d.front d.within;
    over = ap (open_behind false 0) (sym (longer_edits es d.front (opening ∷ []))) ∙ open_edits es (d.front ++ opening ∷ []) ∙ d.over;
  }
  refused_behind too_many ss left m = record {
    front = behind m.front;
    symbol = m.symbol;
    back = m.back;
    parts = ap behind m.parts ∙ longer_edits es m.front (m.symbol ∷ m.back);
    count = m.count;
    begins = subst (Begins IsScript) (longer_edits es m.front (m.symbol ∷ [])) (begins_behind es a.grammar (m.front ++ m.symbol ∷ []) m.begins);
    within = within_behind m.front m.within;
    counted = m.counted;
    over = λ b. m.over (few_begins_left es a.grammar most a.few (m.front ++ m.symbol ∷ []) (subst (Begins (IsFewScript most)) (sym (longer_edits es m.front (m.symbol ∷ []))) b));
  }
