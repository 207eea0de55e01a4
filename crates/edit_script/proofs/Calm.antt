-- What is spelled closes as many parentheses as it opens, and is as shallow as its trees.
use Rattle.std.proofs.Common.{◌≡◌, ℕ, suc, ◌+◌, ◌≤◌, Bool, true, false, List, [], ◌∷◌, refl, ◌∙◌, arith}
use Rattle.p21_parse.specs.Tree.{Tree, one, reference, list, typed, Trees, none, first, PartTree, InstanceTree}
use Rattle.p21_parse.specs.Symbol.{Symbol, closing, semicolon}
use Rattle.p21_parse.specs.Spell.{spell, spell_list, spell_more, spell_all, spell_part, spell_parts, spell_instance}
use Rattle.p21_parse.specs.Nesting.{greatest, nesting, nestings, part_nesting, instance_nesting, open_behind, IsShallow}
use Rattle.edit_script.specs.Script.{EditTree, end_word, spell_edit, edit_nesting}

mutual
  open_tree : (t : Tree) (n : ℕ) (rest : List Symbol) → open_behind false n (spell t rest) ≡ open_behind false n rest
  open_tree (one kind text) n rest = refl
  open_tree (reference number) n rest = refl
  open_tree (list ts) n rest = open_list ts n rest
  open_tree (typed word ts) n rest = open_list ts n rest

  open_list : (ts : Trees) (n : ℕ) (rest : List Symbol) → open_behind false (suc n) (spell_list ts rest) ≡ open_behind false n rest
  open_list none n rest = refl
  open_list (first t ts) n rest = open_tree t (suc n) (spell_more ts rest) ∙ open_more ts n rest

  open_more : (ts : Trees) (n : ℕ) (rest : List Symbol) → open_behind false (suc n) (spell_more ts rest) ≡ open_behind false n rest
  open_more none n rest = refl
  open_more (first t ts) n rest = open_tree t (suc n) (spell_more ts rest) ∙ open_more ts n rest

open_all : (ps : List PartTree) (rest : List Symbol) → open_behind false 0 (spell_all spell_part ps rest) ≡ open_behind false 0 rest
open_all [] rest = refl
open_all (p ∷ ps) rest = open_list p.parameters 0 (spell_all spell_part ps rest) ∙ open_all ps rest

open_parts : (complex : Bool) (ps : List PartTree) (rest : List Symbol) → open_behind true 0 (spell_parts complex ps (semicolon ∷ rest)) ≡ open_behind false 0 rest
open_parts false [] rest = refl
open_parts false (p ∷ ps) rest = open_list p.parameters 0 (spell_all spell_part ps (semicolon ∷ rest)) ∙ open_all ps (semicolon ∷ rest)
open_parts true ps rest = open_all ps (closing ∷ semicolon ∷ rest)

pub open_instances : (items : List InstanceTree) (rest : List Symbol) → open_behind false 0 (spell_all spell_instance items rest) ≡ open_behind false 0 rest
open_instances [] rest = refl
open_instances (i ∷ items) rest = open_parts i.complex i.parts (spell_all spell_instance items rest) ∙ open_instances items rest

pub open_edits : (es : List EditTree) (rest : List Symbol) → open_behind false 0 (spell_all spell_edit es rest) ≡ open_behind false 0 rest
open_edits [] rest = refl
open_edits (e ∷ es) rest = open_instances e.items (end_word ∷ semicolon ∷ spell_all spell_edit es rest) ∙ open_edits es rest

mutual
  shallow_tree : (t : Tree) (n : ℕ) (rest : List Symbol) → n + nesting t ≤ 32 → IsShallow false n rest → IsShallow false n (spell t rest)
  shallow_tree (one kind text) n rest h s = (omega arith, s)
  shallow_tree (reference number) n rest h s = (omega arith, s)
  shallow_tree (list ts) n rest h s = (omega arith, shallow_list ts n rest (omega arith) s)
  shallow_tree (typed word ts) n rest h s = (omega arith, (omega arith, shallow_list ts n rest (omega arith) s))

  shallow_list : (ts : Trees) (n : ℕ) (rest : List Symbol) → suc n + nestings ts ≤ 32 → IsShallow false n rest → IsShallow false (suc n) (spell_list ts rest)
  shallow_list none n rest h s = (omega arith, s)
  shallow_list (first t ts) n rest h s = shallow_tree t (suc n) (spell_more ts rest) (omega arith) (shallow_more ts n rest (omega arith) s)

  shallow_more : (ts : Trees) (n : ℕ) (rest : List Symbol) → suc n + nestings ts ≤ 32 → IsShallow false n rest → IsShallow false (suc n) (spell_more ts rest)
  shallow_more none n rest h s = (omega arith, s)
  shallow_more (first t ts) n rest h s = (omega arith, shallow_tree t (suc n) (spell_more ts rest) (omega arith) (shallow_more ts n rest (omega arith) s))

shallow_all : (ps : List PartTree) (rest : List Symbol) → greatest part_nesting ps ≤ 32 → IsShallow false 0 rest → IsShallow false 0 (spell_all spell_part ps rest)
shallow_all [] rest h s = s
shallow_all (p ∷ ps) rest h s = (omega arith, (omega arith, shallow_list p.parameters 0 (spell_all spell_part ps rest) (omega arith) (shallow_all ps rest (omega arith) s)))

shallow_parts : (complex : Bool) (ps : List PartTree) (rest : List Symbol) → greatest part_nesting ps ≤ 32 → IsShallow false 0 rest → IsShallow true 0 (spell_parts complex ps (semicolon ∷ rest))
shallow_parts false [] rest h s = (omega arith, s)
shallow_parts false (p ∷ ps) rest h s =
    (omega arith, (omega arith, shallow_list p.parameters 0 (spell_all spell_part ps (semicolon ∷ rest)) (omega arith) (shallow_all ps (semicolon ∷ rest) (omega arith) (omega arith, s))))
shallow_parts true ps rest h s = (omega arith, shallow_all ps (closing ∷ semicolon ∷ rest) h (omega arith, (omega arith, s)))

pub shallow_instances : (items : List InstanceTree) (rest : List Symbol) → greatest instance_nesting items ≤ 32 → IsShallow false 0 rest → IsShallow false 0 (spell_all spell_instance items rest)
shallow_instances [] rest h s = s
shallow_instances (i ∷ items) rest h s =
    (omega arith, (omega arith, shallow_parts i.complex i.parts (spell_all spell_instance items rest) (omega arith) (shallow_instances items rest (omega arith) s)))

-- The head of an edit opens nothing.
pub shallow_edit : (e : EditTree) (rest : List Symbol) → edit_nesting e ≤ 32 → IsShallow false 0 rest → IsShallow false 0 (spell_edit e rest)
shallow_edit e rest h s = (omega arith, (omega arith, (omega arith, (omega arith, shallow_instances e.items (end_word ∷ semicolon ∷ rest) h (omega arith, (omega arith, s))))))

pub shallow_edits : (es : List EditTree) (rest : List Symbol) → greatest edit_nesting es ≤ 32 → IsShallow false 0 rest → IsShallow false 0 (spell_all spell_edit es rest)
shallow_edits [] rest h s = s
shallow_edits (e ∷ es) rest h s = shallow_edit e (spell_all spell_edit es rest) (omega arith) (shallow_edits es rest (omega arith) s)
