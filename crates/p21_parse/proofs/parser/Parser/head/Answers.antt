use Rattle.std.proofs.Common.{◌≡◌, ◌∷◌, [], ◌++◌, List, map, ap, ◌∙◌}
use Rattle.std.proofs.lemmas.Result.{err_from_is_err_and}
use Rattle.p21_parse.specs.declared.exchange.Part.{Part}
use Rattle.p21_parse.specs.Spell.{spell_entry}
use Rattle.p21_parse.specs.View.{part_of}
use Rattle.p21_parse.proofs.Heading.{head_1, head_2, head_3, head_4, head_read, head_is}
use Rattle.p21_parse.proofs.parser.Parser.head.Goals as goal

pub returns-in_err-description-clause-refused : goal.returns-in_err-description-clause-refused
returns-in_err-description-clause-refused c =
    let p = err_from_is_err_and c.from_residual.result c.from_residual.ensures.1 in
    rw (p.1, p.2) (head_1 c.args.self.now c.args.at c.in_err-description.field-0.0 c.in_err-description.ensures.refused)

pub returns-in_err-name-clause-refused : goal.returns-in_err-name-clause-refused
returns-in_err-name-clause-refused c =
    let p = err_from_is_err_and c.from_residual-in_err-name.result c.from_residual-in_err-name.ensures.1 in
    rw (p.1, p.2) (head_2 c.args.self.now c.args.at c.in_ok-description.behind (spell_entry (part_of c.in_ok-description.description)) c.in_err-name.field-0.0 c.in_ok-description.ensures.read c.in_err-name.ensures.refused)

pub returns-in_err-schema-clause-refused : goal.returns-in_err-schema-clause-refused
returns-in_err-schema-clause-refused c =
    let p = err_from_is_err_and c.from_residual-in_err-schema.result c.from_residual-in_err-schema.ensures.1 in
    rw (p.1, p.2) (head_3 c.args.self.now c.args.at c.in_ok-description.behind c.in_ok-name.after (spell_entry (part_of c.in_ok-description.description)) (spell_entry (part_of c.in_ok-name.name)) c.in_err-schema.field-0.0 c.in_ok-description.ensures.read
    c.in_ok-name.ensures.read c.in_err-schema.ensures.refused)

pub returns-in_err-entries-clause-refused : goal.returns-in_err-entries-clause-refused
returns-in_err-entries-clause-refused c =
    let p = err_from_is_err_and c.from_residual-in_err-entries.result c.from_residual-in_err-entries.ensures.1 in
    rw (p.1, p.2) (head_4 c.args.self.now c.args.at c.in_ok-description.behind c.in_ok-name.after c.in_ok-schema.rest (spell_entry (part_of c.in_ok-description.description)) (spell_entry (part_of c.in_ok-name.name)) (spell_entry (part_of c.in_ok-schema.schema))
    c.in_err-entries.field-0.0 c.in_ok-description.ensures.read c.in_ok-name.ensures.read c.in_ok-schema.ensures.read c.in_err-entries.ensures.refused)

pub returns-clause-read : goal.returns-clause-read
returns-clause-read c =
    let three : c.push-3.new.self ≡ c.in_ok-description.description ∷ c.in_ok-name.name ∷ c.in_ok-schema.schema ∷ [] =
    c.in_ok-push-3.ensures.ok ∙ ap (λ (ps : List Part). ps ++ c.in_ok-schema.schema ∷ []) (c.in_ok-push-2.ensures.ok ∙ ap (λ (ps : List Part). ps ++ c.in_ok-name.name ∷ []) (c.in_ok-push.ensures.ok ∙ ap (λ (ps : List Part). ps ++ c.in_ok-description.description ∷ []) c.new-head.ensures)) in
    head_read c.args.self.now c.args.at c.in_ok-description.behind c.in_ok-name.after c.in_ok-schema.rest c.in_ok-entries.next (part_of c.in_ok-description.description) (part_of c.in_ok-name.name) (part_of c.in_ok-schema.schema) (map part_of c.push-3.new.self)
    (map part_of c.in_ok-entries.entries) (ap (map part_of) three) c.in_ok-description.ensures.read c.in_ok-name.ensures.read c.in_ok-schema.ensures.read c.in_ok-entries.ensures.read

pub returns-clause-is : goal.returns-clause-is
returns-clause-is c =
    let three : c.push-3.new.self ≡ c.in_ok-description.description ∷ c.in_ok-name.name ∷ c.in_ok-schema.schema ∷ [] =
    c.in_ok-push-3.ensures.ok ∙ ap (λ (ps : List Part). ps ++ c.in_ok-schema.schema ∷ []) (c.in_ok-push-2.ensures.ok ∙ ap (λ (ps : List Part). ps ++ c.in_ok-name.name ∷ []) (c.in_ok-push.ensures.ok ∙ ap (λ (ps : List Part). ps ++ c.in_ok-description.description ∷ []) c.new-head.ensures)) in
    head_is c.args.self.now c.args.at c.in_ok-schema.rest c.in_ok-entries.next (part_of c.in_ok-description.description) (part_of c.in_ok-name.name) (part_of c.in_ok-schema.schema) (map part_of c.push-3.new.self) (map part_of c.in_ok-entries.entries)
    (ap (map part_of) three) c.in_ok-description.ensures.is c.in_ok-name.ensures.is c.in_ok-schema.ensures.is c.in_ok-entries.ensures.read
