use Rattle.std.proofs.Common.{subst}
use Rattle.p21_lex.specs.Tokens.{Gives}
use Rattle.p21_lex.proofs.Loop.{from_start}
use Rattle.p21_lex.proofs.Places.{is_found, is_only, is_inside, is_ordered}
use Rattle.p21_lex.proofs.Refusals.{call_refused, call_refuses}
use Rattle.p21_lex.proofs.lexer.tokens.Goals as goal

pub returns-clause-found : goal.returns-clause-found
returns-clause-found c = is_found c.args.bytes.now c.all.result (subst (λ said. Gives (λ v. v.items) c.all.result said) (from_start c.args.bytes.now) c.all.ensures)

pub returns-clause-only : goal.returns-clause-only
returns-clause-only c = is_only c.args.bytes.now c.all.result (subst (λ said. Gives (λ v. v.items) c.all.result said) (from_start c.args.bytes.now) c.all.ensures)

pub returns-clause-inside : goal.returns-clause-inside
returns-clause-inside c = is_inside c.args.bytes.now c.all.result (subst (λ said. Gives (λ v. v.items) c.all.result said) (from_start c.args.bytes.now) c.all.ensures)

pub returns-clause-ordered : goal.returns-clause-ordered
returns-clause-ordered c = is_ordered c.args.bytes.now c.all.result (subst (λ said. Gives (λ v. v.items) c.all.result said) (from_start c.args.bytes.now) c.all.ensures)

pub returns-clause-refused : goal.returns-clause-refused
returns-clause-refused c = call_refused c.args.bytes.now c.all.result (subst (λ said. Gives (λ v. v.items) c.all.result said) (from_start c.args.bytes.now) c.all.ensures)

pub returns-clause-refuses : goal.returns-clause-refuses
returns-clause-refuses c = call_refuses c.args.bytes.now c.all.result (subst (λ said. Gives (λ v. v.items) c.all.result said) (from_start c.args.bytes.now) c.all.ensures)

pub returns-clause-exact : goal.returns-clause-exact
returns-clause-exact c = subst (λ said. Gives (λ v. v.items) c.all.result said) (from_start c.args.bytes.now) c.all.ensures
