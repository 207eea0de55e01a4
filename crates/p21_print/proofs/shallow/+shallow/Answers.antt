use Rattle.std.proofs.Common.{◌↔◌, ◌≤◌, ◌<◌, ◌-◌, IsTrue, List, ap, sym, subst, ◌∙◌, arith}
use Rattle.std.specs.List.{AllByRecursion}
use Rattle.p21_parse.specs.Tree.{Tree}
use Rattle.p21_parse.specs.Nesting.{nesting}
use Rattle.p21_parse.specs.View.{tree_of, trees_of}
use Rattle.p21_parse.proofs.Fit.{refused_at}
use Rattle.p21_parse.proofs.ViewLemmas.{tree_of-List, tree_of-Typed}
use Rattle.p21_print.proofs.ShallowLemmas.{list_shallow}
use Rattle.p21_print.proofs.shallow.+shallow.Goals as goal

pub are_shallow-returns-then-not-is_shallow : goal.are_shallow-returns-then-not-is_shallow
are_shallow-returns-then-not-is_shallow t c =
    refused_at tree_of (λ u. nesting u ≤ c.args.most) c.args.params.now c.loop-param.param-index c.param-item.result c.is_shallow.result c.loop-param-test.true c.param-item.is c.if-not-is_shallow.true c.is_shallow.ensures

pub is_shallow-returns-in-List : goal.is_shallow-returns-in-List
is_shallow-returns-in-List t c =
    subst (λ (tree : Tree). IsTrue c.list_is_shallow.result ↔ (nesting tree ≤ c.args.most)) (sym (ap tree_of c.in-List.is ∙ tree_of-List c.in-List.params)) c.list_is_shallow.ensures

pub is_shallow-returns-in-Typed : goal.is_shallow-returns-in-Typed
is_shallow-returns-in-Typed t c =
    subst (λ (tree : Tree). IsTrue c.list_is_shallow-in-Typed.result ↔ (nesting tree ≤ c.args.most)) (sym (ap tree_of c.in-Typed.is ∙ tree_of-Typed c.in-Typed.field-0 c.in-Typed.params)) c.list_is_shallow-in-Typed.ensures

pub list_is_shallow-returns : goal.list_is_shallow-returns
list_is_shallow-returns t c =
    let some : 0 < c.args.most = omega arith in
    list_shallow c.args.most (trees_of c.args.params.now) c.are_shallow.result some (subst (λ (ts : List Tree). IsTrue c.are_shallow.result ↔ AllByRecursion (λ u. nesting u ≤ c.args.most - 1) ts) c.as_slice.ensures c.are_shallow.ensures)
