use Rattle.std.proofs.Common.{◌-◌, ◌<◌, ◌↔◌, true, IsTrue, List, ap, sym, subst, ◌∙◌, arith}
use Rattle.std.specs.List.{AllByRecursion}
use Rattle.p21_parse.specs.Tree.{Tree}
use Rattle.p21_parse.specs.View.{tree_of, trees_of}
use Rattle.p21_parse.specs.Built.{Fits}
use Rattle.p21_parse.proofs.ViewLemmas.{tree_of-List, tree_of-Typed}
use Rattle.p21_parse.proofs.Fit.{refused_at, unset_fits, derived_fits, list_fits}
use Rattle.p21_parse.proofs.fitting.+fits.Goals as goal

pub all_fit-returns-then-not-fits : goal.all_fit-returns-then-not-fits
all_fit-returns-then-not-fits t c = refused_at tree_of (Fits c.args.most) c.args.params.now c.loop-param.param-index c.param-item.result c.fits.result c.loop-param-test.true c.param-item.is c.if-not-fits.true c.fits.ensures

pub fits-returns-in-List : goal.fits-returns-in-List
fits-returns-in-List t c =
    subst (λ (tree : Tree). IsTrue c.list_fits.result ↔ Fits c.args.most tree) (sym (ap tree_of c.in-List.is ∙ tree_of-List c.in-List.params)) c.list_fits.ensures

pub fits-returns-in-Typed : goal.fits-returns-in-Typed
fits-returns-in-Typed t c =
    subst (λ (tree : Tree). IsTrue c.typed_fits.result ↔ Fits c.args.most tree) (sym (ap tree_of c.in-Typed.is ∙ tree_of-Typed c.in-Typed.word c.in-Typed.params)) c.typed_fits.ensures

pub fits-returns-in-Unset : goal.fits-returns-in-Unset
fits-returns-in-Unset t c = subst (λ (tree : Tree). IsTrue true ↔ Fits c.args.most tree) (sym (ap tree_of c.in-Unset.is)) (unset_fits c.args.most)

pub fits-returns-in-Derived : goal.fits-returns-in-Derived
fits-returns-in-Derived t c = subst (λ (tree : Tree). IsTrue true ↔ Fits c.args.most tree) (sym (ap tree_of c.in-Derived.is)) (derived_fits c.args.most)

pub list_fits-returns : goal.list_fits-returns
list_fits-returns t c =
    let some : 0 < c.args.most = omega arith in
    list_fits c.args.most (trees_of c.args.params.now) c.all_fit.result some (subst (λ (ts : List Tree). IsTrue c.all_fit.result ↔ AllByRecursion (Fits (c.args.most - 1)) ts) c.as_slice.ensures c.all_fit.ensures)
