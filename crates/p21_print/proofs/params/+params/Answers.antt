use Rattle.std.proofs.Common.{◌∷◌, List, refl, sym, ap, subst, ◌∙◌, arith}
use Rattle.std.proofs.lemmas.Result.{on_ok_weaker}
use Rattle.p21_parse.specs.Tree.{Tree}
use Rattle.p21_parse.specs.Symbol.{Symbol, keyword}
use Rattle.p21_parse.specs.Spell.{spell}
use Rattle.p21_parse.specs.View.{tree_of, trees_of}
use Rattle.p21_print.specs.Appends.{Appends}
use Rattle.p21_print.proofs.Adding.{one, both}
use Rattle.p21_print.proofs.Trees.{tree_of-List, tree_of-Typed, parted}
use Rattle.p21_print.proofs.Sizes.{one_smaller, other_smaller, list_smaller, typed_smaller}
use Rattle.p21_print.proofs.Listing.{in_parentheses, nothing_in, opened, one_other, shut}
use Rattle.p21_print.proofs.params.+params.Goals as goal

pub put_list-returns-in_default : goal.put_list-returns-in_default
put_list-returns-in_default t c =
    on_ok_weaker c.put.result (nothing_in c.as_slice.result.now (trees_of c.args.params.now) c.args.out.now.items c.put.new.out.items c.as_slice.ensures c.in_default.len_below) c.put.ensures

pub put_list-put_param-requires : goal.put_list-put_param-requires
put_list-put_param-requires t c =
    (omega (arith, one_smaller c.as_slice.result.now (trees_of c.args.params.now) 0 c.first-item.result c.as_slice.ensures c.in-len1-up.len_at_least c.first-item.is), tt)

pub put_list-loop-param-init : goal.put_list-loop-param-init
put_list-loop-param-init t c =
    opened c.as_slice.result.now _ c.first-item.result (trees_of c.args.params.now) c.args.out.now.items c.put-2.new.out.items c.put_param.new.out.items c.as_slice.ensures
    (parted c.as_slice.result.now c.first-item.result c.in-len1-up.len_at_least c.first-item.is) c.in_ok-put.ensures c.in_ok-put_param.ensures

pub put_list-put_param-requires-in-loop-param : goal.put_list-put_param-requires-in-loop-param
put_list-put_param-requires-in-loop-param t c =
    let parts = parted c.as_slice.result.now c.first-item.result c.in-len1-up.len_at_least c.first-item.is in
    (omega (arith, other_smaller c.as_slice.result.now _ c.first-item.result (trees_of c.args.params.now) c.loop-param.param-index c.param-item.result c.as_slice.ensures parts c.loop-param-test.true c.param-item.is), tt)

pub put_list-loop-param-preserved : goal.put_list-loop-param-preserved
put_list-loop-param-preserved t c =
    one_other _ c.loop-param.param-index c.param-item.result (in_parentheses (trees_of c.args.params.now)) c.args.out.now.items c.loop-param.out.items c.put-in-loop-param.new.out.items c.put_param-in-loop-param.new.out.items
    c.loop-param-test.true c.param-item.is c.loop-param.invariant c.in_ok-put-2.ensures c.in_ok-put_param-2.ensures

pub put_list-returns : goal.put_list-returns
put_list-returns t c =
    on_ok_weaker c.put-3.result (shut _ c.loop-param.param-index (in_parentheses (trees_of c.args.params.now)) c.args.out.now.items c.loop-param.out.items c.put-3.new.out.items c.loop-param-test.false c.loop-param.invariant) c.put-3.ensures

pub put_param-put_list-requires : goal.put_param-put_list-requires
put_param-put_list-requires t c = (omega (arith, list_smaller c.args.param.now c.in-List.params c.in-List.is), tt)

pub put_param-put_list-requires-in-Typed : goal.put_param-put_list-requires-in-Typed
put_param-put_list-requires-in-Typed t c = (omega (arith, typed_smaller c.args.param.now c.in-Typed.keyword c.in-Typed.params c.in-Typed.is), tt)

pub put_param-returns-in-List : goal.put_param-returns-in-List
put_param-returns-in-List t c =
    let is = ap tree_of c.in-List.is ∙ tree_of-List c.in-List.params in
    on_ok_weaker c.put_list.result (λ h. subst (λ (u : Tree). Appends (spell u) c.args.out.now.items c.put_list.new.out.items) (sym is) h) c.put_list.ensures

pub put_param-returns-in_ok-put-in-Typed : goal.put_param-returns-in_ok-put-in-Typed
put_param-returns-in_ok-put-in-Typed t c =
    let word = c.in-Typed.keyword in
    let old = c.args.out.now.items in
    let mid = c.put-in-Typed.new.out.items in
    let new = c.put_list-in-Typed.new.out.items in
    let is = ap tree_of c.in-Typed.is ∙ tree_of-Typed word c.in-Typed.params in
    let put = one (keyword word) word old mid refl (rw c.bytes-in-Typed.ensures at c.in_ok-put-in-Typed.ensures) in
    on_ok_weaker c.put_list-in-Typed.result
    (λ h. subst (λ (u : Tree). Appends (spell u) old new) (sym is) (both (λ (rest : List Symbol). keyword word ∷ rest) (in_parentheses (trees_of c.in-Typed.params)) old mid new put h)) c.put_list-in-Typed.ensures
