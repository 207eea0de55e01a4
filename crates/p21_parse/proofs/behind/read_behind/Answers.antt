use Rattle.std.proofs.Common.{true, map, drop, sym, subst, refl, List}
use Rattle.std.specs.List.{AllByRecursion}
use Rattle.std.proofs.lemmas.Result.{err_from_is_err_and}
use Rattle.p21_lex.specs.declared.token.Token.{Token}
use Rattle.p21_lex.specs.Reading.{Reads, IsToken}
use Rattle.p21_parse.specs.View.{instance_of}
use Rattle.p21_parse.proofs.Resuming.{call_found, call_refused}
use Rattle.p21_parse.proofs.behind.read_behind.Goals as goal

pub returns-in_err-tokens-clause-refused : goal.returns-in_err-tokens-clause-refused
returns-in_err-tokens-clause-refused c =
    let p = err_from_is_err_and c.from_residual.result c.from_residual.ensures.1 in
    rw (p.1, p.2) (λ x f numbers. c.in_err-tokens.ensures.refused x f)

pub returns-clause-found : goal.returns-clause-found
returns-clause-found c =
    let bytes = c.args.bytes.now in
    let inside = subst (λ (ts : List Token). AllByRecursion (IsToken bytes) ts) (sym c.as_slice.ensures.value) c.in_ok-tokens.ensures.inside in
    let reads = subst (λ (ts : List Token). Reads c.args.from ts (drop c.args.from bytes)) (sym c.as_slice.ensures.value) c.in_ok-tokens.ensures.found in
    call_found bytes c.args.from (record { bytes = c.args.bytes; tokens = c.as_slice.result }) (record { numbers = c.args.numbers; is_marked = true }) c.requires.from refl inside reads refl (λ items. map instance_of items) c.items_behind.result c.items_behind.ensures.read
    c.items_behind.ensures.fine

pub returns-clause-refused : goal.returns-clause-refused
returns-clause-refused c =
    let bytes = c.args.bytes.now in
    let inside = subst (λ (ts : List Token). AllByRecursion (IsToken bytes) ts) (sym c.as_slice.ensures.value) c.in_ok-tokens.ensures.inside in
    let reads = subst (λ (ts : List Token). Reads c.args.from ts (drop c.args.from bytes)) (sym c.as_slice.ensures.value) c.in_ok-tokens.ensures.found in
    call_refused bytes c.args.from (record { bytes = c.args.bytes; tokens = c.as_slice.result }) (record { numbers = c.args.numbers; is_marked = true }) c.requires.from refl inside reads refl (λ items. map instance_of items) c.items_behind.result c.items_behind.ensures.refused
