use Rattle.std.proofs.Common.{◌≡◌, ◌++◌, List, map, subst, sym, ◌∙◌}
use Rattle.std.proofs.lemmas.Result.{err_from_is_err_and}
use Rattle.p21_parse.specs.declared.exchange.Instance.{Instance}
use Rattle.p21_parse.specs.Allowed.{own_number_of}
use Rattle.p21_parse.specs.Front.{with_items}
use Rattle.p21_parse.specs.View.{instance_of}
use Rattle.project_read.specs.Gathered.{IsGathered}
use Rattle.project_read.proofs.Progress.{not_read, text_typed}
use Rattle.project_read.proofs.slices.entities_in.Goals as goal

pub returns-in_err-rest : goal.returns-in_err-rest
returns-in_err-rest c =
    let bytes = c.args.bytes.now in
    let read = c.in_ok-gathered.ensures in
    let numbers : map own_number_of read.exchange.items ≡ c.as_slice.result.now = sym read.gathered.numbers ∙ sym c.as_slice.ensures.value in
    let p = err_from_is_err_and c.from_residual-in_err-rest.result c.from_residual-in_err-rest.ensures.1 in
    rw (p.1, p.2) (not_read bytes c.in_err-rest.field-0.0 c.requires (c.in_err-rest.ensures.refused read.exchange read.front numbers))

pub returns : goal.returns
returns c =
    let bytes = c.args.bytes.now in
    let read = c.in_ok-gathered.ensures in
    let items = map instance_of c.in_ok-rest.rest in
    let numbers : map own_number_of read.exchange.items ≡ c.as_slice.result.now = sym read.gathered.numbers ∙ sym c.as_slice.ensures.value in
    let kept : IsGathered (read.exchange.items ++ items) c.add.new.self =
    subst (λ (is : List Instance). IsGathered (read.exchange.items ++ map instance_of is) c.add.new.self) c.as_slice-2.ensures (c.in_ok-add.ensures read.exchange.items read.gathered) in
    text_typed bytes (with_items read.exchange items) c.finish.result c.requires (c.in_ok-rest.ensures.found read.exchange read.front numbers) (c.finish.ensures (read.exchange.items ++ items) kept)
