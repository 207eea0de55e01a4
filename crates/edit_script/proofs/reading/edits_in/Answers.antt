use Rattle.std.proofs.Common.{◌≡◌, List, Ok, subst, sym}
use Rattle.std.proofs.lemmas.Result.{err_from_is_err_and}
use Rattle.p21_lex.specs.declared.token.Token.{Token}
use Rattle.p21_lex.specs.Tokens.{tokens_of}
use Rattle.edit_script.specs.declared.source.Source.{Source}
use Rattle.edit_script.specs.Source.{IsSource}
use Rattle.edit_script.proofs.Gathering.{source_of, refused_text, whole_text}
use Rattle.edit_script.proofs.reading.edits_in.Goals as goal

pub gather-requires : goal.gather-requires
gather-requires c =
    let s : Source = record { bytes = c.args.bytes; tokens = c.as_slice-tokens.result } in
    source_of s c.requires (subst (λ (ts : List Token). tokens_of c.args.bytes.now ≡ Ok ts) (sym c.as_slice-tokens.ensures.value) c.in_ok-found.ensures.exact) c.tokens_fit.ensures.inside c.tokens_fit.ensures.found

pub returns-in_err-gathered : goal.returns-in_err-gathered
returns-in_err-gathered c =
    let s : Source = record { bytes = c.args.bytes; tokens = c.as_slice-tokens.result } in
    let ok : IsSource s =
    source_of s c.requires (subst (λ (ts : List Token). tokens_of c.args.bytes.now ≡ Ok ts) (sym c.as_slice-tokens.ensures.value) c.in_ok-found.ensures.exact) c.tokens_fit.ensures.inside c.tokens_fit.ensures.found in
    let p = err_from_is_err_and c.from_residual-in_err-gathered.result c.from_residual-in_err-gathered.ensures.1 in
    rw (p.1, p.2) (refused_text s ok c.tokens_fit.ensures.found c.in_err-gathered.field-0.0 c.in_err-gathered.ensures.refused)

pub returns : goal.returns
returns c =
    let s : Source = record { bytes = c.args.bytes; tokens = c.as_slice-tokens.result } in
    let ok : IsSource s =
    source_of s c.requires (subst (λ (ts : List Token). tokens_of c.args.bytes.now ≡ Ok ts) (sym c.as_slice-tokens.ensures.value) c.in_ok-found.ensures.exact) c.tokens_fit.ensures.inside c.tokens_fit.ensures.found in
    let w = c.in_ok-gathered.ensures.read in
    whole_text s ok c.tokens_fit.ensures.found c.in_ok-gathered.gathered w c.finish.result (c.finish.ensures w.edits w.gathered)
