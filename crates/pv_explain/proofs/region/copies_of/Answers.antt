use Rattle.std.specs.Prelude.{◌≡◌, ◌+◌, ◌<◌, ◌++◌, ◌∷◌, [], List, length, get_or, take}
use Rattle.std.proofs.Common.{sym, ap, subst, ◌∙◌}
use Rattle.std.proofs.lemmas.List.{take_more}
use Rattle.std.proofs.lemmas.List.Elements.{filter_map-append}
use Rattle.std.specs.List.{cons_option}
use Rattle.pv_lines.specs.declared.line.Line.{Line}
use Rattle.pv_explain.specs.declared.region.Copied.{Copied}
use Rattle.pv_explain.specs.Following.{copies_of, copy_of}
use Rattle.pv_explain.proofs.region.copies_of.Goals as goal

pub loop-line-preserved : goal.loop-line-preserved
loop-line-preserved c =
    let lines = c.args.table.now in
    let items = c.loop-line.invariant.items in
    let i = c.loop-line.line-index in
    let line : Line = c.line-item.result in
    let within : i < length lines = subst (λ (ls : List Line). i < length ls) items c.loop-line-test.true in
    let is : line ≡ get_or lines i line = c.line-item.is ∙ ap (λ (ls : List Line). get_or ls i line) items in
    let more : take (i + 1) lines ≡ take i lines ++ line ∷ [] = take_more lines i line within ∙ ap (λ (x : Line). take i lines ++ x ∷ []) (sym is) in
    record {
      items = items;
      copies =
          c.in_ok-add_copy.ensures
          ∙ ap (λ (xs : List Copied). xs ++ cons_option (copy_of line) []) c.loop-line.invariant.copies
          ∙ sym (ap copies_of more ∙ filter_map-append copy_of (take i lines) (line ∷ []));
    }
