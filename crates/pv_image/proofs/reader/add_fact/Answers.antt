use Rattle.std.proofs.Common.{◌∙◌, sym, ap, List, [], ◌∷◌, ◌++◌, ℕ}
use Rattle.std.specs.Cmp.{nat_cmp_total}
use Rattle.std.specs.FinMap as fin
use Rattle.pv_text.specs.Facts.{Values}
use Rattle.pv_image.proofs.Order.{absent_last, insert_last}
use Rattle.pv_image.proofs.reader.add_fact.Goals as goal

pub put-requires-clause-new : goal.put-requires-clause-new
put-requires-clause-new c =
    absent_last nat_cmp_total c.args.facts.now c.args.letter (sym (c.requires.last c.args.letter) ∙ sym c.is_after.ensures ∙ c.if-not-is_after.false)

pub returns-clause-added : goal.returns-clause-added
returns-clause-added c =
    let facts = c.args.facts.now in
    ap (λ (m : Values). fin.entries m) c.in_ok-put.ensures.ok
    ∙ insert_last nat_cmp_total facts c.args.letter (sym (c.requires.last c.args.letter) ∙ sym c.is_after.ensures ∙ c.if-not-is_after.false) c.as_slice.result.now
    ∙ ap (λ (v : List ℕ). fin.entries facts ++ (c.args.letter, v) ∷ []) c.as_slice.ensures
