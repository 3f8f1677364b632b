use Rattle.std.proofs.Common.{◌≡◌, List, [], get_or, sym, ap, ◌∙◌}
use Rattle.std.proofs.lemmas.List.{get_or_read}
use Rattle.pv_glob.specs.declared.element.Element.{Element}
use Rattle.pv_glob.specs.Matching.{component_matches}
use Rattle.pv_glob.proofs.Reaches.{apart_shares}
use Rattle.pv_glob.proofs.meeting.some_apart.Goals as goal

pub returns-then-are_apart : goal.returns-then-are_apart
returns-then-are_apart c = λ _.
    let a = c.args.a.now in let b = c.args.b.now in let i = c.loop-i.i in
    let left : c.as_slice.result.now ≡ get_or a i [] = c.as_slice.ensures ∙ get_or_read a i c.index-a-i.result c.loop-i-test.true c.index-a-i.is [] in
    let right : c.as_slice-then-i-b.result.now ≡ get_or b i [] = c.as_slice-then-i-b.ensures ∙ get_or_read b i c.index-b-i.result c.if-i-b.true c.index-b-i.is [] in (
      i,
      c.loop-i-test.true,
      c.if-i-b.true,
      λ name. apart_shares (get_or a i []) (get_or b i []) name
          (λ e. ap (λ (x : List Element). component_matches x name) (sym right)
          ∙ c.are_apart.ensures c.if-are_apart.true name (ap (λ (x : List Element). component_matches x name) left ∙ e)),
    )
