use Rattle.std.proofs.Common.{◌≡◌, ◌∙◌, ℕ, ◌+◌, ◌<◌, ◌++◌, ◌∷◌, [], List, length, get_or, map, take, sym, ap, subst, append_assoc, arith}
use Rattle.std.specs.List.{range_with_len}
use Rattle.std.proofs.lemmas.List.{take_more}
use Rattle.std.proofs.lemmas.List.FromFn.{map-range_with_len_more}
use Rattle.pv_path.specs.Paths.{Path, parent_of}
use Rattle.pv_explain.proofs.state.add_line.Goals as goal

pub loop-name-preserved : goal.loop-name-preserved
loop-name-preserved c =
    let i = c.loop-name.name-index in
    let dir = parent_of c.args.path.now in
    let name = c.name-item.result in
    let copy = c.in_ok-copy-2.field-0 in
    let items = c.loop-name.invariant.items in
    let within : i < length dir = subst (λ (ns : List (List ℕ)). i < length ns) items c.loop-name-test.true in
    let is : name ≡ get_or dir i name = c.name-item.is ∙ ap (λ (ns : List (List ℕ)). get_or ns i name) items in
    let front : (Path → ℕ → Path) = λ d k. take k d in
    let place : c.push-in-loop-name.new.self ≡ take (i + 1) dir =
    c.in_ok-push-2.ensures.ok
    ∙ ap (λ (q : Path). q ++ copy ∷ []) c.loop-name.invariant.place
    ∙ ap (λ (n : List ℕ). take i dir ++ n ∷ []) (c.in_ok-copy-2.ensures ∙ is)
    ∙ sym (take_more dir i name within)
    in
    let old = c.args.paths.now.items in
    let made : List Path = map (front dir) (range_with_len 1 i) in
    let next : 1 + i ≡ i + 1 = omega arith in
    let more = map-range_with_len_more (front dir) 1 i (i + 1) next in
    record {
      items = items;
      place = place;
      paths =
          c.in_ok-push-3.ensures.items
          ∙ ap (λ (xs : List Path). xs ++ c.in_ok-copy-3.field-0 ∷ []) c.loop-name.invariant.paths
          ∙ ap (λ (q : Path). (old ++ c.args.path.now ∷ made) ++ q ∷ []) (c.in_ok-copy-3.ensures ∙ place)
          ∙ append_assoc old (c.args.path.now ∷ made) (take (i + 1) dir ∷ [])
          ∙ ap (λ (xs : List Path). old ++ c.args.path.now ∷ xs) (sym more);
    }
