use Rattle.std.proofs.Common.{◌≡◌, ◌++◌, ◌∷◌, [], ◌-◌, true, false, refl, sym, ap, ◌∙◌, length, take, arith}
use Rattle.std.proofs.lemmas.List.{nil_from_length}
use Rattle.pv_path.specs.Paths.{Path, same_path}
use Rattle.pv_steps.specs.Trees.{child_name}
use Rattle.pv_walk.proofs.WholeLaws.{last_parts, name_in_other, name_in_own, root_in_none}
use Rattle.pv_walk.proofs.known_child.name_below.Goals as goal

pub returns-in-empty : goal.returns-in-empty
returns-in-empty c =
    let none : c.names.result.now ≡ [] = nil_from_length c.names.result.now (omega (arith, c.in-empty.len_below)) in
    sym (ap (child_name c.args.path.now) (sym c.names.ensures.value ∙ none) ∙ root_in_none c.args.path.now)

pub returns-then-eq : goal.returns-then-eq
returns-then-eq c =
    let names = c.names.result.now in
    let above = take (length names - 1) names in
    let is : c.args.other.now ≡ above ++ c.name-item.result ∷ [] = last_parts c.args.other.now names above c.name-item.result c.names.ensures.value c.in-len1-up.len_at_least c.name-item.is refl in
    let same : same_path c.args.path.now above ≡ true = ap (λ (p : Path). same_path p above) (sym c.names-in-len1-up.ensures.value) ∙ sym c.eq.ensures ∙ c.if-eq.true in
    name_in_own c.args.path.now c.args.other.now above c.name-item.result is same

pub returns-else-eq : goal.returns-else-eq
returns-else-eq c =
    let names = c.names.result.now in
    let above = take (length names - 1) names in
    let is : c.args.other.now ≡ above ++ c.name-item.result ∷ [] = last_parts c.args.other.now names above c.name-item.result c.names.ensures.value c.in-len1-up.len_at_least c.name-item.is refl in
    let apart : same_path c.args.path.now above ≡ false = ap (λ (p : Path). same_path p above) (sym c.names-in-len1-up.ensures.value) ∙ sym c.eq.ensures ∙ c.if-eq.false in
    name_in_other c.args.path.now c.args.other.now above c.name-item.result is apart
