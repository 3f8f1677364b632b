use Rattle.pv_lines.specs.ArgumentField.{factory}
use Rattle.std.proofs.lemmas.List.{at_drop_more, at_drop_all, append-nil}
use Rattle.std.specs.List.{flat_map}
use Rattle.std.specs.Prelude.{codes}
use Prim.Native.Char.{code}
use Rattle.std.proofs.Common.{◌≡◌, ℕ, List, [], ◌∷◌, ◌++◌, ◌+◌, sym, ap, ◌∙◌, append_assoc, drop, get_or}
use Rattle.std.proofs.lemmas.Result.{IfOk-from_err}
use Rattle.pv_lines.proofs.argument_field.factory.Goals as goal

pub returns-in_err-text : goal.returns-in_err-text
returns-in_err-text c = IfOk-from_err c.from_residual.result _ c.from_residual.ensures.0

pub returns-in_err-push : goal.returns-in_err-push
returns-in_err-push c = IfOk-from_err c.from_residual-in_err-push.result _ c.from_residual-in_err-push.ensures.0

pub returns-in_err-extend_from_slice : goal.returns-in_err-extend_from_slice
returns-in_err-extend_from_slice c = IfOk-from_err c.from_residual-in_err-extend_from_slice.result _ c.from_residual-in_err-extend_from_slice.ensures.0

-- one more name of the path
extended : (text pushed new name all : List ℕ) (left : List (List ℕ)) → pushed ≡ text ++ code "/" ∷ [] → new ≡ pushed ++ name
    → text ++ flat_map (λ n. code "/" ∷ n) (name ∷ left) ≡ all → new ++ flat_map (λ n. code "/" ∷ n) left ≡ all
extended text pushed new name all left slash ends is =
    let rest = flat_map (λ (n : List ℕ). code "/" ∷ n) left in
    ap (λ (t : List ℕ). t ++ rest) (ends ∙ ap (λ (t : List ℕ). t ++ name) slash) ∙ append_assoc (text ++ code "/" ∷ []) name rest ∙ append_assoc text (code "/" ∷ []) (name ++ rest) ∙ is

pub loop-name-preserved : goal.loop-name-preserved
loop-name-preserved c =
    let items = c.names-name-items.result.now in
    let i = c.loop-name.name-index in
    let name = get_or items i c.name-item.result in
    let text = c.loop-name.text.items in
    extended text c.push.new.self.items c.extend_from_slice.new.self.items name (codes "/usr/share/factory" ++ flat_map (λ n. code "/" ∷ n) items) (drop (i + 1) items)
    c.in_ok-push.ensures.items (c.in_ok-extend_from_slice.ensures.items ∙ ap (λ (n : List ℕ). c.push.new.self.items ++ n) (c.bytes.ensures.value ∙ c.name-item.is))
    (sym (at_drop_more (λ (ns : List (List ℕ)). text ++ flat_map (λ n. code "/" ∷ n) ns) items i c.name-item.result c.loop-name-test.true) ∙ c.loop-name.invariant)

pub returns : goal.returns
returns c =
    let items = c.names-name-items.result.now in
    let text = c.loop-name.text.items in
    c.from_vec.ensures ∙ sym (append-nil text)
    ∙ sym (at_drop_all (λ (ns : List (List ℕ)). text ++ flat_map (λ n. code "/" ∷ n) ns) items c.loop-name.name-index c.loop-name-test.false) ∙ c.loop-name.invariant
    ∙ ap (λ (p : List (List ℕ)). codes "/usr/share/factory" ++ flat_map (λ n. code "/" ∷ n) p) c.names-name-items.ensures.value ∙ ap factory (sym c.in-Literal.is)

pub returns-in_default : goal.returns-in_default
returns-in_default c = c.new.ensures ∙ ap factory (sym c.in_default.is)
