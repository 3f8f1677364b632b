use Rattle.std.proofs.Common.{◌≡◌, ◌∙◌, ◌+◌, ◌<◌, ◌++◌, ◌∷◌, [], ℕ, List, length, take, get_or, append_assoc, sym, ap, subst}
use Rattle.std.proofs.lemmas.List.{append-nil, take_all, take_more}
use Rattle.std.proofs.lemmas.Result.{IfOk-from_err}
use Rattle.pv_path.specs.Paths.{Path}
use Rattle.pv_folder.specs.Content.{spelled}
use Rattle.pv_folder.specs.Folders.{tree_path}
use Rattle.pv_folder.proofs.host_path.host_path.Goals as goal

-- one more name
one_more : (top path items : Path) (i : ℕ) (n d : List ℕ) → items ≡ path → i < length items → n ≡ get_or items i d → (top ++ take i path) ++ n ∷ [] ≡ top ++ take (i + 1) path
one_more top path items i n d same below is =
    subst (λ (ns : Path). (top ++ take i ns) ++ n ∷ [] ≡ top ++ take (i + 1) ns) same
    (append_assoc top (take i items) (n ∷ []) ∙ ap (λ (ns : Path). top ++ ns) (ap (λ (m : List ℕ). take i items ++ m ∷ []) is ∙ sym (take_more items i d below)))

pub returns-in_err-bytes : goal.returns-in_err-bytes
returns-in_err-bytes c = IfOk-from_err c.from_residual.result _ c.from_residual.ensures.0

pub returns-in_err-add_name : goal.returns-in_err-add_name
returns-in_err-add_name c = IfOk-from_err c.from_residual-in_err-add_name.result _ c.from_residual-in_err-add_name.ensures.0

pub loop-name-init : goal.loop-name-init
loop-name-init c = c.in_ok-bytes.ensures ∙ sym (append-nil (tree_path (spelled c.args.folder.now)))

pub loop-name-preserved : goal.loop-name-preserved
loop-name-preserved c =
    c.in_ok-add_name.ensures ∙ ap (λ (ns : Path). ns ++ c.bytes.result.now ∷ []) c.loop-name.invariant
    ∙ one_more (tree_path (spelled c.args.folder.now)) c.args.path.now c.names-name-items.result.now c.loop-name.name-index c.bytes.result.now c.name-item.result
    c.names-name-items.ensures.value c.loop-name-test.true (c.bytes.ensures.value ∙ c.name-item.is)

pub returns : goal.returns
returns c =
    c.loop-name.invariant ∙ ap (λ (ns : Path). tree_path (spelled c.args.folder.now) ++ ns)
    (subst (λ (ns : Path). take c.loop-name.name-index ns ≡ ns) c.names-name-items.ensures.value (take_all c.loop-name.name-index c.names-name-items.result.now c.loop-name-test.false))
